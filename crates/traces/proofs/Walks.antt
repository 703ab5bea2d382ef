-- The cursor from path to path: where the next starts, and the first fault of each kind. Assumes nothing.
use Prim.Native.Nat.{ℕ, ◌+◌, ◌≤◌, ◌<◌}
use mathlib.Core.Path.{◌≡◌, refl, sym, ap, subst, ◌∙◌}
use mathlib.Core.Bool.{Bool, true, not}
use mathlib.Core.List.{List}
use native.Mathlib.Nat.{le_refl}
use native.Mathlib.Numerals.{add-one}
use native.Mathlib.Decide.{le_ind, dec_lt}
use native.Mathlib.Omega.{arith}
use lib.ListN.{length}
use Rattle.std.specs.Prelude.{Option, None, Some}
use Rattle.model.specs.Loops.{all_below, first_below}
use Rattle.model.specs.Image.{byte_at}
use Rattle.model.specs.Traces.{in_path, path_start, place_count, step_count, place_at, place_named, step_allowed}
use Rattle.model.proofs.Loops.{all_at, all_of}
use Rattle.model.proofs.Status.{is_node_lem}
use Rattle.model.proofs.Traces.{in_paths_lem}
use Rattle.trace_reading.specs.Read.{CountRight}
use Rattle.traces.specs.Faults.{fault_in}
use Rattle.traces.specs.Paths.{Stands, PathNamed}
use Rattle.traces.specs.Walked.{Walked, started}
use Rattle.traces.specs.declared.cursor.Cursor.{Cursor}
use Rattle.traces.specs.declared.fault.Fault.{Fault}
use Rattle.traces.proofs.Faults.{fault_zero, none_fails, none_faulty, fault_kept, fault_none, fault_next}

-- ---- where paths start

module _ (trace : List ℕ) where
  pub start_next : (p : ℕ) → path_start trace (p + 1) ≡ path_start trace p + 1 + place_count trace p
  unfolding path_start
  start_next p = ap (path_start trace) (add-one p)

  pub start_rises : (p q : ℕ) → p ≤ q → path_start trace p ≤ path_start trace q
  unfolding path_start
  start_rises p q = le_ind (λ (n : ℕ). path_start trace p ≤ path_start trace n) (le_refl (path_start trace p)) (λ n g h. omega (arith, h)) q

-- ---- the first fault, as the code goes on with o, which it found in n paths; m is how many places or
-- steps the next has

module _ (size : ℕ → ℕ) (test : ℕ → ℕ → Bool) (n : ℕ) (o : Option Fault) (e : o ≡ fault_in n size test) where
  pub keeps : (f : Fault) → o ≡ Some f → Some f ≡ fault_in (n + 1) size test
  keeps f some = fault_kept size test n f (sym e ∙ some)

  module _ (none : o ≡ None) (m : ℕ) (em : m ≡ size n) where
    pub finds_none : all_below m (test n) ≡ true → None ≡ fault_in (n + 1) size test
    unfolding in_path
    finds_none q = fault_none size test n (sym e ∙ none) (ap (λ (m : ℕ). all_below m (test n)) (sym em) ∙ q)

    pub finds : (k : ℕ) → (k < m) × (k ≡ first_below m (λ k. not (test n k))) → Some (record { path = n + 1; place = k + 1 }) ≡ fault_in (n + 1) size test
    finds k found =
        fault_next size test n (sym e ∙ none) k (omega (arith, found.0)) (found.1 ∙ ap (λ (m : ℕ). first_below m (λ k. not (test n k))) em)

-- none in one path more, none before
none_before : (size : ℕ → ℕ) (test : ℕ → ℕ → Bool) (n : ℕ) → fault_in (n + 1) size test ≡ None → fault_in n size test ≡ None
none_before size test n none =
    none_faulty size test n (all_of n _ (λ p l. all_at (n + 1) _ (none_fails size test (n + 1) none) p (omega arith)))

-- where a path brings no place without a node, each of its places has one
pub path_named_lem : (s trace : List ℕ) (p at n : ℕ) → Stands trace p at n → (o : Option Fault) → o ≡ fault_in (p + 1) (place_count trace) (place_named s trace) → o ≡ None
    → PathNamed s trace p n
unfolding place_named
path_named_lem s trace p at n S o e none =
    record {
      nodes =
          λ k l.
          is_node_lem s (place_at trace p k)
          (in_paths_lem (p + 1) (place_count trace) (place_named s trace) (none_fails _ _ (p + 1) (sym e ∙ none)) p k (omega arith) (subst (λ (n : ℕ). k < n) S.places l));
    }

-- ---- the cursor

module _ (s t trace : List ℕ) where
  pub starts : 1 ≤ length trace → (c : Cursor) → c ≡ started → Walked s t trace c
  unfolding path_start
  starts some c e =
      subst (Walked s t trace) (sym e)
      (record {
        at = refl;
        within = some;
        counts = λ p l. absurd (omega arith);
        unnamed = fault_zero (place_count trace) (place_named s trace);
        forbidden = λ q. fault_zero (step_count trace) (step_allowed s t trace);
      })

  -- where one path more brings no place without a node, the cursor has the first step that is not allowed
  pub forbidden_before : (c : Cursor) → Walked s t trace c → (n : ℕ) → n ≡ c.path → (o : Option Fault) → o ≡ fault_in (n + 1) (place_count trace) (place_named s trace)
      → o ≡ None → c.forbidden ≡ fault_in n (step_count trace) (step_allowed s t trace)
  forbidden_before c W n en o e none =
      let before = none_before (place_count trace) (place_named s trace) n (sym e ∙ none) in
      W.forbidden (W.unnamed ∙ ap (λ (n : ℕ). fault_in n (place_count trace) (place_named s trace)) (sym en) ∙ before)
      ∙ ap (λ (n : ℕ). fault_in n (step_count trace) (step_allowed s t trace)) (sym en)

  module _ (c : Cursor) (W : Walked s t trace c) (room : c.path < 255) (right : CountRight trace c.at) where
    -- the path at it stands in the trace
    pub stands : (n : ℕ) → n ≡ byte_at trace c.at → Stands trace c.path c.at n
    stands n e =
        record {
          number = room;
          at = W.at;
          places = e ∙ ap (byte_at trace) W.at;
          least = omega (arith, right.least, e);
          most = omega (arith, right.most, e);
          within = omega (arith, right.within, e);
        }

    -- past it
    pub passes : (n : ℕ) → n ≡ byte_at trace c.at → (unnamed forbidden : Option Fault)
        → unnamed ≡ fault_in (c.path + 1) (place_count trace) (place_named s trace)
        → (unnamed ≡ None → forbidden ≡ fault_in (c.path + 1) (step_count trace) (step_allowed s t trace))
        → Walked s t trace (record { path = c.path + 1; at = c.at + 1 + n; unnamed = unnamed; forbidden = forbidden })
    passes n e unnamed forbidden eu ef =
        let here : n ≡ place_count trace c.path = e ∙ ap (byte_at trace) W.at in
        record {
          at = omega (arith, W.at, here, start_next trace c.path);
          within = omega (arith, right.within, e);
          counts = λ p l. counts p l (dec_lt p c.path);
          unnamed = eu;
          forbidden = ef;
        }
      where
        counts : (p : ℕ) → p < c.path + 1 → Dec (p < c.path) → (1 ≤ place_count trace p) × (place_count trace p ≤ 9)
        counts p l (yes h) = W.counts p h
        counts p l (no g) =
            subst (λ (p : ℕ). (1 ≤ place_count trace p) × (place_count trace p ≤ 9)) (omega arith)
            (subst (λ (at : ℕ). (1 ≤ byte_at trace at) × (byte_at trace at ≤ 9)) W.at (right.least, right.most))
