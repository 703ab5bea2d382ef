-- On memories alike in the fixed lengths each call is refused alike, and a trace at the same place. Assumes nothing.
use Prim.Native.Nat.{ℕ, ◌+◌, ◌≤◌}
use mathlib.Core.Path.{◌≡◌, refl, sym, ap, ap₂, ◌∙◌}
use mathlib.Core.Bool.{Bool, true, false, cond, not, ◌&&◌, ◌||◌}
use mathlib.Core.List.{List, [], ◌∷◌, ◌++◌}
use native.Mathlib.Omega.{arith}
use lib.Dec.{eqb}
use borrow.Author.Tests.{not-false}
use Rattle.model.specs.Loops.{all_below, any_below}
use Rattle.model.specs.Memory.{Memory, node_count, node_of, is_in_system}
use Rattle.model.specs.Nodes.{is_node}
use Rattle.model.specs.Sound.{sound}
use Rattle.model.specs.Join.{outstanding}
use Rattle.model.specs.Image.{has_joins}
use Rattle.model.specs.Traces.{path_count, place_count, place_at, step_count, place_named, step_allowed}
use Rattle.model.specs.Refusals.{Sentence, first_true, memory_short, unsound, has_id, are_nodes, some_not_in_system, state_sentences, begin_sentences, withdraw_sentences, deliver_sentences, lookup_sentences, verdict_sentences, fill_sentences, write_sentences, trace_sentences, found_refusal, read_refusal, state_refusal, begin_refusal, withdraw_refusal, deliver_refusal, lookup_refusal, verdict_refusal, fill_refusal, write_refusal, trace_refusal, trace_place}
use Rattle.model.proofs.Loops.{all_same, any_same}
use Rattle.model.proofs.Memory.{same_status, same_target, same_pending}
use Rattle.model.proofs.Status.{IsNode, is_node_lem, in_system_same, attached_same}
use Rattle.model.proofs.Sound.{Sound, sound_ok}
use Rattle.model.proofs.Taken.{long_of, both_nodes, all_in_system, not_short}
use Rattle.model.proofs.Traces.{in_paths_same, fault_same, refused_9, refused_23, by_refusal, trace_place_none}
use Rattle.model.proofs.NextHop.{Agreeing}
use Rattle.model.proofs.Alike.{Alike, LongAlike, base_same, digits_same, count_same, id_same, record_same, short_same, sound_same}
use Rattle.model.proofs.FillingAlike.{filling_same}
use Rattle.model.proofs.AlikeLooking.{nodes_same, image_same, step_same}

-- lists of sentences are judged alike where each test is the same, if no test before it was true
sentence_same : (test test' : Bool) (n : ℕ) (later later' : List Sentence) → test' ≡ test
    → (test ≡ false → first_true later' ≡ first_true later) → first_true ((test', n) ∷ later') ≡ first_true ((test, n) ∷ later)
unfolding first_true
sentence_same test test' n later later' e h = ap (λ (b : Bool). cond b n (first_true later')) e ∙ go test h
  where
    go : (b : Bool) → (b ≡ false → first_true later' ≡ first_true later) → cond b n (first_true later') ≡ cond b n (first_true later)
    go true h = refl
    go false h = h refl

-- those of a delivery, by the sender's record and whether the receiver is in system
pub deliver_judged : (s s' : List ℕ) (x y : ℕ) → are_nodes s' x y ≡ are_nodes s x y
    → (are_nodes s x y ≡ true → (node_of s' x ≡ node_of s x) × (is_in_system s' y ≡ is_in_system s y))
    → first_true (deliver_sentences s' x y) ≡ first_true (deliver_sentences s x y)
unfolding outstanding
deliver_judged s s' x y e h =
    sentence_same _ _ 9 _ _ (ap not e)
    (λ e₉.
    let n = h (not-false (are_nodes s x y) e₉) in
    let r = n.0 in
    sentence_same _ _ 13 _ _ (cc (same_status r, same_target r, same_pending r))
    (λ e₁₃. sentence_same _ _ 14 [] [] (cc (same_status r, n.1)) (λ e₁₄. refl)))

module _ (m m' : Memory) (a : Alike m.state m.tables m'.state m'.tables) where
  abbrev s : List ℕ
  s = m.state

  abbrev s' : List ℕ
  s' = m'.state

  -- ---- 1 and 2 come first

  pub long_alike : memory_short m ≡ false → LongAlike m.state m.tables m'.state m'.tables
  long_alike e = record { alike = a; long = long_of m e; long' = long_of m' (short_same m m' a ∙ e) }

  past_short : (later : List Sentence) → first_true ((memory_short m', 1) ∷ later) ≡ first_true ((memory_short m, 1) ∷ later)
  past_short later = sentence_same (memory_short m) (memory_short m') 1 later later (short_same m m' a) (λ e. refl)

  past_sound : (later later' : List Sentence)
      → (LongAlike m.state m.tables m'.state m'.tables → Sound m.state m.tables → first_true later' ≡ first_true later)
      → first_true (state_sentences m' ++ later') ≡ first_true (state_sentences m ++ later)
  past_sound later later' h =
      sentence_same (memory_short m) (memory_short m') 1 _ _ (short_same m m' a)
      (λ e.
      let L = long_alike e in
      sentence_same (unsound m) (unsound m') 2 later later' (ap not (sound_same s m.tables s' m'.tables L))
      (λ q. h L (sound_ok s m.tables L.long (not-false (sound s m.tables) q))))

  -- ---- the calls

  pub found_same : (b d K id : ℕ) → found_refusal m' b d K id ≡ found_refusal m b d K id
  unfolding found_refusal
  found_same b d K id = past_short _

  pub read_same : (im : List ℕ) → read_refusal m' im ≡ read_refusal m im
  unfolding read_refusal
  read_same im = past_short _

  pub state_same : state_refusal m' ≡ state_refusal m
  unfolding state_refusal
  state_same = past_sound [] [] (λ L S. refl)

  is_node_same : (x : ℕ) → is_node s' x ≡ is_node s x
  is_node_same x = cc (count_same s s' a.state)

  are_nodes_same : (x y : ℕ) → are_nodes s' x y ≡ are_nodes s x y
  are_nodes_same x y = cc (is_node_same x, is_node_same y)

  module _ (S : Sound m.state m.tables) where
    node_few : (x : ℕ) → IsNode s x → x ≤ 64
    node_few x n = omega (arith, n.high, S.few)

    node_there : (x : ℕ) → not (is_node s x) ≡ false → x ≤ 64
    node_there x e = node_few x (is_node_lem s x (not-false (is_node s x) e))

    in_system_there : (x : ℕ) → x ≤ 64 → is_in_system s' x ≡ is_in_system s x
    in_system_there x h = in_system_same s s' x (record_same s s' a.state x h)

    nodes_there : (x y : ℕ) → are_nodes s x y ≡ true → (x ≤ 64) × (y ≤ 64)
    nodes_there x y e = let n = both_nodes m x y (ap not e) in (node_few x n.0, node_few y n.1)

    taken_same : (id : ℕ) → any_below (node_count s') (λ k. has_id s' id (k + 1)) ≡ any_below (node_count s) (λ k. has_id s id (k + 1))
    taken_same id =
        nodes_same any_below any_same (node_count s) (node_count s') (count_same s s' a.state) (has_id s id) (has_id s' id)
        (λ x low high. ap (λ (n : ℕ). eqb n id) (id_same s s' a.state x (omega (arith, high, S.few))))

    not_in_system_same : some_not_in_system s' ≡ some_not_in_system s
    not_in_system_same =
        ap not
        (nodes_same all_below all_same (node_count s) (node_count s') (count_same s s' a.state) (is_in_system s) (is_in_system s')
        (λ x low high. in_system_there x (omega (arith, high, S.few))))

  pub begin_same : (id gateway : ℕ) → begin_refusal m' id gateway ≡ begin_refusal m id gateway
  unfolding begin_refusal
  begin_same id gateway =
      past_sound (begin_sentences s id gateway) (begin_sentences s' id gateway)
      (λ L S.
      sentence_same _ _ 7 _ _ (cc (base_same s s' a.state, digits_same s s' a.state))
      (λ e₇.
      sentence_same _ _ 8 _ _ (taken_same S id)
      (λ e₈.
      sentence_same _ _ 9 _ _ (ap not (is_node_same gateway))
      (λ e₉.
      sentence_same _ _ 11 _ _ (cc (count_same s s' a.state))
      (λ e₁₁. sentence_same _ _ 12 [] [] (ap not (in_system_there S gateway (node_there S gateway e₉))) (λ e₁₂. refl))))))

  pub withdraw_same : (x : ℕ) → withdraw_refusal m' x ≡ withdraw_refusal m x
  unfolding withdraw_refusal
  withdraw_same x =
      past_sound (withdraw_sentences s x) (withdraw_sentences s' x)
      (λ L S.
      sentence_same _ _ 9 _ _ (ap not (is_node_same x))
      (λ e₉.
      sentence_same _ _ 19 _ _ (cc (count_same s s' a.state))
      (λ e₁₉.
      sentence_same _ _ 20 [] [] (attached_same s s' x (record_same s s' a.state x (node_there S x e₉))) (λ e₂₀. refl))))

  pub deliver_same : (x y : ℕ) → deliver_refusal m' x y ≡ deliver_refusal m x y
  unfolding deliver_refusal
  deliver_same x y =
      past_sound (deliver_sentences s x y) (deliver_sentences s' x y)
      (λ L S.
      deliver_judged s s' x y (are_nodes_same x y)
      (λ e. let n = nodes_there S x y e in (record_same s s' a.state x n.0, in_system_there S y n.1)))

  pub lookup_same : (u z failed failed' : ℕ) → Agreeing s failed failed' → lookup_refusal m' u z failed' ≡ lookup_refusal m u z failed
  unfolding lookup_refusal
  lookup_same u z failed failed' agree =
      past_sound (lookup_sentences s u z failed) (lookup_sentences s' u z failed')
      (λ L S.
      sentence_same _ _ 9 _ _ (ap not (are_nodes_same u z))
      (λ e₉.
      let n = both_nodes m u z e₉ in
      sentence_same _ _ 21 [] [] (ap₂ ◌||◌ (agree u n.0) (agree z n.1)) (λ e₂₁. refl)))

  pub verdict_same : verdict_refusal m' ≡ verdict_refusal m
  unfolding verdict_refusal
  verdict_same =
      past_sound (verdict_sentences s) (verdict_sentences s')
      (λ L S. sentence_same _ _ 15 [] [] (not_in_system_same S) (λ e. refl))

  pub fill_same : (out : List ℕ) → fill_refusal m' out ≡ fill_refusal m out
  unfolding fill_refusal
  fill_same out =
      past_sound (fill_sentences m out) (fill_sentences m' out)
      (λ L S.
      sentence_same _ _ 15 _ _ (not_in_system_same S)
      (λ e₁₅.
      sentence_same _ _ 16 [] []
      (cc (filling_same s m.tables s' m'.tables L (record { sound = S; settled = all_in_system m e₁₅ }))) (λ e₁₆. refl)))

  pub write_same : (v : ℕ) (out : List ℕ) → write_refusal m' v out ≡ write_refusal m v out
  unfolding write_refusal
  write_same v out =
      past_sound (write_sentences m v out) (write_sentences m' v out)
      (λ L S.
      sentence_same _ _ 4 _ _ refl
      (λ e₄.
      sentence_same _ _ 15 _ _ (ap (λ (b : Bool). not (has_joins v) && b) (not_in_system_same S))
      (λ e₁₅. sentence_same _ _ 16 [] [] (cc (image_same s m.tables s' m'.tables L S v)) (λ e₁₆. refl))))

  -- ---- traces

  named_same : (trace : List ℕ) (p k : ℕ) → place_named s' trace p k ≡ place_named s trace p k
  unfolding place_named
  named_same trace p k = is_node_same (place_at trace p k)

  pub trace_same : (trace : List ℕ) → trace_refusal m' trace ≡ trace_refusal m trace
  unfolding trace_refusal
  trace_same trace =
      past_sound (trace_sentences m trace) (trace_sentences m' trace)
      (λ L S.
      sentence_same _ _ 22 _ _ refl
      (λ e₂₂.
      sentence_same _ _ 9 _ _
      (ap not (in_paths_same (path_count trace) (place_count trace) (place_named s trace) (place_named s' trace) (λ p k l h. named_same trace p k)))
      (λ e₉.
      sentence_same _ _ 23 [] []
      (ap not
      (in_paths_same (path_count trace) (step_count trace) (step_allowed s m.tables trace) (step_allowed s' m'.tables trace)
      (step_same s m.tables s' m'.tables L S trace (not-false _ e₉))))
      (λ e₂₃. refl))))

  -- and a refusal points at the same place
  pub traced_same : (trace : List ℕ) → trace_place m' trace (trace_refusal m trace) ≡ trace_place m trace (trace_refusal m trace)
  unfolding trace_place
  traced_same trace =
      by_refusal m trace (λ (n : ℕ). trace_place m' trace n ≡ trace_place m trace n)
      (λ e.
      fault_same (path_count trace) (place_count trace) (place_named s trace) (place_named s' trace) (λ p k l h. named_same trace p k)
      (refused_9 m trace e).1)
      (λ e.
      let r = refused_23 m trace e in
      fault_same (path_count trace) (step_count trace) (step_allowed s m.tables trace) (step_allowed s' m'.tables trace)
      (step_same s m.tables s' m'.tables (long_alike (not_short m r.0.long)) r.0 trace r.2) r.3)
      (λ n b c. trace_place_none m' trace n b c ∙ sym (trace_place_none m trace n b c))
