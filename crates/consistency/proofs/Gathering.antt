-- Who has which digit, node by node; and from that who shares the digits of x, and who qualifies for its entries. Assumes nothing.
use Prim.Native.Nat.{ℕ, suc, ◌+◌, ◌≤◌, ◌<◌}
use mathlib.Core.Path.{◌≡◌, refl, sym, ap, ap₂, subst, ◌∙◌}
use mathlib.Core.Logic.{◌≢◌}
use mathlib.Core.Bool.{Bool, true, false, cond, ◌&&◌, and-false}
use mathlib.Core.List.{List}
use native.Mathlib.Nat.{le_refl, le_antisymm}
use native.Mathlib.Numerals.{add-one}
use native.Mathlib.Decide.{ℕ_discrete, dec_lt}
use native.Mathlib.Omega.{arith}
use lib.Bits.{bit_and}
use lib.Dec.{eqb}
use lib.ListN.{length, get_or, set, replicate, length-set, get_or-replicate}
use lib.Seq.{get_or-set_same, get_or-set_other}
use borrow.Author.Tests.{eqb-true, eqb-false, eq-eqb}
use Rattle.model.specs.Loops.{all_below, each_below, node}
use Rattle.model.specs.Ids.{digit_of, low_digits}
use Rattle.model.specs.Memory.{base, digits, node_count, id_of, has_node, add_node}
use Rattle.model.specs.Tables.{qualified}
use Rattle.model.proofs.Bools.{same_test, and_intro, and_left, and_right}
use Rattle.model.proofs.Loops.{each_leads}
use Rattle.model.proofs.Nodes.{nodes_at}
use Rattle.model.proofs.Ids.{digit_lt, low_zero, low_join, low_digit, low_rest}
use Rattle.model.proofs.Sets.{has_none, has_added, has_add_other}
use Rattle.model.proofs.Status.{IsNode}
use Rattle.model.proofs.Sound.{Sound, id_fits}
use Rattle.consistency.specs.NodeSets.{IdsReadable, place, note_at, Having, Sharing, Qualify}
use Rattle.consistency.proofs.SetLaws.{has_both}

-- ---- one node

-- the set at a place, with y noted if b
abbrev with : Bool → ℕ → ℕ → ℕ
with b h y = cond b (add_node h y) h

-- the levels below k are noted
record Noted (id y : ℕ) (H : List ℕ) (k : ℕ) (X : List ℕ) : Type 0 where
  same : length X ≡ length H
  below : (i j : ℕ) → j < 16 → i < k → get_or X (place i j) 0 ≡ with (eqb (digit_of id i) j) (get_or H (place i j) 0) y
  above : (i j : ℕ) → k ≤ i → get_or X (place i j) 0 ≡ get_or H (place i j) 0

module _ (id y : ℕ) (H : List ℕ) (long : length H ≡ 128) where
  module _ (k : ℕ) (X : List ℕ) (low : k < 8) (w : Noted id y H k X) where
    away : (p : ℕ) → p ≢ place k (digit_of id k) → get_or (note_at id y k X) p 0 ≡ get_or X p 0
    unfolding note_at
    away p h = get_or-set_other X (place k (digit_of id k)) p _ 0 h

    here : (j : ℕ) → j < 16 → (b : Bool) → eqb (digit_of id k) j ≡ b → get_or (note_at id y k X) (place k j) 0 ≡ with b (get_or H (place k j) 0) y
    unfolding note_at
    here j h true e =
        let q : digit_of id k ≡ j = eqb-true _ _ e in
        rw q (get_or-set_same X (place k j) _ 0 (omega (arith, w.same)) ∙ ap (λ (n : ℕ). add_node n y) (w.above k j (le_refl k)))
    here j h false e = away (place k j) (λ q. eqb-false (digit_of id k) j e (omega arith)) ∙ w.above k j (le_refl k)

    one_more : Noted id y H (suc k) (note_at id y k X)
    unfolding note_at
    one_more = record {
      same = length-set X _ _ ∙ w.same;
      below = λ i j hj hi. earlier i j hj (dec_lt i k) hi;
      above = λ i j l. away (place i j) (omega (arith, digit_lt id k)) ∙ w.above i j (omega arith);
    }
      where
        earlier : (i j : ℕ) → j < 16 → Dec (i < k) → i < suc k → get_or (note_at id y k X) (place i j) 0 ≡ with (eqb (digit_of id i) j) (get_or H (place i j) 0) y
        earlier i j hj (yes l) hi = away (place i j) (omega (arith, digit_lt id k)) ∙ w.below i j hj l
        earlier i j hj (no g) hi =
            let q : k ≡ i = omega arith in
            subst (λ (i : ℕ). get_or (note_at id y k X) (place i j) 0 ≡ with (eqb (digit_of id i) j) (get_or H (place i j) 0) y) q (here j hj _ refl)

  noted : (d : ℕ) → d ≤ 8 → Noted id y H d (each_below d (note_at id y) H)
  noted d few =
      each_leads (Noted id y H) d (note_at id y) H
      (record { same = refl; below = λ i j hj hi. absurd (omega arith); above = λ i j l. refl })
      (λ k X l. one_more k X (omega arith))

-- as the code stores it, v at the place of digit g
pub note_step : (X : List ℕ) (id y i g v : ℕ) → g ≡ digit_of id i → v ≡ add_node (get_or X (place i g) 0) y → set X (place i g) v ≡ note_at id y i X
unfolding note_at
note_step X id y i g v e q = ap (set X (place i g)) q ∙ ap (λ (g : ℕ). set X (place i g) (add_node (get_or X (place i g) 0) y)) e

-- ---- node by node

pub readable : (s t : List ℕ) → Sound s t → IdsReadable s
readable s t S = record { long = S.long.state; few = S.few; digits = S.settings.digits_most; ids = id_fits s t S }

pub having_start : (s : List ℕ) → digits s ≤ 8 → Having s 0 (replicate 128 0)
having_start s few = record {
  long = refl;
  is = λ i j y hi hj low high. absurd (omega arith);
  none = λ i j y hi hj low high. ap (λ (n : ℕ). has_node n y) (get_or-replicate 128 (place i j) 0 0 (omega arith)) ∙ has_none y;
}

module _ (s : List ℕ) (k : ℕ) (H : List ℕ) (w : Having s k H) (few : digits s ≤ 8) (d id : ℕ) (X : List ℕ) (ed : d ≡ digits s) (ei : id ≡ id_of s (k + 1))
    (e : X ≡ each_below d (note_at id (k + 1)) H) (room : k < 64) where
  note : Noted id (k + 1) H d X
  note = subst (Noted id (k + 1) H d) (sym e) (noted id (k + 1) H w.long d (omega arith))

  at : (i j : ℕ) → i < digits s → j < 16 → get_or X (place i j) 0 ≡ with (eqb (digit_of (id_of s (k + 1)) i) j) (get_or H (place i j) 0) (k + 1)
  at i j hi hj =
      note.below i j hj (omega arith) ∙ ap (λ (id : ℕ). with (eqb (digit_of id i) j) (get_or H (place i j) 0) (k + 1)) ei

  -- another node is in the set as it was
  other : (b : Bool) (h y : ℕ) → 1 ≤ y → y ≢ k + 1 → has_node (with b h (k + 1)) y ≡ has_node h y
  other true h y low ne = has_add_other h (k + 1) y (omega arith) low ne
  other false h y low ne = refl

  -- the node itself as it has the digit
  itself : (b : Bool) (h : ℕ) → has_node h (k + 1) ≡ false → has_node (with b h (k + 1)) (k + 1) ≡ b
  itself true h f = has_added h (k + 1)
  itself false h f = f

  pub having_goes : Having s (k + 1) X
  having_goes = record {
    long = note.same ∙ w.long;
    is = λ i j y hi hj low high. ap (λ (n : ℕ). has_node n y) (at i j hi hj) ∙ go i j y hi hj low high (ℕ_discrete y (k + 1));
    none = λ i j y hi hj low high.
        ap (λ (n : ℕ). has_node n y) (at i j hi hj) ∙ other (eqb (digit_of (id_of s (k + 1)) i) j) (get_or H (place i j) 0) y (omega arith) (λ q. omega (arith, q, low)) ∙ w.none i j y hi hj (omega arith) high;
  }
    where
      go : (i j y : ℕ) → i < digits s → j < 16 → 1 ≤ y → y ≤ k + 1 → Dec (y ≡ k + 1)
          → has_node (with (eqb (digit_of (id_of s (k + 1)) i) j) (get_or H (place i j) 0) (k + 1)) y ≡ eqb (digit_of (id_of s y) i) j
      go i j y hi hj low high (yes q) =
          subst (λ (y : ℕ). has_node (with (eqb (digit_of (id_of s (k + 1)) i) j) (get_or H (place i j) 0) (k + 1)) y ≡ eqb (digit_of (id_of s y) i) j) (sym q)
          (itself (eqb (digit_of (id_of s (k + 1)) i) j) (get_or H (place i j) 0) (w.none i j (k + 1) hi hj (omega arith) (omega arith)))
      go i j y hi hj low high (no q) =
          other (eqb (digit_of (id_of s (k + 1)) i) j) (get_or H (place i j) 0) y low q ∙ w.is i j y hi hj low (omega (arith, q))

pub having_ends : (s : List ℕ) (k n : ℕ) (H : List ℕ) → Having s k H → n ≡ node_count s → k ≤ n → n ≤ k → Having s (node_count s) H
having_ends s k n H w e l g = subst (λ (k : ℕ). Having s k H) (le_antisymm l g ∙ e) w

-- ---- sharing and qualifying

everyone : all_below 64 (node (has_node 18446744073709551615)) ≡ true
unfolding all_below has_node
everyone = refl

-- with no digits everyone does
pub sharing_start : (s : List ℕ) (x : ℕ) → node_count s ≤ 64 → Sharing s x 0 18446744073709551615
sharing_start s x few = record {
  is = λ y n.
      nodes_at 64 (has_node 18446744073709551615) everyone y n.low (omega (arith, n.high, few))
      ∙ sym (eq-eqb _ _ (low_zero (id_of s y) ∙ sym (low_zero (id_of s x))));
}

module _ (s : List ℕ) (x i S : ℕ) (H : List ℕ) (sh : Sharing s x i S) (w : Having s (node_count s) H) (hi : i < digits s) where
  both : (j y : ℕ) → j < 16 → IsNode s y
      → has_node (bit_and S (get_or H (place i j) 0)) y ≡ (eqb (low_digits (id_of s y) i) (low_digits (id_of s x) i) && eqb (digit_of (id_of s y) i) j)
  both j y hj n = has_both S (get_or H (place i j) 0) y ∙ ap₂ ◌&&◌ (sh.is y n) (w.is i j y hi hj n.low n.high)

  pub qualify_of : (t : List ℕ) → Sound s t → (b j Q : ℕ) → b ≡ base s → j < b → Q ≡ bit_and S (get_or H (place i j) 0) → Qualify s x i j Q
  unfolding qualified
  qualify_of t v b j Q e l q =
      let hj : j < 16 = omega (arith, v.settings.base_most) in
      subst (Qualify s x i j) (sym q)
      (record {
        is = λ y n. both j y hj n;
        none = λ y low high.
            has_both S (get_or H (place i j) 0) y ∙ ap (λ (b : Bool). has_node S y && b) (w.none i j y hi hj low high) ∙ and-false (has_node S y);
      })

  -- one digit more
  longer : (y z : ℕ) → (eqb (low_digits y i) (low_digits z i) && eqb (digit_of y i) (digit_of z i)) ≡ eqb (low_digits y (i + 1)) (low_digits z (i + 1))
  longer y z =
      let low = eqb (low_digits y i) (low_digits z i) in
      let digit = eqb (digit_of y i) (digit_of z i) in
      rw (add-one i)
      (same_test (low && digit) _
      (λ h. eq-eqb _ _ (low_join y z i (eqb-true _ _ (and_right low digit h)) (eqb-true _ _ (and_left low digit h))))
      (λ h.
      let q : low_digits y (suc i) ≡ low_digits z (suc i) = eqb-true _ _ h in
      and_intro low digit (eq-eqb _ _ (low_rest y z i q)) (eq-eqb _ _ (low_digit y z i q))))

  pub sharing_goes : (id v r : ℕ) → id ≡ id_of s x → v ≡ digit_of id i → r ≡ bit_and S (get_or H (place i v) 0) → Sharing s x (i + 1) r
  sharing_goes id v r p q f = let e = q ∙ ap (λ (id : ℕ). digit_of id i) p in record {
    is = λ y n.
        ap (λ (r : ℕ). has_node r y) f
        ∙ both v y (omega (arith, digit_lt (id_of s x) i)) n
        ∙ ap (λ (v : ℕ). eqb (low_digits (id_of s y) i) (low_digits (id_of s x) i) && eqb (digit_of (id_of s y) i) v) e
        ∙ longer (id_of s y) (id_of s x);
  }

pub sharing_ends : (s : List ℕ) (x k i S : ℕ) → Sharing s x k S → k ≤ i → i ≤ k → Sharing s x i S
sharing_ends s x k i S w l g = subst (λ (k : ℕ). Sharing s x k S) (le_antisymm l g) w
