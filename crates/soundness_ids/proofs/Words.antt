-- Ids as words of the state: a valid id fits 32 bits. Assumes nothing.
use Prim.Native.Nat.{ℕ, zero, suc, ◌+◌, ◌-◌, ◌≤◌, ◌<◌}
use mathlib.Core.Path.{◌≡◌, refl, sym, ap, ap₂, subst, ◌∙◌}
use mathlib.Core.Logic.{⊎_elim}
use mathlib.Core.Bool.{Bool, not, ◌&&◌}
use mathlib.Core.List.{List}
use native.Mathlib.Nat.{eq-or-lt_of_le}
use native.Mathlib.Omega.{arith}
use native.Mathlib.Numerals.{add-one}
use lib.Dec.{eqb, leb}
use borrow.Author.Tests.{lt-leb}
use lib.ListN.{length, get_or, set, replicate, take, length-set}
use lib.Seq.{get_or-set_same, get_or-set_other}
use Rattle.std.specs.List.{list_all}
use Rattle.std.proofs.lemmas.List.Folds.{list_all_more}
use Rattle.model.specs.Loops.{all_below}
use Rattle.model.specs.Ids.{valid_id}
use Rattle.model.specs.Memory.{node_count, id_of}
use Rattle.model.specs.Sound.{id_differs, has_new_id}
use Rattle.model.proofs.Bools.{is_false}
use Rattle.model.proofs.Ids.{valid_fits}
use Rattle.model.proofs.Loops.{all_same}
use Rattle.soundness_ids.specs.Rows.{InRow}

-- a word above 32 bits is no valid id
pub word_invalid : (b d word id : ℕ) → d ≤ 8 → word ≡ id → 4294967295 < word → leb word 4294967295 ≡ valid_id b d id
word_invalid b d word id l q h =
    lt-leb word 4294967295 h
    ∙ is_false (valid_id b d id) (λ e. let g : id < 4294967296 = valid_fits b d id l e in omega arith)

-- ---- the ids in one row

-- the ids of the first k nodes stand in the row
pub record RowBelow (s ids : List ℕ) (k : ℕ) : Type 0 where
  pub long : length ids ≡ 64
  pub each : (e : ℕ) → e < k → get_or ids e 0 ≡ id_of s (e + 1)

pub row_none : (s : List ℕ) → RowBelow s (replicate 64 0) 0
row_none s = record { long = refl; each = λ e l. omega arith }

pub row_goes : (s ids : List ℕ) (k id : ℕ) → RowBelow s ids k → k < 64 → id ≡ id_of s (k + 1) → RowBelow s (set ids k id) (k + 1)
row_goes s ids k id r l e = record {
  long = length-set ids k id ∙ r.long;
  each = λ p h. ⊎_elim (here p) (before p) (eq-or-lt_of_le (omega arith));
}
  where
    here : (p : ℕ) → p ≡ k → get_or (set ids k id) p 0 ≡ id_of s (p + 1)
    here p q = subst (λ (p : ℕ). get_or (set ids k id) p 0 ≡ id_of s (p + 1)) (sym q) (get_or-set_same ids k id 0 (omega (arith, r.long)) ∙ e)

    before : (p : ℕ) → p < k → get_or (set ids k id) p 0 ≡ id_of s (p + 1)
    before p q = get_or-set_other ids k p id 0 (omega arith) ∙ r.each p q

pub row_ends : (s ids : List ℕ) (k n : ℕ) → RowBelow s ids k → n ≡ node_count s → n ≤ 64 → k ≤ n → n ≤ k → InRow s ids
row_ends s ids k n r e m l h = record { long = omega (arith, r.long); each = λ p q. r.each p (omega arith) }

-- a test of the items before place k, asked by their places
before : (p : ℕ → Bool) (xs : List ℕ) (k : ℕ) → k ≤ length xs → list_all p (take k xs) ≡ all_below k (λ e. p (get_or xs e 0))
unfolding all_below
before p xs zero l = refl
before p xs (suc k) l =
    ap (λ (n : ℕ). list_all p (take n xs)) (sym (add-one k))
    ∙ list_all_more p xs k 0 (omega arith)
    ∙ ap (λ (b : Bool). b && p (get_or xs k 0)) (before p xs k (omega arith))

-- the test of a place in the row is the book's test of its node
pub row_is_new : (s ids : List ℕ) (k : ℕ) → InRow s ids → k < node_count s
    → list_all (λ id. not (eqb id (get_or ids k 0))) (take k ids) ≡ has_new_id s (k + 1)
unfolding has_new_id
row_is_new s ids k w l =
    let g : k + 1 - 1 ≡ k = omega arith in
    before _ ids k (omega (arith, w.long))
    ∙ all_same k _ (id_differs s (k + 1))
    (λ p h. ap₂ (λ (a b : ℕ). not (eqb a b)) (w.each p (omega arith)) (w.each k (omega arith)))
    ∙ ap (λ (m : ℕ). all_below m (id_differs s (k + 1))) (sym g)
