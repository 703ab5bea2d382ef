-- The fields of an image at the places from which the code reads them. Assumes nothing.
use Prim.Native.Nat.{ℕ, ◌+◌, ◌*◌, ◌≤◌, ◌<◌}
use mathlib.Core.Path.{◌≡◌, refl, sym, ap, ◌∙◌}
use mathlib.Core.Logic.{⊎_elim}
use mathlib.Core.Bool.{Bool, true, false, not, ◌&&◌, and-false}
use mathlib.Core.List.{List}
use native.Mathlib.Omega.{arith}
use lib.Dec.{leb, ltb}
use lib.ListN.{length}
use borrow.Author.Tests.{lt-ltb, le-ltb, lt-leb, le-leb}
use Rattle.model.specs.Image.{byte_at, has_joins, im_version, im_nodes, im_records, records_end, joins_end}
use Rattle.model.specs.Image.{im_length, length_right}
use Rattle.model.proofs.Bools.{le_or_lt}
use Rattle.model.proofs.Counts.{length_plain, length_joins, length_least}
use Rattle.model.proofs.Early.{le_goes, le_leaves, eq_goes, eq_leaves}

-- ---- the length

not_le : (m n : ℕ) → ltb n m ≡ not (leb m n)
not_le m n = ⊎_elim (λ l. le-ltb n m l ∙ sym (ap not (le-leb m n l))) (λ l. lt-ltb n m l ∙ sym (ap not (lt-leb m n l))) (le_or_lt m n)

pub length_short : (im : List ℕ) (n : ℕ) → n ≡ im_nodes im → length im < 8 + 4 * n → true ≡ not (length_right im)
unfolding length_right
length_short im n e l = ap not (le_leaves (8 + 4 * im_nodes im) (length im) _ (omega arith))

-- by the size that the counts give
module _ (im : List ℕ) (size : ℕ) (e : size ≡ im_length im) where
  pub differs : (length im ≡ size → ⊥) → true ≡ not (length_right im)
  unfolding length_right
  differs w =
      ap not
      (sym (and-false (leb (8 + 4 * im_nodes im) (length im)))
      ∙ ap (λ (b : Bool). leb (8 + 4 * im_nodes im) (length im) && b) (eq_leaves (length im) (im_length im) _ (λ g. w (g ∙ sym e))))

  pub agrees : length im ≡ size → ltb 65535 (length im) ≡ not (length_right im)
  unfolding length_right
  agrees w =
      not_le (length im) 65535
      ∙ ap not
      (le_goes (8 + 4 * im_nodes im) (length im) _ (leb (length im) 65535) (omega (arith, length_least im))
      (eq_goes (length im) (im_length im) _ (leb (length im) 65535) (w ∙ e) refl))

-- of version 1, which its records end
module _ (im : List ℕ) (n R : ℕ) (b : Bool) (en : n ≡ im_nodes im) (eR : R ≡ im_records im) (v : b ≡ has_joins (im_version im)) (w : b ≡ false) where
  pub plain : 8 + 4 * n + 4 * R ≡ im_length im
  plain = omega (arith, length_plain im (sym v ∙ w))

-- of version 2, whose joins and counts stand behind the records, which end at a
module _ (im : List ℕ) (a : ℕ) (v : has_joins (im_version im) ≡ true) (e : a ≡ records_end im) where
  pub joins_missing : length im ≤ a → true ≡ not (length_right im)
  joins_missing l = differs im (im_length im) refl (λ g. omega (arith, length_joins im v))

  module _ (q : ℕ) (eq : q ≡ byte_at im a) where
    joins_end_lem : a + 1 + 20 * q ≡ joins_end im
    joins_end_lem = omega (arith, ap (byte_at im) e)

    pub counts_gone : length im ≤ a + 1 + 20 * q → true ≡ not (length_right im)
    counts_gone l = differs im (im_length im) refl (λ g. omega (arith, length_joins im v, joins_end_lem))

    module _ (k : ℕ) (ek : k ≡ byte_at im (a + 1 + 20 * q)) where
      pub whole : a + 1 + 20 * q + 1 + 2 * k ≡ im_length im
      whole = omega (arith, length_joins im v, joins_end_lem, ap (byte_at im) joins_end_lem)
