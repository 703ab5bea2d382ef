-- The counts of an image and its length, where 6 does not refuse it. Assumes nothing.
use Prim.Native.Nat.{ℕ, ◌+◌, ◌*◌, ◌≤◌}
use mathlib.Core.Path.{◌≡◌, ap}
use mathlib.Core.Bool.{Bool, true, false, cond}
use mathlib.Core.List.{List}
use native.Mathlib.Omega.{arith}
use lib.Dec.{eqb, ltb, leb}
use lib.ListN.{length}
use borrow.Author.Tests.{eqb-true, eqb-false, ltb-false, leb-true, not-false}
use Rattle.model.specs.Image.{has_joins, im_version, im_nodes, im_records, records_end, joins_end, im_counts, im_length, length_right}
use Rattle.model.specs.Refusals.{counts_wrong}
use Rattle.model.proofs.Bools.{and_left, and_right, or_none_left, or_none_right}

-- ---- the length by the counts, in either version

pub length_plain : (im : List ℕ) → has_joins (im_version im) ≡ false → im_length im ≡ records_end im
unfolding im_length
length_plain im e = ap (λ (b : Bool). cond b (joins_end im + 1 + 2 * im_counts im) (records_end im)) e

pub length_joins : (im : List ℕ) → has_joins (im_version im) ≡ true → im_length im ≡ joins_end im + 1 + 2 * im_counts im
unfolding im_length
length_joins im e = ap (λ (b : Bool). cond b (joins_end im + 1 + 2 * im_counts im) (records_end im)) e

-- the records are within it
pub length_least : (im : List ℕ) → records_end im ≤ im_length im
unfolding im_length
length_least im = go (has_joins (im_version im))
  where
    go : (b : Bool) → records_end im ≤ cond b (joins_end im + 1 + 2 * im_counts im) (records_end im)
    go true = omega arith
    go false = omega arith

-- ---- what 6 leaves

pub record Counted (im : List ℕ) : Type 0 where
  pub some : 1 ≤ im_nodes im
  pub few : im_nodes im ≤ 64
  pub size : length im ≡ im_length im
  pub short : length im ≤ 65535

pub counts_ok : (im : List ℕ) → counts_wrong im ≡ false → Counted im
unfolding length_right
counts_ok im e =
    let counts = or_none_right (ltb (length im) 6) _ e in
    let some = eqb-false (im_nodes im) 0 (or_none_left _ _ counts) in
    let many = or_none_right (eqb (im_nodes im) 0) _ counts in
    let right = not-false _ (or_none_right (ltb 64 (im_nodes im)) _ many) in
    let rest = and_right (leb (8 + 4 * im_nodes im) (length im)) _ right in
    record {
      some = omega (arith, some);
      few = ltb-false 64 (im_nodes im) (or_none_left _ _ many);
      size = eqb-true (length im) _ (and_left _ _ rest);
      short = leb-true (length im) 65535 (and_right (eqb (length im) (im_length im)) _ rest);
    }

-- so there are not many records
pub records_few : (im : List ℕ) → counts_wrong im ≡ false → im_records im ≤ 16380
records_few im e = let c = counts_ok im e in omega (arith, c.some, c.size, c.short, length_least im)
