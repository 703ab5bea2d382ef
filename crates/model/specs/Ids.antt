-- Identifiers: document 01, "Identifiers and tables", first paragraph.
-- b is the base, d the number of digits, K the depth.
use Rattle.std.specs.Prelude.{ℕ, ◌-◌, ◌/◌, ◌%◌, ◌^◌, Bool, not, ◌&&◌, leb, ltb, eqb}
use Rattle.model.specs.Loops.{all_below, first_below}

-- the settings in range: the base from 2 to 16, the digits from 1 to 8, the depth from 1 to 4
unfoldable pub settings_in_range : ℕ → ℕ → ℕ → Bool
settings_in_range b d K = leb 2 b && (leb b 16 && (leb 1 d && (leb d 8 && (leb 1 K && leb K 4))))

-- digit i of an id: each digit has four bits, and digit 0 the lowest four
unfoldable pub digit_of : ℕ → ℕ → ℕ
digit_of id i = id / 16 ^ i % 16

abbrev pub digit_below : ℕ → ℕ → ℕ → Bool
digit_below b id i = ltb (digit_of id i) b

-- an id is valid if its d lowest digits are below b and nothing stands above them
unfoldable pub valid_id : ℕ → ℕ → ℕ → Bool
valid_id b d id = all_below d (digit_below b id) && eqb (id / 16 ^ d) 0

abbrev pub digits_differ : ℕ → ℕ → ℕ → Bool
digits_differ x y i = not (eqb (digit_of x i) (digit_of y i))

-- the paper's "match": how many digits agree, from the right, before the first that differs; d where the d lowest all agree
unfoldable pub common_suffix : ℕ → ℕ → ℕ → ℕ
common_suffix d x y = first_below d (digits_differ x y)

-- the number that the low i digits of an id make
unfoldable pub low_digits : ℕ → ℕ → ℕ
low_digits id i = id % 16 ^ i

-- the mask of i digits has their 4i bits set
unfoldable pub suffix_mask : ℕ → ℕ
suffix_mask i = 16 ^ i - 1
