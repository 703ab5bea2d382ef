-- The bytes of an image one after the other, as a list, and the numbers that they make. Assumes nothing.
use Prim.Native.Nat.{ℕ, zero, suc, ◌+◌, ◌*◌, ◌/◌, ◌%◌, ◌<◌}
use mathlib.Core.Path.{◌≡◌, refl, sym, ap, ap₂, ◌∙◌}
use mathlib.Core.List.{List, [], ◌∷◌, ◌++◌}
use native.Mathlib.Nat.{zero-add, add-zero, mul-zero, mul-suc, lt-suc_self}
use native.Mathlib.Omega.{arith}
use lib.Dec.{lit<}
use lib.ListN.{length, get_or, length-append}
use lib.Seq.{ext_get_or}
use Rattle.model.specs.Loops.{join_below}
use Rattle.model.specs.Image.{two_bytes, four_bytes, eight_bytes, byte_at, four_at, eight_at}
use Rattle.model.proofs.Loops.{join_same}
use Rattle.model.proofs.Counting.{join_at, join_add}

-- the n bytes from a on
unfoldable pub bytes_from : List ℕ → ℕ → ℕ → List ℕ
bytes_from im a n = join_below n (λ k. byte_at im (a + k) ∷ [])

module _ (im : List ℕ) where
  pub from_length : (a n : ℕ) → length (bytes_from im a n) ≡ n
  unfolding bytes_from join_below
  from_length a zero = refl
  from_length a (suc n) = length-append (bytes_from im a n) (byte_at im (a + n) ∷ []) ∙ omega (arith, from_length a n)

  from_at : (a n k : ℕ) → k < n → get_or (bytes_from im a n) k 0 ≡ byte_at im (a + k)
  unfolding bytes_from
  from_at a n k h =
      let e : k ≡ length (bytes_from im a k) + 0 = omega (arith, from_length a k) in
      ap (λ (p : ℕ). get_or (bytes_from im a n) p 0) e ∙ join_at (λ k. byte_at im (a + k) ∷ []) n k 0 h (lit< tt)

  -- m bytes, then n
  pub from_then : (a m b n k : ℕ) → a + m ≡ b → m + n ≡ k → bytes_from im a m ++ bytes_from im b n ≡ bytes_from im a k
  unfolding bytes_from
  from_then a m b n k e w =
      ap (λ (l : List ℕ). bytes_from im a m ++ l)
      (join_same n (λ k. byte_at im (b + k) ∷ []) (λ k. byte_at im (a + (m + k)) ∷ [])
      (λ k l. let q : b + k ≡ a + (m + k) = omega arith in ap (λ (p : ℕ). byte_at im p ∷ []) q))
      ∙ sym (join_add m n (λ k. byte_at im (a + k) ∷ []))
      ∙ ap (bytes_from im a) w

  -- n lists of m bytes
  pub from_blocks : (a m n : ℕ) (f : ℕ → List ℕ) → ((q : ℕ) → q < n → f q ≡ bytes_from im (a + m * q) m) → join_below n f ≡ bytes_from im a (m * n)
  unfolding bytes_from join_below
  from_blocks a m zero f h = ap (bytes_from im a) (sym (mul-zero m))
  from_blocks a m (suc n) f h =
      ap₂ ◌++◌ (from_blocks a m n f (λ q l. h q (omega arith))) (h n (lt-suc_self n))
      ∙ from_then a (m * n) (a + m * n) m (m * suc n) refl (sym (mul-suc m n))

  -- one byte, then n
  pub from_more : (a n : ℕ) → byte_at im a ∷ bytes_from im (a + 1) n ≡ bytes_from im a (1 + n)
  unfolding bytes_from join_below
  from_more a n = ap (λ (p : ℕ). byte_at im p ∷ bytes_from im (a + 1) n) (sym (add-zero a)) ∙ from_then a 1 (a + 1) n (1 + n) refl refl

  -- all of them
  pub from_all : (n : ℕ) → length im ≡ n → bytes_from im 0 n ≡ im
  from_all n e =
      ext_get_or 0 (bytes_from im 0 n) im (from_length 0 n ∙ sym e)
      (λ k h. from_at 0 n k (omega (arith, h, from_length 0 n)) ∙ ap (byte_at im) (zero-add k))

-- ---- a number that bytes of an image make

-- its low byte
pub low_byte : (x y : ℕ) → x < 256 → (x + 256 * y) % 256 ≡ x
low_byte x y h = omega arith

module _ (im : List ℕ) (byte : (a : ℕ) → byte_at im a < 256) where
  -- two bytes
  pub two_from : (a n : ℕ) → n ≡ byte_at im a + 256 * byte_at im (a + 1) → two_bytes n ≡ bytes_from im a 2
  unfolding bytes_from join_below
  two_from a n e =
      ap₂ ◌∷◌ (ap (λ (n : ℕ). n % 256) e ∙ low_byte (byte_at im a) (byte_at im (a + 1)) (byte a) ∙ ap (byte_at im) (sym (add-zero a)))
      (ap₂ ◌∷◌ (ap (λ (n : ℕ). n / 256 % 256) e ∙ high (byte_at im a) (byte_at im (a + 1)) (byte a) (byte (a + 1))) refl)
    where
      high : (x y : ℕ) → x < 256 → y < 256 → (x + 256 * y) / 256 % 256 ≡ y
      high x y hx hy = omega arith

  -- the low four of its bytes, and what stands above them
  module _ (a h v : ℕ) (e : four_at im a + 4294967296 * h ≡ v) where
    byte_0 : v % 256 ≡ byte_at im a
    byte_0 = omega (arith, byte a, byte (a + 1), byte (a + 2), byte (a + 3))

    byte_1 : v / 256 % 256 ≡ byte_at im (a + 1)
    byte_1 = omega (arith, byte a, byte (a + 1), byte (a + 2), byte (a + 3))

    byte_2 : v / 65536 % 256 ≡ byte_at im (a + 2)
    byte_2 = omega (arith, byte a, byte (a + 1), byte (a + 2), byte (a + 3))

    byte_3 : v / 16777216 % 256 ≡ byte_at im (a + 3)
    byte_3 = omega (arith, byte a, byte (a + 1), byte (a + 2), byte (a + 3))

    pub four_from : four_bytes v ≡ bytes_from im a 4
    unfolding bytes_from join_below
    four_from =
        ap₂ ◌∷◌ (byte_0 ∙ ap (byte_at im) (sym (add-zero a))) (ap₂ ◌∷◌ byte_1 (ap₂ ◌∷◌ byte_2 (ap₂ ◌∷◌ byte_3 refl)))

    above_four : v / 4294967296 ≡ h
    above_four = omega (arith, byte a, byte (a + 1), byte (a + 2), byte (a + 3))

  -- all eight
  pub eight_from : (a : ℕ) → eight_bytes (eight_at im a) ≡ bytes_from im a 8
  eight_from a =
      let h : ℕ = four_at im (a + 4) in
      ap₂ ◌++◌ (four_from a h (eight_at im a) refl) (ap four_bytes (above_four a h (eight_at im a) refl) ∙ four_from (a + 4) 0 h (add-zero h))
      ∙ from_then im a 4 (a + 4) 4 8 refl refl
