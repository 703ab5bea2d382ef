-- The records of an image: their order by one number, and the rules of one record as statements. im is the image. Assumes nothing.
use Prim.Native.Nat.{ℕ, ◌+◌, ◌-◌, ◌*◌, ◌≤◌, ◌<◌}
use mathlib.Core.Path.{◌≡◌}
use mathlib.Core.Logic.{◌≢◌, ⊎_elim}
use mathlib.Core.Bool.{true, false, not, ◌&&◌, ◌||◌}
use mathlib.Core.List.{List}
use native.Mathlib.Decide.{dec_lt}
use native.Mathlib.Omega.{arith}
use lib.Dec.{eqb, leb, ltb}
use borrow.Author.Tests.{eqb-true, eq-eqb, ne_eqb, leb-true, le-leb, ltb-true, lt-ltb, not-true}
use Rattle.model.specs.Loops.{any_below, count_below}
use Rattle.model.specs.Tables.{qualified}
use Rattle.model.specs.Image.{im_base, im_digits, im_depth, im_id, rec_node, rec_level, rec_digit, rec_neighbor, same_entry, same_neighbor, rises_from, rec_ordered, rec_allowed}
use Rattle.model.proofs.Bools.{same_test, and_left, and_right, and_intro, or_right, or_cases, or_intro_left, or_intro_right}

-- ---- an entry as one number: it rises with node, level and digit, each a byte

abbrev pub entry_key : ℕ → ℕ → ℕ → ℕ
entry_key x i j = 65536 * x + 256 * i + j

module _ (x i j y k l : ℕ) (hi : i < 256) (hj : j < 256) (hk : k < 256) (hl : l < 256) where
  pub key_eq : (eqb x y && (eqb i k && eqb j l)) ≡ eqb (entry_key x i j) (entry_key y k l)
  key_eq = same_test _ _ to from
    where
      to : (eqb x y && (eqb i k && eqb j l)) ≡ true → eqb (entry_key x i j) (entry_key y k l) ≡ true
      to e =
          let rest = and_right (eqb x y) _ e in
          let p : x ≡ y = eqb-true x y (and_left _ _ e) in
          let q : i ≡ k = eqb-true i k (and_left _ _ rest) in
          let r : j ≡ l = eqb-true j l (and_right (eqb i k) _ rest) in
          eq-eqb (entry_key x i j) (entry_key y k l) (omega arith)

      from : eqb (entry_key x i j) (entry_key y k l) ≡ true → (eqb x y && (eqb i k && eqb j l)) ≡ true
      from e =
          let w : 65536 * x + 256 * i + j ≡ 65536 * y + 256 * k + l = eqb-true _ _ e in
          and_intro _ _ (eq-eqb x y (omega arith)) (and_intro _ _ (eq-eqb i k (omega arith)) (eq-eqb j l (omega arith)))

  -- the order of records is that of their keys
  pub key_le : (ltb x y || (eqb x y && (ltb i k || (eqb i k && leb j l)))) ≡ leb (entry_key x i j) (entry_key y k l)
  key_le = same_test _ _ to from
    where
      level : x ≡ y → (ltb i k || (eqb i k && leb j l)) ≡ true → entry_key x i j ≤ entry_key y k l
      level p e =
          ⊎_elim (λ w. let g : i < k = ltb-true i k w in omega arith)
          (λ w.
          let q : i ≡ k = eqb-true i k (and_left _ _ w) in
          let g : j ≤ l = leb-true j l (and_right (eqb i k) _ w) in
          omega arith)
          (or_cases (ltb i k) _ e)

      to : (ltb x y || (eqb x y && (ltb i k || (eqb i k && leb j l)))) ≡ true → leb (entry_key x i j) (entry_key y k l) ≡ true
      to e =
          le-leb (entry_key x i j) (entry_key y k l)
          (⊎_elim (λ w. let g : x < y = ltb-true x y w in omega arith)
          (λ w. level (eqb-true x y (and_left _ _ w)) (and_right (eqb x y) _ w))
          (or_cases (ltb x y) _ e))

      digit : entry_key x i j ≤ entry_key y k l → x ≡ y → Dec (i < k) → (ltb i k || (eqb i k && leb j l)) ≡ true
      digit w p (yes g) = or_intro_left _ _ (lt-ltb i k g)
      digit w p (no g) =
          or_intro_right (ltb i k) _ (and_intro _ _ (eq-eqb i k (omega arith)) (le-leb j l (omega arith)))

      node : entry_key x i j ≤ entry_key y k l → Dec (x < y)
          → (ltb x y || (eqb x y && (ltb i k || (eqb i k && leb j l)))) ≡ true
      node w (yes g) = or_intro_left _ _ (lt-ltb x y g)
      node w (no g) =
          let p : x ≡ y = omega arith in
          or_intro_right (ltb x y) _ (and_intro _ _ (eq-eqb x y p) (digit w p (dec_lt i k)))

      from : leb (entry_key x i j) (entry_key y k l) ≡ true → (ltb x y || (eqb x y && (ltb i k || (eqb i k && leb j l)))) ≡ true
      from e = node (leb-true _ _ e) (dec_lt x y)

-- ---- the rules of record r

module _ (im : List ℕ) (r : ℕ) where
  -- record q is of the same entry
  pub record SameEntry (q : ℕ) : Type 0 where
    pub node : rec_node im q ≡ rec_node im r
    pub level : rec_level im q ≡ rec_level im r
    pub digit : rec_digit im q ≡ rec_digit im r

  pub same_entry_lem : (q : ℕ) → same_entry im r q ≡ true → SameEntry q
  unfolding same_entry
  same_entry_lem q e =
      let rest = and_right (eqb (rec_node im q) (rec_node im r)) _ e in
      record {
        node = eqb-true _ _ (and_left _ _ e);
        level = eqb-true _ _ (and_left _ _ rest);
        digit = eqb-true _ _ (and_right (eqb (rec_level im q) (rec_level im r)) _ rest);
      }

  pub of_same_entry : (q : ℕ) → SameEntry q → same_entry im r q ≡ true
  unfolding same_entry
  of_same_entry q S = and_intro _ _ (eq-eqb _ _ S.node) (and_intro _ _ (eq-eqb _ _ S.level) (eq-eqb _ _ S.digit))

  pub record Ordered : Type 0 where
    pub level : rec_level im r < im_digits im
    pub digit : rec_digit im r < im_base im
    pub rises : r ≢ 0 → rises_from im (r - 1) r ≡ true

  pub in_order : rec_ordered im r ≡ true → Ordered
  unfolding rec_ordered
  in_order e =
      let rest = and_right (ltb (rec_level im r) (im_digits im)) _ e in
      record {
        level = ltb-true _ (im_digits im) (and_left _ _ e);
        digit = ltb-true _ (im_base im) (and_left _ _ rest);
        rises = λ nz. or_right (eqb r 0) _ (and_right (ltb (rec_digit im r) (im_base im)) _ rest) (ne_eqb r 0 nz);
      }

  pub record Allowed : Type 0 where
    pub qual : qualified (im_id im (rec_node im r)) (im_id im (rec_neighbor im r)) (rec_level im r) (rec_digit im r) ≡ true
    pub new : any_below r (same_neighbor im r) ≡ false
    pub room : count_below r (same_entry im r) < im_depth im

  pub is_allowed : rec_allowed im r ≡ true → Allowed
  unfolding rec_allowed
  is_allowed e =
      let rest = and_right (qualified (im_id im (rec_node im r)) (im_id im (rec_neighbor im r)) (rec_level im r) (rec_digit im r)) _ e in
      record {
        qual = and_left _ _ e;
        new = not-true _ (and_left _ _ rest);
        room = ltb-true _ (im_depth im) (and_right (not (any_below r (same_neighbor im r))) _ rest);
      }
