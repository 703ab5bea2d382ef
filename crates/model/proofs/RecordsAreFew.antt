-- A sound state has few records, so its image is short: outside the 28 places of the own entries of levels 0 to 6 each node stands at
-- most once in a table, for an entry that is not the owner's holds nodes that agree with it in exactly the entry's level, and level 7 is
-- the last. Assumes nothing.
use Prim.Native.Nat.{ℕ, ◌+◌, ◌-◌, ◌*◌, ◌/◌, ◌%◌, ◌≤◌, ◌<◌}
use mathlib.Core.Path.{◌≡◌, refl, sym, ap, ap₂, ◌∙◌}
use mathlib.Core.Bool.{Bool, true, false, cond, ◌&&◌}
use mathlib.Core.List.{List}
use native.Mathlib.Decide.{dec_lt}
use native.Mathlib.Omega.{arith}
use lib.Dec.{eqb, ltb}
use lib.ListN.{get_or}
use borrow.Author.Tests.{eqb-true, eqb-false, ltb-true, lt-ltb}
use Rattle.model.specs.Loops.{count_below}
use Rattle.model.specs.Ids.{digit_of}
use Rattle.model.specs.Memory.{node_count, id_of, table_of}
use Rattle.model.specs.Tables.{slot_place}
use Rattle.model.proofs.Bools.{and_left, and_right}
use Rattle.model.proofs.Ids.{low_at, qualified_low, qualified_digit}
use Rattle.model.proofs.Status.{IsNode}
use Rattle.model.proofs.Sound.{SlotOk, Sound, filled_slot}
use Rattle.model.proofs.Counting.{count_most, count_blocks}
use Rattle.model.proofs.Records.{filled_at, place_at, filled_nonzero}

-- a place of a table by its level, digit and slot
pub place_of : (p : ℕ) → 64 * (p / 64) + 4 * (p % 64 / 4) + p % 4 ≡ p
place_of p = omega arith

pub same_place : (p q : ℕ) → p / 64 ≡ q / 64 → p % 64 / 4 ≡ q % 64 / 4 → p % 4 ≡ q % 4 → p ≡ q
same_place p q ei ej ek =
    sym (place_of p)
    ∙ ap₂ (λ (i j : ℕ). 64 * i + 4 * j + p % 4) ei ej
    ∙ ap (λ (k : ℕ). 64 * (q / 64) + 4 * (q % 64 / 4) + k) ek
    ∙ place_of q

module _ (s t : List ℕ) (S : Sound s t) (y : ℕ) (h : y < node_count s) where
  is_node : IsNode s (y + 1)
  is_node = record { low = omega arith; high = omega arith }

  abbrev T : List ℕ
  T = table_of t (y + 1)

  abbrev id : ℕ
  id = id_of s (y + 1)

  abbrev filled : ℕ → Bool
  filled q = filled_at t (512 * y + q)

  at : (q : ℕ) → q < 512 → get_or T q 0 ≡ get_or t (512 * y + q) 0
  at = place_at t y (omega (arith, S.few, S.long.tables))

  pub nonzero : (q : ℕ) → q < 512 → filled q ≡ true → get_or T q 0 ≡ 0 → ⊥
  nonzero q l e z = filled_nonzero t (512 * y + q) e (sym (at q l) ∙ z)

  -- a filled place keeps the rules of a slot
  pub slot_of : (q : ℕ) → q < 512 → filled q ≡ true → SlotOk s (y + 1) T (q / 64) (q % 64 / 4) (q % 4)
  slot_of q l e = (filled_slot s S.settings (y + 1) T (S.tables (y + 1) is_node) q l (nonzero q l e)).0

  -- a place of an own entry, and one below the last of eight levels
  abbrev of_own : ℕ → Bool
  of_own q = eqb (q % 64 / 4) (digit_of (id_of s (y + 1)) (q / 64))

  abbrev pub own : ℕ → Bool
  own q = ltb (q / 64) 7 && of_own q

  pub own_digit : (q : ℕ) → own q ≡ true → q % 64 / 4 ≡ digit_of id (q / 64)
  own_digit q e = eqb-true _ _ (and_right (ltb (q / 64) 7) (of_own q) e)

  not_own : (q : ℕ) → q / 64 < 7 → own q ≡ false → of_own q ≡ false
  not_own q l e = sym (ap (λ (b : Bool). b && of_own q) (lt-ltb (q / 64) 7 l)) ∙ e

  -- a node does not stand twice, but for own entries below the last level
  pub twice : (p q : ℕ) → p < q → q < 512 → filled p ≡ true → filled q ≡ true → own p ≡ false → get_or T p 0 ≡ get_or T q 0 → ⊥
  twice p q l g fp fq other e = go (dec_lt (p / 64) (q / 64))
    where
      P : SlotOk s (y + 1) T (p / 64) (p % 64 / 4) (p % 4)
      P = slot_of p (omega arith) fp

      Q : SlotOk s (y + 1) T (q / 64) (q % 64 / 4) (q % 4)
      Q = slot_of q g fq

      wp : slot_place (p / 64) (p % 64 / 4) (p % 4) ≡ p
      wp = place_of p

      wq : slot_place (q / 64) (q % 64 / 4) (q % 4) ≡ q
      wq = place_of q

      ep : id_of s (get_or T (slot_place (p / 64) (p % 64 / 4) (p % 4)) 0) ≡ id_of s (get_or T q 0)
      ep = ap (id_of s) (ap (λ (p : ℕ). get_or T p 0) wp ∙ e)

      eq : id_of s (get_or T (slot_place (q / 64) (q % 64 / 4) (q % 4)) 0) ≡ id_of s (get_or T q 0)
      eq = ap (id_of s) (ap (λ (p : ℕ). get_or T p 0) wq)

      -- the digit of the node at p's level
      digit : digit_of (id_of s (get_or T q 0)) (p / 64) ≡ p % 64 / 4
      digit = ap (λ (v : ℕ). digit_of v (p / 64)) (sym ep) ∙ qualified_digit _ _ (p / 64) (p % 64 / 4) P.qual

      digit_q : digit_of (id_of s (get_or T q 0)) (q / 64) ≡ q % 64 / 4
      digit_q = ap (λ (v : ℕ). digit_of v (q / 64)) (sym eq) ∙ qualified_digit _ _ (q / 64) (q % 64 / 4) Q.qual

      go : Dec (p / 64 < q / 64) → ⊥
      go (yes lower) =
          eqb-false _ _ (not_own p (omega arith) other)
          (sym digit
          ∙ ap (λ (v : ℕ). digit_of v (p / 64)) (sym eq)
          ∙ sym (low_at _ _ (q / 64) (qualified_low _ _ (q / 64) (q % 64 / 4) Q.qual) (p / 64) lower))
      go (no same) =
          let ei : p / 64 ≡ q / 64 = omega arith in
          let ej : p % 64 / 4 ≡ q % 64 / 4 = sym digit ∙ ap (digit_of (id_of s (get_or T q 0))) ei ∙ digit_q in
          let w : slot_place (q / 64) (q % 64 / 4) (p % 4) ≡ p = omega arith in
          Q.fresh (p % 4) (omega arith) (ap (λ (p : ℕ). get_or T p 0) w ∙ e ∙ sym (ap (λ (p : ℕ). get_or T p 0) wq))

  -- a number below 92 for each filled place: of an own entry below the last level by level and slot, of another by the node
  abbrev code : ℕ → ℕ
  code q = cond (own q) (64 + 4 * (q / 64) + q % 4) (get_or T q 0 - 1)

  pub node_most : (q : ℕ) → q < 512 → filled q ≡ true → get_or T q 0 ≤ 64
  node_most q l e =
      omega (arith, (slot_of q l e).within, S.few, ap (λ (p : ℕ). get_or T p 0) (place_of q))

  code_below : (q : ℕ) → q < 512 → filled q ≡ true → code q < 92
  code_below q l e = go (own q) refl
    where
      go : (b : Bool) → own q ≡ b → cond b (64 + 4 * (q / 64) + q % 4) (get_or T q 0 - 1) < 92
      go true o = omega (arith, ltb-true (q / 64) 7 (and_left _ _ o))
      go false o = omega (arith, node_most q l e)

  code_differs : (p q : ℕ) → p < 512 → q < 512 → filled p ≡ true → filled q ≡ true → code p ≡ code q → p ≡ q
  code_differs p q l g fp fq e = go (own p) (own q) refl refl e
    where
      go : (a b : Bool) → own p ≡ a → own q ≡ b
          → cond a (64 + 4 * (p / 64) + p % 4) (get_or T p 0 - 1) ≡ cond b (64 + 4 * (q / 64) + q % 4) (get_or T q 0 - 1) → p ≡ q
      go true true op oq w =
          let ei : p / 64 ≡ q / 64 = omega arith in
          let ek : p % 4 ≡ q % 4 = omega arith in
          let ej : p % 64 / 4 ≡ q % 64 / 4 = own_digit p op ∙ ap (digit_of id) ei ∙ sym (own_digit q oq) in
          same_place p q ei ej ek
      go true false op oq w = absurd (omega (arith, node_most q g fq))
      go false true op oq w = absurd (omega (arith, node_most p l fp))
      go false false op oq w =
          let nzp : get_or T p 0 ≡ 0 → ⊥ = nonzero p l fp in
          let nzq : get_or T q 0 ≡ 0 → ⊥ = nonzero q g fq in
          let v : get_or T p 0 ≡ get_or T q 0 = omega (arith, nzp, nzq) in
          let below : p < q → ⊥ = λ less. twice p q less g fp fq op v in
          let above : q < p → ⊥ = λ more. twice q p more l fq fp oq (sym v) in
          omega (arith, below, above)

  -- at most 92 filled places in the table
  few_here : count_below 512 filled ≤ 92
  few_here = count_most 512 92 filled code code_below code_differs

-- at most 92 records a node
pub records_few : (s t : List ℕ) → Sound s t → count_below (512 * node_count s) (filled_at t) ≤ 5888
records_few s t S =
    omega (arith, count_blocks 512 (node_count s) 92 (filled_at t) (λ y l. few_here s t S y l), S.few)
