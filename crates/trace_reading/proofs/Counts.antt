-- When the count of a path is right, by its parts. Assumes nothing.
use Prim.Native.Nat.{ℕ, ◌+◌, ◌≤◌}
use mathlib.Core.Path.{◌≡◌, refl, sym, ap, ◌∙◌}
use mathlib.Core.Bool.{Bool, true, false, cond, true≢false, false≢true}
use mathlib.Core.List.{List}
use lib.ListN.{length, get_or-eq_default}
use native.Mathlib.Omega.{arith}
use borrow.Author.Tests.{leb-true, ltb-true, le-leb, lt-ltb}
use Rattle.model.specs.Image.{byte_at}
use Rattle.model.proofs.Bools.{parts, and_intro, is_false}
use Rattle.trace_reading.specs.Read.{CountRight, count_right_at, count_at}
use Rattle.std.specs.Prelude.{Option, None, Some}

-- whether there is a count, and how many places there are then
is_right : Option ℕ → Bool
is_right (Some n) = true
is_right None = false

places_of : Option ℕ → ℕ
places_of (Some n) = n
places_of None = 0

module _ (trace : List ℕ) (at : ℕ) where
  right_of : count_right_at trace at ≡ true → CountRight trace at
  unfolding count_right_at
  right_of e =
      record {
        least = leb-true 1 (byte_at trace at) (search parts);
        most = leb-true (byte_at trace at) 9 (search parts);
        within = ltb-true (at + byte_at trace at) (length trace) (search parts);
      }

  right_is : CountRight trace at → count_right_at trace at ≡ true
  unfolding count_right_at
  right_is r = and_intro _ _ (and_intro _ _ (le-leb 1 (byte_at trace at) r.least) (le-leb (byte_at trace at) 9 r.most)) (lt-ltb _ (length trace) r.within)

  -- ---- as it is read

  pub count_wrong : (CountRight trace at → ⊥) → None ≡ count_at trace at
  unfolding count_at
  count_wrong h =
      ap (λ (b : Bool). cond b (Some (byte_at trace at)) None) (is_false (count_right_at trace at) (λ e. h (right_of e)))

  pub count_right : (n : ℕ) → n ≡ byte_at trace at → CountRight trace at → Some n ≡ count_at trace at
  unfolding count_at
  count_right n e r = ap Some e ∙ ap (λ (b : Bool). cond b (Some (byte_at trace at)) None) (sym (right_is r))

  -- behind the end there is none
  pub count_missing : length trace ≤ at → CountRight trace at → ⊥
  count_missing h r = let none = get_or-eq_default trace 0 h in omega (arith, r.least, none)

  -- ---- what a count that was read says

  pub read_right : (n : ℕ) → count_at trace at ≡ Some n → CountRight trace at × (n ≡ byte_at trace at)
  unfolding count_at is_right places_of
  read_right n e = go (count_right_at trace at) refl e
    where
      go : (b : Bool) → count_right_at trace at ≡ b → cond b (Some (byte_at trace at)) None ≡ Some n → CountRight trace at × (n ≡ byte_at trace at)
      go true r e = (right_of r, sym (ap places_of e))
      go false r e = absurd (false≢true (ap is_right e))

  pub read_wrong : count_at trace at ≡ None → CountRight trace at → ⊥
  unfolding count_at is_right
  read_wrong e r =
      absurd (true≢false (ap is_right (ap (λ (b : Bool). cond b (Some (byte_at trace at)) None) (sym (right_is r)) ∙ e)))
