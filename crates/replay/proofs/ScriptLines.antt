-- The lines of a script, one more with each turn. Assumes nothing.
use Rattle.std.proofs.Common.{◌≡◌, refl, sym, ap, ap₂, subst, ◌∙◌, ℕ, suc, ◌+◌, ◌-◌, ◌≤◌, ◌<◌, Bool, true, false, not, cond, List, [], ◌∷◌, length, take, drop, eqb, arith}
use Rattle.std.proofs.lemmas.List.{length-drop}
use lib.Seq.{take_all}
use native.Mathlib.Decide.{dec_lt}
use borrow.Author.Tests.{lt-ltb}
use Rattle.std.specs.Prelude.{Option, None, Some, unwrap_or, position, nat_lt}
use Rattle.std.specs.List.{before_first, after_first, position_or_len}
use Rattle.model.specs.Memory.{Memory}
use Rattle.script.specs.Commands.{command_of}
use Rattle.replay.specs.Script.{in_front, ends_line, lines_of, Turn, Follows}

-- a text that is not empty: its first line, and the lines behind that line's end
FirstLine : List ℕ → Type 0
FirstLine text = lines_of text ≡ before_first ends_line text ∷ lines_of (after_first ends_line text)

first_line : (b : ℕ) (bs : List ℕ) → FirstLine (b ∷ bs)
unfolding FirstLine lines_of ends_line
first_line b [] = go (eqb b 10)
  where
    go : (ends : Bool)
        → cond ends ([] ∷ []) ((b ∷ []) ∷ [])
        ≡ take (cond (not ends) 1 0) (b ∷ []) ∷ lines_of (drop (cond (not ends) 1 0 + 1) (b ∷ []))
    go true = refl
    go false = refl
first_line b (c ∷ cs) = go (eqb b 10) (position_or_len ends_line (c ∷ cs)) (1 + position_or_len ends_line (c ∷ cs)) (omega arith) (first_line c cs)
  where
    go : (ends : Bool) (k n : ℕ) → n ≡ suc k → lines_of (c ∷ cs) ≡ take k (c ∷ cs) ∷ lines_of (drop (k + 1) (c ∷ cs))
        → cond ends ([] ∷ lines_of (c ∷ cs)) (in_front b (lines_of (c ∷ cs)))
        ≡ take (cond (not ends) n 0) (b ∷ c ∷ cs) ∷ lines_of (drop (cond (not ends) n 0 + 1) (b ∷ c ∷ cs))
    go true k n e h = refl
    go false k n e h =
        let f : suc (k + 1) ≡ n + 1 = omega (arith, e) in
        ap (in_front b) h ∙ ap₂ (λ (i j : ℕ). take i (b ∷ c ∷ cs) ∷ lines_of (drop j (b ∷ c ∷ cs))) (sym e) f

some_lines : (text : List ℕ) → 0 < length text → FirstLine text
some_lines [] l = absurd (omega arith)
some_lines (b ∷ bs) l = first_line b bs

-- the lines before `rest` were played from m₀ to m: whatever the lines of `rest` do, the whole script does from m₀
unfoldable pub SoFar : List ℕ → Memory → List ℕ → Memory → Type 0
SoFar script m₀ rest m = (final : Memory) → Follows (lines_of rest) m final → Follows (lines_of script) m₀ final

pub so_far_none : (script : List ℕ) (m : Memory) → SoFar script m script m
unfolding SoFar
so_far_none script m final rest = rest

pub so_far_ends : (script : List ℕ) (m₀ : Memory) (rest : List ℕ) (m : Memory) → length rest ≡ 0 → SoFar script m₀ rest m → Follows (lines_of script) m₀ m
unfolding SoFar Follows lines_of
so_far_ends script m₀ [] m l before = before m refl
so_far_ends script m₀ (b ∷ bs) m l before = absurd (omega arith)

module _ (rest : List ℕ) (some : 0 < length rest) where
  -- the lines behind the first are fewer bytes
  pub shorter : length (after_first ends_line rest) < length rest
  shorter = omega (arith, length-drop (position_or_len ends_line rest + 1) rest)

  -- one line more
  pub so_far_goes : (script : List ℕ) (m₀ m m₁ : Memory) (line behind : List ℕ) → SoFar script m₀ rest m → line ≡ before_first ends_line rest
      → behind ≡ after_first ends_line rest → Turn (command_of line) m m₁ → SoFar script m₀ behind m₁
  unfolding SoFar Follows FirstLine
  so_far_goes script m₀ m m₁ line behind before is left turn final later =
      before final
      (subst (λ (lines : List (List ℕ)). Follows lines m final) (sym (some_lines rest some))
      (m₁, subst (λ (line : List ℕ). Turn (command_of line) m m₁) is turn, subst (λ (text : List ℕ). Follows (lines_of text) m₁ final) left later))

-- ---- the place of the line's end

cut_at : (b : Bool) (k end : ℕ) → cond b (Some k) None ≡ Some end → end ≡ k
cut_at true k end e = sym (ap (λ (o : Option ℕ). unwrap_or o 0) e)
cut_at false k end e = Prim.cc e

cut_none : (k n : ℕ) → Dec (k < n) → cond (nat_lt k n) (Some k) None ≡ None → n ≤ k
cut_none k n (yes l) e = absurd (some_none (sym (ap (λ (b : Bool). cond b (Some k) None) (lt-ltb k n l)) ∙ e))
  where
    some_none : Some k ≡ None → ⊥
    some_none e = Prim.cc e
cut_none k n (no g) e = omega (arith, g)

module _ (text : List ℕ) where
  pub ends_at : (end : ℕ) → position ends_line text ≡ Some end → end ≡ position_or_len ends_line text
  ends_at end e = cut_at (nat_lt (position_or_len ends_line text) (length text)) _ end e

  pub no_end : position ends_line text ≡ None → length text ≤ position_or_len ends_line text
  no_end e = cut_none _ _ (dec_lt (position_or_len ends_line text) (length text)) e

-- the code's `&text[at..]`
pub from_place : (s : List ℕ) (at : ℕ) → take (length s - at) (drop at s) ≡ drop at s
from_place s at = take_all _ _ (omega (arith, length-drop at s))
