-- Laws of the words of a text, as the code cuts them off. Assumes nothing.
use Prim.Native.Nat.{ℕ, suc, ◌-◌, ◌≤◌, ◌<◌}
use mathlib.Core.Path.{◌≡◌, sym, ap, ◌∙◌}
use mathlib.Core.Bool.{false}
use mathlib.Core.List.{List}
use native.Mathlib.Omega.{arith}
use lib.Dec.{eqb}
use lib.ListN.{length, take, drop, length-take, length-drop}
use lib.Seq.{take_all}
use borrow.Author.Tests.{eqb-false}
use Rattle.script.specs.Words.{is_blank, is_solid, is_hash, until, before_comment, from_word, to_blank, from_blank, first_word, behind_word, is_empty, wordless, after_words, behind}
use Rattle.script.proofs.Texts.{empty_is}

-- the code's `&s[at..]`
from_place : (s : List ℕ) (at : ℕ) → take (length s - at) (drop at s) ≡ drop at s
from_place s at =
    let h : length (drop at s) ≤ length s - at = simp length-drop (omega arith) in
    take_all _ _ h

pub from_word_is : (s : List ℕ) (at : ℕ) → at ≡ until is_solid s → take (length s - at) (drop at s) ≡ from_word s
unfolding from_word
from_word_is s at e = from_place s at ∙ ap (λ (n : ℕ). drop n s) e

-- ---- the first word

module _ (text w : List ℕ) (at : ℕ) (p : w ≡ from_word text) (q : at ≡ until is_blank w) where
  pub first_word_is : take at w ≡ first_word text
  unfolding first_word to_blank
  first_word_is = rw q (ap (λ (v : List ℕ). take (until is_blank v) v) p)

  pub behind_word_is : take (length w - at) (drop at w) ≡ behind_word text
  unfolding behind_word from_blank
  behind_word_is = from_place w at ∙ rw q (ap (λ (v : List ℕ). drop (until is_blank v) v) p)

pub wordless_is : (text w : List ℕ) → w ≡ first_word text → eqb (length w) 0 ≡ wordless text
unfolding wordless
wordless_is text w e = empty_is w ∙ ap is_empty e

-- ---- the words behind

module _ (k : ℕ) (text : List ℕ) (left : ℕ) (rest : List ℕ) (e : after_words k text ≡ after_words left rest) where
  pub words_go : (r : List ℕ) → 0 < left → r ≡ behind_word rest → after_words k text ≡ after_words (left - 1) r
  unfolding after_words
  words_go r l p =
      let h : left ≡ suc (left - 1) = omega arith in
      e ∙ ap (λ (n : ℕ). after_words n rest) h ∙ ap (after_words (left - 1)) (sym p)

  pub words_end : left ≤ 0 → rest ≡ after_words k text
  unfolding after_words
  words_end l = let h : left ≡ 0 = omega arith in sym (e ∙ ap (λ (n : ℕ). after_words n rest) h)

pub behind_is : (k : ℕ) (line : List ℕ) (end : ℕ) (r : List ℕ) → end ≡ until is_hash line → r ≡ after_words k (take end line) → r ≡ behind k line
unfolding behind before_comment
behind_is k line end r q e = e ∙ ap (λ (n : ℕ). after_words k (take n line)) q

-- ---- a word takes a byte at least

drop_shorter : (m : ℕ) (s : List ℕ) → is_empty (take m s) ≡ false → length (drop m s) < length s
drop_shorter m s h =
    let n : length (take m s) ≡ 0 → ⊥ = eqb-false (length (take m s)) 0 (empty_is (take m s) ∙ h) in
    simp length-drop (omega (arith, simp length-take at n))

pub word_takes : (text : List ℕ) → wordless text ≡ false → length (behind_word text) < length text
unfolding wordless first_word behind_word to_blank from_blank from_word
word_takes text h =
    let l : length (behind_word text) < length (from_word text) = drop_shorter (until is_blank (from_word text)) (from_word text) h in
    let g : length (from_word text) ≤ length text = simp length-drop (omega arith) in
    omega arith
