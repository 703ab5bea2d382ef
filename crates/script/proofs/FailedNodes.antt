-- Laws of the failed nodes that a text names. Assumes nothing.
use Rattle.std.specs.Prelude.{Option, Some, None}
use Prim.Native.Nat.{ℕ, zero, suc, ◌≤◌, ◌<◌}
use mathlib.Core.Path.{◌≡◌, refl, sym, ap, ◌∙◌}
use mathlib.Core.Bool.{Bool, true, false, not}
use mathlib.Core.List.{List}
use native.Mathlib.Omega.{arith}
use lib.ListN.{length}
use borrow.Author.Tests.{not-true, not-false}
use Rattle.script.specs.Words.{first_word, behind_word, wordless}
use Rattle.script.specs.Numbers.{decimal_of}
use Rattle.script.specs.Failed.{add_number, add_words, failed_in}
use Rattle.script.proofs.Cuts.{word_takes}

-- ---- the words of a text, one after another

none_left : (n : ℕ) (text : List ℕ) (failed : ℕ) → wordless text ≡ true → add_words n text failed ≡ Some failed
unfolding add_words
none_left zero text failed h = refl
none_left (suc n) text failed h = rw h

module _ (n : ℕ) (text : List ℕ) (failed : ℕ) (h : wordless text ≡ false) where
  no_number : decimal_of (first_word text) ≡ None → add_words (suc n) text failed ≡ None
  unfolding add_words
  no_number q = rw (h, q)

  next_number : (u : ℕ) → decimal_of (first_word text) ≡ Some u
      → add_words (suc n) text failed ≡ add_words n (behind_word text) (add_number failed u)
  unfolding add_words
  next_number u q = rw (h, q)

short_text : (text : List ℕ) → length text ≤ 0 → wordless text ≡ true
short_text text l = go (wordless text) refl
  where
    go : (b : Bool) → wordless text ≡ b → b ≡ true
    go true h = refl
    go false h = absurd (omega (arith, word_takes text h))

-- each word takes a byte, so a text has no more words than bytes: to read more of them changes nothing
pub all_words : (n m : ℕ) (text : List ℕ) (failed : ℕ) → length text ≤ n → length text ≤ m → add_words n text failed ≡ add_words m text failed
all_words zero m text failed l g =
    let h = short_text text l in
    none_left 0 text failed h ∙ sym (none_left m text failed h)
all_words (suc n) zero text failed l g =
    let h = short_text text g in
    none_left (suc n) text failed h ∙ sym (none_left 0 text failed h)
all_words (suc n) (suc m) text failed l g =
    go
    (wordless text)
    (decimal_of (first_word text))
    refl
    refl
    (λ u (t : length (behind_word text) < length text). all_words n m (behind_word text) (add_number failed u) (omega arith) (omega arith))
  where
    go : (b : Bool) (x : Option ℕ) → wordless text ≡ b → decimal_of (first_word text) ≡ x
        → ((u : ℕ) → length (behind_word text) < length text
        → add_words n (behind_word text) (add_number failed u) ≡ add_words m (behind_word text) (add_number failed u))
        → add_words (suc n) text failed ≡ add_words (suc m) text failed
    go true x h q more = none_left (suc n) text failed h ∙ sym (none_left (suc m) text failed h)
    go false None h q more = no_number n text failed h q ∙ sym (no_number m text failed h q)
    go false (Some u) h q more = next_number n text failed h u q ∙ more u (word_takes text h) ∙ sym (next_number m text failed h u q)

-- ---- the code's loop, whose set so far is `failed` with `rest` still to read; b, w, x, s and r are what it has computed

pub failed_holds : (text : List ℕ) → failed_in text ≡ add_words (length text) text 0
unfolding failed_in
failed_holds text = refl

module _ (text : List ℕ) (failed : ℕ) (rest : List ℕ) (e : failed_in text ≡ add_words (length rest) rest failed) (b : Bool)
    (p : b ≡ wordless rest) where
  pub failed_ends : not b ≡ false → Some failed ≡ failed_in text
  failed_ends h = sym (e ∙ none_left (length rest) rest failed (sym p ∙ not-false b h))

  module _ (h : not b ≡ true) where
    a_word : wordless rest ≡ false
    a_word = sym p ∙ not-true b h

    pub rest_shorter : (r : List ℕ) → r ≡ behind_word rest → length r < length rest
    rest_shorter r q = rw q (word_takes rest a_word)

    module _ (w : List ℕ) (x : Option ℕ) (q : w ≡ first_word rest) (d : x ≡ decimal_of w) where
      read : decimal_of (first_word rest) ≡ x
      read = ap decimal_of (sym q) ∙ sym d

      more : failed_in text ≡ add_words (suc (length rest)) rest failed
      more = e ∙ all_words (length rest) (suc (length rest)) rest failed (omega arith) (omega arith)

      pub failed_leaves : x ≡ None → None ≡ failed_in text
      failed_leaves o = sym (more ∙ no_number (length rest) rest failed a_word (read ∙ o))

      pub failed_goes : (u s : ℕ) (r : List ℕ) → x ≡ Some u → s ≡ add_number failed u → r ≡ behind_word rest
          → failed_in text ≡ add_words (length r) r s
      failed_goes u s r o f z =
          let l = rest_shorter (behind_word rest) refl in
          more ∙ next_number (length rest) rest failed a_word u (read ∙ o)
          ∙ all_words (length rest) (length (behind_word rest)) (behind_word rest) (add_number failed u) (omega arith) (omega arith)
          ∙ rw (z, f)
