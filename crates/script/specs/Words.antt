-- The words of a line. A line is a list of bytes: blanks stand between its words, and a comment ends it.
use Rattle.std.specs.Prelude.{ℕ, zero, suc, ◌-◌, Bool, true, false, not, cond, ◌&&◌, ◌||◌, List, [], ◌∷◌, length, take, drop, eqb, leb, position, unwrap_or}

-- a space, a tab or a carriage return
unfoldable pub is_blank : ℕ → Bool
is_blank b = eqb b 32 || (eqb b 9 || eqb b 13)

-- what stands in a word
unfoldable pub is_solid : ℕ → Bool
is_solid b = not (is_blank b)

-- `#`
unfoldable pub is_hash : ℕ → Bool
is_hash b = eqb b 35

-- how many bytes stand before the first that passes a test; all, where none does
abbrev pub until : (ℕ → Bool) → List ℕ → ℕ
until test s = unwrap_or (position test s) (length s)

-- what stands before the first `#`
unfoldable pub before_comment : List ℕ → List ℕ
before_comment line = take (until is_hash line) line

-- a text without the blanks that it starts with
unfoldable pub from_word : List ℕ → List ℕ
from_word text = drop (until is_solid text) text

-- a text up to its first blank, and from there on
unfoldable pub to_blank : List ℕ → List ℕ
to_blank text = take (until is_blank text) text

unfoldable pub from_blank : List ℕ → List ℕ
from_blank text = drop (until is_blank text) text

-- a text's first word, empty where there is none, and what stands behind it
unfoldable pub first_word : List ℕ → List ℕ
first_word text = to_blank (from_word text)

unfoldable pub behind_word : List ℕ → List ℕ
behind_word text = from_blank (from_word text)

unfoldable pub is_empty : List ℕ → Bool
is_empty [] = true
is_empty (b ∷ bs) = false

-- a text has no word
unfoldable pub wordless : List ℕ → Bool
wordless text = is_empty (first_word text)

-- two texts are the same
unfoldable pub same_text : List ℕ → List ℕ → Bool
same_text [] [] = true
same_text [] (b ∷ t) = false
same_text (a ∷ s) [] = false
same_text (a ∷ s) (b ∷ t) = eqb a b && same_text s t

-- a text's first word is this one
unfoldable pub starts : List ℕ → List ℕ → Bool
starts text name = same_text (first_word text) name

-- what stands behind the first k words of a text
unfoldable pub after_words : ℕ → List ℕ → List ℕ
after_words zero text = text
after_words (suc k) text = after_words k (behind_word text)

-- what stands behind the first k words of a line, up to its comment
unfoldable pub behind : ℕ → List ℕ → List ℕ
behind k line = after_words k (before_comment line)

-- word k of a line, from 0; empty where there is none
abbrev pub word : ℕ → List ℕ → List ℕ
word k line = first_word (behind k line)

-- a line has k words at most
abbrev pub ends : ℕ → List ℕ → Bool
ends k line = wordless (behind k line)

-- a line's first word is this one
abbrev pub named : List ℕ → List ℕ → Bool
named line name = starts (behind 0 line) name

-- the bytes from a place to another, where the text has both in this order; else none
unfoldable pub part : List ℕ → ℕ → ℕ → List ℕ
part s from to = cond (leb to (length s) && leb from to) (take (to - from) (drop from s)) []
