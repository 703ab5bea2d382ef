-- The failed nodes that a line names behind `without`, as a set of nodes.
use Rattle.std.specs.Prelude.{ℕ, zero, suc, not, cond, ◌&&◌, List, leb, length, Option, Some, None}
use Rattle.model.specs.Memory.{add_node}
use Rattle.text.specs.Ascii.{ascii}
use Rattle.script.specs.Words.{first_word, behind_word, wordless, starts}
use Rattle.script.specs.Numbers.{decimal_of, if_number}

-- a set with one number more, where a node can have it: 1 to 64. Any other number means nothing.
unfoldable pub add_number : ℕ → ℕ → ℕ
add_number failed u = cond (leb 1 u && leb u 64) (add_node failed u) failed

-- a set with the numbers that the first n words of a text are, or all where it has fewer; no set where one of them is no number
unfoldable pub add_words : ℕ → List ℕ → ℕ → Option ℕ
add_words zero text failed = Some failed
add_words (suc n) text failed =
    cond (wordless text) (Some failed)
    (if_number (decimal_of (first_word text)) (λ u. add_words n (behind_word text) (add_number failed u)) None)

-- the set of the numbers that all words of a text are, of which it has no more than bytes
unfoldable pub failed_in : List ℕ → Option ℕ
failed_in text = add_words (length text) text 0

-- the failed nodes that a text names: none where it has no word, else by `without` and a number at least
unfoldable pub failed_of : List ℕ → Option ℕ
failed_of text =
    cond (wordless text) (Some 0)
    (cond (starts text (ascii "without") && not (wordless (behind_word text))) (failed_in (behind_word text)) None)
