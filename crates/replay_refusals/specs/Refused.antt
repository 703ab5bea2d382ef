-- A refusal in words: its number, the place that it is about, and its sentence of docs/REFUSALS.md in short.
use Rattle.std.specs.Prelude.{ℕ, cond, List, [], ◌++◌, eqb, ltb}
use Rattle.text.specs.Ascii.{ascii}
use Rattle.text.specs.Lines.{labelled}

unfoldable pub sentence_to_8 : ℕ → List ℕ
sentence_to_8 n =
    cond (eqb n 1) (ascii "the lent memory is too short")
    (cond (eqb n 2) (ascii "the state is not sound")
    (cond (eqb n 3) (ascii "the image has fewer than 5 bytes or does not begin with 4")
    (cond (eqb n 4) (ascii "the version is neither 1 nor 2")
    (cond (eqb n 5) (ascii "a setting is out of range")
    (cond (eqb n 6) (ascii "the image's node count is wrong, or its length differs from its counts")
    (cond (eqb n 7) (ascii "an id has a digit not below the base, or a bit above its digits")
    (cond (eqb n 8) (ascii "an id is taken already") [])))))))

unfoldable pub sentence_from_9 : ℕ → List ℕ
sentence_from_9 n =
    cond (eqb n 9) (ascii "a node number is 0 or above the number of nodes")
    (cond (eqb n 10) (ascii "a level or digit is out of range, or the record is below the one before it")
    (cond (eqb n 11) (ascii "there are 64 nodes already")
    (cond (eqb n 12) (ascii "the gateway is not settled")
    (cond (eqb n 13) (ascii "no request from the first node to the second is outstanding")
    (cond (eqb n 14) (ascii "the receiver of a wait request is not settled")
    (cond (eqb n 15) (ascii "a node is not settled")
    (cond (eqb n 16) (ascii "the memory for the output is too short") [])))))))

-- of an own entry: it has no record, where no place is given, or another node is first there
unfoldable pub own_entry : ℕ → List ℕ
own_entry place = cond (eqb place 0) (ascii "an own entry has no record") (ascii "an own entry does not start with its owner")

unfoldable pub sentence_from_17 : ℕ → ℕ → List ℕ
sentence_from_17 n first =
    cond (eqb n 17) (ascii "the neighbour is not qualified, is in its entry already, or finds it full")
    (cond (eqb n 18) (own_entry first)
    (cond (eqb n 19) (ascii "the node is not the highest-numbered one")
    (cond (eqb n 20) (ascii "the node is settled or notifying")
    (cond (eqb n 21) (ascii "the start or the destination has failed")
    (cond (eqb n 22) (ascii "the trace is empty, a path's count is not 1 to 9, or the length does not fit")
    (cond (eqb n 23) (ascii "the step goes to no node of the lookup's entry, or past the destination")
    (cond (eqb n 24) (ascii "the image's state is not sound") [])))))))

-- a number that no sentence has is left without words
unfoldable pub sentence : ℕ → ℕ → List ℕ
sentence n first = cond (ltb n 9) (sentence_to_8 n) (cond (ltb n 17) (sentence_from_9 n) (sentence_from_17 n first))

-- a path, and a place or step of it
unfoldable pub path_text : List ℕ → ℕ → ℕ → List ℕ
path_text label path k = labelled (ascii " at path ") path ++ labelled label k

-- what a refusal is about, by the answer's next two fields, counted from 1: of 9 path and place, of 23 path and step, of any other a record
unfoldable pub place_text : ℕ → ℕ → ℕ → List ℕ
place_text n first second =
    cond (eqb first 0) []
    (cond (eqb n 9) (path_text (ascii ", place ") first second)
    (cond (eqb n 23) (path_text (ascii ", step ") first second) (labelled (ascii " at record ") first)))

unfoldable pub refused_text : ℕ → ℕ → ℕ → List ℕ
refused_text n first second =
    labelled (ascii "refused ") n ++ (place_text n first second ++ (ascii ": " ++ (sentence n first ++ ascii "\n")))
