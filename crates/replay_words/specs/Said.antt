-- The answer of a call in words, in a network of d digits. w is the answer, the refusal first, and `file` the image or trace that is lent with the call.
use Rattle.std.specs.Prelude.{ℕ, cond, List, ◌++◌, eqb, length, get_or, drop}
use Rattle.model.specs.Join.{kind_copied, kind_sent_on, kind_attached}
use Rattle.model.specs.Traces.{path_count}
use Rattle.calls.specs.declared.Call.{Call}
use Rattle.calls.specs.declared.Call.TheVariants.{Found, Read, Begin, Withdraw, Deliver, Lookup, Survey, Verdict, Fill, Write, Trace, Sound}
use Rattle.text.specs.Ascii.{ascii}
use Rattle.text.specs.Lines.{labelled, line}
use Rattle.replay_survey.specs.SurveyText.{survey_said}
use Rattle.replay_entries.specs.EntryText.{place_text}
use Rattle.replay_refusals.specs.Refused.{refused_text}

-- a label, how many bytes, and the line's end
unfoldable pub bytes_text : List ℕ → ℕ → List ℕ
bytes_text label n = labelled label n ++ ascii " bytes\n"

-- what a delivery was
unfoldable pub kind_text : ℕ → ℕ → List ℕ
kind_text kind level =
    cond (eqb kind kind_copied) (ascii "deliver: copied")
    (cond (eqb kind kind_sent_on) (ascii "deliver: sent on")
    (cond (eqb kind kind_attached) (labelled (ascii "deliver: attached at level ") level) (ascii "deliver: notified")))

-- whether the sender settled
unfoldable pub settled_text : ℕ → List ℕ
settled_text settled = cond (eqb settled 1) (ascii ", settled\n") (ascii "\n")

unfoldable pub deliver_text : List ℕ → List ℕ
deliver_text w = kind_text (get_or w 1 0) (get_or w 2 0) ++ settled_text (get_or w 3 0)

unfoldable pub end_text : ℕ → List ℕ
end_text arrived = cond (eqb arrived 1) (ascii "lookup: arrived at ") (ascii "lookup: lost at ")

-- a label, a number, and what it is a number of: one, or any other number
unfoldable pub count_text : List ℕ → ℕ → List ℕ → List ℕ → List ℕ
count_text label n one many = labelled label n ++ cond (eqb n 1) one many

abbrev pub hops_text : ℕ → List ℕ
hops_text hops = count_text (ascii " in ") hops (ascii " hop\n") (ascii " hops\n")

unfoldable pub lookup_text : List ℕ → List ℕ
lookup_text w = labelled (end_text (get_or w 1 0)) (get_or w 3 0) ++ hops_text (get_or w 2 0)

-- an entry that falls short
unfoldable pub short_text : ℕ → ℕ → ℕ → List ℕ
short_text x i j = place_text (ascii "verdict: node ") x i j ++ ascii " falls short\n"

unfoldable pub judged_text : List ℕ → List ℕ
judged_text w =
    cond (eqb (get_or w 1 0) 1) (ascii "verdict: consistent\n") (short_text (get_or w 2 0) (get_or w 3 0) (get_or w 4 0))

abbrev pub additions_text : ℕ → List ℕ
additions_text n = count_text (ascii "fill: ") n (ascii " addition\n") (ascii " additions\n")

abbrev pub paths_text : ℕ → List ℕ
paths_text paths = count_text (ascii "trace: ") paths (ascii " path accepted\n") (ascii " paths accepted\n")

-- a call that was taken
unfoldable pub taken_text : ℕ → List ℕ → Call → List ℕ → List ℕ
taken_text d file (Found b digits K id) w = ascii "found: node 1\n"
taken_text d file Read w = bytes_text (ascii "load: ") (length file)
taken_text d file (Begin id gateway) w = line (ascii "begin: node ") (get_or w 1 0)
taken_text d file (Withdraw x) w = line (ascii "withdraw: node ") x
taken_text d file (Deliver x y) w = deliver_text w
taken_text d file (Lookup u z failed) w = lookup_text w
taken_text d file (Survey failed) w = survey_said d (drop 1 w)
taken_text d file Verdict w = judged_text w
taken_text d file Fill w = additions_text (get_or w 1 0)
taken_text d file (Write version) w = bytes_text (ascii "save: ") (get_or w 1 0)
taken_text d file Trace w = paths_text (path_count file)
taken_text d file Sound w = ascii "sound: the state is sound\n"

-- what is said of any answer: refused or taken. Behind the refusal stand the places that reading and tracing give, and zeros in every other refused call
unfoldable pub said : ℕ → List ℕ → Call → List ℕ → List ℕ
said d file c w = cond (eqb (get_or w 0 0) 0) (taken_text d file c w) (refused_text (get_or w 0 0) (get_or w 1 0) (get_or w 2 0))
