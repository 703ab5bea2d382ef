-- Answers in ten words: the refusal, the answer's other fields, and zeros behind them.
use Rattle.std.specs.Prelude.{ℕ, ◌≡◌, cond, List, [], ◌∷◌, Result, Ok, Err, get_or}
use Rattle.model.specs.Memory.{Memory}
use Rattle.model.specs.Calls.{Outcome}
use Rattle.answers.specs.Numbers.{number_of}
use Rattle.answers.specs.Fields.{taken_fields, short_fields}
use Rattle.calls.specs.declared.Call.{Call}
use Rattle.replay_refusals.specs.declared.Refused as refusal
use Rattle.replay_words.specs.Said.{said}
use Rattle.replay_words.specs.Words.{words_of}
use Rattle.replay_words.specs.declared.said.Said.{Said}
use Rattle.replay_words.specs.declared.said.Said.TheVariants.{Refused, Founded, Loaded, Begun, Withdrawn, Delivered, LookedUp, Surveyed, Judged, Filled, Saved, Traced, Sound}

abbrev pub padded : List ℕ → List ℕ
padded fields =
    get_or fields 0 0
    ∷ get_or fields 1 0
    ∷ get_or fields 2 0
    ∷ get_or fields 3 0
    ∷ get_or fields 4 0
    ∷ get_or fields 5 0
    ∷ get_or fields 6 0
    ∷ get_or fields 7 0
    ∷ get_or fields 8 0
    ∷ get_or fields 9 0
    ∷ []

-- what a call leaves, its answer in ten words
pub record Played : Type 0 where
  pub memory : Memory
  pub words : List ℕ

unfoldable pub playing : Outcome → Played
playing o = record { memory = o.memory; words = padded o.answer }

-- the same as the code holds it: only the counts of a survey fill the words
abbrev pub listed : Said → List ℕ
listed (Refused r) = padded (number_of r.refusal ∷ r.first ∷ r.second ∷ [])
listed Founded = padded (0 ∷ [])
listed (Loaded bytes) = padded (0 ∷ [])
listed (Begun node) = padded (0 ∷ node ∷ [])
listed (Withdrawn node) = padded (0 ∷ [])
listed (Delivered d) = padded (0 ∷ taken_fields d)
listed (LookedUp l) = padded (0 ∷ cond l.arrived 1 0 ∷ l.hops ∷ l.last ∷ [])
listed (Surveyed s) = 0 ∷ s.counts
listed (Judged short) = padded (0 ∷ short_fields short)
listed (Filled additions) = padded (0 ∷ additions ∷ [])
listed (Saved bytes) = padded (0 ∷ bytes ∷ [])
listed (Traced paths) = padded (0 ∷ [])
listed Sound = padded (0 ∷ [])

abbrev pub shown : Memory → Said → Played
shown m s = record { memory = m; words = listed s }

-- what is said of a refusal, or of a call that was taken
abbrev pub said_of : Result Said refusal.Refused → Said
said_of (Ok s) = s
said_of (Err r) = Refused r

-- what is said is the answer in words: of a call with this file, in a network of d digits
abbrev pub Says : ℕ → List ℕ → Call → Said → Type 0
Says d file c s = words_of s ≡ said d file c (listed s)
