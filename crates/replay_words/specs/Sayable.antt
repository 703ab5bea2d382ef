-- An answer in ten words, and what its words ask of their callers.
use Rattle.std.specs.Prelude.{ℕ, ◌≡◌, List, ◌∷◌, get_or, drop}
use Rattle.calls.specs.declared.Call.{Call}
use Rattle.calls.specs.declared.Call.TheVariants.{Survey}
use Rattle.replay_survey.specs.Showable.{Showable}
use Rattle.replay_words.specs.declared.answer.Words.{Words}

-- the refusal, and the answer's other fields
abbrev pub listed : Words → List ℕ
listed w = w.refusal ∷ w.fields

-- a survey that was taken has at most 8 digits and no count above 4,096
pub record Sayable (d : ℕ) (c : Call) (w : List ℕ) : Type 0 where
  pub survey : (failed : ℕ) → c ≡ Survey failed → get_or w 0 0 ≡ 0 → Showable d (drop 1 w)
