-- What a call of the C interface leaves, its answer packed.
use Rattle.std.specs.Prelude.{ℕ, cond, List, [], get_or, drop}
use Rattle.model.specs.Memory.{Memory}
use Rattle.model.specs.Calls.{Outcome}
use Rattle.model.specs.Run.{is_taken}
use Rattle.packing.specs.Packed.{packed}

-- what a call of the C interface leaves: an outcome whose answer is one number
pub record PackedOutcome : Type 0 where
  pub memory : Memory
  pub out : List ℕ
  pub answer : ℕ

-- the outcome of a call, its answer packed
unfoldable pub packing : Outcome → PackedOutcome
packing o = record { memory = o.memory; out = o.out; answer = packed o.answer }

-- the outcome of a survey in C: where it is taken its counts stand in the nine words that the caller lent, else these are as they were; its
-- answer is the refusal
unfoldable pub surveying : Outcome → List ℕ → PackedOutcome
surveying o counts =
    record { memory = o.memory; out = cond (is_taken o.answer) (drop 1 o.answer) counts; answer = get_or o.answer 0 0 }

-- the memory after a call with no memory for output, and its packed answer
abbrev pub gives : Memory → ℕ → PackedOutcome
gives m answer = record { memory = m; out = []; answer = answer }

-- the memory and the output after a filling, a writing or a survey, and its answer
abbrev pub outputs : Memory → List ℕ → ℕ → PackedOutcome
outputs m out answer = record { memory = m; out = out; answer = answer }
