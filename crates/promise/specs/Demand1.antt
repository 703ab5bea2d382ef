-- Demand 1, about every memory and every call: a refused call changes nothing and gives its number alone, but for the places that reading and traces
-- give, and no call reads or changes what lies past the fixed lengths (document 01, "What a call declines"; document 02, Tickets 2 and 8).
use Rattle.std.specs.Prelude.{ℕ, suc, ◌≡◌, false, List, [], ◌∷◌, get_or}
use Rattle.model.specs.Memory.{Memory}
use Rattle.model.specs.Refusals.{record_place, trace_place}
use Rattle.model.specs.Run.{Call, found, read, begin, withdraw, deliver, lookup, survey, verdict, fill, write, trace, sound, step, is_taken}
use Rattle.promise.specs.Fixed.{fixed, past}

-- the memory for output that a call is lent: none but for filling and writing
abbrev pub output_of : Call → List ℕ
output_of (found b d K id) = []
output_of (read im) = []
output_of (begin id gateway) = []
output_of (withdraw x) = []
output_of (deliver x y) = []
output_of (lookup u z failed) = []
output_of (survey failed) = []
output_of verdict = []
output_of (fill out) = out
output_of (write version out) = out
output_of (trace file) = []
output_of sound = []

-- what a refusal with this number carries: reading's the place of a record, a trace's path and place, and no other call's anything
abbrev pub carried : Memory → Call → ℕ → List ℕ
carried m (found b d K id) number = []
carried m (read im) number = record_place im number ∷ []
carried m (begin id gateway) number = []
carried m (withdraw x) number = []
carried m (deliver x y) number = []
carried m (lookup u z failed) number = []
carried m (survey failed) number = []
carried m verdict number = []
carried m (fill out) number = []
carried m (write version out) number = []
carried m (trace file) number = trace_place m file number
carried m sound number = []

-- a refused call leaves memory and output as they were, and every field of its answer is zero but the refusal and what it carries
pub record ChangesNothing (m : Memory) (c : Call) : Type 0 where
  pub memory : (step m c).memory ≡ m
  pub output : (step m c).out ≡ output_of c
  pub fields : (k : ℕ) → get_or (step m c).answer (suc k) 0 ≡ get_or (carried m c (get_or (step m c).answer 0 0)) k 0

-- memory that differs from m past the fixed lengths at most gives the same answer, output and memory up to there
pub record SameUpToThere (m m' : Memory) (c : Call) : Type 0 where
  pub answer : (step m' c).answer ≡ (step m c).answer
  pub output : (step m' c).out ≡ (step m c).out
  pub memory : fixed (step m' c).memory ≡ fixed (step m c).memory

pub record Demand1 (m : Memory) (c : Call) : Type 0 where
  pub refused : is_taken (step m c).answer ≡ false → ChangesNothing m c
  -- what lies past the fixed lengths is not changed
  pub kept : past (step m c).memory ≡ past m
  -- nor read
  pub unread : (m' : Memory) → fixed m' ≡ fixed m → SameUpToThere m m' c
