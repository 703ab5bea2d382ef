-- What a script does to the network: its lines one after another, each by the book's call. What a file holds is not known here: a line
-- that loads or traces one has some bytes, or does nothing where the file cannot be read.
use Rattle.std.specs.Prelude.{ℕ, ◌≡◌, ◌⊎◌, Bool, true, cond, List, [], ◌∷◌, ◌++◌, eqb}
use Rattle.model.specs.Memory.{Memory}
use Rattle.model.specs.Run as book
use Rattle.model.specs.Run.{after, play, is_run}
use Rattle.promise.specs.Promise.{Promise}
use Rattle.calls.specs.declared.Call as calls
use Rattle.calls.specs.declared.Call.TheVariants as call
use Rattle.replay_calls.specs.Called.{called}
use Rattle.script.specs.Commands.{command_of}
use Rattle.script.specs.declared.command.Command.{Command}
use Rattle.script.specs.declared.command.Command.TheVariants.{Nothing, Unknown, Call, Fill, Save, Load, Trace, Panel, Table}

-- one byte more at the start of the first line
abbrev pub in_front : ℕ → List (List ℕ) → List (List ℕ)
in_front b [] = (b ∷ []) ∷ []
in_front b (line ∷ lines) = (b ∷ line) ∷ lines

-- byte 10 ends a line
unfoldable pub ends_line : ℕ → Bool
ends_line b = eqb b 10

-- the lines of a script: byte 10 ends one, and the last may do without
unfoldable pub lines_of : List ℕ → List (List ℕ)
lines_of [] = []
lines_of (b ∷ bs) = let more = lines_of bs in cond (eqb b 10) ([] ∷ more) (in_front b more)

-- the additions were listed to some memory
abbrev pub Filled : Memory → Memory → Type 0
Filled m m₁ = (out : List ℕ) × (m₁ ≡ after m (book.fill out))

-- the image was written to some memory
abbrev pub Saved : ℕ → Memory → Memory → Type 0
Saved version m m₁ = (out : List ℕ) × (m₁ ≡ after m (book.write version out))

-- a call was played, of the bytes of some file, or nothing was done
abbrev pub FilePlayed : calls.Call → Memory → Memory → Type 0
FilePlayed c m m₁ = (m₁ ≡ m) ⊎ ((file : List ℕ) × (m₁ ≡ after m (called file [] c)))

-- an image was read
abbrev pub Loaded : Memory → Memory → Type 0
Loaded = FilePlayed call.Read

-- a trace was checked
abbrev pub Traced : Memory → Memory → Type 0
Traced = FilePlayed call.Trace

-- what a command does: m before it, m₁ after it
abbrev pub Turn : Command → Memory → Memory → Type 0
Turn Nothing m m₁ = m₁ ≡ m
Turn Unknown m m₁ = m₁ ≡ m
Turn (Call c) m m₁ = m₁ ≡ after m (called [] [] c)
Turn Fill m m₁ = Filled m m₁
Turn (Save version) m m₁ = Saved version m m₁
Turn Load m m₁ = Loaded m m₁
Turn Trace m m₁ = Traced m m₁
Turn Panel m m₁ = m₁ ≡ m
Turn (Table x) m m₁ = m₁ ≡ m

-- the lines, one after another
unfoldable pub Follows : List (List ℕ) → Memory → Memory → Type 0
Follows [] m left = left ≡ m
Follows (line ∷ lines) m left = (m₁ : Memory) × Turn (command_of line) m m₁ × Follows lines m₁ left

-- ---- the calls of a script

-- the calls of a command
abbrev pub Calls : Command → List book.Call → Type 0
Calls Nothing cs = cs ≡ []
Calls Unknown cs = cs ≡ []
Calls (Call c) cs = cs ≡ called [] [] c ∷ []
Calls Fill cs = (out : List ℕ) × (cs ≡ book.fill out ∷ [])
Calls (Save version) cs = (out : List ℕ) × (cs ≡ book.write version out ∷ [])
Calls Load cs = (cs ≡ []) ⊎ ((image : List ℕ) × (cs ≡ book.read image ∷ []))
Calls Trace cs = (cs ≡ []) ⊎ ((trace : List ℕ) × (cs ≡ book.trace trace ∷ []))
Calls Panel cs = cs ≡ []
Calls (Table x) cs = cs ≡ []

-- the calls of the lines, one line's behind another's
unfoldable pub AllCalls : List (List ℕ) → List book.Call → Type 0
AllCalls [] cs = cs ≡ []
AllCalls (line ∷ lines) cs =
    (first : List book.Call) × (rest : List book.Call) × Calls (command_of line) first × AllCalls lines rest × (cs ≡ first ++ rest)

-- the memory that a script leaves is that of its calls, and of every run among them demand 3 holds
pub record RunKept (lines : List (List ℕ)) (m left : Memory) : Type 0 where
  pub calls : List book.Call
  pub calls_are : AllCalls lines calls
  pub left_is : left ≡ play m calls
  pub promise : (before : List book.Call) (c : book.Call) (cs : List book.Call) → calls ≡ before ++ (c ∷ cs) → is_run (play m before) c cs ≡ true
      → Promise (play m before) c cs
