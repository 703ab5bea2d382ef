-- What a script leaves is the memory of a list of calls, and of every run among them demand 3 holds. Assumes nothing.
use Prim.Native.Nat.{ℕ}
use mathlib.Core.Path.{◌≡◌, refl, sym, ap, ◌∙◌}
use mathlib.Core.Logic.{inl, inr}
use mathlib.Core.List.{List, [], ◌∷◌, ◌++◌}
use Rattle.model.specs.Memory.{Memory}
use Rattle.model.specs.Run as book
use Rattle.model.specs.Run.{play}
use Rattle.promise.proofs.Promise.{play_append, promise}
use Rattle.replay_calls.specs.Called.{called}
use Rattle.script.specs.Commands.{command_of}
use Rattle.script.specs.declared.command.Command.{Command}
use Rattle.script.specs.declared.command.Command.TheVariants.{Nothing, Unknown, Call, Fill, Save, Load, Trace, Panel, Table}
use Rattle.replay.specs.Script.{Turn, Follows, Calls, AllCalls, RunKept}

-- calls of this kind lead from one memory to another
Reached : (List book.Call → Type 0) → Memory → Memory → Type 0
Reached are m left = (calls : List book.Call) × are calls × (left ≡ play m calls)

none : (m m₁ : Memory) → m₁ ≡ m → (calls : List book.Call) × (calls ≡ []) × (m₁ ≡ play m calls)
unfolding play
none m m₁ e = ([], refl, e)

turn : (c : Command) (m m₁ : Memory) → Turn c m m₁ → Reached (Calls c) m m₁
unfolding Reached play
turn Nothing m m₁ e = none m m₁ e
turn Unknown m m₁ e = none m m₁ e
turn (Call c) m m₁ e = (called [] [] c ∷ [], refl, e)
turn Fill m m₁ (out, e) = (book.fill out ∷ [], (out, refl), e)
turn (Save version) m m₁ (out, e) = (book.write version out ∷ [], (out, refl), e)
turn Load m m₁ (inl e) = ([], inl refl, e)
turn Load m m₁ (inr (image, e)) = (book.read image ∷ [], inr (image, refl), e)
turn Trace m m₁ (inl e) = ([], inl refl, e)
turn Trace m m₁ (inr (trace, e)) = (book.trace trace ∷ [], inr (trace, refl), e)
turn Panel m m₁ e = none m m₁ e
turn (Table x) m m₁ e = none m m₁ e

follows : (lines : List (List ℕ)) (m left : Memory) → Follows lines m left → Reached (AllCalls lines) m left
unfolding Reached Follows AllCalls
follows [] m left e = none m left e
follows (line ∷ lines) m left (m₁, t, rest) = go (turn (command_of line) m m₁ t) (follows lines m₁ left rest)
  where
    go : Reached (Calls (command_of line)) m m₁ → Reached (AllCalls lines) m₁ left → Reached (AllCalls (line ∷ lines)) m left
    go (early, is, e) (late, are, f) =
        (early ++ late, (early, late, is, are, refl), f ∙ ap (λ (m : Memory). play m late) e ∙ sym (play_append m early late))

pub run_kept : (lines : List (List ℕ)) (m left : Memory) → Follows lines m left → RunKept lines m left
unfolding Reached
run_kept lines m left f =
    let r = follows lines m left f in
    record { calls = r.0; calls_are = r.1; left_is = r.2; promise = λ before c cs e run. promise (play m before) c cs run }
