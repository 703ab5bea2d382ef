-- A call as programs hold it, and the book's.
use Rattle.std.specs.Prelude.{ℕ, List}
use Rattle.model.specs.Memory.{Memory}
use Rattle.model.specs.Calls.{fill_call, write_call}
use Rattle.model.specs.Run as book
use Rattle.calls.specs.declared.Call.{Call}
use Rattle.calls.specs.declared.Call.TheVariants.{Found, Read, Begin, Withdraw, Deliver, Lookup, Survey, Verdict, Fill, Write, Trace, Sound}

-- the book's call, with the image or trace that is lent with it and the memory that is lent for output
abbrev pub called : List ℕ → List ℕ → Call → book.Call
called file out (Found b d K id) = book.found b d K id
called file out Read = book.read file
called file out (Begin id gateway) = book.begin id gateway
called file out (Withdraw x) = book.withdraw x
called file out (Deliver x y) = book.deliver x y
called file out (Lookup u z failed) = book.lookup u z failed
called file out (Survey failed) = book.survey failed
called file out Verdict = book.verdict
called file out Fill = book.fill out
called file out (Write version) = book.write version out
called file out Trace = book.trace file
called file out Sound = book.sound

-- the memory for output after the call: only a filling and a writing change it
abbrev pub out_after : Memory → List ℕ → Call → List ℕ
out_after m out (Found b d K id) = out
out_after m out Read = out
out_after m out (Begin id gateway) = out
out_after m out (Withdraw x) = out
out_after m out (Deliver x y) = out
out_after m out (Lookup u z failed) = out
out_after m out (Survey failed) = out
out_after m out Verdict = out
out_after m out Fill = (fill_call m out).out
out_after m out (Write version) = (write_call m version out).out
out_after m out Trace = out
out_after m out Sound = out
