-- A line of a script as a command.
use Rattle.std.specs.Prelude.{ℕ, cond, List, Option, Some, None}
use Rattle.calls.specs.declared.Call.TheVariants as call
use Rattle.text.specs.Ascii.{ascii}
use Rattle.script.specs.Words.{behind, word, ends, named}
use Rattle.script.specs.Numbers.{if_number, decimal_of, hexadecimal_of}
use Rattle.script.specs.Failed.{failed_of}
use Rattle.script.specs.declared.command.Command.{Command}
use Rattle.script.specs.declared.command.Command.TheVariants.{Nothing, Unknown, Call, Fill, Save, Load, Trace, Panel, Table}

-- what is made of a number or an id; where there is none, the line is not understood

abbrev pub of_number : Option ℕ → (ℕ → Command) → Command
of_number x make = if_number x make Unknown

abbrev pub of_id : Option ℕ → (ℕ → Command) → Command
of_id (Some n) make = make n
of_id None make = Unknown

-- the same of word k

abbrev pub with_number : ℕ → List ℕ → (ℕ → Command) → Command
with_number k line make = of_number (decimal_of (word k line)) make

abbrev pub with_id : ℕ → List ℕ → (ℕ → Command) → Command
with_id k line make = of_id (hexadecimal_of (word k line)) make

-- the same of the failed nodes that the words from k on name
abbrev pub with_failed : ℕ → List ℕ → (ℕ → Command) → Command
with_failed k line make = of_number (failed_of (behind k line)) make

-- a command, where the line has k words at most; a word too many is not understood
unfoldable pub ends_with : ℕ → List ℕ → Command → Command
ends_with k line c = cond (ends k line) c Unknown

-- a command made of a node's number, which is word 1 and ends the line
unfoldable pub of_node : List ℕ → (ℕ → Command) → Command
of_node line make = with_number 1 line (λ x. ends_with 2 line (make x))

unfoldable pub found : List ℕ → Command
found line =
    with_number 1 line (λ base. with_number 2 line (λ digits. with_number 3 line (λ depth. with_id 4 line (λ id.
    ends_with 5 line (Call (call.Found base digits depth id))))))

unfoldable pub begin : List ℕ → Command
begin line = with_id 1 line (λ id. with_number 2 line (λ gateway. ends_with 3 line (Call (call.Begin id gateway))))

abbrev pub withdraw : List ℕ → Command
withdraw line = of_node line (λ x. Call (call.Withdraw x))

unfoldable pub deliver : List ℕ → Command
deliver line = with_number 1 line (λ sender. with_number 2 line (λ receiver. ends_with 3 line (Call (call.Deliver sender receiver))))

unfoldable pub lookup : List ℕ → Command
lookup line = with_number 1 line (λ from. with_number 2 line (λ to. with_failed 3 line (λ failed. Call (call.Lookup from to failed))))

unfoldable pub survey : List ℕ → Command
survey line = with_failed 1 line (λ failed. Call (call.Survey failed))

abbrev pub table : List ℕ → Command
table line = of_node line Table

-- a command whose word 1 names a file, which ends the line
unfoldable pub of_file : List ℕ → Command → Command
of_file line c = cond (ends 1 line) Unknown (ends_with 2 line c)

-- saving: word 1 names the file, and word 2, where there is one, the version; without it the version is 1
unfoldable pub save : List ℕ → Command
save line = cond (ends 2 line) (of_file line (Save 1)) (with_number 2 line (λ version. ends_with 3 line (Save version)))

-- the commands that are more than a call: filling, which lists, those that need a file, and those that show records
unfoldable pub file_or_shown : List ℕ → Command
file_or_shown line =
    cond (named line (ascii "fill")) (ends_with 1 line Fill)
    (cond (named line (ascii "save")) (save line)
    (cond (named line (ascii "load")) (of_file line Load)
    (cond (named line (ascii "trace")) (of_file line Trace)
    (cond (named line (ascii "panel")) (ends_with 1 line Panel)
    (cond (named line (ascii "table")) (table line) Unknown)))))

-- a line's command, by its first word
unfoldable pub command_of : List ℕ → Command
command_of line =
    cond (ends 0 line) Nothing
    (cond (named line (ascii "found")) (found line)
    (cond (named line (ascii "begin")) (begin line)
    (cond (named line (ascii "withdraw")) (withdraw line)
    (cond (named line (ascii "deliver")) (deliver line)
    (cond (named line (ascii "lookup")) (lookup line)
    (cond (named line (ascii "survey")) (survey line)
    (cond (named line (ascii "verdict")) (ends_with 1 line (Call call.Verdict))
    (cond (named line (ascii "sound")) (ends_with 1 line (Call call.Sound))
    (file_or_shown line)))))))))
