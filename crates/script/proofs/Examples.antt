-- Lines and their commands, by computation.
use Prim.Native.Nat.{◌+◌, ◌^◌}
use mathlib.Core.Path.{◌≡◌, refl}
use Rattle.calls.specs.declared.Call.TheVariants as call
use Rattle.model.specs.Memory.{has_node, add_node}
use Rattle.text.specs.Ascii.{ascii}
use Rattle.script.specs.Words.{is_blank, is_solid, is_hash, before_comment, from_word, to_blank, from_blank, first_word, behind_word, is_empty, wordless, same_text, starts, after_words, behind}
use Rattle.script.specs.Numbers.{digit, are_digits, value_from, is_number, value_of, number_of, hexadecimal_of}
use Rattle.script.specs.Failed.{add_number, add_words, failed_in, failed_of}
use Rattle.script.specs.Commands.{ends_with, of_node, of_file, found, begin, deliver, lookup, survey, save, file_or_shown, command_of}
use Rattle.script.specs.declared.command.Command.TheVariants.{Nothing, Unknown, Call, Fill, Save, Trace, Panel, Table}

unfoldable computing : Unit {0}
unfolding is_blank is_solid is_hash before_comment from_word to_blank from_blank first_word behind_word is_empty wordless same_text starts after_words behind digit are_digits value_from is_number value_of number_of hexadecimal_of has_node add_node add_number add_words failed_in failed_of ends_with of_node of_file found begin deliver lookup survey save file_or_shown command_of
computing = tt

pub founding : command_of (ascii "found 16 8 4 0fFfffffF") ≡ Call (call.Found 16 8 4 4294967295)
unfolding computing
founding = refl

pub withdrawing : command_of (ascii "withdraw 3") ≡ Call (call.Withdraw 3)
unfolding computing
withdrawing = refl

pub commented : command_of (ascii "  deliver\t2 1# and so on\r") ≡ Call (call.Deliver 2 1)
unfolding computing
commented = refl

pub surveying : command_of (ascii "survey") ≡ Call (call.Survey 0)
unfolding computing
surveying = refl

pub failed_nodes : command_of (ascii "lookup 1 2 without 3 64") ≡ Call (call.Lookup 1 2 (2 ^ 2 + 2 ^ 63))
unfolding computing
failed_nodes = refl

pub failed_twice : command_of (ascii "survey without 7 7 # c") ≡ Call (call.Survey (2 ^ 6))
unfolding computing
failed_twice = refl

pub numbers_of_no_node : command_of (ascii "lookup 1 2 without 0 65") ≡ Call (call.Lookup 1 2 0)
unfolding computing
numbers_of_no_node = refl

pub failed_no_number : command_of (ascii "survey without x") ≡ Unknown
unfolding computing
failed_no_number = refl

pub without_nothing : command_of (ascii "lookup 1 2 without") ≡ Unknown
unfolding computing
without_nothing = refl

pub without_left_out : command_of (ascii "lookup 1 2 3") ≡ Unknown
unfolding computing
without_left_out = refl

pub empty_line : command_of (ascii " # verdict") ≡ Nothing
unfolding computing
empty_line = refl

pub word_too_many : command_of (ascii "verdict now") ≡ Unknown
unfolding computing
word_too_many = refl

pub word_too_few : command_of (ascii "save #network") ≡ Unknown
unfolding computing
word_too_few = refl

pub id_of_33_bits : command_of (ascii "begin 100000000 1") ≡ Unknown
unfolding computing
id_of_33_bits = refl

pub number_of_64_bits : command_of (ascii "table 18446744073709551615") ≡ Table 18446744073709551615
unfolding computing
number_of_64_bits = refl

pub number_of_65_bits : command_of (ascii "table 18446744073709551616") ≡ Unknown
unfolding computing
number_of_65_bits = refl

pub filling : command_of (ascii "fill # what falls short") ≡ Fill
unfolding computing
filling = refl

pub file : command_of (ascii "save network") ≡ Save 1
unfolding computing
file = refl

pub file_version : command_of (ascii "save network 2") ≡ Save 2
unfolding computing
file_version = refl

pub no_version : command_of (ascii "save network two") ≡ Unknown
unfolding computing
no_version = refl

pub tracing : command_of (ascii "trace\tpaths # of a router") ≡ Trace
unfolding computing
tracing = refl

pub panel : command_of (ascii "panel # of each node") ≡ Panel
unfolding computing
panel = refl
