-- What is said of a line that needs no file and no list, and what such a line does to the network.
use Rattle.std.specs.Prelude.{ℕ, cond, List, [], ◌++◌, eqb}
use Rattle.model.specs.Memory.{Memory, digits}
use Rattle.model.specs.Refusals.{state_refusal, lookup_refusal}
use Rattle.text.specs.Ascii.{ascii}
use Rattle.text.specs.Lines.{labelled}
use Rattle.replay_calls.specs.Called.{called}
use Rattle.replay_calls.specs.Answered.{padded}
use Rattle.replay_panel.specs.PanelText.{panel_text}
use Rattle.replay_table.specs.TableText.{table_text}
use Rattle.replay_refusals.specs.Refused.{refused_text}
use Rattle.replay_words.specs.Said.{said}
use Rattle.model.specs.Run.{step, after}
use Rattle.script.specs.declared.command.Command.{Command}
use Rattle.script.specs.declared.command.Command.TheVariants.{Nothing, Unknown, Call, Fill, Save, Load, Trace, Panel, Table}

-- what is shown where nothing refuses it; else the refusal in words
unfoldable pub or_refused : ℕ → List ℕ → List ℕ
or_refused number shown = cond (eqb number 0) shown (refused_text number 0 0)

-- `panel`: a line for each node, or the refusal that a check of the state would have
abbrev pub panel_said : Memory → List ℕ
panel_said m = or_refused (state_refusal m) (panel_text m.state)

-- `table`: the node's record and table, or the refusal that a lookup from the node to itself, with none failed, would have
abbrev pub table_said : Memory → ℕ → List ℕ
table_said m x = or_refused (lookup_refusal m x x 0) (table_text m.state m.tables x)

-- a line that is no command, by its number
unfoldable pub unknown_said : ℕ → List ℕ
unknown_said number = labelled (ascii "line ") number ++ ascii ": not understood\n"

-- what is said of a line with this number, where it needs no file and no list: m is the network before it
abbrev pub command_said : Memory → ℕ → Command → List ℕ
command_said m number Nothing = []
command_said m number Unknown = unknown_said number
command_said m number (Call c) = said (digits m.state) [] c (padded (step m (called [] [] c)).answer)
command_said m number Fill = []
command_said m number (Save version) = []
command_said m number Load = []
command_said m number Trace = []
command_said m number Panel = panel_said m
command_said m number (Table x) = table_said m x

-- how many bytes that is at most
abbrev pub most_said : Command → ℕ
most_said Nothing = 0
most_said Unknown = 42
most_said (Call c) = 943
most_said Fill = 0
most_said (Save version) = 0
most_said Load = 0
most_said Trace = 0
most_said Panel = 7168
most_said (Table x) = 16384

-- the network after such a line
abbrev pub command_after : Memory → Command → Memory
command_after m Nothing = m
command_after m Unknown = m
command_after m (Call c) = after m (called [] [] c)
command_after m Fill = m
command_after m (Save version) = m
command_after m Load = m
command_after m Trace = m
command_after m Panel = m
command_after m (Table x) = m
