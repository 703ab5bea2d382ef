-- A next hop as the book has it.
use Rattle.std.specs.Prelude.{ℕ, unwrap_or}
use Rattle.std.specs.declared.option.Option.{Option}
use Rattle.model.specs.Lookup as book
use Rattle.tables.specs.declared.entry.NextHop.{NextHop}

-- a node's number, 0 where there is no node
abbrev pub number_or_zero : Option ℕ → ℕ
number_or_zero node = unwrap_or node 0

abbrev pub book_next_hop : NextHop → book.NextHop
book_next_hop r = record { node = number_or_zero r.node; passed_over = r.passed_over }
