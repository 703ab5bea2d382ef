-- A lookup's answer as the book has it.
use Rattle.std.specs.Prelude.{cond}
use Rattle.model.specs.Lookup as book
use Rattle.answers.specs.declared.lookup.Lookup.{Lookup}

-- arrived is 1, lost 0
abbrev pub book_lookup : Lookup → book.Lookup
book_lookup r = record { arrived = cond r.arrived 1 0; hops = r.hops; last = r.last }
