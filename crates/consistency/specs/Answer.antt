-- The verdict as the book has it, and what the first short entry of a node is. s is the state, t the
-- tables.
use Rattle.std.specs.Prelude.{ℕ, ◌<◌, ◌≡◌, List, Option, None, Some}
use Rattle.model.specs.Loops.{first_below}
use Rattle.model.specs.Memory.{base, digits}
use Rattle.model.specs.Consistency as book
use Rattle.model.specs.Consistency.{level_short, entry_short}
use Rattle.answers.specs.declared.verdict.ShortEntry.{ShortEntry}

-- 1 for yes, with zeros, or 0 with the place
abbrev pub book_verdict : Option ShortEntry → book.Verdict
book_verdict None = record { consistent = 1; node = 0; level = 0; digit = 0 }
book_verdict (Some e) = record { consistent = 0; node = e.node; level = e.level; digit = e.digit }

-- e is the first entry of x that is not whole
pub record FirstShort (s t : List ℕ) (x : ℕ) (e : ShortEntry) : Type 0 where
  pub node : e.node ≡ x
  pub within : e.level < digits s
  pub level : e.level ≡ first_below (digits s) (level_short s t x)
  pub digit : e.digit ≡ first_below (base s) (entry_short s t x e.level)
