-- The entry in which a lookup finds its next hop, as the code names it. s is the state.
use Rattle.std.specs.Prelude.{ℕ, ◌<◌, ◌≡◌, List}
use Rattle.model.specs.Ids.{digit_of}
use Rattle.model.specs.Memory.{id_of}
use Rattle.model.specs.Nodes.{suffix_of}
use Rattle.routing.specs.declared.Entry.{Entry}

-- from u to z
pub record HopEntry (s : List ℕ) (u z : ℕ) (e : Entry) : Type 0 where
  pub level : e.level ≡ suffix_of s u z
  pub digit : e.digit ≡ digit_of (id_of s z) e.level
  pub low : e.digit < 16
