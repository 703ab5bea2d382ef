-- What stays of a pair of nodes when one learns from the other: the state and the two nodes.
use Rattle.std.specs.Prelude.{◌≡◌}
use Rattle.delivery_parts.specs.declared.pair.Pair.{Pair}

pub record SamePair (p q : Pair) : Type 0 where
  pub state : q.state.now ≡ p.state.now
  pub x : q.x ≡ p.x
  pub y : q.y ≡ p.y
