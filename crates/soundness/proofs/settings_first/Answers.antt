-- `settings_first`: after its test the settings and the count are known to be in range. Assumes nothing.
use Rattle.soundness.proofs.WholeLaws.{ranged_by}
use Rattle.soundness.proofs.settings_first.Goals as goal

pub nodes_next-requires-clause-ranged : goal.nodes_next-requires-clause-ranged
nodes_next-requires-clause-ranged c =
    ranged_by _ _ _ c.requires.state_length_in_bounds c.load-s.ensures c.is_in_range.ensures c.if-is_in_range.true
