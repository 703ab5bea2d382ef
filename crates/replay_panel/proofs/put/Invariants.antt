use Rattle.std.proofs.Common.{◌*◌, ◌≤◌}
use Rattle.model.specs.Loops.{join_below, node}
use Rattle.putting.specs.Put.{Put}
use Rattle.replay_panel.specs.PanelText.{node_text}
use Rattle.replay_panel.proofs.put.Given as goal

abbrev pub invariant-loop-k : goal.invariant-loop-k
invariant-loop-k l = Put l.fn.out 0 (join_below l.k (node (node_text l.network.state.now))) l.out l.end × (l.end ≤ 112 * l.k)
