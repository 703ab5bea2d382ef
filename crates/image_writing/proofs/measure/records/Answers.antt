-- `measure::records`: each turn adds the length of the next node's records. Assumes nothing.
use Rattle.std.proofs.Common.{◌∙◌, ap, length, arith}
use Rattle.model.specs.Image.{node_records}
use Rattle.model.specs.Image.{all_records}
use Rattle.image_writing_parts.proofs.Measuring.{nodes_total_none, nodes_total_goes, nodes_total_ends}
use Rattle.image_writing.proofs.measure.records.Goals as goal

pub loop-x-init : goal.loop-x-init
loop-x-init c = (omega arith, nodes_total_none (node_records c.args.network.now.state.now c.args.network.now.tables.now))

pub loop-x-preserved : goal.loop-x-preserved
loop-x-preserved c = (omega arith, nodes_total_goes (node_records c.args.network.now.state.now c.args.network.now.tables.now) _ _ _ (omega arith) c.loop-x.invariant.1 (c.in_table-total.ensures.0 ∙ ap length c.of.ensures))

pub returns : goal.returns
unfolding all_records
returns c = (nodes_total_ends (node_records c.args.network.now.state.now c.args.network.now.tables.now) _ _ _ c.loop-x.invariant.1 (omega arith) (omega arith), omega arith)
