-- `slots::all`: each turn puts the next node's records behind the others. Assumes nothing.
use Rattle.std.proofs.Common.{ℕ, [], arith, sym, refl}
use Rattle.model.specs.Image.{all_records, node_records}
use Rattle.putting.proofs.Putting.{put_none, nodes_start, nodes_room, nodes_goes, nodes_end}
use Rattle.std.proofs.Common.{subst, ◌≤◌, ◌+◌, List, length}
use Rattle.putting.specs.Put.{Put}
use Rattle.image_writing_parts.proofs.slots.all.Goals as goal

pub loop-x-init : goal.loop-x-init
loop-x-init c = nodes_start [] (node_records c.args.network.now.state.now c.args.network.now.tables.now) _ _ [] _ _ (put_none _ _ (omega arith)) refl

pub put-end-requires : goal.put-end-requires
unfolding all_records
put-end-requires c =
    subst (λ (bs : List ℕ). c.loop-x.end + length bs ≤ length c.loop-x.out) (sym c.of.ensures)
    (nodes_room [] (node_records c.args.network.now.state.now c.args.network.now.tables.now) _ _ _ _ _ _ c.requires (omega arith) (omega arith) c.loop-x.invariant)

pub loop-x-preserved : goal.loop-x-preserved
loop-x-preserved c =
    nodes_goes [] (node_records c.args.network.now.state.now c.args.network.now.tables.now) _ _ _ _ _ _ _ (omega arith) c.loop-x.invariant
    (subst (λ (bs : List ℕ). Put c.loop-x.out c.loop-x.end bs c.put-end.new.out c.put-end.result) c.of.ensures c.put-end.ensures)

pub returns : goal.returns
unfolding all_records
returns c =
    nodes_end [] (node_records c.args.network.now.state.now c.args.network.now.tables.now) _ _ _ _ _ _ c.loop-x.invariant (omega arith) (omega arith)
