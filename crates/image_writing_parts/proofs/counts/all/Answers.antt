-- `counts::all`: their number, and each turn puts the next node's counts behind the others. Assumes nothing.
use Rattle.std.proofs.Common.{ℕ, [], ◌∷◌, ap, arith}
use Rattle.model.specs.Memory.{node_count}
use Rattle.model.specs.Image.{count_bytes}
use Rattle.putting.proofs.Putting.{nodes_start, nodes_room, nodes_goes, nodes_end}
use Rattle.image_writing_parts.proofs.counts.all.Goals as goal

pub loop-x-init : goal.loop-x-init
loop-x-init c =
    nodes_start (node_count c.args.network.now.state.now ∷ []) (count_bytes c.args.network.now.state.now) _ _ _ _ _ c.piece-end.ensures
    (ap (λ (n : ℕ). n ∷ []) c.nodes-n.ensures)

pub counts-end-requires-clause-room : goal.counts-end-requires-clause-room
counts-end-requires-clause-room c =
    nodes_room (node_count c.args.network.now.state.now ∷ []) (count_bytes c.args.network.now.state.now) _ _ _ _ _ _ c.requires (omega arith) (omega arith) c.loop-x.invariant

pub loop-x-preserved : goal.loop-x-preserved
loop-x-preserved c =
    nodes_goes (node_count c.args.network.now.state.now ∷ []) (count_bytes c.args.network.now.state.now) _ _ _ _ _ _ _ (omega arith) c.loop-x.invariant c.counts-end.ensures

pub returns : goal.returns
returns c =
    nodes_end (node_count c.args.network.now.state.now ∷ []) (count_bytes c.args.network.now.state.now) _ _ _ _ _ _ c.loop-x.invariant (omega arith) (omega arith)
