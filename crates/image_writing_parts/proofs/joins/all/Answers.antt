-- `joins::all`: their number, and each turn puts the next node's join behind the others. Assumes nothing.
use Rattle.std.proofs.Common.{ℕ, [], ◌∷◌, ap, arith}
use Rattle.model.specs.Nodes.{count_nodes}
use Rattle.model.specs.Image.{under_way, join_bytes}
use Rattle.putting.proofs.Putting.{nodes_start, nodes_room, nodes_goes, nodes_end}
use Rattle.image_writing_parts.proofs.joins.all.Goals as goal

pub loop-x-init : goal.loop-x-init
loop-x-init c =
    nodes_start (count_nodes c.args.network.now.state.now (under_way c.args.network.now.state.now) ∷ []) (join_bytes c.args.network.now.state.now) _ _ _ _ _ c.piece-end.ensures
    (ap (λ (n : ℕ). n ∷ []) c.requires.count_value)

pub join-end-requires-clause-room : goal.join-end-requires-clause-room
join-end-requires-clause-room c =
    nodes_room (count_nodes c.args.network.now.state.now (under_way c.args.network.now.state.now) ∷ []) (join_bytes c.args.network.now.state.now) _ _ _ _ _ _ c.requires.room (omega arith) (omega arith) c.loop-x.invariant

pub loop-x-preserved : goal.loop-x-preserved
loop-x-preserved c =
    nodes_goes (count_nodes c.args.network.now.state.now (under_way c.args.network.now.state.now) ∷ []) (join_bytes c.args.network.now.state.now) _ _ _ _ _ _ _ (omega arith) c.loop-x.invariant c.join-end.ensures

pub returns : goal.returns
returns c =
    nodes_end (count_nodes c.args.network.now.state.now (under_way c.args.network.now.state.now) ∷ []) (join_bytes c.args.network.now.state.now) _ _ _ _ _ _ c.loop-x.invariant (omega arith) (omega arith)
