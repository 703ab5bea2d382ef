-- `ids::all`: each turn puts the next id behind the others. Assumes nothing.
use Rattle.std.proofs.Common.{ℕ, List, length, ◌≡◌, ◌∙◌, ◌+◌, ◌≤◌, [], ap, arith, sym, refl, subst}
use Rattle.model.specs.Memory.{id_of}
use Rattle.model.specs.Image.{four_bytes, id_bytes}
use Rattle.std.specs.Int.{w32, to_le_bytes}
use Rattle.image_writing_parts.proofs.IdLaws.{four_le}
use Rattle.putting.specs.Put.{Put}
use Rattle.putting.proofs.Putting.{put_none, nodes_start, nodes_room, nodes_goes, nodes_end}
use Rattle.image_writing_parts.proofs.ids.all.Goals as goal

pub loop-x-init : goal.loop-x-init
loop-x-init c = nodes_start [] (id_bytes c.args.network.now.state.now) _ _ [] _ _ (put_none _ _ (omega arith)) refl

-- the bytes of the next id
next : (s : List ℕ) (x : ℕ) (n : ℕ) (bs : List ℕ) → bs ≡ to_le_bytes w32 n → n ≡ id_of s x → bs ≡ id_bytes s x
next s x n bs e q = e ∙ four_le n ∙ ap four_bytes q

pub piece-end-requires : goal.piece-end-requires
piece-end-requires c =
    subst (λ (bs : List ℕ). c.loop-x.end + length bs ≤ length c.loop-x.out) (sym (next c.args.network.now.state.now c.loop-x.x _ _ c.to_le_bytes-id.ensures c.id.ensures))
    (nodes_room [] (id_bytes c.args.network.now.state.now) _ _ _ _ _ _ c.requires (omega arith) (omega arith) c.loop-x.invariant)

pub loop-x-preserved : goal.loop-x-preserved
loop-x-preserved c =
    nodes_goes [] (id_bytes c.args.network.now.state.now) _ _ _ _ _ _ _ (omega arith) c.loop-x.invariant
    (subst (λ (bs : List ℕ). Put c.loop-x.out c.loop-x.end bs c.piece-end.new.out c.piece-end.result) (next c.args.network.now.state.now c.loop-x.x _ _ c.to_le_bytes-id.ensures c.id.ensures) c.piece-end.ensures)

pub returns : goal.returns
returns c = nodes_end [] (id_bytes c.args.network.now.state.now) _ _ _ _ _ _ c.loop-x.invariant (omega arith) (omega arith)
