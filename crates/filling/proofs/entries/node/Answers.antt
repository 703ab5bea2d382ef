-- `entries::node`: one level more each turn, until nothing is lacking above. Assumes nothing.
use mathlib.Core.Path.{refl, ◌∙◌}
use native.Mathlib.Omega.{arith}
use borrow.Author.Rules.{rules}
use Rattle.model.specs.Fill.{fill_level, fill_node}
use Rattle.model.proofs.Sound.{id_fits}
use Rattle.consistency.proofs.Gathering.{sharing_start, sharing_goes}
use Rattle.filling.proofs.Alone.{node_alone}
use Rattle.filling.proofs.Listing.{listed_none, listed_goes, listed_ends, node_steady, node_fits}
use Rattle.filling.proofs.entries.node.Goals as goal

pub overflow_cast-id : goal.overflow_cast-id
overflow_cast-id c = omega (arith, id_fits _ _ c.requires.steady.sound c.args.x c.requires.node)

pub loop-i-init : goal.loop-i-init
loop-i-init c = (refl, refl, search sharing_start, search listed_none)

pub level-end-requires : goal.level-end-requires
level-end-requires c =
    record { steady = search node_steady; having = search rules; sharing = search rules; node = search rules; i_bound = omega arith; fits = search node_fits }

pub returns-then-sharing-alone : goal.returns-then-sharing-alone
returns-then-sharing-alone c =
    let l = c.loop-i in
    node_alone _ _ c.requires.node l.i _ (sharing_goes _ _ _ _ _ l.invariant.2 c.requires.having (omega arith) _ _ _ c.id-id.ensures c.digit.ensures.0 c.among-sharing.ensures) (c.if-sharing-alone.true ∙ c.add-alone.ensures) _ c.requires.steady (omega arith) _ _ _ _ _
    (listed_goes _ _ (fill_level c.args.state.now c.args.x) _ l.i _ _ _ l.invariant.3 _ _ _ c.level-end.ensures)

pub loop-i-preserved : goal.loop-i-preserved
loop-i-preserved c = (
  omega arith,
  omega arith,
  (let l = c.loop-i in sharing_goes _ _ _ _ _ l.invariant.2 c.requires.having (omega arith) _ _ _ c.id-id.ensures c.digit.ensures.0 c.among-sharing.ensures),
  search listed_goes,
)

pub returns : goal.returns
unfolding fill_node
returns c = search listed_ends
