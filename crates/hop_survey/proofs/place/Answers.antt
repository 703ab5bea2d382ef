-- `place`: the lookup from u has come to `at` after so many hops. Assumes nothing.
use Rattle.std.proofs.Common.{ℕ, ◌<◌, sym, subst, arith}
use Rattle.routing.proofs.Hops.{named_none, hops_to}
use Rattle.hop_survey.proofs.Counted.{place_below, few_hops, along_lost, along_hop, along_falls, along_some, along_ends}
use Rattle.hop_survey.proofs.place.Goals as goal

pub returns-in_default-clause-value : goal.returns-in_default-clause-value
returns-in_default-clause-value c =
    along_lost _ _ c.args.network.now.sound _ _ _ _ _ c.requires.from c.requires.to c.loop-at.invariant c.loop-at-test.true (named_none _ _ _ _ _ _ c.next_hop.ensures.hop c.in_default.is)

pub overflow_add-hops : goal.overflow_add-hops
overflow_add-hops c =
    omega (arith, few_hops _ _ c.args.network.now.sound _ _ _ _ _ c.requires.from c.requires.to c.loop-at.invariant)

pub loop-at-smaller : goal.loop-at-smaller
loop-at-smaller c =
    let l = c.loop-at.invariant in
    let S = c.args.network.now.sound in
    along_falls _ _ S _ _ _ _ _ c.requires.from c.requires.to l _
    (hops_to _ _ S _ _ _ l.node c.requires.to c.loop-at-test.true _ c.next_hop.ensures.hop c.next_hop.ensures.node _ c.in-Some.is)

pub loop-at-preserved : goal.loop-at-preserved
loop-at-preserved c =
    let l = c.loop-at.invariant in
    let S = c.args.network.now.sound in
    along_hop _ _ S _ _ _ _ _ c.requires.from c.requires.to l _
    (hops_to _ _ S _ _ _ l.node c.requires.to c.loop-at-test.true _ c.next_hop.ensures.hop c.next_hop.ensures.node _ c.in-Some.is)

pub overflow_sub-result : goal.overflow_sub-result
overflow_sub-result c =
    along_some _ _ c.args.network.now.sound _ _ _ _ _ c.requires.from c.requires.to c.loop-at.invariant c.loop-at-test.false c.requires.apart

pub returns : goal.returns
returns c =
    let p = c.requires in
    let is = along_ends _ _ c.args.network.now.sound _ _ _ _ _ p.from p.to c.loop-at.invariant c.loop-at-test.false in
    record { value = is; upper_bound = subst (λ (r : ℕ). r < 9) (sym is) (place_below _ _ c.args.network.now.sound _ _ _ p.from p.to) }
