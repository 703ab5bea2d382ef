-- `lookup`, by recursion from the next node: each return is the definition's case. Assumes nothing.
use Rattle.std.proofs.Common.{sym, arith}
use Rattle.model.proofs.Lookup.{arrives_is}
use Rattle.routing.proofs.Hops.{named_none, loses_here, hops_to, next_node, falls, few_hops, one_hop_more_lem}
use Rattle.routing.proofs.+lookup.Goals as goal

pub returns-then-u-z : goal.returns-then-u-z
returns-then-u-z t c = sym (arrives_is _ _ _ c.args.u c.args.z c.if-u-z.true)

pub returns-in_default : goal.returns-in_default
returns-in_default t c =
    loses_here _ _ _ _ _ c.if-u-z.false (named_none _ _ _ _ _ _ c.next_hop.ensures.hop c.in_default.is)

pub lookup-further-requires : goal.lookup-further-requires
lookup-further-requires t c =
    let h = hops_to _ _ c.args.network.now.sound _ _ _ c.requires.from c.requires.to c.if-u-z.false _ c.next_hop.ensures.hop c.next_hop.ensures.node _ c.in-Some.is in
    (omega (arith, c.decreases, falls _ _ _ _ _ _ h), (next_node _ _ _ _ _ _ h, c.requires.to))

pub overflow_add-result : goal.overflow_add-result
overflow_add-result t c =
    let h = hops_to _ _ c.args.network.now.sound _ _ _ c.requires.from c.requires.to c.if-u-z.false _ c.next_hop.ensures.hop c.next_hop.ensures.node _ c.in-Some.is in
    omega (arith, few_hops _ _ _ _ _ _ h c.lookup-further.result c.lookup-further.ensures)

pub returns : goal.returns
returns t c =
    let h = hops_to _ _ c.args.network.now.sound _ _ _ c.requires.from c.requires.to c.if-u-z.false _ c.next_hop.ensures.hop c.next_hop.ensures.node _ c.in-Some.is in
    one_hop_more_lem _ _ _ _ _ _ h c.lookup-further.result c.lookup-further.ensures
