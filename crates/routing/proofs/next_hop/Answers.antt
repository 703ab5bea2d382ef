-- `next_hop`: it takes the frontmost of the entry at the common suffix, as the definition does.
-- Assumes nothing.
use Rattle.routing.proofs.Hops.{reads_next, entry_of_depth, numbers, nodes_named}
use Rattle.routing.proofs.next_hop.Goals as goal

pub frontmost-requires-clause-entry : goal.frontmost-requires-clause-entry
frontmost-requires-clause-entry c = search entry_of_depth

pub frontmost-requires-clause-numbers : goal.frontmost-requires-clause-numbers
frontmost-requires-clause-numbers c = search (numbers, entry_of_depth)

pub returns-clause-hop : goal.returns-clause-hop
returns-clause-hop c = search reads_next

pub returns-clause-node : goal.returns-clause-node
returns-clause-node c =
    let p = c.requires in
    nodes_named _ _ c.args.network.now.sound _ _ _ p.from p.to p.apart _
    (reads_next _ _ _ _ _ _ _ _ _ c.hop_entry-e.ensures c.settings-depth.ensures.depth c.table.ensures.0 c.frontmost.ensures.hop) c.frontmost.ensures.some
