-- `judge`: the cursor in the entry of the record, and past it. Assumes nothing.
use Rattle.image_judging.proofs.Reading.{entry_enters, entry_record, entry_within, past_is}
use Rattle.image_judging.proofs.Rules.{neighbor_numbered, count_within, next_within}
use Rattle.image_judging.proofs.cursor.Cursor.judge.Goals as goal

pub allowed-requires : goal.allowed-requires
allowed-requires c =
    let w = c.args.named.now.image.headed in
    let r = c.requires in
    record {
      enters = entry_enters _ _ _ _ w r.follows r.record_of r.in_order _ c.key.ensures _ c.enter-c.ensures;
      next_bound = entry_within _ _ _ _ w r.follows r.record_of r.in_order _ c.key.ensures _ c.enter-c.ensures r.next_bound;
      record_of = entry_record _ _ _ _ w r.follows r.record_of r.in_order _ c.key.ensures _ c.enter-c.ensures;
    }

pub pass-requires : goal.pass-requires
pass-requires c =
    let w = c.args.named.now.image.headed in
    let r = c.requires in
    let within = entry_within _ _ _ _ w r.follows r.record_of r.in_order _ c.key.ensures _ c.enter-c.ensures r.next_bound in
    record {
      numbered = neighbor_numbered _ _ _ w.counted c.args.named.now.named r.next_bound r.record_of;
      next_bound = next_within _ c.enter-c.result w.counted within;
      count_bound =
          count_within _ _ w.counted (entry_enters _ _ _ _ w r.follows r.record_of r.in_order _ c.key.ensures _ c.enter-c.ensures) within;
    }

pub returns : goal.returns
returns c =
    let r = c.requires in
    let p = past_is _ _ _ _ c.args.named.now.image.headed r.follows r.record_of r.in_order
    _ c.key.ensures _ c.enter-c.ensures c.args.named.now.named r.next_bound
    _ _ _ r.own_value c.allowed.ensures c.owner_first.ensures _ c.pass.ensures in
    record { next_value = p.0; follows = p.1 }
