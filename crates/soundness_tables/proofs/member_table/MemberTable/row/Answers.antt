-- `MemberTable::row`: the masks leave the low digits, and a shift by four bits a place makes the weight. Assumes nothing.
use Rattle.std.proofs.Common.{ap, ◌∙◌}
use Rattle.model.specs.Ids.{low_digits}
use Rattle.soundness_tables.proofs.RowLaws.{low_made, weight_made, mask_made}
use Rattle.soundness_tables.proofs.member_table.MemberTable.row.Goals as goal

pub invariant_of-result : goal.invariant_of-result
invariant_of-result c =
    let i = c.args.i in
    record {
      within = c.requires;
      low_is = low_made i c.requires _ _ c.suffix_mask.ensures ∙ ap (λ id. low_digits id i) c.id.ensures;
      weight_is = weight_made i c.requires;
      mask_is = mask_made i c.requires _ c.suffix_mask-2.ensures;
    }
