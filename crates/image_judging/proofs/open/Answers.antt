-- `open`: each return is a sentence of the chain. Assumes nothing.
use Rattle.std.proofs.Common.{ap, not, ◌∙◌, arith}
use Rattle.image_judging.specs.Judged.{names_refusal}
use Rattle.image_judging.proofs.Sentences.{says_3, says_4, says_5, says_6, says_later, counted}
use Rattle.image_judging.proofs.open.Goals as goal

pub returns-then-no_settings-clause-refusal : goal.returns-then-no_settings-clause-refusal
returns-then-no_settings-clause-refusal c = search says_3

pub returns-then-other_version-clause-refusal : goal.returns-then-other_version-clause-refusal
returns-then-other_version-clause-refusal c = search says_4

pub returns-then-not-settings_in_range-clause-refusal : goal.returns-then-not-settings_in_range-clause-refusal
returns-then-not-settings_in_range-clause-refusal c = search says_5

pub returns-then-counts_wrong-clause-refusal : goal.returns-then-counts_wrong-clause-refusal
returns-then-counts_wrong-clause-refusal c = search says_6

pub open-requires : goal.open-requires
open-requires c =
    counted c.args.image.now _ c.no_settings.ensures c.if-no_settings.false
    _ c.other_version.ensures c.if-other_version.false _ _ _ c.byte.ensures.0 c.byte-2.ensures.0 c.byte-3.ensures.0
    _ c.settings_in_range.ensures (ap not c.if-not-settings_in_range.false) _ c.counts_wrong.ensures c.if-counts_wrong.false
    (λ a. omega (arith, c.type_inv.image a))

pub returns-clause-refusal : goal.returns-clause-refusal
returns-clause-refusal c =
    says_later c.args.image.now _ c.no_settings.ensures c.if-no_settings.false
    _ c.other_version.ensures c.if-other_version.false _ _ _ c.byte.ensures.0 c.byte-2.ensures.0 c.byte-3.ensures.0
    _ c.settings_in_range.ensures (ap not c.if-not-settings_in_range.false) _ c.counts_wrong.ensures c.if-counts_wrong.false
    _ (c.name_nodes.ensures.refusal ∙ ap names_refusal c.open.ensures)
