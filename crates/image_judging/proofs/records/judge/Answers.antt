-- `judge`: each return is what the walk found first. Assumes nothing.
use Rattle.std.proofs.Common.{ap, ap₂, not, refl}
use Rattle.answers.specs.Numbers.{number_of}
use Rattle.image_judging.specs.Judged.{answer}
use Rattle.image_judging.proofs.Sentences.{says_10, says_17, says_absent, says_misplaced, says_none}
use Rattle.image_judging.proofs.records.judge.Goals as goal

pub returns-in-Some : goal.returns-in-Some
returns-in-Some c =
    says_10 _ _ _ c.walk-f.ensures _ c.in-Some.is _ (ap₂ answer (ap number_of c.at.ensures.0) c.at.ensures.1)

pub returns-in-Some-forbidden : goal.returns-in-Some-forbidden
returns-in-Some-forbidden c =
    let e = c.at-in-Some-forbidden.ensures in
    says_17 _ _ _ c.walk-f.ensures c.in_default.is _ c.in-Some-forbidden.is _ (ap₂ answer (ap number_of e.0) e.1)

pub returns-then-not-all_marked : goal.returns-then-not-all_marked
returns-then-not-all_marked c =
    let e = c.at-then-not-all_marked.ensures in
    says_absent _ _ _ c.walk-f.ensures c.in_default.is c.in_default-forbidden.is _ c.args.named.now.image.headed
    _ c.all_marked.ensures _ (ap₂ answer (ap number_of e.0) e.1) (ap not c.if-not-all_marked.true)

pub returns-in-Some-misplaced : goal.returns-in-Some-misplaced
returns-in-Some-misplaced c =
    let e = c.at-in-Some-misplaced.ensures in
    says_misplaced _ _ _ c.walk-f.ensures c.in_default.is c.in_default-forbidden.is _ c.args.named.now.image.headed
    _ c.all_marked.ensures (ap not c.if-not-all_marked.false) _ c.in-Some-misplaced.is _ (ap₂ answer (ap number_of e.0) e.1)

pub returns : goal.returns
returns c =
    says_none _ _ _ c.walk-f.ensures c.in_default.is c.in_default-forbidden.is _ c.args.named.now.image.headed
    _ c.all_marked.ensures (ap not c.if-not-all_marked.false) _ (refl) c.in_default-misplaced.is
