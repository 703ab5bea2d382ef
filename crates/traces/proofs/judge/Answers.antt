-- `judge`: the cursor is behind paths whose counts are right, and each return is what the walk found
-- first. Assumes nothing.
use Rattle.std.proofs.Common.{sym, ap, ◌∙◌, arith}
use borrow.Author.Tests.{eqb-true, eqb-false}
use Rattle.answers.specs.Numbers.{number_of}
use Rattle.trace_reading.proofs.Counts.{read_right, read_wrong}
use Rattle.traces.specs.declared.cursor.Cursor.{Cursor}
use Rattle.traces.proofs.Walks.{starts}
use Rattle.traces.proofs.Sentences.{empty_wrong, path_wrong, length_wrong, says_22, says_9, says_23, says_none}
use Rattle.traces.proofs.judge.Goals as goal

pub returns-then-is_empty : goal.returns-then-is_empty
returns-then-is_empty c =
    let e = c.into.ensures in
    says_22 _ _ _ _ _ _ (empty_wrong _ (eqb-true _ _ (sym c.is_empty.ensures ∙ c.if-is_empty.true))) (ap number_of e.0) e.1.0 e.1.1

pub loop-init : goal.loop-init
loop-init c = (starts _ _ _ (omega (arith, eqb-false _ _ (sym c.is_empty.ensures ∙ c.if-is_empty.false))) _ c.start-c.ensures, ap (λ (k : Cursor). k.path) c.start-c.ensures)

pub returns-in_default : goal.returns-in_default
returns-in_default c =
    let l = c.loop in
    let e = c.into-in_default.ensures in
    says_22 _ _ _ _ _ _ (path_wrong _ _ _ l.c l.invariant.0 (omega (arith, l.invariant.1, c.loop-test.true)) (read_wrong _ _ (sym c.path_at.ensures ∙ c.in_default.is))) (ap number_of e.0) e.1.0 e.1.1

pub pass-c-requires-clause-count_right : goal.pass-c-requires-clause-count_right
pass-c-requires-clause-count_right c = (read_right _ _ _ (sym c.path_at.ensures ∙ c.in-Some.is)).0

pub pass-c-requires-clause-places_read : goal.pass-c-requires-clause-places_read
pass-c-requires-clause-places_read c = (read_right _ _ _ (sym c.path_at.ensures ∙ c.in-Some.is)).1

pub returns-then-c-trace : goal.returns-then-c-trace
returns-then-c-trace c =
    let l = c.loop in
    let e = c.into-then-c-trace.ensures in
    says_22 _ _ _ _ _ _ (length_wrong _ _ _ l.c l.invariant.0 (omega (arith, l.invariant.1, c.loop-test.false, l.auto.counter-end)) c.if-c-trace.true) (ap number_of e.0) e.1.0 e.1.1

pub returns-in-Some-unnamed : goal.returns-in-Some-unnamed
returns-in-Some-unnamed c =
    let l = c.loop in
    let e = c.refused.ensures in
    says_9 _ _ _ l.c l.invariant.0 (omega (arith, l.invariant.1, c.loop-test.false, l.auto.counter-end)) c.if-c-trace.false _ c.in-Some-unnamed.is _ _ _ (ap number_of e.0) e.1 e.2

pub returns-in-Some-forbidden : goal.returns-in-Some-forbidden
returns-in-Some-forbidden c =
    let l = c.loop in
    let e = c.refused-in-Some-forbidden.ensures in
    says_23 _ _ _ l.c l.invariant.0 (omega (arith, l.invariant.1, c.loop-test.false, l.auto.counter-end)) c.if-c-trace.false c.in_default-unnamed.is _ c.in-Some-forbidden.is _ _ _ (ap number_of e.0) e.1 e.2

pub returns : goal.returns
returns c =
    let l = c.loop in
    says_none _ _ _ l.c l.invariant.0 (omega (arith, l.invariant.1, c.loop-test.false, l.auto.counter-end)) c.if-c-trace.false c.in_default-unnamed.is c.in_default-forbidden.is
