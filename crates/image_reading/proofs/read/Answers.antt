-- `read`: the image as it was opened is the image. Assumes nothing.
use Rattle.std.proofs.Common.{ap, sym, subst, ◌∙◌}
use Rattle.image_reading.specs.Reads.{Reads, read_memory, read_answer}
use Rattle.image_reading.proofs.Judged.{taken, plain_right, plain_loads}
use Rattle.image_reading.proofs.read.Goals as goal

pub read_joins-requires : goal.read_joins-requires
read_joins-requires c = record {
  reads = subst (Reads c.args.state.now c.args.tables.now) (sym c.open-image.ensures) c.requires;
  has_joins = sym c.has_joins.ensures ∙ c.if-has_joins.true;
}

pub returns-then-has_joins : goal.returns-then-has_joins
returns-then-has_joins c = record {
  memory = c.read_joins.ensures.memory ∙ ap (read_memory c.args.state.now c.args.tables.now) c.open-image.ensures;
  refusal = c.read_joins.ensures.refusal ∙ ap read_answer c.open-image.ensures;
}

pub load-requires : goal.load-requires
load-requires c =
    plain_loads _ _ c.has_joins.ensures c.if-has_joins.false _ _ (subst (Reads c.args.state.now c.args.tables.now) (sym c.open-image.ensures) c.requires)

pub returns : goal.returns
returns c =
    let r = taken c.args.state.now c.args.tables.now c.open-image.result.bytes.now _ (plain_right c.open-image.result.bytes.now _ c.has_joins.ensures c.if-has_joins.false) c.load.ensures in
    record {
      memory = r.0 ∙ ap (read_memory c.args.state.now c.args.tables.now) c.open-image.ensures;
      refusal = r.1 ∙ ap read_answer c.open-image.ensures;
    }
