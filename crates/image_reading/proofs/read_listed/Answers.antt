-- `read_listed`: what is judged in memory of its own is copied out. Assumes nothing.
use Rattle.image_reading.proofs.Judged.{refused, taken, wrong_said, fits_tables, copied}
use Rattle.image_reading.proofs.read_listed.Goals as goal

pub returns-then-not-sound : goal.returns-then-not-sound
returns-then-not-sound c =
    let r = refused c.args.state.now c.args.tables.now c.args.image.now.bytes.now (search wrong_said) in
    record { memory = r.0; refusal = r.1 }

pub copy_from_slice-requires : goal.copy_from_slice-requires
copy_from_slice-requires c = search fits_tables

pub returns : goal.returns
returns c =
    let r = taken c.args.state.now c.args.tables.now c.args.image.now.bytes.now _ (search wrong_said) (search copied) in
    record { memory = r.0; refusal = r.1 }
