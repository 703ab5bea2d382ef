-- Writing and reading undo each other, of the calls. A state that writing takes, written and read into any memory, is the same state in every word and
-- byte of the fixed lengths, of version 1 but for the counts, which are zero; an image that reading takes, read and written in its own version, is the same
-- image. Assumes nothing.
use Prim.Native.Nat.{ℕ, ◌≤◌, ◌<◌}
use mathlib.Core.Path.{◌≡◌, ap, ◌∙◌}
use mathlib.Core.List.{List, [], ◌∷◌, ◌++◌}
use lib.ListN.{length, drop}
use Rattle.model.specs.Memory.{Memory}
use Rattle.model.specs.Image.{image_of, byte_at, im_version, loaded, kept}
use Rattle.model.specs.Refusals.{read_refusal, write_refusal}
use Rattle.model.specs.Calls.{taken, read_call, write_call}
use Rattle.model.proofs.Sound.{Long}
use Rattle.model.proofs.Taken.{write_taken}
use Rattle.model.proofs.Calls.{taken_is}
use Rattle.model.proofs.WrittenRead.{onto, written_taken, written_read}
use Rattle.model.proofs.ReadWritten.{read_written, read_can_write}

-- what a writing wrote, read into any memory
pub write_then_read : (m m' : Memory) (v : ℕ) (out : List ℕ) → write_refusal m v out ≡ 0 → Long m'.state m'.tables
    → read_call m' (image_of v m.state m.tables) ≡ taken (onto (record { state = kept v m.state; tables = m.tables }) m') [] (0 ∷ [])
unfolding read_call
write_then_read m m' v out e long =
    let k = write_taken m v out e in
    taken_is _ _ _ (written_taken v m.state m.tables k.sound k.in_system k.version m' long)
    ∙ ap (λ (m : Memory). taken m [] (0 ∷ [])) (written_read v m.state m.tables k.sound k.in_system m' long)

-- what a reading read, written
pub read_then_write : (m : Memory) (im out : List ℕ) → ((a : ℕ) → byte_at im a < 256) → read_refusal m im ≡ 0 → length im ≤ length out
    → write_call (loaded m.state m.tables im) (im_version im) out ≡ taken (loaded m.state m.tables im) (im ++ drop (length im) out) (length im ∷ [])
unfolding write_call
read_then_write m im out byte e room =
    let g : Memory = loaded m.state m.tables im in
    taken_is _ _ _ (read_can_write m im byte e out room)
    ∙ ap (λ (i : List ℕ). taken g (i ++ drop (length i) out) (length i ∷ [])) (read_written m im byte e)
