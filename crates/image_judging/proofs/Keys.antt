-- The entries of an image's records by their keys. Assumes nothing.
use Prim.Native.Nat.{ℕ, ◌<◌}
use mathlib.Core.Path.{◌≡◌}
use mathlib.Core.List.{List}
use lib.Dec.{leb}
use Rattle.model.specs.Image.{byte_at, same_entry, rises_from}
use Rattle.model.proofs.RecordRules.{key_eq, key_le}
use Rattle.image_judging.specs.Cursors.{rec_key, of_entry}

module _ (im : List ℕ) (bytes : (a : ℕ) → byte_at im a < 256) where
  pub same_key : (r q : ℕ) → same_entry im r q ≡ of_entry im (rec_key im r) q
  unfolding same_entry of_entry rec_key
  same_key r q = key_eq _ _ _ _ _ _ (bytes _) (bytes _) (bytes _) (bytes _)

  pub rises_key : (q r : ℕ) → rises_from im q r ≡ leb (rec_key im q) (rec_key im r)
  unfolding rises_from rec_key
  rises_key q r = key_le _ _ _ _ _ _ (bytes _) (bytes _) (bytes _) (bytes _)
