-- What a program writes for what it reads.
use Rattle.std.specs.Prelude.{List, Option, ℕ, IfSome}
use Rattle.std.specs.Io.KnownBytes.{Consumes, Appends}

-- an image was taken from the input, and its text, and nothing else, was written
pub record Answered (text : List ℕ → List ℕ) (in_old in_new out_old out_new : Option (List ℕ)) : Type 0 where
  pub image : List ℕ
  pub taken : Consumes in_old in_new image
  pub written : Appends out_old out_new (text image)

-- the same by what a report of an image is, and by what is printed of a report
pub record Reported {T : Type 0} (reports : List ℕ → T → Type 0) (output : T → Option (List ℕ)) (in_old in_new out_old out_new : Option (List ℕ)) : Type 0 where
  pub image : List ℕ
  pub taken : Consumes in_old in_new image
  pub report : T
  pub reported : reports image report
  pub written : IfSome (output report) (Appends out_old out_new)
