-- What the walk over the records of an image finds. im is the image.
use Rattle.std.specs.Prelude.{ℕ, ◌≡◌, List, None}
use Rattle.model.specs.Image.{im_records, rec_ordered, rec_allowed, rec_owner_first}
use Rattle.image_judging.specs.Faults.{fault_below}
use Rattle.image_judging.specs.Marks.{Marks}
use Rattle.image_judging.specs.declared.walk.Faults.{Faults}

-- where every record is in order, the others were all looked at
pub record Through (im : List ℕ) (f : Faults) (marks : List ℕ) : Type 0 where
  pub forbidden : f.forbidden ≡ fault_below (im_records im) (rec_allowed im)
  pub misplaced : f.misplaced ≡ fault_below (im_records im) (rec_owner_first im)
  pub marked : Marks im (im_records im) marks

pub record Walked (im : List ℕ) (f : Faults) (marks : List ℕ) : Type 0 where
  pub disordered : f.disordered ≡ fault_below (im_records im) (rec_ordered im)
  pub through : f.disordered ≡ None → Through im f marks
