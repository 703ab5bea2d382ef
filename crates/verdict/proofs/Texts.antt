-- Lines put together piece by piece, and the answers they show. Assumes nothing.
use Rattle.std.proofs.Common.{ℕ, Bool, true, false, cond, ◌≡◌, ◌≢◌, ap, sym, ◌∙◌, refl, List, [], ◌∷◌, ◌++◌, append-nil}
use Rattle.model.specs.Memory.{Memory}
use Rattle.model.specs.Calls.{Outcome, verdict_call}
use Rattle.answers.specs.Numbers.{number_of}
use Rattle.answers.specs.declared.error.Refusal.{Refusal}
use Rattle.answers.specs.declared.error.Refusal.TheVariants.{ShortMemory, Unsound, NotAnImage, ImageVersion, BadSetting, ImageCounts, BadId, IdTaken, NoSuchNode, RecordOrder, Full, GatewayNotInSystem, NotOutstanding, Held, JoinInFlight, ShortOutput, RecordNeighbor, OwnEntry, NotHighest, HasAttached, HasFailed, TraceCounts, StepNotAllowed, UnsoundImage}
use Rattle.answers.proofs.Errors.{numbered_from_one}
use Rattle.engine.specs.Outcomes.{leaves}
use Rattle.putting.specs.Put.{Put}
use Rattle.putting.proofs.Putting.{four_pieces}
use Rattle.text.specs.Ascii.{ascii}
use Rattle.text.specs.Lines.{labelled, line}
use Rattle.image_program.specs.Printed.{line_one}
use Rattle.image_program.proofs.Printing.{answer_refused, answer_taken}
use Rattle.verdict.specs.Lines.{line_two, fields_line, verdict_text, verdict_of, about_record, refused_lines}
use Rattle.verdict.specs.Reports.{report_text}
use Rattle.verdict.specs.declared.report.Report.TheVariants.{Refused}

-- the refusals that are about a record
pub about_no_record : (r : Refusal) → r ≢ RecordOrder → r ≢ RecordNeighbor → r ≢ OwnEntry → false ≡ about_record (number_of r)
unfolding about_record
about_no_record ShortMemory a b c = refl
about_no_record Unsound a b c = refl
about_no_record NotAnImage a b c = refl
about_no_record ImageVersion a b c = refl
about_no_record BadSetting a b c = refl
about_no_record ImageCounts a b c = refl
about_no_record BadId a b c = refl
about_no_record IdTaken a b c = refl
about_no_record NoSuchNode a b c = refl
about_no_record RecordOrder a b c = absurd (a refl)
about_no_record Full a b c = refl
about_no_record GatewayNotInSystem a b c = refl
about_no_record NotOutstanding a b c = refl
about_no_record Held a b c = refl
about_no_record JoinInFlight a b c = refl
about_no_record ShortOutput a b c = refl
about_no_record RecordNeighbor a b c = absurd (b refl)
about_no_record OwnEntry a b c = absurd (c refl)
about_no_record NotHighest a b c = refl
about_no_record HasAttached a b c = refl
about_no_record HasFailed a b c = refl
about_no_record TraceCounts a b c = refl
about_no_record StepNotAllowed a b c = refl
about_no_record UnsoundImage a b c = refl

-- ---- a report put together piece by piece

pub line_two_put : (c x i j : ℕ) (o : List ℕ) (a : ℕ) (p : List ℕ) (e : ℕ) (q : List ℕ) (g : ℕ) (r : List ℕ) (h : ℕ) (w : List ℕ) (k : ℕ)
    → Put o a (labelled (ascii "consistent ") c) p e → Put p e (labelled (ascii " at ") x) q g
    → Put q g (labelled (ascii " ") i) r h → Put r h (line (ascii " ") j) w k → Put o a (line_two c x i j) w k
unfolding line_two
line_two_put c x i j o a p e q g r h w k P Q R W = four_pieces o a _ p e _ q g P Q _ r h _ w k R W

-- ---- what a report says

-- a refused reading: line one alone, or the place behind it
module _ (n place : ℕ) where
  abbrev lines_if : Bool → List ℕ
  lines_if b = line_one n ++ cond b (line (ascii "record ") place) []

  pub record_is : true ≡ about_record n → line_one n ++ line (ascii "record ") place ≡ refused_lines (n ∷ place ∷ [])
  unfolding refused_lines
  record_is e = ap lines_if e

  pub no_record_is : false ≡ about_record n → line_one n ≡ refused_lines (n ∷ place ∷ [])
  unfolding refused_lines
  no_record_is e = sym (append-nil (line_one n)) ∙ ap lines_if e

-- what the verdict answers on m
module _ (m : Memory) where
  pub unjudged : (r : Refusal) → leaves m (number_of r ∷ 0 ∷ 0 ∷ 0 ∷ 0 ∷ []) ≡ verdict_call m → report_text (Refused r) ≡ verdict_of m
  unjudged r e = answer_refused (number_of r ∷ 0 ∷ 0 ∷ 0 ∷ 0 ∷ []) _ (numbered_from_one r) ∙ ap (λ (o : Outcome). verdict_text o.answer) e

  pub judged : (fields : List ℕ) → leaves m (0 ∷ fields) ≡ verdict_call m → line_one 0 ++ fields_line fields ≡ verdict_of m
  judged fields e = answer_taken (0 ∷ fields) _ refl ∙ ap (λ (o : Outcome). verdict_text o.answer) e
