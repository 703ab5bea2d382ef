-- What a refusal that `?` hands on answers. Assumes nothing.
use mathlib.Core.Path.{◌≡◌, ap}
use mathlib.Core.Bool.{true, false}
use native.Mathlib.Omega.{arith}
use Rattle.std.specs.Prelude.{Result, Ok, Err, IsErr, IsErrAnd}
use Rattle.answers.specs.Numbers.{number_of, answered}
use Rattle.answers.specs.declared.error.Refusal.{Refusal}
use Rattle.answers.specs.declared.error.Refusal.TheVariants.{ShortMemory, Unsound, NotAnImage, ImageVersion, BadSetting, ImageCounts, BadId, IdTaken, NoSuchNode, RecordOrder, Full, GatewayNotInSystem, NotOutstanding, Held, JoinInFlight, ShortOutput, RecordNeighbor, OwnEntry, NotHighest, HasAttached, HasFailed, TraceCounts, StepNotAllowed, UnsoundImage}

-- no refusal has the number 0
pub numbered_from_one : (e : Refusal) → number_of e ≡ 0 → ⊥
numbered_from_one = elim [ ShortMemory ↦ (λ h. omega (arith, h)) | Unsound ↦ (λ h. omega (arith, h)) | NotAnImage ↦ (λ h. omega (arith, h)) | ImageVersion ↦ (λ h. omega (arith, h)) | BadSetting ↦ (λ h. omega (arith, h)) | ImageCounts ↦ (λ h. omega (arith, h)) | BadId ↦ (λ h. omega (arith, h)) | IdTaken ↦ (λ h. omega (arith, h)) | NoSuchNode ↦ (λ h. omega (arith, h)) | RecordOrder ↦ (λ h. omega (arith, h)) | Full ↦ (λ h. omega (arith, h)) | GatewayNotInSystem ↦ (λ h. omega (arith, h)) | NotOutstanding ↦ (λ h. omega (arith, h)) | Held ↦ (λ h. omega (arith, h)) | JoinInFlight ↦ (λ h. omega (arith, h)) | ShortOutput ↦ (λ h. omega (arith, h)) | RecordNeighbor ↦ (λ h. omega (arith, h)) | OwnEntry ↦ (λ h. omega (arith, h)) | NotHighest ↦ (λ h. omega (arith, h)) | HasAttached ↦ (λ h. omega (arith, h)) | HasFailed ↦ (λ h. omega (arith, h)) | TraceCounts ↦ (λ h. omega (arith, h)) | StepNotAllowed ↦ (λ h. omega (arith, h)) | UnsoundImage ↦ (λ h. omega (arith, h)) ]

-- an error that `?` hands on is the same error, with its number
false_true : false ≡ true → ⊥
false_true e = Prim.cc e

pub handed_on : {A : Type 0} (r : Result A Refusal) (e : Refusal) → IsErr r × IsErrAnd r (λ x. x ≡ e) → answered r ≡ number_of e
handed_on (Ok x) e h = absurd (false_true h.0)
handed_on (Err x) e h = ap number_of h.1
