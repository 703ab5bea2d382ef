-- The fields of each answer as numbers, the refusal first: what the documents say that a call answers.
use Rattle.std.specs.Prelude.{ℕ, cond, Option, None, Some, Result, Ok, Err, List, [], ◌∷◌, replicate}
use Rattle.model.specs.Join.{kind_copied, kind_sent_on, kind_attached, kind_notified}
use Rattle.answers.specs.Numbers.{number_of}
use Rattle.answers.specs.declared.error.Refusal.{Refusal}
use Rattle.answers.specs.declared.error.ImageRefused.{ImageRefused}
use Rattle.answers.specs.declared.error.TraceRefused.{TraceRefused}
use Rattle.answers.specs.declared.delivery.Kind.{Kind}
use Rattle.answers.specs.declared.delivery.Kind.TheVariants.{Copied, SentOn, Attached, Notified}
use Rattle.answers.specs.declared.delivery.Delivery.{Delivery}
use Rattle.answers.specs.declared.lookup.Lookup.{Lookup}
use Rattle.answers.specs.declared.verdict.ShortEntry.{ShortEntry}

-- an answer of n fields behind the refusal: 0 and its fields, or on a refusal its number and zeros
abbrev pub fields_of : {A : Type 0} → ℕ → (A → List ℕ) → Result A Refusal → List ℕ
fields_of n fields (Ok a) = 0 ∷ fields a
fields_of n fields (Err r) = number_of r ∷ replicate n 0

-- a call that answers the refusal alone
abbrev pub done_fields : {A : Type 0} → Result A Refusal → List ℕ
done_fields = fields_of 0 (λ a. [])

-- one that answers a number: of the new node, of additions, or of bytes
abbrev pub number_fields : Result ℕ Refusal → List ℕ
number_fields = fields_of 1 (λ n. n ∷ [])

-- the kind, the level where the sender attached, and 1 if it settled
abbrev pub kind_fields : Kind → ℕ → List ℕ
kind_fields Copied settled = kind_copied ∷ 0 ∷ settled ∷ []
kind_fields SentOn settled = kind_sent_on ∷ 0 ∷ settled ∷ []
kind_fields (Attached level) settled = kind_attached ∷ level ∷ settled ∷ []
kind_fields Notified settled = kind_notified ∷ 0 ∷ settled ∷ []

abbrev pub taken_fields : Delivery → List ℕ
taken_fields d = kind_fields d.kind (cond d.settled 1 0)

abbrev pub delivery_fields : Result Delivery Refusal → List ℕ
delivery_fields = fields_of 3 taken_fields

-- 1 for arrived or 0 for lost, the hops and the last node
abbrev pub lookup_fields : Result Lookup Refusal → List ℕ
lookup_fields = fields_of 3 (λ l. cond l.arrived 1 0 ∷ l.hops ∷ l.last ∷ [])

-- the nine counts
abbrev pub survey_fields : Result (List ℕ) Refusal → List ℕ
survey_fields = fields_of 9 (λ counts. counts)

-- 1 and zeros, or 0 and node, level and digit of the first short entry
abbrev pub short_fields : Option ShortEntry → List ℕ
short_fields None = 1 ∷ 0 ∷ 0 ∷ 0 ∷ []
short_fields (Some e) = 0 ∷ e.node ∷ e.level ∷ e.digit ∷ []

abbrev pub verdict_fields : Result (Option ShortEntry) Refusal → List ℕ
verdict_fields = fields_of 4 short_fields

-- the place of the record
abbrev pub read_fields : {A : Type 0} → Result A ImageRefused → List ℕ
read_fields (Ok a) = 0 ∷ 0 ∷ []
read_fields (Err e) = number_of e.refusal ∷ e.place ∷ []

-- path and place
abbrev pub trace_fields : {A : Type 0} → Result A TraceRefused → List ℕ
trace_fields (Ok a) = 0 ∷ 0 ∷ 0 ∷ []
trace_fields (Err e) = number_of e.refusal ∷ e.path ∷ e.place ∷ []
