-- The fields of a packed answer are below 256, so none reaches into another, and shift and mask give each back. Assumes nothing.
use Prim.Native.Nat.{ℕ, zero, suc, ◌+◌, ◌*◌, ◌/◌, ◌%◌, ◌^◌, ◌<◌, ◌≤◌}
use mathlib.Core.Path.{◌≡◌, refl, sym, ap, subst, ◌∙◌}
use mathlib.Core.List.{List, [], ◌∷◌}
use native.Mathlib.Omega.{arith}
use native.Mathlib.Nat.{pow-succ', div-div-eq-div-mul, zero-div}
use lib.ListN.{get_or, length}
use Rattle.std.specs.Prelude.{Option, None, Some, Result, Ok, Err, replicate}
use Rattle.model.specs.Memory.{Memory}
use Rattle.model.specs.Calls.{Outcome}
use Rattle.answers.specs.Numbers.{number_of}
use Rattle.answers.specs.Fields.{fields_of, done_fields, kind_fields, taken_fields, short_fields, trace_fields}
use Rattle.answers.specs.declared.error.Refusal.{Refusal}
use Rattle.answers.specs.declared.error.TraceRefused.{TraceRefused}
use Rattle.answers.specs.declared.delivery.Kind.{Kind}
use Rattle.answers.specs.declared.delivery.Kind.TheVariants.{Copied, SentOn, Attached, Notified}
use Rattle.answers.specs.declared.delivery.Delivery.{Delivery}
use Rattle.answers.specs.declared.verdict.ShortEntry.{ShortEntry}
use Rattle.engine.specs.Outcomes.{writes}
use Rattle.packing.specs.declared.numbers.Numbers.{Numbers}
use Rattle.packing.specs.Listed.{listed}
use Rattle.packing.specs.Numbers.{first_five}
use Rattle.packing.specs.Packed.{packed, Fits}
use Rattle.overlay.specs.Packed.{packing, outputs}
use Rattle.model.proofs.BytesFrom.{low_byte}
use Rattle.model.proofs.Fields.{Below, Bytes, below_at}

-- ---- shift and mask give a field back

later_fields : (field rest k : ℕ) → field < 256 → (field + 256 * rest) / 256 ^ suc k ≡ rest / 256 ^ k
later_fields field rest k h =
    let d : (field + 256 * rest) / 256 ≡ rest = omega arith in
    ap (λ (m : ℕ). (field + 256 * rest) / m) (pow-succ' 256 k)
    ∙ sym (div-div-eq-div-mul (field + 256 * rest) 256 (256 ^ k))
    ∙ ap (λ (n : ℕ). n / 256 ^ k) d

-- bits 8k to 8k + 7 of a packed answer are field k, and zero past the last
pub unpacked : (fields : List ℕ) (k : ℕ) → Bytes fields → packed fields / 256 ^ k % 256 ≡ get_or fields k 0
unfolding packed Below
unpacked [] k h = ap (λ (n : ℕ). n % 256) (zero-div (256 ^ k))
unpacked (field ∷ fields) zero h = ap (λ (n : ℕ). n % 256) (omega arith) ∙ low_byte field (packed fields) h.0
unpacked (field ∷ fields) (suc k) h = ap (λ (n : ℕ). n % 256) (later_fields field (packed fields) k h.0) ∙ unpacked fields k h.1

-- ---- an answer in five numbers

-- zeros behind the last field add nothing
pub packed_five : (fields : List ℕ) → length fields ≤ 5 → packed (first_five fields) ≡ packed fields
unfolding packed
packed_five [] h = refl
packed_five (a ∷ []) h = omega arith
packed_five (a ∷ b ∷ []) h = omega arith
packed_five (a ∷ b ∷ c ∷ []) h = omega arith
packed_five (a ∷ b ∷ c ∷ d ∷ []) h = omega arith
packed_five (a ∷ b ∷ c ∷ d ∷ e ∷ []) h = omega arith
packed_five (a ∷ b ∷ c ∷ d ∷ e ∷ x ∷ xs) h = absurd (omega arith)

five_fit : (a b c d e : ℕ) → a < 256 → b < 256 → c < 256 → d < 256 → e < 256 → Fits (a ∷ b ∷ c ∷ d ∷ e ∷ [])
unfolding packed
five_fit a b c d e p q r s t = omega (arith, p, q, r, s, t)

-- a call whose outcome is o, with at most five fields
module _ (o : Outcome) (m : Memory) (out fields : List ℕ) (few : length fields ≤ 5) (e : writes m out fields ≡ o) (n : Numbers) (q : listed n ≡ first_five fields) where
  pub packs : (p : ℕ) → p ≡ packed (first_five (listed n)) → outputs m out p ≡ packing o
  unfolding packing
  packs p f =
      ap (λ (p : ℕ). outputs m out p) (f ∙ ap (λ (l : List ℕ). packed (first_five l)) q ∙ packed_five fields few) ∙ ap packing e

  pub bytes_fit : Bytes o.answer → Fits (first_five (listed n))
  bytes_fit bytes =
      let b : Bytes fields = subst (λ (o : Outcome). Bytes o.answer) (sym e) bytes in
      let f : (k : ℕ) → get_or fields k 0 < 256 = λ k. below_at 256 fields (omega arith) b k in
      subst (λ (l : List ℕ). Fits (first_five l)) (sym q) (five_fit _ _ _ _ _ (f 0) (f 1) (f 2) (f 3) (f 4))

-- ---- the fields of a result

abbrev zeros : ℕ → List ℕ
zeros k = replicate k 0

zeros_at : (k j : ℕ) → get_or (zeros k) j 0 ≡ 0
zeros_at zero j = refl
zeros_at (suc k) zero = refl
zeros_at (suc k) (suc j) = zeros_at k j

zeros_long : (k : ℕ) → length (zeros k) ≡ k
zeros_long zero = refl
zeros_long (suc k) = ap suc (zeros_long k)

module _ {A : Type 0} (k : ℕ) (f : A → List ℕ) where
  pub five_of : (r : Result A Refusal) → first_five (fields_of 4 f r) ≡ first_five (fields_of k f r)
  five_of (Ok a) = refl
  five_of (Err e) = cc (zeros_at k 0, zeros_at k 1, zeros_at k 2, zeros_at k 3)

  pub few_of : k ≤ 4 → ((a : A) → length (f a) ≤ 4) → (r : Result A Refusal) → length (fields_of k f r) ≤ 5
  few_of h g (Ok a) = omega (arith, g a)
  few_of h g (Err e) = omega (arith, h, zeros_long k)

  -- a call that answers r
  module _ (h : k ≤ 4) (g : (a : A) → length (f a) ≤ 4) (r : Result A Refusal) (o : Outcome) (m : Memory) (out : List ℕ) (e : writes m out (fields_of k f r) ≡ o) (n : Numbers) (q : listed n ≡ first_five (fields_of 4 f r)) where
    pub call_packs : (p : ℕ) → p ≡ packed (first_five (listed n)) → outputs m out p ≡ packing o
    call_packs = packs o m out (fields_of k f r) (few_of h g r) e n (q ∙ five_of r)

    pub call_fits : Bytes o.answer → Fits (first_five (listed n))
    call_fits = bytes_fit o m out (fields_of k f r) (few_of h g r) e n (q ∙ five_of r)

-- the refusal alone
pub done_is : {A : Type 0} (f : A → List ℕ) (r : Result A Refusal) (n : Numbers) → listed n ≡ first_five (fields_of 4 f r) → (n.refusal ∷ []) ≡ done_fields r
done_is f (Ok a) n q = ap (λ (l : List ℕ). get_or l 0 0 ∷ []) q
done_is f (Err e) n q = ap (λ (l : List ℕ). get_or l 0 0 ∷ []) q

kind_few : (kind : Kind) (settled : ℕ) → length (kind_fields kind settled) ≤ 4
kind_few Copied settled = omega arith
kind_few SentOn settled = omega arith
kind_few (Attached level) settled = omega arith
kind_few Notified settled = omega arith

pub taken_few : (d : Delivery) → length (taken_fields d) ≤ 4
taken_few d = kind_few d.kind _

pub short_few : (v : Option ShortEntry) → length (short_fields v) ≤ 4
short_few None = omega arith
short_few (Some e) = omega arith

pub trace_few : {A : Type 0} (r : Result A TraceRefused) → length (trace_fields r) ≤ 5
trace_few (Ok a) = omega arith
trace_few (Err e) = omega arith
