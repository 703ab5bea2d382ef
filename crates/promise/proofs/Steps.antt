-- What each call of a run does: nothing to the network, or a beginning, a withdrawal, a delivery or a filling. Assumes nothing.
use Prim.Native.Nat.{ℕ}
use mathlib.Core.Path.{◌≡◌, refl, ap, ◌∙◌}
use mathlib.Core.Logic.{◌≢◌}
use mathlib.Core.Bool.{Bool, true, false, cond}
use mathlib.Core.List.{List, [], ◌∷◌}
use native.Mathlib.Decide.{ℕ_discrete}
use borrow.Author.Tests.{ne_eqb}
use Rattle.model.specs.Memory.{Memory}
use Rattle.model.specs.Refusals.{begin_refusal, withdraw_refusal, deliver_refusal, fill_refusal}
use Rattle.model.specs.Calls.{Outcome, refused_at, unless_refused, found_call, read_call, begin_call, withdraw_call, deliver_call, lookup_call, survey_call, verdict_call, fill_call, write_call, trace_call, sound_call}
use Rattle.model.specs.Run.{Call, found, read, begin, withdraw, deliver, lookup, survey, verdict, fill, write, trace, sound, step, after, Event, is_taken, starts, tallied, tally}
use Rattle.model.proofs.Calls.{refused_is, looks_on, not_taken_same}

-- the call as an event of the history
abbrev pub event : Memory → Call → Event
event m c = record { call = c; answer = (step m c).answer }

-- a refused call, and one that changes no count whatever it answers
pub data Idle (m : Memory) (c : Call) : Type 0 where
  refuses : is_taken (step m c).answer ≡ false → Idle m c
  looks : ((first : ℕ) (counts : ℕ → Bool) (x : ℕ) (answer : List ℕ) (n : ℕ) → tallied first counts x c answer n ≡ n) → Idle m c

pub data Effect (m : Memory) (c : Call) : Type 0 where
  still : after m c ≡ m → Idle m c → Effect m c
  begins : (id gateway : ℕ) → c ≡ begin id gateway → begin_refusal m id gateway ≡ 0 → Effect m c
  withdraws : (x : ℕ) → c ≡ withdraw x → withdraw_refusal m x ≡ 0 → Effect m c
  delivers : (x y : ℕ) → c ≡ deliver x y → deliver_refusal m x y ≡ 0 → Effect m c
  fills : (out : List ℕ) → c ≡ fill out → fill_refusal m out ≡ 0 → Effect m c

-- changes no count
pub quiet : (m : Memory) (c : Call) → Idle m c → (first : ℕ) (counts : ℕ → Bool) (x n : ℕ) → tally first counts x (event m c) n ≡ n
unfolding tally
quiet m c (refuses e) first counts x n = ap (λ (b : Bool). cond b (tallied first counts x c (step m c).answer n) n) e
quiet m c (looks f) first counts x n =
    ap (λ (a : ℕ). cond (is_taken (step m c).answer) a n) (f first counts x (step m c).answer n) ∙ either (is_taken (step m c).answer)
  where
    either : (b : Bool) → cond b n n ≡ n
    either true = refl
    either false = refl

-- a refused call
refused_still : (m : Memory) (c : Call) (out fields : List ℕ) (n : ℕ) (done : Outcome) → n ≢ 0 → step m c ≡ unless_refused n (refused_at m out fields) done
    → Effect m c
unfolding after refused_at
refused_still m c out fields n done nz e =
    let w = e ∙ refused_is n (refused_at m out fields) done nz in
    still (ap (λ (o : Outcome). o.memory) w) (refuses (ap (λ (o : Outcome). is_taken o.answer) w ∙ ne_eqb n 0 nz))

module _ (m : Memory) where
  pub effect : (c : Call) → starts m c ≡ false → Effect m c
  unfolding starts step after found_call read_call begin_call withdraw_call deliver_call lookup_call survey_call verdict_call fill_call write_call trace_call sound_call
  effect (found b d K id) f =
      still (not_taken_same m _ [] _ _ [] [] f) (looks (λ p q x a n. refl))
  effect (read im) f = still (not_taken_same m _ [] _ _ [] (0 ∷ []) f) (looks (λ p q x a n. refl))
  effect (begin id g) f = go (ℕ_discrete (begin_refusal m id g) 0)
    where
      go : Dec (begin_refusal m id g ≡ 0) → Effect m (begin id g)
      go (yes e) = begins id g refl e
      go (no nz) = refused_still m (begin id g) [] _ _ _ nz refl
  effect (withdraw x) f = go (ℕ_discrete (withdraw_refusal m x) 0)
    where
      go : Dec (withdraw_refusal m x ≡ 0) → Effect m (withdraw x)
      go (yes e) = withdraws x refl e
      go (no nz) = refused_still m (withdraw x) [] _ _ _ nz refl
  effect (deliver x y) f = go (ℕ_discrete (deliver_refusal m x y) 0)
    where
      go : Dec (deliver_refusal m x y ≡ 0) → Effect m (deliver x y)
      go (yes e) = delivers x y refl e
      go (no nz) = refused_still m (deliver x y) [] _ _ _ nz refl
  effect (lookup u z failed) f = still (looks_on m _ [] _ [] _) (looks (λ p q x a n. refl))
  effect (survey failed) f = still (looks_on m _ [] _ [] _) (looks (λ p q x a n. refl))
  effect verdict f = still (looks_on m _ [] _ [] _) (looks (λ p q x a n. refl))
  effect (fill out) f = go (ℕ_discrete (fill_refusal m out) 0)
    where
      go : Dec (fill_refusal m out ≡ 0) → Effect m (fill out)
      go (yes e) = fills out refl e
      go (no nz) = refused_still m (fill out) out _ _ _ nz refl
  effect (write v out) f = still (looks_on m _ out _ _ _) (looks (λ p q x a n. refl))
  effect (trace file) f = still (looks_on m _ [] _ [] _) (looks (λ p q x a n. refl))
  effect sound f = still (looks_on m _ [] _ [] _) (looks (λ p q x a n. refl))
