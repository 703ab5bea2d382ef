-- One join from a verdict that said yes, of the calls. Assumes nothing.
use Prim.Native.Nat.{ℕ, ◌+◌}
use mathlib.Core.Path.{◌≡◌, refl, sym, ap, subst, subst₂, ◌∙◌}
use mathlib.Core.Logic.{⊎_elim}
use mathlib.Core.Bool.{Bool, true, false, cond}
use mathlib.Core.List.{List, [], ◌∷◌}
use native.Mathlib.Decide.{ℕ_discrete}
use native.Mathlib.Omega.{arith}
use lib.Dec.{eqb}
use lib.ListN.{get_or}
use borrow.Author.Tests.{eq-eqb}
use Rattle.model.specs.Memory.{Memory, digits, node_count, is_in_system}
use Rattle.model.specs.Refusals.{begin_refusal, deliver_refusal, verdict_refusal}
use Rattle.model.specs.Calls.{Outcome, taken, verdict_call}
use Rattle.model.specs.Run.{Call, begin, deliver, step, after, play, history, is_taken, starts, tally, tally_from}
use Rattle.model.proofs.Bools.{true_or_false}
use Rattle.model.proofs.Status.{IsNode}
use Rattle.model.proofs.Sound.{Sound}
use Rattle.model.proofs.BeginningKeepsSound.{begun_count}
use Rattle.model.proofs.Withdrawing.{withdrawn_count}
use Rattle.model.proofs.Sender.{CanDeliver}
use Rattle.model.proofs.Progress.{some_own}
use Rattle.model.proofs.Consistency.{consistent_whole, whole_consistent}
use Rattle.model.proofs.Reaching.{Yes}
use Rattle.model.proofs.OneJoin.{Alone, joiner, others, alone_bound, alone_whole, begun_alone, delivered_alone}
use Rattle.model.proofs.Taken.{begin_taken, withdraw_taken, deliver_taken, deliver_free, verdict_free}
use Rattle.model.proofs.Calls.{taken_is}
use Rattle.promise.specs.Promise.{Passes}
use Rattle.promise.specs.Withdrawals.{begun_as}
use Rattle.promise.specs.OneJoin.{OnlyDeliveries, deliveries_of, OneJoin}
use Rattle.promise.proofs.Demand1.{taken_number}
use Rattle.promise.proofs.Demand2.{verdict_sound, settled, yes_says}
use Rattle.promise.proofs.Steps.{event, Idle, refuses, looks, Effect, still, begins, withdraws, delivers, fills, effect, quiet}
use Rattle.promise.proofs.Run.{begin_after, begun_number, withdraw_after, deliver_after, deliver_answer, deliver_refused, not_taken}
use Rattle.promise.proofs.Promise.{started, passes_whole}

-- ---- a network passes the verdict exactly where every node is in system and every entry is whole

pub passes_yes : (m : Memory) → Passes m → Yes m.state m.tables
passes_yes m p = record {
  sound = verdict_sound m p.taken;
  in_system = settled m p.taken;
  whole = consistent_whole m.state m.tables (passes_whole m p);
}

pub yes_passes : (m : Memory) → Yes m.state m.tables → Passes m
unfolding verdict_call taken
yes_passes m Y =
    let e = ap (λ (o : Outcome). is_taken o.answer) (taken_is (verdict_refusal m) _ _ (verdict_free m Y.sound Y.in_system)) in
    record { taken = e; yes = yes_says m e (whole_consistent m.state m.tables Y.whole) }

-- a delivery that can be taken is
pub can_taken : (m : Memory) (x y : ℕ) → Sound m.state m.tables → CanDeliver m.state x y → is_taken (step m (deliver x y)).answer ≡ true
can_taken m x y S c = ap is_taken (deliver_answer m x y (deliver_free m x y S c))

-- ---- m is the memory at the yes, M one after it, and x the node that joins

module _ (m : Memory) (Y : Yes m.state m.tables) where
  abbrev x : ℕ
  x = node_count m.state + 1

  -- x joins alone, and at most n of its deliveries were taken
  abbrev pub AloneIn : Memory → ℕ → Type 0
  AloneIn M n = Alone m.state m.tables Y M.state M.tables n

  -- every taken delivery counts
  abbrev every : ℕ → Bool
  every kind = true

  abbrev counted : Memory → Call → ℕ → ℕ
  counted M c n = tally 0 every x (event M c) n

  pub taken_alone : (M : Memory) (n z y : ℕ) → AloneIn M n → deliver_refusal M z y ≡ 0 → (z ≡ node_count m.state + 1) × AloneIn (after M (deliver z y)) (n + 1)
  taken_alone M n z y A r =
      let d = delivered_alone m.state m.tables Y M.state M.tables n A z y (deliver_taken M z y r).1 in
      (d.0, rw (deliver_after M z y r) d.1)

  deliver_alone : (M : Memory) (n z y : ℕ) → AloneIn M n → AloneIn (after M (deliver z y)) (counted M (deliver z y) n)
  unfolding tally
  deliver_alone M n z y A = go (ℕ_discrete (deliver_refusal M z y) 0)
    where
      go : Dec (deliver_refusal M z y ≡ 0) → AloneIn (after M (deliver z y)) (counted M (deliver z y) n)
      go (yes r) =
          let d = taken_alone M n z y A r in
          let one : counted M (deliver z y) n ≡ n + 1 = rw (deliver_answer M z y r, eq-eqb z x d.0) in
          subst (AloneIn (after M (deliver z y))) (sym one) d.1
      go (no r) =
          subst₂ AloneIn (sym (deliver_refused M z y r).0) (sym (quiet M (deliver z y) (refuses (not_taken M z y r)) 0 every x n)) A

  -- a call that leaves the memory as it was
  still_alone : (M : Memory) (c : Call) (n : ℕ) → after M c ≡ M → AloneIn M n → AloneIn (after M c) (counted M c n)
  still_alone M c n same A = ⊎_elim (λ e. idle (started M c e).idle) (λ e. go (effect M c e)) (true_or_false (starts M c))
    where
      idle : Idle M c → AloneIn (after M c) (counted M c n)
      idle i = subst₂ AloneIn (sym same) (sym (quiet M c i 0 every x n)) A

      nodes : {M' : Memory} → after M c ≡ M' → node_count M'.state ≡ node_count M.state
      nodes e = ap (λ (M : Memory). node_count M.state) (sym e ∙ same)

      go : Effect M c → AloneIn (after M c) (counted M c n)
      go (still e i) = idle i
      go (begins id gateway e r) =
          let k = begin_taken M id gateway r in
          absurd (omega (arith, nodes (ap (after M) e ∙ begin_after M id gateway r), begun_count M.state M.tables id gateway k.0 k.1))
      go (withdraws z e r) =
          let k = withdraw_taken M z r in
          absurd (omega (arith, nodes (ap (after M) e ∙ withdraw_after M z r), withdrawn_count M.state M.tables k.0, k.0.some))
      go (delivers z y e r) = subst (λ (c : Call). AloneIn (after M c) (counted M c n)) (sym e) (deliver_alone M n z y A)
      go (fills out e r) = idle (subst (Idle M) (sym e) (looks (λ p q x a n. refl)))

  play_alone : (M : Memory) (n : ℕ) (cs : List Call) → AloneIn M n → OnlyDeliveries M cs → AloneIn (play M cs) (tally_from 0 every x n (history M cs))
  unfolding play history tally_from
  play_alone M n [] A only = A
  play_alone M n (c ∷ cs) A only =
      play_alone (after M c) (counted M c n) cs (⊎_elim delivery (λ e. still_alone M c n e A) (only [] cs c refl))
      (λ early late c' e. only (c ∷ early) late c' (ap (◌∷◌ c) e))
    where
      delivery : (z : ℕ) × (y : ℕ) × (c ≡ deliver z y) → AloneIn (after M c) (counted M c n)
      delivery (z, y, e) = subst (λ (c : Call). AloneIn (after M c) (counted M c n)) (sym e) (deliver_alone M n z y A)

  -- ---- what holds there

  module _ (M : Memory) (n : ℕ) (A : AloneIn M n) where
    abbrev s : List ℕ
    s = M.state

    abbrev t : List ℕ
    t = M.tables

    only_its : (y z : ℕ) → is_taken (step M (deliver y z)).answer ≡ true → y ≡ x
    only_its y z e = (taken_alone M n y z A (taken_number M (deliver y z) e)).0

    some_its : is_in_system s x ≡ false → (y : ℕ) × (is_taken (step M (deliver x y)).answer ≡ true)
    some_its out =
        let o = some_own s t A.sound x (joiner m.state m.tables Y s t n A) (others m.state m.tables Y s t n A) out in
        (o.0, can_taken M x o.0 A.sound o.1)

    last : n ≡ digits m.state + node_count m.state → is_in_system s x ≡ true
    last e = ⊎_elim (λ q. q) (λ q. absurd (more (some_its q))) (true_or_false (is_in_system s x))
      where
        more : (y : ℕ) × (is_taken (step M (deliver x y)).answer ≡ true) → ⊥
        more (y, h) =
            let d = (taken_alone M n x y A (taken_number M (deliver x y) h)).1 in
            let M₁ : Memory = after M (deliver x y) in
            omega (arith, e, alone_bound m.state m.tables Y M₁.state M₁.tables (n + 1) d)

    pub alone_passes : is_in_system M.state (node_count m.state + 1) ≡ true → Passes M
    alone_passes e = yes_passes M record {
      sound = A.sound;
      in_system = λ u nu. all u nu (ℕ_discrete u x);
      whole = alone_whole m.state m.tables Y s t n A e;
    }
      where
        all : (u : ℕ) → IsNode s u → Dec (u ≡ x) → is_in_system s u ≡ true
        all u nu (yes q) = ap (is_in_system s) q ∙ e
        all u nu (no q) = others m.state m.tables Y s t n A u nu q

-- ---- the join

-- the beginning itself counts nothing
begin_counts : (m : Memory) (id gateway : ℕ) (cs : List Call) (x : ℕ)
    → deliveries_of x (history m (begin id gateway ∷ cs)) ≡ deliveries_of x (history (after m (begin id gateway)) cs)
unfolding history tally_from tally
begin_counts m id gateway cs x =
    ap (λ (n : ℕ). tally_from 0 (λ kind. true) x n (history (after m (begin id gateway)) cs))
    (either 0 (is_taken (step m (begin id gateway)).answer) (eqb (get_or (step m (begin id gateway)).answer 1 0) x))
  where
    either : (n : ℕ) (a b : Bool) → cond a (cond b n n) n ≡ n
    either n true true = refl
    either n true false = refl
    either n false b = refl

pub one_join : (m : Memory) (id gateway : ℕ) (cs : List Call) → Passes m → is_taken (step m (begin id gateway)).answer ≡ true
    → OnlyDeliveries (after m (begin id gateway)) cs
    → OneJoin m (play m (begin id gateway ∷ cs)) (begun_as m id gateway) (deliveries_of (begun_as m id gateway) (history m (begin id gateway ∷ cs)))
unfolding play
one_join m id gateway cs p e only =
    subst (λ (x : ℕ). OneJoin m M x (deliveries_of x (history m (begin id gateway ∷ cs)))) (sym (begun_number m id gateway r)) record {
      within = omega (arith, from_begin, alone_bound m.state m.tables Y M.state M.tables n A);
      alone = only_its m Y M n A;
      goes_on = some_its m Y M n A;
      settles = λ q. last m Y M n A (sym from_begin ∙ q);
      whole = alone_passes m Y M n A;
    }
  where
    Y : Yes m.state m.tables
    Y = passes_yes m p

    r : begin_refusal m id gateway ≡ 0
    r = taken_number m (begin id gateway) e

    x₀ : ℕ
    x₀ = node_count m.state + 1

    M : Memory
    M = play (after m (begin id gateway)) cs

    n : ℕ
    n = deliveries_of x₀ (history (after m (begin id gateway)) cs)

    A : AloneIn m Y M n
    A =
        play_alone m Y (after m (begin id gateway)) 0 cs
        (rw (begin_after m id gateway r) (begun_alone m.state m.tables Y id gateway (begin_taken m id gateway r).1)) only

    from_begin : deliveries_of x₀ (history m (begin id gateway ∷ cs)) ≡ n
    from_begin = begin_counts m id gateway cs x₀
