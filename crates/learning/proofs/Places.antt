-- The places of a table, one after the other: what each turn of learning and of gathering reads there. T and Y are tables of one node. Assumes
-- nothing.
use Rattle.std.proofs.Common.{ℕ, Bool, true, false, List, get_or, take, length, ◌≡◌, ◌≢◌, ◌+◌, ◌≤◌, ◌<◌, ◌∙◌, sym, ap, subst, arith}
use Rattle.std.proofs.lemmas.List.{get_or-take, length-take-le}
use mathlib.Core.Bool.{cond}
use borrow.Author.Tests.{eqb-false, not-true}
use Rattle.model.specs.Loops.{each_below}
use Rattle.model.specs.Memory.{add_node}
use Rattle.model.specs.Learning.{learn, learn_place, learn_table}
use Rattle.model.specs.Join.{to_notify, gather_place, gather}
use Rattle.model.proofs.Bools.{parts}
use Rattle.model.proofs.Loops.{each_step, each_ends}
use Rattle.model.proofs.TableSteps.{place_empty, place_own, place_learns}
use Rattle.state.specs.Loaded.{Numbered}
use Rattle.learning.specs.declared.learner.Learner.{Learner}
use Rattle.learning.specs.Learners.{ReadableUnless, TableReadable, Learns, LearnsTable}

module _ (T : List ℕ) (long : 512 ≤ length T) (p : ℕ) where
  within : p < length (take 512 T) → p < 512
  within l = omega (arith, length-take-le 512 T long)

  place_is : p < length (take 512 T) → get_or (take 512 T) p 0 ≡ get_or T p 0
  place_is l = get_or-take 512 T p 0 (within l)

  done : p ≤ length (take 512 T) → length (take 512 T) ≤ p → (p ≤ 512) × (512 ≤ p)
  done l g = (omega (arith, length-take-le 512 T long), omega (arith, length-take-le 512 T long))

-- ---- learning

module _ (s : List ℕ) (r : Learner) (Y : List ℕ) (m : LearnsTable s r Y) (p : ℕ) where
  pub learns_place : p < length (take 512 Y) → get_or (take 512 Y) p 0 ≢ 0 → get_or (take 512 Y) p 0 ≢ r.number
      → Learns s r (get_or (take 512 Y) p 0)
  learns_place l some other =
      let e : get_or (take 512 Y) p 0 ≡ get_or Y p 0 = place_is Y m.long p l in
      subst (Learns s r) (sym e) (m.nodes p (within Y m.long p l) (λ q. some (e ∙ q)) (λ q. other (e ∙ q)))

  module _ (a T : List ℕ) (e : T ≡ each_below p (learn_place s r.number Y) a) where
    module _ (l : p < length (take 512 Y)) where
      pub step_empty : get_or (take 512 Y) p 0 ≡ 0 → T ≡ each_below (p + 1) (learn_place s r.number Y) a
      step_empty z = each_step p _ a T T e (place_empty s r.number Y p T (sym (place_is Y m.long p l) ∙ z))

      pub step_own : get_or (take 512 Y) p 0 ≡ r.number → T ≡ each_below (p + 1) (learn_place s r.number Y) a
      step_own z = each_step p _ a T T e (place_own s r.number Y p T (sym (place_is Y m.long p l) ∙ z))

      pub step_learns : (T' : List ℕ) → get_or (take 512 Y) p 0 ≢ 0 → get_or (take 512 Y) p 0 ≢ r.number → T' ≡ learn s r.number (get_or (take 512 Y) p 0) T
          → T' ≡ each_below (p + 1) (learn_place s r.number Y) a
      step_learns T' some other f =
          let q : get_or (take 512 Y) p 0 ≡ get_or Y p 0 = place_is Y m.long p l in
          each_step p _ a T T' e
          (place_learns s r.number Y p T T' (λ z. some (q ∙ z)) (λ z. other (q ∙ z)) (f ∙ ap (λ (u : ℕ). learn s r.number u T) q))

    pub learned_all : p ≤ length (take 512 Y) → length (take 512 Y) ≤ p → T ≡ learn_table s r.number Y a
    unfolding learn_table
    learned_all l g = let d = done Y m.long p l g in each_ends 512 (learn_place s r.number Y) a p T e d.0 d.1

-- ---- gathering

module _ (s T : List ℕ) (m : TableReadable s T) (p : ℕ) where
  pub readable_place : p < length (take 512 T) → ReadableUnless s (get_or (take 512 T) p 0)
  readable_place l =
      subst (ReadableUnless s) (sym (place_is T m.long p l)) (m.nodes p (within T m.long p l))

  pub numbered_place : (x k notified : ℕ) (r : Bool) → p < length (take 512 T) → r ≡ to_notify s x k notified (get_or (take 512 T) p 0) → r ≡ true
      → Numbered (get_or (take 512 T) p 0)
  numbered_place x k notified r l e h =
      let t : to_notify s x k notified (get_or (take 512 T) p 0) ≡ true = sym e ∙ h in
      let n = readable_place l (eqb-false _ 0 (not-true _ (search parts))) in
      record { first = n.first; last = n.last }

  module _ (x k notified : ℕ) (nodes before : ℕ) (e : before ≡ each_below p (gather_place s x k notified T) nodes) where
    module _ (l : p < length (take 512 T)) (r : Bool) (er : r ≡ to_notify s x k notified (get_or (take 512 T) p 0)) where
      step : (b : Bool) → r ≡ b → cond b (add_node before (get_or T p 0)) before ≡ gather_place s x k notified T p before
      step b f =
          let q : to_notify s x k notified (get_or T p 0) ≡ b = ap (to_notify s x k notified) (sym (place_is T m.long p l)) ∙ sym er ∙ f in
          ap (λ (b : Bool). cond b (add_node before (get_or T p 0)) before) (sym q)

      pub step_adds : (after : ℕ) → r ≡ true → after ≡ add_node before (get_or (take 512 T) p 0)
          → after ≡ each_below (p + 1) (gather_place s x k notified T) nodes
      step_adds after h f =
          each_step p _ nodes before after e (f ∙ ap (add_node before) (place_is T m.long p l) ∙ step true h)

      pub step_passes : r ≡ false → before ≡ each_below (p + 1) (gather_place s x k notified T) nodes
      step_passes h = each_step p _ nodes before before e (step false h)

    pub gathered_all : p ≤ length (take 512 T) → length (take 512 T) ≤ p → before ≡ gather s x k notified T nodes
    unfolding gather
    gathered_all l g =
        let d = done T m.long p l g in each_ends 512 (gather_place s x k notified T) nodes p before e d.0 d.1
