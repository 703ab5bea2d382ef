-- The total of a survey. Assumes nothing.
use Prim.Native.Nat.{ℕ, ◌+◌, ◌-◌, ◌≤◌, ◌<◌}
use mathlib.Core.Path.{◌≡◌, ap, ap₂, subst, ◌∙◌}
use mathlib.Core.Bool.{Bool, true, not}
use mathlib.Core.List.{List, [], ◌∷◌}
use native.Mathlib.Numerals.{add-one}
use native.Mathlib.Nat.{le_antisymm}
use native.Mathlib.Omega.{arith}
use lib.ListN.{get_or}
use Rattle.model.specs.Loops.{sum_below, node}
use Rattle.model.specs.Memory.{Memory, digits, node_count, has_node}
use Rattle.model.specs.Survey.{hop_pairs, survey_counts}
use Rattle.model.specs.Refusals.{state_refusal}
use Rattle.model.specs.Calls.{Outcome, taken, survey_call}
use Rattle.model.specs.Run.{is_taken}
use Rattle.model.proofs.Loops.{count_le, sum_same}
use Rattle.model.proofs.Counting.{count_least}
use Rattle.model.proofs.Sums.{sum_up_to}
use Rattle.model.proofs.Sets.{has_none}
use Rattle.model.proofs.Sound.{Sound}
use Rattle.model.proofs.Survey.{counted_at, lost_at, survey_total, none_beyond}
use Rattle.model.proofs.Taken.{state_taken, sound_free}
use Rattle.model.proofs.Calls.{taken_is, taken_zero}
use Rattle.promise.specs.Survey.{in_hops, lost, not_failed, ordered_pairs, AddsUp, SurveyTotal}
use Rattle.promise.proofs.Promise.{run_sound}

module _ (m : Memory) (S : Sound m.state m.tables) (failed : ℕ) where
  answers : (survey_call m failed).answer ≡ 0 ∷ survey_counts m.state m.tables failed
  unfolding survey_call taken
  answers = ap (λ (o : Outcome). o.answer) (taken_is (state_refusal m) _ _ (sound_free m S))

  in_hops_lem : (k : ℕ) → k < 8 → in_hops m failed (k + 1) ≡ hop_pairs m.state m.tables failed (k + 1)
  in_hops_lem k l = ap₂ (λ (l : List ℕ) (h : ℕ). get_or l h 0) answers (add-one k) ∙ counted_at m.state m.tables failed k l

  total_is : sum_below (digits m.state) (node (in_hops m failed)) + lost m failed ≡ ordered_pairs m failed
  total_is =
      ap₂ ◌+◌ (sum_same (digits m.state) (node (in_hops m failed)) (node (hop_pairs m.state m.tables failed)) (λ k l. in_hops_lem k (omega (arith, S.settings.digits_most))))
      (ap (λ (l : List ℕ). get_or l 9 0) answers ∙ lost_at m.state m.tables failed)
      ∙ survey_total m.state m.tables S failed

  far : (k : ℕ) → digits m.state ≤ k → k < 8 → in_hops m failed (k + 1) ≡ 0
  far k g l = in_hops_lem k l ∙ none_beyond m.state m.tables S failed (k + 1) (omega arith)

  adds_up : AddsUp m failed
  adds_up = record {
    total = total_is;
    beyond = none_beyond m.state m.tables S failed;
    zeros = λ h g l. let e : h - 1 + 1 ≡ h = omega arith in subst (λ (h : ℕ). in_hops m failed h ≡ 0) e (far (h - 1) (omega arith) (omega arith));
    all = ap (λ (n : ℕ). n + lost m failed) (sum_up_to (digits m.state) 8 (node (in_hops m failed)) S.settings.digits_most far) ∙ total_is;
  }

-- a survey that was taken was of a sound state
sound_taken : (m : Memory) (failed : ℕ) → is_taken (survey_call m failed).answer ≡ true → Sound m.state m.tables
unfolding survey_call
sound_taken m failed e = state_taken m (taken_zero m (state_refusal m) [] _ _ e)

-- where none has failed every node is left
all_left : (m : Memory) → not_failed m 0 ≡ node_count m.state
all_left m =
    let n = node_count m.state in
    let left : ℕ → Bool = λ k. not (has_node 0 (k + 1)) in
    le_antisymm (count_le n left) (count_least n n left (λ k. k) (λ k l. (l, ap not (has_none (k + 1)))) (λ j k l g e. e))

pub survey_adds_up : SurveyTotal
survey_adds_up = record {
  everyone = all_left;
  adds_up = λ m failed e. adds_up m (sound_taken m failed e) failed;
  in_runs = λ m c cs failed run. ap is_taken (answers _ (run_sound m c cs run) failed);
}
