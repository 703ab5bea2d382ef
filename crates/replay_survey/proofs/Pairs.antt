-- Laws of all pairs: a count is among them, and so a bar has at most 50 marks. Assumes nothing.
use Prim.Native.Nat.{ℕ, ◌*◌, ◌≤◌, ◌<◌}
use mathlib.Core.Path.{◌≡◌, ap, ◌∙◌}
use mathlib.Core.List.{List}
use native.Mathlib.Nat.{le_antisymm}
use native.Mathlib.Omega.{arith}
use Rattle.model.specs.Loops.{sum_below}
use Rattle.model.proofs.Sums.{sum_at}
use Rattle.replay_survey.specs.SurveyText.{pairs_at, all_pairs}
use Rattle.replay_survey.specs.Showable.{Pairs, Share}

pub pairs_ends : (C : List ℕ) (k pairs : ℕ) → pairs ≡ sum_below k (pairs_at C) → k ≤ 9 → 9 ≤ k → pairs ≤ 4096 * k → Pairs C pairs
unfolding all_pairs
pairs_ends C k pairs e l g m = record { are = e ∙ ap (λ (k : ℕ). sum_below k (pairs_at C)) (le_antisymm l g); most = omega arith }

pub share_of : (C : List ℕ) (k pairs : ℕ) → k < 9 → Pairs C pairs → Share (pairs_at C k) pairs
unfolding all_pairs
share_of C k pairs l all = record { among = omega (arith, sum_at 9 (pairs_at C) k l); most = all.most }
