-- What a survey in words asks of its callers, and its functions of each other.
use Rattle.std.specs.Prelude.{ℕ, ◌≤◌, ◌≡◌, List}
use Rattle.replay_survey.specs.SurveyText.{pairs_at, all_pairs}

-- no count is above 64 times 64
abbrev pub Few : List ℕ → Type 0
Few C = (k : ℕ) → pairs_at C k ≤ 4096

-- at most 8 digits, and no count above 4,096
pub record Showable (d : ℕ) (C : List ℕ) : Type 0 where
  pub digits : d ≤ 8
  pub counts : Few C

-- all pairs of such counts
pub record Pairs (C : List ℕ) (pairs : ℕ) : Type 0 where
  pub are : pairs ≡ all_pairs C
  pub most : pairs ≤ 36864

-- one of such counts
pub record Share (count pairs : ℕ) : Type 0 where
  pub among : count ≤ pairs
  pub most : pairs ≤ 36864
