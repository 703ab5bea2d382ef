-- The total of a survey, of the call (document 02, Tickets 1 and 6): its counts add up to the ordered pairs of different nodes that have not failed, and no
-- pair arrives in more than d hops.
use Rattle.std.specs.Prelude.{ℕ, ◌+◌, ◌-◌, ◌*◌, ◌≤◌, ◌<◌, ◌≡◌, true, not, List, ◌∷◌, get_or}
use Rattle.model.specs.Loops.{sum_below, node}
use Rattle.model.specs.Memory.{Memory, digits, node_count, has_node}
use Rattle.model.specs.Nodes.{count_nodes}
use Rattle.model.specs.Survey.{hop_pairs}
use Rattle.model.specs.Calls.{survey_call}
use Rattle.model.specs.Run.{Call, play, is_taken, is_run}

-- what a survey answers for h hops, h from 1 to 8
abbrev pub in_hops : Memory → ℕ → ℕ → ℕ
in_hops m failed h = get_or (survey_call m failed).answer h 0

-- what it answers for the lost pairs
abbrev pub lost : Memory → ℕ → ℕ
lost m failed = get_or (survey_call m failed).answer 9 0

-- how many nodes have not failed
abbrev pub not_failed : Memory → ℕ → ℕ
not_failed m failed = count_nodes m.state (λ u. not (has_node failed u))

-- the ordered pairs of these: a (a − 1)
abbrev pub ordered_pairs : Memory → ℕ → ℕ
ordered_pairs m failed = not_failed m failed * (not_failed m failed - 1)

-- what holds of the answer of a survey that is not refused
pub record AddsUp (m : Memory) (failed : ℕ) : Type 0 where
  -- the counts for 1 to d hops and the lost pairs are all pairs
  pub total : sum_below (digits m.state) (node (in_hops m failed)) + lost m failed ≡ ordered_pairs m failed
  -- no pair arrives in more than d hops
  pub beyond : (h : ℕ) → digits m.state < h → hop_pairs m.state m.tables failed h ≡ 0
  -- so what is answered for more than d hops is 0, and all nine counts together are all pairs too
  pub zeros : (h : ℕ) → digits m.state < h → h ≤ 8 → in_hops m failed h ≡ 0
  pub all : sum_below 8 (node (in_hops m failed)) + lost m failed ≡ ordered_pairs m failed

pub record SurveyTotal : Type 0 where
  -- where none has failed these are all nodes: n (n − 1)
  pub everyone : (m : Memory) → not_failed m 0 ≡ node_count m.state
  pub adds_up : (m : Memory) (failed : ℕ) → is_taken (survey_call m failed).answer ≡ true → AddsUp m failed
  -- no survey in a run is refused
  pub in_runs : (m : Memory) (c : Call) (cs : List Call) (failed : ℕ) → is_run m c cs ≡ true → is_taken (survey_call (play m (c ∷ cs)) failed).answer ≡ true
