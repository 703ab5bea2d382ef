-- Laws of the whole check: the settings and the count as the code holds them, what a test tells the next, the places past the nodes. Assumes nothing.
use Prim.Native.Nat.{ℕ, ◌≤◌}
use mathlib.Core.Path.{◌≡◌, refl, sym, ap, ◌∙◌}
use mathlib.Core.Bool.{Bool, true, false, not, ◌&&◌}
use mathlib.Core.List.{List}
use native.Mathlib.Omega.{arith}
use lib.Dec.{leb}
use lib.ListN.{length}
use borrow.Author.Tests.{leb-true, not-false}
use Rattle.model.specs.Ids.{settings_in_range}
use Rattle.model.specs.Memory.{node_count, state_length}
use Rattle.model.specs.Sound.{count_in_range, status_sound}
use Rattle.model.proofs.Bools.{and_left, and_right}
use Rattle.model.proofs.Ids.{settings_range}
use Rattle.model.proofs.Nodes.{nodes_at}
use Rattle.model.proofs.Status.{status_ok}
use Rattle.model.specs.Nodes.{all_nodes}
use Rattle.state.specs.Loaded.{SettingsOf}
use Rattle.state.specs.declared.settings.Settings.{Settings}
use Rattle.state.specs.Checked.{Ranged}
use Rattle.soundness_counts.specs.CountFacts.{StatusesOk}

-- what is in range, v being the settings that the code holds
pub ranged_of : (s : List ℕ) (v : Settings) (r : Bool) → state_length ≤ length s → SettingsOf s v
    → r ≡ settings_in_range v.base v.digits v.depth → not r ≡ false → v.nodes ≤ 64 → Ranged s
ranged_of s v r l w e h g =
    let i = settings_range v.base v.digits v.depth (sym e ∙ not-false r h) in
    record { long = l; base = omega (arith, i.base_most, w); digits = omega (arith, i.digits_most, w); depth_least = omega (arith, i.depth_least, w); depth = omega (arith, i.depth_most, w); nodes = omega (arith, g, w) }

-- the same with the count, as one test
pub ranged_by : (s : List ℕ) (v : Settings) (r : Bool) → state_length ≤ length s → SettingsOf s v
    → r ≡ (settings_in_range v.base v.digits v.depth && count_in_range v.nodes) → r ≡ true → Ranged s
ranged_by s v r l w e h =
    let g = sym e ∙ h in
    let n = leb-true v.nodes 64 (and_right (leb 1 v.nodes) _ (and_right (settings_in_range v.base v.digits v.depth) _ g)) in
    ranged_of s v _ l w refl (ap not (and_left _ _ g)) n

-- after the check of the statuses each is known to keep its rules
pub statuses_of : (s : List ℕ) (r : Bool) → r ≡ all_nodes s (status_sound s) → r ≡ true → StatusesOk s
statuses_of s r e h x w = status_ok s x (nodes_at (node_count s) (status_sound s) (sym e ∙ h) x w.low w.high)
