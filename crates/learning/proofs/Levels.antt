-- Learning a node level by level, from its floor on. Assumes nothing.
use Rattle.std.proofs.Common.{ℕ, List, ◌≡◌, ◌+◌, ◌≤◌, ◌<◌, ◌∙◌, sym, subst, arith}
use native.Mathlib.Decide.{dec_lt}
use Rattle.model.specs.Loops.{each_below}
use Rattle.model.specs.Nodes.{suffix_of}
use Rattle.model.specs.Learning.{floor_of, learn_at, learn}
use Rattle.model.proofs.TableSteps.{learn_starts, learn_none, learn_ends}

-- the levels from n, the floor, to m, the common suffix, are done; there are none where the suffix is below the floor
pub learn_stops : (s : List ℕ) (x u : ℕ) (T : List ℕ) (n m i : ℕ) (T' : List ℕ) → n ≡ floor_of s u → m ≡ suffix_of s x u
    → T' ≡ each_below i (learn_at s u) T → (n ≤ m + 1 → i ≤ m + 1) → (m < n → i ≡ n) → m + 1 ≤ i → T' ≡ learn s x u T
learn_stops s x u T n m i T' en em e l none g = go (dec_lt m n)
  where
    go : Dec (m < n) → T' ≡ learn s x u T
    go (no h) = learn_ends s x u T i m T' e em (l (omega arith)) (omega arith)
    go (yes h) =
        let f : T' ≡ each_below n (learn_at s u) T = subst (λ (i : ℕ). T' ≡ each_below i (learn_at s u) T) (none h) e in
        f ∙ sym (learn_starts s x u T n en) ∙ learn_none s x u T n en m em h
