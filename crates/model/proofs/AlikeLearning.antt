-- In states alike up to a number, learning and gathering of nodes up to there give the same. Assumes nothing.
use Prim.Native.Nat.{ℕ, suc, ◌≤◌}
use mathlib.Core.Path.{◌≡◌, ap, fun_ext}
use mathlib.Core.Logic.{⊎_elim}
use mathlib.Core.Bool.{cond, ◌||◌}
use mathlib.Core.List.{List}
use lib.Dec.{eqb}
use lib.ListN.{get_or, set}
use Rattle.model.specs.Tables.{append}
use Rattle.model.specs.Nodes.{suffix_of}
use Rattle.model.specs.Learning.{learn_at, learn, learn_place, learn_table}
use Rattle.model.specs.Join.{gather_place, gather}
use Rattle.model.proofs.Loops.{each_same, each_keeps}
use Rattle.model.proofs.Splice.{set_keeps}
use Rattle.model.proofs.Learning.{learn_at_cases, learn_place_cases}
use Rattle.model.proofs.Alike.{AlikeTo, suffix_alike}

-- every number in the table is at most n
abbrev pub Few : ℕ → List ℕ → Type 0
Few n T = (p : ℕ) → get_or T p 0 ≤ n

set_few : (n : ℕ) (T : List ℕ) (q u : ℕ) → Few n T → u ≤ n → Few n (set T q u)
set_few n T q u f h p = set_keeps (λ (v : ℕ). v ≤ n) T q u p (f p) (λ e. h)

pub learn_few : (n : ℕ) (s : List ℕ) (x u : ℕ) (T : List ℕ) → Few n T → u ≤ n → Few n (learn s x u T)
unfolding learn append
learn_few n s x u T f h =
    each_keeps (Few n) (suc (suffix_of s x u)) (learn_at s u) T f
    (λ i T g few. ⊎_elim (λ a. rw a.is (set_few n T _ u few h)) (λ e. rw e few) (learn_at_cases s u i T))

pub learn_table_few : (n : ℕ) (s : List ℕ) (x : ℕ) (Y T : List ℕ) → Few n Y → Few n T → Few n (learn_table s x Y T)
unfolding learn_table
learn_table_few n s x Y T fy f =
    each_keeps (Few n) 512 (learn_place s x Y) T f
    (λ p T g few.
    ⊎_elim (λ e. rw e few) (λ c. rw c.2 (learn_few n s x (get_or Y p 0) T few (fy p))) (learn_place_cases s x Y p T))

module _ {n : ℕ} {s s' : List ℕ} (a : AlikeTo n s s') (x : ℕ) (hx : x ≤ n) where
  pub learn_same : (u : ℕ) (T : List ℕ) → u ≤ n → learn s' x u T ≡ learn s x u T
  unfolding learn learn_at
  learn_same u T h =
      cc (suffix_alike a x u hx h, at)
    where
      at : learn_at s' u ≡ learn_at s u
      at = fun_ext (λ i. fun_ext (λ T. cc (a.depth, a.ids u h, a.statuses u h, a.levels u h)))

  pub learn_table_same : (Y T : List ℕ) → Few n Y → learn_table s' x Y T ≡ learn_table s x Y T
  unfolding learn_table learn_place
  learn_table_same Y T f =
      each_same 512 (learn_place s' x Y) (learn_place s x Y) T
      (λ p T l. ap (cond (eqb (get_or Y p 0) 0 || eqb (get_or Y p 0) x) T) (learn_same (get_or Y p 0) T (f p)))

  pub gather_same : (k notified : ℕ) (T : List ℕ) (nodes : ℕ) → Few n T → gather s' x k notified T nodes ≡ gather s x k notified T nodes
  unfolding gather
  gather_same k notified T nodes f =
      each_same 512 (gather_place s' x k notified T) (gather_place s x k notified T) nodes
      (λ p nodes l. cc (suffix_alike a x (get_or T p 0) hx (f p)))
