-- The nodes of a sound state: their ids differ, what stands in an attached node's table is attached, and each may learn the attached others.
-- Assumes nothing.
use Prim.Native.Nat.{ℕ, ◌<◌}
use mathlib.Core.Path.{◌≡◌, sym, ap, subst₃, ◌∙◌}
use mathlib.Core.Logic.{◌≢◌, ⊎_elim}
use mathlib.Core.Bool.{true}
use mathlib.Core.List.{List}
use native.Mathlib.Decide.{dec_lt}
use native.Mathlib.Omega.{arith}
use lib.Dec.{eqb}
use lib.ListN.{get_or}
use borrow.Author.Tests.{eqb-true}
use Rattle.model.specs.Ids.{valid_id}
use Rattle.model.specs.Memory.{base, digits, depth, node_count, id_of, is_attached, table_of}
use Rattle.model.specs.Nodes.{suffix_of}
use Rattle.model.specs.Learning.{learn, learn_table}
use Rattle.model.proofs.Bools.{or_cases, or_intro_right}
use Rattle.model.proofs.Ids.{InRange, suffix_other}
use Rattle.model.proofs.Memory.{table_length}
use Rattle.model.proofs.Status.{IsNode, node_among}
use Rattle.model.proofs.Sound.{standing, Sound, table_fits}
use Rattle.model.proofs.LearningKeepsRules.{Known, OwnTable, learn_keeps, learn_table_keeps}
use Rattle.model.proofs.Later.{Later, suffix_later, table_later}

pub own_later : (s s' : List ℕ) → Later s s' → (x : ℕ) (T : List ℕ) → IsNode s x → IsNode s' x → OwnTable s x T → OwnTable s' x T
own_later s s' l x T n n' o = record { long = o.long; rules = table_later s s' l x T n n' o.rules }

-- a node in an attached node's table is an attached node
pub stands_node : (s : List ℕ) → InRange (base s) (digits s) (depth s) → (y : ℕ) → is_attached s y ≡ true → (T : List ℕ) → OwnTable s y T
    → (p : ℕ) → p < 512 → get_or T p 0 ≢ 0 → IsNode s (get_or T p 0) × (is_attached s (get_or T p 0) ≡ true)
stands_node s range y attached T o p h nz =
    let f = standing s range y T o.rules p h nz in (
      record { low = omega (arith, nz); high = f.0 },
      ⊎_elim (λ e. ap (is_attached s) (eqb-true (get_or T p 0) y e) ∙ attached) (λ a. a)
          (or_cases (eqb (get_or T p 0) y) (is_attached s (get_or T p 0)) f.1),
    )

module _ (s t : List ℕ) (S : Sound s t) where
  pub own : (x : ℕ) → IsNode s x → OwnTable s x (table_of t x)
  own x n = record { long = table_length t x (table_fits s t S x n); rules = S.tables x n }

  -- two nodes have different ids
  ids_differ : (x u : ℕ) → IsNode s x → IsNode s u → u ≢ x → id_of s x ≢ id_of s u
  ids_differ x u nx nu ne e = go (dec_lt u x)
    where
      go : Dec (u < x) → ⊥
      go (yes l) = S.new x u nx nu.low l (sym e)
      go (no g) = S.new u x nu nx.low (omega arith) e

  pub suffix_below : (x u : ℕ) → IsNode s x → IsNode s u → u ≢ x → suffix_of s x u < digits s
  suffix_below x u nx nu ne =
      suffix_other (base s) (digits s) (id_of s x) (id_of s u) (S.ids x nx) (S.ids u nu) (ids_differ x u nx nu ne)

  module _ (s' : List ℕ) (l : Later s s') where
    pub range : InRange (base s') (digits s') (depth s')
    range = subst₃ InRange (sym l.base) (sym l.digits) (sym l.depth) S.settings

    -- the tables of nodes that learn in s' keep their rules there: x learns a table of y, and the node u
    module _ (count : node_count s' ≡ node_count s) (x : ℕ) (nx : IsNode s x) where
      on : (u : ℕ) → IsNode s u → IsNode s' u
      on = node_among s s' (omega (arith, count))

      -- x may learn another node that is attached
      known : (u : ℕ) → IsNode s u → u ≢ x → is_attached s' u ≡ true → Known s' x u
      known u nu ne a = record {
        first = nu.low;
        last = (on u nu).high;
        may = or_intro_right (eqb u x) (is_attached s' u) a;
        valid =
            subst₃ (λ (b d id : ℕ). valid_id b d id ≡ true) (sym l.base) (sym l.digits) (sym (l.ids u nu (on u nu))) (S.ids u nu);
        suffix = omega (arith, suffix_later s s' l x u nx (on x nx) nu (on u nu), l.digits, suffix_below x u nx nu ne);
      }

      old : OwnTable s' x (table_of t x)
      old = own_later s s' l x (table_of t x) nx (on x nx) (own x nx)

      pub learned_table : (y : ℕ) → is_attached s' y ≡ true → (Y : List ℕ) → OwnTable s' y Y → OwnTable s' x (learn_table s' x Y (table_of t x))
      learned_table y a Y o =
          learn_table_keeps s' x range nx.low Y
          (λ p h nz no.
          let f = stands_node s' range y a Y o p h nz in
          known (get_or Y p 0) (record { low = f.0.low; high = omega (arith, count, f.0.high) }) no f.1)
          (table_of t x) old

      pub learned_node : (u : ℕ) → IsNode s u → u ≢ x → is_attached s' u ≡ true → OwnTable s' x (learn s' x u (table_of t x))
      learned_node u nu ne a = learn_keeps s' x range nx.low u (known u nu ne a) (table_of t x) old
