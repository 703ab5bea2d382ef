-- The tables of two nodes that have learned from each other, and what is gathered from them. Assumes nothing.
use Prim.Native.Nat.{ℕ, ◌+◌, ◌≤◌}
use mathlib.Core.Path.{◌≡◌, sym, subst, ◌∙◌}
use mathlib.Core.List.{List}
use native.Mathlib.Omega.{arith}
use lib.ListN.{length}
use Rattle.model.specs.Memory.{node_count, table_start, table_of, with_table}
use Rattle.model.specs.Learning.{learn, learn_table}
use Rattle.model.specs.Join.{gather}
use Rattle.model.proofs.Memory.{stored_same, stored_other, stored_length}
use Rattle.model.proofs.Status.{IsNode}
use Rattle.delivery_parts.specs.Delivers.{NodesIn, Meets, exchanged, notified_tables}
use Rattle.delivery_parts.proofs.Readers.{learn_nodes, learn_table_nodes}

-- ---- learning, and the table put back

-- s' and n are what the code has for the state and the learner
pub learned_is : (s t s' Y T T' : List ℕ) (x y n : ℕ) → n ≡ x → s' ≡ s → Y ≡ table_of t y → T ≡ table_of t x → T' ≡ learn_table s' n Y T
    → T' ≡ learn_table s x (table_of t y) (table_of t x)
learned_is s t s' Y T T' x y n en es eY eT e = cc

-- x has learned before y's table is put back
pub exchanged_is : (s t t₁ t₂ T : List ℕ) (x y : ℕ) → T ≡ learn_table s x (table_of t y) (table_of t x)
    → t₁ ≡ with_table t y (learn s y x (table_of t y)) → t₂ ≡ with_table t₁ x T → t₂ ≡ exchanged s t x y
exchanged_is s t t₁ t₂ T x y e f g = cc

-- what is gathered of a pair after a step is gathered of what the step leaves: s', t', x' and y'
-- are what the pair has for s, t, x and y
module _ (s t s' t' : List ℕ) (x y x' y' k notified r : ℕ) (es : s' ≡ s) (et : t ≡ t') (ex : x' ≡ x) (ey : y' ≡ y) where
  pub theirs_after : (nodes : ℕ) → r ≡ gather s' x' k notified (table_of t' y') nodes → r ≡ gather s x k notified (table_of t y) nodes
  theirs_after nodes e = cc

  pub both_after : r ≡ gather s' x' k notified (table_of t' y') (gather s' x' k notified (table_of t' x') 0)
      → r ≡ gather s x k notified (table_of t y) (gather s x k notified (table_of t x) 0)
  both_after e = cc

module _ (s t : List ℕ) (x y : ℕ) (m : Meets s t x y) where
  fits : (z : ℕ) → IsNode s z → table_start z + 512 ≤ length t
  fits z n =
      let l : 1 ≤ z = n.low in
      let h : z ≤ node_count s = n.high in
      omega (arith, m.network.few, m.tables)

  -- ---- they still meet with one of the tables replaced

  module _ (T : List ℕ) (o : NodesIn s T) where
    own_same : table_of (with_table t y T) x ≡ table_of t x
    own_same =
        stored_other t y T o.long (fits y m.receiver) x m.receiver.low m.sender.low (λ q. m.other (sym q))
        (fits x m.sender)

    theirs_put : table_of (with_table t y T) y ≡ T
    theirs_put = stored_same t y T o.long (fits y m.receiver)

    theirs_same : table_of (with_table t x T) y ≡ table_of t y
    theirs_same =
        stored_other t x T o.long (fits x m.sender) y m.sender.low m.receiver.low m.other (fits y m.receiver)

    own_put : table_of (with_table t x T) x ≡ T
    own_put = stored_same t x T o.long (fits x m.sender)

    meets_theirs : Meets s (with_table t y T) x y
    meets_theirs = record {
      network = m.network;
      tables = omega (arith, stored_length t y T o.long (fits y m.receiver), m.tables);
      sender = m.sender;
      receiver = m.receiver;
      other = m.other;
      own = subst (NodesIn s) (sym own_same) m.own;
      theirs = subst (NodesIn s) (sym theirs_put) o;
    }

    meets_own : Meets s (with_table t x T) x y
    meets_own = record {
      network = m.network;
      tables = omega (arith, stored_length t x T o.long (fits x m.sender), m.tables);
      sender = m.sender;
      receiver = m.receiver;
      other = m.other;
      own = subst (NodesIn s) (sym own_put) o;
      theirs = subst (NodesIn s) (sym theirs_same) m.theirs;
    }

  abbrev Ty' : List ℕ
  Ty' = learn s y x (table_of t y)

  taught_nodes : NodesIn s Ty'
  taught_nodes = learn_nodes s y x (table_of t y) m.sender m.theirs

  pub meets_taught : (t₁ : List ℕ) → t₁ ≡ with_table t y Ty' → Meets s t₁ x y
  meets_taught t₁ e = subst (λ (t : List ℕ). Meets s t x y) (sym e) (meets_theirs Ty' taught_nodes)

  pub meets_learned : (t₁ T : List ℕ) → T ≡ learn_table s x (table_of t y) (table_of t x) → t₁ ≡ with_table t x T → Meets s t₁ x y
  meets_learned t₁ T e f =
      subst (λ (t : List ℕ). Meets s t x y) (sym f)
      (meets_own T (subst (NodesIn s) (sym e) (learn_table_nodes s x (table_of t y) (table_of t x) m.theirs m.own)))

-- ---- after both have learned

module _ (s t : List ℕ) (x y : ℕ) (m : Meets s t x y) where
  -- y learns x, and then x learns y's table
  pub notified_is : (t₁ t₂ : List ℕ) → t₁ ≡ with_table t y (Ty' s t x y m)
      → t₂ ≡ with_table t₁ x (learn_table s x (table_of t₁ y) (table_of t₁ x)) → t₂ ≡ notified_tables s t x y
  notified_is t₁ t₂ e f =
      let a : table_of (with_table t y (Ty' s t x y m)) y ≡ Ty' s t x y m = theirs_put s t x y m (Ty' s t x y m) (taught_nodes s t x y m) in
      let b : table_of (with_table t y (Ty' s t x y m)) x ≡ table_of t x = own_same s t x y m (Ty' s t x y m) (taught_nodes s t x y m) in cc

  module _ (T : List ℕ) (o : NodesIn s T) where
    m₁ : Meets s (with_table t y (Ty' s t x y m)) x y
    m₁ = meets_theirs s t x y m (Ty' s t x y m) (taught_nodes s t x y m)

    both_meet : Meets s (with_table (with_table t y (Ty' s t x y m)) x T) x y
    both_meet = meets_own s (with_table t y (Ty' s t x y m)) x y m₁ T o

    both_own : table_of (with_table (with_table t y (Ty' s t x y m)) x T) x ≡ T
    both_own = own_put s (with_table t y (Ty' s t x y m)) x y m₁ T o

    both_theirs : table_of (with_table (with_table t y (Ty' s t x y m)) x T) y ≡ Ty' s t x y m
    both_theirs =
        theirs_same s (with_table t y (Ty' s t x y m)) x y m₁ T o ∙ theirs_put s t x y m (Ty' s t x y m) (taught_nodes s t x y m)

  exchanged_nodes : NodesIn s (learn_table s x (table_of t y) (table_of t x))
  exchanged_nodes = learn_table_nodes s x (table_of t y) (table_of t x) m.theirs m.own

  notified_nodes : NodesIn s (learn_table s x (Ty' s t x y m) (table_of t x))
  notified_nodes = learn_table_nodes s x (Ty' s t x y m) (table_of t x) (taught_nodes s t x y m) m.own

  pub meets_exchanged : (t₁ : List ℕ) → t₁ ≡ exchanged s t x y → Meets s t₁ x y
  meets_exchanged t₁ e = subst (λ (t : List ℕ). Meets s t x y) (sym e) (both_meet _ exchanged_nodes)

  pub exchanged_own : table_of (exchanged s t x y) x ≡ learn_table s x (table_of t y) (table_of t x)
  exchanged_own = both_own _ exchanged_nodes

  pub exchanged_theirs : table_of (exchanged s t x y) y ≡ learn s y x (table_of t y)
  exchanged_theirs = both_theirs _ exchanged_nodes

  pub notified_theirs : table_of (notified_tables s t x y) y ≡ learn s y x (table_of t y)
  notified_theirs = both_theirs _ notified_nodes
