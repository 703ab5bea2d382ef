-- What the stores of founding, beginning and withdrawing make of the memory, as the book has it. Assumes nothing.
use Prim.Native.Nat.{ℕ, ◌+◌, ◌-◌, ◌≤◌}
use mathlib.Core.Path.{◌≡◌, ap, ap₂, ◌∙◌}
use mathlib.Core.List.{List}
use native.Mathlib.Omega.{arith}
use lib.ListN.{set, replicate}
use Rattle.model.specs.Memory.{Node as Record, digits, node_count, copying, zeroed, with_node, with_table, state_length, tables_length}
use Rattle.model.specs.Tables.{own_table}
use Rattle.model.specs.Join.{with_settings, new_node, joining_node, no_node, founded, begun, withdrawn}
use Rattle.model.proofs.Memory.{same_requests}
use Rattle.state.specs.declared.record.Node.{Node}
use Rattle.state.specs.Lent.{memory}
use Rattle.state.specs.Loaded.{book_node}

pub founded_is : (s t s₁ t₁ s₂ s₃ t₂ : List ℕ) (b d K id : ℕ) (r : Record) → s₁ ≡ zeroed state_length s → t₁ ≡ zeroed tables_length t → s₂ ≡ with_settings s₁ b d K 1
    → r ≡ new_node id → s₃ ≡ with_node s₂ 1 r → t₂ ≡ with_table t₁ 1 (own_table d id 1) → memory s₃ t₂ ≡ founded s t b d K id
unfolding founded
founded_is s t s₁ t₁ s₂ s₃ t₂ b d K id r e₁ f₁ e₂ er e₃ f₂ =
    ap₂ memory (e₃ ∙ ap₂ (λ (s : List ℕ) (r : Record). with_node s 1 r) (e₂ ∙ ap (λ (s : List ℕ). with_settings s b d K 1) e₁) er)
    (f₂ ∙ ap (λ (t : List ℕ). with_table t 1 (own_table d id 1)) f₁)

-- a new node has sent nothing yet
pub new_sent : (n : Node) (id : ℕ) → book_node n ≡ new_node id → n.requests ≤ 9
new_sent n id e = omega (arith, same_requests e)

pub begun_is : (s t s₁ s₂ t₁ : List ℕ) (n d id gateway : ℕ) (a r : Record) → n ≡ node_count s → d ≡ digits s → s₁ ≡ set s 3 (n + 1)
    → a ≡ new_node id → r ≡ joining_node a copying gateway → s₂ ≡ with_node s₁ (n + 1) r → t₁ ≡ with_table t (n + 1) (own_table d id (n + 1))
    → memory s₂ t₁ ≡ begun s t id gateway
unfolding begun
begun_is s t s₁ s₂ t₁ n d id gateway a r en ed e₁ ea er e₂ f =
    ap₂ memory
    (e₂
    ∙ ap₂ (λ (s : List ℕ) (r : Record). with_node s (n + 1) r) e₁ (er ∙ ap (λ (a : Record). joining_node a copying gateway) ea)
    ∙ ap (λ (n : ℕ). with_node (set s 3 (n + 1)) (n + 1) (joining_node (new_node id) copying gateway)) en)
    (f ∙ ap₂ (λ (n d : ℕ). with_table t (n + 1) (own_table d id (n + 1))) en ed)

pub withdrawn_is : (s t s₁ s₂ t₁ : List ℕ) (n : ℕ) (r : Record) → n ≡ node_count s → s₁ ≡ set s 3 (n - 1) → r ≡ no_node → s₂ ≡ with_node s₁ n r
    → t₁ ≡ with_table t n (replicate 512 0) → memory s₂ t₁ ≡ withdrawn s t
unfolding withdrawn
withdrawn_is s t s₁ s₂ t₁ n r en e₁ er e₂ f = cc
