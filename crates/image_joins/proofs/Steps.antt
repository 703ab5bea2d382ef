-- Where the joins and counts stand, and loading them step by step. Assumes nothing.
use Prim.Native.Nat.{ℕ, ◌+◌, ◌*◌, ◌≤◌, ◌<◌}
use mathlib.Core.Path.{◌≡◌, ap, ap₂, ◌∙◌}
use mathlib.Core.Bool.{true}
use mathlib.Core.List.{List}
use native.Mathlib.Omega.{arith}
use lib.ListN.{length}
use Rattle.model.specs.Loops.{each_below}
use Rattle.model.specs.Memory as memory
use Rattle.model.specs.Memory.{state_length, node_of, with_node}
use Rattle.model.specs.Image.{byte_at, im_nodes, joins_end, im_joins, joins_listed, joined_node, load_join, load_counts, loaded_joins}
use Rattle.model.proofs.JoinsLoaded.{number_node}
use Rattle.state.specs.declared.record.Node.{Node}
use Rattle.state.specs.Loaded.{Placed, book_node}
use Rattle.image_fields.specs.Parts.{CountsRight}
use Rattle.image_joins.specs.declared.joins.Join.{Join}
use Rattle.image_joins.specs.Sections.{JoinOf, joined_by, counted_by}

-- ---- a join

module _ (im s : List ℕ) (q : ℕ) (j : Join) (o : JoinOf im q j) where
  pub join_placed : CountsRight im → state_length ≤ length s → joins_listed im ≡ true → q < im_joins im → Placed s j.node
  join_placed w long listed l =
      let n = number_node im listed q l in
      record {
        long = long;
        first = omega (arith, o.node, n.0);
        last = omega (arith, o.node, n.1, w.few);
      }

  joined_is : (r : memory.Node) → joined_by j r ≡ joined_node im q r
  joined_is r = λ i. record {
    id = r.id;
    status = o.status i;
    level = o.level i;
    target = o.target i;
    pending = o.pending i;
    notified = o.notified i;
    requests = r.requests;
    notices = r.notices;
  }

  pub join_step : (s' : List ℕ) (r n : Node) → book_node r ≡ node_of s j.node → book_node n ≡ joined_by j (book_node r)
      → s' ≡ with_node s j.node (book_node n) → s' ≡ load_join im q s
  unfolding load_join
  join_step s' r n er en e =
      e ∙ ap₂ (with_node s) o.node (en ∙ ap (joined_by j) (er ∙ ap (node_of s) o.node) ∙ joined_is (node_of s _))

-- ---- the counts of a node

pub count_step : (im s s' : List ℕ) (counts k a b : ℕ) (r n : Node) → counts ≡ joins_end im → a ≡ byte_at im (counts + 1 + 2 * k)
    → b ≡ byte_at im (counts + 1 + 2 * k + 1) → book_node r ≡ node_of s (k + 1) → book_node n ≡ counted_by a b (book_node r)
    → s' ≡ with_node s (k + 1) (book_node n) → s' ≡ load_counts im k s
unfolding load_counts
count_step im s s' counts k a b r n w ea eb er en e =
    e
    ∙ ap (with_node s (k + 1))
    (en
    ∙ ap (counted_by a b) er
    ∙ ap₂ (λ (a b : ℕ). counted_by a b (node_of s (k + 1))) (ea ∙ ap (byte_at im) (omega (arith, w))) (eb ∙ ap (byte_at im) (omega (arith, w))))

-- ---- the whole

pub joins_loaded : (im s s₁ s₂ : List ℕ) → s₁ ≡ each_below (im_joins im) (load_join im) s → s₂ ≡ each_below (im_nodes im) (load_counts im) s₁
    → s₂ ≡ loaded_joins im s
unfolding loaded_joins
joins_loaded im s s₁ s₂ e f = f ∙ ap (each_below (im_nodes im) (load_counts im)) e
