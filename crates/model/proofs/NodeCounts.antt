-- The rules of a node's two counts as facts, and the way there and back. Assumes nothing.
use Prim.Native.Nat.{ℕ, ◌+◌, ◌≤◌}
use mathlib.Core.Path.{◌≡◌, sym, ◌∙◌}
use mathlib.Core.Logic.{◌≢◌, ◌⊎◌, ⊎_elim}
use mathlib.Core.Bool.{true, cond}
use mathlib.Core.List.{List}
use native.Mathlib.Decide.{ℕ_discrete}
use native.Mathlib.Omega.{arith}
use lib.Dec.{eqb}
use borrow.Author.Tests.{eqb-true, eq-eqb, ne_eqb, leb-true, le-leb}
use Rattle.model.specs.Memory.{Node, digits, node_of, requests_of, notices_of, in_system, copying, waiting, notifying, set_size}
use Rattle.model.specs.Nodes.{suffix_of}
use Rattle.model.specs.Join.{joining_node}
use Rattle.model.specs.Sound.{request_limit, requests_in_limit, notices_few, notices_less_one, no_notices, notices_sound, counts_sound}
use Rattle.model.proofs.Bools.{and_left, and_right, and_intro}

-- the limit of a node with this status and this common suffix with its target
abbrev pub limit_of : ℕ → ℕ → ℕ → ℕ
limit_of d status suffix = cond (eqb status copying) (suffix + 1) (cond (eqb status waiting) (suffix + 2) (d + 1))

-- the rule of the second count, by the status
pub record NoticesOk (r : Node) : Type 0 where
  pub few : r.status ≡ in_system → r.notices ≤ 62
  pub less_one : r.status ≡ notifying → r.notices + 1 ≡ set_size r.notified
  pub none : r.status ≢ in_system → r.status ≢ notifying → r.notices ≡ 0

-- the rules of both counts of a record r, which may be x's
pub record CountsOk (s : List ℕ) (x : ℕ) (r : Node) : Type 0 where
  pub requests : r.requests ≤ limit_of (digits s) r.status (suffix_of s x r.target)
  pub notices : NoticesOk r

-- x has counted nothing
abbrev pub Fresh : List ℕ → ℕ → Type 0
Fresh s x = (requests_of s x ≡ 0) × (notices_of s x ≡ 0)

-- a record in system that has counted nothing, and one that joins
pub fresh_counts : (s : List ℕ) (x : ℕ) (r : Node) → r.status ≡ in_system → r.requests ≡ 0 → r.notices ≡ 0 → CountsOk s x r
fresh_counts s x r e f g = record {
  requests = rw e (omega arith);
  notices = record { few = λ q. omega arith; less_one = λ q. absurd (omega arith); none = λ a b. g };
}

pub joining_counts : (s : List ℕ) (x : ℕ) (r : Node) (status target : ℕ) → (status ≡ copying) ⊎ (status ≡ waiting) → r.notices ≡ 0
    → r.requests + 1 ≤ limit_of (digits s) status (suffix_of s x target) → CountsOk s x (joining_node r status target)
joining_counts s x r status target e none h = record {
  requests = h;
  notices = record {
    few = λ q. omega (arith, none);
    less_one = λ q. absurd (⊎_elim (λ (g : status ≡ copying). omega arith) (λ (g : status ≡ waiting). omega arith) e);
    none = λ a b. none;
  };
}

-- ---- the test of the second count

module _ (r : Node) where
  pub at_in_system : r.status ≡ in_system → notices_sound r ≡ notices_few r
  unfolding notices_sound
  at_in_system e = rw e

  pub at_notifying : r.status ≡ notifying → notices_sound r ≡ notices_less_one r
  unfolding notices_sound
  at_notifying e = rw e

  pub at_others : r.status ≢ in_system → r.status ≢ notifying → notices_sound r ≡ no_notices r
  unfolding notices_sound
  at_others e f = rw (ne_eqb r.status in_system e, ne_eqb r.status notifying f)

  notices_ok : notices_sound r ≡ true → NoticesOk r
  notices_ok h = record {
    few = λ e. leb-true _ 62 (sym (at_in_system e) ∙ h);
    less_one = λ e. eqb-true _ _ (sym (at_notifying e) ∙ h);
    none = λ e f. eqb-true _ 0 (sym (at_others e f) ∙ h);
  }

  notices_of_lem : NoticesOk r → notices_sound r ≡ true
  notices_of_lem o = go (ℕ_discrete r.status in_system) (ℕ_discrete r.status notifying)
    where
      go : Dec (r.status ≡ in_system) → Dec (r.status ≡ notifying) → notices_sound r ≡ true
      go (yes e) f = at_in_system e ∙ le-leb r.notices 62 (o.few e)
      go (no e) (yes f) = at_notifying f ∙ eq-eqb _ _ (o.less_one f)
      go (no e) (no f) = at_others e f ∙ eq-eqb r.notices 0 (o.none e f)

-- ---- the tests of both

module _ (s : List ℕ) (x : ℕ) where
  pub counts_ok : counts_sound s x ≡ true → CountsOk s x (node_of s x)
  unfolding counts_sound request_limit
  counts_ok h = record {
    requests = leb-true _ _ (and_left (requests_in_limit s x) (notices_sound (node_of s x)) h);
    notices = notices_ok (node_of s x) (and_right (requests_in_limit s x) (notices_sound (node_of s x)) h);
  }

  pub counts_of : CountsOk s x (node_of s x) → counts_sound s x ≡ true
  unfolding counts_sound request_limit
  counts_of o =
      and_intro (requests_in_limit s x) (notices_sound (node_of s x)) (le-leb _ _ o.requests) (notices_of_lem (node_of s x) o.notices)
