-- What an image of version 2 that pictures a state gives when its joins and counts are read behind its settings and ids: the state's words, all of them;
-- past the fixed length the memory that was there. Assumes nothing.
use Prim.Native.Nat.{ℕ, zero, suc, ◌+◌, ◌-◌, ◌*◌, ◌/◌, ◌%◌, ◌≤◌, ◌<◌}
use mathlib.Core.Path.{◌≡◌, refl, sym, ap, subst, ◌∙◌}
use mathlib.Core.Logic.{◌≢◌, ◌⊎◌, inl, inr}
use mathlib.Core.Bool.{true, false, not}
use mathlib.Core.List.{List}
use native.Mathlib.Nat.{add-zero}
use native.Mathlib.Decide.{dec_lt}
use native.Mathlib.Omega.{arith}
use lib.ListN.{length, get_or}
use borrow.Author.Tests.{eqb-true}
use Rattle.model.specs.Loops.{count_below, node}
use Rattle.model.specs.Memory.{Node, state_length, node_count, node_of, status_of, in_system, is_in_system}
use Rattle.model.specs.Image.{under_way, im_nodes, im_joins, join_number, im_requests, im_notices, joins_listed, loaded_joins, loaded_ids}
use Rattle.model.proofs.Bools.{true_or_false, not_both}
use Rattle.model.proofs.Counting.{count_rises}
use Rattle.model.proofs.Memory.{node_eq, words}
use Rattle.model.proofs.Over.{over, over_is}
use Rattle.model.proofs.Status.{IsNode, InSystemOk}
use Rattle.model.proofs.Sound.{Sound}
use Rattle.model.proofs.Sections.{Pictures}
use Rattle.model.proofs.JoinSections.{JoinOf, JoinsPictured}
use Rattle.model.proofs.JoinsListed.{JoinAt, join_found, listed}
use Rattle.model.proofs.JoinsLoaded.{joined_long, joined_apart, joined_node_lem, joined_none}
use Rattle.model.proofs.IdsReloaded.{in_system_ok, ids_long, ids_past, ids_apart, ids_back, ids_else}

-- the words of a node's record are where they are in the record, so two states with the same record have the same words there
word_at : (s : List ℕ) (x c : ℕ) → c < 8 → get_or s (8 * x + c) 0 ≡ get_or (words (node_of s x)) c 0
word_at s x zero h = ap (λ (p : ℕ). get_or s p 0) (add-zero (8 * x))
word_at s x (suc zero) h = refl
word_at s x (suc (suc zero)) h = refl
word_at s x (suc (suc (suc zero))) h = refl
word_at s x (suc (suc (suc (suc zero)))) h = refl
word_at s x (suc (suc (suc (suc (suc zero))))) h = refl
word_at s x (suc (suc (suc (suc (suc (suc zero)))))) h = refl
word_at s x (suc (suc (suc (suc (suc (suc (suc zero))))))) h = refl
word_at s x (suc (suc (suc (suc (suc (suc (suc (suc c)))))))) h = absurd (omega arith)

words_same : (s s' : List ℕ) (x : ℕ) → node_of s' x ≡ node_of s x → (c : ℕ) → c < 8 → get_or s' (8 * x + c) 0 ≡ get_or s (8 * x + c) 0
words_same s s' x e c h = word_at s' x c h ∙ ap (λ (r : Node). get_or (words r) c 0) e ∙ sym (word_at s x c h)

-- ---- the joins and the counts

module _ (im s t : List ℕ) (S : Sound s t) (P : Pictures im s t) (J : JoinsPictured im s) (s' : List ℕ) (room : state_length ≤ length s') where
  abbrev s₁ : List ℕ
  s₁ = loaded_ids s' im

  s₂ : List ℕ
  s₂ = loaded_joins im s₁

  long₁ : state_length ≤ length s₁
  long₁ = omega (arith, ids_long im s' room)

  L : joins_listed im ≡ true
  L = listed im s P.nodes J

  few : im_nodes im ≤ 64
  few = omega (arith, P.nodes, S.few)

  -- the record of the node with index y
  module _ (y : ℕ) (l : y < node_count s) where
    abbrev x : ℕ
    x = y + 1

    n : IsNode s x
    n = record { low = omega arith; high = omega arith }

    else : (c : ℕ) → 1 ≤ c → c < 8 → get_or s₁ (8 * x + c) 0 ≡ 0
    else = ids_else im s t S P s' room x n

    w : y + 1 - 1 ≡ y
    w = omega arith

    requests : im_requests im (y + 1 - 1) ≡ (node_of s x).requests
    requests = ap (im_requests im) w ∙ J.requests y l

    notices : im_notices im (y + 1 - 1) ≡ (node_of s x).notices
    notices = ap (im_notices im) w ∙ J.notices y l

    -- in system: no join is of it
    rests : is_in_system s x ≡ true → node_of s₂ x ≡ node_of s x
    unfolding s₂
    rests e =
        let z : status_of s x ≡ 0 = eqb-true (status_of s x) in_system e in
        let r : InSystemOk (node_of s x) = in_system_ok s x (S.statuses x n) z in
        joined_none im s₁ L few long₁ x n.low (omega (arith, P.nodes, n.high)) none
        ∙ node_eq (ids_back im s t S P s' room x n) (else 1 (omega arith) (omega arith) ∙ sym z)
        (else 2 (omega arith) (omega arith) ∙ sym r.level)
        (else 3 (omega arith) (omega arith) ∙ sym r.target)
        (else 4 (omega arith) (omega arith) ∙ sym r.pending)
        (else 5 (omega arith) (omega arith) ∙ sym r.notified) requests notices
      where
        none : (q : ℕ) → q < im_joins im → join_number im q ≢ x
        none q h g =
            let A : JoinAt im s q = join_found im s J q h in
            let v : A.place + 1 ≡ x = sym A.of.number ∙ g in
            not_both (under_way s (A.place + 1)) A.holds (ap (λ (x : ℕ). not (is_in_system s x)) v ∙ ap not e)

    -- under way: its join says it
    joins : under_way s x ≡ true → node_of s₂ x ≡ node_of s x
    unfolding s₂
    joins e =
        let q : ℕ = count_below y (node (under_way s)) in
        let A : JoinOf im q s x = J.join y l e in
        joined_node_lem im s₁ L few long₁ q (omega (arith, J.joins, count_rises y (node_count s) (node (under_way s)) l e)) x A.number
        ∙ node_eq (ids_back im s t S P s' room x n) A.status A.level A.target A.pending A.notified requests notices

    record_back : node_of s₂ x ≡ node_of s x
    record_back = go (true_or_false (is_in_system s x))
      where
        go : (is_in_system s x ≡ true) ⊎ (is_in_system s x ≡ false) → node_of s₂ x ≡ node_of s x
        go (inl e) = rests e
        go (inr e) = joins (ap not e)

  -- a word before the records or behind them is as it was, and one of a record is the state's
  apart : (p : ℕ) → (p < 8) ⊎ (8 * node_count s + 8 ≤ p) → get_or s₂ p 0 ≡ get_or s₁ p 0
  unfolding s₂
  apart p o =
      joined_apart im s₁ L few long₁ p (subst (λ (m : ℕ). (p < 8) ⊎ (8 * m + 8 ≤ p)) (sym P.nodes) o)

  low : (p : ℕ) → p < state_length → get_or s₂ p 0 ≡ get_or s p 0
  low p h = go (dec_lt p 8) (dec_lt p (8 * node_count s + 8))
    where
      outside : (p < 8) ⊎ (8 * node_count s + 8 ≤ p) → get_or s₂ p 0 ≡ get_or s p 0
      outside o = apart p o ∙ ids_apart im s t S P s' room p h o

      go : Dec (p < 8) → Dec (p < 8 * node_count s + 8) → get_or s₂ p 0 ≡ get_or s p 0
      go (yes g) d = outside (inl g)
      go (no g) (no f) = outside (inr (omega arith))
      go (no g) (yes f) =
          let w : 8 * (p / 8 - 1 + 1) + p % 8 ≡ p = omega arith in
          subst (λ (p : ℕ). get_or s₂ p 0 ≡ get_or s p 0) w
          (words_same s s₂ (p / 8 - 1 + 1) (record_back (p / 8 - 1) (omega arith)) (p % 8) (omega arith))

  -- a sound state's words come back
  pub words_resumed : loaded_joins im (loaded_ids s' im) ≡ over state_length s s'
  unfolding s₂
  words_resumed =
      over_is state_length s s' S.long.state room s₂ (joined_long im s₁ L few long₁ ∙ ids_long im s' room) low
      (λ p h. apart p (inr (omega (arith, S.few))) ∙ ids_past im s' room few p h)
