-- Both counts in the records of a run are those of its history: one proof, for what the two have in common. Assumes nothing.
use Prim.Native.Nat.{ℕ, ◌+◌, ◌*◌, ◌≤◌}
use mathlib.Core.Path.{◌≡◌, refl, sym, ap, subst, ◌∙◌}
use mathlib.Core.Logic.{◌≢◌, ◌⊎◌, inl, inr}
use mathlib.Core.Bool.{Bool, true, false, cond, not, ◌&&◌}
use mathlib.Core.List.{List, [], ◌∷◌, ◌++◌}
use native.Mathlib.Nat.{le_trans}
use native.Mathlib.Decide.{ℕ_discrete}
use native.Mathlib.Omega.{arith}
use lib.Dec.{eqb}
use lib.ListN.{length, get_or}
use borrow.Author.Tests.{eq-eqb, ne_eqb, not-true}
use Rattle.model.specs.Memory.{Memory, Node, digits, node_count, node_of, with_node, copying}
use Rattle.model.specs.Nodes.{is_node}
use Rattle.model.specs.Join.{Delivery, new_node, joining_node, begun, withdrawn, delivery, delivered}
use Rattle.model.specs.Refusals.{begin_refusal, withdraw_refusal, deliver_refusal}
use Rattle.model.specs.Run.{Call, found, read, begin, withdraw, deliver, lookup, survey, verdict, fill, write, trace, sound, Event, step, after, play, history, is_taken, starts, goes_on, keeps_asking, answers_notice, tallied, tally, tally_from}
use Rattle.model.proofs.Bools.{and_left, and_right}
use Rattle.model.proofs.Memory.{node_stored}
use Rattle.model.proofs.Status.{IsNode, is_node_lem, is_node_of, node_among}
use Rattle.model.proofs.Sound.{Sound, node_fits}
use Rattle.model.proofs.Sender.{CanDeliver}
use Rattle.model.proofs.BeginningKeepsSound.{CanBegin, begun_count, begun_kept, begun_new}
use Rattle.model.proofs.Withdrawing.{withdrawn_kept}
use Rattle.model.proofs.ReplacingKeepsSound.{agree_node, agree_kept}
use Rattle.model.proofs.TablesOnlyGrow.{delivered_id, delivered_count}
use Rattle.model.proofs.DeliveryCounts.{delivery_adds}
use Rattle.model.proofs.Taken.{begin_taken, withdraw_taken, deliver_taken}
use Rattle.promise.proofs.Steps.{event, quiet, looks, Effect, still, begins, withdraws, delivers, fills, effect}
use Rattle.promise.proofs.Run.{Goes, step_goes, begin_after, begin_answer, withdraw_after, withdraw_answer, withdraw_away, deliver_after, deliver_answer, fill_after}

-- ---- a count: where a record has it, what a beginning sets it to, and which kinds of delivery raise it

pub record Count : Type 0 where
  pub of : Node → ℕ
  pub first : ℕ
  pub counts : ℕ → Bool

-- what the proof asks of it: the record of a new node has it, and that of a delivery's sender goes by the kind
pub record Kept (k : Count) : Type 0 where
  pub new : (id gateway : ℕ) → k.of (joining_node (new_node id) copying gateway) ≡ k.first
  pub sender : (s t : List ℕ) → Sound s t → (x y : ℕ) → CanDeliver s x y
      → k.of (delivery s t x y).sender ≡ cond (k.counts (delivery s t x y).kind) (k.of (node_of s x) + 1) (k.of (node_of s x))

-- ---- the two counts

abbrev pub request_count : Count
request_count = record { of = λ (r : Node). r.requests; first = 1; counts = keeps_asking }

abbrev pub notice_count : Count
notice_count = record { of = λ (r : Node). r.notices; first = 0; counts = answers_notice }

pub requests_kept : Kept request_count
requests_kept = record { new = λ id gateway. refl; sender = λ s t S x y c. (delivery_adds s t S x y c).requests }

pub notices_kept : Kept notice_count
notices_kept = record { new = λ id gateway. refl; sender = λ s t S x y c. (delivery_adds s t S x y c).notices }

-- ---- one call on

module _ (k : Count) (K : Kept k) where
  -- each node's record has its count
  abbrev pub Counted : (ℕ → ℕ) → Memory → Type 0
  Counted count m = (x : ℕ) → IsNode m.state x → k.of (node_of m.state x) ≡ count x

  -- the count after the call
  abbrev pub next : Memory → Call → (ℕ → ℕ) → ℕ → ℕ
  next m c count x = tally k.first k.counts x (event m c) (count x)

  -- what a taken call with this answer makes of a count
  taken_next : (m : Memory) (c : Call) (answer : List ℕ) (count : ℕ → ℕ) (x : ℕ) → (step m c).answer ≡ answer → is_taken answer ≡ true
      → next m c count x ≡ tallied k.first k.counts x c answer (count x)
  unfolding tally
  taken_next m c answer count x e t =
      ap (λ (a : List ℕ). cond (is_taken a) (tallied k.first k.counts x c a (count x)) (count x)) e
      ∙ ap (λ (b : Bool). cond b (tallied k.first k.counts x c answer (count x)) (count x)) t

  module _ (count : ℕ → ℕ) (m : Memory) where
    abbrev s : List ℕ
    s = m.state

    abbrev t : List ℕ
    t = m.tables

    -- ---- a beginning

    module _ (id gateway : ℕ) (r : begin_refusal m id gateway ≡ 0) where
      abbrev n : ℕ
      n = node_count s + 1

      begin_gives : (x : ℕ) → next m (begin id gateway) count x ≡ cond (eqb n x) k.first (count x)
      begin_gives x = taken_next m (begin id gateway) _ count x (begin_answer m id gateway r) refl

      begin_same : (x : ℕ) → n ≢ x → next m (begin id gateway) count x ≡ count x
      begin_same x ne = begin_gives x ∙ ap (λ (b : Bool). cond b k.first (count x)) (ne_eqb n x ne)

      begin_new : next m (begin id gateway) count n ≡ k.first
      begin_new = begin_gives n ∙ ap (λ (b : Bool). cond b k.first (count n)) (eq-eqb n n refl)

      begin_counted : Counted count m → Counted (next m (begin id gateway) count) (begun s t id gateway)
      begin_counted H x i = go (ℕ_discrete n x)
        where
          S : Sound s t
          S = (begin_taken m id gateway r).0

          c : CanBegin s id gateway
          c = (begin_taken m id gateway r).1

          go : Dec (n ≡ x) → k.of (node_of (begun s t id gateway).state x) ≡ next m (begin id gateway) count x
          go (yes q) =
              subst (λ (x : ℕ). k.of (node_of (begun s t id gateway).state x) ≡ next m (begin id gateway) count x) q
              (ap k.of (begun_new s t id gateway S c) ∙ K.new id gateway ∙ sym begin_new)
          go (no q) =
              let o : IsNode s x = record { low = i.low; high = omega (arith, i.high, begun_count s t id gateway S c) } in
              ap k.of (begun_kept s t id gateway S c x o) ∙ H x o ∙ sym (begin_same x q)

    -- ---- a withdrawal

    module _ (y : ℕ) (r : withdraw_refusal m y ≡ 0) where
      withdraw_same : (x : ℕ) → next m (withdraw y) count x ≡ count x
      withdraw_same x = taken_next m (withdraw y) _ count x (withdraw_answer m y r) refl

      withdraw_counted : Counted count m → Counted (next m (withdraw y) count) (withdrawn s t)
      withdraw_counted H x i =
          let o = withdrawn_kept s t (withdraw_taken m y r).0 (withdraw_away m y r) x i in
          ap k.of o.1 ∙ H x o.0 ∙ sym (withdraw_same x)

    -- ---- a delivery

    module _ (x y : ℕ) (r : deliver_refusal m x y ≡ 0) where
      abbrev d : Delivery
      d = delivery s t x y

      deliver_gives : (z : ℕ) → next m (deliver x y) count z ≡ cond (eqb x z && k.counts d.kind) (count z + 1) (count z)
      deliver_gives z = taken_next m (deliver x y) _ count z (deliver_answer m x y r) refl

      deliver_same : (z : ℕ) → x ≢ z → next m (deliver x y) count z ≡ count z
      deliver_same z ne = deliver_gives z ∙ ap (λ (b : Bool). cond (b && k.counts d.kind) (count z + 1) (count z)) (ne_eqb x z ne)

      deliver_own : next m (deliver x y) count x ≡ cond (k.counts d.kind) (count x + 1) (count x)
      deliver_own = deliver_gives x ∙ ap (λ (b : Bool). cond (b && k.counts d.kind) (count x + 1) (count x)) (eq-eqb x x refl)

      deliver_counted : Counted count m → Counted (next m (deliver x y) count) (delivered s t x y d)
      unfolding delivered
      deliver_counted H z i = go (ℕ_discrete x z)
        where
          S : Sound s t
          S = (deliver_taken m x y r).0

          c : CanDeliver s x y
          c = (deliver_taken m x y r).1

          fits : 8 * x + 8 ≤ length s
          fits = node_fits s t S x c.sender

          go : Dec (x ≡ z) → k.of (node_of (with_node s x d.sender) z) ≡ next m (deliver x y) count z
          go (yes q) =
              subst (λ (z : ℕ). k.of (node_of (with_node s x d.sender) z) ≡ next m (deliver x y) count z) q
              (ap k.of (node_stored s x d.sender fits)
              ∙ K.sender s t S x y c
              ∙ ap (λ (a : ℕ). cond (k.counts d.kind) (a + 1) a) (H x c.sender)
              ∙ sym deliver_own)
          go (no q) =
              ap k.of (agree_kept x s (with_node s x d.sender) (agree_node s x fits d.sender (delivered_id s t S x y c)) z (λ w. q (sym w)))
              ∙ H z (node_among _ s (omega (arith, delivered_count s t S x y c)) z i)
              ∙ sym (deliver_same z q)

  -- a filling changes no record, and counts nothing
  fill_same : (count : ℕ → ℕ) (m : Memory) (out : List ℕ) (x : ℕ) → next m (fill out) count x ≡ count x
  fill_same count m out x = quiet m (fill out) (looks (λ p q x a n. refl)) k.first k.counts x (count x)

  step_counted : (count : ℕ → ℕ) (m : Memory) (c : Call) → Counted count m → starts m c ≡ false → Counted (next m c count) (after m c)
  step_counted count m c H f = go (effect m c f)
    where
      go : Effect m c → Counted (next m c count) (after m c)
      go (still e q) = rw e (λ x n. H x n ∙ sym (quiet m c q k.first k.counts x (count x)))
      go (begins id gateway e r) =
          subst (λ (c : Call). Counted (next m c count) (after m c)) (sym e) (rw (begin_after m id gateway r) (begin_counted count m id gateway r H))
      go (withdraws y e r) =
          subst (λ (c : Call). Counted (next m c count) (after m c)) (sym e) (rw (withdraw_after m y r) (withdraw_counted count m y r H))
      go (delivers x y e r) =
          subst (λ (c : Call). Counted (next m c count) (after m c)) (sym e) (rw (deliver_after m x y r) (deliver_counted count m x y r H))
      go (fills out e r) =
          subst (λ (c : Call). Counted (next m c count) (after m c)) (sym e)
          (rw (fill_after m out r) (λ x n. H x n ∙ sym (fill_same count m out x)))

  -- a call that changes the count of x leaves x a node
  counts_nodes : (count : ℕ → ℕ) (m : Memory) (c : Call) → starts m c ≡ false → (x : ℕ) → (next m c count x ≡ count x) ⊎ IsNode (after m c).state x
  counts_nodes count m c f x = go (effect m c f)
    where
      Counts : Call → Type 0
      Counts c = (next m c count x ≡ count x) ⊎ IsNode (after m c).state x

      go : Effect m c → Counts c
      go (still e q) = inl (quiet m c q k.first k.counts x (count x))
      go (begins id gateway e r) = subst Counts (sym e) (new (ℕ_discrete (node_count m.state + 1) x))
        where
          new : Dec (node_count m.state + 1 ≡ x) → Counts (begin id gateway)
          new (yes q) =
              let w = begin_taken m id gateway r in
              inr (rw (begin_after m id gateway r) (record { low = omega (arith, q); high = omega (arith, q, begun_count _ _ id gateway w.0 w.1) }))
          new (no q) = inl (begin_same count m id gateway r x q)
      go (withdraws y e r) = subst Counts (sym e) (inl (withdraw_same count m y r x))
      go (delivers y z e r) = subst Counts (sym e) (own (ℕ_discrete y x))
        where
          own : Dec (y ≡ x) → Counts (deliver y z)
          own (yes q) =
              let w = deliver_taken m y z r in
              inr
              (rw (deliver_after m y z r)
              (record {
                low = omega (arith, q, w.1.sender.low);
                high = omega (arith, q, delivered_count _ _ w.0 y z w.1, w.1.sender.high);
              }))
          own (no q) = inl (deliver_same count m y z r x q)
      go (fills out e r) = subst Counts (sym e) (inl (fill_same count m out x))

  -- ---- any list of calls that starts no new run

  -- the counts after it
  abbrev pub total : Memory → List Call → (ℕ → ℕ) → ℕ → ℕ
  total m cs count x = tally_from k.first k.counts x (count x) (history m cs)

  pub run_counted : (count : ℕ → ℕ) (m : Memory) (cs : List Call) → Counted count m → goes_on m cs ≡ true → Counted (total m cs count) (play m cs)
  unfolding goes_on history play tally_from
  run_counted count m [] H g = H
  run_counted count m (c ∷ cs) H g =
      run_counted (next m c count) (after m c) cs (step_counted count m c H (not-true (starts m c) (and_left (not (starts m c)) _ g)))
      (and_right (not (starts m c)) _ g)

-- ---- a history counts no less from a higher start, and one behind another as both together

module _ (first first' : ℕ) (counts : ℕ → Bool) (x : ℕ) (less : first ≤ first') where
  tally_less : (a b : ℕ) → a ≤ b → (e : Event) → tally first counts x e a ≤ tally first' counts x e b
  unfolding tally
  tally_less a b l e = either (is_taken e.answer) (by_call e.call)
    where
      either : (taken : Bool) {a' b' : ℕ} → a' ≤ b' → cond taken a' a ≤ cond taken b' b
      either true h = h
      either false h = l

      by_call : (c : Call) → tallied first counts x c e.answer a ≤ tallied first' counts x c e.answer b
      by_call (found base digits depth id) = l
      by_call (read im) = l
      by_call (begin id gateway) = new (eqb (get_or e.answer 1 0) x)
        where
          new : (is : Bool) → cond is first a ≤ cond is first' b
          new true = less
          new false = l
      by_call (withdraw y) = l
      by_call (deliver y z) = own (eqb y x && counts (get_or e.answer 1 0))
        where
          own : (is : Bool) → cond is (a + 1) a ≤ cond is (b + 1) b
          own true = omega arith
          own false = l
      by_call (lookup u z failed) = l
      by_call (survey failed) = l
      by_call verdict = l
      by_call (fill out) = l
      by_call (write v out) = l
      by_call (trace file) = l
      by_call sound = l

  tally_fewer : (a b : ℕ) → a ≤ b → (es : List Event) → tally_from first counts x a es ≤ tally_from first' counts x b es
  unfolding tally_from
  tally_fewer a b l [] = l
  tally_fewer a b l (e ∷ es) = tally_fewer (tally first counts x e a) (tally first' counts x e b) (tally_less a b l e) es

pub tally_append : (first : ℕ) (counts : ℕ → Bool) (x n : ℕ) (es es' : List Event)
    → tally_from first counts x n (es ++ es') ≡ tally_from first counts x (tally_from first counts x n es) es'
unfolding tally_from
tally_append first counts x n [] es' = refl
tally_append first counts x n (e ∷ es) es' = tally_append first counts x (tally first counts x e n) es es'

-- ---- a count that in a sound state is at most d and so many more is so of every number, whether a node has it or not

module _ (k : Count) (K : Kept k) (more : ℕ) (most : (s t : List ℕ) → Sound s t → (x : ℕ) → IsNode s x → k.of (node_of s x) ≤ digits s + more) where
  pub few : (count : ℕ → ℕ) (m : Memory) (cs : List Call) → Counted k K count m → Sound m.state m.tables → goes_on m cs ≡ true
      → ((x : ℕ) → count x ≤ digits m.state + more) → (x : ℕ) → total k K m cs count x ≤ digits (play m cs).state + more
  unfolding goes_on history play tally_from
  few count m [] H S g f = f
  few count m (c ∷ cs) H S g f =
      few (next k K m c count) (after m c) cs (step_counted k K count m c H on) one.sound (and_right (not (starts m c)) _ g)
      (λ x. bound x (counts_nodes k K count m c on x))
    where
      on : starts m c ≡ false
      on = not-true (starts m c) (and_left (not (starts m c)) _ g)

      one : Goes m (after m c)
      one = step_goes m c S on

      bound : (x : ℕ) → (next k K m c count x ≡ count x) ⊎ IsNode (after m c).state x → next k K m c count x ≤ digits (after m c).state + more
      bound x (inl e) = omega (arith, e, f x, one.onward.digits)
      bound x (inr n) = omega (arith, step_counted k K count m c H on x n, most (after m c).state (after m c).tables one.sound x n)

  -- so is what a history counts on top of nothing, whatever the records had at the start
  pub few_sent : (first : ℕ) → first ≤ k.first → (m : Memory) (cs : List Call) → Sound m.state m.tables → goes_on m cs ≡ true → (x : ℕ)
      → tally_from first k.counts x 0 (history m cs) ≤ digits (play m cs).state + more
  few_sent first l m cs S g x =
      le_trans (tally_fewer first k.first k.counts x l 0 (count x) (omega arith) (history m cs)) (few count m cs counted S g bound x)
    where
      -- what the records have at the start, and nothing for a number that no node has
      count : ℕ → ℕ
      count x = cond (is_node m.state x) (k.of (node_of m.state x)) 0

      counted : Counted k K count m
      counted x n = sym (ap (λ (b : Bool). cond b (k.of (node_of m.state x)) 0) (is_node_of m.state x n))

      bound : (x : ℕ) → count x ≤ digits m.state + more
      bound x = go (is_node m.state x) refl
        where
          go : (b : Bool) → is_node m.state x ≡ b → cond b (k.of (node_of m.state x)) 0 ≤ digits m.state + more
          go true e = most m.state m.tables S x (is_node_lem m.state x e)
          go false e = omega arith
