-- What loading the joins and the counts of an image of version 2 leaves, record by record: a join under way is in the record of its node, both
-- counts are in the record of theirs, and every other word is as it was. Assumes nothing.
use Prim.Native.Nat.{ℕ, zero, suc, ◌+◌, ◌-◌, ◌*◌, ◌≤◌, ◌<◌}
use mathlib.Core.Path.{◌≡◌, refl, sym, ap, subst, ◌∙◌}
use mathlib.Core.Logic.{◌≢◌, ◌⊎◌, inl, inr, ⊎_elim}
use mathlib.Core.Bool.{true, not, ◌&&◌, ◌||◌}
use mathlib.Core.List.{List, ◌++◌}
use native.Mathlib.Nat.{le_refl, lt-suc_self}
use native.Mathlib.Decide.{ℕ_discrete, le_ind}
use native.Mathlib.Omega.{arith}
use lib.Dec.{leb, ltb, eqb}
use lib.ListN.{length, get_or, get_or-append}
use borrow.Author.Tests.{leb-true, ltb-true, eqb-true, eqb-false, ne_eqb, not-true}
use Rattle.model.specs.Loops.{all_below, each_below}
use Rattle.model.specs.Memory.{Node, state_length, node_of, with_node, id_of, requests_of, notices_of, in_system}
use Rattle.model.specs.Image.{im_nodes, im_joins, im_counts, im_is_node, join_number, join_status, im_requests, im_notices, join_listed, joins_listed, joined_node, load_join, counted_node, load_counts, loaded_joins}
use Rattle.model.proofs.Bools.{and_left, and_right, or_right}
use Rattle.model.proofs.Loops.{all_at, each_keeps}
use Rattle.model.proofs.Memory.{node_same, words_apart, node_length, node_stored, node_outside, same_id, same_requests, same_notices}
use Rattle.model.proofs.Within.{Within, within_then, within_each, within_node}

-- ---- steps that each change one record

-- step k does f k to the record of node x k
abbrev record_step : (ℕ → ℕ) → (ℕ → Node → Node) → ℕ → List ℕ → List ℕ
record_step x f k s = with_node s (x k) (f k (node_of s (x k)))

module _ (n : ℕ) (x : ℕ → ℕ) (f : ℕ → Node → Node) (s : List ℕ) (fits : (k : ℕ) → k < n → 8 * x k + 8 ≤ length s) where
  abbrev after : ℕ → List ℕ
  after m = each_below m (record_step x f) s

  steps_long : (m : ℕ) → m ≤ n → length (after m) ≡ length s
  steps_long m h =
      each_keeps (λ (l : List ℕ). length l ≡ length s) m (record_step x f) s refl
      (λ k l g e. node_length l (x k) (f k (node_of l (x k))) (omega (arith, e, fits k (omega arith))) ∙ e)

  room : (m : ℕ) → m < n → 8 * x m + 8 ≤ length (after m)
  room m h = omega (arith, fits m h, steps_long m (omega arith))

  -- a word in none of the records is as it was
  steps_apart : (p m : ℕ) → m ≤ n → ((k : ℕ) → k < m → (p < 8 * x k) ⊎ (8 * x k + 8 ≤ p)) → get_or (after m) p 0 ≡ get_or s p 0
  unfolding each_below
  steps_apart p zero h out = refl
  steps_apart p (suc m) h out =
      node_outside (after m) (x m) (f m (node_of (after m) (x m))) (room m h) p (out m (lt-suc_self m))
      ∙ steps_apart p m (omega arith) (λ k l. out k (omega arith))

  -- a step stores one record, and leaves every other

  step_stored : (m : ℕ) → m < n → node_of (after (suc m)) (x m) ≡ f m (node_of (after m) (x m))
  unfolding each_below
  step_stored m h = node_stored (after m) (x m) (f m (node_of (after m) (x m))) (room m h)

  step_kept : (m : ℕ) → m < n → (y : ℕ) → y ≢ x m → node_of (after (suc m)) y ≡ node_of (after m) y
  unfolding each_below
  step_kept m h y e =
      node_same (after m) (after (suc m)) y
      (λ c q. node_outside (after m) (x m) (f m (node_of (after m) (x m))) (room m h) (8 * y + c) (words_apart (x m) y c e q))

  -- the record of a node that no step is of
  steps_other : (y m : ℕ) → m ≤ n → ((k : ℕ) → k < m → y ≢ x k) → node_of (after m) y ≡ node_of s y
  unfolding each_below
  steps_other y zero h other = refl
  steps_other y (suc m) h other =
      step_kept m h y (other m (lt-suc_self m)) ∙ steps_other y m (omega arith) (λ k l. other k (omega arith))

  -- that of node x k, if no other step is of the same node
  steps_node : ((j k : ℕ) → j < k → k < n → x j ≢ x k) → (k : ℕ) → k < n → node_of (after n) (x k) ≡ f k (node_of s (x k))
  steps_node differ k l =
      le_ind (λ (m : ℕ). m ≤ n → node_of (after m) (x k) ≡ f k (node_of s (x k)))
      (λ h. step_stored k h ∙ ap (f k) (steps_other (x k) k (omega arith) (λ j g e. differ j k g l (sym e))))
      (λ m g ih h. step_kept m h (x k) (differ k m g h) ∙ ih (omega arith)) n l (le_refl n)

  -- steps that keep the id in a record keep every id
  steps_id : ((k : ℕ) (r : Node) → (f k r).id ≡ r.id) → (y m : ℕ) → m ≤ n → id_of (after m) y ≡ id_of s y
  unfolding each_below
  steps_id same y zero h = refl
  steps_id same y (suc m) h = go m h (ℕ_discrete y (x m)) ∙ steps_id same y m (omega arith)
    where
      go : (k : ℕ) → k < n → Dec (y ≡ x k) → id_of (after (suc k)) y ≡ id_of (after k) y
      go k h (yes e) =
          subst (λ (y : ℕ). id_of (after (suc k)) y ≡ id_of (after k) y) (sym e) (same_id (step_stored k h) ∙ same k (node_of (after k) (x k)))
      go k h (no e) = same_id (step_kept k h y e)

-- ---- the list of joins

module _ (im : List ℕ) (listed : joins_listed im ≡ true) where
  join_listed_lem : (q : ℕ) → q < im_joins im → join_listed im q ≡ true
  join_listed_lem = all_at (im_joins im) (join_listed im) (and_left _ _ listed)

  -- there are counts for as many as the nodes
  pub counts_nodes : im_counts im ≡ im_nodes im
  counts_nodes = eqb-true (im_counts im) (im_nodes im) (and_right (all_below (im_joins im) (join_listed im)) _ listed)

  -- each join is of a node
  pub number_node : (q : ℕ) → q < im_joins im → (1 ≤ join_number im q) × (join_number im q ≤ im_nodes im)
  unfolding join_listed
  number_node q h =
      let e : im_is_node im (join_number im q) ≡ true = and_left _ _ (join_listed_lem q h) in (
        leb-true 1 (join_number im q) (and_left _ _ e),
        leb-true (join_number im q) (im_nodes im) (and_right (leb 1 (join_number im q)) _ e),
      )

  -- it is under way, and its number is above the one before
  rest_listed : (q : ℕ) → q < im_joins im → (not (eqb (join_status im q) in_system) && (eqb q 0 || ltb (join_number im (q - 1)) (join_number im q))) ≡ true
  unfolding join_listed
  rest_listed q h = and_right (im_is_node im (join_number im q)) _ (join_listed_lem q h)

  pub status_joins : (q : ℕ) → q < im_joins im → join_status im q ≢ 0
  status_joins q h = eqb-false (join_status im q) 0 (not-true _ (and_left _ _ (rest_listed q h)))

  next_rises : (q : ℕ) → suc q < im_joins im → join_number im q < join_number im (suc q)
  next_rises q h =
      let w : suc q - 1 ≡ q = omega arith in
      subst (λ (p : ℕ). join_number im p < join_number im (suc q)) w
      (ltb-true _ _
      (or_right (eqb (suc q) 0) _ (and_right (not (eqb (join_status im (suc q)) in_system)) _ (rest_listed (suc q) h)) (ne_eqb (suc q) 0 (omega arith))))

  pub numbers_rise : (p q : ℕ) → p < q → q < im_joins im → join_number im p < join_number im q
  numbers_rise p q l h =
      le_ind (λ (q : ℕ). q < im_joins im → join_number im p < join_number im q) (next_rises p)
      (λ m g ih h. omega (arith, next_rises m h, ih (omega arith))) q l h

-- ---- the state, and its records

module _ (im s : List ℕ) (listed : joins_listed im ≡ true) (few : im_nodes im ≤ 64) (long : state_length ≤ length s) where
  -- with the joins, and not yet the counts
  abbrev joins : List ℕ
  joins = each_below (im_joins im) (load_join im) s

  fits : (q : ℕ) → q < im_joins im → 8 * join_number im q + 8 ≤ length s
  fits q h = omega (arith, few, long, (number_node im listed q h).1)

  joins_long : length joins ≡ length s
  unfolding load_join
  joins_long = steps_long (im_joins im) (join_number im) (joined_node im) s fits (im_joins im) (le_refl (im_joins im))

  -- the counts are stored one node after the other
  after_joins : (k : ℕ) → k < im_nodes im → 8 * (k + 1) + 8 ≤ length joins
  after_joins k h = omega (arith, few, long, joins_long)

  counted : (x : ℕ) → 1 ≤ x → x ≤ im_nodes im → node_of (loaded_joins im s) x ≡ counted_node im (x - 1) (node_of joins x)
  unfolding loaded_joins load_counts
  counted x low high =
      let e : x - 1 + 1 ≡ x = omega arith in
      subst (λ (y : ℕ). node_of (loaded_joins im s) y ≡ counted_node im (x - 1) (node_of joins y)) e
      (steps_node (im_nodes im) (λ k. k + 1) (counted_node im) joins after_joins (λ j k l h. omega arith) (x - 1) (omega arith))

  pub joined_long : length (loaded_joins im s) ≡ length s
  unfolding loaded_joins load_counts
  joined_long = steps_long (im_nodes im) (λ k. k + 1) (counted_node im) joins after_joins (im_nodes im) (le_refl (im_nodes im)) ∙ joins_long

  -- the words before the records and behind them are as they were
  pub joined_apart : (p : ℕ) → (p < 8) ⊎ (8 * im_nodes im + 8 ≤ p) → get_or (loaded_joins im s) p 0 ≡ get_or s p 0
  unfolding loaded_joins load_counts load_join
  joined_apart p out =
      steps_apart (im_nodes im) (λ k. k + 1) (counted_node im) joins after_joins p (im_nodes im) (le_refl (im_nodes im))
      (λ k h. ⊎_elim (λ l. inl (omega arith)) (λ l. inr (omega arith)) out)
      ∙ steps_apart (im_joins im) (join_number im) (joined_node im) s fits p (im_joins im) (le_refl (im_joins im))
      (λ q h.
      let n = number_node im listed q h in
      ⊎_elim (λ l. inl (omega (arith, n.0))) (λ l. inr (omega (arith, n.1))) out)

  -- the record of a node whose join is under way
  pub joined_node_lem : (q : ℕ) → q < im_joins im → (x : ℕ) → join_number im q ≡ x
      → node_of (loaded_joins im s) x ≡ counted_node im (x - 1) (joined_node im q (node_of s x))
  unfolding load_join
  joined_node_lem q h x e =
      let n = number_node im listed q h in
      counted x (omega (arith, n.0)) (omega (arith, n.1))
      ∙ ap (counted_node im (x - 1))
      (subst (λ (x : ℕ). node_of joins x ≡ joined_node im q (node_of s x)) e
      (steps_node (im_joins im) (join_number im) (joined_node im) s fits (λ p q l h w. omega (arith, numbers_rise im listed p q l h)) q h))

  -- and of any other
  pub joined_none : (x : ℕ) → 1 ≤ x → x ≤ im_nodes im → ((q : ℕ) → q < im_joins im → join_number im q ≢ x)
      → node_of (loaded_joins im s) x ≡ counted_node im (x - 1) (node_of s x)
  unfolding load_join
  joined_none x low high none =
      counted x low high
      ∙ ap (counted_node im (x - 1))
      (steps_other (im_joins im) (join_number im) (joined_node im) s fits x (im_joins im) (le_refl (im_joins im)) (λ q h e. none q h (sym e)))

  pub joined_id : (x : ℕ) → 1 ≤ x → x ≤ im_nodes im → id_of (loaded_joins im s) x ≡ id_of s x
  unfolding load_join
  joined_id x low high =
      same_id (counted x low high)
      ∙ steps_id (im_joins im) (join_number im) (joined_node im) s fits (λ q r. refl) x (im_joins im) (le_refl (im_joins im))

  -- every node has its counts
  pub joined_counts : (x : ℕ) → 1 ≤ x → x ≤ im_nodes im
      → (requests_of (loaded_joins im s) x ≡ im_requests im (x - 1)) × (notices_of (loaded_joins im s) x ≡ im_notices im (x - 1))
  joined_counts x low high = let e = counted x low high in (same_requests e, same_notices e)

-- ---- a change of memory

-- what is done to a record
within_record : (x : ℕ) (f : Node → Node) → x ≤ 64 → Within state_length (λ s. with_node s x (f (node_of s x)))
within_record x f h = record {
  apart = λ a b e.
      ap (λ (r : Node). with_node (a ++ b) x (f r)) (node_same a (a ++ b) x (λ k l. get_or-append a b 0 (8 * x + k) (omega arith)))
      ∙ (within_node x (f (node_of a x)) h).apart a b e;
  long = λ a e. (within_node x (f (node_of a x)) h).long a e;
}

-- the joins and the counts are loaded into the first 520 words alone
pub within_joins : (im : List ℕ) → joins_listed im ≡ true → im_nodes im ≤ 64 → Within state_length (loaded_joins im)
unfolding loaded_joins load_join load_counts
within_joins im listed few =
    within_then state_length (each_below (im_joins im) (load_join im)) (each_below (im_nodes im) (load_counts im))
    (within_each state_length (im_joins im) (load_join im)
    (λ q h. within_record (join_number im q) (joined_node im q) (omega (arith, few, (number_node im listed q h).1))))
    (within_each state_length (im_nodes im) (load_counts im) (λ k h. within_record (k + 1) (counted_node im k) (omega (arith, few))))
