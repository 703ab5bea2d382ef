-- The joins and the counts of an image of version 2, read and written back, have the same bytes: the nodes whose join is under way are those of the
-- image's joins, in the same order. Assumes nothing.
use Prim.Native.Nat.{ℕ, zero, suc, ◌+◌, ◌-◌, ◌*◌, ◌≤◌, ◌<◌}
use mathlib.Core.Path.{◌≡◌, sym, ap, ap₂, ◌∙◌, refl}
use mathlib.Core.Logic.{◌≢◌, inl, ⊎_elim}
use mathlib.Core.Bool.{Bool, true, cond}
use mathlib.Core.List.{List, [], ◌∷◌, ◌++◌}
use native.Mathlib.Nat.{lt-suc_self, le_of_eq, le_of_lt, le_of_suc-le-suc, eq-or-lt_of_le}
use native.Mathlib.Omega.{arith}
use lib.Dec.{eqb, lit≤, lit<}
use lib.ListN.{length, get_or}
use borrow.Author.Tests.{eq-eqb, ne_eqb}
use Rattle.model.specs.Loops.{join_below, node}
use Rattle.model.specs.Memory.{Node, state_length, node_count, node_of, status_of, in_system}
use Rattle.model.specs.Nodes.{count_nodes, join_nodes}
use Rattle.model.specs.Image.{under_way, join_bytes, count_bytes, rest_bytes, byte_at, im_nodes, records_end, im_joins, join_number, join_status, joins_end, im_counts, joins_listed, joined_node, loaded_joins, join_fields}
use Rattle.model.proofs.Counting.{join_skip}
use Rattle.model.proofs.BytesFrom.{bytes_from, from_length, from_then, from_blocks, from_more, eight_from}
use Rattle.model.proofs.JoinSections.{joins_length}
use Rattle.model.proofs.JoinsLoaded.{counts_nodes, number_node, status_joins, numbers_rise, joined_apart, joined_node_lem, joined_none, joined_counts}

-- ---- lists joined that are empty but at places that rise

join_rising : (f : ℕ → List ℕ) (place : ℕ → ℕ) (m n : ℕ) → ((p q : ℕ) → p < q → q < m → place p < place q) → ((q : ℕ) → q < m → place q < n)
    → ((k : ℕ) → k < n → ((q : ℕ) → q < m → place q ≢ k) → f k ≡ []) → join_below n f ≡ join_below m (λ q. f (place q))
unfolding join_below
join_rising f place zero n rises below none =
    join_skip 0 n f (omega arith) (λ k l h. none k h (λ q g. absurd (omega arith)))
join_rising f place (suc m) n rises below none =
    join_skip (suc (place m)) n f (below m (lt-suc_self m)) (λ k l h. none k h (λ q g e. omega (arith, most q g)))
    ∙ ap (λ (l : List ℕ). l ++ f (place m))
    (join_rising f place m (place m) (λ p q l h. rises p q l (omega arith)) (λ q h. rises q m h (lt-suc_self m))
    (λ k l h.
    none k (omega (arith, below m (lt-suc_self m)))
    (λ q g e.
    let ne : q ≢ m = λ w. omega (arith, ap place w) in
    h q (omega arith) e)))
  where
    most : (q : ℕ) → q < suc m → place q ≤ place m
    most q h =
        ⊎_elim (λ e. le_of_eq (ap place e)) (λ l. le_of_lt (rises q m l (lt-suc_self m))) (eq-or-lt_of_le (le_of_suc-le-suc h))

-- ---- a join written

-- its bytes, or none where the test says that the node is in system
abbrev unless_in_system : Bool → ℕ → Node → List ℕ
unless_in_system b x r = cond b [] (join_fields x r)

-- ---- read, then written

-- the records of s have nothing but ids
module _ (im s : List ℕ) (byte : (a : ℕ) → byte_at im a < 256) (listed : joins_listed im ≡ true) (few : im_nodes im ≤ 64) (long : state_length ≤ length s)
    (nodes : node_count s ≡ im_nodes im) (bare : (x c : ℕ) → 1 ≤ x → x ≤ im_nodes im → 1 ≤ c → c < 8 → get_or s (8 * x + c) 0 ≡ 0) where
  -- the state that is written
  abbrev s₂ : List ℕ
  s₂ = loaded_joins im s

  count : node_count s₂ ≡ im_nodes im
  count = joined_apart im s listed few long 3 (inl (lit< tt)) ∙ nodes

  -- what is written of a node with a join
  join_some : (q : ℕ) → q < im_joins im → (x : ℕ) → join_number im q ≡ x → join_bytes s₂ x ≡ bytes_from im (records_end im + 1 + 20 * q) 20
  unfolding join_fields join_bytes bytes_from join_below
  join_some q h x e =
      let a : ℕ = records_end im + 1 + 20 * q in
      let r : Node = joined_node im q (node_of s x) in
      ap (λ (r : Node). unless_in_system (eqb r.status in_system) x r) (joined_node_lem im s listed few long q h x e)
      ∙ ap (λ (b : Bool). unless_in_system b x r) (ne_eqb (join_status im q) in_system (status_joins im listed q h))
      ∙ ap (λ (x : ℕ). join_fields x r) (sym e)
      ∙ ap₂ (λ (l m : List ℕ). bytes_from im a 4 ++ (l ++ m)) (eight_from im byte (a + 4)) (eight_from im byte (a + 12))
      ∙ ap (λ (l : List ℕ). bytes_from im a 4 ++ l) (from_then im (a + 4) 8 (a + 12) 8 16 (omega arith) refl)
      ∙ from_then im a 4 (a + 4) 16 20 refl refl

  -- nothing of a node without one
  join_none : (x : ℕ) → 1 ≤ x → x ≤ im_nodes im → ((q : ℕ) → q < im_joins im → join_number im q ≢ x) → join_bytes s₂ x ≡ []
  unfolding join_fields join_bytes
  join_none x low high none =
      ap (λ (r : Node). unless_in_system (eqb r.status in_system) x r) (joined_none im s listed few long x low high none)
      ∙ ap (λ (b : Bool). unless_in_system b x (node_of s x)) (eq-eqb (status_of s x) in_system (bare x 1 low high (lit≤ tt) (lit< tt)))

  -- all joins, and how many they are
  joins_back : join_nodes s₂ (join_bytes s₂) ≡ bytes_from im (records_end im + 1) (20 * im_joins im)
  joins_back =
      ap (λ (n : ℕ). join_below n (node (join_bytes s₂))) count
      ∙ join_rising (node (join_bytes s₂)) (λ q. join_number im q - 1) (im_joins im) (im_nodes im)
      (λ p q l h. omega (arith, numbers_rise im listed p q l h, (number_node im listed p (omega arith)).0))
      (λ q h. omega (arith, (number_node im listed q h).0, (number_node im listed q h).1))
      (λ k h none. join_none (k + 1) (omega arith) (omega arith) (λ q g e. none q g (omega arith)))
      ∙ from_blocks im (records_end im + 1) 20 (im_joins im) (λ q. join_bytes s₂ (join_number im q - 1 + 1))
      (λ q h. join_some q h (join_number im q - 1 + 1) (omega (arith, (number_node im listed q h).0)))

  joins_count : count_nodes s₂ (under_way s₂) ≡ im_joins im
  joins_count =
      omega (arith, joins_length s₂ (node_count s₂), ap length joins_back, from_length im (records_end im + 1) (20 * im_joins im))

  -- both counts of each node
  counts_back : join_nodes s₂ (count_bytes s₂) ≡ bytes_from im (joins_end im + 1) (2 * im_counts im)
  unfolding bytes_from join_below
  counts_back =
      ap (λ (n : ℕ). join_below n (node (count_bytes s₂))) (count ∙ sym (counts_nodes im listed))
      ∙ from_blocks im (joins_end im + 1) 2 (im_counts im) (node (count_bytes s₂))
      (λ k h.
      let c = joined_counts im s listed few long (k + 1) (omega arith) (omega (arith, h, counts_nodes im listed)) in
      let w : joins_end im + 1 + 2 * (k + 1 - 1) ≡ joins_end im + 1 + 2 * k + 0 = omega arith in
      let w' : joins_end im + 2 + 2 * (k + 1 - 1) ≡ joins_end im + 1 + 2 * k + 1 = omega arith in
      ap₂ (λ (a b : ℕ). a ∷ b ∷ []) (c.0 ∙ ap (byte_at im) w) (c.1 ∙ ap (byte_at im) w'))

  -- both sections
  pub rest_back : rest_bytes 2 (loaded_joins im s) ≡ bytes_from im (records_end im) (2 + 20 * im_joins im + 2 * im_counts im)
  unfolding rest_bytes
  rest_back =
      ap₂ ◌++◌ (ap₂ ◌∷◌ joins_count joins_back ∙ from_more im (records_end im) (20 * im_joins im))
      (ap₂ ◌∷◌ (count ∙ sym (counts_nodes im listed)) counts_back ∙ from_more im (joins_end im) (2 * im_counts im))
      ∙ from_then im (records_end im) (1 + 20 * im_joins im) (joins_end im) (1 + 2 * im_counts im) (2 + 20 * im_joins im + 2 * im_counts im) (omega arith) (omega arith)
