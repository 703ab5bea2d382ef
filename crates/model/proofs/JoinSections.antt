-- The sections of joins and of counts of an image of version 2: where each byte stands, and what the fields that reading finds say of the state; how long
-- an image is at most. Assumes nothing.
use Prim.Native.Nat.{ℕ, zero, suc, ◌+◌, ◌*◌, ◌/◌, ◌%◌, ◌^◌, ◌≤◌, ◌<◌}
use mathlib.Core.Path.{◌≡◌, refl, sym, ap, ap₂, ◌∙◌}
use mathlib.Core.Bool.{Bool, true, false, cond, not}
use mathlib.Core.List.{List, [], ◌++◌}
use native.Mathlib.Nat.{lt_of_lt_of_le}
use native.Mathlib.Omega.{arith}
use lib.ListN.{length, get_or, length-append, get_or-append}
use lib.Pow.{pow_mono}
use lib.Seq.{get_or-append-add}
use borrow.Author.Tests.{not-true}
use Rattle.model.specs.Loops.{count_below, join_below, node}
use Rattle.model.specs.Memory.{node_count, status_of, level_of, target_of, pending_of, notified_of, requests_of, notices_of, is_in_system, node_of}
use Rattle.model.specs.Nodes.{count_nodes, join_nodes}
use Rattle.model.specs.Image.{has_joins, four_bytes, eight_bytes, all_records, under_way, join_bytes, joins_bytes, count_bytes, counts_bytes, rest_bytes, image_of, join_fields}
use Rattle.model.specs.Image.{byte_at, four_at, eight_at, records_end, im_joins, join_place, join_number, join_status, join_level, join_target, join_pending, join_notified}
use Rattle.model.specs.Image.{joins_end, im_counts, im_requests, im_notices}
use Rattle.model.proofs.Loops.{count_le}
use Rattle.model.proofs.Counting.{join_at, count_rises}
use Rattle.model.proofs.Status.{StatusOk, ok_in_system, ok_copying, ok_waiting, ok_notifying}
use Rattle.model.proofs.Sound.{Sound}
use Rattle.model.proofs.Sections.{image_length, byte_of_rest, four_back, front_most, end_back}

-- ---- what the sections say of a state

-- join q of the image is that of node x of the state
pub record JoinOf (im : List ℕ) (q : ℕ) (s : List ℕ) (x : ℕ) : Type 0 where
  pub number : join_number im q ≡ x
  pub status : join_status im q ≡ status_of s x
  pub level : join_level im q ≡ level_of s x
  pub target : join_target im q ≡ target_of s x
  pub pending : join_pending im q ≡ pending_of s x
  pub notified : join_notified im q ≡ notified_of s x

pub record JoinsPictured (im s : List ℕ) : Type 0 where
  pub joins : im_joins im ≡ count_nodes s (under_way s)
  -- the join of the node with index y is the one whose number is the count of the joins under way before it
  pub join : (y : ℕ) → y < node_count s → under_way s (y + 1) ≡ true → JoinOf im (count_below y (node (under_way s))) s (y + 1)
  pub counts : im_counts im ≡ node_count s
  pub requests : (k : ℕ) → k < node_count s → im_requests im k ≡ requests_of s (k + 1)
  pub notices : (k : ℕ) → k < node_count s → im_notices im k ≡ notices_of s (k + 1)

-- ---- numbers of 64 bits

-- numbers that differ by a multiple of 256 have the same low byte
low_byte : (x y k : ℕ) → x ≡ 256 * k + y → x % 256 ≡ y % 256
low_byte x y k e = omega arith

-- the four low bytes of any number make its remainder by 2^32
four_low : (v : ℕ) → v % 256 + 256 * (v / 256 % 256) + 65536 * (v / 65536 % 256) + 16777216 * (v / 16777216 % 256) ≡ v % 4294967296
four_low v =
    let w : ℕ = v % 4294967296 in
    let q : ℕ = v / 4294967296 in
    let e0 : v % 256 ≡ w % 256 = low_byte v w (16777216 * q) (omega arith) in
    let e1 : v / 256 % 256 ≡ w / 256 % 256 = low_byte (v / 256) (w / 256) (65536 * q) (omega arith) in
    let e2 : v / 65536 % 256 ≡ w / 65536 % 256 = low_byte (v / 65536) (w / 65536) (256 * q) (omega arith) in
    let e3 : v / 16777216 % 256 ≡ w / 16777216 % 256 = low_byte (v / 16777216) (w / 16777216) q (omega arith) in
    ap₂ ◌+◌ (ap₂ ◌+◌ (ap₂ (λ (a b : ℕ). a + 256 * b) e0 e1) (ap (λ (b : ℕ). 65536 * b) e2)) (ap (λ (b : ℕ). 16777216 * b) e3)
    ∙ four_back w (omega arith)

-- so they do where they stand in an image, from a on
four_at_lem : (im : List ℕ) (a v : ℕ) → ((k p : ℕ) → k < 4 → p ≡ a + k → byte_at im p ≡ get_or (four_bytes v) k 0) → four_at im a ≡ v % 4294967296
four_at_lem im a v at =
    ap₂ ◌+◌
    (ap₂ ◌+◌ (ap₂ (λ (m n : ℕ). m + 256 * n) (at 0 a (omega arith) (omega arith)) (at 1 (a + 1) (omega arith) refl))
    (ap (λ (n : ℕ). 65536 * n) (at 2 (a + 2) (omega arith) refl)))
    (ap (λ (n : ℕ). 16777216 * n) (at 3 (a + 3) (omega arith) refl))
    ∙ four_low v

-- and the eight bytes of a number of 64 bits make the number
eight_at_lem : (im : List ℕ) (a v : ℕ) → v < 2 ^ 64 → ((k p : ℕ) → k < 8 → p ≡ a + k → byte_at im p ≡ get_or (eight_bytes v) k 0) → eight_at im a ≡ v
eight_at_lem im a v l at =
    let g : v < 18446744073709551616 = l in
    let low : four_at im a ≡ v % 4294967296 =
    four_at_lem im a v (λ k p h e. at k p (omega arith) e ∙ get_or-append (four_bytes v) (four_bytes (v / 4294967296)) 0 k h) in
    let high : four_at im (a + 4) ≡ v / 4294967296 % 4294967296 =
    four_at_lem im (a + 4) (v / 4294967296)
    (λ k p h e. at (4 + k) p (omega arith) (omega arith) ∙ get_or-append-add (four_bytes v) (four_bytes (v / 4294967296)) k 0) in
    ap₂ (λ (m n : ℕ). m + 4294967296 * n) low high ∙ omega arith

-- both sets of a node of a sound state are numbers of 64 bits
module _ (s t : List ℕ) (S : Sound s t) where
  set_fits : (v : ℕ) → v < 2 ^ node_count s → v < 2 ^ 64
  set_fits v l = lt_of_lt_of_le l (pow_mono S.few)

  zero_fits : (v : ℕ) → v ≡ 0 → v < 2 ^ 64
  zero_fits v e = omega arith

  sets_fit : (x : ℕ) → StatusOk s x → (pending_of s x < 2 ^ 64) × (notified_of s x < 2 ^ 64)
  sets_fit x (ok_in_system e r) = (zero_fits _ r.pending, zero_fits _ r.notified)
  sets_fit x (ok_copying e r) = (zero_fits _ r.rest.pending, zero_fits _ r.rest.notified)
  sets_fit x (ok_waiting e r) = (zero_fits _ r.rest.pending, zero_fits _ r.rest.notified)
  sets_fit x (ok_notifying e r) = (set_fits _ r.pending_within, set_fits _ r.notified_within)

-- ---- the sections, byte by byte

module _ (s : List ℕ) where
  abbrev n : ℕ
  n = node_count s

  abbrev way : ℕ → Bool
  way = node (under_way s)

  join_some : (x : ℕ) → under_way s x ≡ true → join_bytes s x ≡ join_fields x (node_of s x)
  unfolding join_bytes
  join_some x e = ap (λ (b : Bool). cond b [] (join_fields x (node_of s x))) (not-true (is_in_system s x) e)

  -- 20 bytes a join, and two bytes a node
  pub joins_length : (m : ℕ) → length (join_below m (node (join_bytes s))) ≡ 20 * count_below m way
  unfolding join_below count_below join_bytes join_fields
  joins_length zero = refl
  joins_length (suc m) = length-append (join_below m (node (join_bytes s))) (join_bytes s (m + 1)) ∙ go (is_in_system s (m + 1)) (joins_length m)
    where
      go : (b : Bool) → length (join_below m (node (join_bytes s))) ≡ 20 * count_below m way
          → length (join_below m (node (join_bytes s))) + length (cond b [] (join_fields (m + 1) (node_of s (m + 1)))) ≡ 20 * (count_below m way + cond (not b) 1 0)
      go true e = omega arith
      go false e = omega arith

  counts_length : (m : ℕ) → length (join_below m (node (count_bytes s))) ≡ 2 * m
  unfolding join_below
  counts_length zero = refl
  counts_length (suc m) =
      length-append (join_below m (node (count_bytes s))) (count_bytes s (m + 1)) ∙ omega (arith, counts_length m)

  -- version 2 has both sections, and any other has none
  sections : rest_bytes 2 s ≡ joins_bytes s ++ counts_bytes s
  unfolding rest_bytes
  sections = refl

  pub rest_plain : (v : ℕ) → has_joins v ≡ false → rest_bytes v s ≡ []
  unfolding rest_bytes
  rest_plain v f = ap (λ (b : Bool). cond b (joins_bytes s ++ counts_bytes s) []) f

  pub rest_length : length (rest_bytes 2 s) ≡ 2 + 20 * count_nodes s (under_way s) + 2 * node_count s
  rest_length =
      ap length sections
      ∙ length-append (joins_bytes s) (counts_bytes s)
      ∙ omega (arith, joins_length n, counts_length n)

  rest_most : (v : ℕ) → node_count s ≤ 64 → length (rest_bytes v s) ≤ 1410
  unfolding rest_bytes
  rest_most v few = go (has_joins v)
    where
      go : (b : Bool) → length (cond b (joins_bytes s ++ counts_bytes s) []) ≤ 1410
      go true = omega (arith, length-append (joins_bytes s) (counts_bytes s), joins_length n, counts_length n, count_le n way)
      go false = omega arith

  -- the bytes of the joins, and those of the counts
  join_byte : (y f : ℕ) → y < node_count s → under_way s (y + 1) ≡ true → f < 20
      → get_or (rest_bytes 2 s) (suc (20 * count_below y way + f)) 0 ≡ get_or (join_fields (y + 1) (node_of s (y + 1))) f 0
  unfolding rest_bytes join_fields
  join_byte y f l e h =
      get_or-append (join_nodes s (join_bytes s)) (counts_bytes s) 0 (20 * count_below y way + f) (omega (arith, joins_length n, count_rises y n way l e))
      ∙ ap (λ (m : ℕ). get_or (join_nodes s (join_bytes s)) (m + f) 0) (sym (joins_length y))
      ∙ join_at (node (join_bytes s)) n y f l (omega (arith, ap length (join_some (y + 1) e)))
      ∙ ap (λ (l : List ℕ). get_or l f 0) (join_some (y + 1) e)

  count_byte : (k : ℕ) → get_or (rest_bytes 2 s) (suc (20 * count_nodes s (under_way s) + k)) 0 ≡ get_or (counts_bytes s) k 0
  unfolding rest_bytes
  count_byte k =
      ap (λ (m : ℕ). get_or (join_nodes s (join_bytes s) ++ counts_bytes s) (m + k) 0) (sym (joins_length n))
      ∙ get_or-append-add (join_nodes s (join_bytes s)) (counts_bytes s) k 0

  node_count_byte : (k f : ℕ) → k < node_count s → f < 2 → get_or (counts_bytes s) (suc (2 * k + f)) 0 ≡ get_or (count_bytes s (k + 1)) f 0
  node_count_byte k f l h =
      ap (λ (m : ℕ). get_or (join_nodes s (count_bytes s)) (m + f) 0) (sym (counts_length k))
      ∙ join_at (node (count_bytes s)) n k f l h

-- ---- read back

module _ (s t : List ℕ) (S : Sound s t) where
  abbrev im : List ℕ
  im = image_of 2 s t

  -- byte k behind the records
  rest_byte : (k p : ℕ) → p ≡ records_end im + k → byte_at im p ≡ get_or (rest_bytes 2 s) k 0
  rest_byte k p e =
      let w : p ≡ 8 + 4 * node_count s + length (all_records s t) + k = omega (arith, end_back 2 s t S) in
      ap (byte_at im) w ∙ byte_of_rest 2 s t k

  joins_back : im_joins im ≡ count_nodes s (under_way s)
  unfolding rest_bytes
  joins_back = rest_byte 0 (records_end im) (omega arith)

  -- a join under way
  module _ (y : ℕ) (l : y < node_count s) (e : under_way s (y + 1) ≡ true) where
    abbrev q : ℕ
    q = count_below y (node (under_way s))

    field : (f p : ℕ) → f < 20 → p ≡ join_place im q f → byte_at im p ≡ get_or (join_fields (y + 1) (node_of s (y + 1))) f 0
    field f p h w = rest_byte (suc (20 * q + f)) p (omega arith) ∙ join_byte s y f l e h

    fits : (pending_of s (y + 1) < 2 ^ 64) × (notified_of s (y + 1) < 2 ^ 64)
    fits = sets_fit s t S (y + 1) (S.statuses (y + 1) (record { low = omega arith; high = omega arith }))

    join_back : JoinOf im q s (y + 1)
    unfolding join_fields
    join_back = record {
      number = field 0 (join_place im q 0) (omega arith) refl;
      status = field 1 (join_place im q 1) (omega arith) refl;
      level = field 2 (join_place im q 2) (omega arith) refl;
      target = field 3 (join_place im q 3) (omega arith) refl;
      pending =
          eight_at_lem im (join_place im q 4) (pending_of s (y + 1)) fits.0
          (λ k p h w.
          field (suc (suc (suc (suc k)))) p (omega arith) (omega arith)
          ∙ get_or-append (eight_bytes (pending_of s (y + 1))) (eight_bytes (notified_of s (y + 1))) 0 k h);
      notified =
          eight_at_lem im (join_place im q 12) (notified_of s (y + 1)) fits.1
          (λ k p h w.
          field (suc (suc (suc (suc (8 + k))))) p (omega arith) (omega arith)
          ∙ get_or-append-add (eight_bytes (pending_of s (y + 1))) (eight_bytes (notified_of s (y + 1))) k 0);
    }

  -- the counts
  count_at : (k p : ℕ) → p ≡ joins_end im + k → byte_at im p ≡ get_or (counts_bytes s) k 0
  count_at k p w =
      rest_byte (suc (20 * count_nodes s (under_way s) + k)) p (omega (arith, joins_back)) ∙ count_byte s k

  pub joins_pictured : JoinsPictured im s
  joins_pictured = record {
    joins = joins_back;
    join = join_back;
    counts = count_at 0 (joins_end im) (omega arith);
    requests = λ k l. count_at (suc (2 * k + 0)) (joins_end im + 1 + 2 * k) (omega arith) ∙ node_count_byte s k 0 l (omega arith);
    notices = λ k l. count_at (suc (2 * k + 1)) (joins_end im + 2 + 2 * k) (omega arith) ∙ node_count_byte s k 1 l (omega arith);
  }

-- ---- how long an image is at most

pub image_most : (v : ℕ) (s t : List ℕ) → Sound s t → length (image_of v s t) ≤ 25226
image_most v s t S = omega (arith, image_length v s t, front_most v s t S, rest_most s v S.few)

pub image_most_1 : (s t : List ℕ) → Sound s t → length (image_of 1 s t) ≤ 23816
image_most_1 s t S = omega (arith, image_length 1 s t, front_most 1 s t S, ap length (rest_plain s 1 refl))
