-- The sections of a written image: where each byte stands, and what the fields that reading finds say of the state. Assumes nothing.
use Prim.Native.Nat.{ℕ, zero, suc, ◌+◌, ◌-◌, ◌*◌, ◌/◌, ◌%◌, ◌≤◌, ◌<◌, ◌^◌}
use mathlib.Core.Path.{◌≡◌, refl, sym, ap, ap₂, ◌∙◌}
use mathlib.Core.Bool.{true}
use mathlib.Core.List.{List, ◌∷◌, ◌++◌}
use native.Mathlib.Omega.{arith}
use lib.ListN.{length, get_or, length-append, get_or-append}
use lib.Seq.{get_or-append-add}
use Rattle.model.specs.Loops.{count_below, join_below, node}
use Rattle.model.specs.Memory.{base, digits, depth, node_count, id_of}
use Rattle.model.specs.Image.{id_bytes, records_bytes, all_records, rest_bytes, image_of, byte_at, im_base, im_digits, im_depth, im_nodes, im_id, im_records, record_byte, records_end}
use Rattle.model.proofs.Status.{IsNode}
use Rattle.model.proofs.Sound.{Sound, id_fits}
use Rattle.model.proofs.Counting.{join_at, count_rises}
use Rattle.model.proofs.Records.{filled_at, fields_at, records_flat, records_length, record_at}
use Rattle.model.proofs.RecordsAreFew.{records_few}
use Rattle.model.specs.Nodes.{join_nodes}

-- the ids, and all that stands before the records
abbrev ids : List ℕ → List ℕ
ids s = join_nodes s (id_bytes s)

abbrev front : ℕ → List ℕ → List ℕ
front v s = 4 ∷ v ∷ base s ∷ digits s ∷ depth s ∷ node_count s ∷ ids s

-- four bytes an id
pub ids_length : (s : List ℕ) (n : ℕ) → length (join_below n (node (id_bytes s))) ≡ 4 * n
unfolding join_below
ids_length s zero = refl
ids_length s (suc n) =
    length-append (join_below n (node (id_bytes s))) (id_bytes s (n + 1)) ∙ omega (arith, ids_length s n)

-- v is the version
module _ (v : ℕ) (s t : List ℕ) where
  sections : image_of v s t ≡ front v s ++ (records_bytes s t ++ rest_bytes v s)
  unfolding image_of
  sections = refl

  front_length : length (front v s) ≡ 6 + 4 * node_count s
  front_length = omega (arith, ids_length s (node_count s))

  pub image_length : length (image_of v s t) ≡ 8 + 4 * node_count s + length (all_records s t) + length (rest_bytes v s)
  image_length =
      ap length sections
      ∙ length-append (front v s) (records_bytes s t ++ rest_bytes v s)
      ∙ omega (arith, front_length, length-append (all_records s t) (rest_bytes v s))

  -- the bytes behind the ids
  byte_past : (k : ℕ) → byte_at (image_of v s t) (6 + 4 * node_count s + k) ≡ get_or (records_bytes s t ++ rest_bytes v s) k 0
  byte_past k =
      ap₂ (λ (im : List ℕ) (a : ℕ). get_or im (a + k) 0) sections (sym front_length)
      ∙ get_or-append-add (front v s) (records_bytes s t ++ rest_bytes v s) k 0

  -- those of the records
  byte_of_records : (k : ℕ) → k < length (all_records s t) → byte_at (image_of v s t) (8 + 4 * node_count s + k) ≡ get_or (all_records s t) k 0
  byte_of_records k h =
      let w : 8 + 4 * node_count s + k ≡ 6 + 4 * node_count s + suc (suc k) = omega arith in
      ap (byte_at (image_of v s t)) w ∙ byte_past (suc (suc k)) ∙ get_or-append (all_records s t) (rest_bytes v s) 0 k h

  -- and those behind them
  pub byte_of_rest : (k : ℕ) → byte_at (image_of v s t) (8 + 4 * node_count s + length (all_records s t) + k) ≡ get_or (rest_bytes v s) k 0
  byte_of_rest k =
      let w : 8 + 4 * node_count s + length (all_records s t) + k ≡ 6 + 4 * node_count s + suc (suc (length (all_records s t) + k)) = omega arith in
      ap (byte_at (image_of v s t)) w
      ∙ byte_past (suc (suc (length (all_records s t) + k)))
      ∙ get_or-append-add (all_records s t) (rest_bytes v s) k 0

  -- the bytes of an id
  byte_of_id : (y f : ℕ) → y < node_count s → f < 4 → (a : ℕ) → a ≡ suc (suc (suc (suc (suc (suc (4 * y + f))))))
      → byte_at (image_of v s t) a ≡ get_or (id_bytes s (y + 1)) f 0
  byte_of_id y f l h a e =
      ap₂ (λ (im : List ℕ) (a : ℕ). get_or im a 0) sections e
      ∙ get_or-append (ids s) (records_bytes s t ++ rest_bytes v s) 0 (4 * y + f) (omega (arith, ids_length s (node_count s)))
      ∙ ap (λ (m : ℕ). get_or (ids s) (m + f) 0) (sym (ids_length s y))
      ∙ join_at (node (id_bytes s)) (node_count s) y f l h

-- ---- what an image says of a state

-- the fields that reading finds in the image are the state's, and record r is that of the place with r filled places before it
pub record Pictures (im s t : List ℕ) : Type 0 where
  pub first : byte_at im 0 ≡ 4
  pub base : im_base im ≡ base s
  pub digits : im_digits im ≡ digits s
  pub depth : im_depth im ≡ depth s
  pub nodes : im_nodes im ≡ node_count s
  pub ids : (x : ℕ) → IsNode s x → im_id im x ≡ id_of s x
  pub count : im_records im ≡ count_below (512 * node_count s) (filled_at t)
  pub bytes : (p f : ℕ) → p < 512 * node_count s → filled_at t p ≡ true → f < 4
      → record_byte im (count_below p (filled_at t)) f ≡ get_or (fields_at t p) f 0

-- a number of 32 bits is what its four bytes make
pub four_back : (v : ℕ) → v < 2 ^ 32 → v % 256 + 256 * (v / 256 % 256) + 65536 * (v / 65536 % 256) + 16777216 * (v / 16777216 % 256) ≡ v
four_back v l =
    let g : v < 4294967296 = l in
    let e2 : v / 65536 ≡ v / 256 / 256 = omega arith in
    let e3 : v / 16777216 ≡ v / 65536 / 256 = omega arith in
    let z : v / 16777216 % 256 ≡ v / 16777216 = omega arith in
    let y : v / 65536 ≡ 256 * (v / 65536 / 256) + v / 65536 % 256 = omega arith in
    let x : v / 256 ≡ 256 * (v / 256 / 256) + v / 256 % 256 = omega arith in
    let w : v ≡ 256 * (v / 256) + v % 256 = omega arith in
    combine v (v % 256) (v / 256) (v / 256 % 256) (v / 65536) (v / 65536 % 256) (v / 16777216) (v / 16777216 % 256) w (x ∙ ap (λ (n : ℕ). 256 * n + v / 256 % 256) (sym e2))
    (y ∙ ap (λ (n : ℕ). 256 * n + v / 65536 % 256) (sym e3)) z
  where
    combine : (v r0 q0 r1 q1 r2 q2 r3 : ℕ) → v ≡ 256 * q0 + r0 → q0 ≡ 256 * q1 + r1 → q1 ≡ 256 * q2 + r2 → r3 ≡ q2
        → r0 + 256 * r1 + 65536 * r2 + 16777216 * r3 ≡ v
    combine v r0 q0 r1 q1 r2 q2 r3 a b c d = omega arith

module _ (v : ℕ) (s t : List ℕ) (S : Sound s t) where
  abbrev filled : ℕ
  filled = count_below (512 * node_count s) (filled_at t)

  -- four bytes a filled place
  flat_length : length (all_records s t) ≡ 4 * filled
  flat_length = ap length (records_flat s t S) ∙ records_length t (512 * node_count s)

  -- without the sections of version 2 an image is at most 23,816 bytes long, four for each of 64 ids and of 5,888 records and eight more
  pub front_most : 8 + 4 * node_count s + length (all_records s t) ≤ 23816
  front_most = omega (arith, flat_length, records_few s t S, S.few)

  -- each field, read back
  id_back : (x : ℕ) → IsNode s x → im_id (image_of v s t) x ≡ id_of s x
  unfolding im_id
  id_back x i =
      let y : ℕ = x - 1 in
      let l : x - 1 < node_count s = omega (arith, i.low, i.high) in
      let e : x - 1 + 1 ≡ x = omega (arith, i.low) in
      let b0 : byte_at (image_of v s t) (2 + 4 * x) ≡ id_of s (x - 1 + 1) % 256 = byte_of_id v s t y 0 l (omega arith) _ (omega (arith, i.low)) in
      let b1 : byte_at (image_of v s t) (2 + 4 * x + 1) ≡ id_of s (x - 1 + 1) / 256 % 256 = byte_of_id v s t y 1 l (omega arith) _ (omega (arith, i.low)) in
      let b2 : byte_at (image_of v s t) (2 + 4 * x + 2) ≡ id_of s (x - 1 + 1) / 65536 % 256 = byte_of_id v s t y 2 l (omega arith) _ (omega (arith, i.low)) in
      let b3 : byte_at (image_of v s t) (2 + 4 * x + 3) ≡ id_of s (x - 1 + 1) / 16777216 % 256 = byte_of_id v s t y 3 l (omega arith) _ (omega (arith, i.low)) in
      ap₂ ◌+◌ (ap₂ ◌+◌ (ap₂ ◌+◌ b0 (ap (λ (b : ℕ). 256 * b) b1)) (ap (λ (b : ℕ). 65536 * b) b2)) (ap (λ (b : ℕ). 16777216 * b) b3)
      ∙ ap (λ (x : ℕ). id_of s x % 256 + 256 * (id_of s x / 256 % 256) + 65536 * (id_of s x / 65536 % 256) + 16777216 * (id_of s x / 16777216 % 256)) e
      ∙ four_back (id_of s x) (id_fits s t S x i)

  nodes_back : im_nodes (image_of v s t) ≡ node_count s
  unfolding image_of
  nodes_back = refl

  count_back : im_records (image_of v s t) ≡ filled
  count_back =
      let m : length (all_records s t) / 4 ≡ filled = omega (arith, flat_length) in
      let a0 : 6 + 4 * im_nodes (image_of v s t) ≡ 6 + 4 * node_count s + 0 = omega (arith, nodes_back) in
      let a1 : 7 + 4 * im_nodes (image_of v s t) ≡ 6 + 4 * node_count s + 1 = omega (arith, nodes_back) in
      let b0 : byte_at (image_of v s t) (6 + 4 * im_nodes (image_of v s t)) ≡ length (all_records s t) / 4 % 256 =
      ap (byte_at (image_of v s t)) a0 ∙ byte_past v s t 0 in
      let b1 : byte_at (image_of v s t) (7 + 4 * im_nodes (image_of v s t)) ≡ length (all_records s t) / 4 / 256 % 256 =
      ap (byte_at (image_of v s t)) a1 ∙ byte_past v s t 1 in
      ap₂ (λ (a b : ℕ). a + 256 * b) b0 b1
      ∙ ap (λ (m : ℕ). m % 256 + 256 * (m / 256 % 256)) m
      ∙ omega (arith, records_few s t S)

  bytes_back : (p f : ℕ) → p < 512 * node_count s → filled_at t p ≡ true → f < 4
      → record_byte (image_of v s t) (count_below p (filled_at t)) f ≡ get_or (fields_at t p) f 0
  bytes_back p f l e h =
      let r : ℕ = count_below p (filled_at t) in
      let a : 8 + 4 * im_nodes (image_of v s t) + 4 * count_below p (filled_at t) + f ≡ 8 + 4 * node_count s + (4 * count_below p (filled_at t) + f) = omega (arith, nodes_back) in
      ap (byte_at (image_of v s t)) a
      ∙ byte_of_records v s t (4 * r + f) (omega (arith, flat_length, count_rises p (512 * node_count s) (filled_at t) l e))
      ∙ ap (λ (l : List ℕ). get_or l (4 * r + f) 0) (records_flat s t S)
      ∙ record_at t (512 * node_count s) p f l e h

  -- where the records end
  pub end_back : records_end (image_of v s t) ≡ 8 + 4 * node_count s + length (all_records s t)
  end_back = omega (arith, nodes_back, count_back, flat_length)

  -- the image of a sound state pictures it
  pub pictures : Pictures (image_of v s t) s t
  unfolding image_of
  pictures = record {
    first = refl;
    base = refl;
    digits = refl;
    depth = refl;
    nodes = refl;
    ids = id_back;
    count = count_back;
    bytes = bytes_back;
  }
