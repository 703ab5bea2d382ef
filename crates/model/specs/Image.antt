-- The image: document 01, "The image", and of version 2 document 02, ticket 9. It has three sections, settings, nodes and records, with a count before
-- each; version 2 has two more, joins under way and counts. im is an image, a list of bytes.
use Rattle.std.specs.Prelude.{ℕ, ◌+◌, ◌-◌, ◌*◌, ◌/◌, ◌%◌, Bool, cond, not, ◌&&◌, ◌||◌, List, [], ◌∷◌, ◌++◌, length, get_or, set, replicate, leb, ltb, eqb}
use Rattle.model.specs.Loops.{all_below, any_below, count_below, each_below, join_below, node}
use Rattle.model.specs.Ids.{valid_id, digit_of}
use Rattle.model.specs.Memory.{state_length, tables_length, base, digits, depth, node_count, Node, node_of, with_node, id_of}
use Rattle.model.specs.Memory.{requests_of, notices_of, in_system, is_in_system, zeroed, table_of, with_table}
use Rattle.model.specs.Tables.{qualified, slot_at, append}
use Rattle.model.specs.Memory.{Memory}
use Rattle.model.specs.Join.{with_settings}
use Rattle.model.specs.Nodes.{count_nodes, join_nodes}

-- ---- the versions

-- the paper has two
abbrev pub is_version : ℕ → Bool
is_version version = eqb version 1 || eqb version 2

-- version 2 has the sections of joins under way and of counts
abbrev pub has_joins : ℕ → Bool
has_joins version = eqb version 2

-- ---- writing

-- a number in two bytes, in four and in eight, the low byte first
abbrev pub two_bytes : ℕ → List ℕ
two_bytes n = n % 256 ∷ n / 256 % 256 ∷ []

abbrev pub four_bytes : ℕ → List ℕ
four_bytes n = n % 256 ∷ n / 256 % 256 ∷ n / 65536 % 256 ∷ n / 16777216 % 256 ∷ []

abbrev pub eight_bytes : ℕ → List ℕ
eight_bytes n = four_bytes n ++ four_bytes (n / 4294967296)

-- the settings: their count, 4, and then the version and b, d and K
abbrev pub settings_bytes : ℕ → List ℕ → List ℕ
settings_bytes version s = 4 ∷ version ∷ base s ∷ digits s ∷ depth s ∷ []

abbrev pub id_bytes : List ℕ → ℕ → List ℕ
id_bytes s x = four_bytes (id_of s x)

-- the nodes: their count in one byte, then the id of each in four
abbrev pub nodes_bytes : List ℕ → List ℕ
nodes_bytes s = node_count s ∷ join_nodes s (id_bytes s)

-- the record of a filled slot, four bytes: whose table it is in, the level, the digit, and the node in the slot (the neighbour)
unfoldable pub slot_record : List ℕ → ℕ → ℕ → ℕ → ℕ → List ℕ
slot_record T x i j k = cond (eqb (slot_at T i j k) 0) [] (x ∷ i ∷ j ∷ slot_at T i j k ∷ [])

unfoldable pub entry_records : List ℕ → List ℕ → ℕ → ℕ → ℕ → List ℕ
entry_records s T x i j = join_below (depth s) (slot_record T x i j)

unfoldable pub level_records : List ℕ → List ℕ → ℕ → ℕ → List ℕ
level_records s T x i = join_below (base s) (entry_records s T x i)

unfoldable pub node_records : List ℕ → List ℕ → ℕ → List ℕ
node_records s t x = join_below (digits s) (level_records s (table_of t x) x)

-- the records in their order: by node, then level, then digit, then slot
unfoldable pub all_records : List ℕ → List ℕ → List ℕ
all_records s t = join_nodes s (node_records s t)

-- the records: their count in two bytes, then each of them
abbrev pub records_bytes : List ℕ → List ℕ → List ℕ
records_bytes s t = two_bytes (length (all_records s t) / 4) ++ all_records s t

-- x's join is under way: x is not in system (the paper's "unsettled")
abbrev pub under_way : List ℕ → ℕ → Bool
under_way s x = not (is_in_system s x)

-- the join of node x by its record r, 20 bytes: the node, its status, its attach level, its target and its two sets
unfoldable pub join_fields : ℕ → Node → List ℕ
join_fields x r = x ∷ r.status ∷ r.level ∷ r.target ∷ (eight_bytes r.pending ++ eight_bytes r.notified)

-- x's join, if it is under way; nothing of a node in system
unfoldable pub join_bytes : List ℕ → ℕ → List ℕ
join_bytes s x = cond (is_in_system s x) [] (join_fields x (node_of s x))

-- the joins under way: how many they are in one byte, then each of them, by node
abbrev pub joins_bytes : List ℕ → List ℕ
joins_bytes s = count_nodes s (under_way s) ∷ join_nodes s (join_bytes s)

-- a node's two counts, a byte each
abbrev pub count_bytes : List ℕ → ℕ → List ℕ
count_bytes s x = requests_of s x ∷ notices_of s x ∷ []

-- the counts: how many nodes there are in one byte, then both counts of each
abbrev pub counts_bytes : List ℕ → List ℕ
counts_bytes s = node_count s ∷ join_nodes s (count_bytes s)

-- the sections that version 2 has behind the others
unfoldable pub rest_bytes : ℕ → List ℕ → List ℕ
rest_bytes version s = cond (has_joins version) (joins_bytes s ++ counts_bytes s) []

-- the image of a state, in a version
unfoldable pub image_of : ℕ → List ℕ → List ℕ → List ℕ
image_of version s t = settings_bytes version s ++ (nodes_bytes s ++ (records_bytes s t ++ rest_bytes version s))

-- ---- the fields of an image

abbrev pub byte_at : List ℕ → ℕ → ℕ
byte_at im a = get_or im a 0

-- the numbers that the four and the eight bytes from a on make, the low byte first
abbrev pub four_at : List ℕ → ℕ → ℕ
four_at im a = byte_at im a + 256 * byte_at im (a + 1) + 65536 * byte_at im (a + 2) + 16777216 * byte_at im (a + 3)

abbrev pub eight_at : List ℕ → ℕ → ℕ
eight_at im a = four_at im a + 4294967296 * four_at im (a + 4)

abbrev pub im_version : List ℕ → ℕ
im_version im = byte_at im 1

abbrev pub im_base : List ℕ → ℕ
im_base im = byte_at im 2

abbrev pub im_digits : List ℕ → ℕ
im_digits im = byte_at im 3

abbrev pub im_depth : List ℕ → ℕ
im_depth im = byte_at im 4

abbrev pub im_nodes : List ℕ → ℕ
im_nodes im = byte_at im 5

-- the id of node x: the four bytes from 6 + 4 (x − 1)
unfoldable pub im_id : List ℕ → ℕ → ℕ
im_id im x = four_at im (2 + 4 * x)

-- the number of records: the two bytes after the ids
abbrev pub im_records : List ℕ → ℕ
im_records im = byte_at im (6 + 4 * im_nodes im) + 256 * byte_at im (7 + 4 * im_nodes im)

-- byte f of record r, which counts from 0
abbrev pub record_byte : List ℕ → ℕ → ℕ → ℕ
record_byte im r f = byte_at im (8 + 4 * im_nodes im + 4 * r + f)

abbrev pub rec_node : List ℕ → ℕ → ℕ
rec_node im r = record_byte im r 0

abbrev pub rec_level : List ℕ → ℕ → ℕ
rec_level im r = record_byte im r 1

abbrev pub rec_digit : List ℕ → ℕ → ℕ
rec_digit im r = record_byte im r 2

abbrev pub rec_neighbor : List ℕ → ℕ → ℕ
rec_neighbor im r = record_byte im r 3

-- where the records end
abbrev pub records_end : List ℕ → ℕ
records_end im = 8 + 4 * im_nodes im + 4 * im_records im

-- of version 2: the number of joins under way, the byte behind the records
abbrev pub im_joins : List ℕ → ℕ
im_joins im = byte_at im (records_end im)

-- where byte f of join q stands; q counts from 0
abbrev pub join_place : List ℕ → ℕ → ℕ → ℕ
join_place im q f = records_end im + 1 + 20 * q + f

abbrev pub join_number : List ℕ → ℕ → ℕ
join_number im q = byte_at im (join_place im q 0)

abbrev pub join_status : List ℕ → ℕ → ℕ
join_status im q = byte_at im (join_place im q 1)

abbrev pub join_level : List ℕ → ℕ → ℕ
join_level im q = byte_at im (join_place im q 2)

abbrev pub join_target : List ℕ → ℕ → ℕ
join_target im q = byte_at im (join_place im q 3)

abbrev pub join_pending : List ℕ → ℕ → ℕ
join_pending im q = eight_at im (join_place im q 4)

abbrev pub join_notified : List ℕ → ℕ → ℕ
join_notified im q = eight_at im (join_place im q 12)

-- where the joins end
abbrev pub joins_end : List ℕ → ℕ
joins_end im = records_end im + 1 + 20 * im_joins im

-- of version 2: the count of the counts, the byte behind the joins
abbrev pub im_counts : List ℕ → ℕ
im_counts im = byte_at im (joins_end im)

-- the two counts of the node with index k, which counts from 0
abbrev pub im_requests : List ℕ → ℕ → ℕ
im_requests im k = byte_at im (joins_end im + 1 + 2 * k)

abbrev pub im_notices : List ℕ → ℕ → ℕ
im_notices im k = byte_at im (joins_end im + 2 + 2 * k)

-- ---- judging, sentence by sentence over the whole image

-- how long the image is by its counts
unfoldable pub im_length : List ℕ → ℕ
im_length im = cond (has_joins (im_version im)) (joins_end im + 1 + 2 * im_counts im) (records_end im)

-- the length is what the counts give, and at most 65,535
unfoldable pub length_right : List ℕ → Bool
length_right im =
    leb (8 + 4 * im_nodes im) (length im) && (eqb (length im) (im_length im) && leb (length im) 65535)

abbrev pub im_id_valid : List ℕ → ℕ → Bool
im_id_valid im x = valid_id (im_base im) (im_digits im) (im_id im x)

abbrev pub im_id_differs : List ℕ → ℕ → ℕ → Bool
im_id_differs im x k = not (eqb (im_id im (k + 1)) (im_id im x))

-- no node before x has its id
abbrev pub im_id_new : List ℕ → ℕ → Bool
im_id_new im x = all_below (x - 1) (im_id_differs im x)

abbrev pub im_is_node : List ℕ → ℕ → Bool
im_is_node im x = leb 1 x && leb x (im_nodes im)

abbrev pub rec_nodes_good : List ℕ → ℕ → Bool
rec_nodes_good im r = im_is_node im (rec_node im r) && im_is_node im (rec_neighbor im r)

-- records q and r are of the same entry
unfoldable pub same_entry : List ℕ → ℕ → ℕ → Bool
same_entry im r q =
    eqb (rec_node im q) (rec_node im r) && (eqb (rec_level im q) (rec_level im r) && eqb (rec_digit im q) (rec_digit im r))

-- record r is not below record q, by node, then level, then digit: one of the same entry is its next slot
unfoldable pub rises_from : List ℕ → ℕ → ℕ → Bool
rises_from im q r =
    ltb (rec_node im q) (rec_node im r)
    || (eqb (rec_node im q) (rec_node im r)
    && (ltb (rec_level im q) (rec_level im r)
    || (eqb (rec_level im q) (rec_level im r) && leb (rec_digit im q) (rec_digit im r))))

-- the level is below d, the digit below b, and the record not below the one before it
unfoldable pub rec_ordered : List ℕ → ℕ → Bool
rec_ordered im r =
    ltb (rec_level im r) (im_digits im) && (ltb (rec_digit im r) (im_base im) && (eqb r 0 || rises_from im (r - 1) r))

abbrev pub same_neighbor : List ℕ → ℕ → ℕ → Bool
same_neighbor im r q = same_entry im r q && eqb (rec_neighbor im q) (rec_neighbor im r)

-- the neighbour is qualified and in no earlier record of its entry, and the earlier records of its entry are fewer than K
unfoldable pub rec_allowed : List ℕ → ℕ → Bool
rec_allowed im r =
    qualified (im_id im (rec_node im r)) (im_id im (rec_neighbor im r)) (rec_level im r) (rec_digit im r)
    && (not (any_below r (same_neighbor im r)) && ltb (count_below r (same_entry im r)) (im_depth im))

-- the record is of an own entry of its node
abbrev pub rec_own : List ℕ → ℕ → Bool
rec_own im r = eqb (rec_digit im r) (digit_of (im_id im (rec_node im r)) (rec_level im r))

-- an own entry starts with its owner
unfoldable pub rec_owner_first : List ℕ → ℕ → Bool
rec_owner_first im r =
    not (rec_own im r) || (any_below r (same_entry im r) || eqb (rec_neighbor im r) (rec_node im r))

-- record r is of node x's own entry of level i
abbrev pub rec_of_own : List ℕ → ℕ → ℕ → ℕ → Bool
rec_of_own im x i r = eqb (rec_node im r) x && (eqb (rec_level im r) i && rec_own im r)

unfoldable pub own_has_record : List ℕ → ℕ → ℕ → Bool
own_has_record im x i = any_below (im_records im) (rec_of_own im x i)

-- each own entry of x has a record
unfoldable pub own_have_records : List ℕ → ℕ → Bool
own_have_records im x = all_below (im_digits im) (own_has_record im x)

-- the same of all records, and of all nodes: what 10, 17 and 18 ask

abbrev pub records_ordered : List ℕ → Bool
records_ordered im = all_below (im_records im) (rec_ordered im)

abbrev pub records_allowed : List ℕ → Bool
records_allowed im = all_below (im_records im) (rec_allowed im)

abbrev pub own_present : List ℕ → Bool
own_present im = all_below (im_nodes im) (node (own_have_records im))

abbrev pub records_owned : List ℕ → Bool
records_owned im = all_below (im_records im) (rec_owner_first im)

-- join q is of a node, above that of the join before it, and its status is not in system
unfoldable pub join_listed : List ℕ → ℕ → Bool
join_listed im q =
    im_is_node im (join_number im q)
    && (not (eqb (join_status im q) in_system) && (eqb q 0 || ltb (join_number im (q - 1)) (join_number im q)))

-- the same of all joins, and the counts are as many as the nodes: what 24 asks beside a sound state
abbrev pub joins_listed : List ℕ → Bool
joins_listed im = all_below (im_joins im) (join_listed im) && eqb (im_counts im) (im_nodes im)

-- ---- reading

abbrev pub load_id : List ℕ → ℕ → List ℕ → List ℕ
load_id im k s = set s (8 * (k + 1)) (im_id im (k + 1))

-- the record's neighbour behind those of its entry
unfoldable pub load_record : List ℕ → ℕ → List ℕ → List ℕ
load_record im r t =
    let x = rec_node im r in
    with_table t x (append (im_depth im) (table_of t x) (rec_level im r) (rec_digit im r) (rec_neighbor im r))

-- the settings and the ids: every node is in system and has counted nothing, so each record is zero but for the id
unfoldable pub loaded_ids : List ℕ → List ℕ → List ℕ
loaded_ids s im =
    each_below (im_nodes im) (load_id im)
    (with_settings (zeroed state_length s) (im_base im) (im_digits im) (im_depth im) (im_nodes im))

-- a node's record r with what join q holds
abbrev pub joined_node : List ℕ → ℕ → Node → Node
joined_node im q r =
    record {
      id = r.id;
      status = join_status im q;
      level = join_level im q;
      target = join_target im q;
      pending = join_pending im q;
      notified = join_notified im q;
      requests = r.requests;
      notices = r.notices;
    }

unfoldable pub load_join : List ℕ → ℕ → List ℕ → List ℕ
load_join im q s = let x = join_number im q in with_node s x (joined_node im q (node_of s x))

-- and with the two counts of the node with index k
abbrev pub counted_node : List ℕ → ℕ → Node → Node
counted_node im k r =
    record {
      id = r.id;
      status = r.status;
      level = r.level;
      target = r.target;
      pending = r.pending;
      notified = r.notified;
      requests = im_requests im k;
      notices = im_notices im k;
    }

unfoldable pub load_counts : List ℕ → ℕ → List ℕ → List ℕ
load_counts im k s = with_node s (k + 1) (counted_node im k (node_of s (k + 1)))

-- the joins under way and the counts
unfoldable pub loaded_joins : List ℕ → List ℕ → List ℕ
loaded_joins im s = each_below (im_nodes im) (load_counts im) (each_below (im_joins im) (load_join im) s)

-- the records
unfoldable pub loaded_tables : List ℕ → List ℕ → List ℕ
loaded_tables t im = each_below (im_records im) (load_record im) (zeroed tables_length t)

-- the words, by the version
unfoldable pub loaded_state : List ℕ → List ℕ → List ℕ
loaded_state s im = cond (has_joins (im_version im)) (loaded_joins im (loaded_ids s im)) (loaded_ids s im)

-- the state that an image gives
unfoldable pub loaded : List ℕ → List ℕ → List ℕ → Memory
loaded s t im = record { state = loaded_state s im; tables = loaded_tables t im }

-- the same in memory that has just the fixed lengths
unfoldable pub held : List ℕ → Memory
held im = loaded (replicate state_length 0) (replicate tables_length 0) im

-- ---- what an image keeps of a state (for demand 2; no paper has the words)

abbrev pub zero_counts : ℕ → List ℕ → List ℕ
zero_counts k s = set (set s (8 * (k + 1) + 6) 0) (8 * (k + 1) + 7) 0

-- the state with both counts of every node at zero
unfoldable pub without_counts : List ℕ → List ℕ
without_counts s = each_below (node_count s) zero_counts s

-- version 1 all but the counts, version 2 all
abbrev pub kept : ℕ → List ℕ → List ℕ
kept version s = cond (has_joins version) s (without_counts s)
