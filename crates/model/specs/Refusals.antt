-- The refusals: document 01, "What a call declines", and document 02, Tickets 2, 5, 6, 8, 9 and 10. Each call has its own sentences, in the papers' order.
use Rattle.std.specs.Prelude.{ℕ, ◌+◌, Bool, cond, not, ◌&&◌, ◌||◌, List, [], ◌∷◌, ◌++◌, length, ltb, eqb}
use Rattle.model.specs.Loops.{all_below, first_below, node}
use Rattle.model.specs.Ids.{settings_in_range, valid_id}
use Rattle.model.specs.Memory.{Memory, state_length, tables_length, base, digits, node_count, id_of, status_of, waiting, is_in_system, is_attached}
use Rattle.model.specs.Nodes.{is_node, all_nodes, any_node}
use Rattle.model.specs.Sound.{sound}
use Rattle.model.specs.Join.{outstanding}
use Rattle.model.specs.Lookup.{end_failed}
use Rattle.model.specs.Fill.{filling}
use Rattle.model.specs.Image.{is_version, has_joins, byte_at, im_version, im_base, im_digits, im_depth, im_nodes, im_records, length_right, im_id_valid, im_id_new, rec_nodes_good}
use Rattle.model.specs.Image.{rec_ordered, rec_allowed, rec_owner_first, records_ordered, records_allowed, own_present, records_owned, joins_listed, held, image_of}
use Rattle.model.specs.Traces.{path_count, place_count, step_count, trace_counts_wrong, place_named, step_allowed, places_named, steps_allowed, first_fault}

-- a sentence: its test, and its number
abbrev pub Sentence : Type 0
Sentence = Bool × ℕ

-- a call is refused by the first of its sentences whose test is true; 0 is no refusal
unfoldable pub first_true : List Sentence → ℕ
first_true [] = 0
first_true (c ∷ cs) = cond c.0 c.1 (first_true cs)

-- 1: the table memory or the state is shorter than its fixed length
abbrev pub memory_short : Memory → Bool
memory_short m = ltb (length m.tables) tables_length || ltb (length m.state) state_length

-- 2: the state is not sound
abbrev pub unsound : Memory → Bool
unsound m = not (sound m.state m.tables)

-- 3: the image is shorter than its settings, which take 5 bytes, or does not begin with their count, 4
abbrev pub no_settings : List ℕ → Bool
no_settings im = ltb (length im) 5 || not (eqb (byte_at im 0) 4)

-- 4: the version, an image's or that of the image to be written, is none
abbrev pub other_version : ℕ → Bool
other_version version = not (is_version version)

-- 6: the node count is missing or not from 1 to 64, or the image is not as long as its counts say, or longer than 65,535 bytes
abbrev pub counts_wrong : List ℕ → Bool
counts_wrong im =
    ltb (length im) 6 || (eqb (im_nodes im) 0 || (ltb 64 (im_nodes im) || not (length_right im)))

-- 8, of a join: some node has this id
abbrev pub has_id : List ℕ → ℕ → ℕ → Bool
has_id s id x = eqb (id_of s x) id

abbrev pub id_taken : List ℕ → ℕ → Bool
id_taken s id = any_node s (has_id s id)

-- 14: x waits, and y is not in system to take its request
abbrev pub wait_held : List ℕ → ℕ → ℕ → Bool
wait_held s x y = eqb (status_of s x) waiting && not (is_in_system s y)

-- not 9: both numbers are nodes'
abbrev pub are_nodes : List ℕ → ℕ → ℕ → Bool
are_nodes s x y = is_node s x && is_node s y

-- 15: some node is not in system
abbrev pub some_not_in_system : List ℕ → Bool
some_not_in_system s = not (all_nodes s (is_in_system s))

-- ---- the sentences of each call

unfoldable pub found_refusal : Memory → ℕ → ℕ → ℕ → ℕ → ℕ
found_refusal m b d K id =
    first_true ((memory_short m, 1) ∷ (not (settings_in_range b d K), 5) ∷ (not (valid_id b d id), 7) ∷ [])

-- what the image itself decides, each sentence over the whole image. Of its settings and counts: 3 to 6; 7, some id is not valid; 8, some id occurs
-- twice; 9, some record names no node
abbrev pub frame_sentences : List ℕ → List Sentence
frame_sentences im =
    (no_settings im, 3)
    ∷ (other_version (im_version im), 4)
    ∷ (not (settings_in_range (im_base im) (im_digits im) (im_depth im)), 5)
    ∷ (counts_wrong im, 6)
    ∷ (not (all_below (im_nodes im) (node (im_id_valid im))), 7)
    ∷ (not (all_below (im_nodes im) (node (im_id_new im))), 8)
    ∷ (not (all_below (im_records im) (rec_nodes_good im)), 9)
    ∷ []

-- of its records: 10, some level or digit is out of range, or a record is below the one before it; 17, some neighbour isn't qualified for its entry, is in
-- it already, or finds it full; 18, some own entry has no record or does not start with its owner
abbrev pub record_sentences : List ℕ → List Sentence
record_sentences im =
    (not (records_ordered im), 10) ∷ (not (records_allowed im), 17) ∷ (not (own_present im && records_owned im), 18) ∷ []

-- 24, of version 2: the joins under way are not listed as they must be, the counts are not as many as the nodes, or the state that the image gives is not sound
abbrev pub joins_wrong : List ℕ → Bool
joins_wrong im = has_joins (im_version im) && not (joins_listed im && sound (held im).state (held im).tables)

abbrev pub image_sentences : List ℕ → List Sentence
image_sentences im = frame_sentences im ++ (record_sentences im ++ ((joins_wrong im, 24) ∷ []))

unfoldable pub image_refusal : List ℕ → ℕ
image_refusal im = first_true (image_sentences im)

unfoldable pub read_refusal : Memory → List ℕ → ℕ
read_refusal m im = first_true ((memory_short m, 1) ∷ image_sentences im)

-- the place of the first record that fails a test, counted from 1
abbrev pub first_failing : List ℕ → (ℕ → Bool) → ℕ
first_failing im test = first_below (im_records im) (λ r. not (test r)) + 1

-- the place that a refusal of an image gives: for 10, 17 and 18 that of the first record to fail, but 0 where an own entry has no record at all, which
-- goes before the other cause of 18; for every other number 0
unfoldable pub record_place : List ℕ → ℕ → ℕ
record_place im number =
    cond (eqb number 10) (first_failing im (rec_ordered im))
    (cond (eqb number 17) (first_failing im (rec_allowed im))
    (cond (eqb number 18 && own_present im) (first_failing im (rec_owner_first im)) 0))

-- the sentences that every call on a state has first
abbrev pub state_sentences : Memory → List Sentence
state_sentences m = (memory_short m, 1) ∷ (unsound m, 2) ∷ []

-- `sound` and `survey` have no others
unfoldable pub state_refusal : Memory → ℕ
state_refusal m = first_true (state_sentences m)

-- 7, the id is not valid; 8; 9, the gateway is no node; 11, there are 64 nodes already; 12, the gateway is not in system
abbrev pub begin_sentences : List ℕ → ℕ → ℕ → List Sentence
begin_sentences s id gateway =
    (not (valid_id (base s) (digits s) id), 7)
    ∷ (id_taken s id, 8)
    ∷ (not (is_node s gateway), 9)
    ∷ (eqb (node_count s) 64, 11)
    ∷ (not (is_in_system s gateway), 12)
    ∷ []

unfoldable pub begin_refusal : Memory → ℕ → ℕ → ℕ
begin_refusal m id gateway = first_true (state_sentences m ++ begin_sentences m.state id gateway)

-- 9, x is no node; 19, it is not the highest-numbered one; 20, it is in system or notifying
abbrev pub withdraw_sentences : List ℕ → ℕ → List Sentence
withdraw_sentences s x =
    (not (is_node s x), 9) ∷ (not (eqb x (node_count s)), 19) ∷ (is_attached s x, 20) ∷ []

unfoldable pub withdraw_refusal : Memory → ℕ → ℕ
withdraw_refusal m x = first_true (state_sentences m ++ withdraw_sentences m.state x)

-- 9, one of the two is no node; 13, x has no request to y outstanding; 14
abbrev pub deliver_sentences : List ℕ → ℕ → ℕ → List Sentence
deliver_sentences s x y =
    (not (are_nodes s x y), 9) ∷ (not (outstanding s x y), 13) ∷ (wait_held s x y, 14) ∷ []

unfoldable pub deliver_refusal : Memory → ℕ → ℕ → ℕ
deliver_refusal m x y = first_true (state_sentences m ++ deliver_sentences m.state x y)

-- 9, one of the two is no node; 21, one of the two has failed
abbrev pub lookup_sentences : List ℕ → ℕ → ℕ → ℕ → List Sentence
lookup_sentences s u z failed = (not (are_nodes s u z), 9) ∷ (end_failed failed u z, 21) ∷ []

unfoldable pub lookup_refusal : Memory → ℕ → ℕ → ℕ → ℕ
lookup_refusal m u z failed = first_true (state_sentences m ++ lookup_sentences m.state u z failed)

abbrev pub verdict_sentences : List ℕ → List Sentence
verdict_sentences s = (some_not_in_system s, 15) ∷ []

unfoldable pub verdict_refusal : Memory → ℕ
verdict_refusal m = first_true (state_sentences m ++ verdict_sentences m.state)

-- 15; 16, the list of additions is longer than the memory for it
abbrev pub fill_sentences : Memory → List ℕ → List Sentence
fill_sentences m out =
    (some_not_in_system m.state, 15) ∷ (ltb (length out) (length (filling m.state m.tables).list), 16) ∷ []

unfoldable pub fill_refusal : Memory → List ℕ → ℕ
fill_refusal m out = first_true (state_sentences m ++ fill_sentences m out)

-- 4; 15, of version 1; 16, the image is longer than the memory for it
abbrev pub write_sentences : Memory → ℕ → List ℕ → List Sentence
write_sentences m version out =
    (other_version version, 4)
    ∷ (not (has_joins version) && some_not_in_system m.state, 15)
    ∷ (ltb (length out) (length (image_of version m.state m.tables)), 16)
    ∷ []

unfoldable pub write_refusal : Memory → ℕ → List ℕ → ℕ
write_refusal m version out = first_true (state_sentences m ++ write_sentences m version out)

-- 22, the trace's counts are wrong; 9, some place has no node; 23, some step is not allowed; each sentence over the whole trace
abbrev pub trace_sentences : Memory → List ℕ → List Sentence
trace_sentences m trace =
    (trace_counts_wrong trace, 22)
    ∷ (not (places_named m.state trace), 9)
    ∷ (not (steps_allowed m.state m.tables trace), 23)
    ∷ []

unfoldable pub trace_refusal : Memory → List ℕ → ℕ
trace_refusal m trace = first_true (state_sentences m ++ trace_sentences m trace)

-- the path and the place that a refusal of a trace gives: for 9 those of the first place that has no node, for 23 those of the first step that is not
-- allowed; for every other number zeros
unfoldable pub trace_place : Memory → List ℕ → ℕ → List ℕ
trace_place m trace number =
    cond (eqb number 9) (first_fault (path_count trace) (place_count trace) (place_named m.state trace))
    (cond (eqb number 23) (first_fault (path_count trace) (step_count trace) (step_allowed m.state m.tables trace)) (0 ∷ 0 ∷ []))
