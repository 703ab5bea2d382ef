-- The worked lists hold: each example computes.
use mathlib.Core.Path.{refl}
use Rattle.model.specs.Loops.{all_below, any_below, count_below, sum_below, first_below, each_below, join_below}
use Rattle.model.specs.Ids.{settings_in_range, digit_of, valid_id, common_suffix, low_digits, suffix_mask}
use Rattle.model.specs.Memory.{with_node, has_node, set_size, table_of, with_table}
use Rattle.model.specs.Tables.{qualified, entry_size, entry, holds, append, own_table}
use Rattle.model.specs.Sound.{has_new_id, slot_sound, entry_sound, level_sound, in_system_sound, joining_sound, copying_sound, waiting_sound, pending_sound, notified_sound, notifying_sound, status_sound, request_limit, notices_sound, counts_sound, all_zero, state_rest_zero, tables_rest_zero, table_sound, unused_zero, sound}
use Rattle.model.specs.Join.{founded}
use Rattle.model.specs.Lookup.{hop_entry, frontmost, next_hop, very_hops_within, last_of, answer_of, lookup}
use Rattle.model.specs.Survey.{arrives_in, is_lost, is_pair, count_pairs, survey_counts}
use Rattle.model.specs.Consistency.{how_many, entry_whole, level_whole, node_whole, consistent, first_short, verdict}
use Rattle.model.specs.Fill.{is_absent, lowest_absent, short_by, added, fill_once, fill_entry, fill_level, fill_node, filling}
use Rattle.model.specs.Image.{im_id, length_right, same_entry, rises_from, rec_ordered, rec_allowed, rec_owner_first, own_has_record, own_have_records, im_length, loaded_ids, load_record, loaded_tables, loaded_state, loaded}
use Rattle.model.specs.Traces.{path_start, trace_counts_wrong, place_named, among, may_go, step_allowed, in_path, first_fault}
use Rattle.model.specs.Refusals.{first_true, found_refusal, read_refusal, record_place, state_refusal, lookup_refusal, verdict_refusal, fill_refusal, trace_refusal, trace_place}
use Rattle.model.specs.Calls.{refused_at, taken, unless_refused, found_call, read_call, lookup_call, survey_call, verdict_call, filled_by, fill_call, trace_call}
use Rattle.worked.specs.Examples.{dirty, founding, reading, verdict_on, lookup_on, survey_on, trace_on, fill_on, head_of_e1, rec, e1, e1_short, three, deep_with, deep, Worked, Surveyed, Damaged, Masked, Failed, Traced, Filled}

-- what the examples compute with
unfoldable pub computing : Unit {0}
unfolding all_below any_below count_below sum_below first_below each_below join_below settings_in_range digit_of valid_id common_suffix low_digits with_node has_node set_size table_of with_table qualified entry_size entry holds append own_table has_new_id slot_sound entry_sound level_sound in_system_sound joining_sound copying_sound waiting_sound pending_sound notified_sound notifying_sound status_sound request_limit notices_sound counts_sound state_rest_zero tables_rest_zero table_sound unused_zero sound founded hop_entry frontmost next_hop very_hops_within last_of answer_of lookup arrives_in is_lost is_pair count_pairs survey_counts how_many entry_whole level_whole node_whole consistent first_short verdict is_absent lowest_absent short_by added fill_once fill_entry fill_level fill_node filling im_id length_right same_entry rises_from rec_ordered rec_allowed rec_owner_first own_has_record own_have_records im_length loaded_ids load_record loaded_tables loaded_state loaded path_start trace_counts_wrong place_named among may_go step_allowed in_path first_fault first_true found_refusal read_refusal record_place state_refusal lookup_refusal verdict_refusal fill_refusal trace_refusal trace_place refused_at taken unless_refused found_call read_call lookup_call survey_call verdict_call filled_by fill_call trace_call dirty founding reading verdict_on lookup_on survey_on trace_on fill_on head_of_e1 rec e1 e1_short three deep_with deep
computing = tt

pub worked : Worked
unfolding computing
worked = record { p1 = refl; p2 = refl; p3 = refl; p4 = refl; p5 = refl; p6 = refl; p7 = refl; p8 = refl; p9 = refl; p10 = refl; p11 = refl; p12 = refl }

pub surveyed : Surveyed
unfolding computing
surveyed = record { e1 = refl; e1_short = refl; one = refl }

pub damaged : Damaged
unfolding computing
damaged = record { below = refl; level = refl; unqualified = refl; number_first = refl; over = refl; absent = refl; empty = refl; misplaced = refl; absent_first = refl }

pub masked : Masked
unfolding suffix_mask
masked = record { digits_0 = refl; digits_1 = refl; digits_2 = refl; digits_3 = refl; digits_4 = refl; digits_5 = refl; digits_6 = refl; digits_7 = refl; digits_8 = refl }

pub failed : Failed
unfolding computing
failed = record { whole = refl; none = refl; around = refl; itself = refl; nobody = refl }

pub traced : Traced
unfolding computing
traced = record { three_paths = refl; none = refl; past = refl; number_first = refl; counts_first = refl; second = refl; away = refl }

pub filled : Filled
unfolding computing
filled =
    record { answer = refl; listed = refl; passes = refl; short_answer = refl; short_output = refl; whole = refl; rising = refl; behind = refl }
