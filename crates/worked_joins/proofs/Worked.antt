-- The worked image of version 2 holds: each example computes.
use mathlib.Core.Path.{refl}
use Rattle.model.specs.Loops.{all_below, any_below, count_below, first_below, each_below, join_below}
use Rattle.model.specs.Ids.{settings_in_range, digit_of, valid_id, common_suffix, low_digits}
use Rattle.model.specs.Memory.{with_node, has_node, add_node, remove_node, set_size, table_of, with_table}
use Rattle.model.specs.Tables.{qualified, entry_size, entry, holds, append, own_table}
use Rattle.model.specs.Sound.{has_new_id, slot_sound, entry_sound, level_sound, in_system_sound, joining_sound, copying_sound, waiting_sound, pending_sound, notified_sound, notifying_sound, status_sound, request_limit, notices_sound, counts_sound, all_zero, state_rest_zero, tables_rest_zero, table_sound, unused_zero, sound}
use Rattle.model.specs.Join.{founded, begun, outstanding, deliver_copying, delivery, delivered}
use Rattle.model.specs.Image.{slot_record, entry_records, level_records, node_records, all_records, join_fields, join_bytes, rest_bytes, image_of, im_id, im_length, length_right, same_entry, rises_from, rec_ordered, rec_allowed, rec_owner_first, own_has_record, own_have_records, join_listed, loaded_ids, load_join, load_counts, loaded_joins, load_record, loaded_tables, loaded_state, loaded, held}
use Rattle.model.specs.Refusals.{first_true, found_refusal, read_refusal, record_place, begin_refusal, deliver_refusal, write_refusal}
use Rattle.model.specs.Calls.{refused_at, taken, unless_refused, found_call, read_call, begin_call, deliver_call, write_call}
use Rattle.worked_joins.specs.Examples.{dirty, joining, front, join, image, writing, reading, Saved, Damaged}

-- what the examples compute with
unfoldable computing : Unit {0}
unfolding all_below any_below count_below first_below each_below join_below settings_in_range digit_of valid_id common_suffix low_digits with_node has_node add_node remove_node set_size table_of with_table qualified entry_size entry holds append own_table has_new_id slot_sound entry_sound level_sound in_system_sound joining_sound copying_sound waiting_sound pending_sound notified_sound notifying_sound status_sound request_limit notices_sound counts_sound state_rest_zero tables_rest_zero table_sound unused_zero sound founded begun outstanding deliver_copying delivery delivered slot_record entry_records level_records node_records all_records join_fields join_bytes rest_bytes image_of im_id im_length length_right same_entry rises_from rec_ordered rec_allowed rec_owner_first own_has_record own_have_records join_listed loaded_ids load_join load_counts loaded_joins load_record loaded_tables loaded_state loaded held first_true found_refusal read_refusal record_place begin_refusal deliver_refusal write_refusal refused_at taken unless_refused found_call read_call begin_call deliver_call write_call dirty joining front join image writing reading
computing = tt

pub saved : Saved
unfolding computing
saved = record { bytes = refl; length = refl; plain = refl; other = refl; taken = refl; goes_on = refl }

pub damaged : Damaged
unfolding computing
damaged = record { settled = refl; no_node = refl; itself = refl; fewer = refl; many = refl; cut = refl; version = refl }
