-- Lookups with some nodes failed, where there is no room for the destination. An entry in which every node has failed is full then; so fewer failed nodes
-- than K lose no lookup between others. Assumes nothing.
use Prim.Native.Nat.{ℕ, ◌≤◌, ◌<◌}
use mathlib.Core.Path.{◌≡◌, sym, ap, subst, ◌∙◌}
use mathlib.Core.Logic.{◌≢◌, ⊎_elim}
use mathlib.Core.Bool.{true, false}
use mathlib.Core.List.{List}
use native.Mathlib.Omega.{arith}
use lib.ListN.{length, get_or}
use Rattle.model.specs.Ids.{digit_of}
use Rattle.model.specs.Memory.{depth, id_of, is_attached, has_node, table_of}
use Rattle.model.specs.Tables.{holds}
use Rattle.model.specs.Nodes.{suffix_of, count_nodes}
use Rattle.model.specs.Lookup.{hop_entry, next_hop, lookup}
use Rattle.model.specs.Consistency.{neighbors}
use Rattle.model.proofs.Bools.{not_both}
use Rattle.model.proofs.Status.{IsNode}
use Rattle.model.proofs.Sound.{Sound}
use Rattle.model.proofs.TablesOnlyGrow.{Attached}
use Rattle.model.proofs.SoundEntries.{nodes_least, size_is_length, entry_node, entry_differ}
use Rattle.model.proofs.NextHop.{level_below, digit_below, hop_entry_lem, hop_none, hop_attached}
use Rattle.model.proofs.Lookup.{walk, arrives_is, lookup_hop}
use Rattle.model.proofs.NoRoom.{NoRoom, no_room_cases, held_entry}

module _ (s t : List ℕ) (S : Sound s t) (failed z : ℕ) (nz : IsNode s z) (left : has_node failed z ≡ false) where
  module _ (u : ℕ) (nu : IsNode s u) (ne : u ≢ z) (none : (next_hop s t failed u z).node ≡ 0) (no_room : NoRoom s (table_of t u) z (suffix_of s u z)) where
    abbrev i : ℕ
    i = suffix_of s u z

    abbrev j : ℕ
    j = digit_of (id_of s z) (suffix_of s u z)

    abbrev N : List ℕ
    N = neighbors s t u (suffix_of s u z) (digit_of (id_of s z) (suffix_of s u z))

    has_failed : (k : ℕ) → k < length N → has_node failed (get_or N k 0) ≡ true
    has_failed =
        subst (λ (E : List ℕ). (k : ℕ) → k < length E → has_node failed (get_or E k 0) ≡ true) (hop_entry_lem s t S u z nu nz ne)
        (hop_none s t S u z nu nz ne failed none)

    -- z, which has not failed, is not in the entry, so that is full
    full : length N ≡ depth s
    full = ⊎_elim in_it (λ e. size_is_length s t S u i j nu (level_below s t S u z nu nz ne) (digit_below s t S u z nu nz ne) ∙ e) (no_room_cases (depth s) (table_of t u) i j z no_room)
      where
        in_it : holds (depth s) (table_of t u) i j z ≡ true → length N ≡ depth s
        in_it h =
            let p = held_entry s t S u i j nu (level_below s t S u z nu nz ne) (digit_below s t S u z nu nz ne) z nz.low h in
            absurd (not_both (has_node failed z) (ap (has_node failed) (sym p.2) ∙ has_failed p.0 p.1) left)

    pub lost_full : length (hop_entry s t u z) ≡ depth s
    lost_full = ap length (hop_entry_lem s t S u z nu nz ne) ∙ full

    -- of failed nodes
    many_failed : depth s ≤ count_nodes s (has_node failed)
    many_failed =
        subst (λ (n : ℕ). n ≤ count_nodes s (has_node failed)) full
        (nodes_least s (has_node failed) (length N) (λ k. get_or N k 0)
        (λ k l. (entry_node s t S u i j nu (level_below s t S u z nu nz ne) (digit_below s t S u z nu nz ne) k l, has_failed k l))
        (entry_differ s t S u i j nu (level_below s t S u z nu nz ne) (digit_below s t S u z nu nz ne)))

  -- where fewer than K nodes have failed
  module _ (few : count_nodes s (has_node failed) < depth s) where
    -- a next hop is left
    pub some_hop : (u : ℕ) → IsNode s u → u ≢ z → NoRoom s (table_of t u) z (suffix_of s u z) → (next_hop s t failed u z).node ≢ 0
    some_hop u nu ne no_room none = omega (arith, few, many_failed u nu ne none no_room)

    -- and every lookup from an attached node to z arrives, if there is no room for z at any of them
    pub few_failed : ((u : ℕ) → Attached s u → u ≢ z → NoRoom s (table_of t u) z (suffix_of s u z)) → (u : ℕ) → Attached s u → (lookup s t failed u z).arrived ≡ 1
    few_failed no_room u a =
        walk s t S failed z nz (λ (u : ℕ). is_attached s u ≡ true → (lookup s t failed u z).arrived ≡ 1)
        (λ u nu e a. rw (arrives_is s t failed u z e))
        (λ u nu ne q a. absurd (some_hop u nu ne (no_room u (record { node = nu; status = a }) ne) q))
        (λ u nu ne q ih a. rw (lookup_hop s t S failed z nz u nu ne q) (ih (hop_attached s t S u z nu nz ne failed q a))) u a.node a.status
