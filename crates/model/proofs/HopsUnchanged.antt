-- In every later state of a network whose nodes are all in system, a lookup that arrives takes the very same hops; and if the network passed the verdict,
-- every lookup between its nodes of that time does, whatever nodes have failed but the two ends. Assumes nothing.
use Prim.Native.Nat.{ℕ, ◌≤◌}
use mathlib.Core.Path.{◌≡◌, sym, ap, ◌∙◌}
use mathlib.Core.Logic.{◌≢◌}
use mathlib.Core.Bool.{true, false}
use mathlib.Core.List.{List, ◌∷◌}
use native.Mathlib.Omega.{arith}
use lib.ListN.{length}
use Rattle.model.specs.Ids.{digit_of}
use Rattle.model.specs.Memory.{digits, depth, id_of, is_in_system, has_node, table_of}
use Rattle.model.specs.Tables.{slot_place, entry}
use Rattle.model.specs.Nodes.{suffix_of}
use Rattle.model.specs.Lookup.{hop_entry, NextHop, frontmost, next_hop, very_hops, Lookup, answer_of, lookup}
use Rattle.model.specs.Consistency.{consistent}
use Rattle.model.proofs.Nodes.{suffix_by}
use Rattle.model.proofs.Tables.{Grows, grown_longer, grown_begins, grown_full}
use Rattle.model.proofs.Status.{IsNode, attached_in_system}
use Rattle.model.proofs.Sound.{Sound}
use Rattle.model.proofs.TablesOnlyGrow.{Attached, Onward}
use Rattle.model.proofs.SoundEntries.{entry_fits}
use Rattle.model.proofs.NextHop.{front_behind, level_below, digit_below}
use Rattle.model.proofs.Lookup.{walk, path_hop, arrives_path, loses_path, loses_is, lookup_hop}
use Rattle.model.proofs.Consistency.{consistent_whole}
use Rattle.model.proofs.NoRoom.{whole_hop}
use Rattle.model.proofs.Failures.{lost_full}

module _ (s t s' t' : List ℕ) (S : Sound s t) (S' : Sound s' t') (on : Onward s t s' t') where
  -- every node was in system then
  module _ (settled : (u : ℕ) → IsNode s u → is_in_system s u ≡ true) where
    attached : (u : ℕ) → IsNode s u → Attached s u
    attached u nu = record { node = nu; status = attached_in_system s u (settled u nu) }

    pub still_node : (u : ℕ) → IsNode s u → IsNode s' u
    still_node u nu = (on.attached u (attached u nu)).node

    module _ (failed z : ℕ) (nz : IsNode s z) where
      module _ (u : ℕ) (nu : IsNode s u) (ne : u ≢ z) where
        -- the entry of the next hop, then and now
        abbrev i : ℕ
        i = suffix_of s u z

        abbrev j : ℕ
        j = digit_of (id_of s z) (suffix_of s u z)

        now_at : hop_entry s' t' u z ≡ entry (depth s) (table_of t' u) i j
        unfolding hop_entry
        now_at =
            let b = on.ids z (attached z nz) in
            cc (on.depth, b, suffix_by s s' u z on.digits (on.ids u (attached u nu)) b)

        fits : slot_place i j (depth s) ≤ length (table_of t u)
        fits = entry_fits s t S u i j nu (level_below s t S u z nu nz ne) (digit_below s t S u z nu nz ne)

        grows : Grows (table_of t u) (table_of t' u)
        grows = on.grows u (attached u nu)

        -- a next hop stays
        next_stays : (next_hop s t failed u z).node ≢ 0 → next_hop s' t' failed u z ≡ next_hop s t failed u z
        unfolding next_hop hop_entry
        next_stays some =
            ap (frontmost failed) now_at
            ∙ front_behind failed (entry (depth s) (table_of t u) i j) (entry (depth s) (table_of t' u) i j)
            (grown_longer (depth s) (table_of t u) (table_of t' u) i j grows fits)
            (grown_begins (depth s) (table_of t u) (table_of t' u) i j grows fits) some

        -- so does the path to it, where the rest does
        hop_stays : (some : (next_hop s t failed u z).node ≢ 0)
            → very_hops s' t' failed (next_hop s t failed u z).node z ≡ very_hops s t failed (next_hop s t failed u z).node z
            → very_hops s' t' failed u z ≡ very_hops s t failed u z
        hop_stays some rest =
            let same : (next_hop s' t' failed u z).node ≡ (next_hop s t failed u z).node = ap (λ (r : NextHop). r.node) (next_stays some) in
            path_hop s' t' S' failed z (still_node z nz) u (still_node u nu) ne (λ n. some (sym same ∙ n))
            ∙ ap (λ (v : ℕ). u ∷ very_hops s' t' failed v z) same
            ∙ ap (◌∷◌ u) rest
            ∙ sym (path_hop s t S failed z nz u nu ne some)

      arrived_there : (u : ℕ) → u ≡ z → very_hops s' t' failed u z ≡ very_hops s t failed u z
      arrived_there u e = arrives_path (digits s') s' t' failed u z e ∙ sym (arrives_path (digits s) s t failed u z e)

      -- whatever the verdict says: a lookup that arrives takes the very same hops
      pub arrived_hops : (u : ℕ) → IsNode s u → (lookup s t failed u z).arrived ≡ 1 → very_hops s' t' failed u z ≡ very_hops s t failed u z
      arrived_hops =
          walk s t S failed z nz (λ (u : ℕ). (lookup s t failed u z).arrived ≡ 1 → very_hops s' t' failed u z ≡ very_hops s t failed u z)
          (λ u nu e q. arrived_there u e) (λ u nu e none q. absurd (omega (arith, q, ap (λ (r : Lookup). r.arrived) (loses_is s t failed u z e none))))
          (λ u nu e some ih q. hop_stays u nu e some (ih (sym (ap (λ (r : Lookup). r.arrived) (lookup_hop s t S failed z nz u nu e some)) ∙ q)))

      -- and has the same answer
      pub arrived_lookup : (u : ℕ) → IsNode s u → (lookup s t failed u z).arrived ≡ 1 → lookup s' t' failed u z ≡ lookup s t failed u z
      unfolding lookup
      arrived_lookup u nu q = ap (answer_of z) (arrived_hops u nu q)

    module _ (whole : consistent s t ≡ true) (failed z : ℕ) (nz : IsNode s z) (left : has_node failed z ≡ false) where
      -- where none was left the entry was full, and stays
      lost_stays : (u : ℕ) → IsNode s u → u ≢ z → (next_hop s t failed u z).node ≡ 0 → next_hop s' t' failed u z ≡ next_hop s t failed u z
      unfolding next_hop hop_entry
      lost_stays u nu ne none =
          ap (frontmost failed)
          (now_at failed z nz u nu ne
          ∙ grown_full (depth s) (table_of t u) (table_of t' u) _ _ (grows failed z nz u nu ne) (fits failed z nz u nu ne)
          (lost_full s t S failed z nz left u nu ne none (whole_hop s t S (consistent_whole s t whole) u z nu nz ne)))

      pub same_hops : (u : ℕ) → IsNode s u → very_hops s' t' failed u z ≡ very_hops s t failed u z
      same_hops =
          walk s t S failed z nz (λ (u : ℕ). very_hops s' t' failed u z ≡ very_hops s t failed u z) (λ u nu e. arrived_there failed z nz u e)
          (λ u nu e q.
          loses_path (digits s') s' t' failed u z e (ap (λ (r : NextHop). r.node) (lost_stays u nu e q) ∙ q)
          ∙ sym (loses_path (digits s) s t failed u z e q))
          (λ u nu e q ih. hop_stays failed z nz u nu e q ih)

      -- so they have the same answer
      pub same_lookup : (u : ℕ) → IsNode s u → lookup s' t' failed u z ≡ lookup s t failed u z
      unfolding lookup
      same_lookup u nu = ap (answer_of z) (same_hops u nu)
