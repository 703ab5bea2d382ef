-- One hop as the code takes it, over what it has read: the depth K, u's table T, and the entry e in
-- which it looks. Assumes nothing.
use Prim.Native.Nat.{ℕ, ◌-◌, ◌≤◌, ◌<◌}
use mathlib.Core.Path.{◌≡◌, sym, ap, subst, ◌∙◌}
use mathlib.Core.Logic.{◌≢◌}
use mathlib.Core.Bool.{Bool}
use mathlib.Core.List.{List}
use native.Mathlib.Decide.{ℕ_discrete}
use native.Mathlib.Omega.{arith}
use lib.ListN.{length}
use Rattle.std.specs.Prelude.{Option, None, Some, IfSome}
use Rattle.model.specs.Memory.{digits, depth, table_of}
use Rattle.model.specs.Tables.{slot_place, slot_at, entry, holds}
use Rattle.model.specs.Nodes.{suffix_of}
use Rattle.model.specs.Lookup as book
use Rattle.model.specs.Lookup.{NextHop, hop_entry, frontmost, next_hop}
use Rattle.model.specs.Traces.{may_go}
use Rattle.model.proofs.Status.{IsNode}
use Rattle.model.proofs.Sound.{Sound, standing}
use Rattle.model.proofs.SoundNodes.{suffix_below}
use Rattle.model.proofs.Lookup.{one_hop_more, lost_at, loses_is, hop_node, left_falls, lookup_hop, hops_bound}
use Rattle.tables.specs.declared.entry.NextHop as declared
use Rattle.tables.specs.NextHop.{number_or_zero, book_next_hop}
use Rattle.tables.specs.Places as Places
use Rattle.tables.specs.Places.{Numbers}
use Rattle.model.proofs.MayGo.{may_go_held}
use Rattle.routing.specs.declared.Entry.{Entry}
use Rattle.answers.specs.declared.lookup.Lookup.{Lookup}
use Rattle.routing.specs.Answer.{book_lookup}
use Rattle.routing.specs.Hop.{HopEntry}

-- its frontmost is the next hop
pub reads_next : (s t T : List ℕ) (failed u z K : ℕ) (e : Entry) (r : NextHop) → HopEntry s u z e → K ≡ depth s → T ≡ table_of t u
    → r ≡ frontmost failed (entry K T e.level e.digit) → r ≡ next_hop s t failed u z
unfolding next_hop hop_entry
reads_next s t T failed u z K e r h eK eT er = cc (h.level, h.digit)

-- a path may go to the nodes that it holds
pub reads_may_go : (s t T : List ℕ) → Sound s t → (u v z : ℕ) → IsNode s u → IsNode s v → IsNode s z → u ≢ z → (K : ℕ) (e : Entry) (r : Bool)
    → HopEntry s u z e → K ≡ depth s → T ≡ table_of t u → r ≡ holds K T e.level e.digit v → r ≡ may_go s t u v z
reads_may_go s t T S u v z nu nv nz ne K e r h eK eT er =
    let g = may_go_held s t S u v z nu nz ne (λ q. omega (arith, nv.low)) in cc (h.level, h.digit)

-- that entry stands in the table, since two nodes have no common suffix of all digits
pub entry_stands : (s t : List ℕ) → Sound s t → (u z : ℕ) → IsNode s u → IsNode s z → u ≢ z → (T : List ℕ) (K : ℕ) (e : Entry)
    → HopEntry s u z e → length T ≡ 512 → K ≤ 4 → Places.Entry T K e.level e.digit
entry_stands s t S u z nu nz ne T K e h long shallow =
    record {
      long = omega arith;
      depth = shallow;
      level = omega (arith, h.level, suffix_below s t S u z nu nz (λ e. ne (sym e)), S.settings.digits_most);
      digit = h.low;
    }

-- the same of the state's own depth, by the equation that the code has
pub entry_of_depth : (s t : List ℕ) → Sound s t → (u z : ℕ) → IsNode s u → IsNode s z → u ≢ z → (T : List ℕ) (K : ℕ) (e : Entry)
    → HopEntry s u z e → length T ≡ 512 → K ≡ depth s → Places.Entry T K e.level e.digit
entry_of_depth s t S u z nu nz ne T K e h long eK =
    entry_stands s t S u z nu nz ne T K e h long (omega (arith, S.settings.depth_most))

-- and holds numbers of nodes
pub numbers : (s t : List ℕ) → Sound s t → (u : ℕ) → IsNode s u → (T : List ℕ) → T ≡ table_of t u → (K i j : ℕ) → Places.Entry T K i j → Numbers T K i j
numbers s t S u nu T e K i j E k h = go (ℕ_discrete (slot_at T i j k) 0)
  where
    place : slot_place i j k < 512
    place = omega (arith, E.depth, E.level, E.digit)

    same : slot_at T i j k ≡ slot_at (table_of t u) i j k
    same = ap (λ (T : List ℕ). slot_at T i j k) e

    go : Dec (slot_at T i j k ≡ 0) → slot_at T i j k ≤ 64
    go (yes none) = omega arith
    go (no some) =
        omega (arith, S.few, same, (standing s S.settings u (table_of t u) (S.tables u nu) (slot_place i j k) place (λ none. some (same ∙ none))).0)

-- where the next-hop rule names no node, a lookup is lost
pub loses_here : (s t : List ℕ) (failed u z : ℕ) → u ≢ z → (next_hop s t failed u z).node ≡ 0 → lost_at u ≡ book.lookup s t failed u z
loses_here s t failed u z ne none = sym (loses_is s t failed u z ne none)

-- a lookup from u to z hops to node v
pub record Hop (s t : List ℕ) (failed u z v : ℕ) : Type 0 where
  pub sound : Sound s t
  pub from : IsNode s u
  pub to : IsNode s z
  pub apart : u ≢ z
  pub next : (next_hop s t failed u z).node ≡ v
  pub some : v ≢ 0

module _ (s t : List ℕ) (failed u z v : ℕ) (h : Hop s t failed u z v) where
  filled : (next_hop s t failed u z).node ≢ 0
  filled e = h.some (sym h.next ∙ e)

  pub next_node : IsNode s v
  next_node =
      subst (IsNode s) h.next (hop_node s t h.sound failed u z h.from h.to h.apart filled).0

  -- the measure of the recursion
  pub falls : digits s - suffix_of s v z < digits s - suffix_of s u z
  falls =
      subst (λ (v : ℕ). digits s - suffix_of s v z < digits s - suffix_of s u z) h.next
      (left_falls s t h.sound failed z h.to u h.from h.apart filled)

  -- the lookup from u is that from the next node with one hop more
  pub hop_is : book.lookup s t failed u z ≡ one_hop_more (book.lookup s t failed v z)
  hop_is =
      lookup_hop s t h.sound failed z h.to u h.from h.apart filled
      ∙ ap (λ (v : ℕ). one_hop_more (book.lookup s t failed v z)) h.next

  -- l is what the lookup from the next node has answered
  module _ (l : Lookup) (further : book_lookup l ≡ book.lookup s t failed v z) where
    pub few_hops : l.hops ≤ 8
    few_hops =
        let e : l.hops ≡ (book.lookup s t failed v z).hops = ap (λ (l : book.Lookup). l.hops) further in
        omega (arith, hops_bound s t h.sound failed z h.to v next_node, h.sound.settings.digits_most)

    pub one_hop_more_lem : one_hop_more (book_lookup l) ≡ book.lookup s t failed u z
    one_hop_more_lem = ap one_hop_more further ∙ sym hop_is

-- the next hop as the code has it, r: a node, or none

pub named_none : (s t : List ℕ) (failed u z : ℕ) (r : declared.NextHop) → book_next_hop r ≡ next_hop s t failed u z → r.node ≡ None
    → (next_hop s t failed u z).node ≡ 0
named_none s t failed u z r e q = sym (ap (λ (r : NextHop). r.node) e) ∙ ap number_or_zero q

module _ (s t : List ℕ) (S : Sound s t) (failed u z : ℕ) (nu : IsNode s u) (nz : IsNode s z) (ne : u ≢ z) where
  node_named : (o : Option ℕ) → (next_hop s t failed u z).node ≡ number_or_zero o → IfSome o (λ v. v ≢ 0) → IfSome o (IsNode s)
  node_named None e h = tt
  node_named (Some v) e h =
      next_node s t failed u z v (record { sound = S; from = nu; to = nz; apart = ne; next = e; some = h })

  module _ (r : declared.NextHop) (e : book_next_hop r ≡ next_hop s t failed u z) where
    pub nodes_named : IfSome r.node (λ v. v ≢ 0) → IfSome r.node (IsNode s)
    nodes_named = node_named r.node (sym (ap (λ (r : NextHop). r.node) e))

    pub hops_to : IfSome r.node (IsNode s) → (v : ℕ) → r.node ≡ Some v → Hop s t failed u z v
    hops_to h v q =
        let n : IsNode s v = subst (λ (o : Option ℕ). IfSome o (IsNode s)) q h in
        record {
          sound = S;
          from = nu;
          to = nz;
          apart = ne;
          next = sym (ap (λ (r : NextHop). r.node) e) ∙ ap number_or_zero q;
          some = λ z. omega (arith, n.low, z);
        }
