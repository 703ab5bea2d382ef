-- Laws of the next-hop rule: which node of an entry it names, and in a sound state what that node is. Assumes nothing.
use Prim.Native.Nat.{ℕ, ◌+◌, ◌≤◌, ◌<◌}
use mathlib.Core.Path.{◌≡◌, refl, sym, ap, subst, ◌∙◌}
use mathlib.Core.Logic.{◌≢◌}
use mathlib.Core.Bool.{Bool, true, false, not}
use mathlib.Core.List.{List}
use native.Mathlib.Nat.{le_refl, lt_of_not-le}
use native.Mathlib.Decide.{dec_lt}
use native.Mathlib.Omega.{arith}
use lib.ListN.{length, get_or, get_or-eq_default}
use borrow.Author.Tests.{not-true, not-false}
use Rattle.model.specs.Loops.{first_below}
use Rattle.model.specs.Ids.{digit_of}
use Rattle.model.specs.Memory.{base, digits, depth, id_of, is_attached, has_node, table_of}
use Rattle.model.specs.Tables.{slot_place, first_of}
use Rattle.model.specs.Nodes.{suffix_of, qualifies}
use Rattle.model.specs.Lookup.{hop_entry, NextHop, frontmost, next_hop}
use Rattle.model.specs.Consistency.{neighbors}
use Rattle.model.proofs.Ids.{next_hop_lem, valid_digit, qualified_of}
use Rattle.model.proofs.Loops.{first_le, first_before, first_holds, first_unique, first_same}
use Rattle.model.proofs.Sets.{has_none}
use Rattle.model.proofs.Memory.{table_length}
use Rattle.model.proofs.Tables.{size_le, entry_first}
use Rattle.model.proofs.Status.{IsNode}
use Rattle.model.proofs.Sound.{Sound, table_fits}
use Rattle.model.proofs.SoundNodes.{stands_node, own, suffix_below}
use Rattle.model.proofs.SoundEntries.{entry_fits, size_is_length, entry_slot, entry_node, entry_qualifies}

-- ---- the frontmost of some nodes

module _ (failed : ℕ) (E : List ℕ) where
  abbrev is_left : ℕ → Bool
  is_left k = not (has_node failed (get_or E k 0))

  -- it stands behind those that are passed over
  pub front_at : (frontmost failed E).node ≡ get_or E (frontmost failed E).passed_over 0
  unfolding frontmost
  front_at = refl

  -- what is passed over has failed
  pub front_passed : (k : ℕ) → k < (frontmost failed E).passed_over → has_node failed (get_or E k 0) ≡ true
  unfolding frontmost
  front_passed k h = not-false _ (first_before (length E) is_left k h)

  -- a next hop stands among the nodes
  pub front_stands : (frontmost failed E).node ≢ 0 → (frontmost failed E).passed_over < length E
  unfolding frontmost
  front_stands some = lt_of_not-le (λ l. some (get_or-eq_default E 0 l))

  -- and has not failed
  pub front_left : (frontmost failed E).node ≢ 0 → has_node failed (frontmost failed E).node ≡ false
  unfolding frontmost
  front_left some = not-true _ (first_holds (length E) is_left (front_stands some))

  -- where there is none, all were passed over
  pub front_none : ((k : ℕ) → k < length E → get_or E k 0 ≢ 0) → (frontmost failed E).node ≡ 0 → (frontmost failed E).passed_over ≡ length E
  unfolding frontmost
  front_none filled e = go (dec_lt (first_below (length E) is_left) (length E))
    where
      go : Dec (first_below (length E) is_left < length E) → first_below (length E) is_left ≡ length E
      go (yes l) = absurd (filled _ l e)
      go (no g) = omega (arith, first_le (length E) is_left)

  -- it is the node at a place, where those before it have failed and it has not, or is none
  pub front_is : (k : ℕ) → k ≤ length E → ((m : ℕ) → m < k → has_node failed (get_or E m 0) ≡ true)
      → (k < length E → has_node failed (get_or E k 0) ≡ false) → record { node = get_or E k 0; passed_over = k } ≡ frontmost failed E
  unfolding frontmost
  front_is k h before left =
      ap (λ (k : ℕ). record { node = get_or E k 0; passed_over = k })
      (first_unique (length E) is_left k (record { within = h; before = λ m l. ap not (before m l); holds = λ l. ap not (left l) }))

-- with none failed it is the first
pub front_first : (E : List ℕ) → record { node = get_or E 0 0; passed_over = 0 } ≡ frontmost 0 E
front_first E = front_is 0 E 0 (omega arith) (λ m l. absurd (omega arith)) (λ l. has_none (get_or E 0 0))

-- nodes that come behind others change no next hop
pub front_behind : (failed : ℕ) (E E' : List ℕ) → length E ≤ length E' → ((k : ℕ) → k < length E → get_or E' k 0 ≡ get_or E k 0)
    → (frontmost failed E).node ≢ 0 → frontmost failed E' ≡ frontmost failed E
front_behind failed E E' longer same some =
    let k : ℕ = (frontmost failed E).passed_over in
    let l : k < length E = front_stands failed E some in
    let is : get_or E' k 0 ≡ (frontmost failed E).node = same k l ∙ sym (front_at failed E) in
    sym
    (front_is failed E' k (omega arith) (λ m h. ap (has_node failed) (same m (omega arith)) ∙ front_passed failed E m h)
    (λ h. ap (has_node failed) is ∙ front_left failed E some))
    ∙ ap (λ (v : ℕ). record { node = v; passed_over = k }) is

-- two sets say the same of every node
abbrev pub Agreeing : List ℕ → ℕ → ℕ → Type 0
Agreeing s failed failed' = (x : ℕ) → IsNode s x → has_node failed' x ≡ has_node failed x

-- sets that say the same of some nodes have the same frontmost
pub front_same : (failed failed' : ℕ) (E : List ℕ)
    → ((k : ℕ) → k < length E → has_node failed' (get_or E k 0) ≡ has_node failed (get_or E k 0)) → frontmost failed' E ≡ frontmost failed E
unfolding frontmost
front_same failed failed' E same =
    ap (λ (k : ℕ). record { node = get_or E k 0; passed_over = k }) (first_same (length E) _ _ (λ k l. ap not (same k l)))

-- ---- the entry that a lookup from u to z looks into, in a sound state

module _ (s t : List ℕ) (S : Sound s t) (u z : ℕ) (nu : IsNode s u) (nz : IsNode s z) (ne : u ≢ z) where
  abbrev level : ℕ
  level = suffix_of s u z

  abbrev digit : ℕ
  digit = digit_of (id_of s z) (suffix_of s u z)

  pub level_below : suffix_of s u z < digits s
  level_below = suffix_below s t S u z nu nz (λ e. ne (sym e))

  pub digit_below : digit_of (id_of s z) (suffix_of s u z) < base s
  digit_below = valid_digit (base s) (digits s) (id_of s z) level (S.ids z nz) level_below

  pub hop_entry_lem : hop_entry s t u z ≡ neighbors s t u (suffix_of s u z) (digit_of (id_of s z) (suffix_of s u z))
  unfolding hop_entry
  hop_entry_lem = refl

  -- what stands there is a node that matches z in more digits than u does
  pub entry_hop : (k : ℕ) → k < length (hop_entry s t u z)
      → IsNode s (get_or (hop_entry s t u z) k 0) × (suffix_of s u z + 1 ≤ suffix_of s (get_or (hop_entry s t u z) k 0) z)
  unfolding hop_entry
  entry_hop k h = (
    entry_node s t S u level digit nu level_below digit_below k h,
    next_hop_lem (digits s) (id_of s u) (id_of s (get_or (hop_entry s t u z) k 0)) (id_of s z) level_below
        (entry_qualifies s t S u level digit nu level_below digit_below k h),
  )

  -- z itself qualifies for it
  pub to_qualifies : qualifies s u (suffix_of s u z) (digit_of (id_of s z) (suffix_of s u z)) z ≡ true
  to_qualifies = qualified_of (digits s) (id_of s u) (id_of s z) level digit (le_refl level) refl

  module _ (failed : ℕ) where
    -- a next hop stands in the entry
    pub hop_stands : (next_hop s t failed u z).node ≢ 0
        → ((next_hop s t failed u z).passed_over < length (hop_entry s t u z))
        × ((next_hop s t failed u z).node ≡ get_or (hop_entry s t u z) (next_hop s t failed u z).passed_over 0)
    unfolding next_hop
    hop_stands some = (front_stands failed (hop_entry s t u z) some, front_at failed (hop_entry s t u z))

    -- at a place of u's table
    pub hop_place : (next_hop s t failed u z).node ≢ 0 → (p : ℕ) × (p < 512) × (get_or (table_of t u) p 0 ≡ (next_hop s t failed u z).node)
    unfolding hop_entry
    hop_place some =
        let at = hop_stands some in
        let k : ℕ = (next_hop s t failed u z).passed_over in
        let n = size_is_length s t S u level digit nu level_below digit_below in
        let fits = entry_fits s t S u level digit nu level_below digit_below in (
          slot_place level digit k,
          omega (arith, at.0, n, size_le (depth s) (table_of t u) level digit, fits, table_length t u (table_fits s t S u nu)),
          sym (entry_slot s t S u level digit nu level_below digit_below k at.0) ∙ sym at.1,
        )

    -- so from an attached node it is attached
    pub hop_attached : (next_hop s t failed u z).node ≢ 0 → is_attached s u ≡ true → is_attached s (next_hop s t failed u z).node ≡ true
    hop_attached some a =
        let p = hop_place some in
        subst (λ (v : ℕ). is_attached s v ≡ true) p.2
        (stands_node s S.settings u a (table_of t u) (own s t S u nu) p.0 p.1 (λ e. some (sym p.2 ∙ e))).1

    -- and has not failed
    pub hop_left : (next_hop s t failed u z).node ≢ 0 → has_node failed (next_hop s t failed u z).node ≡ false
    unfolding next_hop
    hop_left = front_left failed (hop_entry s t u z)

    -- where no next hop is left, the whole entry has failed
    pub hop_none : (next_hop s t failed u z).node ≡ 0 → (k : ℕ) → k < length (hop_entry s t u z)
        → has_node failed (get_or (hop_entry s t u z) k 0) ≡ true
    unfolding next_hop
    hop_none e k h =
        let all = front_none failed (hop_entry s t u z) (λ k h q. omega (arith, (entry_hop k h).0.low)) e in
        front_passed failed (hop_entry s t u z) k (omega arith)

  -- where none has failed the next hop is the first of the entry
  pub hop_first : (next_hop s t 0 u z).node ≡ first_of (table_of t u) (suffix_of s u z) (digit_of (id_of s z) (suffix_of s u z))
  unfolding next_hop hop_entry
  hop_first =
      ap (λ (r : NextHop). r.node) (sym (front_first (hop_entry s t u z)))
      ∙ entry_first (depth s) (table_of t u) level digit (entry_fits s t S u level digit nu level_below digit_below) S.settings.depth_least
