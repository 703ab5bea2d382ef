-- One call later in the same network: nodes may have come or been withdrawn. Those of both states keep their ids, and the attached ones stay, attached,
-- and in system if they were. What the rules say of a table or a record that did not change holds on. Assumes nothing.
use Prim.Native.Nat.{ℕ, ◌≤◌, ◌<◌, ◌^◌}
use mathlib.Core.Path.{◌≡◌, refl, sym, ap, ap₂, subst, ◌∙◌}
use mathlib.Core.Logic.{◌≢◌, ⊎_elim}
use mathlib.Core.Bool.{true}
use mathlib.Core.List.{List}
use native.Mathlib.Omega.{arith}
use lib.Dec.{eqb}
use borrow.Author.Tests.{eqb-true}
use Rattle.model.specs.Ids.{digit_of}
use Rattle.model.specs.Memory.{Node, base, digits, depth, node_count, node_of, id_of, in_system, copying, waiting, notifying, has_node, is_attached, is_in_system}
use Rattle.model.specs.Tables.{qualified, slot_at, first_of}
use Rattle.model.specs.Nodes.{suffix_of}
use Rattle.model.specs.Sound.{may_stand, place_used}
use Rattle.model.proofs.Bools.{or_cases, or_intro_left, or_intro_right}
use Rattle.model.proofs.Nodes.{suffix_by}
use Rattle.model.proofs.Sets.{has_within, has_below}
use Rattle.model.proofs.Status.{IsNode, PendingOk, NotifiedOk, NotifyingOk, RecordOk, StatusOk, ok_in_system, ok_copying, ok_waiting, ok_notifying, attached_in_system}
use Rattle.model.proofs.NodeCounts.{limit_of, CountsOk}
use Rattle.model.proofs.Sound.{SlotOk, TableOk}

pub record Later (s s' : List ℕ) : Type 0 where
  pub base : base s' ≡ base s
  pub digits : digits s' ≡ digits s
  pub depth : depth s' ≡ depth s
  pub ids : (x : ℕ) → IsNode s x → IsNode s' x → id_of s' x ≡ id_of s x
  pub stays : (x : ℕ) → IsNode s x → is_attached s x ≡ true → IsNode s' x
  pub attached : (x : ℕ) → IsNode s x → is_attached s x ≡ true → is_attached s' x ≡ true
  pub in_system : (x : ℕ) → IsNode s x → is_in_system s x ≡ true → is_in_system s' x ≡ true

pub later_refl : (s : List ℕ) → Later s s
later_refl s = record {
  base = refl;
  digits = refl;
  depth = refl;
  ids = λ x n n'. refl;
  stays = λ x n e. n;
  attached = λ x n e. e;
  in_system = λ x n e. e;
}

module _ (s s' : List ℕ) (l : Later s s') where
  in_system_stays : (x : ℕ) → IsNode s x → is_in_system s x ≡ true → IsNode s' x
  in_system_stays x n e = l.stays x n (attached_in_system s x e)

  pub suffix_later : (x y : ℕ) → IsNode s x → IsNode s' x → IsNode s y → IsNode s' y → suffix_of s' x y ≡ suffix_of s x y
  suffix_later x y nx nx' ny ny' = suffix_by s s' x y l.digits (l.ids x nx nx') (l.ids y ny ny')

  -- ---- a table

  -- what stands in x's table is x or stays
  stands_later : (x u : ℕ) → IsNode s' x → IsNode s u → may_stand s x u ≡ true → IsNode s' u
  stands_later x u n' nu e =
      ⊎_elim (λ q. subst (IsNode s') (sym (eqb-true u x q)) n') (l.stays u nu) (or_cases (eqb u x) (is_attached s u) e)

  may_later : (x u : ℕ) → IsNode s u → may_stand s x u ≡ true → may_stand s' x u ≡ true
  may_later x u n e =
      ⊎_elim (or_intro_left (eqb u x) (is_attached s' u)) (λ a. or_intro_right (eqb u x) (is_attached s' u) (l.attached u n a))
      (or_cases (eqb u x) (is_attached s u) e)

  slot_later : (x : ℕ) (T : List ℕ) (i j k : ℕ) → IsNode s x → IsNode s' x → slot_at T i j k ≢ 0 → SlotOk s x T i j k → SlotOk s' x T i j k
  slot_later x T i j k n n' nz o =
      let nu : IsNode s (slot_at T i j k) = record { low = omega (arith, nz); high = o.within } in
      let nu' : IsNode s' (slot_at T i j k) = stands_later x (slot_at T i j k) n' nu o.may in
      record {
        within = nu'.high;
        may = may_later x (slot_at T i j k) nu o.may;
        qual = ap₂ (λ (a b : ℕ). qualified a b i j) (l.ids x n n') (l.ids (slot_at T i j k) nu nu') ∙ o.qual;
        gap = o.gap;
        fresh = o.fresh;
      }

  used_later : (p : ℕ) → place_used s' p ≡ place_used s p
  used_later p = simp (l.base, l.digits, l.depth)

  pub table_later : (x : ℕ) (T : List ℕ) → IsNode s x → IsNode s' x → TableOk s x T → TableOk s' x T
  table_later x T n n' o = record {
    slots =
        λ i j k hi hj hk nz.
        slot_later x T i j k n n' nz
        (o.slots i j k (omega (arith, l.digits, hi)) (omega (arith, l.base, hj)) (omega (arith, l.depth, hk)) nz);
    owner = λ i h. ap (λ (d : ℕ). first_of T i (digit_of d i)) (l.ids x n n') ∙ o.owner i (omega (arith, l.digits, h));
    unused = λ p h e. o.unused p h (sym (used_later p) ∙ e);
  }

  -- ---- a record

  -- a set of attached nodes names only nodes
  within_later : (nodes : ℕ) → nodes < 2 ^ node_count s → ((u : ℕ) → IsNode s u → has_node nodes u ≡ true → is_attached s u ≡ true)
      → nodes < 2 ^ node_count s'
  within_later nodes h f =
      has_below nodes (node_count s) (node_count s') h
      (λ u low high e. let n : IsNode s u = record { low = low; high = high } in (l.stays u n (f u n e)).high)

  module _ (y : ℕ) (n : IsNode s y) (n' : IsNode s' y) (r : Node) where
    pending_later : NotifyingOk s y r → (u : ℕ) → IsNode s' u → has_node r.pending u ≡ true → PendingOk s' y r.level r.notified u
    pending_later o u nu h =
        let nu₀ : IsNode s u = record { low = nu.low; high = has_within r.pending (node_count s) u o.pending_within h } in
        let f : PendingOk s y r.level r.notified u = o.pending u nu₀ h in
        record {
          attached = l.attached u nu₀ f.attached;
          suffix = omega (arith, suffix_later y u n n' nu₀ nu, f.suffix);
          other = f.other;
          new = f.new;
        }

    notified_later : NotifyingOk s y r → (u : ℕ) → IsNode s' u → has_node r.notified u ≡ true → NotifiedOk s' y u
    notified_later o u nu h =
        let nu₀ : IsNode s u = record { low = nu.low; high = has_within r.notified (node_count s) u o.notified_within h } in
        let f : NotifiedOk s y u = o.notified u nu₀ h in
        record { attached = l.attached u nu₀ f.attached; other = f.other }

    pub record_later : RecordOk s y r → RecordOk s' y r
    record_later (ok_in_system e o) = ok_in_system e o
    record_later (ok_copying e o) =
        ok_copying e
        (record {
          is_node = in_system_stays r.target o.is_node o.in_system;
          in_system = l.in_system r.target o.is_node o.in_system;
          rest = o.rest;
        })
    record_later (ok_waiting e o) =
        ok_waiting e
        (record {
          is_node = l.stays r.target o.is_node o.attached;
          attached = l.attached r.target o.is_node o.attached;
          rest = o.rest;
        })
    record_later (ok_notifying e o) =
        ok_notifying e
        (record {
          target = o.target;
          level = omega (arith, l.digits, o.level);
          some = o.some;
          pending_within = within_later r.pending o.pending_within (λ u nu h. (o.pending u nu h).attached);
          notified_within = within_later r.notified o.notified_within (λ u nu h. (o.notified u nu h).attached);
          pending = pending_later o;
          notified = notified_later o;
        })

  -- that keeps its rules is x's
  pub status_later : (x : ℕ) → IsNode s x → IsNode s' x → {r : Node} → node_of s' x ≡ r → RecordOk s x r → StatusOk s' x
  status_later x n n' {r} e o = subst (RecordOk s' x) (sym e) (record_later x n n' r o)

  -- and so with its counts: the limit of its requests is as it was
  limit_later : (x : ℕ) → IsNode s x → IsNode s' x → (r : Node) → RecordOk s x r
      → limit_of (digits s') r.status (suffix_of s' x r.target) ≡ limit_of (digits s) r.status (suffix_of s x r.target)
  limit_later x n n' r o = ap (λ (d : ℕ). limit_of d r.status (suffix_of s' x r.target)) l.digits ∙ go o
    where
      at : (status : ℕ) → r.status ≡ status → limit_of (digits s) status (suffix_of s' x r.target) ≡ limit_of (digits s) status (suffix_of s x r.target)
          → limit_of (digits s) r.status (suffix_of s' x r.target) ≡ limit_of (digits s) r.status (suffix_of s x r.target)
      at status e h =
          ap (λ (v : ℕ). limit_of (digits s) v (suffix_of s' x r.target)) e
          ∙ h
          ∙ sym (ap (λ (v : ℕ). limit_of (digits s) v (suffix_of s x r.target)) e)

      go : RecordOk s x r → limit_of (digits s) r.status (suffix_of s' x r.target) ≡ limit_of (digits s) r.status (suffix_of s x r.target)
      go (ok_in_system e o) = at in_system e refl
      go (ok_copying e o) =
          at copying e
          (ap (limit_of (digits s) copying) (suffix_later x r.target n n' o.is_node (in_system_stays r.target o.is_node o.in_system)))
      go (ok_waiting e o) =
          at waiting e
          (ap (limit_of (digits s) waiting) (suffix_later x r.target n n' o.is_node (l.stays r.target o.is_node o.attached)))
      go (ok_notifying e o) = at notifying e refl

  pub counts_later : (x : ℕ) → IsNode s x → IsNode s' x → {r : Node} → node_of s' x ≡ r → RecordOk s x r → CountsOk s x r → CountsOk s' x (node_of s' x)
  counts_later x n n' {r} e o c =
      subst (CountsOk s' x) (sym e)
      (record { requests = subst (λ (m : ℕ). r.requests ≤ m) (sym (limit_later x n n' r o)) c.requests; notices = c.notices })
