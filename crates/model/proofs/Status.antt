-- The rules of a node's status as facts, one record for each status, and the way there and back. Assumes nothing.
use Prim.Native.Nat.{ℕ, ◌≤◌, ◌<◌, ◌^◌}
use mathlib.Core.Path.{◌≡◌, refl, ap, ◌∙◌}
use mathlib.Core.Logic.{◌≢◌, ⊎_elim}
use mathlib.Core.Bool.{Bool, true, false, not, ◌&&◌, ◌||◌}
use mathlib.Core.List.{List}
use native.Mathlib.Nat.{le_trans}
use lib.Dec.{eqb}
use borrow.Author.Tests.{eqb-true, eqb-false, eq-eqb, ne_eqb, leb-true, le-leb, ltb-true, lt-ltb, not-true}
use Rattle.model.specs.Memory.{Node, digits, node_count, node_of, status_of, level_of, target_of, pending_of, notified_of, in_system, copying, waiting, notifying, has_node, is_attached, is_in_system}
use Rattle.model.specs.Join.{in_system_node, joining_node}
use Rattle.model.specs.Nodes.{is_node, suffix_of, all_nodes}
use Rattle.model.specs.Sound.{in_system_sound, joining_sound, copying_sound, waiting_sound, pending_sound, notified_sound, notifying_sound, status_sound}
use Rattle.model.proofs.Bools.{and_intro, or_cases, or_right, or_intro_left, or_intro_right, not_both, parts}
use Rattle.model.proofs.Nodes.{nodes_at, nodes_of}

-- whether x is attached, by the number of its status
pub attached_by : (s : List ℕ) (x n : ℕ) → status_of s x ≡ n → is_attached s x ≡ (eqb n in_system || eqb n notifying)
attached_by s x n = ap (λ (v : ℕ). eqb v in_system || eqb v notifying)

pub attached_in_system : (s : List ℕ) (x : ℕ) → is_in_system s x ≡ true → is_attached s x ≡ true
attached_in_system s x e = or_intro_left (is_in_system s x) (eqb (status_of s x) notifying) e

pub attached_notifying : (s : List ℕ) (x : ℕ) → status_of s x ≡ notifying → is_attached s x ≡ true
attached_notifying s x = attached_by s x notifying

pub notifying_out : (s : List ℕ) (x : ℕ) → status_of s x ≡ notifying → is_in_system s x ≡ false
notifying_out s x = ap (λ (v : ℕ). eqb v in_system)

pub copying_away : (s : List ℕ) (x : ℕ) → status_of s x ≡ copying → is_attached s x ≡ false
copying_away s x = attached_by s x copying

pub waiting_away : (s : List ℕ) (x : ℕ) → status_of s x ≡ waiting → is_attached s x ≡ false
waiting_away s x = attached_by s x waiting

-- an attached node is another than one that is not
pub attached_other : (s : List ℕ) (x y : ℕ) → is_attached s x ≡ false → is_attached s y ≡ true → y ≢ x
attached_other s x y f a q = not_both (is_attached s y) a (ap (is_attached s) q ∙ f)

-- with the same record y is attached, and in system, as it was
module _ (s s' : List ℕ) (y : ℕ) (e : node_of s' y ≡ node_of s y) where
  pub attached_same : is_attached s' y ≡ is_attached s y
  attached_same = ap (λ (r : Node). eqb r.status in_system || eqb r.status notifying) e

  pub in_system_same : is_in_system s' y ≡ is_in_system s y
  in_system_same = ap (λ (r : Node). eqb r.status in_system) e

-- x is the number of a node
pub record IsNode (s : List ℕ) (x : ℕ) : Type 0 where
  pub low : 1 ≤ x
  pub high : x ≤ node_count s

-- a node of one state is one of every state with as many nodes or more
pub node_among : (s s' : List ℕ) → node_count s ≤ node_count s' → (x : ℕ) → IsNode s x → IsNode s' x
node_among s s' h x n = record { low = n.low; high = le_trans n.high h }

pub is_node_lem : (s : List ℕ) (x : ℕ) → is_node s x ≡ true → IsNode s x
is_node_lem s x e = record { low = leb-true 1 x (search parts); high = leb-true x (node_count s) (search parts) }

pub is_node_of : (s : List ℕ) (x : ℕ) → IsNode s x → is_node s x ≡ true
is_node_of s x r = search (and_intro, le-leb)

-- ---- the rules of a record r, which may be x's: a record for each status

pub record InSystemOk (r : Node) : Type 0 where
  pub level : r.level ≡ 0
  pub target : r.target ≡ 0
  pub pending : r.pending ≡ 0
  pub notified : r.notified ≡ 0

pub record JoiningOk (r : Node) : Type 0 where
  pub level : r.level ≡ 0
  pub pending : r.pending ≡ 0
  pub notified : r.notified ≡ 0

pub record CopyingOk (s : List ℕ) (r : Node) : Type 0 where
  pub is_node : IsNode s r.target
  pub in_system : is_in_system s r.target ≡ true
  pub rest : JoiningOk r

pub record WaitingOk (s : List ℕ) (r : Node) : Type 0 where
  pub is_node : IsNode s r.target
  pub attached : is_attached s r.target ≡ true
  pub rest : JoiningOk r

-- a node of the pending set
pub record PendingOk (s : List ℕ) (x level notified u : ℕ) : Type 0 where
  pub attached : is_attached s u ≡ true
  pub suffix : level ≤ suffix_of s x u
  pub other : u ≢ x
  pub new : has_node notified u ≡ false

-- a node of the notified set
pub record NotifiedOk (s : List ℕ) (x u : ℕ) : Type 0 where
  pub attached : is_attached s u ≡ true
  pub other : u ≢ x

pub record NotifyingOk (s : List ℕ) (x : ℕ) (r : Node) : Type 0 where
  pub target : r.target ≡ 0
  pub level : r.level < digits s
  pub some : 0 < r.pending
  pub pending_within : r.pending < 2 ^ node_count s
  pub notified_within : r.notified < 2 ^ node_count s
  pub pending : (u : ℕ) → IsNode s u → has_node r.pending u ≡ true → PendingOk s x r.level r.notified u
  pub notified : (u : ℕ) → IsNode s u → has_node r.notified u ≡ true → NotifiedOk s x u

pub data RecordOk (s : List ℕ) (x : ℕ) (r : Node) : Type 0 where
  ok_in_system : r.status ≡ in_system → InSystemOk r → RecordOk s x r
  ok_copying : r.status ≡ copying → CopyingOk s r → RecordOk s x r
  ok_waiting : r.status ≡ waiting → WaitingOk s r → RecordOk s x r
  ok_notifying : r.status ≡ notifying → NotifyingOk s x r → RecordOk s x r

-- the rules of x's status
abbrev pub StatusOk : List ℕ → ℕ → Type 0
StatusOk s x = RecordOk s x (node_of s x)

-- a record in system, and one that joins
pub rests : (s : List ℕ) (x : ℕ) (r : Node) → RecordOk s x (in_system_node r)
rests s x r = ok_in_system refl (record { level = refl; target = refl; pending = refl; notified = refl })

pub joins : (r : Node) (status target : ℕ) → JoiningOk (joining_node r status target)
joins r status target = record { level = refl; pending = refl; notified = refl }

module _ (s : List ℕ) (x : ℕ) where
  in_system_ok : in_system_sound s x ≡ true → InSystemOk (node_of s x)
  unfolding in_system_sound
  in_system_ok e = record {
    level = eqb-true _ 0 (search parts);
    target = eqb-true _ 0 (search parts);
    pending = eqb-true _ 0 (search parts);
    notified = eqb-true _ 0 (search parts);
  }

  in_system_of : InSystemOk (node_of s x) → in_system_sound s x ≡ true
  unfolding in_system_sound
  in_system_of r = search (and_intro, eq-eqb)

  joining_ok : joining_sound s x ≡ true → JoiningOk (node_of s x)
  unfolding joining_sound
  joining_ok e = record {
    level = eqb-true _ 0 (search parts);
    pending = eqb-true _ 0 (search parts);
    notified = eqb-true _ 0 (search parts);
  }

  joining_of : JoiningOk (node_of s x) → joining_sound s x ≡ true
  unfolding joining_sound
  joining_of r = search (and_intro, eq-eqb)

  copying_ok : copying_sound s x ≡ true → CopyingOk s (node_of s x)
  unfolding copying_sound
  copying_ok e =
      record { is_node = is_node_lem s (target_of s x) (search parts); in_system = search parts; rest = joining_ok (search parts) }

  copying_of : CopyingOk s (node_of s x) → copying_sound s x ≡ true
  unfolding copying_sound
  copying_of r =
      and_intro _ _ (is_node_of s (target_of s x) r.is_node) (and_intro _ _ r.in_system (joining_of r.rest))

  waiting_ok : waiting_sound s x ≡ true → WaitingOk s (node_of s x)
  unfolding waiting_sound
  waiting_ok e =
      record { is_node = is_node_lem s (target_of s x) (search parts); attached = search parts; rest = joining_ok (search parts) }

  waiting_of : WaitingOk s (node_of s x) → waiting_sound s x ≡ true
  unfolding waiting_sound
  waiting_of r =
      and_intro _ _ (is_node_of s (target_of s x) r.is_node) (and_intro _ _ r.attached (joining_of r.rest))

  -- a test that is implied only of the nodes of a set
  implied : (a b : Bool) → (not a || b) ≡ true → a ≡ true → b ≡ true
  implied a b e q = or_right (not a) b e (ap not q)

  implied_of : (a b : Bool) → (a ≡ true → b ≡ true) → (not a || b) ≡ true
  implied_of true b h = h refl
  implied_of false b h = refl

  pending_ok : (u : ℕ) → pending_sound s x u ≡ true → has_node (pending_of s x) u ≡ true → PendingOk s x (level_of s x) (notified_of s x) u
  unfolding pending_sound
  pending_ok u e q =
      let h = implied (has_node (pending_of s x) u) _ e q in
      record {
        attached = search parts;
        suffix = leb-true _ _ (search parts);
        other = eqb-false u x (not-true _ (search parts));
        new = not-true _ (search parts);
      }

  pending_of_lem : (u : ℕ) → (has_node (pending_of s x) u ≡ true → PendingOk s x (level_of s x) (notified_of s x) u) → pending_sound s x u ≡ true
  unfolding pending_sound
  pending_of_lem u h =
      implied_of (has_node (pending_of s x) u) _
      (λ q.
      let r : PendingOk s x (level_of s x) (notified_of s x) u = h q in
      and_intro _ _ r.attached
      (and_intro _ _ (le-leb _ _ r.suffix) (and_intro _ _ (ap not (ne_eqb u x r.other)) (ap not r.new))))

  notified_ok : (u : ℕ) → notified_sound s x u ≡ true → has_node (notified_of s x) u ≡ true → NotifiedOk s x u
  unfolding notified_sound
  notified_ok u e q =
      let h = implied (has_node (notified_of s x) u) _ e q in
      record { attached = search parts; other = eqb-false u x (not-true _ (search parts)) }

  notified_of_lem : (u : ℕ) → (has_node (notified_of s x) u ≡ true → NotifiedOk s x u) → notified_sound s x u ≡ true
  unfolding notified_sound
  notified_of_lem u h =
      implied_of (has_node (notified_of s x) u) _
      (λ q.
      let r : NotifiedOk s x u = h q in
      and_intro _ _ r.attached (ap not (ne_eqb u x r.other)))

  notifying_ok : notifying_sound s x ≡ true → NotifyingOk s x (node_of s x)
  unfolding notifying_sound
  notifying_ok e = record {
    target = eqb-true _ 0 (search parts);
    level = ltb-true _ (digits s) (search parts);
    some = ltb-true 0 (pending_of s x) (search parts);
    pending_within = ltb-true (pending_of s x) _ (search parts);
    notified_within = ltb-true (notified_of s x) _ (search parts);
    pending = λ u n. pending_ok u (nodes_at (node_count s) (pending_sound s x) (search parts) u n.low n.high);
    notified = λ u n. notified_ok u (nodes_at (node_count s) (notified_sound s x) (search parts) u n.low n.high);
  }

  notifying_of : NotifyingOk s x (node_of s x) → notifying_sound s x ≡ true
  unfolding notifying_sound
  notifying_of r =
      let p : all_nodes s (pending_sound s x) ≡ true =
      nodes_of (node_count s) (pending_sound s x)
      (λ u l h. pending_of_lem u (r.pending u (record { low = l; high = h }))) in
      let q : all_nodes s (notified_sound s x) ≡ true =
      nodes_of (node_count s) (notified_sound s x)
      (λ u l h. notified_of_lem u (r.notified u (record { low = l; high = h }))) in
      search (and_intro, eq-eqb, lt-ltb) depth 9

  pub status_ok : status_sound s x ≡ true → StatusOk s x
  unfolding status_sound
  status_ok e = ⊎_elim first (λ h. ⊎_elim second (λ g. ⊎_elim third fourth (or_cases _ _ g)) (or_cases _ _ h)) (or_cases _ _ e)
    where
      first : (eqb (status_of s x) in_system && in_system_sound s x) ≡ true → StatusOk s x
      first h = ok_in_system (eqb-true _ _ (search parts)) (in_system_ok (search parts))

      second : (eqb (status_of s x) copying && copying_sound s x) ≡ true → StatusOk s x
      second h = ok_copying (eqb-true _ _ (search parts)) (copying_ok (search parts))

      third : (eqb (status_of s x) waiting && waiting_sound s x) ≡ true → StatusOk s x
      third h = ok_waiting (eqb-true _ _ (search parts)) (waiting_ok (search parts))

      fourth : (eqb (status_of s x) notifying && notifying_sound s x) ≡ true → StatusOk s x
      fourth h = ok_notifying (eqb-true _ _ (search parts)) (notifying_ok (search parts))

  pub status_of_lem : StatusOk s x → status_sound s x ≡ true
  unfolding status_sound
  status_of_lem (ok_in_system e r) =
      let h : (eqb (status_of s x) in_system && in_system_sound s x) ≡ true = and_intro _ _ (eq-eqb _ _ e) (in_system_of r) in
      search or_intro_left
  status_of_lem (ok_copying e r) =
      let h : (eqb (status_of s x) copying && copying_sound s x) ≡ true = and_intro _ _ (eq-eqb _ _ e) (copying_of r) in
      search (or_intro_left, or_intro_right)
  status_of_lem (ok_waiting e r) =
      let h : (eqb (status_of s x) waiting && waiting_sound s x) ≡ true = and_intro _ _ (eq-eqb _ _ e) (waiting_of r) in
      search (or_intro_left, or_intro_right)
  status_of_lem (ok_notifying e r) =
      let h : (eqb (status_of s x) notifying && notifying_sound s x) ≡ true = and_intro _ _ (eq-eqb _ _ e) (notifying_of r) in
      search (or_intro_left, or_intro_right)
