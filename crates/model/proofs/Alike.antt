-- Memories alike in the fixed lengths: the same records and tables stand in them, and they are short or sound together. Assumes nothing.
use Prim.Native.Nat.{ℕ, ◌+◌, ◌*◌, ◌≤◌, ◌<◌, min}
use mathlib.Core.Path.{◌≡◌, sym, ap, ap₂, subst, subst₃, ◌∙◌}
use mathlib.Core.Logic.{inl}
use mathlib.Core.Bool.{true, ◌||◌}
use mathlib.Core.List.{List}
use native.Mathlib.Decide.{ℕ_discrete}
use native.Mathlib.Omega.{arith}
use lib.Dec.{ltb}
use lib.ListN.{length, get_or, take, length-take}
use lib.Seq.{get_or-take}
use borrow.Author.Tests.{ltb-true, lt-ltb}
use Rattle.model.specs.Ids.{valid_id}
use Rattle.model.specs.Memory.{Memory, state_length, tables_length, base, digits, depth, node_count, Node, node_of, id_of, status_of, level_of, with_node, table_of}
use Rattle.model.specs.Nodes.{suffix_of}
use Rattle.model.specs.Sound.{sound}
use Rattle.model.specs.Refusals.{memory_short}
use Rattle.model.proofs.Bools.{same_test}
use Rattle.model.proofs.Ids.{InRange}
use Rattle.model.proofs.Memory.{same_status, same_level, node_same, node_stored}
use Rattle.model.proofs.Nodes.{suffix_by}
use Rattle.model.proofs.Status.{IsNode, node_among, attached_same, in_system_same}
use Rattle.model.proofs.Sound.{Long, Sound, sound_ok, sound_of}
use Rattle.model.proofs.Later.{Later, table_later, status_later, counts_later}
use Rattle.model.proofs.ReplacingKeepsSound.{Agree, agree_node, agree_kept}
use Rattle.model.proofs.Within.{table_front}

-- the first words and bytes are the same
pub record Alike (s t s' t' : List ℕ) : Type 0 where
  pub state : take state_length s' ≡ take state_length s
  pub tables : take tables_length t' ≡ take tables_length t

-- ---- the state

front_same : (n : ℕ) (l l' : List ℕ) → take n l' ≡ take n l → (k : ℕ) → k < n → get_or l' k 0 ≡ get_or l k 0
front_same n l l' e k h =
    sym (get_or-take n l' k 0 h) ∙ ap (λ (l : List ℕ). get_or l k 0) e ∙ get_or-take n l k 0 h

module _ (s s' : List ℕ) (a : take state_length s' ≡ take state_length s) where
  pub word_same : (k : ℕ) → k < state_length → get_or s' k 0 ≡ get_or s k 0
  word_same = front_same state_length s s' a

  pub base_same : base s' ≡ base s
  base_same = word_same 0 (omega arith)

  pub digits_same : digits s' ≡ digits s
  digits_same = word_same 1 (omega arith)

  pub depth_same : depth s' ≡ depth s
  depth_same = word_same 2 (omega arith)

  pub count_same : node_count s' ≡ node_count s
  count_same = word_same 3 (omega arith)

  pub id_same : (x : ℕ) → x ≤ 64 → id_of s' x ≡ id_of s x
  id_same x h = word_same (8 * x) (omega arith)

  pub record_same : (x : ℕ) → x ≤ 64 → node_of s' x ≡ node_of s x
  record_same x h = node_same s s' x (λ k l. word_same (8 * x + k) (omega arith))

-- what learning and gathering read of a state: the numbers of digits and of slots, and of each number up to n its id, status and level
pub record AlikeTo (n : ℕ) (s s' : List ℕ) : Type 0 where
  pub digits : digits s' ≡ digits s
  pub depth : depth s' ≡ depth s
  pub ids : (u : ℕ) → u ≤ n → id_of s' u ≡ id_of s u
  pub statuses : (u : ℕ) → u ≤ n → status_of s' u ≡ status_of s u
  pub levels : (u : ℕ) → u ≤ n → level_of s' u ≡ level_of s u

pub alike_to : (s s' : List ℕ) → take state_length s' ≡ take state_length s → AlikeTo 64 s s'
alike_to s s' a = record {
  digits = digits_same s s' a;
  depth = depth_same s s' a;
  ids = id_same s s' a;
  statuses = λ u h. same_status (record_same s s' a u h);
  levels = λ u h. same_level (record_same s s' a u h);
}

pub suffix_alike : {n : ℕ} {s s' : List ℕ} → AlikeTo n s s' → (x y : ℕ) → x ≤ n → y ≤ n → suffix_of s' x y ≡ suffix_of s x y
suffix_alike {n} {s} {s'} a x y h g = suffix_by s s' x y a.digits (a.ids x h) (a.ids y g)

-- the same record stored in both
module _ {n : ℕ} {s s' : List ℕ} (a : AlikeTo n s s') (x : ℕ) (low : 1 ≤ x) (high : x ≤ n) (fits : 8 * x + 8 ≤ length s) (fits' : 8 * x + 8 ≤ length s')
    (r : Node) (id : r.id ≡ id_of s x) where
  b : Agree x s (with_node s x r)
  b = agree_node s x fits r id

  b' : Agree x s' (with_node s' x r)
  b' = agree_node s' x fits' r (id ∙ sym (a.ids x high))

  field_alike : (f : Node → ℕ) (u : ℕ) → f (node_of s' u) ≡ f (node_of s u) → f (node_of (with_node s' x r) u) ≡ f (node_of (with_node s x r) u)
  field_alike f u e = go (ℕ_discrete u x)
    where
      go : Dec (u ≡ x) → f (node_of (with_node s' x r) u) ≡ f (node_of (with_node s x r) u)
      go (yes q) =
          subst (λ (u : ℕ). f (node_of (with_node s' x r) u) ≡ f (node_of (with_node s x r) u)) (sym q)
          (ap f (node_stored s' x r fits' ∙ sym (node_stored s x r fits)))
      go (no q) = ap f (agree_kept x s' (with_node s' x r) b' u q) ∙ e ∙ sym (ap f (agree_kept x s (with_node s x r) b u q))

  pub node_alike : AlikeTo n (with_node s x r) (with_node s' x r)
  node_alike = record {
    digits = b'.words 1 (inl (omega (arith, low))) ∙ a.digits ∙ sym (b.words 1 (inl (omega (arith, low))));
    depth = b'.words 2 (inl (omega (arith, low))) ∙ a.depth ∙ sym (b.words 2 (inl (omega (arith, low))));
    ids = λ u h. field_alike (λ (r : Node). r.id) u (a.ids u h);
    statuses = λ u h. field_alike (λ (r : Node). r.status) u (a.statuses u h);
    levels = λ u h. field_alike (λ (r : Node). r.level) u (a.levels u h);
  }

-- ---- the lengths

below_same : (n : ℕ) (l l' : List ℕ) → take n l' ≡ take n l → ltb (length l') n ≡ ltb (length l) n
below_same n l l' e =
    let w : min n (length l') ≡ min n (length l) = sym (length-take n l') ∙ ap length e ∙ length-take n l in
    same_test (ltb (length l') n) (ltb (length l) n)
    (λ q. let h : length l' < n = ltb-true (length l') n q in lt-ltb (length l) n (omega arith))
    (λ q. let h : length l < n = ltb-true (length l) n q in lt-ltb (length l') n (omega arith))

pub short_same : (m m' : Memory) → Alike m.state m.tables m'.state m'.tables → memory_short m' ≡ memory_short m
short_same m m' a =
    ap₂ ◌||◌ (below_same tables_length m.tables m'.tables a.tables) (below_same state_length m.state m'.state a.state)

-- ---- memories that are long enough

pub record LongAlike (s t s' t' : List ℕ) : Type 0 where
  pub alike : Alike s t s' t'
  pub long : Long s t
  pub long' : Long s' t'

turned : {s t s' t' : List ℕ} → LongAlike s t s' t' → LongAlike s' t' s t
turned a = record {
  alike = record { state = sym a.alike.state; tables = sym a.alike.tables };
  long = a.long';
  long' = a.long;
}

module _ (s t s' t' : List ℕ) (a : LongAlike s t s' t') where
  pub table_same : (x : ℕ) → 1 ≤ x → x ≤ 64 → table_of t' x ≡ table_of t x
  table_same x low high =
      table_front x low high t' a.long'.tables
      ∙ ap (λ (t : List ℕ). table_of t x) a.alike.tables
      ∙ sym (table_front x low high t a.long.tables)

  w : take state_length s' ≡ take state_length s
  w = a.alike.state

  count : node_count s' ≡ node_count s
  count = count_same s s' w

  module _ (S : Sound s t) where
    few : (x : ℕ) → IsNode s x → x ≤ 64
    few x n = omega (arith, n.high, S.few)

    alike_later : Later s s'
    alike_later = record {
      base = base_same s s' w;
      digits = digits_same s s' w;
      depth = depth_same s s' w;
      ids = λ x n n'. id_same s s' w x (few x n);
      stays = λ x n e. node_among s s' (omega (arith, count)) x n;
      attached = λ x n e. attached_same s s' x (record_same s s' w x (few x n)) ∙ e;
      in_system = λ x n e. in_system_same s s' x (record_same s s' w x (few x n)) ∙ e;
    }

    back : (x : ℕ) → IsNode s' x → IsNode s x
    back = node_among s' s (omega (arith, count))

    pub still_sound : Sound s' t'
    still_sound = record {
      long = a.long';
      settings = subst₃ InRange (sym (base_same s s' w)) (sym (digits_same s s' w)) (sym (depth_same s s' w)) S.settings;
      some = omega (arith, S.some, count);
      few = omega (arith, S.few, count);
      ids = λ x n.
          subst₃ (λ (b d id : ℕ). valid_id b d id ≡ true) (sym (base_same s s' w)) (sym (digits_same s s' w))
          (sym (id_same s s' w x (few x (back x n)))) (S.ids x (back x n));
      new = λ x y n low less e.
          S.new x y (back x n) low less
          (sym (id_same s s' w y (omega (arith, few x (back x n)))) ∙ e ∙ id_same s s' w x (few x (back x n)));
      tables = λ x n.
          rw (table_same x n.low (few x (back x n)))
          (table_later s s' alike_later x (table_of t x) (back x n) n (S.tables x (back x n)));
      statuses = λ x n.
          status_later s s' alike_later x (back x n) n (record_same s s' w x (few x (back x n))) (S.statuses x (back x n));
      counts = λ x n.
          counts_later s s' alike_later x (back x n) n (record_same s s' w x (few x (back x n))) (S.statuses x (back x n)) (S.counts x (back x n));
      head = λ p low high. word_same s s' w p (omega arith) ∙ S.head p low high;
      rest = λ p low high. word_same s s' w p high ∙ S.rest p (omega (arith, low, count)) high;
      tables_rest = λ p low high. front_same tables_length t t' a.alike.tables p high ∙ S.tables_rest p (omega (arith, low, count)) high;
    }

-- they are sound together
pub sound_same : (s t s' t' : List ℕ) → LongAlike s t s' t' → sound s' t' ≡ sound s t
sound_same s t s' t' a =
    same_test (sound s' t') (sound s t)
    (λ e. sound_of s t (still_sound s' t' s t (turned a) (sound_ok s' t' a.long' e)))
    (λ e. sound_of s' t' (still_sound s t s' t' a (sound_ok s t a.long e)))
