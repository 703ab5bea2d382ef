-- Founding and joining: document 01, "The join, step by step"; what they count: document 02, ticket 3; withdrawing: ticket 5.
use Rattle.std.specs.Prelude.{ℕ, suc, ◌+◌, ◌-◌, Bool, cond, not, ◌&&◌, ◌||◌, List, get_or, set, replicate, leb, ltb, eqb}
use Rattle.model.specs.Loops.{all_below, first_below, each_below}
use Rattle.model.specs.Ids.{digit_of}
use Rattle.model.specs.Memory.{state_length, tables_length, digits, depth, node_count, zeroed, Node, Memory, node_of, id_of, status_of, level_of, target_of}
use Rattle.model.specs.Memory.{pending_of, notified_of, notices_of, with_node, in_system, copying, waiting, notifying, is_in_system, is_joining}
use Rattle.model.specs.Memory.{has_node, add_node, remove_node, table_of, with_table}
use Rattle.model.specs.Tables.{entry_size, first_of, own_table}
use Rattle.model.specs.Nodes.{suffix_of}
use Rattle.model.specs.Learning.{learn, learn_table}

-- ---- the records that a step gives a node; r is its record before

-- a new node, in system
abbrev pub new_node : ℕ → Node
new_node id =
    record { id = id; status = in_system; level = 0; target = 0; pending = 0; notified = 0; requests = 0; notices = 0 }

-- a node in system; its counts stay
abbrev pub in_system_node : Node → Node
in_system_node r =
    record {
      id = r.id;
      status = in_system;
      level = 0;
      target = 0;
      pending = 0;
      notified = 0;
      requests = r.requests;
      notices = r.notices;
    }

-- one that copies or waits, by its status and target: it has sent one request more, to its target
abbrev pub joining_node : Node → ℕ → ℕ → Node
joining_node r status target =
    record {
      id = r.id;
      status = status;
      level = 0;
      target = target;
      pending = 0;
      notified = 0;
      requests = r.requests + 1;
      notices = r.notices;
    }

-- one that notifies, with so many answered notices
abbrev pub notifying_node : Node → ℕ → ℕ → ℕ → ℕ → Node
notifying_node r level pending notified notices =
    record {
      id = r.id;
      status = notifying;
      level = level;
      target = 0;
      pending = pending;
      notified = notified;
      requests = r.requests;
      notices = notices;
    }

-- a notifying node that has nobody left to notify is in system within the same step (the paper's "settles"); the rest of its record is cleared but
-- for its counts
unfoldable pub settle : Node → Node
settle r = cond (eqb r.status notifying && eqb r.pending 0) (in_system_node r) r

-- the record of a number that is no node's
abbrev pub no_node : Node
no_node = record { id = 0; status = 0; level = 0; target = 0; pending = 0; notified = 0; requests = 0; notices = 0 }

-- ---- founding, beginning and withdrawing

-- the settings and the number of nodes, in words 0 to 3
abbrev pub with_settings : List ℕ → ℕ → ℕ → ℕ → ℕ → List ℕ
with_settings s b d K n = set (set (set (set s 0 b) 1 d) 2 K) 3 n

-- founding: node 1 alone, in system, in its own entries and no other. Every place of the fixed lengths is decided.
unfoldable pub founded : List ℕ → List ℕ → ℕ → ℕ → ℕ → ℕ → Memory
founded s t b d K id =
    record {
      state = with_node (with_settings (zeroed state_length s) b d K 1) 1 (new_node id);
      tables = with_table (zeroed tables_length t) 1 (own_table d id 1);
    }

-- beginning a join: the node with the next number copies, from the gateway first, to which it sends its first request, and stands in its own entries
-- and no other
unfoldable pub begun : List ℕ → List ℕ → ℕ → ℕ → Memory
begun s t id gateway =
    let x = node_count s + 1 in
    record {
      state = with_node (set s 3 x) x (joining_node (new_node id) copying gateway);
      tables = with_table t x (own_table (digits s) id x);
    }

-- withdrawing the highest-numbered node: it is no node any more, its record and its table are zero, and nothing else is new
unfoldable pub withdrawn : List ℕ → List ℕ → Memory
withdrawn s t =
    let x = node_count s in
    record { state = with_node (set s 3 (x - 1)) x no_node; tables = with_table t x (replicate 512 0) }

-- ---- requests: copy requests of copying nodes, wait requests of waiting ones, and those of notifying nodes

-- a request from x to y is outstanding: x copies or waits and y is its target, or y is in x's pending set
unfoldable pub outstanding : List ℕ → ℕ → ℕ → Bool
outstanding s x y = is_joining s x && eqb (target_of s x) y || has_node (pending_of s x) y

-- ---- a delivery: x sends to y. Tx and Ty are their tables before the step, h their common suffix.

-- the kinds of delivery, as it answers them; the paper names the four and gives no numbers
abbrev pub kind_copied : ℕ
kind_copied = 1

abbrev pub kind_sent_on : ℕ
kind_sent_on = 2

abbrev pub kind_attached : ℕ
kind_attached = 3

abbrev pub kind_notified : ℕ
kind_notified = 4

-- what a delivery does: x's record, x's table and y's table after it, and what it was, with the level if it attached
pub record Delivery : Type 0 where
  pub sender : Node
  pub sender_table : List ℕ
  pub receiver_table : List ℕ
  pub kind : ℕ
  pub level : ℕ

-- y's entry for x at level i, (i, digit i of x), is not full
abbrev pub has_room : List ℕ → List ℕ → ℕ → ℕ → Bool
has_room s Ty x i = ltb (entry_size (depth s) Ty i (digit_of (id_of s x) i)) (depth s)

-- the paper's E, y's entry for x at level h as it is before the step, is not full
abbrev pub room_at_suffix : List ℕ → List ℕ → ℕ → ℕ → Bool
room_at_suffix s Ty x y = has_room s Ty x (suffix_of s x y)

-- the first of E
abbrev pub first_at_suffix : List ℕ → List ℕ → ℕ → ℕ → ℕ
first_at_suffix s Ty x y = first_of Ty (suffix_of s x y) (digit_of (id_of s x) (suffix_of s x y))

-- a copy request: x learns y's table. If E is not full, x will wait at y. If it is full, x goes to its first node: to copy from it where
-- that is in system, and else to wait there.
unfoldable pub deliver_copying : List ℕ → ℕ → ℕ → List ℕ → List ℕ → Delivery
deliver_copying s x y Tx Ty =
    let next = first_at_suffix s Ty x y in
    record {
      sender =
          cond (room_at_suffix s Ty x y) (joining_node (node_of s x) waiting y)
          (joining_node (node_of s x) (cond (is_in_system s next) copying waiting) next);
      sender_table = learn_table s x Ty Tx;
      receiver_table = Ty;
      kind = kind_copied;
      level = 0;
    }

-- a wait request where E is full: x learns y's table, and goes on to wait at the first node of E
unfoldable pub deliver_sent_on : List ℕ → ℕ → ℕ → List ℕ → List ℕ → Delivery
deliver_sent_on s x y Tx Ty =
    record {
      sender = joining_node (node_of s x) waiting (first_at_suffix s Ty x y);
      sender_table = learn_table s x Ty Tx;
      receiver_table = Ty;
      kind = kind_sent_on;
      level = 0;
    }

-- level i has room, or lies below k
abbrev pub below_or_room : List ℕ → List ℕ → ℕ → ℕ → ℕ → Bool
below_or_room s Ty x k i = ltb i k || has_room s Ty x i

-- at every level from k to h, y's entry for x is not full
abbrev pub room_from : List ℕ → List ℕ → ℕ → ℕ → ℕ → Bool
room_from s Ty x h k = all_below (suc h) (below_or_room s Ty x k)

-- the attach level: the lowest level from which on, up to h, there is room for x at every level
unfoldable pub attach_level : List ℕ → List ℕ → ℕ → ℕ → ℕ
attach_level s Ty x h = first_below (suc h) (room_from s Ty x h)

-- u is to be notified by x: it is a node, not x itself, shares at least k digits with x, and has not been notified
abbrev pub to_notify : List ℕ → ℕ → ℕ → ℕ → ℕ → Bool
to_notify s x k notified u = not (eqb u 0) && (not (eqb u x) && (leb k (suffix_of s x u) && not (has_node notified u)))

abbrev pub gather_place : List ℕ → ℕ → ℕ → ℕ → List ℕ → ℕ → ℕ → ℕ
gather_place s x k notified T p nodes = let u = get_or T p 0 in cond (to_notify s x k notified u) (add_node nodes u) nodes

-- the set with every such node of the table T added
unfoldable pub gather : List ℕ → ℕ → ℕ → ℕ → List ℕ → ℕ → ℕ
gather s x k notified T nodes = each_below 512 (gather_place s x k notified T) nodes

-- a wait request where E is not full: x attaches at level k and notifies from now on. x learns y's table and y learns x, from level k on since
-- x notifies in s'. y counts as notified; pending are the nodes of both tables that x is to notify.
unfoldable pub deliver_attached : List ℕ → ℕ → ℕ → List ℕ → List ℕ → Delivery
deliver_attached s x y Tx Ty =
    let k = attach_level s Ty x (suffix_of s x y) in
    let notified = add_node 0 y in
    let s' = with_node s x (notifying_node (node_of s x) k 0 notified (notices_of s x)) in
    let Tx' = learn_table s' x Ty Tx in
    let Ty' = learn s' y x Ty in
    record {
      sender =
          settle
          (notifying_node (node_of s x) k (gather s x k notified Ty' (gather s x k notified Tx' 0)) notified (notices_of s x));
      sender_table = Tx';
      receiver_table = Ty';
      kind = kind_attached;
      level = k;
    }

-- a wait request to a node in system: attached or sent on
unfoldable pub deliver_waiting : List ℕ → ℕ → ℕ → List ℕ → List ℕ → Delivery
deliver_waiting s x y Tx Ty =
    cond (room_at_suffix s Ty x y) (deliver_attached s x y Tx Ty) (deliver_sent_on s x y Tx Ty)

-- a request of a notifying node, its notice: y learns x and x learns y's table. y is notified and no longer pending, the nodes of y's table that x is
-- to notify, by its attach level, become pending, and one notice more was answered.
unfoldable pub deliver_notifying : List ℕ → ℕ → ℕ → List ℕ → List ℕ → Delivery
deliver_notifying s x y Tx Ty =
    let k = level_of s x in
    let notified = add_node (notified_of s x) y in
    let Ty' = learn s y x Ty in
    record {
      sender =
          settle
          (notifying_node (node_of s x) k (gather s x k notified Ty' (remove_node (pending_of s x) y)) notified (notices_of s x + 1));
      sender_table = learn_table s x Ty' Tx;
      receiver_table = Ty';
      kind = kind_notified;
      level = 0;
    }

-- one of the three, by the status of the sender
unfoldable pub delivery : List ℕ → List ℕ → ℕ → ℕ → Delivery
delivery s t x y =
    let Tx = table_of t x in
    let Ty = table_of t y in
    cond (eqb (status_of s x) copying) (deliver_copying s x y Tx Ty)
    (cond (eqb (status_of s x) waiting) (deliver_waiting s x y Tx Ty) (deliver_notifying s x y Tx Ty))

-- the memory after it: x's record and the two tables, and nothing else, are new
unfoldable pub delivered : List ℕ → List ℕ → ℕ → ℕ → Delivery → Memory
delivered s t x y r =
    record {
      state = with_node s x r.sender;
      tables = with_table (with_table t y r.receiver_table) x r.sender_table;
    }
