-- What a call that is taken does to the memory lies within the fixed lengths. Assumes nothing.
use Prim.Native.Nat.{ℕ, ◌+◌, ◌*◌, ◌≤◌}
use mathlib.Core.Path.{◌≡◌, refl, ◌∙◌}
use mathlib.Core.Bool.{Bool, true, false, cond}
use mathlib.Core.List.{List}
use native.Mathlib.Omega.{arith}
use lib.ListN.{length, set}
use Rattle.model.specs.Memory.{Node, depth, state_length, tables_length, zeroed, with_node, with_table}
use Rattle.model.specs.Tables.{append, own_table}
use Rattle.model.specs.Join.{Delivery, founded, delivery}
use Rattle.model.specs.Fill.{filling, with_records}
use Rattle.model.specs.Image.{has_joins, im_version, im_base, im_digits, im_depth, im_nodes, im_id, im_records, rec_node, rec_level, rec_digit, rec_neighbor}
use Rattle.model.specs.Image.{joins_listed, load_id, loaded_ids, loaded_joins, load_record, loaded_tables, loaded_state, loaded}
use Rattle.model.proofs.Tables.{append_length}
use Rattle.model.proofs.OwnTable.{own_long}
use Rattle.model.proofs.Sound.{Sound}
use Rattle.model.proofs.LoadingIsSound.{GoodImage}
use Rattle.model.proofs.Filling.{Steady}
use Rattle.model.proofs.FillingAlike.{filling_within}
use Rattle.model.proofs.JoinsLoaded.{within_joins}
use Rattle.model.proofs.Sender.{CanDeliver}
use Rattle.model.proofs.Within.{Within, within_then, within_each, within_set, within_zeroed, then_set, within_node, within_table}
use Rattle.model.proofs.TablesOnlyGrow.{tables_long}

-- f is done to the state and g to the table memory, both within the fixed lengths
pub record Works (f g : List ℕ → List ℕ) : Type 0 where
  pub state : Within state_length f
  pub tables : Within tables_length g

-- ---- founding and reading

zeroed_settings : (b d K n : ℕ) → Within state_length (λ s. set (set (set (set (zeroed state_length s) 0 b) 1 d) 2 K) 3 n)
zeroed_settings b d K n =
    then_set 3 n (omega arith) (then_set 2 K (omega arith) (then_set 1 d (omega arith) (then_set 0 b (omega arith) (within_zeroed state_length))))

pub found_works : (s t : List ℕ) (b d K id : ℕ) → d ≤ 8 → Works (λ s. (founded s t b d K id).state) (λ t. (founded s t b d K id).tables)
unfolding founded
found_works s t b d K id h = record {
  state = within_then state_length _ _ (zeroed_settings b d K 1) (within_node 1 _ (omega arith));
  tables = within_then tables_length _ _ (within_zeroed tables_length) (within_table 1 (omega arith) (omega arith) (λ T. own_table d id 1) (λ T e. own_long d id 1 h));
}

-- the words of an image, and of version 2 its joins
module _ (im : List ℕ) (R : GoodImage im) where
  ids_within : Within state_length (λ s. loaded_ids s im)
  unfolding loaded_ids
  ids_within =
      within_then state_length _ _ (zeroed_settings (im_base im) (im_digits im) (im_depth im) (im_nodes im))
      (within_each state_length (im_nodes im) (load_id im) (λ k l. within_set state_length (8 * (k + 1)) (im_id im (k + 1)) (omega (arith, R.few))))

  words_within : (b : Bool) → (b ≡ true → joins_listed im ≡ true)
      → Within state_length (λ s. cond b (loaded_joins im (loaded_ids s im)) (loaded_ids s im))
  words_within true listed = within_then state_length _ _ ids_within (within_joins im (listed refl) R.few)
  words_within false listed = ids_within

  tables_within : Within tables_length (λ t. loaded_tables t im)
  unfolding loaded_tables load_record
  tables_within =
      within_then tables_length _ _ (within_zeroed tables_length)
      (within_each tables_length (im_records im) (load_record im) (λ r l.
      let n = R.owners r l in
      within_table (rec_node im r) n.0 (omega (arith, n.1, R.few))
      (λ T. append (im_depth im) T (rec_level im r) (rec_digit im r) (rec_neighbor im r))
      (λ T e. append_length (im_depth im) T (rec_level im r) (rec_digit im r) (rec_neighbor im r) ∙ e)))

  pub read_works : (s t : List ℕ) → (has_joins (im_version im) ≡ true → joins_listed im ≡ true)
      → Works (λ s. (loaded s t im).state) (λ t. (loaded s t im).tables)
  unfolding loaded loaded_state
  read_works s t listed = record { state = words_within (has_joins (im_version im)) listed; tables = tables_within }

-- ---- beginning and withdrawing: a record and a table for node x, and the number of nodes

pub node_works : (n x : ℕ) (r : Node) (T : List ℕ) → 1 ≤ x → x ≤ 64 → length T ≡ 512
    → Works (λ s. with_node (set s 3 n) x r) (λ t. with_table t x T)
node_works n x r T low high e = record {
  state = within_then state_length _ _ (within_set state_length 3 n (omega arith)) (within_node x r high);
  tables = within_table x low high (λ U. T) (λ U q. e);
}

-- ---- a delivery

module _ (s t : List ℕ) (S : Sound s t) (x y : ℕ) (c : CanDeliver s x y) where
  abbrev d : Delivery
  d = delivery s t x y

  pub deliver_works : Works (λ s₁. with_node s₁ x (delivery s t x y).sender)
      (λ t₁. with_table (with_table t₁ y (delivery s t x y).receiver_table) x (delivery s t x y).sender_table)
  deliver_works = record {
    state = within_node x d.sender (omega (arith, c.sender.high, S.few));
    tables = within_then tables_length _ _
        (within_table y c.receiver.low (omega (arith, c.receiver.high, S.few)) (λ U. d.receiver_table) (λ U q. (tables_long s t S x y c).1))
        (within_table x c.sender.low (omega (arith, c.sender.high, S.few)) (λ U. d.sender_table) (λ U q. (tables_long s t S x y c).0));
  }

-- ---- a filling: the words stay, and the listed records are appended

pub fill_works : (s t : List ℕ) → Steady s t → Works (λ s. s) (with_records (depth s) (filling s t).list)
fill_works s t w = record { state = record { apart = λ a b e. refl; long = λ a e. e }; tables = filling_within s t w }
