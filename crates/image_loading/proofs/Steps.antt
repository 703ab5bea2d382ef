-- Loading step by step: each record can be appended to its entry, and appending it is the book's step. Assumes nothing.
use Prim.Native.Nat.{ℕ, ◌+◌, ◌*◌, ◌<◌}
use mathlib.Core.Path.{◌≡◌, sym, ap, ap₂, ◌∙◌}
use mathlib.Core.Bool.{Bool, true, false, cond}
use mathlib.Core.List.{List}
use native.Mathlib.Nat.{le_of_eq}
use native.Mathlib.Omega.{arith}
use lib.ListN.{length, set, replicate, length-replicate}
use Rattle.model.specs.Loops.{each_below}
use Rattle.model.specs.Memory.{zeroed, table_of, with_table, state_length, tables_length}
use Rattle.model.specs.Tables.{entry_size, append}
use Rattle.model.specs.Join.{with_settings}
use Rattle.model.specs.Image.{has_joins, im_version, im_base, im_digits, im_depth, im_nodes, im_id, im_records, load_id, loaded_ids, loaded_joins, load_record, loaded_tables, loaded, loaded_state}
use Rattle.model.proofs.Memory.{zeroed_length}
use Rattle.model.proofs.LoadingIsSound.{GoodImage, Words, words_loaded, record_ok, record_room}
use Rattle.image_fields.specs.declared.header.Header.{Header}
use Rattle.image_fields.specs.declared.record.Record.{Record}
use Rattle.image_fields.specs.Parts.{Headed, RecordOf, Small}
use Rattle.state.specs.Lent.{memory}
use Rattle.tables.specs.Places.{Appends}
use Rattle.image_loading.specs.Loads.{Fills}

pub id_step : (im s : List ℕ) (k v : ℕ) → v ≡ im_id im (k + 1) → set s (8 * (k + 1)) v ≡ load_id im k s
id_step im s k v e = ap (set s (8 * (k + 1))) e

-- ---- one record

-- the step of record r
pub record_step : (im t t' : List ℕ) (h : Header) (r : ℕ) (q : Record) → Headed im h → RecordOf im r q
    → t' ≡ with_table t q.node (append h.depth (table_of t q.node) q.level q.digit q.neighbor) → t' ≡ load_record im r t
unfolding load_record
record_step im t t' h r q k o e = rw (← o.node, ← o.level, ← o.digit, ← o.neighbor, ← k.depth) e

-- ---- what a record asks, by the rules that reading judged

module _ (im t₁ : List ℕ) (F : Fills t₁ im) where
  R : GoodImage im
  R = F.good

  -- the words of a state that the image gives
  words : Words im (each_below (im_nodes im) (load_id im) (with_settings (zeroed state_length (replicate state_length 0)) (im_base im) (im_digits im) (im_depth im) (im_nodes im)))
  words = words_loaded im (replicate state_length 0) R (le_of_eq (sym (length-replicate {A = ℕ} state_length 0)))

  pub appends : (r : ℕ) (h : Header) (t : List ℕ) (q : Record) → Headed im h → r < h.records → length t ≡ length t₁
      → t ≡ each_below r (load_record im) t₁ → RecordOf im r q → Small q → Appends t h.depth q.node q.level q.digit q.neighbor
  appends r h t q k below l e o b =
      let ok = record_ok im _ R words r (omega (arith, k.records, below)) in
      record {
        long = omega (arith, l, ap length F.clear, zeroed_length tables_length F.before F.long, F.long);
        first = omega (arith, o.node, ok.owner.low);
        last = omega (arith, o.node, ok.owner.high, words.settings.count, R.few);
        level = omega (arith, o.level, ok.level, words.settings.digits, R.range.digits_most);
        digit = omega (arith, o.digit, ok.digit, words.settings.base, R.range.base_most);
        deep = omega (arith, k.depth, R.range.depth_most);
        room = room;
        byte = b.neighbor;
      }
    where
      room : entry_size h.depth (table_of t q.node) q.level q.digit < h.depth
      room =
          rw (e, F.clear, k.depth, o.node, o.level, o.digit, ← words.settings.depth)
          (record_room im _ R words F.before F.long r (omega (arith, k.records, below)))

-- ---- the words

-- the settings and the ids
pub nodes_loaded : (s im s₁ s₂ s₃ : List ℕ) (h : Header) → Headed im h → s₁ ≡ zeroed state_length s
    → s₂ ≡ with_settings s₁ h.base h.digits h.depth h.nodes → s₃ ≡ each_below (im_nodes im) (load_id im) s₂ → s₃ ≡ loaded_ids s im
unfolding loaded_ids
nodes_loaded s im s₁ s₂ s₃ h o e₁ e₂ e₃ =
    e₃ ∙ ap (each_below (im_nodes im) (load_id im)) (e₂ ∙ ap (λ (s : List ℕ). with_settings s h.base h.digits h.depth h.nodes) e₁ ∙ head)
  where
    head : with_settings (zeroed state_length s) h.base h.digits h.depth h.nodes ≡ with_settings (zeroed state_length s) (im_base im) (im_digits im) (im_depth im) (im_nodes im)
    head =
        ap₂ (λ (b d : ℕ). with_settings (zeroed state_length s) b d h.depth h.nodes) o.base o.digits
        ∙ ap₂ (λ (K n : ℕ). with_settings (zeroed state_length s) (im_base im) (im_digits im) K n) o.depth o.nodes

-- then by the version
module _ (s im s₁ : List ℕ) (b : Bool) (e : s₁ ≡ loaded_ids s im) (v : b ≡ has_joins (im_version im)) where
  words_by : (b : Bool) → b ≡ has_joins (im_version im) → cond b (loaded_joins im (loaded_ids s im)) (loaded_ids s im) ≡ loaded_state s im
  unfolding loaded_state
  words_by b v = ap (λ (b : Bool). cond b (loaded_joins im (loaded_ids s im)) (loaded_ids s im)) v

  pub words_plain : b ≡ false → s₁ ≡ loaded_state s im
  words_plain w = e ∙ words_by false (sym w ∙ v)

  pub words_joined : b ≡ true → (s₂ : List ℕ) → s₂ ≡ loaded_joins im s₁ → s₂ ≡ loaded_state s im
  words_joined w s₂ f = f ∙ ap (loaded_joins im) e ∙ words_by true (sym w ∙ v)

-- ---- the whole

pub loaded_is : (s t im s₁ t₁ t₂ : List ℕ) → s₁ ≡ loaded_state s im → t₁ ≡ zeroed tables_length t
    → t₂ ≡ each_below (im_records im) (load_record im) t₁ → memory s₁ t₂ ≡ loaded s t im
unfolding loaded loaded_state loaded_tables
loaded_is s t im s₁ t₁ t₂ e f₁ f₂ = ap₂ memory e (f₂ ∙ ap (each_below (im_records im) (load_record im)) f₁)
