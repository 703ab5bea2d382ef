-- The settings, ids and records of an image that reading takes make a sound state. The entries of each table are the neighbours of the entry's
-- records, in their order. Assumes nothing.
use Prim.Native.Nat.{ℕ, suc, ◌+◌, ◌*◌, ◌≤◌, ◌<◌}
use mathlib.Core.Path.{◌≡◌, refl, sym, ap, ap₂, subst, subst₂, subst₃, ◌∙◌}
use mathlib.Core.Logic.{◌≢◌, inr}
use mathlib.Core.Bool.{Bool, true, false, cond, not, ◌&&◌, ◌||◌}
use mathlib.Core.List.{List, [], ◌∷◌, ◌++◌, append-nil}
use native.Mathlib.Nat.{le_refl}
use native.Mathlib.Decide.{ℕ_discrete, dec_lt}
use native.Mathlib.Omega.{arith}
use lib.Dec.{eqb}
use lib.ListN.{length, get_or, length-set}
use lib.Seq.{get_or-set_same, get_or-set_other}
use borrow.Author.Tests.{eqb-true, eq-eqb}
use Rattle.model.specs.Loops.{any_below, each_below, join_below, count_below}
use Rattle.model.specs.Ids.{valid_id, digit_of}
use Rattle.model.specs.Memory.{state_length, tables_length, base, digits, depth, node_count, node_of, id_of, status_of, zeroed, table_start, table_of, with_table, is_attached}
use Rattle.model.specs.Tables.{qualified, slot_place, slot_at, first_of, entry_size, entry, holds, append}
use Rattle.model.specs.Nodes.{qualifies}
use Rattle.model.specs.Join.{with_settings}
use Rattle.model.specs.Image.{im_base, im_digits, im_depth, im_nodes, im_id, im_records, rec_node, rec_level, rec_digit, rec_neighbor, same_entry, rec_ordered, rec_allowed, same_neighbor, rec_own, rec_owner_first, rec_of_own, own_has_record, own_have_records, load_id, load_record, loaded_ids, loaded_tables}
use Rattle.model.proofs.Bools.{back_false, or_right, and_left, and_right, and_intro, or_intro_right, not_both}
use Rattle.model.proofs.Loops.{all_at, any_at, any_false, any_found, count_some, each_leads}
use Rattle.model.proofs.Ids.{InRange, valid_digit}
use Rattle.model.proofs.Memory.{zeroed_length, zeroed_within, table_length, table_at, stored_length, stored_outside, stored_same, stored_other}
use Rattle.model.proofs.FoundingIsSound.{Settings, settings_length, settings_stored, settings_outside}
use Rattle.model.proofs.Status.{IsNode, ok_in_system}
use Rattle.model.proofs.NodeCounts.{Fresh, fresh_counts}
use Rattle.model.proofs.Sound.{Long, Sound}
use Rattle.model.proofs.Tables.{entry_length, entry_at, entry_none, holds_none, gap_rest, append_length, append_entry, append_apart}
use Rattle.model.proofs.LearningKeepsRules.{Entries, Addable, gap_free, append_entries}
use Rattle.model.proofs.RecordRules.{in_order, is_allowed}
use Rattle.model.proofs.Picked.{picked, Origin, picked_length, picked_origin, picked_first}

-- what the refusals of reading leave
pub record GoodImage (im : List ℕ) : Type 0 where
  pub range : InRange (im_base im) (im_digits im) (im_depth im)
  pub some : 1 ≤ im_nodes im
  pub few : im_nodes im ≤ 64
  pub ids : (x : ℕ) → 1 ≤ x → x ≤ im_nodes im → valid_id (im_base im) (im_digits im) (im_id im x) ≡ true
  pub new : (x y : ℕ) → x ≤ im_nodes im → 1 ≤ y → y < x → im_id im y ≢ im_id im x
  pub owners : (r : ℕ) → r < im_records im → (1 ≤ rec_node im r) × (rec_node im r ≤ im_nodes im)
  pub neighbors : (r : ℕ) → r < im_records im → (1 ≤ rec_neighbor im r) × (rec_neighbor im r ≤ im_nodes im)
  pub ordered : (r : ℕ) → r < im_records im → rec_ordered im r ≡ true
  pub allowed : (r : ℕ) → r < im_records im → rec_allowed im r ≡ true
  pub owner_first : (r : ℕ) → r < im_records im → rec_owner_first im r ≡ true
  pub own : (x : ℕ) → 1 ≤ x → x ≤ im_nodes im → own_have_records im x ≡ true

-- ---- the words

-- the ids of the nodes up to m are stored, and no other word has changed
record Ids (im s₀ : List ℕ) (m : ℕ) (s : List ℕ) : Type 0 where
  long : length s ≡ length s₀
  at : (x : ℕ) → 1 ≤ x → x ≤ m → id_of s x ≡ im_id im x
  else : (p : ℕ) → ((x : ℕ) → 1 ≤ x → x ≤ m → p ≢ 8 * x) → get_or s p 0 ≡ get_or s₀ p 0

module _ (im s₀ : List ℕ) (few : im_nodes im ≤ 64) (fits : state_length ≤ length s₀) where
  ids_loaded : Ids im s₀ (im_nodes im) (each_below (im_nodes im) (load_id im) s₀)
  ids_loaded =
      each_leads (Ids im s₀) (im_nodes im) (load_id im) s₀ (record { long = refl; at = λ x l h. absurd (omega arith); else = λ p f. refl })
      (λ k s l o. record {
        long = length-set s (8 * (k + 1)) (im_id im (k + 1)) ∙ o.long;
        at = λ x a h. at k s l o x a (ℕ_discrete x (k + 1)) h;
        else = λ p f. get_or-set_other s (8 * (k + 1)) p (im_id im (k + 1)) 0 (f (k + 1) (omega arith) (omega arith)) ∙ o.else p (λ x a h. f x a (omega (arith, h)));
      })
    where
      at : (k : ℕ) (s : List ℕ) → k < im_nodes im → Ids im s₀ k s → (x : ℕ) → 1 ≤ x → Dec (x ≡ k + 1) → x ≤ suc k → id_of (load_id im k s) x ≡ im_id im x
      at k s l o x a (yes e) h =
          subst (λ (x : ℕ). id_of (load_id im k s) x ≡ im_id im x) (sym e)
          (get_or-set_same s (8 * (k + 1)) (im_id im (k + 1)) 0 (omega (arith, o.long)))
      at k s l o x a (no e) h =
          get_or-set_other s (8 * (k + 1)) (8 * x) (im_id im (k + 1)) 0 (λ q. e (omega arith)) ∙ o.at x a (omega arith)

-- the words of a state that an image gives
pub record Words (im s : List ℕ) : Type 0 where
  pub long : state_length ≤ length s
  pub settings : Settings s (im_base im) (im_digits im) (im_depth im) (im_nodes im)
  pub ids : (x : ℕ) → IsNode s x → id_of s x ≡ im_id im x
  pub zero : (p : ℕ) → 4 ≤ p → p < state_length → ((x : ℕ) → IsNode s x → p ≢ 8 * x) → get_or s p 0 ≡ 0

module _ (im s : List ℕ) (R : GoodImage im) (long : state_length ≤ length s) where
  s₀ : List ℕ
  s₀ = with_settings (zeroed state_length s) (im_base im) (im_digits im) (im_depth im) (im_nodes im)

  long₀ : state_length ≤ length s₀
  unfolding s₀
  long₀ =
      omega (
        arith,
        settings_length (zeroed state_length s) (im_base im) (im_digits im) (im_depth im) (im_nodes im),
        zeroed_length state_length s long,
        long,
      )

  s₁ : List ℕ
  s₁ = each_below (im_nodes im) (load_id im) s₀

  stored : Ids im s₀ (im_nodes im) s₁
  unfolding s₁
  stored = ids_loaded im s₀ R.few long₀

  -- a word below 8 is that of the settings
  low : (p : ℕ) → p < 8 → get_or s₁ p 0 ≡ get_or s₀ p 0
  low p h = stored.else p (λ x a b. omega arith)

  settings₁ : Settings s₁ (im_base im) (im_digits im) (im_depth im) (im_nodes im)
  unfolding s₀
  settings₁ =
      let r = settings_stored (im_base im) (im_digits im) (im_depth im) (im_nodes im) (zeroed state_length s) (omega (arith, zeroed_length state_length s long, long)) in
      record {
        base = low 0 (omega arith) ∙ r.base;
        digits = low 1 (omega arith) ∙ r.digits;
        depth = low 2 (omega arith) ∙ r.depth;
        count = low 3 (omega arith) ∙ r.count;
      }

  pub words_loaded : Words im (each_below (im_nodes im) (load_id im) (with_settings (zeroed state_length s) (im_base im) (im_digits im) (im_depth im) (im_nodes im)))
  unfolding s₁ s₀
  words_loaded = record {
    long = omega (arith, stored.long, long₀);
    settings = settings₁;
    ids = λ x n. stored.at x n.low (omega (arith, settings₁.count, n.high));
    zero =
        λ p l h f.
        stored.else p (λ x a b. f x (record { low = a; high = omega (arith, settings₁.count, b) }))
        ∙ settings_outside (zeroed state_length s) (im_base im) (im_digits im) (im_depth im) (im_nodes im) p l
        ∙ zeroed_within state_length s long p h;
  }

-- ---- the tables

-- record q is of entry (i, j) of node x
abbrev pub in_entry : List ℕ → ℕ → ℕ → ℕ → ℕ → Bool
in_entry im x i j q = eqb (rec_node im q) x && (eqb (rec_level im q) i && eqb (rec_digit im q) j)

-- the first r records are in the tables, each behind the earlier ones of its entry
pub record Loaded (im s : List ℕ) (r : ℕ) (t : List ℕ) : Type 0 where
  pub long : tables_length ≤ length t
  pub entries : (x : ℕ) → IsNode s x → Entries s x (table_of t x)
  pub lists : (x i j : ℕ) → IsNode s x → i < digits s → j < base s
      → entry (depth s) (table_of t x) i j ≡ picked r (in_entry im x i j) (rec_neighbor im)
  pub rest : (p : ℕ) → 512 * node_count s ≤ p → p < tables_length → get_or t p 0 ≡ 0

module _ (im s : List ℕ) (R : GoodImage im) (W : Words im s) where
  range : InRange (base s) (digits s) (depth s)
  range = subst₃ InRange (sym W.settings.base) (sym W.settings.digits) (sym W.settings.depth) R.range

  few : node_count s ≤ 64
  few = omega (arith, W.settings.count, R.few)

  fits : (t : List ℕ) → tables_length ≤ length t → (x : ℕ) → IsNode s x → table_start x + 512 ≤ length t
  fits t l x n =
      let lo : 1 ≤ x = n.low in
      let hi : x ≤ node_count s = n.high in
      omega (arith, few)

  -- an entry's slots lie in its table
  slots_fit : (T : List ℕ) → length T ≡ 512 → (i j : ℕ) → i < digits s → j < base s → slot_place i j (depth s) ≤ length T
  slots_fit T e i j hi hj = omega (arith, range.digits_most, range.base_most, range.depth_most)

  module _ (t : List ℕ) (long : tables_length ≤ length t) where
    z : List ℕ
    z = zeroed tables_length t

    long_z : tables_length ≤ length z
    unfolding z
    long_z = omega (arith, zeroed_length tables_length t long)

    empty : (x : ℕ) → IsNode s x → (p : ℕ) → p < 512 → get_or (table_of z x) p 0 ≡ 0
    unfolding z
    empty x n p h =
        let lo : 1 ≤ x = n.low in
        let hi : x ≤ node_count s = n.high in
        table_at (zeroed tables_length t) x (fits (zeroed tables_length t) long_z x n) p h
        ∙ zeroed_within tables_length t long (table_start x + p) (omega (arith, few))

    nothing : Loaded im s 0 z
    unfolding join_below z
    nothing = record {
      long = long_z;
      entries =
          λ x n. record {
            slots = λ i j k hi hj hk nz. absurd (nz (empty x n (slot_place i j k) (omega (arith, range.digits_most, range.base_most, range.depth_most))));
            unused = λ p h e. empty x n p h;
          };
      lists = λ x i j n hi hj. no_entry x i j n (empty x n (slot_place i j 0) (omega (arith, range.digits_most, range.base_most)));
      rest = rest₀;
    }
      where
        no_entry : (x i j : ℕ) → IsNode s x → slot_at (table_of z x) i j 0 ≡ 0 → entry (depth s) (table_of z x) i j ≡ []
        no_entry x i j n e = entry_none (depth s) (table_of z x) i j e

        rest₀ : (p : ℕ) → 512 * node_count s ≤ p → p < tables_length → get_or z p 0 ≡ 0
        rest₀ p l h = zeroed_within tables_length t long p h

  -- every node is in system
  all_in_system : (x : ℕ) → IsNode s x → status_of s x ≡ 0
  all_in_system x n =
      let hi : x ≤ node_count s = n.high in
      W.zero (8 * x + 1) (omega (arith, n.low)) (omega (arith, few)) (λ y m. omega arith)

  all_attached : (x : ℕ) → IsNode s x → is_attached s x ≡ true
  all_attached x n = ap (λ (v : ℕ). eqb v 0 || eqb v 3) (all_in_system x n)

  -- what the image's rules say of record r, in terms of the state
  pub record RecordFits (r : ℕ) : Type 0 where
    pub owner : IsNode s (rec_node im r)
    pub neighbor : IsNode s (rec_neighbor im r)
    pub level : rec_level im r < digits s
    pub digit : rec_digit im r < base s
    pub qual : qualifies s (rec_node im r) (rec_level im r) (rec_digit im r) (rec_neighbor im r) ≡ true
    pub new : (q : ℕ) → q < r → in_entry im (rec_node im r) (rec_level im r) (rec_digit im r) q ≡ true → rec_neighbor im q ≢ rec_neighbor im r
    pub room : count_below r (in_entry im (rec_node im r) (rec_level im r) (rec_digit im r)) < depth s

  node_of_lem : {x : ℕ} → 1 ≤ x → x ≤ im_nodes im → IsNode s x
  node_of_lem a b = record { low = a; high = omega (arith, W.settings.count) }

  pub record_ok : (r : ℕ) → r < im_records im → RecordFits r
  unfolding same_entry
  record_ok r h =
      let o = in_order im r (R.ordered r h) in
      let a = is_allowed im r (R.allowed r h) in
      let nx : IsNode s (rec_node im r) = node_of_lem (R.owners r h).0 (R.owners r h).1 in
      let nu : IsNode s (rec_neighbor im r) = node_of_lem (R.neighbors r h).0 (R.neighbors r h).1 in
      record {
        owner = nx;
        neighbor = nu;
        level = omega (arith, W.settings.digits, o.level);
        digit = omega (arith, W.settings.base, o.digit);
        qual =
            ap₂ (λ (a b : ℕ). qualified a b (rec_level im r) (rec_digit im r)) (W.ids (rec_node im r) nx) (W.ids (rec_neighbor im r) nu)
            ∙ a.qual;
        new = λ q l e w. not_both (same_neighbor im r q) (and_intro _ _ e (eq-eqb _ _ w)) (any_at r (same_neighbor im r) a.new q l);
        room = omega (arith, W.settings.depth, a.room);
      }

  -- one more record
  module _ (r : ℕ) (h : r < im_records im) (t : List ℕ) (L : Loaded im s r t) where
    abbrev x : ℕ
    x = rec_node im r

    abbrev i : ℕ
    i = rec_level im r

    abbrev j : ℕ
    j = rec_digit im r

    abbrev u : ℕ
    u = rec_neighbor im r

    abbrev T : List ℕ
    T = table_of t (rec_node im r)

    ok : RecordFits r
    ok = record_ok r h

    T_long : length T ≡ 512
    T_long = table_length t x (fits t L.long x ok.owner)

    K_fits : slot_place i j (depth s) ≤ length T
    K_fits = slots_fit T T_long i j ok.level ok.digit

    size : entry_size (depth s) T i j ≡ count_below r (in_entry im x i j)
    size =
        sym (entry_length (depth s) T i j K_fits)
        ∙ ap length (L.lists x i j ok.owner ok.level ok.digit)
        ∙ picked_length (in_entry im x i j) (rec_neighbor im) r

    room : entry_size (depth s) T i j < depth s
    room = omega (arith, size, ok.room)

    -- a slot of the entry holds the neighbour of an earlier record of the entry
    earlier : (k : ℕ) → k < entry_size (depth s) T i j → Origin r (in_entry im x i j) (rec_neighbor im) (slot_at T i j k)
    earlier k l =
        let e : entry (depth s) T i j ≡ picked r (in_entry im x i j) (rec_neighbor im) = L.lists x i j ok.owner ok.level ok.digit in
        let w : get_or (picked r (in_entry im x i j) (rec_neighbor im)) k 0 ≡ slot_at T i j k =
        ap (λ (l : List ℕ). get_or l k 0) (sym e) ∙ entry_at (depth s) T i j K_fits k l in
        subst (Origin r (in_entry im x i j) (rec_neighbor im)) w
        (picked_origin (in_entry im x i j) (rec_neighbor im) r k (omega (arith, size, picked_length (in_entry im x i j) (rec_neighbor im) r)))

    absent : holds (depth s) T i j u ≡ false
    absent = holds_none (depth s) T i j u (λ k l e. go k l e (dec_lt k (entry_size (depth s) T i j)))
      where
        go : (k : ℕ) → k < depth s → slot_at T i j k ≡ u → Dec (k < entry_size (depth s) T i j) → ⊥
        go k l e (yes q) = let o = earlier k q in ok.new o.index o.within o.holds (o.is ∙ e)
        go k l e (no g) =
            let zero = gap_rest (depth s) T i j (gap_free s x T (L.entries x ok.owner) i j ok.level ok.digit) k (omega arith) l in
            omega (arith, ok.neighbor.low, sym e ∙ zero)

    addable : Addable s x T i j u
    addable = record {
      level = ok.level;
      digit = ok.digit;
      room = room;
      first = ok.neighbor.low;
      last = ok.neighbor.high;
      may = or_intro_right (eqb u x) (is_attached s u) (all_attached u ok.neighbor);
      qual = ok.qual;
      absent = absent;
    }

    T' : List ℕ
    T' = append (depth s) T i j u

    T'_long : length T' ≡ 512
    unfolding T'
    T'_long = append_length (depth s) T i j u ∙ T_long

    t' : List ℕ
    t' = with_table t x T'

    x_fits : table_start x + 512 ≤ length t
    x_fits = fits t L.long x ok.owner

    is : load_record im r t ≡ t'
    unfolding load_record t' T'
    is = ap (λ (K : ℕ). with_table t x (append K T i j u)) (sym W.settings.depth)

    -- the table of x, and of another node
    own : table_of t' x ≡ T'
    unfolding t'
    own = stored_same t x T' T'_long x_fits

    other : (y : ℕ) → IsNode s y → y ≢ x → table_of t' y ≡ table_of t y
    unfolding t'
    other y n e = stored_other t x T' T'_long x_fits y ok.owner.low n.low e (fits t L.long y n)

    -- a record that is not of the entry adds nothing to its list
    picked_more : (y i' j' : ℕ) → in_entry im y i' j' r ≡ false → picked r (in_entry im y i' j') (rec_neighbor im) ≡ picked (suc r) (in_entry im y i' j') (rec_neighbor im)
    unfolding join_below
    picked_more y i' j' e =
        sym (append-nil (picked r (in_entry im y i' j') (rec_neighbor im)))
        ∙ ap (λ (b : Bool). picked r (in_entry im y i' j') (rec_neighbor im) ++ cond b (u ∷ []) []) (sym e)

    picked_here : picked r (in_entry im x i j) (rec_neighbor im) ++ (u ∷ []) ≡ picked (suc r) (in_entry im x i j) (rec_neighbor im)
    unfolding join_below
    picked_here =
        let e : in_entry im x i j r ≡ true =
        and_intro _ _ (eq-eqb x x refl) (and_intro _ _ (eq-eqb i i refl) (eq-eqb j j refl)) in
        ap (λ (b : Bool). picked r (in_entry im x i j) (rec_neighbor im) ++ cond b (u ∷ []) []) (sym e)

    -- the list of another entry of x
    elsewhere : (i' j' : ℕ) → i' < digits s → j' < base s → (i' ≡ i → j' ≡ j → ⊥)
        → entry (depth s) T' i' j' ≡ picked (suc r) (in_entry im x i' j') (rec_neighbor im)
    unfolding T'
    elsewhere i' j' hi hj ne =
        append_apart (depth s) T i j u range.depth_most (omega (arith, range.base_most, ok.digit)) (omega (arith, range.base_most)) room
        (slots_fit T T_long i' j' hi hj) ne
        ∙ L.lists x i' j' ok.owner hi hj
        ∙ picked_more x i' j'
        (back_false (in_entry im x i' j' r) false
        (λ e.
        absurd
        (ne (sym (eqb-true i i' (and_left _ _ (and_right (eqb x x) _ e)))) (sym (eqb-true j j' (and_right (eqb i i') _ (and_right (eqb x x) _ e)))))) refl)

    -- the lists of x's entries
    own_list : (i' j' : ℕ) → i' < digits s → j' < base s → Dec (i' ≡ i) → Dec (j' ≡ j)
        → entry (depth s) T' i' j' ≡ picked (suc r) (in_entry im x i' j') (rec_neighbor im)
    unfolding T'
    own_list i' j' hi hj (yes e) (yes q) =
        subst₂ (λ (i' j' : ℕ). entry (depth s) T' i' j' ≡ picked (suc r) (in_entry im x i' j') (rec_neighbor im)) (sym e) (sym q)
        (append_entry (depth s) T i j u (gap_free s x T (L.entries x ok.owner) i j ok.level ok.digit) K_fits room
        (λ z. omega (arith, ok.neighbor.low, z))
        ∙ ap (λ (l : List ℕ). l ++ (u ∷ [])) (L.lists x i j ok.owner ok.level ok.digit)
        ∙ picked_here)
    own_list i' j' hi hj (yes e) (no q) = elsewhere i' j' hi hj (λ a b. q b)
    own_list i' j' hi hj (no e) q = elsewhere i' j' hi hj (λ a b. e a)

    list : (y i' j' : ℕ) → IsNode s y → i' < digits s → j' < base s → Dec (y ≡ x)
        → entry (depth s) (table_of t' y) i' j' ≡ picked (suc r) (in_entry im y i' j') (rec_neighbor im)
    list y i' j' n hi hj (yes e) =
        subst (λ (y : ℕ). entry (depth s) (table_of t' y) i' j' ≡ picked (suc r) (in_entry im y i' j') (rec_neighbor im)) (sym e)
        (rw own (own_list i' j' hi hj (ℕ_discrete i' i) (ℕ_discrete j' j)))
    list y i' j' n hi hj (no e) =
        ap (λ (T : List ℕ). entry (depth s) T i' j') (other y n e)
        ∙ L.lists y i' j' n hi hj
        ∙ picked_more y i' j'
        (back_false (in_entry im y i' j' r) false (λ q. absurd (e (sym (eqb-true x y (and_left (eqb x y) _ q))))) refl)

    entries' : (y : ℕ) → IsNode s y → Dec (y ≡ x) → Entries s y (table_of t' y)
    unfolding T'
    entries' y n (yes e) =
        subst (λ (y : ℕ). Entries s y (table_of t' y)) (sym e)
        (rw own (append_entries s x T i j u range T_long (L.entries x ok.owner) addable))
    entries' y n (no e) = rw (other y n e) (L.entries y n)

    one_more : Loaded im s (suc r) (load_record im r t)
    unfolding t'
    one_more =
        let hx : x ≤ node_count s = ok.owner.high in
        let lx : 1 ≤ x = ok.owner.low in
        rw is
        (record {
          long = omega (arith, stored_length t x T' T'_long x_fits, L.long);
          entries = λ y n. entries' y n (ℕ_discrete y x);
          lists = λ y i' j' n hi hj. list y i' j' n hi hj (ℕ_discrete y x);
          rest = λ p l g. stored_outside t x T' T'_long x_fits p (inr (omega arith)) ∙ L.rest p l g;
        })

  -- the tables after the first r records
  pub tables_loading : (t : List ℕ) → tables_length ≤ length t → (r : ℕ) → r ≤ im_records im
      → Loaded im s r (each_below r (load_record im) (zeroed tables_length t))
  unfolding z
  tables_loading t long r h =
      each_leads (Loaded im s) r (load_record im) (zeroed tables_length t) (nothing t long) (λ q t l L. one_more q (omega (arith, l)) t L)

  pub tables_loaded : (t : List ℕ) → tables_length ≤ length t
      → Loaded im s (im_records im) (each_below (im_records im) (load_record im) (zeroed tables_length t))
  tables_loaded t long = tables_loading t long (im_records im) (le_refl (im_records im))

  -- the entry of the next record has room
  pub record_room : (t : List ℕ) → tables_length ≤ length t → (r : ℕ) → r < im_records im
      → entry_size (depth s) (table_of (each_below r (load_record im) (zeroed tables_length t)) (rec_node im r)) (rec_level im r) (rec_digit im r) < depth s
  record_room t long r h =
      room r h (each_below r (load_record im) (zeroed tables_length t)) (tables_loading t long r (omega (arith, h)))

  -- ---- the own entries

  module _ (t : List ℕ) (L : Loaded im s (im_records im) t) (x i : ℕ) (n : IsNode s x) (hi : i < digits s) where
    abbrev jx : ℕ
    jx = digit_of (id_of s x) i

    abbrev list_of : List ℕ
    list_of = picked (im_records im) (in_entry im x i jx) (rec_neighbor im)

    id_is : im_id im x ≡ id_of s x
    id_is = sym (W.ids x n)

    -- some record is of this entry
    some_record : 1 ≤ count_below (im_records im) (in_entry im x i jx)
    unfolding own_have_records own_has_record
    some_record =
        let has : any_below (im_records im) (rec_of_own im x i) ≡ true =
        all_at (im_digits im) (own_has_record im x) (R.own x n.low (omega (arith, W.settings.count, n.high))) i
        (omega (arith, W.settings.digits)) in
        let f = any_found (im_records im) (rec_of_own im x i) has in
        let q : ℕ = f.0 in
        let e = f.2 in
        let ex : rec_node im q ≡ x = eqb-true _ x (and_left _ _ e) in
        let el = and_right (eqb (rec_node im q) x) _ e in
        let ei : rec_level im q ≡ i = eqb-true _ i (and_left _ _ el) in
        let own : rec_digit im q ≡ digit_of (im_id im (rec_node im q)) (rec_level im q) = eqb-true _ _ (and_right (eqb (rec_level im q) i) _ el) in
        let ej : rec_digit im q ≡ jx = own ∙ ap₂ digit_of (ap (im_id im) ex ∙ id_is) ei in
        count_some (im_records im) (in_entry im x i jx) q f.1
        (and_intro _ _ (eq-eqb _ x ex) (and_intro _ _ (eq-eqb _ i ei) (eq-eqb _ jx ej)))

    owner_first : first_of (table_of t x) i jx ≡ x
    unfolding rec_owner_first same_entry
    owner_first =
        let digit : digit_of (id_of s x) i < base s =
        valid_digit (base s) (digits s) (id_of s x) i
        (subst₃ (λ (b d id : ℕ). valid_id b d id ≡ true) (sym W.settings.base) (sym W.settings.digits) id_is
        (R.ids x n.low (omega (arith, W.settings.count, n.high)))) hi in
        let T : List ℕ = table_of t x in
        let long : length (table_of t x) ≡ 512 = table_length t x (fits t L.long x n) in
        let f : slot_place i jx (depth s) ≤ length (table_of t x) = slots_fit T long i jx hi digit in
        let e : entry (depth s) T i jx ≡ list_of = L.lists x i jx n hi digit in
        let len : length list_of ≡ count_below (im_records im) (in_entry im x i jx) = picked_length (in_entry im x i jx) (rec_neighbor im) (im_records im) in
        let size : entry_size (depth s) T i jx ≡ length list_of = sym (entry_length (depth s) T i jx f) ∙ ap length e in
        let o = picked_first (in_entry im x i jx) (rec_neighbor im) (im_records im) (omega (arith, len, some_record)) in
        let q : ℕ = o.index in
        let ex : rec_node im q ≡ x = eqb-true _ x (and_left _ _ o.holds) in
        let el = and_right (eqb (rec_node im q) x) _ o.holds in
        let ei : rec_level im q ≡ i = eqb-true _ i (and_left _ _ el) in
        let ej : rec_digit im q ≡ jx = eqb-true _ jx (and_right (eqb (rec_level im q) i) _ el) in
        let own : rec_own im q ≡ true = eq-eqb _ _ (ej ∙ sym (ap₂ digit_of (ap (im_id im) ex ∙ id_is) ei)) in
        let alone : any_below q (same_entry im q) ≡ false =
        any_false q (same_entry im q)
        (λ p l. subst₃ (λ (a b c : ℕ). in_entry im a b c p ≡ false) (sym ex) (sym ei) (sym ej) (o.before p l)) in
        let first : rec_neighbor im q ≡ rec_node im q =
        eqb-true _ _
        (or_right (any_below q (same_entry im q)) _ (or_right (not (rec_own im q)) _ (R.owner_first q o.within) (ap not own)) alone) in
        sym (entry_at (depth s) T i jx f 0 (omega (arith, size, len, some_record)))
        ∙ ap (λ (l : List ℕ). get_or l 0 0) e
        ∙ sym o.is
        ∙ first
        ∙ ex

-- ---- the settings, ids and records: the whole of a version 1 image

module _ (s t im : List ℕ) (long : Long s t) (R : GoodImage im) where
  s₂ : List ℕ
  s₂ = loaded_ids s im

  t₂ : List ℕ
  t₂ = loaded_tables t im

  W : Words im s₂
  unfolding s₂ loaded_ids
  W = words_loaded im s R long.state

  L : Loaded im s₂ (im_records im) t₂
  unfolding t₂ loaded_tables
  L = tables_loaded im s₂ R W t long.tables

  back : (x : ℕ) → IsNode s₂ x → x ≤ im_nodes im
  back x n = omega (arith, W.settings.count, n.high)

  zero_at : (x : ℕ) → IsNode s₂ x → (k : ℕ) → 1 ≤ k → k < 8 → get_or s₂ (8 * x + k) 0 ≡ 0
  zero_at x n k l h =
      W.zero (8 * x + k) (omega (arith, n.low)) (omega (arith, n.high, few im s₂ R W)) (λ y m. omega arith)

  -- nothing is counted yet
  pub ids_fresh : (x : ℕ) → IsNode (loaded_ids s im) x → Fresh (loaded_ids s im) x
  unfolding s₂
  ids_fresh x n = (zero_at x n 6 (omega arith) (omega arith), zero_at x n 7 (omega arith) (omega arith))

  pub ids_ok : Sound (loaded_ids s im) (loaded_tables t im)
  unfolding s₂ t₂
  ids_ok = record {
    long = record { state = W.long; tables = L.long };
    settings = range im s₂ R W;
    some = omega (arith, W.settings.count, R.some);
    few = few im s₂ R W;
    ids =
        λ x n.
        subst₃ (λ (b d id : ℕ). valid_id b d id ≡ true) (sym W.settings.base) (sym W.settings.digits) (sym (W.ids x n))
        (R.ids x n.low (back x n));
    new =
        λ x y n l h e.
        let m : IsNode s₂ y = record { low = l; high = omega (arith, n.high) } in
        R.new x y (back x n) l h (sym (W.ids y m) ∙ e ∙ W.ids x n);
    tables =
        λ x n. record {
          slots = (L.entries x n).slots;
          owner = λ i h. owner_first im s₂ R W t₂ L x i n h;
          unused = (L.entries x n).unused;
        };
    statuses = λ x n. ok_in_system (zero_at x n 1 (omega arith) (omega arith)) (record {
      level = zero_at x n 2 (omega arith) (omega arith);
      target = zero_at x n 3 (omega arith) (omega arith);
      pending = zero_at x n 4 (omega arith) (omega arith);
      notified = zero_at x n 5 (omega arith) (omega arith);
    });
    counts = λ x n.
        fresh_counts s₂ x (node_of s₂ x) (zero_at x n 1 (omega arith) (omega arith)) (ids_fresh x n).0 (ids_fresh x n).1;
    head = λ p l h. W.zero p l (omega (arith, h)) (λ x n. omega (arith, h, n.low));
    rest = λ p l h. W.zero p (omega (arith, l)) h (λ x n. omega (arith, l, n.high));
    tables_rest = L.rest;
  }
