-- What a call that is not refused may go by: each sentence that did not refuse it, as a fact. Assumes nothing.
use Prim.Native.Nat.{ℕ, ◌+◌, ◌-◌, ◌≤◌, ◌<◌}
use mathlib.Core.Path.{◌≡◌, refl, sym, ap, ap₂, subst, ◌∙◌}
use mathlib.Core.Logic.{◌≢◌}
use mathlib.Core.Bool.{Bool, true, false, not, ◌&&◌, ◌||◌}
use mathlib.Core.List.{List, [], ◌∷◌, ◌++◌}
use native.Mathlib.Omega.{arith}
use lib.Dec.{ltb, leb}
use lib.ListN.{length}
use borrow.Author.Tests.{eqb-true, eq-eqb, eqb-false, ne_eqb, ltb-false, le-ltb, leb-true, not-false, not-true}
use Rattle.model.specs.Ids.{valid_id}
use Rattle.model.specs.Memory.{Memory, state_length, tables_length, node_count, id_of, is_in_system, is_attached}
use Rattle.model.specs.Nodes.{is_node}
use Rattle.model.specs.Sound.{sound}
use Rattle.model.specs.Image.{im_nodes, im_base, im_digits, im_depth, im_records, im_id, im_id_valid, im_id_differs, im_id_new, im_is_node, rec_node, rec_neighbor, rec_nodes_good, rec_ordered, rec_allowed, rec_owner_first, own_have_records, own_present, records_owned, is_version, has_joins, im_version, joins_listed, held, image_of}
use Rattle.model.specs.Fill.{filling}
use Rattle.model.specs.Lookup.{end_failed}
use Rattle.model.specs.Refusals.{Sentence, first_true, memory_short, frame_sentences, record_sentences, joins_wrong, unsound, has_id, id_taken, are_nodes, some_not_in_system, state_sentences, found_refusal, read_refusal, state_refusal, begin_refusal, withdraw_refusal, deliver_refusal, lookup_refusal, verdict_refusal, fill_refusal, write_refusal}
use Rattle.model.proofs.Bools.{and_left, and_right, and_intro, or_none_left, or_none_right}
use Rattle.model.proofs.Refusals.{numbered, test_of, passed, skipped, free, first_free, sentence_none}
use Rattle.model.proofs.Counts.{counts_ok}
use Rattle.model.proofs.Loops.{all_at}
use Rattle.model.proofs.Nodes.{nodes_at, nodes_of, no_node_at, no_node_of}
use Rattle.model.proofs.Ids.{InRange, settings_range}
use Rattle.model.proofs.Status.{IsNode, is_node_lem, is_node_of}
use Rattle.model.proofs.Sound.{Long, Sound, sound_ok, sound_of}
use Rattle.model.proofs.BeginningKeepsSound.{CanBegin}
use Rattle.model.proofs.Sender.{CanDeliver}
use Rattle.model.proofs.Filling.{Steady}
use Rattle.model.proofs.LoadingIsSound.{GoodImage}

pub long_of : (m : Memory) → memory_short m ≡ false → Long m.state m.tables
long_of m e =
    let t = ltb (length m.tables) tables_length in
    let s = ltb (length m.state) state_length in
    record {
      state = ltb-false (length m.state) state_length (or_none_right t s e);
      tables = ltb-false (length m.tables) tables_length (or_none_left t s e);
    }

-- 1 and 2
pub sound_past : (m : Memory) → memory_short m ≡ false → unsound m ≡ false → Sound m.state m.tables
sound_past m e f = sound_ok m.state m.tables (long_of m e) (not-false (sound m.state m.tables) f)

pub state_taken : (m : Memory) → state_refusal m ≡ 0 → Sound m.state m.tables
unfolding state_refusal numbered test_of
state_taken m e =
    let p = passed _ refl e in
    sound_past m (p 1) (p 2)

-- ---- the calls

pub record CanFound (m : Memory) (b d K id : ℕ) : Type 0 where
  pub long : Long m.state m.tables
  pub range : InRange b d K
  pub valid : valid_id b d id ≡ true

pub found_taken : (m : Memory) (b d K id : ℕ) → found_refusal m b d K id ≡ 0 → CanFound m b d K id
unfolding found_refusal numbered test_of
found_taken m b d K id e =
    let p = passed _ refl e in
    record { long = long_of m (p 1); range = settings_range b d K (not-false _ (p 5)); valid = not-false _ (p 7) }

module _ (m : Memory) where
  abbrev s : List ℕ
  s = m.state

  abbrev t : List ℕ
  t = m.tables

  pub begin_taken : (id gateway : ℕ) → begin_refusal m id gateway ≡ 0 → Sound s t × CanBegin s id gateway
  unfolding begin_refusal numbered test_of
  begin_taken id gateway e =
      let p = passed _ refl e in
      let S = sound_past m (p 1) (p 2) in
      let full = eqb-false (node_count s) 64 (p 11) in (
        S,
        record {
          valid = not-false _ (p 7);
          new = λ y n. eqb-false (id_of s y) id (no_node_at (node_count s) (has_id s id) (p 8) y n.low n.high);
          is_node = is_node_lem s gateway (not-false _ (p 9));
          in_system = not-false _ (p 12);
          room = omega (arith, full, S.few);
        },
      )

  pub withdraw_taken : (x : ℕ) → withdraw_refusal m x ≡ 0 → Sound s t × (x ≡ node_count s) × (is_attached s x ≡ false)
  unfolding withdraw_refusal numbered test_of
  withdraw_taken x e =
      let p = passed _ refl e in
      (sound_past m (p 1) (p 2), eqb-true x (node_count s) (not-false _ (p 19)), p 20)

  pub both_nodes : (x y : ℕ) → not (are_nodes s x y) ≡ false → IsNode s x × IsNode s y
  both_nodes x y e =
      let a = not-false (are_nodes s x y) e in
      (is_node_lem s x (and_left (is_node s x) (is_node s y) a), is_node_lem s y (and_right (is_node s x) (is_node s y) a))

  pub deliver_taken : (x y : ℕ) → deliver_refusal m x y ≡ 0 → Sound s t × CanDeliver s x y
  unfolding deliver_refusal numbered test_of
  deliver_taken x y e =
      let p = passed _ refl e in
      let n = both_nodes x y (p 9) in
      (sound_past m (p 1) (p 2), record { sender = n.0; receiver = n.1; requested = not-false _ (p 13); free = p 14 })

  pub lookup_taken : (u z failed : ℕ) → lookup_refusal m u z failed ≡ 0 → Sound s t × IsNode s u × IsNode s z × (end_failed failed u z ≡ false)
  unfolding lookup_refusal numbered test_of
  lookup_taken u z failed e =
      let p = passed _ refl e in
      let n = both_nodes u z (p 9) in
      (sound_past m (p 1) (p 2), n.0, n.1, p 21)

  -- 15: every node is in system
  pub all_in_system : some_not_in_system s ≡ false → (x : ℕ) → IsNode s x → is_in_system s x ≡ true
  all_in_system e x n = nodes_at (node_count s) (is_in_system s) (not-false _ e) x n.low n.high

  pub verdict_taken : verdict_refusal m ≡ 0 → Sound s t × ((x : ℕ) → IsNode s x → is_in_system s x ≡ true)
  unfolding verdict_refusal numbered test_of
  verdict_taken e =
      let p = passed _ refl e in
      (sound_past m (p 1) (p 2), all_in_system (p 15))

  pub fill_taken : (out : List ℕ) → fill_refusal m out ≡ 0 → Steady s t × (length (filling s t).list ≤ length out)
  unfolding fill_refusal numbered test_of
  fill_taken out e =
      let p = passed _ refl e in
      (record { sound = sound_past m (p 1) (p 2); settled = all_in_system (p 15) }, ltb-false (length out) (length (filling s t).list) (p 16))

  -- what a writing that is not refused has: of version 1 every node is in system
  pub record CanWrite (v : ℕ) (out : List ℕ) : Type 0 where
    pub sound : Sound s t
    pub version : is_version v ≡ true
    pub in_system : has_joins v ≡ false → (x : ℕ) → IsNode s x → is_in_system s x ≡ true
    pub fits : length (image_of v s t) ≤ length out

  pub write_taken : (v : ℕ) (out : List ℕ) → write_refusal m v out ≡ 0 → CanWrite v out
  unfolding write_refusal numbered test_of
  write_taken v out e =
      let p = passed _ refl e in
      record {
        sound = sound_past m (p 1) (p 2);
        version = not-false _ (p 4);
        in_system = λ plain. all_in_system (sym (ap (λ (b : Bool). not b && some_not_in_system s) plain) ∙ p 15);
        fits = ltb-false (length out) (length (image_of v s t)) (p 16);
      }

-- ---- reading

im_node : (im : List ℕ) (x : ℕ) → im_is_node im x ≡ true → (1 ≤ x) × (x ≤ im_nodes im)
im_node im x e = (leb-true 1 x (and_left _ _ e), leb-true x (im_nodes im) (and_right (leb 1 x) _ e))

-- what 1 and 3 to 18 leave
pub tables_taken : (m : Memory) (im : List ℕ) → first_true ((memory_short m, 1) ∷ (frame_sentences im ++ record_sentences im)) ≡ 0
    → Long m.state m.tables × GoodImage im
unfolding numbered test_of
tables_taken m im e =
    let p = passed _ refl e in
    let counts = counts_ok im (p 6) in
    let own : (own_present im && records_owned im) ≡ true = not-false _ (p 18) in
    let nodes : (r : ℕ) → r < im_records im → rec_nodes_good im r ≡ true = all_at (im_records im) (rec_nodes_good im) (not-false _ (p 9)) in (
      long_of m (p 1),
      record {
        range = settings_range (im_base im) (im_digits im) (im_depth im) (not-false _ (p 5));
        some = counts.some;
        few = counts.few;
        ids = nodes_at (im_nodes im) (im_id_valid im) (not-false _ (p 7));
        new = λ x y h l g. id_new x y l g (nodes_at (im_nodes im) (im_id_new im) (not-false _ (p 8)) x (omega (arith, l, g)) h);
        owners = λ r h. im_node im (rec_node im r) (and_left _ _ (nodes r h));
        neighbors = λ r h. im_node im (rec_neighbor im r) (and_right (im_is_node im (rec_node im r)) _ (nodes r h));
        ordered = all_at (im_records im) (rec_ordered im) (not-false _ (p 10));
        allowed = all_at (im_records im) (rec_allowed im) (not-false _ (p 17));
        owner_first = all_at (im_records im) (rec_owner_first im) (and_right (own_present im) _ own);
        own = nodes_at (im_nodes im) (own_have_records im) (and_left _ (records_owned im) own);
      },
    )
  where
    id_new : (x y : ℕ) → 1 ≤ y → y < x → im_id_new im x ≡ true → im_id im y ≢ im_id im x
    id_new x y l g e =
        let w : y - 1 + 1 ≡ y = omega arith in
        subst (λ (z : ℕ). im_id im z ≢ im_id im x) w
        (eqb-false _ _ (not-true _ (all_at (x - 1) (im_id_differs im x) e (y - 1) (omega arith))))

pub read_taken : (m : Memory) (im : List ℕ) → read_refusal m im ≡ 0 → Long m.state m.tables × GoodImage im
unfolding read_refusal
read_taken m im e = tables_taken m im (first_free ((memory_short m, 1) ∷ (frame_sentences im ++ record_sentences im)) ((joins_wrong im, 24) ∷ []) e)

-- of an image of version 2 the joins are listed, and the state that it gives is sound
pub read_joins : (m : Memory) (im : List ℕ) → read_refusal m im ≡ 0 → has_joins (im_version im) ≡ true
    → (joins_listed im ≡ true) × (sound (held im).state (held im).tables ≡ true)
unfolding read_refusal numbered test_of
read_joins m im e v =
    let p = passed _ refl e in
    let w = not-false _ (sym (ap (λ (b : Bool). b && not (joins_listed im && sound (held im).state (held im).tables)) v) ∙ p 24) in
    (and_left _ _ w, and_right (joins_listed im) _ w)

-- ---- what a sound state does not refuse

pub not_short : (m : Memory) → Long m.state m.tables → memory_short m ≡ false
not_short m l =
    ap₂ ◌||◌ (le-ltb (length m.tables) tables_length l.tables) (le-ltb (length m.state) state_length l.state)

-- neither 1 nor 2
pub state_skipped : (m : Memory) (later : List Sentence) → Sound m.state m.tables
    → first_true (state_sentences m ++ later) ≡ first_true later
state_skipped m later S =
    skipped (memory_short m) 1 _ (not_short m S.long) ∙ skipped (unsound m) 2 later (ap not (sound_of m.state m.tables S))

pub state_free : (m : Memory) (later : List Sentence) → Sound m.state m.tables → first_true later ≡ 0 → first_true (state_sentences m ++ later) ≡ 0
state_free m later S z = state_skipped m later S ∙ z

pub sound_free : (m : Memory) → Sound m.state m.tables → state_refusal m ≡ 0
unfolding state_refusal
sound_free m S = state_free m [] S (sym sentence_none)

pub lookup_free : (m : Memory) (u z failed : ℕ) → Sound m.state m.tables → IsNode m.state u → IsNode m.state z → end_failed failed u z ≡ false
    → lookup_refusal m u z failed ≡ 0
unfolding lookup_refusal
lookup_free m u z failed S nu nz left =
    state_free m _ S
    (free (not (are_nodes m.state u z)) 9 _ (ap not (and_intro _ _ (is_node_of m.state u nu) (is_node_of m.state z nz)))
    (free _ 21 [] left (sym sentence_none)))

pub begin_free : (m : Memory) (id gateway : ℕ) → Sound m.state m.tables → CanBegin m.state id gateway → begin_refusal m id gateway ≡ 0
unfolding begin_refusal
begin_free m id gateway S c =
    let s = m.state in
    state_free m _ S
    (free _ 7 _ (ap not c.valid)
    (free (id_taken s id) 8 _ (no_node_of (node_count s) (has_id s id) (λ y low high. ne_eqb (id_of s y) id (c.new y (record { low = low; high = high }))))
    (free _ 9 _ (ap not (is_node_of s gateway c.is_node))
    (free _ 11 _ (ne_eqb (node_count s) 64 (omega (arith, c.room))) (free _ 12 [] (ap not c.in_system) (sym sentence_none))))))

pub withdraw_free : (m : Memory) → Sound m.state m.tables → is_attached m.state (node_count m.state) ≡ false
    → withdraw_refusal m (node_count m.state) ≡ 0
unfolding withdraw_refusal
withdraw_free m S away =
    let n = node_count m.state in
    state_free m _ S
    (free _ 9 _ (ap not (is_node_of m.state n (record { low = S.some; high = omega arith })))
    (free _ 19 _ (ap not (eq-eqb n n refl)) (free _ 20 [] away (sym sentence_none))))

pub deliver_free : (m : Memory) (x y : ℕ) → Sound m.state m.tables → CanDeliver m.state x y → deliver_refusal m x y ≡ 0
unfolding deliver_refusal
deliver_free m x y S c =
    let s = m.state in
    state_free m _ S
    (free (not (are_nodes s x y)) 9 _ (ap not (and_intro _ _ (is_node_of s x c.sender) (is_node_of s y c.receiver)))
    (free _ 13 _ (ap not c.requested) (free _ 14 [] c.free (sym sentence_none))))

-- every node is in system: not 15
not_unsettled : (s : List ℕ) → ((x : ℕ) → IsNode s x → is_in_system s x ≡ true) → some_not_in_system s ≡ false
not_unsettled s settled = ap not (nodes_of (node_count s) (is_in_system s) (λ x low high. settled x (record { low = low; high = high })))

pub verdict_free : (m : Memory) → Sound m.state m.tables → ((x : ℕ) → IsNode m.state x → is_in_system m.state x ≡ true) → verdict_refusal m ≡ 0
unfolding verdict_refusal
verdict_free m S settled = state_free m _ S (free (some_not_in_system m.state) 15 [] (not_unsettled m.state settled) (sym sentence_none))

pub fill_free : (m : Memory) (out : List ℕ) → Steady m.state m.tables → length (filling m.state m.tables).list ≤ length out
    → fill_refusal m out ≡ 0
unfolding fill_refusal
fill_free m out w fits =
    state_free m _ w.sound
    (free (some_not_in_system m.state) 15 _ (not_unsettled m.state w.settled)
    (free _ 16 [] (le-ltb (length out) (length (filling m.state m.tables).list) fits) (sym sentence_none)))
