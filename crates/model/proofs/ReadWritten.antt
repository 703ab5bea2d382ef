-- An image that reading takes, read and written in its own version, is the same image: each section has the bytes of the image's. Assumes nothing.
use Prim.Native.Nat.{ℕ, ◌+◌, ◌*◌, ◌/◌, ◌≤◌, ◌<◌}
use mathlib.Core.Path.{◌≡◌, refl, sym, ap, ap₂, subst, ◌∙◌}
use mathlib.Core.Logic.{◌⊎◌, inl, inr}
use mathlib.Core.Bool.{Bool, true, false, not, ◌&&◌}
use mathlib.Core.List.{List, [], ◌∷◌, ◌++◌}
use native.Mathlib.Nat.{add-zero}
use native.Mathlib.Omega.{arith}
use lib.Dec.{ltb}
use lib.ListN.{length, get_or}
use borrow.Author.Tests.{eqb-true, eq-eqb, le-ltb}
use Rattle.model.specs.Loops.{join_below, node}
use Rattle.model.specs.Memory.{Memory, base, digits, depth, node_count, id_of, is_in_system}
use Rattle.model.specs.Nodes.{all_nodes, join_nodes}
use Rattle.model.specs.Image.{has_joins, two_bytes, id_bytes, all_records, rest_bytes, image_of, byte_at, four_at, im_version, im_base, im_digits, im_depth, im_nodes, im_id, im_records, records_end, im_joins, im_counts, loaded_ids, loaded_joins, loaded}
use Rattle.model.specs.Refusals.{other_version, some_not_in_system, read_refusal, write_refusal}
use Rattle.model.proofs.Bools.{true_or_false}
use Rattle.model.proofs.Refusals.{free, sentence_none}
use Rattle.model.proofs.Nodes.{nodes_of}
use Rattle.model.proofs.Status.{IsNode}
use Rattle.model.proofs.Sound.{Long, Sound}
use Rattle.model.proofs.FoundingIsSound.{Settings}
use Rattle.model.proofs.LoadingIsSound.{GoodImage, Words, words_loaded}
use Rattle.model.proofs.JoinsLoaded.{joined_apart, joined_id}
use Rattle.model.proofs.ReadingIsSound.{loaded_by, read_listed, read_sound}
use Rattle.model.proofs.Taken.{read_taken, state_free}
use Rattle.model.proofs.Counts.{length_plain, length_joins}
use Rattle.model.proofs.Records.{place_record, records_flat}
use Rattle.model.proofs.Frame.{Framed, read_framed}
use Rattle.model.proofs.JoinSections.{rest_plain}
use Rattle.model.proofs.BytesFrom.{bytes_from, from_length, from_then, from_blocks, from_all, two_from, four_from}
use Rattle.model.proofs.ReadGivesRecords.{record_bytes, records_back}
use Rattle.model.proofs.ReadGivesJoins.{rest_back}

-- the bytes of an image are below 256, as those of every slice of bytes
module _ (m : Memory) (im : List ℕ) (byte : (a : ℕ) → byte_at im a < 256) (e : read_refusal m im ≡ 0) where
  abbrev s : List ℕ
  s = m.state

  abbrev t : List ℕ
  t = m.tables

  -- what it gives
  abbrev given : Memory
  given = loaded m.state m.tables im

  s₂ : List ℕ
  s₂ = given.state

  t₂ : List ℕ
  t₂ = given.tables

  -- the version
  v : ℕ
  v = im_version im

  long : Long s t
  long = (read_taken m im e).0

  R : GoodImage im
  R = (read_taken m im e).1

  F : Framed im
  F = read_framed m im e

  S : Sound s₂ t₂
  unfolding s₂ t₂
  S = read_sound m im e

  W : Words im (loaded_ids s im)
  unfolding loaded_ids
  W = words_loaded im s R long.state

  plain : has_joins (im_version im) ≡ false → s₂ ≡ loaded_ids s im
  unfolding s₂
  plain f = ap (λ (m : Memory). m.state) (loaded_by s t im false f)

  joined : has_joins (im_version im) ≡ true → s₂ ≡ loaded_joins im (loaded_ids s im)
  unfolding s₂
  joined f = ap (λ (m : Memory). m.state) (loaded_by s t im true f)

  -- ---- the settings and the ids are the image's, in either version

  record Named (s : List ℕ) : Type 0 where
    settings : Settings s (im_base im) (im_digits im) (im_depth im) (im_nodes im)
    ids : (x : ℕ) → 1 ≤ x → x ≤ im_nodes im → id_of s x ≡ im_id im x

  ids_named : Named (loaded_ids s im)
  ids_named = record {
    settings = W.settings;
    ids = λ x l h. W.ids x (record { low = l; high = omega (arith, W.settings.count, h) });
  }

  named : Named s₂
  named = go (true_or_false (has_joins (im_version im)))
    where
      go : (has_joins (im_version im) ≡ true) ⊎ (has_joins (im_version im) ≡ false) → Named s₂
      go (inr f) = subst Named (sym (plain f)) ids_named
      go (inl f) =
          let l = read_listed m im e f in
          let low : (p : ℕ) → p < 8 → get_or (loaded_joins im (loaded_ids s im)) p 0 ≡ get_or (loaded_ids s im) p 0 =
          λ p h. joined_apart im (loaded_ids s im) l R.few W.long p (inl h) in
          subst Named (sym (joined f))
          (record {
            settings = record {
              base = low 0 (omega arith) ∙ W.settings.base;
              digits = low 1 (omega arith) ∙ W.settings.digits;
              depth = low 2 (omega arith) ∙ W.settings.depth;
              count = low 3 (omega arith) ∙ W.settings.count;
            };
            ids = λ x a h. joined_id im (loaded_ids s im) l R.few W.long x a h ∙ ids_named.ids x a h;
          })

  -- the records are the image's
  records : all_records s₂ t₂ ≡ join_below (im_records im) (record_bytes im)
  unfolding t₂ loaded
  records =
      records_flat s₂ t₂ S
      ∙ ap (λ (n : ℕ). join_below (512 * n) (place_record t₂)) named.settings.count
      ∙ records_back im R t long.tables

  -- ---- each section has the bytes of the image's

  abbrev n : ℕ
  n = im_nodes im

  header_back : 4 ∷ v ∷ base s₂ ∷ digits s₂ ∷ depth s₂ ∷ node_count s₂ ∷ [] ≡ bytes_from im 0 6
  unfolding v bytes_from join_below
  header_back =
      let S = named.settings in
      ap₂ (λ (a b : ℕ). a ∷ im_version im ∷ b ∷ digits s₂ ∷ depth s₂ ∷ node_count s₂ ∷ []) (sym F.first) S.base
      ∙ ap₂ (λ (a b : ℕ). byte_at im 0 ∷ im_version im ∷ im_base im ∷ a ∷ b ∷ node_count s₂ ∷ []) S.digits S.depth
      ∙ ap (λ (a : ℕ). byte_at im 0 ∷ im_version im ∷ im_base im ∷ im_digits im ∷ im_depth im ∷ a ∷ []) S.count

  ids_back : join_nodes s₂ (id_bytes s₂) ≡ bytes_from im 6 (4 * n)
  unfolding im_id
  ids_back =
      ap (λ (n : ℕ). join_below n (node (id_bytes s₂))) named.settings.count
      ∙ from_blocks im 6 4 n (node (id_bytes s₂))
      (λ y l.
      let w : 6 + 4 * y ≡ 2 + 4 * (y + 1) = omega arith in
      four_from im byte (6 + 4 * y) 0 (id_of s₂ (y + 1))
      (add-zero (four_at im (6 + 4 * y)) ∙ ap (four_at im) w ∙ sym (named.ids (y + 1) (omega arith) (omega arith))))

  all_back : all_records s₂ t₂ ≡ bytes_from im (8 + 4 * n) (4 * im_records im)
  unfolding bytes_from join_below
  all_back = records ∙ from_blocks im (8 + 4 * n) 4 (im_records im) (record_bytes im) (λ r l. record_back r)
    where
      record_back : (r : ℕ) → record_bytes im r ≡ bytes_from im (8 + 4 * n + 4 * r) 4
      record_back r = refl

  count_back : two_bytes (length (all_records s₂ t₂) / 4) ≡ bytes_from im (6 + 4 * n) 2
  count_back =
      let c : length (all_records s₂ t₂) ≡ 4 * im_records im = ap length all_back ∙ from_length im (8 + 4 * n) (4 * im_records im) in
      let w : 7 + 4 * im_nodes im ≡ 6 + 4 * im_nodes im + 1 = omega arith in
      let e : length (all_records s₂ t₂) / 4 ≡ byte_at im (6 + 4 * im_nodes im) + 256 * byte_at im (7 + 4 * im_nodes im) = omega (arith, c) in
      two_from im byte (6 + 4 * n) (length (all_records s₂ t₂) / 4) (e ∙ ap (λ (a : ℕ). byte_at im (6 + 4 * im_nodes im) + 256 * byte_at im a) w)

  -- the image ends with the records, or with the sections of version 2
  record Rest (k : ℕ) : Type 0 where
    back : rest_bytes v s₂ ≡ bytes_from im (records_end im) k
    ends : length im ≡ records_end im + k

  rest : (k : ℕ) × Rest k
  unfolding v bytes_from join_below
  rest = go (true_or_false (has_joins (im_version im)))
    where
      zeros : (x c : ℕ) → 1 ≤ x → x ≤ im_nodes im → 1 ≤ c → c < 8 → get_or (loaded_ids s im) (8 * x + c) 0 ≡ 0
      zeros x c l h a b = W.zero (8 * x + c) (omega arith) (omega (arith, R.few)) (λ y n. omega arith)

      go : (has_joins (im_version im) ≡ true) ⊎ (has_joins (im_version im) ≡ false) → (k : ℕ) × Rest k
      go (inl f) = (
        2 + 20 * im_joins im + 2 * im_counts im,
        record {
          back =
              ap₂ rest_bytes (eqb-true (im_version im) 2 f) (joined f)
              ∙ rest_back im (loaded_ids s im) byte (read_listed m im e f) R.few W.long W.settings.count zeros;
          ends = omega (arith, F.size, length_joins im f);
        },
      )
      go (inr f) = (0, record { back = rest_plain s₂ (im_version im) f; ends = omega (arith, F.size, length_plain im f) })

  -- the image, written again: one section behind the other
  pub read_written : image_of (im_version im) given.state given.tables ≡ im
  unfolding image_of s₂ t₂ v
  read_written =
      let k : ℕ = rest.0 in
      let r = rest.1 in
      ap₂ ◌++◌ header_back (ap₂ ◌++◌ ids_back (ap₂ ◌++◌ count_back (ap₂ ◌++◌ all_back r.back)))
      ∙ ap (λ (l : List ℕ). bytes_from im 0 6 ++ (bytes_from im 6 (4 * n) ++ (bytes_from im (6 + 4 * n) 2 ++ l)))
      (from_then im (8 + 4 * n) (4 * im_records im) (records_end im) k (4 * im_records im + k) refl refl)
      ∙ ap (λ (l : List ℕ). bytes_from im 0 6 ++ (bytes_from im 6 (4 * n) ++ l))
      (from_then im (6 + 4 * n) 2 (8 + 4 * n) (4 * im_records im + k) (2 + (4 * im_records im + k)) (omega arith) refl)
      ∙ ap (λ (l : List ℕ). bytes_from im 0 6 ++ l)
      (from_then im 6 (4 * n) (6 + 4 * n) (2 + (4 * im_records im + k)) (4 * n + (2 + (4 * im_records im + k))) refl refl)
      ∙ from_then im 0 6 6 (4 * n + (2 + (4 * im_records im + k))) (6 + (4 * n + (2 + (4 * im_records im + k)))) refl refl
      ∙ from_all im (6 + (4 * n + (2 + (4 * im_records im + k)))) (omega (arith, r.ends))

  -- after a reading of version 1 every node is in system
  pub read_in_system : has_joins (im_version im) ≡ false → (x : ℕ) → IsNode given.state x → is_in_system given.state x ≡ true
  unfolding s₂
  read_in_system f x n =
      eq-eqb _ 0
      (ap (λ (l : List ℕ). get_or l (8 * x + 1) 0) (plain f)
      ∙ W.zero (8 * x + 1) (omega (arith, n.low)) (omega (arith, n.high, S.few)) (λ y m. omega arith))

  -- the state that reading gives is one that writing takes in that version, if there is room
  pub read_can_write : (out : List ℕ) → length im ≤ length out → write_refusal given (im_version im) out ≡ 0
  unfolding s₂ t₂ v write_refusal
  read_can_write out room =
      let fits : ltb (length out) (length (image_of v s₂ t₂)) ≡ false = le-ltb (length out) (length (image_of v s₂ t₂)) (omega (arith, ap length read_written, room)) in
      state_free given _ S
      (free (other_version (im_version im)) 4 _ (ap not F.version)
      (free (not (has_joins (im_version im)) && some_not_in_system s₂) 15 _ (settled (true_or_false (has_joins (im_version im))))
      (free _ 16 [] fits (sym sentence_none))))
    where
      settled : (has_joins (im_version im) ≡ true) ⊎ (has_joins (im_version im) ≡ false) → (not (has_joins (im_version im)) && some_not_in_system s₂) ≡ false
      settled (inl f) = ap (λ (b : Bool). not b && some_not_in_system s₂) f
      settled (inr f) =
          let in_system : all_nodes s₂ (is_in_system s₂) ≡ true =
          nodes_of (node_count s₂) (is_in_system s₂) (λ x l h. read_in_system f x (record { low = l; high = h })) in
          ap₂ (λ (a b : Bool). not a && not b) f in_system
