-- The frame of an image, its first bytes and its length: what reading asks of it beside the rules, both ways. Assumes nothing.
use Prim.Native.Nat.{ℕ, ◌+◌, ◌-◌, ◌*◌, ◌≤◌, ◌<◌}
use mathlib.Core.Path.{◌≡◌, refl, sym, ap, ap₂}
use mathlib.Core.Bool.{true, false, not, ◌&&◌, ◌||◌}
use mathlib.Core.List.{List, []}
use native.Mathlib.Omega.{arith}
use lib.Dec.{eqb, ltb, leb}
use lib.ListN.{length}
use borrow.Author.Tests.{eqb-true, eq-eqb, ne_eqb, le-ltb, le-leb, not-false}
use Rattle.model.specs.Loops.{all_below, node}
use Rattle.model.specs.Ids.{settings_in_range}
use Rattle.model.specs.Memory.{Memory}
use Rattle.model.specs.Image.{is_version, byte_at, im_version, im_base, im_digits, im_depth, im_nodes, im_records, im_id, im_length, length_right, im_id_valid, im_id_differs, im_id_new, rec_node, rec_neighbor, rec_nodes_good, rec_ordered, rec_allowed, rec_owner_first, own_have_records, records_ordered, records_allowed, own_present, records_owned}
use Rattle.model.specs.Refusals.{first_true, memory_short, no_settings, other_version, counts_wrong, joins_wrong, image_sentences, read_refusal}
use Rattle.model.proofs.Bools.{and_intro, or_none_right}
use Rattle.model.proofs.Refusals.{numbered, test_of, passed, free, sentence_none}
use Rattle.model.proofs.Loops.{all_of}
use Rattle.model.proofs.Nodes.{nodes_of}
use Rattle.model.proofs.Ids.{settings_of}
use Rattle.model.proofs.Sound.{Long}
use Rattle.model.proofs.LoadingIsSound.{GoodImage}
use Rattle.model.proofs.Counts.{length_least, counts_ok}
use Rattle.model.proofs.Taken.{not_short}

pub record Framed (im : List ℕ) : Type 0 where
  pub first : byte_at im 0 ≡ 4
  pub version : is_version (im_version im) ≡ true
  pub size : length im ≡ im_length im
  pub short : length im ≤ 65535

-- ---- such an image is not refused

module _ (im : List ℕ) (F : Framed im) (R : GoodImage im) (J : joins_wrong im ≡ false) where
  settings_there : no_settings im ≡ false
  settings_there = ap₂ ◌||◌ (le-ltb (length im) 5 (omega (arith, F.size, length_least im))) (ap not (eq-eqb _ 4 F.first))

  counts_right : counts_wrong im ≡ false
  unfolding length_right
  counts_right =
      let a : leb (8 + 4 * im_nodes im) (length im) ≡ true = le-leb (8 + 4 * im_nodes im) (length im) (omega (arith, F.size, length_least im)) in
      let b : eqb (length im) (im_length im) ≡ true = eq-eqb _ _ F.size in
      let c : leb (length im) 65535 ≡ true = le-leb _ _ F.short in
      ap₂ ◌||◌ (le-ltb (length im) 6 (omega (arith, F.size, length_least im)))
      (ap₂ ◌||◌ (ne_eqb (im_nodes im) 0 (λ z. omega (arith, R.some, z)))
      (ap₂ ◌||◌ (le-ltb 64 (im_nodes im) R.few) (ap not (and_intro _ _ a (and_intro _ _ b c)))))

  ids_new : (x : ℕ) → 1 ≤ x → x ≤ im_nodes im → im_id_new im x ≡ true
  ids_new x l h =
      all_of (x - 1) (im_id_differs im x)
      (λ k g. ap not (ne_eqb (im_id im (k + 1)) (im_id im x) (R.new x (k + 1) h (omega arith) (omega arith))))

  nodes_good : (r : ℕ) → r < im_records im → rec_nodes_good im r ≡ true
  nodes_good r h =
      and_intro _ _ (and_intro _ _ (le-leb 1 (rec_node im r) (R.owners r h).0) (le-leb _ _ (R.owners r h).1))
      (and_intro _ _ (le-leb 1 (rec_neighbor im r) (R.neighbors r h).0) (le-leb _ _ (R.neighbors r h).1))

  image_free : first_true (image_sentences im) ≡ 0
  image_free =
      free (no_settings im) 3 _ settings_there
      (free (other_version (im_version im)) 4 _ (ap not F.version)
      (free (not (settings_in_range (im_base im) (im_digits im) (im_depth im))) 5 _ (ap not (settings_of _ _ _ R.range))
      (free (counts_wrong im) 6 _ counts_right
      (free (not (all_below (im_nodes im) (node (im_id_valid im)))) 7 _ (ap not (nodes_of (im_nodes im) (im_id_valid im) R.ids))
      (free (not (all_below (im_nodes im) (node (im_id_new im)))) 8 _ (ap not (nodes_of (im_nodes im) (im_id_new im) ids_new))
      (free (not (all_below (im_records im) (rec_nodes_good im))) 9 _ (ap not (all_of (im_records im) (rec_nodes_good im) nodes_good))
      (free (not (records_ordered im)) 10 _ (ap not (all_of (im_records im) (rec_ordered im) R.ordered))
      (free (not (records_allowed im)) 17 _ (ap not (all_of (im_records im) (rec_allowed im) R.allowed))
      (free (not (own_present im && records_owned im)) 18 _
      (ap not (and_intro _ _ (nodes_of (im_nodes im) (own_have_records im) R.own) (all_of (im_records im) (rec_owner_first im) R.owner_first)))
      (free (joins_wrong im) 24 [] J (sym sentence_none)))))))))))

  pub read_free : (m : Memory) → Long m.state m.tables → read_refusal m im ≡ 0
  unfolding read_refusal
  read_free m l = free (memory_short m) 1 _ (not_short m l) image_free

-- ---- an image that is not refused has the frame

-- the same back
pub read_framed : (m : Memory) (im : List ℕ) → read_refusal m im ≡ 0 → Framed im
unfolding read_refusal numbered test_of
read_framed m im e =
    let p = passed _ refl e in
    let counts = counts_ok im (p 6) in
    record {
      first = eqb-true _ 4 (not-false _ (or_none_right (ltb (length im) 5) _ (p 3)));
      version = not-false _ (p 4);
      size = counts.size;
      short = counts.short;
    }
