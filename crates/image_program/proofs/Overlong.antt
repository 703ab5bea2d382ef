-- An image of more than 65,535 bytes is refused by 6 where no sentence before it holds (document 01, "The image"). So a program over images may keep
-- the first 65,536 bytes of its input: reading gives for them what it gives for the whole input. Assumes nothing.
use Prim.Native.Nat.{ℕ, ◌+◌, ◌*◌, ◌≤◌, ◌<◌}
use mathlib.Core.Path.{◌≡◌, refl, sym, ap, ap₂, ◌∙◌}
use mathlib.Core.Logic.{◌≢◌}
use mathlib.Core.Bool.{Bool, true, false, cond, not, ◌&&◌}
use mathlib.Core.List.{List, [], ◌∷◌}
use native.Mathlib.Nat.{le_of_eq}
use native.Mathlib.Omega.{arith}
use lib.Dec.{leb, ltb, eqb}
use lib.ListN.{length, take}
use lib.Seq.{get_or-take, length-take-le}
use borrow.Author.Tests.{le-ltb, lt-leb}
use Rattle.model.specs.Ids.{settings_in_range}
use Rattle.model.specs.Image.{byte_at, im_nodes, im_length, length_right}
use Rattle.model.specs.Memory.{Memory}
use Rattle.model.specs.Refusals.{Sentence, first_true, memory_short, other_version, counts_wrong, image_refusal, read_refusal, record_place}
use Rattle.model.specs.Calls.{refused_at, read_call}
use Rattle.model.proofs.Bools.{or_intro_right, not_both}
use Rattle.model.proofs.Refusals.{numbered, test_of, passed, lacks, lacking}
use Rattle.model.proofs.Places.{place_none}
use Rattle.model.proofs.Calls.{refused_is}

-- 3, 4, 5 and then 6, which such an image always meets
abbrev early_sentences : ℕ → ℕ → ℕ → ℕ → ℕ → List Sentence
early_sentences first version b d K =
    (not (eqb first 4), 3) ∷ (other_version version, 4) ∷ (not (settings_in_range b d K), 5) ∷ (true, 6) ∷ []

abbrev early : ℕ → ℕ → ℕ → ℕ → ℕ → ℕ
early first version b d K = first_true (early_sentences first version b d K)

abbrev early_of : List ℕ → ℕ
early_of im = early (byte_at im 0) (byte_at im 1) (byte_at im 2) (byte_at im 3) (byte_at im 4)

module _ (im : List ℕ) (long : 65536 ≤ length im) where
  wrong : counts_wrong im ≡ true
  unfolding length_right
  wrong =
      or_intro_right (ltb (length im) 6) _
      (or_intro_right (eqb (im_nodes im) 0) _
      (or_intro_right (ltb 64 (im_nodes im)) _ (ap not (go (leb (8 + 4 * im_nodes im) (length im)) (eqb (length im) (im_length im))))))
    where
      go : (a b : Bool) → (a && (b && leb (length im) 65535)) ≡ false
      go true true = lt-leb (length im) 65535 (omega arith)
      go true false = refl
      go false b = refl

  settles : image_refusal im ≡ early_of im
  unfolding image_refusal first_true
  settles = rw (le-ltb (length im) 5 (omega arith), wrong)

  -- so its refusal gives no place
  module _ (m : Memory) where
    abbrev sentences : List Sentence
    sentences =
        (memory_short m, 1) ∷ early_sentences (byte_at im 0) (byte_at im 1) (byte_at im 2) (byte_at im 3) (byte_at im 4)

    read_settles : read_refusal m im ≡ first_true sentences
    unfolding read_refusal image_refusal first_true
    read_settles = ap (cond (memory_short m) 1) settles

    never : (n : ℕ) → 0 < n → lacks n sentences ≡ true → read_refusal m im ≢ n
    never n some e q = lacking n sentences some e (sym read_settles ∙ q)

    no_place : record_place im (read_refusal m im) ≡ 0
    unfolding lacks
    no_place = place_none im (read_refusal m im) (never 10 (omega arith) refl) (never 17 (omega arith) refl) (never 18 (omega arith) refl)

-- xs has at least 65,536 bytes and begins as the image does
module _ (im xs : List ℕ) (long : 65536 ≤ length im) (kept : 65536 ≤ length xs) (same : (a : ℕ) → a < 65536 → byte_at xs a ≡ byte_at im a) where
  same_refusal : image_refusal xs ≡ image_refusal im
  same_refusal =
      settles xs kept
      ∙ ap₂ (λ (a b : ℕ). early a b (byte_at xs 2) (byte_at xs 3) (byte_at xs 4)) (same 0 (omega arith)) (same 1 (omega arith))
      ∙ ap₂ (λ (a b : ℕ). early (byte_at im 0) (byte_at im 1) a b (byte_at xs 4)) (same 2 (omega arith)) (same 3 (omega arith))
      ∙ ap (early (byte_at im 0) (byte_at im 1) (byte_at im 2) (byte_at im 3)) (same 4 (omega arith))
      ∙ sym (settles im long)

  module _ (m : Memory) where
    read_same : read_refusal m xs ≡ read_refusal m im
    unfolding read_refusal image_refusal first_true
    read_same = ap (cond (memory_short m) 1) same_refusal

    refused_both : read_refusal m im ≡ 0 → ⊥
    unfolding read_refusal numbered test_of
    refused_both e = not_both (counts_wrong im) (wrong im long) (passed _ refl e 6)

    call_same : read_call m xs ≡ read_call m im
    unfolding read_call
    call_same =
        refused_is (read_refusal m xs) _ _ (λ e. refused_both (sym read_same ∙ e))
        ∙ ap₂ (λ (place number : ℕ). refused_at m [] (place ∷ []) number) (no_place xs kept m ∙ sym (no_place im long m)) read_same
        ∙ sym (refused_is (read_refusal m im) _ _ refused_both)

-- so an overlong input is read as the whole of it would be
pub overlong : (im : List ℕ) (m : Memory) → 65536 ≤ length im → read_call m (take 65536 im) ≡ read_call m im
overlong im m long =
    call_same im (take 65536 im) long (le_of_eq (sym (length-take-le 65536 im long))) (λ a h. get_or-take 65536 im a 0 h) m
