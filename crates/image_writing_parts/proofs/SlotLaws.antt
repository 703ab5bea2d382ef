-- Laws of records: those of a node by what the code has read, and of an entry of four empty slots. Assumes nothing.
use Prim.Native.Nat.{ℕ, zero, suc, ◌+◌, ◌≤◌, ◌<◌}
use mathlib.Core.Path.{◌≡◌, refl, sym, ap, ap₂, ◌∙◌}
use mathlib.Core.Bool.{Bool, true, cond}
use mathlib.Core.List.{List, [], ◌∷◌}
use native.Mathlib.Nat.{le_step, lt-suc_self}
use native.Mathlib.Omega.{arith}
use lib.ListN.{length}
use Rattle.model.specs.Loops.{all_below, join_below}
use Rattle.model.specs.Tables.{slot_at, slot_is}
use Rattle.model.specs.Memory.{base, digits, depth, table_of}
use Rattle.model.specs.Image.{slot_record, entry_records, level_records, node_records}
use Rattle.model.proofs.Loops.{all_at}
use Rattle.putting.specs.Put.{Put}
use Rattle.image_writing_parts.specs.Records.{entry_of, records_of_level, table_records}
use Rattle.putting.proofs.Putting.{put_none}

-- ---- the records of all nodes, by the settings b, d and K of the state

module _ (s t : List ℕ) (d b K : ℕ) (ed : d ≡ digits s) (eb : b ≡ base s) (eK : K ≡ depth s) where
  pub node_is : (T : List ℕ) (x : ℕ) → T ≡ table_of t x → table_records d b K T x ≡ node_records s t x
  unfolding table_records records_of_level entry_of node_records level_records entry_records
  node_is T x e =
      ap₂ (λ (b K : ℕ). table_records d b K T x) eb eK ∙ ap₂ (λ (d : ℕ) (T : List ℕ). table_records d (base s) (depth s) T x) ed e

-- ---- an entry of four empty slots, as the code finds it: r is what it asked

no_pieces : (n : ℕ) (f : ℕ → List ℕ) → ((k : ℕ) → k < n → f k ≡ []) → join_below n f ≡ []
unfolding join_below
no_pieces zero f h = refl
no_pieces (suc n) f h = rw (h n (lt-suc_self n), no_pieces n f (λ k l. h k (le_step l))) refl

module _ (T : List ℕ) (K x i j : ℕ) (r : Bool) (few : K ≤ 4) (e : r ≡ all_below 4 (slot_is T i j 0)) (h : r ≡ true) where
  no_records : entry_of K T x i j ≡ []
  unfolding entry_of slot_record
  no_records =
      no_pieces K (slot_record T x i j)
      (λ k l. ap (λ (b : Bool). cond b [] (x ∷ i ∷ j ∷ slot_at T i j k ∷ [])) (all_at 4 (slot_is T i j 0) (sym e ∙ h) k (omega arith)))

  pub entry_skipped : (o : List ℕ) (a : ℕ) → a + length (entry_of K T x i j) ≤ length o → Put o a (entry_of K T x i j) o a
  entry_skipped o a l = rw no_records (put_none o a (omega arith))

  pub entry_long : 0 ≡ length (entry_of K T x i j)
  entry_long = sym (ap length no_records)
