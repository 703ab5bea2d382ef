-- Laws of the sections put one behind another, of the count of records, which is put last, and of how long they are. Assumes nothing.
use Prim.Native.Nat.{ℕ, ◌+◌, ◌-◌, ◌*◌, ◌/◌, ◌≤◌}
use mathlib.Core.Path.{◌≡◌, sym, ap, ap₂, subst, ◌∙◌}
use mathlib.Core.Bool.{Bool, true, false, not}
use mathlib.Core.List.{List, [], ◌∷◌, ◌++◌}
use native.Mathlib.Nat.{zero-add}
use native.Mathlib.Omega.{arith}
use lib.ListN.{length, drop, length-append}
use borrow.Author.Tests.{eqb-true, not-true, not-false}
use Rattle.model.specs.Memory.{base, digits, depth, node_count}
use Rattle.model.specs.Nodes.{count_nodes, join_nodes}
use Rattle.model.specs.Image.{has_joins, two_bytes, id_bytes, records_bytes, all_records, under_way, joins_bytes, counts_bytes, rest_bytes, image_of}
use Rattle.model.proofs.Sections.{ids_length, image_length}
use Rattle.model.proofs.JoinSections.{rest_plain, rest_length}
use Rattle.putting.specs.Put.{put, Put}
use Rattle.putting.proofs.Putting.{put_none, put_same_length, put_then, four_pieces, put_before}

-- ---- the sections of version 2

module _ (v : ℕ) (s : List ℕ) (r : Bool) (e : r ≡ has_joins v) where
  none : not r ≡ true → rest_bytes v s ≡ []
  none h = rest_plain s v (sym e ∙ not-true r h)

  some : not r ≡ false → rest_bytes v s ≡ rest_bytes 2 s
  some h = ap (λ (v : ℕ). rest_bytes v s) (eqb-true v 2 (sym e ∙ not-false r h))

  pub no_rest : not r ≡ true → 0 ≡ length (rest_bytes v s)
  no_rest h = sym (ap length (none h))

  pub rest_measured : (j n : ℕ) → not r ≡ false → j ≡ count_nodes s (under_way s) → n ≡ node_count s → 2 + 20 * j + 2 * n ≡ length (rest_bytes v s)
  rest_measured j n h q w = omega (arith, ap length (some h), rest_length s)

  module _ (o : List ℕ) (a : ℕ) where
    pub rest_skipped : a + length (rest_bytes v s) ≤ length o → not r ≡ true → Put o a (rest_bytes v s) o a
    rest_skipped f h = subst (λ (bs : List ℕ). Put o a bs o a) (sym (none h)) (put_none o a (omega arith))

    -- both sections, one behind the other
    both : not r ≡ false → rest_bytes v s ≡ joins_bytes s ++ counts_bytes s
    unfolding rest_bytes
    both h = some h

    pub joins_fit : a + length (rest_bytes v s) ≤ length o → not r ≡ false → a + length (joins_bytes s) ≤ length o
    joins_fit f h = omega (arith, ap length (both h), length-append (joins_bytes s) (counts_bytes s))

    module _ (p : List ℕ) (g : ℕ) (P : Put o a (joins_bytes s) p g) where
      pub counts_fit : a + length (rest_bytes v s) ≤ length o → not r ≡ false → g + length (counts_bytes s) ≤ length p
      counts_fit f h =
          omega (
            arith,
            ap length (both h),
            length-append (joins_bytes s) (counts_bytes s),
            P.ends,
            put_same_length o a (joins_bytes s) p g P,
          )

      pub rest_put : (q : List ℕ) (k : ℕ) → not r ≡ false → Put p g (counts_bytes s) q k → Put o a (rest_bytes v s) q k
      rest_put q k h Q =
          subst (λ (bs : List ℕ). Put o a bs q k) (sym (both h)) (put_then o a (joins_bytes s) p g (counts_bytes s) q k P Q)

-- ---- the records, whose count is put last

-- r with h is what the records leave, z the count
pub records_put : (s t o : List ℕ) (a : ℕ) (r : List ℕ) (h : ℕ) (z : List ℕ) (k : ℕ) → Put o (a + 2) (all_records s t) r h
    → Put r a (two_bytes ((h - (a + 2)) / 4)) z k → Put o a (records_bytes s t) z h
unfolding put
records_put s t o a r h z k R Z =
    let n : h - (a + 2) ≡ length (all_records s t) = omega (arith, R.ends) in
    record {
      fits = omega (arith, R.fits);
      is =
          Z.is
          ∙ ap₂ (λ (r : List ℕ) (n : ℕ). put r a (two_bytes (n / 4))) R.is n
          ∙ put_before o a (two_bytes (length (all_records s t) / 4)) (all_records s t) R.fits;
      ends = omega (arith, R.ends);
    }

-- ---- all sections

pub measured : (v : ℕ) (s t : List ℕ) (n r e : ℕ) → n ≡ node_count s → r ≡ length (all_records s t) → e ≡ length (rest_bytes v s)
    → 8 + 4 * n + r + e ≡ length (image_of v s t)
measured v s t n r e w q u = omega (arith, image_length v s t)

-- the header and the ids
abbrev header : ℕ → List ℕ → List ℕ
header v s = 4 ∷ v ∷ base s ∷ digits s ∷ depth s ∷ node_count s ∷ []

abbrev ids : List ℕ → List ℕ
ids s = join_nodes s (id_bytes s)

module _ (v : ℕ) (s t o : List ℕ) (f : length (image_of v s t) ≤ length o) where
  -- the header, the ids, the records and the rest fit
  room : 6 + length (ids s) + length (records_bytes s t) + length (rest_bytes v s) ≤ length o
  room = omega (arith, image_length v s t, ids_length s (node_count s))

  pub header_fits : 6 ≤ length o
  header_fits = omega (arith, room)

  -- p with e is what the header leaves, q with g the ids, r with h the records, z with k the rest
  module _ (p : List ℕ) (e : ℕ) (P : Put o 0 (header v s) p e) where
    pub ids_fit : e + length (ids s) ≤ length p
    ids_fit = omega (arith, room, put_same_length o 0 (header v s) p e P, P.ends)

    module _ (q : List ℕ) (g : ℕ) (Q : Put p e (ids s) q g) where
      pub records_fit : g + length (records_bytes s t) ≤ length q
      records_fit =
          omega (arith, room, put_same_length o 0 (header v s) p e P, put_same_length p e (ids s) q g Q, P.ends, Q.ends)

      module _ (r : List ℕ) (h : ℕ) (R : Put q g (records_bytes s t) r h) where
        pub rest_fits : h + length (rest_bytes v s) ≤ length r
        rest_fits =
            omega (
              arith,
              room,
              put_same_length o 0 (header v s) p e P,
              put_same_length p e (ids s) q g Q,
              put_same_length q g (records_bytes s t) r h R,
              P.ends,
              Q.ends,
              R.ends,
            )

        module _ (z : List ℕ) (k : ℕ) (Z : Put r h (rest_bytes v s) z k) where
          whole : Put o 0 (image_of v s t) z k
          unfolding image_of
          whole = four_pieces o 0 (header v s) p e (ids s) q g P Q (records_bytes s t) r h (rest_bytes v s) z k R Z

          pub written : (z ≡ image_of v s t ++ drop (length (image_of v s t)) o) × (k ≡ length (image_of v s t))
          unfolding put
          written =
              let n = zero-add (length (image_of v s t)) in
              (whole.is ∙ ap (λ (n : ℕ). image_of v s t ++ drop n o) n, whole.ends ∙ n)
