-- Filling, addition by addition: what every addition keeps holds in the end; each is listed in four bytes, and the tables are the first ones with the listed
-- records appended. Assumes nothing.
use Prim.Native.Nat.{ℕ, suc, ◌+◌, ◌*◌, ◌/◌, ◌≤◌, ◌<◌}
use mathlib.Core.Path.{◌≡◌, refl, sym, ap, ◌∙◌}
use mathlib.Core.List.{List, [], ◌∷◌, ◌++◌}
use native.Mathlib.Nat.{add-zero}
use native.Mathlib.Omega.{arith}
use lib.ListN.{length, get_or, length-append, get_or-append}
use lib.Seq.{get_or-append-add}
use Rattle.model.specs.Loops.{each_below, node}
use Rattle.model.specs.Memory.{base, digits, depth, node_count, table_of, with_table}
use Rattle.model.specs.Tables.{append}
use Rattle.model.specs.Fill.{Filling, lowest_absent, short_by, added, fill_once, fill_entry, fill_level, fill_node, filling, with_record, with_records}
use Rattle.model.proofs.Loops.{each_keeps, each_leads, each_same}
use Rattle.model.proofs.Filling.{Steady, EntryOf, unfilled, fills_once, once_short}

-- ---- what every addition keeps

module _ (s : List ℕ) (P : Filling → Type 0) where
  entries_keep : ((x i j : ℕ) (f : Filling) → EntryOf s x i j → P f → P (fill_entry s x i j f)) → (t : List ℕ) → P (unfilled t) → P (filling s t)
  unfolding filling fill_node fill_level
  entries_keep h t p =
      each_keeps P (node_count s) (node (fill_node s)) (unfilled t) p (λ y f hy p.
      each_keeps P (digits s) (fill_level s (y + 1)) f p (λ i f hi p.
      each_keeps P (base s) (fill_entry s (y + 1) i) f p (λ j f hj.
      h (y + 1) i j f (record { node = record { low = omega arith; high = omega (arith, hy) }; level = hi; digit = hj }))))

  additions_keep : ((x i j y : ℕ) (f : Filling) → P f → P (added s x i j y f)) → (t : List ℕ) → P (unfilled t) → P (filling s t)
  unfolding fill_entry fill_once
  additions_keep h =
      entries_keep (λ x i j f e p. each_keeps P (short_by s f.tables x i j) (fill_once s x i j) f p (λ k g l. h x i j _ g))

-- and what additions to short entries of a sound state keep
pub steady_keep : (s : List ℕ) (P : Filling → Type 0)
    → ((x i j : ℕ) (f : Filling) → EntryOf s x i j → Steady s f.tables → 1 ≤ short_by s f.tables x i j → P f
    → P (added s x i j (lowest_absent s f.tables x i j) f))
    → (t : List ℕ) → Steady s t → P (unfilled t) → P (filling s t)
unfolding fill_entry fill_once
steady_keep s P h t w p =
    (entries_keep s (λ f. Steady s f.tables × P f)
    (λ x i j f e c.
    let d = each_leads (λ k g. Steady s g.tables × (short_by s g.tables x i j + k ≡ short_by s f.tables x i j) × P g)
    (short_by s f.tables x i j) (fill_once s x i j) f (c.0, add-zero _, c.1)
    (λ k g l q.
    let short : 1 ≤ short_by s g.tables x i j = omega (arith, q.1, l) in
    ((fills_once s g q.0 x i j e short k).steady, omega (arith, q.1, once_short s g q.0 x i j e short k), h x i j g e q.0 short q.2)) in
    (d.0, d.2)) t (w, p)).1

-- ---- a record more

module _ (list : List ℕ) (n : ℕ) (long : length list ≡ 4 * n) (x i j y : ℕ) where
  abbrev longer : List ℕ
  longer = list ++ (x ∷ i ∷ j ∷ y ∷ [])

  pub more_length : length (list ++ (x ∷ i ∷ j ∷ y ∷ [])) ≡ 4 * suc n
  more_length = length-append list (x ∷ i ∷ j ∷ y ∷ []) ∙ omega arith

  pub more_before : (p : ℕ) → p < 4 * n → get_or (list ++ (x ∷ i ∷ j ∷ y ∷ [])) p 0 ≡ get_or list p 0
  more_before p h = get_or-append list (x ∷ i ∷ j ∷ y ∷ []) 0 p (omega arith)

  pub more_here : (f p : ℕ) → p ≡ 4 * n + f → get_or (list ++ (x ∷ i ∷ j ∷ y ∷ [])) p 0 ≡ get_or (x ∷ i ∷ j ∷ y ∷ []) f 0
  more_here f p e =
      let w : p ≡ length list + f = omega arith in
      ap (λ (p : ℕ). get_or longer p 0) w ∙ get_or-append-add list (x ∷ i ∷ j ∷ y ∷ []) f 0

  before : (K r : ℕ) (t : List ℕ) → r < n → with_record K longer r t ≡ with_record K list r t
  unfolding with_record
  before K r t h =
      cc (more_before (4 * r) (omega arith), more_before (4 * r + 1) (omega arith), more_before (4 * r + 2) (omega arith), more_before (4 * r + 3) (omega arith))

  here : (K : ℕ) (t : List ℕ) → with_record K longer n t ≡ with_table t x (append K (table_of t x) i j y)
  unfolding with_record
  here K t =
      cc (more_here 0 (4 * n) (omega arith), more_here 1 (4 * n + 1) refl, more_here 2 (4 * n + 2) refl, more_here 3 (4 * n + 3) refl)

  more_records : (K : ℕ) (t : List ℕ) → with_records K longer t
      ≡ with_table (with_records K list t) x (append K (table_of (with_records K list t) x) i j y)
  unfolding with_records each_below
  more_records K t =
      let c : length list / 4 ≡ n = omega arith in
      let d : length longer / 4 ≡ suc n = omega (arith, more_length) in
      ap (λ (m : ℕ). each_below m (with_record K longer) t) d
      ∙ ap (with_record K longer n) (each_same n (with_record K longer) (with_record K list) t (λ r t h. before K r t h)
      ∙ ap (λ (m : ℕ). each_below m (with_record K list) t) (sym c))
      ∙ here K (with_records K list t)

-- ---- the list, and the tables by it

pub list_fours : (s t : List ℕ) → (n : ℕ) × (length (filling s t).list ≡ 4 * n)
unfolding added
list_fours s t =
    additions_keep s (λ f. (n : ℕ) × (length f.list ≡ 4 * n)) (λ x i j y f c. (suc c.0, more_length f.list c.0 c.1 x i j y)) t (0, refl)

pub filling_records : (s t : List ℕ) → (filling s t).tables ≡ with_records (depth s) (filling s t).list t
unfolding added with_records each_below
filling_records s t =
    (additions_keep s (λ f. (n : ℕ) × (length f.list ≡ 4 * n) × (f.tables ≡ with_records (depth s) f.list t))
    (λ x i j y f c. (
      suc c.0,
      more_length f.list c.0 c.1 x i j y,
      ap (λ (t : List ℕ). with_table t x (append (depth s) (table_of t x) i j y)) c.2 ∙ sym (more_records f.list c.0 c.1 x i j y (depth s) t),
    ))
    t (0, refl, refl)).2
