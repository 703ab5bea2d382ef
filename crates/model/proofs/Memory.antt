-- Laws of the lent memory: what a stored record or table changes, and that it changes nothing else. Assumes nothing.
use Prim.Native.Nat.{ℕ, ◌+◌, ◌-◌, ◌*◌, ◌≤◌, ◌<◌}
use mathlib.Core.Path.{◌≡◌, refl, sym, ap, subst, ◌∙◌}
use mathlib.Core.Logic.{◌≢◌, ◌⊎◌, inl, inr, ⊎_elim}
use mathlib.Core.List.{List, [], ◌∷◌, append_assoc}
use native.Mathlib.Nat.{add-zero}
use native.Mathlib.Decide.{ℕ_discrete, dec_lt}
use native.Mathlib.Numerals.{towards_suc}
use native.Mathlib.Omega.{arith}
use lib.ListN.{length, get_or, set, take, drop, replicate, length-set, length-append, length-drop, length-replicate, get_or-replicate, get_or-append}
use lib.Dec.{lit<}
use lib.Seq.{sets, sets-eq, get_or-set_same, get_or-set_other, ext_get_or}
use Rattle.model.specs.Memory.{Node, node_of, with_node, table_start, table_of, with_table, zeroed}
use Rattle.model.proofs.Splice.{splice, splice_length, splice_before, splice_at, splice_after, splice_both, splice_twice, splice_back, part_length, part_at, part_same}

-- ---- a node's record

-- records with the same fields are the same, and the same records have the same fields
pub node_eq : {a b : Node} → a.id ≡ b.id → a.status ≡ b.status → a.level ≡ b.level → a.target ≡ b.target → a.pending ≡ b.pending
    → a.notified ≡ b.notified → a.requests ≡ b.requests → a.notices ≡ b.notices → a ≡ b
node_eq e₁ e₂ e₃ e₄ e₅ e₆ e₇ e₈ = λ i.
    record {
      id = e₁ i;
      status = e₂ i;
      level = e₃ i;
      target = e₄ i;
      pending = e₅ i;
      notified = e₆ i;
      requests = e₇ i;
      notices = e₈ i;
    }

module _ {a b : Node} (e : a ≡ b) where
  pub same_id : a.id ≡ b.id
  same_id = ap (λ (r : Node). r.id) e

  pub same_status : a.status ≡ b.status
  same_status = ap (λ (r : Node). r.status) e

  pub same_level : a.level ≡ b.level
  same_level = ap (λ (r : Node). r.level) e

  pub same_target : a.target ≡ b.target
  same_target = ap (λ (r : Node). r.target) e

  pub same_pending : a.pending ≡ b.pending
  same_pending = ap (λ (r : Node). r.pending) e

  pub same_notified : a.notified ≡ b.notified
  same_notified = ap (λ (r : Node). r.notified) e

  pub same_requests : a.requests ≡ b.requests
  same_requests = ap (λ (r : Node). r.requests) e

  pub same_notices : a.notices ≡ b.notices
  same_notices = ap (λ (r : Node). r.notices) e

-- a record is as it was where its words are
pub node_same : (s s' : List ℕ) (y : ℕ) → ((k : ℕ) → k < 8 → get_or s' (8 * y + k) 0 ≡ get_or s (8 * y + k) 0) → node_of s' y ≡ node_of s y
node_same s s' y h =
    node_eq (subst (λ (p : ℕ). get_or s' p 0 ≡ get_or s p 0) (add-zero (8 * y)) (h 0 (lit< tt))) (h 1 (lit< tt)) (h 2 (lit< tt))
    (h 3 (lit< tt)) (h 4 (lit< tt)) (h 5 (lit< tt)) (h 6 (lit< tt)) (h 7 (lit< tt))

-- the words of two nodes' records are apart
pub words_apart : (x y k : ℕ) → y ≢ x → k < 8 → (8 * y + k < 8 * x) ⊎ (8 * x + 8 ≤ 8 * y + k)
words_apart x y k e h = go (dec_lt y x)
  where
    go : Dec (y < x) → (8 * y + k < 8 * x) ⊎ (8 * x + 8 ≤ 8 * y + k)
    go (yes l) = inl (omega arith)
    go (no g) = inr (omega arith)

abbrev pub words : Node → List ℕ
words r = r.id ∷ r.status ∷ r.level ∷ r.target ∷ r.pending ∷ r.notified ∷ r.requests ∷ r.notices ∷ []

stores : (s : List ℕ) (x : ℕ) (r : Node) → with_node s x r ≡ sets s (8 * x) (words r)
unfolding with_node
stores s x r = simp towards_suc

module _ (s : List ℕ) (x : ℕ) (r : Node) (fits : 8 * x + 8 ≤ length s) where
  spliced : with_node s x r ≡ splice (8 * x) 8 (words r) s
  spliced =
      stores s x r
      ∙ sets-eq (words r) s (8 * x) fits
      ∙ append_assoc (take (8 * x) s) (words r) (drop (8 * x + 8) s)

  pub node_length : length (with_node s x r) ≡ length s
  node_length = ap length spliced ∙ splice_length (8 * x) 8 (words r) s refl fits

  pub node_at : (k : ℕ) → k < 8 → get_or (with_node s x r) (8 * x + k) 0 ≡ get_or (words r) k 0
  node_at k h = ap (λ (l : List ℕ). get_or l (8 * x + k) 0) spliced ∙ splice_at (8 * x) 8 (words r) s refl fits k h

  pub node_stored : node_of (with_node s x r) x ≡ r
  node_stored =
      node_eq (ap (λ (p : ℕ). get_or (with_node s x r) p 0) (sym (add-zero (8 * x))) ∙ node_at 0 (lit< tt)) (node_at 1 (lit< tt)) (node_at 2 (lit< tt))
      (node_at 3 (lit< tt)) (node_at 4 (lit< tt)) (node_at 5 (lit< tt)) (node_at 6 (lit< tt)) (node_at 7 (lit< tt))

  -- a word outside the eight is as it was
  pub node_outside : (p : ℕ) → (p < 8 * x) ⊎ (8 * x + 8 ≤ p) → get_or (with_node s x r) p 0 ≡ get_or s p 0
  node_outside p h =
      ap (λ (l : List ℕ). get_or l p 0) spliced
      ∙ ⊎_elim (splice_before (8 * x) 8 (words r) s refl fits p) (splice_after (8 * x) 8 (words r) s refl fits p) h

-- ---- a node's table

module _ (t : List ℕ) (x : ℕ) (fits : table_start x + 512 ≤ length t) where
  pub table_length : length (table_of t x) ≡ 512
  unfolding table_of
  table_length = part_length (table_start x) 512 t fits

  pub table_at : (p : ℕ) → p < 512 → get_or (table_of t x) p 0 ≡ get_or t (table_start x + p) 0
  unfolding table_of
  table_at p h = part_at (table_start x) 512 t fits p h

module _ (t : List ℕ) (x : ℕ) (T : List ℕ) (size : length T ≡ 512) (fits : table_start x + 512 ≤ length t) where
  pub stored_length : length (with_table t x T) ≡ length t
  unfolding with_table
  stored_length = splice_length (table_start x) 512 T t size fits

  -- a byte outside the table is as it was
  pub stored_outside : (p : ℕ) → (p < table_start x) ⊎ (table_start x + 512 ≤ p) → get_or (with_table t x T) p 0 ≡ get_or t p 0
  unfolding with_table
  stored_outside p =
      ⊎_elim (splice_before (table_start x) 512 T t size fits p) (splice_after (table_start x) 512 T t size fits p)

  pub stored_same : table_of (with_table t x T) x ≡ T
  unfolding table_of with_table
  stored_same =
      let f : table_start x + 512 ≤ length (with_table t x T) = omega (arith, stored_length) in
      ext_get_or 0 (table_of (with_table t x T) x) T (table_length (with_table t x T) x f ∙ sym size)
      (λ k h.
      let h' : k < 512 = omega (arith, table_length (with_table t x T) x f) in
      table_at (with_table t x T) x f k h' ∙ splice_at (table_start x) 512 T t size fits k h')

  pub stored_other : (y : ℕ) → 1 ≤ x → 1 ≤ y → y ≢ x → table_start y + 512 ≤ length t → table_of (with_table t x T) y ≡ table_of t y
  unfolding table_of
  stored_other y hx hy e f =
      part_same (table_start y) 512 (with_table t x T) t (omega (arith, stored_length)) f
      (λ k h. stored_outside (table_start y + k) (apart k h (dec_lt y x)))
    where
      apart : (k : ℕ) → k < 512 → Dec (y < x) → (table_start y + k < table_start x) ⊎ (table_start x + 512 ≤ table_start y + k)
      apart k h (yes l) = inl (omega arith)
      apart k h (no g) = inr (omega arith)

-- a byte stored in x's table is one stored in the table memory
pub table_set : (t : List ℕ) (x p v : ℕ) → table_start x + 512 ≤ length t → p < 512
    → with_table t x (set (table_of t x) p v) ≡ set t (table_start x + p) v
unfolding with_table
table_set t x p v fits h =
    ext_get_or 0 (with_table t x T) (set t (table_start x + p) v) (long ∙ sym (length-set t (table_start x + p) v))
    (λ k l. go k (dec_lt k (table_start x)) (dec_lt k (table_start x + 512)))
  where
    T : List ℕ
    T = set (table_of t x) p v

    size : length T ≡ 512
    size = length-set (table_of t x) p v ∙ table_length t x fits

    long : length (with_table t x T) ≡ length t
    long = stored_length t x T size fits

    outside : (k : ℕ) → (k < table_start x) ⊎ (table_start x + 512 ≤ k) → k ≢ table_start x + p
        → get_or (with_table t x T) k 0 ≡ get_or (set t (table_start x + p) v) k 0
    outside k o e = stored_outside t x T size fits k o ∙ sym (get_or-set_other t (table_start x + p) k v 0 e)

    inside : (q : ℕ) → q < 512 → Dec (q ≡ p) → get_or T q 0 ≡ get_or (set t (table_start x + p) v) (table_start x + q) 0
    inside q l (yes e) =
        subst (λ (q : ℕ). get_or T q 0 ≡ get_or (set t (table_start x + p) v) (table_start x + q) 0) (sym e)
        (get_or-set_same (table_of t x) p v 0 (omega (arith, table_length t x fits))
        ∙ sym (get_or-set_same t (table_start x + p) v 0 (omega arith)))
    inside q l (no e) =
        get_or-set_other (table_of t x) p q v 0 e
        ∙ table_at t x fits q l
        ∙ sym (get_or-set_other t (table_start x + p) (table_start x + q) v 0 (λ w. e (omega arith)))

    go : (k : ℕ) → Dec (k < table_start x) → Dec (k < table_start x + 512) → get_or (with_table t x T) k 0 ≡ get_or (set t (table_start x + p) v) k 0
    go k (yes l) g = outside k (inl l) (omega arith)
    go k (no l) (no g) = outside k (inr (omega arith)) (omega arith)
    go k (no l) (yes g) =
        let w : table_start x + (k - table_start x) ≡ k = omega arith in
        subst (λ (k : ℕ). get_or (with_table t x T) k 0 ≡ get_or (set t (table_start x + p) v) k 0) w
        (splice_at (table_start x) 512 T t size fits (k - table_start x) (omega arith)
        ∙ inside (k - table_start x) (omega arith) (ℕ_discrete (k - table_start x) p))

-- ---- memory with zeros in its fixed length

module _ (n : ℕ) (l : List ℕ) (fits : n ≤ length l) where
  pub zeroed_length : length (zeroed n l) ≡ length l
  zeroed_length = simp (length-append, length-replicate, length-drop) (omega arith)

  pub zeroed_within : (p : ℕ) → p < n → get_or (zeroed n l) p 0 ≡ 0
  zeroed_within p h =
      get_or-append (replicate n 0) (drop n l) 0 p (omega (arith, length-replicate {A = ℕ} n 0)) ∙ get_or-replicate n p 0 0 h

-- ---- stores one upon the other

-- the second record is what stays
pub stored_twice : (s : List ℕ) (x : ℕ) (a b : Node) → 8 * x + 8 ≤ length s → with_node (with_node s x a) x b ≡ with_node s x b
stored_twice s x a b fits =
    spliced (with_node s x a) x b (omega (arith, node_length s x a fits))
    ∙ ap (splice (8 * x) 8 (words b)) (spliced s x a fits)
    ∙ splice_twice (8 * x) 8 (words a) s refl fits (words b)
    ∙ sym (spliced s x b fits)

-- the same record, and the same table, stored in two memories that have the same at a place
pub node_both : (s s' : List ℕ) (x : ℕ) (r : Node) → 8 * x + 8 ≤ length s → 8 * x + 8 ≤ length s' → (p : ℕ) → get_or s' p 0 ≡ get_or s p 0
    → get_or (with_node s' x r) p 0 ≡ get_or (with_node s x r) p 0
node_both s s' x r f f' p e =
    ap (λ (l : List ℕ). get_or l p 0) (spliced s' x r f')
    ∙ splice_both (8 * x) 8 (words r) s' s refl f' f p e
    ∙ sym (ap (λ (l : List ℕ). get_or l p 0) (spliced s x r f))

pub table_both : (t t' : List ℕ) (x : ℕ) (T : List ℕ) → length T ≡ 512 → table_start x + 512 ≤ length t → table_start x + 512 ≤ length t' → (p : ℕ)
    → get_or t' p 0 ≡ get_or t p 0 → get_or (with_table t' x T) p 0 ≡ get_or (with_table t x T) p 0
unfolding with_table
table_both t t' x T size f f' = splice_both (table_start x) 512 T t' t size f' f

-- a table put back as it was changes nothing
pub table_back : (t : List ℕ) (x : ℕ) → with_table t x (table_of t x) ≡ t
unfolding with_table table_of
table_back t x = splice_back (table_start x) 512 t
