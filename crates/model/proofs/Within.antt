-- Changes of memory within its first places: what lies past them is neither read nor changed. Assumes nothing.
use Prim.Native.Nat.{ℕ, zero, suc, ◌+◌, ◌*◌, ◌≤◌, ◌<◌}
use mathlib.Core.Path.{◌≡◌, refl, sym, ap, ap₂, ◌∙◌}
use mathlib.Core.List.{List, ◌++◌, append_assoc}
use native.Mathlib.Nat.{le_of_eq}
use native.Mathlib.Omega.{arith}
use lib.ListN.{length, set, take, drop, replicate, length-drop, length-set, take-append-drop}
use lib.Seq.{length-take-le, take_at, drop_at, take-append-le, drop-append-le, set-append_left}
use Rattle.model.specs.Loops.{each_below}
use Rattle.model.specs.Memory.{Node, state_length, tables_length, with_node, table_start, table_of, with_table, zeroed}
use Rattle.model.proofs.Memory.{table_length, stored_length, zeroed_length}

-- g works on the first n places alone, and keeps their number
pub record Within (n : ℕ) (g : List ℕ → List ℕ) : Type 0 where
  pub apart : (front rest : List ℕ) → length front ≡ n → g (front ++ rest) ≡ g front ++ rest
  pub long : (front : List ℕ) → length front ≡ n → length (g front) ≡ n

module _ (n : ℕ) where
  -- ---- what such a change leaves

  module _ (g : List ℕ → List ℕ) (w : Within n g) (l : List ℕ) (fits : n ≤ length l) where
    front : length (take n l) ≡ n
    front = length-take-le n l fits

    pub within_parted : g l ≡ g (take n l) ++ drop n l
    within_parted = ap g (sym (take-append-drop n l)) ∙ w.apart (take n l) (drop n l) front

    -- past the first n places everything is as it was
    pub within_past : drop n (g l) ≡ drop n l
    within_past = ap (drop n) within_parted ∙ drop_at (g (take n l)) (drop n l) n (w.long (take n l) front)

    -- the first n places depend on no others
    pub within_front : take n (g l) ≡ g (take n l)
    within_front = ap (take n) within_parted ∙ take_at (g (take n l)) (drop n l) n (w.long (take n l) front)

  -- so where those are the same before, they are the same after
  pub within_same : (g : List ℕ → List ℕ) → Within n g → (l l' : List ℕ) → n ≤ length l → n ≤ length l' → take n l' ≡ take n l
      → take n (g l') ≡ take n (g l)
  within_same g w l l' h h' e = within_front g w l' h' ∙ ap g e ∙ sym (within_front g w l h)

  -- ---- changes of this kind

  pub within_then : (f g : List ℕ → List ℕ) → Within n f → Within n g → Within n (λ l. g (f l))
  within_then f g v w = record {
    apart = λ a b e. ap g (v.apart a b e) ∙ w.apart (f a) b (v.long a e);
    long = λ a e. w.long (f a) (v.long a e);
  }

  pub within_each : (m : ℕ) (step : ℕ → List ℕ → List ℕ) → ((k : ℕ) → k < m → Within n (step k)) → Within n (each_below m step)
  unfolding each_below
  within_each zero step w = record { apart = λ a b e. refl; long = λ a e. e }
  within_each (suc m) step w =
      within_then (each_below m step) (step m) (within_each m step (λ k l. w k (omega arith))) (w m (omega arith))

  pub within_set : (k v : ℕ) → k < n → Within n (λ l. set l k v)
  within_set k v h = record {
    apart = λ a b e. set-append_left a b k v (omega arith);
    long = λ a e. length-set a k v ∙ e;
  }

  pub within_zeroed : Within n (zeroed n)
  within_zeroed = record {
    apart = λ a b e.
        ap (λ (l : List ℕ). replicate n 0 ++ l) (drop-append-le n a b (le_of_eq (sym e)))
        ∙ sym (append_assoc (replicate n 0) (drop n a) b);
    long = λ a e. zeroed_length n a (le_of_eq (sym e)) ∙ e;
  }

-- a word more is set
pub then_set : {n : ℕ} {f : List ℕ → List ℕ} (k v : ℕ) → k < n → Within n f → Within n (λ l. set (f l) k v)
then_set {n} {f} k v h w = within_then n f (λ l. set l k v) w (within_set n k v h)

-- ---- a record

pub within_node : (x : ℕ) (r : Node) → x ≤ 64 → Within state_length (λ s. with_node s x r)
unfolding with_node
within_node x r h =
    then_set (8 * x + 7) r.notices (omega arith)
    (then_set (8 * x + 6) r.requests (omega arith)
    (then_set (8 * x + 5) r.notified (omega arith)
    (then_set (8 * x + 4) r.pending (omega arith)
    (then_set (8 * x + 3) r.target (omega arith)
    (then_set (8 * x + 2) r.level (omega arith)
    (then_set (8 * x + 1) r.status (omega arith) (within_set state_length (8 * x) r.id (omega arith))))))))

-- ---- a table

module _ (x : ℕ) (low : 1 ≤ x) (high : x ≤ 64) where
  fits : (t : List ℕ) → length t ≡ tables_length → table_start x + 512 ≤ length t
  fits t e = omega arith

  table_apart : (a b : List ℕ) → length a ≡ tables_length → table_of (a ++ b) x ≡ table_of a x
  unfolding table_of
  table_apart a b e =
      ap (take 512) (drop-append-le (table_start x) a b (omega arith))
      ∙ take-append-le 512 (drop (table_start x) a) b (simp length-drop (omega arith))

  -- h is done to x's table
  pub within_table : (h : List ℕ → List ℕ) → ((T : List ℕ) → length T ≡ 512 → length (h T) ≡ 512)
      → Within tables_length (λ t. with_table t x (h (table_of t x)))
  unfolding with_table
  within_table h k = record {
    apart = λ a b e.
        ap (λ (T : List ℕ). with_table (a ++ b) x (h T)) (table_apart a b e)
        ∙ ap₂ (λ (p q : List ℕ). p ++ (h (table_of a x) ++ q)) (take-append-le (table_start x) a b (omega arith))
        (drop-append-le (table_start x + 512) a b (omega arith))
        ∙ simp append_assoc;
    long = λ a e. stored_length a x (h (table_of a x)) (k (table_of a x) (table_length a x (fits a e))) (fits a e) ∙ e;
  }

  -- x's table is read within the fixed length
  pub table_front : (t : List ℕ) → tables_length ≤ length t → table_of t x ≡ table_of (take tables_length t) x
  table_front t l =
      ap (λ (t : List ℕ). table_of t x) (sym (take-append-drop tables_length t))
      ∙ table_apart (take tables_length t) (drop tables_length t) (length-take-le tables_length t l)
