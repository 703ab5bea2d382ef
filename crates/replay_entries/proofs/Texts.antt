-- Entries put together piece by piece. Assumes nothing.
use Prim.Native.Nat.{ℕ, ◌+◌, ◌%◌}
use mathlib.Core.Path.{◌≡◌, ap, subst}
use mathlib.Core.List.{List, [], ◌∷◌}
use native.Mathlib.Omega.{arith}
use Rattle.model.specs.Loops.{join_below}
use Rattle.putting.specs.Put.{Put}
use Rattle.putting.proofs.Putting.{put_then, four_pieces, pieces_goes}
use Rattle.text.specs.Ascii.{ascii}
use Rattle.text.specs.Numbers.{hex_digit, hexadecimal}
use Rattle.text.specs.Lines.{labelled, line}
use Rattle.additions.specs.declared.Addition.{Addition}
use Rattle.additions.specs.Listed.{AdditionOf}
use Rattle.replay_entries.specs.EntryText.{place_text, addition_text, addition_at}

-- a digit is shown by its last four bits
one_digit : (j : ℕ) → hexadecimal 1 (j % 16) ≡ hexadecimal 1 j
unfolding hexadecimal
one_digit j =
    let e : j % 16 % 16 ≡ j % 16 = omega arith in
    ap (λ (d : ℕ). hex_digit d ∷ []) e

pub place_put : (label : List ℕ) (x i j : ℕ) (o : List ℕ) (a : ℕ) (p : List ℕ) (e : ℕ) (q : List ℕ) (g : ℕ) (r : List ℕ) (h : ℕ) (v : List ℕ) (k : ℕ)
    → Put o a (labelled label x) p e → Put p e (labelled (ascii " level ") i) q g → Put q g (ascii " digit ") r h → Put r h (hexadecimal 1 (j % 16)) v k
    → Put o a (place_text label x i j) v k
unfolding place_text
place_put label x i j o a p e q g r h v k P Q R W =
    four_pieces o a _ p e _ q g P Q _ r h _ v k R (subst (λ (d : List ℕ). Put r h d v k) (one_digit j) W)

module _ (o : List ℕ) (a : ℕ) (p : List ℕ) (e : ℕ) (q : List ℕ) (g : ℕ) where
  pub addition_put : (x i j y : ℕ) → Put o a (place_text (ascii "  node ") x i j) p e → Put p e (line (ascii " gains ") y) q g
      → Put o a (addition_text x i j y) q g
  unfolding addition_text
  addition_put x i j y P Q = put_then o a _ p e _ q g P Q

  -- one addition more of the list
  pub addition_goes : (list : List ℕ) (r : ℕ) (b : Addition) → AdditionOf list r b → Put o a (join_below r (addition_at list)) p e
      → Put p e (addition_text b.node b.level b.digit b.neighbor) q g → Put o a (join_below (r + 1) (addition_at list)) q g
  addition_goes list r b is P Q =
      let same : addition_text b.node b.level b.digit b.neighbor ≡ addition_at list r = cc (is.node, is.level, is.digit, is.neighbor) in
      pieces_goes (addition_at list) o a r p e q g P (subst (λ (l : List ℕ). Put p e l q g) same Q)
