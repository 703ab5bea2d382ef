-- Lines put together piece by piece, and the answers they show. Assumes nothing.
use Rattle.std.proofs.Common.{ℕ, ◌≡◌, ◌≢◌, ◌≤◌, ◌+◌, ◌*◌, arith, ap, sym, subst, ◌∙◌, refl, List, [], ◌∷◌, get_or, drop, length, length-append, Result, Ok, Err}
use Rattle.std.specs.Prelude.{IfOk}
use borrow.Author.Tests.{eq-eqb, ne_eqb}
use Rattle.model.specs.Loops.{join_below}
use Rattle.model.specs.Memory.{Memory}
use Rattle.model.specs.Image.{image_of}
use Rattle.model.specs.Refusals.{write_refusal}
use Rattle.model.specs.Calls.{Outcome, refused_at, refused, taken, read_call, fill_call, write_call}
use Rattle.model.proofs.Calls.{either_end}
use Rattle.model.proofs.Fields.{additions_fit}
use Rattle.answers.specs.Numbers.{number_of, answered}
use Rattle.answers.specs.Fields.{number_fields}
use Rattle.answers.specs.declared.error.Refusal.{Refusal}
use Rattle.answers.proofs.Errors.{numbered_from_one}
use Rattle.engine.specs.Outcomes.{leaves, writes}
use Rattle.putting.specs.Put.{Put}
use Rattle.putting.proofs.Putting.{put_then, four_pieces, pieces_goes}
use Rattle.text.specs.Ascii.{ascii}
use Rattle.text.specs.Lines.{labelled, line}
use Rattle.additions.specs.declared.Addition.{Addition}
use Rattle.additions.specs.Listed.{blank, AdditionOf}
use Rattle.image_program.proofs.Printing.{answer_refused, answer_taken}
use Rattle.fill.specs.Lines.{record_line, record_at, added_lines, fill_text, done_text, fills_to, fill_of, read_and_filled}

-- ---- each piece behind the one before it

pub record_line_put : (x i j y : ℕ) (o : List ℕ) (a : ℕ) (p : List ℕ) (e : ℕ) (q : List ℕ) (g : ℕ) (r : List ℕ) (h : ℕ) (v : List ℕ) (k : ℕ)
    → Put o a (labelled (ascii "record ") x) p e → Put p e (labelled (ascii " ") i) q g → Put q g (labelled (ascii " ") j) r h
    → Put r h (line (ascii " ") y) v k → Put o a (record_line x i j y) v k
unfolding record_line
record_line_put x i j y o a p e q g r h v k P Q R W = four_pieces o a _ p e _ q g P Q _ r h _ v k R W

module _ (o : List ℕ) (a : ℕ) (p : List ℕ) (e : ℕ) (q : List ℕ) (g : ℕ) where
  -- one record more of the list
  pub record_goes : (list : List ℕ) (r : ℕ) (b : Addition) → AdditionOf list r b → Put o a (join_below r (record_at list)) p e
      → Put p e (record_line b.node b.level b.digit b.neighbor) q g → Put o a (join_below (r + 1) (record_at list)) q g
  record_goes list r b is P Q =
      let same : record_line b.node b.level b.digit b.neighbor ≡ record_at list r = cc (is.node, is.level, is.digit, is.neighbor) in
      pieces_goes (record_at list) o a r p e q g P (subst (λ (l : List ℕ). Put p e l q g) same Q)

  pub added_put : (n : ℕ) (list : List ℕ) → Put o a (line (ascii "added ") n) p e → Put p e (join_below n (record_at list)) q g → Put o a (added_lines n list) q g
  unfolding added_lines
  added_put n list P Q = put_then o a _ p e _ q g P Q

-- ---- what a filling answers

-- the records that it answers fit the memory for the list
pub list_fits : (m m₁ : Memory) (out out₁ : List ℕ) (r : Result ℕ Refusal) → writes m₁ out₁ (number_fields r) ≡ fill_call m out → length out₁ ≡ length out
    → IfOk r (λ n. 4 * n ≤ length out₁)
list_fits m m₁ out out₁ (Ok n) e same =
    let fits : 4 * n ≤ length out = subst (λ (n : ℕ). 4 * n ≤ length out) (ap (λ (o : Outcome). get_or o.answer 1 0) (sym e)) (additions_fit m out) in
    omega arith
list_fits m m₁ out out₁ (Err r) e same = tt

first_is : (r : Result ℕ Refusal) → answered r ≡ get_or (number_fields r) 0 0
first_is (Ok n) = refl
first_is (Err r) = refl

module _ (m m₁ : Memory) (list out₁ : List ℕ) (r : Result ℕ Refusal) (b : list ≡ blank) (e : writes m₁ out₁ (number_fields r) ≡ fill_call m list) where
  pub fills : writes m₁ out₁ (number_fields r) ≡ fills_to m
  fills = e ∙ ap (fill_call m) b

  text_of : (r : Result ℕ Refusal) → done_text r out₁ ≡ fill_text (number_fields r) out₁
  text_of (Ok n) = answer_taken (0 ∷ n ∷ []) _ refl
  text_of (Err r) = answer_refused (number_of r ∷ 0 ∷ []) _ (numbered_from_one r)

  pub filled_text : done_text r out₁ ≡ fill_of m
  filled_text = text_of r ∙ ap (λ (o : Outcome). fill_text o.answer o.out) fills

  pub filled_number : answered r ≡ get_or (fills_to m).answer 0 0
  filled_number = first_is r ∙ ap (λ (o : Outcome). get_or o.answer 0 0) fills

-- ---- reading, and filling where that is taken

module _ (m m₁ : Memory) (im answer : List ℕ) (e : leaves m₁ answer ≡ read_call m im) where
  number : get_or (read_call m im).answer 0 0 ≡ get_or answer 0 0
  number = ap (λ (o : Outcome). get_or o.answer 0 0) (sym e)

  pub refused_both : get_or answer 0 0 ≢ 0
      → (m₁ ≡ (read_and_filled m im).memory) × (get_or answer 0 0 ≡ get_or (read_and_filled m im).answer 0 0)
  unfolding read_and_filled
  refused_both nz = rw (number, ne_eqb (get_or answer 0 0) 0 nz) (ap (λ (o : Outcome). o.memory) e, sym number)

  pub taken_both : get_or answer 0 0 ≡ 0 → (m₂ : Memory) (n : ℕ) → m₂ ≡ (fills_to m₁).memory → n ≡ get_or (fills_to m₁).answer 0 0
      → (m₂ ≡ (read_and_filled m im).memory) × (n ≡ get_or (read_and_filled m im).answer 0 0)
  unfolding read_and_filled
  taken_both z m₂ n f g =
      let same : m₁ ≡ (read_call m im).memory = ap (λ (o : Outcome). o.memory) e in
      rw (number, eq-eqb (get_or answer 0 0) 0 z) (f ∙ ap (λ (m : Memory). (fills_to m).memory) same, g ∙ ap (λ (m : Memory). get_or (fills_to m).answer 0 0) same)

-- ---- what is written fits its memory

pub image_within : (m : Memory) (v : ℕ) (out out₁ : List ℕ) (r n : ℕ) → writes m out₁ (r ∷ n ∷ []) ≡ write_call m v out → n ≤ length out₁
unfolding write_call refused_at taken
image_within m v out out₁ r n e =
    subst (λ (o : Outcome). get_or o.answer 1 0 ≤ length o.out) (sym e)
    (either_end (λ (o : Outcome). get_or o.answer 1 0 ≤ length o.out) (write_refusal m v out) (refused m out 1) _ (λ nz. omega arith)
    (λ z. let im : List ℕ = image_of v m.state m.tables in omega (arith, length-append im (drop (length im) out))))
