-- Filling short tables. Assumes nothing.
use Prim.Native.Nat.{ℕ, ◌*◌, ◌≤◌}
use mathlib.Core.Path.{◌≡◌, sym, ap, ◌∙◌}
use mathlib.Core.Bool.{true}
use mathlib.Core.List.{List, [], ◌∷◌, ◌++◌}
use native.Mathlib.Nat.{le_trans}
use native.Mathlib.Omega.{arith}
use lib.ListN.{length, get_or, take, drop}
use lib.Seq.{take_at, drop_at}
use Rattle.model.specs.Memory.{Memory, depth}
use Rattle.model.specs.Lookup as book
use Rattle.model.specs.Lookup.{Lookup, very_hops}
use Rattle.model.specs.Consistency.{neighbors}
use Rattle.model.specs.Fill.{Filling, filling, with_records, listed_for}
use Rattle.model.specs.Refusals.{lookup_refusal, fill_refusal}
use Rattle.model.specs.Calls.{Outcome, taken, lookup_fields, filled_by, lookup_call, verdict_call}
use Rattle.model.specs.Run.{fill, step, after, is_taken}
use Rattle.model.proofs.Status.{IsNode, is_node_lem}
use Rattle.model.proofs.Consistency.{consistent_whole}
use Rattle.model.proofs.HopsUnchanged.{arrived_hops, arrived_lookup}
use Rattle.model.proofs.Filling.{Steady, unfilled, filling_fills, filling_onward, filling_whole, filling_none}
use Rattle.model.proofs.FillingRecords.{list_fours, filling_records}
use Rattle.model.proofs.FillingLength.{filling_entries}
use Rattle.model.proofs.FillingFew.{filling_few}
use Rattle.model.proofs.Taken.{lookup_taken, fill_taken, fill_free}
use Rattle.promise.specs.Promise.{Passes}
use Rattle.promise.specs.Fills as specs
use Rattle.promise.specs.Fills.{additions, listed, Arrives, Filled}
use Rattle.promise.proofs.Demand1.{taken_number, number_taken}
use Rattle.promise.proofs.Demand2.{verdict_sound, settled}
use Rattle.promise.proofs.Run.{fill_outcome, fill_after, fill_answer, fill_out}
use Rattle.promise.proofs.Promise.{lookup_answer, passes_whole}
use Rattle.promise.proofs.Failures.{lookup_zero}
use Rattle.promise.proofs.OneJoin.{yes_passes}

-- ---- a filling that is taken

module _ (m : Memory) (out : List ℕ) (r : fill_refusal m out ≡ 0) where
  abbrev s : List ℕ
  s = m.state

  abbrev t : List ℕ
  t = m.tables

  abbrev f : Filling
  f = filling m.state m.tables

  w : Steady s t
  w = (fill_taken m out r).0

  -- its list, by what it answers and writes
  four_each : 4 * additions m out ≡ length f.list
  four_each =
      let n = list_fours s t in
      omega (arith, n.1, ap (λ (l : List ℕ). get_or l 1 0) (fill_answer m out r))

  list_is : listed m out ≡ f.list
  list_is =
      ap (take (4 * additions m out)) (fill_out m out r) ∙ take_at f.list (drop (length f.list) out) (4 * additions m out) (sym four_each)

  tables_are : (after m (fill out)).tables ≡ f.tables
  tables_are = ap (λ (m : Memory). m.tables) (fill_after m out r)

  result_passes : Passes (after m (fill out))
  result_passes =
      rw (fill_after m out r)
      (yes_passes (record { state = s; tables = f.tables }) record {
        sound = (filling_fills s t w).steady.sound;
        in_system = w.settled;
        whole = filling_whole s t w;
      })

  -- a lookup that arrived
  module _ (u z failed : ℕ) (a : Arrives m u z failed) where
    k : lookup_refusal m u z failed ≡ 0
    k = lookup_zero m u z failed a.taken

    nu : IsNode s u
    nu = (lookup_taken m u z failed k).1

    nz : IsNode s z
    nz = (lookup_taken m u z failed k).2

    before : (lookup_call m u z failed).answer ≡ 0 ∷ lookup_fields (book.lookup s t failed u z)
    before = lookup_answer m w.sound u z failed nu nz (lookup_taken m u z failed k).3

    there : (book.lookup s t failed u z).arrived ≡ 1
    there = sym (ap (λ (l : List ℕ). get_or l 1 0) before) ∙ a.arrived

    same_hops : very_hops s f.tables failed u z ≡ very_hops s t failed u z
    same_hops = arrived_hops s t s f.tables w.sound (filling_fills s t w).steady.sound (filling_onward s t w) w.settled failed z nz u nu there

    same_answer : (lookup_call (record { state = s; tables = f.tables }) u z failed).answer ≡ (lookup_call m u z failed).answer
    same_answer =
        lookup_answer (record { state = s; tables = f.tables }) (filling_fills s t w).steady.sound u z failed nu nz (lookup_taken m u z failed k).3
        ∙ ap (λ (r : Lookup). 0 ∷ lookup_fields r)
        (arrived_lookup s t s f.tables w.sound (filling_fills s t w).steady.sound (filling_onward s t w) w.settled failed z nz u nu there)
        ∙ sym before

  filled_is : Filled m out
  filled_is = record {
    state = ap (λ (m : Memory). m.state) (fill_after m out r);
    number = ap length list_is ∙ sym four_each;
    tables = tables_are ∙ filling_records s t ∙ ap (λ (l : List ℕ). with_records (depth s) l t) (sym list_is);
    entries = λ x i j n hi hj.
        ap (λ (t : List ℕ). neighbors s t x i j) tables_are
        ∙ filling_entries s t w x i j (record { node = is_node_lem s x n; level = hi; digit = hj })
        ∙ ap (λ (l : List ℕ). neighbors s t x i j ++ listed_for l x i j) (sym list_is);
    rest =
        ap (drop (4 * additions m out)) (fill_out m out r)
        ∙ drop_at f.list (drop (length f.list) out) (4 * additions m out) (sym four_each)
        ∙ ap (λ (n : ℕ). drop n out) (sym four_each);
    passes = result_passes;
    kept = λ u z failed a. (
      ap (λ (t : List ℕ). very_hops s t failed u z) tables_are ∙ same_hops u z failed a,
      ap (λ (m : Memory). (lookup_call m u z failed).answer) (fill_after m out r) ∙ same_answer u z failed a,
    );
  }

-- ---- a network that passes

module _ (m : Memory) (out : List ℕ) (p : Passes m) where
  none : filling m.state m.tables ≡ unfilled m.tables
  none =
      filling_none m.state m.tables (record { sound = verdict_sound m p.taken; settled = settled m p.taken })
      (consistent_whole m.state m.tables (passes_whole m p))

  whole_outcome : step m (fill out) ≡ record { memory = m; out = out; answer = 0 ∷ 0 ∷ [] }
  unfolding filled_by taken
  whole_outcome =
      fill_outcome m out
      (fill_free m out (record { sound = verdict_sound m p.taken; settled = settled m p.taken })
      (omega (arith, ap (λ (f : Filling). length f.list) none)))
      ∙ ap (filled_by m out) none

  pub whole_after : after m (fill out) ≡ m
  unfolding after
  whole_after = ap (λ (o : Outcome). o.memory) whole_outcome

-- ---- the theorem

enough : (m : Memory) (out : List ℕ) → is_taken (verdict_call m).answer ≡ true → 21504 ≤ length out → is_taken (step m (fill out)).answer ≡ true
enough m out e l =
    let w : Steady m.state m.tables = record { sound = verdict_sound m e; settled = settled m e } in
    number_taken m (fill out) (fill_free m out w (le_trans (filling_few m.state m.tables w) l))

pub fills : specs.Fills
fills = record {
  filled = λ m out e. filled_is m out (taken_number m (fill out) e);
  whole = whole_outcome;
  again = λ m out out' e. whole_outcome (after m (fill out)) out' (result_passes m out (taken_number m (fill out) e));
  enough = enough;
}
