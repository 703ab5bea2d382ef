-- Demand 3: what holds of every run. Assumes nothing.
use Prim.Native.Nat.{ℕ, ◌+◌, ◌-◌, ◌≤◌}
use mathlib.Core.Path.{◌≡◌, refl, sym, ap, subst, ◌∙◌}
use mathlib.Core.Bool.{true, false, not, false≢true}
use mathlib.Core.List.{List, [], ◌∷◌, ◌++◌}
use native.Mathlib.Omega.{arith}
use lib.ListN.{get_or}
use Rattle.model.specs.Memory.{Memory, digits, node_of, has_node}
use Rattle.model.specs.Lookup as book
use Rattle.model.specs.Lookup.{Lookup, very_hops, end_failed}
use Rattle.model.specs.Consistency.{consistent}
use Rattle.model.specs.Refusals.{found_refusal, read_refusal, lookup_refusal}
use Rattle.model.specs.Calls.{Outcome, refused, taken, lookup_fields, found_call, read_call, lookup_call}
use Rattle.model.specs.Run.{Call, found, read, begin, withdraw, deliver, lookup, survey, verdict, fill, write, trace, sound, step, after, play, history, is_taken, starts, goes_on, is_run, tally_from, sent}
use Rattle.model.proofs.Bools.{and_left, and_right, and_intro, or_none_right}
use Rattle.model.proofs.Status.{IsNode, is_node_lem}
use Rattle.model.proofs.NodeCounts.{Fresh}
use Rattle.model.proofs.RequestBound.{requests_most}
use Rattle.model.proofs.Sound.{Sound}
use Rattle.model.proofs.FoundingIsSound.{founded_fresh, founded_ok}
use Rattle.model.proofs.ReadingIsSound.{read_sound, read_fresh}
use Rattle.model.proofs.Lookup.{hops_bound}
use Rattle.model.proofs.HopsUnchanged.{still_node, same_lookup, same_hops}
use Rattle.model.proofs.TablesOnlyGrow.{Onward}
use Rattle.model.proofs.Taken.{found_taken, lookup_free}
use Rattle.promise.specs.Promise.{already_matched, Passes, NodeIn, restores, Demand3}
use Rattle.model.proofs.Calls.{taken_is, taken_zero}
use Rattle.promise.proofs.Steps.{Idle, looks, quiet}
use Rattle.promise.proofs.Run.{run_goes}
use Rattle.promise.proofs.RunCounts.{Count, Kept, request_count, notice_count, requests_kept, notices_kept, run_counted, few_sent}
use Rattle.promise.proofs.Demand2.{settled, says_yes}

-- ---- the start

abbrev SoundAfter : Outcome → Type 0
SoundAfter o = Sound o.memory.state o.memory.tables

abbrev FreshAfter : Outcome → Type 0
FreshAfter o = (x : ℕ) → IsNode o.memory.state x → Fresh o.memory.state x

-- a taken founding or reading leaves a sound state, in which nothing is counted but where version 2 is read, and counts nothing itself
pub record Started (m : Memory) (c : Call) : Type 0 where
  pub sound : Sound (after m c).state (after m c).tables
  pub fresh : restores c ≡ false → (x : ℕ) → IsNode (after m c).state x → Fresh (after m c).state x
  pub idle : Idle m c

module _ (m : Memory) where
  pub started : (c : Call) → starts m c ≡ true → Started m c
  unfolding starts step after found_call read_call taken
  started (found b d K id) e =
      let z = taken_zero m (found_refusal m b d K id) [] _ _ e in
      let k = found_taken m b d K id z in
      let S = founded_ok m.state m.tables b d K id k.long k.range k.valid in
      let w = sym (taken_is (found_refusal m b d K id) (refused m [] 0) _ z) in
      record {
        sound = subst SoundAfter w S;
        fresh = λ plain. subst FreshAfter w (founded_fresh m.state m.tables b d K id k.long k.range k.valid);
        idle = looks (λ p q x a n. refl);
      }
  started (read im) e =
      let z = taken_zero m (read_refusal m im) [] _ _ e in
      let w = sym (taken_is (read_refusal m im) _ _ z) in
      record {
        sound = subst SoundAfter w (read_sound m im z);
        fresh = λ plain. subst FreshAfter w (read_fresh m im z plain);
        idle = looks (λ p q x a n. refl);
      }
  started (begin id g) e = absurd (false≢true e)
  started (withdraw x) e = absurd (false≢true e)
  started (deliver x y) e = absurd (false≢true e)
  started (lookup u z failed) e = absurd (false≢true e)
  started (survey failed) e = absurd (false≢true e)
  started verdict e = absurd (false≢true e)
  started (fill out) e = absurd (false≢true e)
  started (write v out) e = absurd (false≢true e)
  started (trace file) e = absurd (false≢true e)
  started sound e = absurd (false≢true e)

-- ---- the counts of a run

module _ (m : Memory) (c : Call) (start : starts m c ≡ true) (k : Count) (K : Kept k) where
  -- the start counts nothing itself, so what the run counts is what its other calls do
  pub run_tally : (x n : ℕ) (cs : List Call)
      → tally_from k.first k.counts x n (history (after m c) cs) ≡ tally_from k.first k.counts x n (history m (c ∷ cs))
  unfolding history tally_from
  run_tally x n cs =
      ap (λ (n : ℕ). tally_from k.first k.counts x n (history (after m c) cs))
      (sym (quiet m c (started m c start).idle k.first k.counts x n))

  -- what the record of x counted at the start
  abbrev first : ℕ → ℕ
  first x = k.of (node_of (after m c).state x)

  counted : (cs : List Call) → goes_on (after m c) cs ≡ true → (x : ℕ) → IsNode (play (after m c) cs).state x
      → k.of (node_of (play (after m c) cs).state x) ≡ tally_from k.first k.counts x (first x) (history m (c ∷ cs))
  counted cs on x n = run_counted k K first (after m c) cs (λ x n. refl) on x n ∙ run_tally x (first x) cs

-- ---- a verdict that says yes

pub passes_whole : (m : Memory) → Passes m → consistent m.state m.tables ≡ true
passes_whole m p = says_yes m p.taken p.yes

-- ---- lists of calls

pub play_append : (m : Memory) (early late : List Call) → play m (early ++ late) ≡ play (play m early) late
unfolding play
play_append m [] late = refl
play_append m (c ∷ early) late = play_append (after m c) early late

on_early : (m : Memory) (early late : List Call) → goes_on m (early ++ late) ≡ true → goes_on m early ≡ true
unfolding goes_on
on_early m [] late e = refl
on_early m (c ∷ early) late e =
    and_intro (not (starts m c)) (goes_on (after m c) early) (and_left (not (starts m c)) _ e)
    (on_early (after m c) early late (and_right (not (starts m c)) _ e))

on_late : (m : Memory) (early late : List Call) → goes_on m (early ++ late) ≡ true → goes_on (play m early) late ≡ true
unfolding goes_on play
on_late m [] late e = e
on_late m (c ∷ early) late e = on_late (after m c) early late (and_right (not (starts m c)) _ e)

-- ---- the three parts, of a list of calls from a sound state

requests_bound : (m : Memory) (c : Call) → starts m c ≡ true → (cs : List Call) → goes_on (after m c) cs ≡ true → (x : ℕ)
    → sent x (history m (c ∷ cs)) ≤ digits (play (after m c) cs).state + 1
requests_bound m c start cs on x =
    omega (
      arith,
      few_sent request_count requests_kept 1 requests_most 1 (omega arith) (after m c) cs (started m c start).sound on x,
      run_tally m c start request_count requests_kept x 0 cs,
    )

module _ (m : Memory) (S : Sound m.state m.tables) (u z failed : ℕ) (nu : IsNode m.state u) (nz : IsNode m.state z)
    (left : end_failed failed u z ≡ false) where
  pub lookup_answer : (lookup_call m u z failed).answer ≡ 0 ∷ lookup_fields (book.lookup m.state m.tables failed u z)
  unfolding lookup_call taken
  lookup_answer =
      ap (λ (o : Outcome). o.answer) (taken_is (lookup_refusal m u z failed) (refused m [] 3) _ (lookup_free m u z failed S nu nz left))

  lookup_bound : (is_taken (lookup_call m u z failed).answer ≡ true)
      × (get_or (lookup_call m u z failed).answer 2 0 ≤ digits m.state - already_matched m u z)
  lookup_bound = (
    ap is_taken lookup_answer,
    omega (arith, ap (λ (l : List ℕ). get_or l 2 0) lookup_answer, hops_bound m.state m.tables S failed z nz u nu),
  )

-- from a point where the network passes to any later one
lookups_stay : (m m' : Memory) → Sound m.state m.tables → Sound m'.state m'.tables
    → Onward m.state m.tables m'.state m'.tables → Passes m → (u z failed : ℕ) → NodeIn m u → NodeIn m z → end_failed failed u z ≡ false
    → (very_hops m'.state m'.tables failed u z ≡ very_hops m.state m.tables failed u z)
    × ((lookup_call m' u z failed).answer ≡ (lookup_call m u z failed).answer)
lookups_stay m m' S S' on p u z failed a b left =
    let nu = is_node_lem m.state u a in
    let nz = is_node_lem m.state z b in
    let all = settled m p.taken in
    let to = or_none_right (has_node failed u) (has_node failed z) left in
    let whole = passes_whole m p in (
      same_hops m.state m.tables m'.state m'.tables S S' on all whole failed z nz to u nu,
      lookup_answer m' S' u z failed (still_node m.state m.tables m'.state m'.tables S S' on all u nu)
          (still_node m.state m.tables m'.state m'.tables S S' on all z nz) left
          ∙ ap (λ (r : Lookup). 0 ∷ lookup_fields r) (same_lookup m.state m.tables m'.state m'.tables S S' on all whole failed z nz to u nu)
          ∙ sym (lookup_answer m S u z failed nu nz left),
    )

-- ---- the theorem

-- every state of a run is sound
pub run_sound : (m : Memory) (c : Call) (cs : List Call) → is_run m c cs ≡ true → Sound (play m (c ∷ cs)).state (play m (c ∷ cs)).tables
unfolding is_run play
run_sound m c cs run =
    (run_goes (after m c) cs (started m c (and_left (starts m c) _ run)).sound (and_right (starts m c) _ run)).sound

pub promise : Demand3
unfolding is_run play
promise m c cs run =
    let start : starts m c ≡ true = and_left (starts m c) _ run in
    let on : goes_on (after m c) cs ≡ true = and_right (starts m c) _ run in
    let S : Sound (after m c).state (after m c).tables = (started m c start).sound in
    let G = run_goes (after m c) cs S on in
    let M : Memory = play (after m c) cs in
    record {
      requests = requests_bound m c start cs on;
      counted =
          λ x a.
          let n = is_node_lem M.state x a in
          (counted m c start request_count requests_kept cs on x n, counted m c start notice_count notices_kept cs on x n);
      fresh = λ plain x a. (started m c start).fresh plain x (is_node_lem (after m c).state x a);
      lookups = λ u z failed a b left. lookup_bound M G.sound u z failed (is_node_lem M.state u a) (is_node_lem M.state z b) left;
      unchanged =
          λ early late e.
          let on' : goes_on (after m c) (early ++ late) ≡ true = subst (λ (cs : List Call). goes_on (after m c) cs ≡ true) e on in
          let E = run_goes (after m c) early S (on_early (after m c) early late on') in
          let L = run_goes (play (after m c) early) late E.sound (on_late (after m c) early late on') in
          let w : play (after m c) cs ≡ play (play (after m c) early) late = ap (play (after m c)) e ∙ play_append (after m c) early late in
          subst
          (λ (M : Memory).
          Passes (play (after m c) early) → (u z failed : ℕ) → NodeIn (play (after m c) early) u → NodeIn (play (after m c) early) z → end_failed failed u z ≡ false
          → (very_hops M.state M.tables failed u z ≡ very_hops (play (after m c) early).state (play (after m c) early).tables failed u z)
          × ((lookup_call M u z failed).answer ≡ (lookup_call (play (after m c) early) u z failed).answer))
          (sym w)
          (lookups_stay (play (after m c) early) (play (play (after m c) early) late) E.sound L.sound L.onward);
    }
