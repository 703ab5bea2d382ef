-- A run that is stopped, saved and gone on with elsewhere goes on as without the stop. Assumes nothing.
use Prim.Native.Nat.{ℕ, ◌+◌}
use mathlib.Core.Path.{◌≡◌, sym, ap, ◌∙◌}
use mathlib.Core.Bool.{Bool, true, false, cond, ◌&&◌}
use mathlib.Core.List.{List, [], ◌∷◌, ◌++◌}
use native.Mathlib.Nat.{add-zero}
use native.Mathlib.Omega.{arith}
use lib.Dec.{eqb}
use lib.ListN.{get_or, take}
use Rattle.model.specs.Memory.{Memory, state_length, node_of, requests_of, notices_of}
use Rattle.model.specs.Refusals.{memory_short, read_refusal}
use Rattle.model.specs.Calls.{read_call, write_call}
use Rattle.model.specs.Run.{Call, found, read, begin, withdraw, deliver, lookup, survey, verdict, fill, write, trace, sound, Event, step, after, play, history, is_taken, starts, is_run, keeps_asking, answers_notice, tallied, tally, tally_from, sent, answered}
use Rattle.model.proofs.Bools.{and_left, and_right, or_none_left, or_none_right}
use Rattle.model.proofs.Status.{IsNode, is_node_lem, is_node_of}
use Rattle.model.proofs.RequestBound.{requests_most}
use Rattle.model.proofs.Taken.{read_taken, not_short}
use Rattle.model.proofs.Calls.{taken_zero}
use Rattle.model.proofs.Alike.{count_same, record_same}
use Rattle.promise.specs.Fixed.{fixed}
use Rattle.promise.specs.Promise.{NodeIn}
use Rattle.promise.specs.Resumed.{SameRuns, restored, Restored, saved_image, CountsGoOn, begins_as, begun_in, Resumed}
use Rattle.promise.proofs.Demand1.{demand1, alike_run}
use Rattle.promise.proofs.Demand2.{sound_written, demand2}
use Rattle.promise.proofs.RunCounts.{Count, Kept, request_count, notice_count, requests_kept, notices_kept, run_counted, tally_append}
use Rattle.promise.proofs.Promise.{run_tally, run_sound, promise}

-- ---- memories alike in the fixed lengths

same_runs : (m m' : Memory) → fixed m' ≡ fixed m → SameRuns m m'
same_runs m m' e = record {
  next = λ cs c. (demand1 (play m cs) c).unread (play m' cs) (alike_run m m' cs e).1;
  histories = λ cs. (alike_run m m' cs e).0;
}

-- ---- a state that is saved

module _ (m m' : Memory) (out : List ℕ) (e : is_taken (write_call m 2 out).answer ≡ true) (long : memory_short m' ≡ false) where
  back : fixed (restored m m' out) ≡ fixed m
  back = (demand2.written_back m m' 2 out e long).state

  goes_on : Restored m m' out
  goes_on = record {
    taken = (demand2.written_back m m' 2 out e long).taken;
    state = back;
    runs = same_runs m (restored m m' out) back;
  }

-- ---- the counts of both runs

module _ (m : Memory) (c : Call) (cs : List Call) (run : is_run m c cs ≡ true)
    (out : List ℕ) (e : is_taken (write_call (play m (c ∷ cs)) 2 out).answer ≡ true)
    (m' : Memory) (ds : List Call) (again : is_run m' (read (saved_image m c cs out)) ds ≡ true) where
  -- the memory that was saved, and the one that is restored
  abbrev M : Memory
  M = play m (c ∷ cs)

  abbrev M' : Memory
  M' = after m' (read (saved_image m c cs out))

  start : starts m' (read (saved_image m c cs out)) ≡ true
  unfolding is_run
  start = and_left (starts m' (read (saved_image m c cs out))) _ again

  -- the new memory is long enough, as the reading is taken
  long : memory_short m' ≡ false
  unfolding starts step read_call
  long =
      not_short m' (read_taken m' (saved_image m c cs out) (taken_zero m' (read_refusal m' (saved_image m c cs out)) [] _ _ start)).0

  same : take state_length M'.state ≡ take state_length M.state
  unfolding after step
  same = ap (λ (m : Memory). m.state) (back M m' out e long)

  -- a node's record is the one that was saved
  record_back : (x : ℕ) → IsNode M'.state x → IsNode M.state x × (node_of M'.state x ≡ node_of M.state x)
  record_back x n =
      let there : IsNode M.state x = record { low = n.low; high = omega (arith, n.high, count_same M.state M'.state same) } in
      (there, record_same M.state M'.state same x (omega (arith, there.high, (sound_written M 2 out e).few)))

  -- what the first history counts, the second goes on from
  both : (k : Count) (K : Kept k)
      → ((x : ℕ) → IsNode M.state x → k.of (node_of M.state x) ≡ tally_from k.first k.counts x (k.of (node_of (after m c).state x)) (history m (c ∷ cs)))
      → (x : ℕ) → IsNode (play m' (read (saved_image m c cs out) ∷ ds)).state x
      → k.of (node_of (play m' (read (saved_image m c cs out) ∷ ds)).state x)
      ≡ tally_from k.first k.counts x (k.of (node_of (after m c).state x)) (history m (c ∷ cs) ++ history m' (read (saved_image m c cs out) ∷ ds))
  unfolding is_run play
  both k K counted x n =
      run_counted k K count M' ds (λ x n. let r = record_back x n in ap k.of r.1 ∙ counted x r.0)
      (and_right (starts m' (read (saved_image m c cs out))) _ again) x n
      ∙ run_tally m' (read (saved_image m c cs out)) start k K x (count x) ds
      ∙ sym (tally_append k.first k.counts x (k.of (node_of (after m c).state x)) (history m (c ∷ cs)) (history m' (read (saved_image m c cs out) ∷ ds)))
    where
      count : ℕ → ℕ
      count x = tally_from k.first k.counts x (k.of (node_of (after m c).state x)) (history m (c ∷ cs))

  counts_go_on : (x : ℕ) → NodeIn (play m' (read (saved_image m c cs out) ∷ ds)) x → CountsGoOn m c cs out m' ds x
  counts_go_on x here =
      let end : Memory = play m' (read (saved_image m c cs out) ∷ ds) in
      let n = is_node_lem end.state x here in
      record {
        requests = both request_count requests_kept (λ x n. ((promise m c cs run).counted x (is_node_of M.state x n)).0) x n;
        notices = both notice_count notices_kept (λ x n. ((promise m c cs run).counted x (is_node_of M.state x n)).1) x n;
        bounded = requests_most end.state end.tables (run_sound m' (read (saved_image m c cs out)) ds again) x n;
      }

-- ---- a node that did not begin

module _ (first : ℕ) (counts : ℕ → Bool) (x : ℕ) where
  -- an event that is no beginning of x adds to a count what it adds to nothing
  one_added : (n : ℕ) (e : Event) → (is_taken e.answer && begins_as x e.call e.answer) ≡ false → tally first counts x e n ≡ n + tally first counts x e 0
  unfolding tally
  one_added n e = go (is_taken e.answer) e.call
    where
      same : n ≡ n + 0
      same = sym (add-zero n)

      go : (taken : Bool) (c : Call) → (taken && begins_as x c e.answer) ≡ false
          → cond taken (tallied first counts x c e.answer n) n ≡ n + cond taken (tallied first counts x c e.answer 0) 0
      go false c h = same
      go true (found b d K id) h = same
      go true (read im) h = same
      go true (begin id gateway) h = rw h same
      go true (withdraw y) h = same
      go true (deliver y z) h = own (eqb y x && counts (get_or e.answer 1 0))
        where
          own : (is : Bool) → cond is (n + 1) n ≡ n + cond is (0 + 1) 0
          own true = omega arith
          own false = same
      go true (lookup u z failed) h = same
      go true (survey failed) h = same
      go true verdict h = same
      go true (fill out) h = same
      go true (write v out) h = same
      go true (trace file) h = same
      go true sound h = same

  all_added : (es : List Event) → begun_in x es ≡ false → (n : ℕ) → tally_from first counts x n es ≡ n + tally_from first counts x 0 es
  unfolding begun_in tally_from
  all_added [] h n = sym (add-zero n)
  all_added (e ∷ es) h n =
      let rest = all_added es (or_none_right (is_taken e.answer && begins_as x e.call e.answer) _ h) in
      let one = one_added n e (or_none_left (is_taken e.answer && begins_as x e.call e.answer) _ h) in
      omega (arith, rest (tally first counts x e n), rest (tally first counts x e 0), one)

added : (m : Memory) (c : Call) (cs : List Call) → is_run m c cs ≡ true → (x : ℕ) → NodeIn (play m (c ∷ cs)) x → begun_in x (history m (c ∷ cs)) ≡ false
    → (requests_of (play m (c ∷ cs)).state x ≡ requests_of (after m c).state x + sent x (history m (c ∷ cs)))
    × (notices_of (play m (c ∷ cs)).state x ≡ notices_of (after m c).state x + answered x (history m (c ∷ cs)))
added m c cs run x there h =
    let k = (promise m c cs run).counted x there in
    let es : List Event = history m (c ∷ cs) in
    (k.0 ∙ all_added 1 keeps_asking x es h (requests_of (after m c).state x), k.1 ∙ all_added 0 answers_notice x es h (notices_of (after m c).state x))

-- ---- the theorem

pub resumed : Resumed
resumed = record { alike = same_runs; goes_on = goes_on; counts = counts_go_on; added = added }
