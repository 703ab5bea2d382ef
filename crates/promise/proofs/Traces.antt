-- Traces of other routers: which are accepted, that those of lookups are, and where a refusal points. Assumes nothing.
use Prim.Native.Nat.{ℕ, zero, suc, ◌+◌, ◌-◌, ◌≤◌, ◌<◌}
use mathlib.Core.Path.{◌≡◌, refl, sym, ap, ap₂, subst, subst₂, subst₃, ◌∙◌}
use mathlib.Core.Bool.{Bool, true, false}
use mathlib.Core.List.{List, [], ◌∷◌, ◌++◌, append_assoc, append-nil}
use native.Mathlib.Omega.{arith}
use lib.ListN.{length, get_or, length-append, get_or-append}
use lib.Seq.{get_or-append-add, get_or_at}
use Rattle.model.specs.Memory.{Memory}
use Rattle.model.specs.Lookup.{last_of}
use Rattle.model.specs.Traces.{path_count, path_start, place_count, step_count, place_at, destination, place_named, may_go, step_allowed, in_paths, first_fault, places_named}
use Rattle.model.specs.Refusals.{trace_refusal, trace_place}
use Rattle.model.specs.Calls.{trace_call}
use Rattle.model.specs.Run.{trace, sound, step}
use Rattle.model.proofs.Status.{is_node_lem, is_node_of}
use Rattle.model.proofs.Sound.{Sound}
use Rattle.model.proofs.Lookup.{last_at}
use Rattle.model.proofs.Taken.{state_taken, sound_free}
use Rattle.model.proofs.Traces.{trace_counts, trace_counts_of, fault, may_go_lem, may_go_of, places_named_lem, places_named_of, steps_allowed_lem, steps_allowed_of, trace_taken, trace_free, refused_9, refused_23, trace_place_none, trace_answer}
use Rattle.model.proofs.TracedHops.{hops_traceable}
use Rattle.promise.specs.Promise.{NodeIn}
use Rattle.promise.specs.Traces.{IsSound, Accepts, Goes, Accepted, paths_bytes, trace_of, GoodPath, OfLookup, Each, refusal_of, path_of, place_of, FirstToFail, Traces}
use Rattle.promise.proofs.Demand1.{taken_number, number_taken}

-- ---- which traces are accepted

module _ (m : Memory) where
  -- what the calls say, and the book's facts
  sound_of : IsSound m → Sound m.state m.tables
  unfolding step
  sound_of e = state_taken m (taken_number m sound e)

  is_sound : Sound m.state m.tables → IsSound m
  unfolding step
  is_sound S = number_taken m sound (sound_free m S)

  goes : (u v z : ℕ) → may_go m.state m.tables u v z ≡ true → Goes m u v z
  goes u v z e =
      let g = may_go_lem m.state m.tables u v z e in
      record { before = g.0; slot = g.1; filled = g.2; holds = g.3 }

  goes_of : (u v z : ℕ) → Goes m u v z → may_go m.state m.tables u v z ≡ true
  goes_of u v z g = may_go_of m.state m.tables u v z g.before g.slot g.filled g.holds

  nodes_in : (file : List ℕ) → places_named m.state file ≡ true → (p k : ℕ) → p < path_count file → k < place_count file p → NodeIn m (place_at file p k)
  nodes_in file e p k l h = is_node_of m.state (place_at file p k) (places_named_lem m.state file e p k l h)

  accepted : (file : List ℕ) → Accepts m file → Accepted m file
  unfolding step
  accepted file e =
      let r = trace_taken m file (taken_number m (trace file) e) in
      let c = trace_counts file r.1 in
      record {
        sound = is_sound r.0;
        some = c.some;
        counts = c.counts;
        ends = c.ends;
        nodes = nodes_in file r.2;
        steps = λ p k l h. goes _ _ _ (steps_allowed_lem m.state m.tables file r.3 p k l (omega arith));
      }

  accepts : (file : List ℕ) → Accepted m file → Accepts m file
  unfolding step
  accepts file a =
      number_taken m (trace file)
      (trace_free m file (sound_of a.sound) (trace_counts_of file (record { some = a.some; counts = a.counts; ends = a.ends }))
      (places_named_of m.state file (λ p k l h. is_node_lem m.state (place_at file p k) (a.nodes p k l h)))
      (steps_allowed_of m.state m.tables file (λ p k l h. goes_of _ _ _ (a.steps p k l (omega arith)))))

-- ---- the bytes of some paths

-- path n of the trace is this path
record Stands (file : List ℕ) (n : ℕ) (path : List ℕ) : Type 0 where
  count : place_count file n ≡ length path
  places : (k : ℕ) → k < length path → place_at file n k ≡ get_or path k 0

-- the paths from path i of the trace on are these, and no others
record Reads (file : List ℕ) (i : ℕ) (paths : List (List ℕ)) : Type 0 where
  at : (p n : ℕ) → n ≡ i + p → p < length paths → Stands file n (get_or paths p [])
  ends : (n : ℕ) → n ≡ i + length paths → length file ≡ path_start file n

-- a path whose bytes stand behind others, where path i starts
module _ (file front path rest : List ℕ) (e : file ≡ front ++ (length path ∷ (path ++ rest))) (i : ℕ) (start : path_start file i ≡ length front) where
  stands : Stands file i path
  stands = record {
    count = ap (λ (l : List ℕ). get_or l (path_start file i) 0) e ∙ get_or_at front (length path) (path ++ rest) 0 (path_start file i) (sym start);
    places = λ k l.
        let w : path_start file i + 1 + k ≡ length front + suc k = omega (arith, start) in
        ap₂ (λ (l : List ℕ) (a : ℕ). get_or l a 0) e w
        ∙ get_or-append-add front (length path ∷ (path ++ rest)) (suc k) 0
        ∙ get_or-append path rest 0 k l;
  }

  -- the next one starts behind it
  next_start : path_start file (suc i) ≡ length (front ++ (length path ∷ path))
  unfolding path_start
  next_start = omega (arith, start, stands.count, length-append front (length path ∷ path))

  one_more : (paths : List (List ℕ)) → Reads file (suc i) paths → Reads file i (path ∷ paths)
  one_more paths r = record { at = at; ends = λ n q. r.ends n (omega arith) }
    where
      at : (p n : ℕ) → n ≡ i + p → p < length (path ∷ paths) → Stands file n (get_or (path ∷ paths) p [])
      at zero n q l = let w : i ≡ n = omega arith in subst (λ (n : ℕ). Stands file n path) w stands
      at (suc p) n q l = r.at p n (omega arith) (omega arith)

-- the bytes of some paths behind others
reads : (paths : List (List ℕ)) (file front : List ℕ) → file ≡ front ++ paths_bytes paths → (i : ℕ) → path_start file i ≡ length front
    → Reads file i paths
unfolding paths_bytes
reads [] file front e i start = record {
  at = λ p n q l. absurd (omega arith);
  ends = λ n q.
      let w : i ≡ n = omega arith in
      ap length (e ∙ append-nil front) ∙ sym start ∙ ap (path_start file) w;
}
reads (path ∷ paths) file front e i start =
    one_more file front path (paths_bytes paths) e i start paths
    (reads paths file (front ++ (length path ∷ path)) (e ∙ sym (append_assoc front (length path ∷ path) (paths_bytes paths))) (suc i)
    (next_start file front path (paths_bytes paths) e i start))

-- all of them, behind the count of paths
traced : (paths : List (List ℕ)) → Reads (trace_of paths) 0 paths
unfolding trace_of path_start
traced paths = reads paths (trace_of paths) (length paths ∷ []) refl 0 refl

path_at : (paths : List (List ℕ)) (p : ℕ) → p < length paths → Stands (trace_of paths) p (get_or paths p [])
path_at paths p = (traced paths).at p p (omega arith)

-- ---- good paths

-- each of the paths, by its number
module _ (Good : List ℕ → Type 0) where
  each_at : (paths : List (List ℕ)) → Each Good paths → (p : ℕ) → p < length paths → Good (get_or paths p [])
  unfolding Each
  each_at [] e p l = absurd (omega arith)
  each_at (path ∷ paths) e zero l = e.0
  each_at (path ∷ paths) e (suc p) l = each_at paths e.1 p (omega arith)

  each_of : (paths : List (List ℕ)) → ((p : ℕ) → p < length paths → Good (get_or paths p [])) → Each Good paths
  unfolding Each
  each_of [] f = _
  each_of (path ∷ paths) f = (f 0 (omega arith), each_of paths (λ p l. f (suc p) (omega arith)))

-- a path of a trace is good exactly where its counts, its places and its steps are right
module _ (m : Memory) (file : List ℕ) (n : ℕ) (path : List ℕ) (at : Stands file n path) where
  last_is : 1 ≤ length path → destination file n ≡ last_of path
  last_is l = ap (λ (c : ℕ). place_at file n (c - 1)) at.count ∙ at.places (length path - 1) (omega arith) ∙ last_at path

  good : Accepted m file → n < path_count file → GoodPath m path
  good a l =
      let least : 1 ≤ length path = omega (arith, at.count, (a.counts n l).0) in
      record {
        least = least;
        most = omega (arith, at.count, (a.counts n l).1);
        nodes = λ k h. subst (NodeIn m) (at.places k h) (a.nodes n k l (omega (arith, at.count)));
        steps = λ k h.
            subst₃ (Goes m) (at.places k (omega arith)) (at.places (k + 1) h) (last_is least) (a.steps n k l (omega (arith, at.count)));
      }

  module _ (g : GoodPath m path) where
    good_counts : (1 ≤ place_count file n) × (place_count file n ≤ 9)
    good_counts = (omega (arith, at.count, g.least), omega (arith, at.count, g.most))

    good_nodes : (k : ℕ) → k < place_count file n → NodeIn m (place_at file n k)
    good_nodes k l = let h : k < length path = omega (arith, at.count) in subst (NodeIn m) (sym (at.places k h)) (g.nodes k h)

    good_steps : (k : ℕ) → k + 1 < place_count file n → Goes m (place_at file n k) (place_at file n (k + 1)) (destination file n)
    good_steps k l =
        let h : k + 1 < length path = omega (arith, at.count) in
        subst₃ (Goes m) (sym (at.places k (omega arith))) (sym (at.places (k + 1) h)) (sym (last_is g.least)) (g.steps k h)

-- the very hops of a lookup are a good path
of_lookup : (m : Memory) → Sound m.state m.tables → (path : List ℕ) → OfLookup m path → GoodPath m path
of_lookup m S path o =
    let to = is_node_lem m.state o.to o.ends in
    let T = hops_traceable m.state m.tables S o.failed o.to to o.from (is_node_lem m.state o.from o.starts) in
    subst (GoodPath m) (sym o.hops)
    (record {
      least = T.least;
      most = T.most;
      nodes = λ k l. is_node_of m.state _ (T.nodes k l);
      steps = λ k l. goes m _ _ _ (T.steps k l);
    })

-- the trace of some paths
module _ (m : Memory) (paths : List (List ℕ)) where
  each_good : Accepts m (trace_of paths) → Each (GoodPath m) paths
  unfolding trace_of
  each_good e =
      each_of (GoodPath m) paths (λ p l. good m (trace_of paths) p (get_or paths p []) (path_at paths p l) (accepted m (trace_of paths) e) l)

  good_paths : IsSound m → Each (GoodPath m) paths → Accepts m (trace_of paths)
  unfolding trace_of
  good_paths s each =
      let g = each_at (GoodPath m) paths each in
      accepts m (trace_of paths)
      (record {
        sound = s;
        some = omega arith;
        counts = λ p l. good_counts m (trace_of paths) p (get_or paths p []) (path_at paths p l) (g p l);
        ends = (traced paths).ends (length paths) (omega arith);
        nodes = λ p k l. good_nodes m (trace_of paths) p (get_or paths p []) (path_at paths p l) (g p l) k;
        steps = λ p k l. good_steps m (trace_of paths) p (get_or paths p []) (path_at paths p l) (g p l) k;
      })

  lookups : IsSound m → Each (OfLookup m) paths → Accepts m (trace_of paths)
  lookups s each =
      good_paths s
      (each_of (GoodPath m) paths (λ p l. of_lookup m (sound_of m s) (get_or paths p []) (each_at (OfLookup m) paths each p l)))

none : (m : Memory) → IsSound m → Accepts m (0 ∷ [])
unfolding trace_of paths_bytes Each
none m s = good_paths m [] s _

-- ---- where a refusal points

module _ (m : Memory) (file : List ℕ) where
  -- what is answered is the refusal
  refusal_is : (n : ℕ) → refusal_of m file ≡ n → trace_refusal m file ≡ n
  refusal_is n e = sym (ap (λ (answer : List ℕ). get_or answer 0 0) (trace_answer m file)) ∙ e

  -- and behind it path and place
  field_is : (n : ℕ) → refusal_of m file ≡ n → (k : ℕ) → get_or (trace_call m file).answer (suc k) 0 ≡ get_or (trace_place m file n) k 0
  field_is n e k =
      ap (λ (answer : List ℕ). get_or answer (suc k) 0) (trace_answer m file) ∙ ap (λ (n : ℕ). get_or (trace_place m file n) k 0) (refusal_is n e)

  -- at the first fault, if the number is that of the test
  first_to_fail : (size : ℕ → ℕ) (test : ℕ → ℕ → Bool) (n : ℕ) → refusal_of m file ≡ n → trace_place m file n ≡ first_fault (path_count file) size test
      → in_paths (path_count file) size test ≡ false → FirstToFail file size test (path_of m file) (place_of m file)
  first_to_fail size test n e is fails =
      let f = fault (path_count file) size test fails in
      let fields = is ∙ f.is in
      let p : f.path ≡ f.path + 1 - 1 = omega arith in
      let k : f.index ≡ f.index + 1 - 1 = omega arith in
      subst₂ (FirstToFail file size test) (sym (field_is n e 0 ∙ ap (λ (l : List ℕ). get_or l 0 0) fields))
      (sym (field_is n e 1 ∙ ap (λ (l : List ℕ). get_or l 1 0) fields))
      (record {
        path_least = omega arith;
        path_most = omega (arith, f.path_in);
        place_least = omega arith;
        place_most = subst (λ (p : ℕ). f.index + 1 ≤ size p) p (omega (arith, f.index_in));
        fails = subst₂ (λ (p k : ℕ). test p k ≡ false) p k f.fails;
        before = λ i h. subst (λ (p : ℕ). test p i ≡ true) p (f.before i (omega arith));
        earlier = λ i j h. f.earlier i j (omega arith);
      })

  nine : refusal_of m file ≡ 9 → FirstToFail file (place_count file) (place_named m.state file) (path_of m file) (place_of m file)
  unfolding trace_place
  nine e = first_to_fail (place_count file) (place_named m.state file) 9 e refl (refused_9 m file (refusal_is 9 e)).1

  twenty_three : refusal_of m file ≡ 23
      → ((p k : ℕ) → p < path_count file → k < place_count file p → NodeIn m (place_at file p k))
      × FirstToFail file (step_count file) (step_allowed m.state m.tables file) (path_of m file) (place_of m file)
  unfolding trace_place
  twenty_three e =
      let r = refused_23 m file (refusal_is 23 e) in (
        nodes_in m file r.2,
        first_to_fail (step_count file) (step_allowed m.state m.tables file) 23 e refl r.3,
      )

-- ---- the theorem

pub traces : Traces
traces = record {
  accepted = accepted;
  accepts = accepts;
  each_good = each_good;
  good_paths = good_paths;
  lookups = lookups;
  none = none;
  nine = nine;
  twenty_three = twenty_three;
  others = λ m file a b.
      let none = trace_place_none m file (refusal_of m file) a b in (
        field_is m file (refusal_of m file) refl 0 ∙ ap (λ (l : List ℕ). get_or l 0 0) none,
        field_is m file (refusal_of m file) refl 1 ∙ ap (λ (l : List ℕ). get_or l 1 0) none,
      );
}
