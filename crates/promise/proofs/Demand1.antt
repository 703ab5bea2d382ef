-- Demand 1: a refused call changes nothing, and no call reads or changes what lies past the fixed lengths. Assumes nothing.
use Prim.Native.Nat.{ℕ, zero, suc, ◌+◌, ◌-◌, ◌/◌}
use mathlib.Core.Path.{◌≡◌, refl, sym, ap, ap₂, subst, ◌∙◌}
use mathlib.Core.Logic.{◌≢◌}
use mathlib.Core.Bool.{true, false, true≢false}
use mathlib.Core.List.{List, [], ◌∷◌, ◌++◌}
use native.Mathlib.Omega.{arith}
use lib.ListN.{length, get_or, set, drop, replicate, length-replicate}
use Rattle.model.specs.Memory.{Memory, state_length, tables_length, digits, node_count, with_node, with_table, copying}
use Rattle.model.specs.Tables.{own_table}
use Rattle.model.specs.Join.{Delivery, new_node, joining_node, no_node, founded, begun, withdrawn, delivery, delivered}
use Rattle.model.specs.Lookup as routing
use Rattle.model.specs.Survey.{survey_counts}
use Rattle.model.specs.Consistency as consistency
use Rattle.model.specs.Fill.{filling, with_records}
use Rattle.model.specs.Image.{image_of, loaded}
use Rattle.model.specs.Refusals.{found_refusal, read_refusal, record_place, begin_refusal, withdraw_refusal, deliver_refusal, lookup_refusal, verdict_refusal, fill_refusal, write_refusal, trace_refusal, trace_place, state_refusal}
use Rattle.model.specs.Calls.{Outcome, refused_at, taken, unless_refused, delivery_fields, lookup_fields, verdict_fields, found_call, read_call, begin_call, withdraw_call, deliver_call, lookup_call, survey_call, verdict_call, filled_by, fill_call, write_call, trace_call, sound_call}
use Rattle.model.specs.Run.{Call, found, read, begin, withdraw, deliver, lookup, survey, verdict, fill, write, trace, sound, step, after, play, history, is_taken}
use Rattle.model.proofs.Sound.{Long}
use Rattle.model.proofs.Taken.{state_taken, found_taken, read_taken, begin_taken, withdraw_taken, deliver_taken, lookup_taken, verdict_taken, fill_taken, write_taken, not_short}
use Rattle.model.proofs.OwnTable.{own_long}
use Rattle.model.proofs.Calls.{either_end, taken_zero}
use Rattle.model.proofs.FillingRecords.{filling_records}
use Rattle.model.proofs.FillingAlike.{filling_same}
use Rattle.model.proofs.Within.{within_past, within_same}
use Rattle.model.proofs.Works.{Works, found_works, read_works, node_works, deliver_works, fill_works}
use Rattle.model.proofs.ReadingIsSound.{read_listed}
use Rattle.model.proofs.Alike.{Alike, LongAlike, digits_same, depth_same, count_same}
use Rattle.model.proofs.AlikeDelivery.{delivery_same}
use Rattle.model.proofs.AlikeLooking as looking
use Rattle.model.proofs.AlikeLooking.{image_same}
use Rattle.model.proofs.AlikeRefusals as alike
use Rattle.model.proofs.AlikeRefusals.{long_alike}
use Rattle.promise.specs.Fixed.{fixed, past}
use Rattle.promise.specs.Demand1.{output_of, carried, ChangesNothing, SameUpToThere, Demand1}

-- ---- every call by its two ends

-- the number of its refusal
abbrev pub number : Memory → Call → ℕ
number m (found b d K id) = found_refusal m b d K id
number m (read im) = read_refusal m im
number m (begin id gateway) = begin_refusal m id gateway
number m (withdraw x) = withdraw_refusal m x
number m (deliver x y) = deliver_refusal m x y
number m (lookup u z failed) = lookup_refusal m u z failed
number m (survey failed) = state_refusal m
number m verdict = verdict_refusal m
number m (fill out) = fill_refusal m out
number m (write v out) = write_refusal m v out
number m (trace file) = trace_refusal m file
number m sound = state_refusal m

-- the other fields of its answer where it is refused with number n
abbrev others : Memory → Call → ℕ → List ℕ
others m (found b d K id) n = []
others m (read im) n = record_place im n ∷ []
others m (begin id gateway) n = replicate 1 0
others m (withdraw x) n = []
others m (deliver x y) n = replicate 3 0
others m (lookup u z failed) n = replicate 3 0
others m (survey failed) n = replicate 9 0
others m verdict n = replicate 4 0
others m (fill out) n = replicate 1 0
others m (write v out) n = replicate 1 0
others m (trace file) n = trace_place m file n
others m sound n = []

-- what it leaves where it is taken
record Work : Type 0 where
  memory : Memory
  out : List ℕ
  fields : List ℕ

abbrev work : Memory → Call → Work
work m (found b d K id) = record { memory = founded m.state m.tables b d K id; out = []; fields = [] }
work m (read im) = record { memory = loaded m.state m.tables im; out = []; fields = 0 ∷ [] }
work m (begin id gateway) =
    record { memory = begun m.state m.tables id gateway; out = []; fields = (node_count m.state + 1) ∷ [] }
work m (withdraw x) = record { memory = withdrawn m.state m.tables; out = []; fields = [] }
work m (deliver x y) =
    let r = delivery m.state m.tables x y in
    record { memory = delivered m.state m.tables x y r; out = []; fields = delivery_fields r }
work m (lookup u z failed) = record { memory = m; out = []; fields = lookup_fields (routing.lookup m.state m.tables failed u z) }
work m (survey failed) = record { memory = m; out = []; fields = survey_counts m.state m.tables failed }
work m verdict = record { memory = m; out = []; fields = verdict_fields (consistency.verdict m.state m.tables) }
work m (fill out) =
    let f = filling m.state m.tables in
    record {
      memory = record { state = m.state; tables = f.tables };
      out = f.list ++ drop (length f.list) out;
      fields = length f.list / 4 ∷ [];
    }
work m (write v out) =
    let im = image_of v m.state m.tables in
    record { memory = m; out = im ++ drop (length im) out; fields = length im ∷ [] }
work m (trace file) = record { memory = m; out = []; fields = 0 ∷ 0 ∷ [] }
work m sound = record { memory = m; out = []; fields = [] }

abbrev ended : Memory → Call → ℕ → Work → Outcome
ended m c n w = unless_refused n (refused_at m (output_of c) (others m c n)) (taken w.memory w.out w.fields)

step_is : (m : Memory) (c : Call) → step m c ≡ ended m c (number m c) (work m c)
unfolding step found_call read_call begin_call withdraw_call deliver_call lookup_call survey_call verdict_call fill_call filled_by write_call trace_call sound_call
step_is m (found b d K id) = refl
step_is m (read im) = refl
step_is m (begin id gateway) = refl
step_is m (withdraw x) = refl
step_is m (deliver x y) = refl
step_is m (lookup u z failed) = refl
step_is m (survey failed) = refl
step_is m verdict = refl
step_is m (fill out) = refl
step_is m (write v out) = refl
step_is m (trace file) = refl
step_is m sound = refl

-- what holds of both ends holds of the call
by_ends : (P : Outcome → Type 0) (m : Memory) (c : Call)
    → (number m c ≢ 0 → P (refused_at m (output_of c) (others m c (number m c)) (number m c)))
    → (number m c ≡ 0 → P (taken (work m c).memory (work m c).out (work m c).fields)) → P (step m c)
by_ends P m c f g =
    subst P (sym (step_is m c)) (either_end P (number m c) (refused_at m (output_of c) (others m c (number m c))) _ f g)

-- the number of a call that was taken is 0
pub taken_number : (m : Memory) (c : Call) → is_taken (step m c).answer ≡ true → number m c ≡ 0
taken_number m c e =
    taken_zero m (number m c) (output_of c) (others m c (number m c)) _ (subst (λ (o : Outcome). is_taken o.answer ≡ true) (step_is m c) e)

-- and back
pub number_taken : (m : Memory) (c : Call) → number m c ≡ 0 → is_taken (step m c).answer ≡ true
unfolding taken
number_taken m c z = by_ends (λ (o : Outcome). is_taken o.answer ≡ true) m c (λ nz. absurd (nz z)) (λ z. refl)

-- ---- a refused call

zeros : (k j : ℕ) → get_or {A = ℕ} (replicate k 0) j 0 ≡ 0
zeros zero zero = refl
zeros zero (suc j) = refl
zeros (suc k) zero = refl
zeros (suc k) (suc j) = zeros k j

others_carried : (m : Memory) (c : Call) (n k : ℕ) → get_or (others m c n) k 0 ≡ get_or (carried m c n) k 0
others_carried m (found b d K id) n k = refl
others_carried m (read im) n k = refl
others_carried m (begin id gateway) n k = zeros 1 k
others_carried m (withdraw x) n k = refl
others_carried m (deliver x y) n k = zeros 3 k
others_carried m (lookup u z failed) n k = zeros 3 k
others_carried m (survey failed) n k = zeros 9 k
others_carried m verdict n k = zeros 4 k
others_carried m (fill out) n k = zeros 1 k
others_carried m (write v out) n k = zeros 1 k
others_carried m (trace file) n k = refl
others_carried m sound n k = refl

changes_nothing : (m : Memory) (c : Call) → is_taken (step m c).answer ≡ false → ChangesNothing m c
unfolding refused_at taken
changes_nothing m c e = record { memory = go.0; output = go.1; fields = go.2 }
  where
    Same : Outcome → Type 0
    Same o =
        (o.memory ≡ m)
        × (o.out ≡ output_of c)
        × ((k : ℕ) → get_or o.answer (suc k) 0 ≡ get_or (carried m c (get_or o.answer 0 0)) k 0)

    go : Same (step m c)
    go =
        by_ends (λ (o : Outcome). is_taken o.answer ≡ false → Same o) m c
        (λ nz q. (refl, refl, others_carried m c (number m c))) (λ z q. absurd (true≢false q)) e

-- ---- what lies past the fixed lengths is kept

works_past : (m : Memory) (f g : List ℕ → List ℕ) → Works f g → Long m.state m.tables
    → past (record { state = f m.state; tables = g m.tables }) ≡ past m
works_past m f g w l =
    λ i. record {
      state = within_past state_length f w.state m.state l.state i;
      tables = within_past tables_length g w.tables m.tables l.tables i;
    }

-- what a taken beginning writes
begins : (m : Memory) (id gateway : ℕ) → begin_refusal m id gateway ≡ 0
    → (let x = node_count m.state + 1 in
    Works (λ s. with_node (set s 3 x) x (joining_node (new_node id) copying gateway)) (λ t. with_table t x (own_table (digits m.state) id x)))
begins m id gateway z =
    let k = begin_taken m id gateway z in
    let x : ℕ = node_count m.state + 1 in
    node_works x x (joining_node (new_node id) copying gateway) (own_table (digits m.state) id x) (omega arith) (omega (arith, k.1.room))
    (own_long (digits m.state) id x k.0.settings.digits_most)

-- and a taken withdrawal
withdraws : (m : Memory) (x : ℕ) → withdraw_refusal m x ≡ 0
    → (let n = node_count m.state in
    Works (λ s. with_node (set s 3 (n - 1)) n no_node) (λ t. with_table t n (replicate 512 0)))
withdraws m x z =
    let S = (withdraw_taken m x z).0 in
    let n : ℕ = node_count m.state in
    node_works (n - 1) n no_node (replicate 512 0) S.some S.few (length-replicate {A = ℕ} 512 0)

work_past : (m : Memory) (c : Call) → number m c ≡ 0 → past (work m c).memory ≡ past m
unfolding founded begun withdrawn delivered
work_past m (found b d K id) z =
    let k = found_taken m b d K id z in
    works_past m _ _ (found_works m.state m.tables b d K id k.range.digits_most) k.long
work_past m (read im) z =
    let k = read_taken m im z in
    works_past m _ _ (read_works im k.1 m.state m.tables (read_listed m im z)) k.0
work_past m (begin id gateway) z = works_past m _ _ (begins m id gateway z) (begin_taken m id gateway z).0.long
work_past m (withdraw x) z = works_past m _ _ (withdraws m x z) (withdraw_taken m x z).0.long
work_past m (deliver x y) z =
    let k = deliver_taken m x y z in
    works_past m _ _ (deliver_works m.state m.tables k.0 x y k.1) k.0.long
work_past m (lookup u v failed) z = refl
work_past m (survey failed) z = refl
work_past m verdict z = refl
work_past m (fill out) z =
    let w = (fill_taken m out z).0 in
    subst (λ (t : List ℕ). past (record { state = m.state; tables = t }) ≡ past m) (sym (filling_records m.state m.tables))
    (works_past m _ _ (fill_works m.state m.tables w) w.sound.long)
work_past m (write v out) z = refl
work_past m (trace file) z = refl
work_past m sound z = refl

past_kept : (m : Memory) (c : Call) → past (step m c).memory ≡ past m
unfolding refused_at taken
past_kept m c = by_ends (λ (o : Outcome). past o.memory ≡ past m) m c (λ nz. refl) (work_past m c)

-- ---- nor is it read

-- two works that leave the same answer and output, and the same memory up to the fixed lengths
record SameWork (w w' : Work) : Type 0 where
  fields : w'.fields ≡ w.fields
  out : w'.out ≡ w.out
  memory : fixed w'.memory ≡ fixed w.memory

module _ (m m' : Memory) (e : fixed m' ≡ fixed m) where
  abbrev s : List ℕ
  s = m.state

  abbrev t : List ℕ
  t = m.tables

  abbrev s' : List ℕ
  s' = m'.state

  abbrev t' : List ℕ
  t' = m'.tables

  a : Alike s t s' t'
  a = record { state = ap (λ (m : Memory). m.state) e; tables = ap (λ (m : Memory). m.tables) e }

  number_same : (c : Call) → number m' c ≡ number m c
  number_same (found b d K id) = alike.found_same m m' a b d K id
  number_same (read im) = alike.read_same m m' a im
  number_same (begin id gateway) = alike.begin_same m m' a id gateway
  number_same (withdraw x) = alike.withdraw_same m m' a x
  number_same (deliver x y) = alike.deliver_same m m' a x y
  number_same (lookup u z failed) = alike.lookup_same m m' a u z failed failed (λ x n. refl)
  number_same (survey failed) = alike.state_same m m' a
  number_same verdict = alike.verdict_same m m' a
  number_same (fill out) = alike.fill_same m m' a out
  number_same (write v out) = alike.write_same m m' a v out
  number_same (trace file) = alike.trace_same m m' a file
  number_same sound = alike.state_same m m' a

  -- and what a refusal carries
  others_same : (c : Call) → others m' c (number m c) ≡ others m c (number m c)
  others_same (found b d K id) = refl
  others_same (read im) = refl
  others_same (begin id gateway) = refl
  others_same (withdraw x) = refl
  others_same (deliver x y) = refl
  others_same (lookup u z failed) = refl
  others_same (survey failed) = refl
  others_same verdict = refl
  others_same (fill out) = refl
  others_same (write v out) = refl
  others_same (trace file) = alike.traced_same m m' a file
  others_same sound = refl

  both : Long s t → LongAlike s t s' t'
  both l = long_alike m m' a (not_short m l)

  works_front : (f g : List ℕ → List ℕ) → Works f g → Long s t
      → fixed (record { state = f s'; tables = g t' }) ≡ fixed (record { state = f s; tables = g t })
  works_front f g w l =
      λ i. record {
        state = within_same state_length f w.state s s' l.state (both l).long'.state a.state i;
        tables = within_same tables_length g w.tables t t' l.tables (both l).long'.tables a.tables i;
      }

  looks : (fields fields' : List ℕ) → fields' ≡ fields
      → SameWork (record { memory = m; out = []; fields = fields }) (record { memory = m'; out = []; fields = fields' })
  looks fields fields' q = record { fields = q; out = refl; memory = e }

  work_same : (c : Call) → number m c ≡ 0 → SameWork (work m c) (work m' c)
  unfolding founded loaded begun withdrawn delivered
  work_same (found b d K id) z =
      let k = found_taken m b d K id z in
      record { fields = refl; out = refl; memory = works_front _ _ (found_works s t b d K id k.range.digits_most) k.long }
  work_same (read im) z =
      let k = read_taken m im z in
      record { fields = refl; out = refl; memory = works_front _ _ (read_works im k.1 s t (read_listed m im z)) k.0 }
  work_same (begin id gateway) z =
      let k = begin_taken m id gateway z in
      let n = count_same s s' a.state in
      record {
        fields = ap (λ (n : ℕ). (n + 1) ∷ []) n;
        out = refl;
        memory =
            ap₂
            (λ (n d : ℕ).
            fixed
            (record {
              state = with_node (set s' 3 (n + 1)) (n + 1) (joining_node (new_node id) copying gateway);
              tables = with_table t' (n + 1) (own_table d id (n + 1));
            }))
            n (digits_same s s' a.state)
            ∙ works_front _ _ (begins m id gateway z) k.0.long;
      }
  work_same (withdraw x) z =
      record {
        fields = refl;
        out = refl;
        memory =
            ap (λ (n : ℕ). fixed (record { state = with_node (set s' 3 (n - 1)) n no_node; tables = with_table t' n (replicate 512 0) }))
            (count_same s s' a.state)
            ∙ works_front _ _ (withdraws m x z) (withdraw_taken m x z).0.long;
      }
  work_same (deliver x y) z =
      let k = deliver_taken m x y z in
      let d = delivery_same s t s' t' (both k.0.long) k.0 x y k.1.sender k.1.receiver in
      record {
        fields = ap delivery_fields d;
        out = refl;
        memory =
            ap (λ (r : Delivery). fixed (delivered s' t' x y r)) d
            ∙ works_front _ _ (deliver_works s t k.0 x y k.1) k.0.long;
      }
  work_same (lookup u v failed) z =
      let k = lookup_taken m u v failed z in
      looks _ _ (ap lookup_fields (looking.lookup_same s t s' t' (both k.0.long) k.0 failed failed (λ x n. refl) v k.2 u k.1))
  work_same (survey failed) z =
      let S = state_taken m z in
      looks _ _ (looking.survey_same s t s' t' (both S.long) S failed failed (λ x n. refl))
  work_same verdict z =
      let k = verdict_taken m z in
      looks _ _ (ap verdict_fields (looking.verdict_same s t s' t' (both k.0.long) k.0))
  work_same (fill out) z =
      let w = (fill_taken m out z).0 in
      let l = filling_same s t s' t' (both w.sound.long) w in
      record {
        fields = ap (λ (l : List ℕ). length l / 4 ∷ []) l;
        out = ap (λ (l : List ℕ). l ++ drop (length l) out) l;
        memory =
            ap (λ (t : List ℕ). fixed (record { state = s'; tables = t }))
            (filling_records s' t' ∙ ap₂ (λ (K : ℕ) (l : List ℕ). with_records K l t') (depth_same s s' a.state) l)
            ∙ works_front _ _ (fill_works s t w) w.sound.long
            ∙ ap (λ (t : List ℕ). fixed (record { state = s; tables = t })) (sym (filling_records s t));
      }
  work_same (write v out) z =
      let S = (write_taken m v out z).sound in
      let i = image_same s t s' t' (both S.long) S v in
      record {
        fields = ap (λ (im : List ℕ). length im ∷ []) i;
        out = ap (λ (im : List ℕ). im ++ drop (length im) out) i;
        memory = e;
      }
  work_same (trace file) z = looks (0 ∷ 0 ∷ []) (0 ∷ 0 ∷ []) refl
  work_same sound z = looks [] [] refl

  same_up_there : (c : Call) → SameUpToThere m m' c
  unfolding refused_at taken
  same_up_there c = record { answer = go.0; output = go.1; memory = go.2 }
    where
      Same : Outcome → Outcome → Type 0
      Same o o' = (o'.answer ≡ o.answer) × (o'.out ≡ o.out) × (fixed o'.memory ≡ fixed o.memory)

      n : number m' c ≡ number m c
      n = number_same c

      go : Same (step m c) (step m' c)
      go =
          by_ends (λ (o : Outcome). Same o (step m' c)) m c
          (λ nz.
          by_ends (Same (refused_at m (output_of c) (others m c (number m c)) (number m c))) m' c
          (λ nz'. (ap (λ (n : ℕ). n ∷ others m' c n) n ∙ ap (◌∷◌ (number m c)) (others_same c), refl, e)) (λ z. absurd (nz (sym n ∙ z))))
          (λ z.
          by_ends (Same (taken (work m c).memory (work m c).out (work m c).fields)) m' c (λ nz'. absurd (nz' (n ∙ z)))
          (λ z'. let w = work_same c z in (ap (◌∷◌ 0) w.fields, w.out, w.memory)))

-- ---- the theorem

pub demand1 : (m : Memory) (c : Call) → Demand1 m c
demand1 m c = record {
  refused = changes_nothing m c;
  kept = past_kept m c;
  unread = λ m' e. same_up_there m m' e c;
}

-- ---- memories alike in the fixed lengths have the same runs

pub alike_run : (m m' : Memory) (cs : List Call) → fixed m' ≡ fixed m
    → (history m' cs ≡ history m cs) × (fixed (play m' cs) ≡ fixed (play m cs))
unfolding history play after
alike_run m m' [] e = (refl, e)
alike_run m m' (c ∷ cs) e =
    let one = same_up_there m m' e c in
    let rest = alike_run (step m c).memory (step m' c).memory cs one.memory in
    (cc (one.answer, rest.0), rest.1)
