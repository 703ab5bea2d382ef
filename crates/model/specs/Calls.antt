-- The calls, each from the lent memory and its arguments to the memory after, the output after and the answer. What each does is in document 01
-- where its subject is, or in a ticket of document 02; what a refusal leaves, in "What a call declines".
use Rattle.std.specs.Prelude.{ℕ, ◌+◌, ◌/◌, cond, List, [], ◌∷◌, ◌++◌, length, drop, replicate, eqb}
use Rattle.model.specs.Memory.{Memory, node_count, in_system}
use Rattle.model.specs.Join.{Delivery, founded, begun, withdrawn, delivery, delivered}
use Rattle.model.specs.Lookup.{Lookup, lookup}
use Rattle.model.specs.Survey.{survey_counts}
use Rattle.model.specs.Consistency.{Verdict, verdict}
use Rattle.model.specs.Fill.{Filling, filling}
use Rattle.model.specs.Image.{image_of, loaded}
use Rattle.model.specs.Refusals.{found_refusal, read_refusal, record_place, begin_refusal, withdraw_refusal, deliver_refusal, lookup_refusal, verdict_refusal, fill_refusal, write_refusal, state_refusal, trace_refusal, trace_place}

-- what a call leaves: the memory, the memory for output (none but for filling and writing), and the answer's fields, of which the refusal is the first
pub record Outcome : Type 0 where
  pub memory : Memory
  pub out : List ℕ
  pub answer : List ℕ

-- a refused call: memory and output as they were, and the answer's other fields
unfoldable pub refused_at : Memory → List ℕ → List ℕ → ℕ → Outcome
refused_at m out fields number = record { memory = m; out = out; answer = number ∷ fields }

-- the same, with zero in all the other fields; the call has this many of them
abbrev pub refused : Memory → List ℕ → ℕ → ℕ → Outcome
refused m out fields number = refused_at m out (replicate fields 0) number

-- a call that did its work
unfoldable pub taken : Memory → List ℕ → List ℕ → Outcome
taken m out fields = record { memory = m; out = out; answer = 0 ∷ fields }

-- refused with this number, or, where that is 0, taken
unfoldable pub unless_refused : ℕ → (ℕ → Outcome) → Outcome → Outcome
unless_refused number declined done = cond (eqb number 0) done (declined number)

-- answer: the refusal
unfoldable pub found_call : Memory → ℕ → ℕ → ℕ → ℕ → Outcome
found_call m b d K id =
    unless_refused (found_refusal m b d K id) (refused m [] 0) (taken (founded m.state m.tables b d K id) [] [])

-- answer: the refusal, and the place of the record that it is about
unfoldable pub read_call : Memory → List ℕ → Outcome
read_call m im =
    let number = read_refusal m im in
    unless_refused number (refused_at m [] (record_place im number ∷ []))
    (taken (loaded m.state m.tables im) [] (0 ∷ []))

-- answer: the refusal and the new node's number
unfoldable pub begin_call : Memory → ℕ → ℕ → Outcome
begin_call m id gateway =
    unless_refused (begin_refusal m id gateway) (refused m [] 1)
    (taken (begun m.state m.tables id gateway) [] ((node_count m.state + 1) ∷ []))

-- answer: the refusal
unfoldable pub withdraw_call : Memory → ℕ → Outcome
withdraw_call m x =
    unless_refused (withdraw_refusal m x) (refused m [] 0) (taken (withdrawn m.state m.tables) [] [])

-- what a delivery that was taken answers: its kind, the level if it attached, and whether its sender settled
abbrev pub delivery_fields : Delivery → List ℕ
delivery_fields r = r.kind ∷ r.level ∷ cond (eqb r.sender.status in_system) 1 0 ∷ []

-- answer: the refusal, the kind, the level where it attached, and 1 if the sender settled
unfoldable pub deliver_call : Memory → ℕ → ℕ → Outcome
deliver_call m x y =
    let r = delivery m.state m.tables x y in
    unless_refused (deliver_refusal m x y) (refused m [] 3)
    (taken (delivered m.state m.tables x y r) [] (delivery_fields r))

abbrev pub lookup_fields : Lookup → List ℕ
lookup_fields r = r.arrived ∷ r.hops ∷ r.last ∷ []

-- answer: the refusal, 1 for arrived or 0 for lost, the hops and the last node
unfoldable pub lookup_call : Memory → ℕ → ℕ → ℕ → Outcome
lookup_call m u z failed =
    unless_refused (lookup_refusal m u z failed) (refused m [] 3)
    (taken m [] (lookup_fields (lookup m.state m.tables failed u z)))

-- answer: the refusal, how many pairs arrive in 1 to 8 hops, and how many are lost
unfoldable pub survey_call : Memory → ℕ → Outcome
survey_call m failed =
    unless_refused (state_refusal m) (refused m [] 9) (taken m [] (survey_counts m.state m.tables failed))

abbrev pub verdict_fields : Verdict → List ℕ
verdict_fields r = r.consistent ∷ r.node ∷ r.level ∷ r.digit ∷ []

-- answer: the refusal, 1 for consistent or 0, and node, level and digit of the first short entry
unfoldable pub verdict_call : Memory → Outcome
verdict_call m =
    unless_refused (verdict_refusal m) (refused m [] 4) (taken m [] (verdict_fields (verdict m.state m.tables)))

-- the tables filled, the list at the start of the output, and how many additions it has
unfoldable pub filled_by : Memory → List ℕ → Filling → Outcome
filled_by m out f =
    taken (record { state = m.state; tables = f.tables }) (f.list ++ drop (length f.list) out) (length f.list / 4 ∷ [])

-- answer: the refusal, and how many nodes were added. The output past the list stays as it was.
unfoldable pub fill_call : Memory → List ℕ → Outcome
fill_call m out =
    unless_refused (fill_refusal m out) (refused m out 1) (filled_by m out (filling m.state m.tables))

-- answer: the refusal and the length. The output past the image stays as it was.
unfoldable pub write_call : Memory → ℕ → List ℕ → Outcome
write_call m version out =
    let im = image_of version m.state m.tables in
    unless_refused (write_refusal m version out) (refused m out 1) (taken m (im ++ drop (length im) out) (length im ∷ []))

-- answer: the refusal, and path and place, or step, that it is about
unfoldable pub trace_call : Memory → List ℕ → Outcome
trace_call m trace =
    let number = trace_refusal m trace in
    unless_refused number (refused_at m [] (trace_place m trace number)) (taken m [] (0 ∷ 0 ∷ []))

-- answer: the refusal alone, by the two sentences that every call on a state has first. (A call of ours: the paper has none such.)
unfoldable pub sound_call : Memory → Outcome
sound_call m = unless_refused (state_refusal m) (refused m [] 0) (taken m [] [])
