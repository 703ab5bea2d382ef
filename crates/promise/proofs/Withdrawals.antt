-- What a withdrawal undoes, what it leaves alone, and that deliveries of others do not see it. Assumes nothing.
use Prim.Native.Nat.{ℕ, ◌+◌}
use mathlib.Core.Path.{◌≡◌, refl, sym, ap, subst, subst₂, ◌∙◌}
use mathlib.Core.Logic.{◌≢◌, ◌⊎◌, inl, inr}
use mathlib.Core.Bool.{true, false, not, ◌||◌, false≢true}
use mathlib.Core.List.{List, [], ◌∷◌}
use native.Mathlib.Decide.{ℕ_discrete}
use native.Mathlib.Omega.{arith}
use lib.Dec.{eqb}
use lib.ListN.{get_or, replicate}
use borrow.Author.Tests.{eqb-true, eqb-false, eq-eqb, ne_eqb, not-true}
use Rattle.model.specs.Ids.{valid_id}
use Rattle.model.specs.Memory.{Memory, node_count, id_of, is_in_system, is_attached}
use Rattle.model.specs.Join.{Delivery, kind_attached, withdrawn}
use Rattle.model.specs.Refusals.{begin_refusal, withdraw_refusal, deliver_refusal}
use Rattle.model.specs.Calls.{delivery_fields, lookup_call, survey_call, verdict_call, write_call, trace_call, sound_call}
use Rattle.model.specs.Run.{Call, found, read, begin, withdraw, deliver, lookup, survey, verdict, fill, write, trace, sound, step, after, play, history, is_taken}
use Rattle.model.proofs.Bools.{and_left, and_right, and_intro, or_right, or_intro_right, true_or_false}
use Rattle.model.proofs.Memory.{same_id}
use Rattle.model.proofs.Status.{IsNode, is_node_lem, attached_other}
use Rattle.model.proofs.Sound.{Sound}
use Rattle.model.proofs.BeginningKeepsSound.{CanBegin, begun_ok}
use Rattle.model.proofs.DeliveryDid.{to_receiver}
use Rattle.model.proofs.TablesOnlyGrow.{delivered_count}
use Rattle.model.proofs.DeliveryKeepsSound.{delivered_ok}
use Rattle.model.proofs.Withdrawing.{withdrawn_long, withdrawn_count, withdrawn_record, withdrawn_table, word_kept, byte_kept, withdrawn_later, withdrawn_kept, withdrawn_ok}
use Rattle.model.proofs.Undoing.{Beside, begun_beside, withdrawn_beside, delivered_beside, undone}
use Rattle.model.proofs.Invisible.{refused_alike, done_alike, done_beside}
use Rattle.model.proofs.Taken.{begin_taken, withdraw_taken, deliver_taken, sound_free, begin_free, withdraw_free}
use Rattle.model.proofs.Calls.{looks_on}
use Rattle.promise.specs.Withdrawals.{is_own, only_own, begun_as, Apart, Undone, Unseen, Withdrawals}
use Rattle.promise.proofs.Demand1.{taken_number, number_taken, demand1}
use Rattle.promise.proofs.Run.{begin_after, begin_answer, begun_number, withdraw_after, withdraw_answer, withdraw_away, deliver_after, deliver_answer, deliver_refused, not_taken}

-- ---- what it leaves alone

module _ (m : Memory) (S : Sound m.state m.tables) (away : is_attached m.state (node_count m.state) ≡ false) where
  abbrev s : List ℕ
  s = m.state

  abbrev t : List ℕ
  t = m.tables

  abbrev x : ℕ
  x = node_count s

  m₁ : Memory
  m₁ = withdrawn s t

  S₁ : Sound m₁.state m₁.tables
  unfolding m₁
  S₁ = withdrawn_ok s t S away

  -- x's id is no node's now
  id_free : (gateway : ℕ) → IsNode m₁.state gateway → is_in_system m₁.state gateway ≡ true → CanBegin m₁.state (id_of s x) gateway
  unfolding m₁
  id_free gateway n e =
      let l = withdrawn_later s t S away in
      let highest : IsNode s x = record { low = S.some; high = omega arith } in
      record {
        valid = subst₂ (λ (b d : ℕ). valid_id b d (id_of s x) ≡ true) (sym l.base) (sym l.digits) (S.ids x highest);
        new = λ y o q.
            S.new x y highest o.low (omega (arith, o.high, withdrawn_count s t S, S.some))
            (sym (same_id (withdrawn_kept s t S away y o).1) ∙ q);
        is_node = n;
        in_system = e;
        room = omega (arith, withdrawn_count s t S, S.few, S.some);
      }

  apart : Apart m (withdrawn s t) x
  unfolding m₁
  apart = record {
    count = refl;
    others = withdrawn_count s t S;
    own_record = withdrawn_record s t S;
    own_table = withdrawn_table s t S;
    words = word_kept s t S;
    bytes = byte_kept s t S;
    long = withdrawn_long s t S;
    sound = number_taken m₁ sound (sound_free m₁ S₁);
    again = λ id gateway e.
        begun_number m₁ id gateway (taken_number m₁ (begin id gateway) e) ∙ omega (arith, withdrawn_count s t S, S.some);
    free = λ gateway n e.
        ap is_taken
        (begin_answer m₁ (id_of s x) gateway (begin_free m₁ (id_of s x) gateway S₁ (id_free gateway (is_node_lem m₁.state gateway n) e)));
  }

apart_of : (m : Memory) (x : ℕ) → is_taken (step m (withdraw x)).answer ≡ true → Apart m (after m (withdraw x)) x
apart_of m x e =
    let r = taken_number m (withdraw x) e in
    let k = withdraw_taken m x r in
    subst₂ (Apart m) (sym (withdraw_after m x r)) (sym k.1) (apart m k.0 (withdraw_away m x r))

-- ---- what it undoes

module _ (m : Memory) where
  -- m' has one node more, which copies or waits, and is m but for it
  record More (m' : Memory) : Type 0 where
    sound : Sound m'.state m'.tables
    beside : Beside m.state m.tables m'.state m'.tables

  same : {m₁ m₂ : Memory} → m₁ ≡ m₂ → More m₂ → More m₁
  same e = subst More (sym e)

  -- the number of that node
  abbrev x₀ : ℕ
  x₀ = node_count m.state + 1

  delivered_more : (m' : Memory) (z : ℕ) → More m' → is_taken (step m' (deliver x₀ z)).answer ≡ true
      → eqb (get_or (step m' (deliver x₀ z)).answer 1 0) kind_attached ≡ false → More (after m' (deliver x₀ z))
  delivered_more m' z h e q =
      let r = taken_number m' (deliver x₀ z) e in
      let c = (deliver_taken m' x₀ z r).1 in
      let kind = ap (λ (l : List ℕ). get_or l 1 0) (deliver_answer m' x₀ z r) in
      rw (deliver_after m' x₀ z r)
      (record {
        sound = delivered_ok m'.state m'.tables h.sound x₀ z c;
        beside =
            delivered_beside m.state m.tables m'.state m'.tables h.beside h.sound z c
            (λ w. eqb-false _ kind_attached q (kind ∙ w));
      })

  -- a call of the node's own that was taken, or one that changes no network
  own_more : (m' : Memory) (c : Call) → More m' → is_taken (step m' c).answer ≡ true → is_own x₀ c (step m' c).answer ≡ true → More (after m' c)
  unfolding step after lookup_call survey_call verdict_call write_call trace_call sound_call
  own_more m' (found b d K id) h e q = absurd (false≢true q)
  own_more m' (read im) h e q = absurd (false≢true q)
  own_more m' (begin id gateway) h e q = absurd (false≢true q)
  own_more m' (withdraw y) h e q = absurd (false≢true q)
  own_more m' (deliver y z) h e q = own (eqb-true y x₀ (and_left _ _ q)) e (not-true _ (and_right (eqb y x₀) _ q))
    where
      own : y ≡ x₀ → is_taken (step m' (deliver y z)).answer ≡ true → eqb (get_or (step m' (deliver y z)).answer 1 0) kind_attached ≡ false
          → More (after m' (deliver y z))
      own w =
          subst
          (λ (y : ℕ).
          is_taken (step m' (deliver y z)).answer ≡ true → eqb (get_or (step m' (deliver y z)).answer 1 0) kind_attached ≡ false
          → More (after m' (deliver y z)))
          (sym w) (delivered_more m' z h)
  own_more m' (lookup u z failed) h e q = same (looks_on m' _ [] _ [] _) h
  own_more m' (survey failed) h e q = same (looks_on m' _ [] _ [] _) h
  own_more m' verdict h e q = same (looks_on m' _ [] _ [] _) h
  own_more m' (fill out) h e q = absurd (false≢true q)
  own_more m' (write v out) h e q = same (looks_on m' _ out _ _ _) h
  own_more m' (trace file) h e q = same (looks_on m' _ [] _ [] _) h
  own_more m' sound h e q = same (looks_on m' _ [] _ [] _) h

  step_more : (m' : Memory) (c : Call) → More m' → (not (is_taken (step m' c).answer) || is_own x₀ c (step m' c).answer) ≡ true → More (after m' c)
  unfolding after
  step_more m' c h q = go (true_or_false (is_taken (step m' c).answer))
    where
      go : (is_taken (step m' c).answer ≡ true) ⊎ (is_taken (step m' c).answer ≡ false) → More (after m' c)
      go (inl e) = own_more m' c h e (or_right (not (is_taken (step m' c).answer)) _ q (ap not e))
      go (inr e) = same ((demand1 m' c).refused e).memory h

  self_more : (m' : Memory) (z : ℕ) → More m' → get_or (step m' (deliver x₀ z)).answer 1 0 ≢ kind_attached → More (after m' (deliver x₀ z))
  self_more m' z h ne =
      step_more m' (deliver x₀ z) h
      (or_intro_right (not (is_taken (step m' (deliver x₀ z)).answer)) _ (and_intro (eqb x₀ x₀) _ (eq-eqb x₀ x₀ refl) (ap not (ne_eqb _ kind_attached ne))))

  play_more : (m' : Memory) (cs : List Call) → More m' → only_own x₀ (history m' cs) ≡ true → More (play m' cs)
  unfolding only_own history play
  play_more m' [] h q = h
  play_more m' (c ∷ cs) h q = play_more (after m' c) cs (step_more m' c h (and_left _ _ q))
      (and_right (not (is_taken (step m' c).answer) || is_own x₀ c (step m' c).answer) _ q)

  -- its withdrawal
  module _ (m' : Memory) (h : More m') where
    number : x₀ ≡ node_count m'.state
    number = sym h.beside.count

    withdraws : withdraw_refusal m' x₀ ≡ 0
    withdraws =
        subst (λ (x : ℕ). withdraw_refusal m' x ≡ 0) (sym number)
        (withdraw_free m' h.sound (subst (λ (x : ℕ). is_attached m'.state x ≡ false) number h.beside.away))

    back : Sound m.state m.tables → after m' (withdraw x₀) ≡ m
    back S = withdraw_after m' x₀ withdraws ∙ undone m.state m.tables m'.state m'.tables S h.beside h.sound

undone_of : (m : Memory) (id gateway : ℕ) (cs : List Call) → is_taken (step m (begin id gateway)).answer ≡ true
    → only_own (begun_as m id gateway) (history (after m (begin id gateway)) cs) ≡ true → Undone m id gateway cs
unfolding play
undone_of m id gateway cs e q = record {
  taken = subst (λ (x : ℕ). is_taken (step m' (withdraw x)).answer ≡ true) (sym number₀) (ap is_taken (withdraw_answer m' (x₀ m) (withdraws m m' all)));
  memory = subst (λ (x : ℕ). after m' (withdraw x) ≡ m) (sym number₀) (back m m' all k.0);
}
  where
    r : begin_refusal m id gateway ≡ 0
    r = taken_number m (begin id gateway) e

    k : Sound m.state m.tables × CanBegin m.state id gateway
    k = begin_taken m id gateway r

    number₀ : begun_as m id gateway ≡ node_count m.state + 1
    number₀ = begun_number m id gateway r

    m' : Memory
    m' = play (after m (begin id gateway)) cs

    begun_more : More m (after m (begin id gateway))
    begun_more =
        rw (begin_after m id gateway r)
        (record {
          sound = begun_ok m.state m.tables id gateway k.0 k.1;
          beside = begun_beside m.state m.tables id gateway k.0 k.1;
        })

    all : More m m'
    all =
        play_more m (after m (begin id gateway)) cs begun_more
        (subst (λ (x : ℕ). only_own x (history (after m (begin id gateway)) cs) ≡ true) number₀ q)

-- ---- with a node and without it

module _ (m : Memory) (x : ℕ) (r : withdraw_refusal m x ≡ 0) where
  S : Sound m.state m.tables
  S = (withdraw_taken m x r).0

  away : is_attached m.state (node_count m.state) ≡ false
  away = withdraw_away m x r

  highest : x ≡ node_count m.state
  highest = (withdraw_taken m x r).1

  -- the memory without x
  less : Memory
  less = withdrawn m.state m.tables

  sound_less : Sound less.state less.tables
  unfolding less
  sound_less = withdrawn_ok m.state m.tables S away

  more : More less m
  unfolding less
  more = record { sound = S; beside = withdrawn_beside m.state m.tables S away }

  number_less : x ≡ node_count less.state + 1
  number_less = highest ∙ more.beside.count

  -- the withdrawal of x from m' is taken and leaves m₀
  abbrev Leaves : Memory → Memory → Type 0
  Leaves m' m₀ = (is_taken (step m' (withdraw x)).answer ≡ true) × (after m' (withdraw x) ≡ m₀)

  leaves : (m₀ m' : Memory) → Sound m₀.state m₀.tables → More m₀ m' → x ≡ node_count m₀.state + 1 → Leaves m' m₀
  leaves m₀ m' S₀ h e =
      subst (λ (x : ℕ). (is_taken (step m' (withdraw x)).answer ≡ true) × (after m' (withdraw x) ≡ m₀)) (sym e)
      (ap is_taken (withdraw_answer m' (node_count m₀.state + 1) (withdraws m₀ m' h)), back m₀ m' h S₀)

  -- a delivery of x itself
  own : (z : ℕ) → get_or (step m (deliver x z)).answer 1 0 ≢ kind_attached → after (after m (deliver x z)) (withdraw x) ≡ after m (withdraw x)
  unfolding less
  own z ne =
      (leaves less (after m (deliver x z)) sound_less
      (subst (λ (y : ℕ). get_or (step m (deliver y z)).answer 1 0 ≢ kind_attached → More less (after m (deliver y z))) (sym number_less)
      (self_more less m z more) ne)
      number_less).1
      ∙ sym (withdraw_after m x r)

-- ---- what others see of it

module _ (m : Memory) (x y z : ℕ) (r : withdraw_refusal m x ≡ 0) (other : y ≢ x) where
  abbrev m₀ : Memory
  m₀ = less m x r

  abbrev S₀ : Sound (less m x r).state (less m x r).tables
  S₀ = sound_less m x r

  abbrev Sm : Sound m.state m.tables
  Sm = S m x r

  abbrev b : Beside (less m x r).state (less m x r).tables m.state m.tables
  b = (more m x r).beside

  -- a delivery to x is refused with it and without it
  not_to : z ≡ x → (deliver_refusal m y z ≢ 0) × (deliver_refusal m₀ y z ≢ 0)
  not_to e = (
    λ q.
        attached_other m.state (node_count m.state) z (away m x r)
        (to_receiver m.state m.tables Sm y z (deliver_taken m y z q).1).attached (e ∙ highest m x r),
    λ q. omega (arith, (deliver_taken m₀ y z q).1.receiver.high, e, number_less m x r),
  )

  refused_both : deliver_refusal m y z ≢ 0 → deliver_refusal m₀ y z ≢ 0 → Leaves m x r (after m (deliver y z)) (after m₀ (deliver y z))
  refused_both p q =
      subst₂ (Leaves m x r) (sym (deliver_refused m y z p).0) (sym (deliver_refused m₀ y z q).0) (leaves m x r m₀ m S₀ (more m x r) (number_less m x r))

  taken_both : deliver_refusal m y z ≡ 0 → deliver_refusal m₀ y z ≡ 0 → Leaves m x r (after m (deliver y z)) (after m₀ (deliver y z))
  taken_both p q =
      let c = (deliver_taken m₀ y z q).1 in
      subst₂ (Leaves m x r) (sym (deliver_after m y z p)) (sym (deliver_after m₀ y z q))
      (leaves m x r _ _ (delivered_ok m₀.state m₀.tables S₀ y z c)
      (record {
        sound = delivered_ok m.state m.tables Sm y z (deliver_taken m y z p).1;
        beside = done_beside m₀.state m₀.tables m.state m.tables S₀ Sm b y z c;
      })
      (number_less m x r ∙ ap (λ (n : ℕ). n + 1) (sym (delivered_count m₀.state m₀.tables S₀ y z c))))

  alike : z ≢ x → deliver_refusal m y z ≡ deliver_refusal m₀ y z
  alike ne =
      refused_alike m₀.state m₀.tables m.state m.tables S₀ Sm b y z (λ e. other (e ∙ sym (number_less m x r)))
      (λ e. ne (e ∙ sym (number_less m x r)))

  answers : z ≢ x → (step m₀ (deliver y z)).answer ≡ (step m (deliver y z)).answer
  answers ne = go (ℕ_discrete (deliver_refusal m₀ y z) 0)
    where
      go : Dec (deliver_refusal m₀ y z ≡ 0) → (step m₀ (deliver y z)).answer ≡ (step m (deliver y z)).answer
      go (yes q) =
          deliver_answer m₀ y z q
          ∙ ap (λ (d : Delivery). 0 ∷ delivery_fields d)
          (sym (done_alike m₀.state m₀.tables m.state m.tables S₀ Sm b y z (deliver_taken m₀ y z q).1))
          ∙ sym (deliver_answer m y z (alike ne ∙ q))
      go (no q) =
          (deliver_refused m₀ y z q).1
          ∙ ap (λ (n : ℕ). n ∷ replicate 3 0) (sym (alike ne))
          ∙ sym (deliver_refused m y z (λ w. q (sym (alike ne) ∙ w))).1

  both : Dec (z ≡ x) → Dec (deliver_refusal m₀ y z ≡ 0) → Leaves m x r (after m (deliver y z)) (after m₀ (deliver y z))
  both (yes e) d = refused_both (not_to e).0 (not_to e).1
  both (no ne) (yes q) = taken_both (alike ne ∙ q) q
  both (no ne) (no q) = refused_both (λ w. q (sym (alike ne) ∙ w)) q

  unseen : Unseen m x y z
  unfolding less
  unseen =
      let w = withdraw_after m x r in
      let o = both (ℕ_discrete z x) (ℕ_discrete (deliver_refusal m₀ y z) 0) in
      record {
        answer = λ ne. ap (λ (m : Memory). (step m (deliver y z)).answer) w ∙ answers ne;
        to_it = λ e. (not_taken m y z (not_to e).0, ap (λ (m : Memory). is_taken (step m (deliver y z)).answer) w ∙ not_taken m₀ y z (not_to e).1);
        taken = o.0;
        memory = o.1 ∙ sym (ap (λ (m : Memory). after m (deliver y z)) w);
      }

-- ---- the theorem

pub withdrawals : Withdrawals
withdrawals = record {
  undone = undone_of;
  apart = apart_of;
  own = λ m x z e. own m x (taken_number m (withdraw x) e) z;
  unseen = λ m x y z e. unseen m x y z (taken_number m (withdraw x) e);
}
