-- Sentences 1 and 2 in code, and the sentences past them: of a network that is sound, by what the code found of its state. Assumes nothing.
use Prim.Native.Nat.{ℕ}
use mathlib.Core.Path.{◌≡◌, refl, sym, ap, ap₂, ◌∙◌}
use mathlib.Core.Bool.{Bool, true, false, not, ◌&&◌, and-false}
use mathlib.Core.List.{List, ◌∷◌}
use lib.Dec.{eqb, ltb}
use lib.ListN.{length}
use Rattle.std.specs.Prelude.{Result, IsErr, IsErrAnd}
use Rattle.model.specs.Ids.{valid_id}
use Rattle.model.specs.Memory.{Memory, base, digits, node_count, is_in_system, is_attached}
use Rattle.model.specs.Nodes.{is_node}
use Rattle.model.specs.Sound.{sound}
use Rattle.model.specs.Join.{outstanding}
use Rattle.model.specs.Lookup.{end_failed}
use Rattle.model.specs.Image.{has_joins, image_of}
use Rattle.model.specs.Fill.{filling}
use Rattle.model.specs.Refusals.{Sentence, first_true, memory_short, unsound, wait_held, id_taken, some_not_in_system, state_sentences, state_refusal, begin_sentences, begin_refusal, withdraw_sentences, withdraw_refusal, deliver_sentences, deliver_refusal, lookup_sentences, lookup_refusal, verdict_sentences, verdict_refusal, fill_sentences, fill_refusal, other_version, write_sentences, write_refusal}
use Rattle.model.proofs.Filling.{Steady}
use Rattle.model.proofs.Sound.{Sound}
use Rattle.model.proofs.Taken.{all_in_system}
use Rattle.state.specs.Lent.{memory}
use Rattle.state.specs.Loaded.{SettingsOf}
use Rattle.state.specs.declared.settings.Settings.{Settings}
use Rattle.model.proofs.Refusals.{numbered, sentence_leaves, sentence_goes, sentence_not_leaves, sentence_not_goes, sentence_none, sentences_refused, sentences_later}
use Rattle.model.proofs.Status.{IsNode, is_node_of}
use Rattle.answers.specs.Numbers.{number_of, answered}
use Rattle.answers.specs.declared.error.Refusal.{Refusal}
use Rattle.answers.specs.declared.error.Refusal.TheVariants.{NoSuchNode}
use Rattle.answers.proofs.Errors.{handed_on, numbered_from_one}

-- ---- 1 and 2

-- the check of a state asks its length too
module _ (m : Memory) (r : Bool) (e : r ≡ memory_short m) where
  pub state_short : r ≡ true → 1 ≡ state_refusal m
  unfolding state_refusal
  state_short h = sentence_leaves (memory_short m) 1 _ r e h

  module _ (h : r ≡ false) (q : Bool) (f : q ≡ (not (memory_short m) && sound m.state m.tables)) where
    judged : q ≡ sound m.state m.tables
    judged = f ∙ ap (λ (b : Bool). not b && sound m.state m.tables) (sym e ∙ h)

    pub state_unsound : not q ≡ true → 2 ≡ state_refusal m
    unfolding state_refusal
    state_unsound g = sentence_goes (memory_short m) 1 _ 2 r e h (sentence_not_leaves (sound m.state m.tables) 2 _ q judged g)

    pub state_good : not q ≡ false → 0 ≡ state_refusal m
    unfolding state_refusal
    state_good g = sentence_goes (memory_short m) 1 _ 0 r e h (sentence_not_goes (sound m.state m.tables) 2 _ 0 q judged g sentence_none)

-- the validity of an id by the settings that were loaded
pub valid_by : (s : List ℕ) (id : ℕ) (b : Settings) (v r : Bool) → v ≡ valid_id b.base b.digits id → SettingsOf s b → v ≡ r → valid_id (base s) (digits s) id ≡ r
valid_by s id b v r e f h = cc (e, f.base, f.digits, h)

-- ---- a refusal that `?` hands on

module _ {A : Type 0} (r : Result A Refusal) (e : Refusal) (h : IsErr r × IsErrAnd r (λ (x : Refusal). x ≡ e)) where
  -- 1 or 2 is the call's, whatever its later sentences are
  pub state_refused : (m : Memory) (later : List Sentence) → number_of e ≡ state_refusal m → answered r ≡ first_true ((memory_short m, 1) ∷ (unsound m, 2) ∷ later)
  unfolding state_refusal
  state_refused m later q = handed_on r e h ∙ sentences_refused (state_sentences m) later (number_of e) q (numbered_from_one e)

  -- and 9 is, where the call says so
  pub no_node : (n : ℕ) → e ≡ NoSuchNode → 9 ≡ n → answered r ≡ n
  no_node n q f = handed_on r e h ∙ ap number_of q ∙ f

-- ---- past 1 and 2 the later sentences decide: s is the state that the code judged

module _ (m : Memory) (q : 0 ≡ state_refusal m) (s : List ℕ) (same : s ≡ m.state) where
  past : (later : List ℕ → List Sentence) (n : ℕ) → n ≡ first_true (later s) → n ≡ first_true ((memory_short m, 1) ∷ (unsound m, 2) ∷ later m.state)
  unfolding state_refusal numbered
  past later n e =
      sentences_later (state_sentences m) (later m.state) refl 0 n q refl (e ∙ ap (λ (s : List ℕ). first_true (later s)) same)

  -- ---- beginning

  module _ (id g : ℕ) where
    begins : (n : ℕ) → n ≡ first_true (begin_sentences s id g) → n ≡ begin_refusal m id g
    unfolding begin_refusal
    begins n e = past (λ (s : List ℕ). begin_sentences s id g) n e

    pub id_not_valid : valid_id (base s) (digits s) id ≡ false → 7 ≡ begin_refusal m id g
    unfolding first_true
    id_not_valid e = begins 7 (simp e)

    module _ (v : valid_id (base s) (digits s) id ≡ true) where
      pub id_not_new : id_taken s id ≡ true → 8 ≡ begin_refusal m id g
      unfolding first_true
      id_not_new e = begins 8 (simp (v, e))

      module _ (w : id_taken s id ≡ false) where
        pub no_gateway : is_node s g ≡ false → 9 ≡ begin_refusal m id g
        unfolding first_true
        no_gateway e = begins 9 (simp (v, w, e))

        module _ (a : IsNode s g) where
          pub no_room : eqb (node_count s) 64 ≡ true → 11 ≡ begin_refusal m id g
          unfolding first_true
          no_room e = begins 11 (simp (v, w, is_node_of s g a, e))

          module _ (r : eqb (node_count s) 64 ≡ false) where
            pub gateway_unsettled : is_in_system s g ≡ false → 12 ≡ begin_refusal m id g
            unfolding first_true
            gateway_unsettled e = begins 12 (simp (v, w, is_node_of s g a, r, e))

            pub may_begin : is_in_system s g ≡ true → 0 ≡ begin_refusal m id g
            unfolding first_true
            may_begin e = begins 0 (simp (v, w, is_node_of s g a, r, e))

  -- ---- withdrawing

  module _ (x : ℕ) where
    withdraws : (n : ℕ) → n ≡ first_true (withdraw_sentences s x) → n ≡ withdraw_refusal m x
    unfolding withdraw_refusal
    withdraws n e = past (λ (s : List ℕ). withdraw_sentences s x) n e

    pub not_there : is_node s x ≡ false → 9 ≡ withdraw_refusal m x
    unfolding first_true
    not_there e = withdraws 9 (simp e)

    module _ (a : IsNode s x) where
      pub not_highest : eqb x (node_count s) ≡ false → 19 ≡ withdraw_refusal m x
      unfolding first_true
      not_highest e = withdraws 19 (simp (is_node_of s x a, e))

      module _ (h : eqb x (node_count s) ≡ true) where
        pub attached_already : is_attached s x ≡ true → 20 ≡ withdraw_refusal m x
        unfolding first_true
        attached_already e = withdraws 20 (simp (is_node_of s x a, h, e))

        pub may_withdraw : is_attached s x ≡ false → 0 ≡ withdraw_refusal m x
        unfolding first_true
        may_withdraw e = withdraws 0 (simp (is_node_of s x a, h, e))

  -- ---- delivering

  module _ (x y : ℕ) where
    delivers : (n : ℕ) → n ≡ first_true (deliver_sentences s x y) → n ≡ deliver_refusal m x y
    unfolding deliver_refusal
    delivers n e = past (λ (s : List ℕ). deliver_sentences s x y) n e

    pub no_sender : is_node s x ≡ false → 9 ≡ deliver_refusal m x y
    unfolding first_true
    no_sender e = delivers 9 (simp e)

    pub no_receiver : is_node s y ≡ false → 9 ≡ deliver_refusal m x y
    unfolding first_true
    no_receiver e = delivers 9 (simp (e, and-false))

    module _ (a : IsNode s x) (b : IsNode s y) where
      pub none_outstanding : outstanding s x y ≡ false → 13 ≡ deliver_refusal m x y
      unfolding first_true
      none_outstanding e = delivers 13 (simp (is_node_of s x a, is_node_of s y b, e))

      module _ (o : outstanding s x y ≡ true) where
        pub is_held : wait_held s x y ≡ true → 14 ≡ deliver_refusal m x y
        unfolding first_true
        is_held e = delivers 14 (simp (is_node_of s x a, is_node_of s y b, o, e))

        pub may_deliver : wait_held s x y ≡ false → 0 ≡ deliver_refusal m x y
        unfolding first_true
        may_deliver e = delivers 0 (simp (is_node_of s x a, is_node_of s y b, o, e))

  -- ---- lookup

  module _ (u z failed : ℕ) where
    looks : (n : ℕ) → n ≡ first_true (lookup_sentences s u z failed) → n ≡ lookup_refusal m u z failed
    unfolding lookup_refusal
    looks n e = past (λ (s : List ℕ). lookup_sentences s u z failed) n e

    pub no_start : is_node s u ≡ false → 9 ≡ lookup_refusal m u z failed
    unfolding first_true
    no_start e = looks 9 (simp e)

    pub no_destination : is_node s z ≡ false → 9 ≡ lookup_refusal m u z failed
    unfolding first_true
    no_destination e = looks 9 (simp (e, and-false))

    module _ (a : IsNode s u) (b : IsNode s z) where
      pub an_end_failed : end_failed failed u z ≡ true → 21 ≡ lookup_refusal m u z failed
      unfolding first_true
      an_end_failed e = looks 21 (simp (is_node_of s u a, is_node_of s z b, e))

      pub may_look : end_failed failed u z ≡ false → 0 ≡ lookup_refusal m u z failed
      unfolding first_true
      may_look e = looks 0 (simp (is_node_of s u a, is_node_of s z b, e))

-- what filling asks, where every node is in system
pub steady : (s t : List ℕ) → Sound s t → some_not_in_system s ≡ false → Steady s t
steady s t S h = record { sound = S; settled = all_in_system (memory s t) h }

-- ---- the verdict, filling and writing: t is the table memory that the code judged

module _ (m : Memory) (q : 0 ≡ state_refusal m) (s t : List ℕ) (same : (s ≡ m.state) × (t ≡ m.tables)) where
  pub not_settled : some_not_in_system s ≡ true → 15 ≡ verdict_refusal m
  unfolding verdict_refusal first_true
  not_settled e = past m q s same.0 verdict_sentences 15 (simp e)

  pub may_judge : some_not_in_system s ≡ false → 0 ≡ verdict_refusal m
  unfolding verdict_refusal first_true
  may_judge e = past m q s same.0 verdict_sentences 0 (simp e)

  judged_memory : memory s t ≡ m
  judged_memory = ap₂ memory same.0 same.1

  -- n is what a list of sentences on the judged memory answers
  on_memory : (later : Memory → List Sentence) (n : ℕ) → n ≡ first_true (later (memory s t)) → n ≡ first_true ((memory_short m, 1) ∷ (unsound m, 2) ∷ later m)
  unfolding state_refusal numbered
  on_memory later n e =
      sentences_later (state_sentences m) (later m) refl 0 n q refl (e ∙ ap (λ (m : Memory). first_true (later m)) judged_memory)

  module _ (out : List ℕ) where
    fills : (n : ℕ) → n ≡ first_true (fill_sentences (memory s t) out) → n ≡ fill_refusal m out
    unfolding fill_refusal
    fills n e = on_memory (λ (m : Memory). fill_sentences m out) n e

    pub joins_under_way : some_not_in_system s ≡ true → 15 ≡ fill_refusal m out
    unfolding first_true
    joins_under_way e = fills 15 (simp e)

    module _ (h : some_not_in_system s ≡ false) where
      pub list_too_long : ltb (length out) (length (filling s t).list) ≡ true → 16 ≡ fill_refusal m out
      unfolding first_true
      list_too_long e = fills 16 (simp (h, e))

      pub may_fill : ltb (length out) (length (filling s t).list) ≡ false → 0 ≡ fill_refusal m out
      unfolding first_true
      may_fill e = fills 0 (simp (h, e))

  module _ (version : ℕ) (out : List ℕ) where
    writes : (n : ℕ) → n ≡ first_true (write_sentences (memory s t) version out) → n ≡ write_refusal m version out
    unfolding write_refusal
    writes n e = on_memory (λ (m : Memory). write_sentences m version out) n e

    pub no_such_version : other_version version ≡ true → 4 ≡ write_refusal m version out
    unfolding first_true
    no_such_version e = writes 4 (simp e)

    module _ (v : other_version version ≡ false) where
      pub cannot_hold : (not (has_joins version) && some_not_in_system s) ≡ true → 15 ≡ write_refusal m version out
      unfolding first_true
      cannot_hold e = writes 15 (simp (v, e))

      module _ (h : (not (has_joins version) && some_not_in_system s) ≡ false) where
        pub image_too_long : ltb (length out) (length (image_of version s t)) ≡ true → 16 ≡ write_refusal m version out
        unfolding first_true
        image_too_long e = writes 16 (simp (v, h, e))

        pub may_write : ltb (length out) (length (image_of version s t)) ≡ false → 0 ≡ write_refusal m version out
        unfolding first_true
        may_write e = writes 0 (simp (v, h, e))
