-- The joins of an image that pictures a state keep the rules of their list: each is of a node under way, and their nodes rise. Assumes nothing.
use Prim.Native.Nat.{ℕ, ◌+◌, ◌-◌, ◌<◌}
use mathlib.Core.Path.{◌≡◌, ap, subst, ◌∙◌}
use mathlib.Core.Bool.{true, not, ◌||◌}
use mathlib.Core.List.{List}
use native.Mathlib.Decide.{dec_lt, ℕ_discrete}
use native.Mathlib.Omega.{arith}
use lib.Dec.{eqb, ltb}
use borrow.Author.Tests.{eq-eqb, le-leb, lt-ltb}
use Rattle.model.specs.Loops.{count_below, node}
use Rattle.model.specs.Memory.{node_count, in_system}
use Rattle.model.specs.Image.{under_way, im_nodes, im_joins, join_number, im_counts, im_is_node, join_listed, joins_listed}
use Rattle.model.proofs.Bools.{and_intro, or_intro_left, or_intro_right}
use Rattle.model.proofs.Loops.{all_of}
use Rattle.model.proofs.Counting.{Ranked, count_finds, count_mono}
use Rattle.model.proofs.JoinSections.{JoinOf, JoinsPictured}

-- join q is that of the node with index place, which is under way and has q joins under way before it
pub record JoinAt (im s : List ℕ) (q : ℕ) : Type 0 where
  pub place : ℕ
  pub within : place < node_count s
  pub holds : under_way s (place + 1) ≡ true
  pub rank : count_below place (node (under_way s)) ≡ q
  pub of : JoinOf im q s (place + 1)

module _ (im s : List ℕ) where
  -- each join has a place
  pub join_found : JoinsPictured im s → (q : ℕ) → q < im_joins im → JoinAt im s q
  join_found J q h =
      let w : Ranked (node_count s) (node (under_way s)) q = count_finds (node_count s) (node (under_way s)) q (omega (arith, J.joins)) in
      record {
        place = w.place;
        within = w.within;
        holds = w.holds;
        rank = w.rank;
        of = subst (λ (q : ℕ). JoinOf im q s (w.place + 1)) w.rank (J.join w.place w.within w.holds);
      }

  -- and the places rise
  rises : (p q : ℕ) → p < q → (A : JoinAt im s p) (B : JoinAt im s q) → A.place < B.place
  rises p q l A B = go (dec_lt A.place B.place)
    where
      go : Dec (A.place < B.place) → A.place < B.place
      go (yes h) = h
      go (no g) = absurd (omega (arith, count_mono B.place A.place (node (under_way s)) (omega arith), A.rank, B.rank))

module _ (im s : List ℕ) (nodes : im_nodes im ≡ node_count s) (J : JoinsPictured im s) where
  one_listed : (q : ℕ) → q < im_joins im → join_listed im q ≡ true
  unfolding join_listed
  one_listed q h =
      let A : JoinAt im s q = join_found im s J q h in
      and_intro _ _ (is_node A) (and_intro _ _ (ap (λ (v : ℕ). not (eqb v in_system)) A.of.status ∙ A.holds) (above A (ℕ_discrete q 0)))
    where
      is_node : JoinAt im s q → im_is_node im (join_number im q) ≡ true
      is_node A =
          and_intro _ _ (le-leb 1 (join_number im q) (omega (arith, A.of.number)))
          (le-leb (join_number im q) (im_nodes im) (omega (arith, A.of.number, A.within)))

      above : JoinAt im s q → Dec (q ≡ 0) → (eqb q 0 || ltb (join_number im (q - 1)) (join_number im q)) ≡ true
      above A (yes z) = or_intro_left _ _ (eq-eqb q 0 z)
      above A (no nz) =
          let B : JoinAt im s (q - 1) = join_found im s J (q - 1) (omega arith) in
          or_intro_right (eqb q 0) _
          (lt-ltb (join_number im (q - 1)) (join_number im q)
          (omega (arith, rises im s (q - 1) q (omega arith) B A, A.of.number, B.of.number)))

  pub listed : joins_listed im ≡ true
  listed = and_intro _ _ (all_of (im_joins im) (join_listed im) one_listed) (eq-eqb (im_counts im) (im_nodes im) (omega (arith, J.counts)))
