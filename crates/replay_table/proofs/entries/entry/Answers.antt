-- `entry`: nothing for an empty entry, else its level, digit and neighbours. Assumes nothing.
use Rattle.std.proofs.Common.{ℕ, ◌≡◌, ◌≢◌, Bool, true, false, not, arith, refl}
use Rattle.std.specs.Prelude.{Option, None, Some, IfSome, is_some}
use Rattle.tables.specs.NextHop.{number_or_zero}
use Rattle.replay_table.proofs.Pieces.{entry_none, entry_some}
use Rattle.replay_table.proofs.entries.entry.Goals as goal

-- the test of whether there is a first node tells whether its number is 0
no_node : (first : Option ℕ) (b : Bool) → is_some first ≡ not b → b ≡ true → number_or_zero first ≡ 0
no_node None b e is = refl
no_node (Some u) b e is = Prim.cc (e, is)

some_node : (first : Option ℕ) (b : Bool) → is_some first ≡ not b → b ≡ false → IfSome first (λ u. u ≢ 0) → number_or_zero first ≢ 0
some_node None b e is some = Prim.cc (e, is)
some_node (Some u) b e is some = some

pub returns-then-is_none : goal.returns-then-is_none
returns-then-is_none c =
    record {
      put = entry_none _ _ _ _ _ _ _ (omega arith) c.first.ensures.first (no_node _ _ c.is_none.ensures c.if-is_none.true);
      upper_bound = omega arith;
    }

pub returns : goal.returns
returns c =
    record {
      put = entry_some _ _ _ _ _ _ _ _ _ _ _ _ _ _ _ c.first.ensures.first (some_node _ _ c.is_none.ensures c.if-is_none.false c.first.ensures.some)
          c.labelled-second.ensures.put c.piece-third.ensures c.hex-fourth.ensures.put c.listed.ensures.put;
      upper_bound = omega arith;
    }
