use Rattle.std.proofs.Common.{◌≡◌, take}
use Rattle.std.specs.List.{list_all}
use Rattle.state.proofs.zero.all_zero.Given as goal

abbrev pub invariant-loop-place : goal.invariant-loop-place
invariant-loop-place g l = g.T.Place.is_zero l.gathered ≡ list_all g.T.Place.is_zero (take l.place-index l.part)
