use Rattle.std.proofs.Common.{◌≡◌, take}
use Rattle.std.specs.Prelude.{not, eqb}
use Rattle.std.specs.List.{list_all}
use Rattle.soundness_ids.proofs.row.is_new.Given as goal

abbrev pub invariant-loop-other : goal.invariant-loop-other
invariant-loop-other l = eqb l.same 0 ≡ list_all (λ other. not (eqb other l.id)) (take l.other-index (take l.k l.ids))
