-- `empty`: the four bytes gathered by `or` are zero exactly when each is. Assumes nothing.
use Prim.Native.Nat.{ℕ, ◌+◌, ◌*◌}
use mathlib.Core.Path.{refl, sym, ap}
use native.Mathlib.Nat.{add-zero}
use lib.ListN.{get_or}
use lib.Dec.{eqb}
use Rattle.tables.proofs.Gathered.{four_zero}
use Rattle.tables.proofs.entry.empty.Goals as goal

pub returns : goal.returns
returns c =
    let a = c.args in
    let T = a.table.now in
    let at = 64 * a.i + 4 * a.j in
    four_zero _ (get_or T at 0) (get_or T (at + 1) 0) (get_or T (at + 2) 0) (get_or T (at + 3) 0) (ap (λ (n : ℕ). eqb (get_or T n 0) 0) (sym (add-zero at))) refl refl refl
