-- `ident::suffix_mask` meets its contract: no digits have mask 0, the formula gives those of 1 to 8, and it is asked at most at 8. Assumes nothing.
use mathlib.Core.Path.{◌∙◌}
use native.Mathlib.Omega.{arith}
use borrow.Author.Rules.{rules}
use Rattle.ident.proofs.Masks.{four_below, mask_bits}
use Rattle.ident.proofs.suffix_mask.Goals as goal

pub returns-then-i-eq0 : goal.returns-then-i-eq0
returns-then-i-eq0 c = mask_bits _ 0 (omega arith)

pub overflow_shl-highest : goal.overflow_shl-highest
overflow_shl-highest c = search rules

pub returns : goal.returns
returns c = four_below _ (overflow_shl-highest c) ∙ mask_bits _ _ (omega arith)
