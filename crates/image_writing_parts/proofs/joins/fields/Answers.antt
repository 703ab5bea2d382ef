-- `joins::fields`: four bytes, and the two sets behind them. Assumes nothing.
use Rattle.std.proofs.Common.{ℕ, List, ◌≡◌, ◌∙◌, subst}
use Rattle.std.specs.Int.{w64, to_le_bytes}
use Rattle.model.specs.Image.{eight_bytes}
use Rattle.state.specs.Loaded.{book_node}
use Rattle.putting.specs.Put.{Put}
use Rattle.image_writing_parts.proofs.IdLaws.{eight_le}
use Rattle.image_writing_parts.proofs.JoinLaws.{fields_put}
use Rattle.image_writing_parts.proofs.joins.fields.Goals as goal

set_put : (n : ℕ) (o : List ℕ) (a : ℕ) (bs p : List ℕ) (e : ℕ) → bs ≡ to_le_bytes w64 n → Put o a bs p e → Put o a (eight_bytes n) p e
set_put n o a bs p e q = subst (λ (bs : List ℕ). Put o a bs p e) (q ∙ eight_le n)

pub returns : goal.returns
returns c =
    let r = c.args.r in
    fields_put _ _ _ _ _ _ c.args.x (book_node r) _ _ c.four-pending.ensures
    (set_put r.pending _ _ _ _ _ c.to_le_bytes.ensures c.piece-notified.ensures) (set_put r.notified _ _ _ _ _ c.to_le_bytes-2.ensures c.piece.ensures)
