-- `put`: five pieces. Assumes nothing.
use mathlib.Core.Path.{sym, ◌∙◌}
use mathlib.Core.List.{List}
use Prim.Native.Nat.{ℕ}
use Rattle.text.proofs.Pieces.{by_key}
use Rattle.replay_refusals.proofs.Texts.{refused_put}
use Rattle.replay_refusals.proofs.put.Goals as goal

pub returns-clause-put : goal.returns-clause-put
returns-clause-put c =
    let said = c.as_bytes.ensures.value ∙ c.sentence_of.ensures.value in
    refused_put _ _ _ _ _ _ _ _ _ _ _ _ _ _ _ c.labelled-place.ensures.put c.at_place-colon.ensures.put c.piece-words.ensures
    (by_key (λ (text : List ℕ). text) _ _ (sym said) _ _ _ _ c.piece-end.ensures) c.piece.ensures
