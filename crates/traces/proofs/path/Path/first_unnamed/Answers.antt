-- `first_unnamed`: `find` over the places. Assumes nothing.
use Rattle.std.proofs.Common.{rules, ℕ, Bool, ◌≡◌, ◌+◌, true, false}
use Rattle.std.proofs.lemmas.Iterator.{first_from_Range}
use Rattle.model.specs.Image.{byte_at}
use Rattle.model.specs.Nodes.{is_node}
use Rattle.traces.proofs.Paths.{places_found}
use Rattle.traces.proofs.path.Path.first_unnamed.Goals as goal

pub returns : goal.returns
returns c =
    let a = c.args in
    let named : ℕ → Bool = λ k. is_node a.network.now.state.now (byte_at a.self.now.trace.now (a.self.now.at + 1 + k)) in
    let found =
    places_found _ _ _ _ a.self.now.stands _ c.find.result
    (first_from_Range _ _ _ c.find.result (λ k. named k ≡ false) (λ k. named k ≡ true) c.find.ensures.ran (λ x q k. search rules) (λ x q k. search rules)) in
    record { none = found.0; some = found.1 }
