-- What a delivery leaves, the memory and the answer, as the book has it.
use Rattle.std.specs.Prelude.{ℕ, List, [], ◌∷◌}
use Rattle.model.specs.Join.{Delivery, delivered}
use Rattle.model.specs.Calls.{Outcome, taken, delivery_fields}
use Rattle.state.specs.Lent.{memory}
use Rattle.answers.specs.Fields.{taken_fields}
use Rattle.answers.specs.declared.delivery.Delivery as answer

-- the memory and the answer that a delivery leaves: 0 for no refusal, the kind, the level where it attached, and 1 if the sender settled
abbrev pub outcome : List ℕ → List ℕ → answer.Delivery → Outcome
outcome s t d = record { memory = memory s t; out = []; answer = 0 ∷ taken_fields d }

-- what the delivery d from x to y leaves
unfoldable pub took_delivery : List ℕ → List ℕ → ℕ → ℕ → Delivery → Outcome
took_delivery s t x y d = taken (delivered s t x y d) [] (delivery_fields d)
