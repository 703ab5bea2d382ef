-- That a request can be delivered is one fact: it has one proof at most.
use Rattle.std.specs.Prelude.{ℕ, List}
use Rattle.std.proofs.Props.{props}
use Rattle.model.proofs.SoundProp.{Sound-prop}
use Rattle.delivery_parts.specs.Delivers.{Delivers}

pub Delivers-prop : (s t : List ℕ) (x y : ℕ) → IsProp (Delivers s t x y)
Delivers-prop s t x y = Prim.hlevel (props, Sound-prop)
