-- What a load gives is what the book has, so a fact of the one is a fact of the other. Assumes nothing.
use Prim.Native.Nat.{ℕ}
use mathlib.Core.Path.{◌≡◌, subst}
use mathlib.Core.List.{List}
use Rattle.model.specs.Memory as memory
use Rattle.model.specs.Memory.{base, digits, depth, node_count, node_of}
use Rattle.state.specs.declared.record.Node.{Node}
use Rattle.state.specs.declared.settings.Settings.{Settings}
use Rattle.state.specs.Loaded.{SettingsOf, book_node}

abbrev pub settings_at : List ℕ → Settings
settings_at s = record { base = base s; digits = digits s; depth = depth s; nodes = node_count s }

pub settings_is : (s : List ℕ) (r : Settings) → SettingsOf s r → r ≡ settings_at s
settings_is s r w = λ i. record { base = w.base i; digits = w.digits i; depth = w.depth i; nodes = w.nodes i }

-- a fact of the loaded settings and record is one of the book's
pub carried : (P : Settings → memory.Node → Type 0) (s : List ℕ) (x : ℕ) (v : Settings) (r : Node) → SettingsOf s v
    → book_node r ≡ node_of s x → P v (book_node r) → P (settings_at s) (node_of s x)
carried P s x v r w u e =
    subst (λ (v : Settings). P v (node_of s x)) (settings_is s v w) (subst (λ (r : memory.Node). P v r) u e)
