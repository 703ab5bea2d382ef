-- A copying node, by settings v and a record r as they were loaded. Assumes nothing.
use Rattle.std.proofs.Common.{ℕ, List, Bool, ◌≡◌, sym, ap}
use Rattle.std.specs.Prelude.{◌&&◌, eqb, leb}
use Rattle.model.specs.Memory.{node_of, target_of, is_in_system}
use Rattle.model.specs.Memory as memory
use Rattle.model.specs.Nodes.{is_node}
use Rattle.model.specs.Sound.{joining_sound, copying_sound}
use Rattle.soundness_ids.specs.declared.member.Member.{Member}
use Rattle.state.specs.Loaded.{SettingsOf, book_node}
use Rattle.state.specs.declared.record.Node.{Node}
use Rattle.state.specs.declared.settings.Settings.{Settings}
use Rattle.state.proofs.Loads.{carried}

abbrev pub is_node_of : ℕ → ℕ → Bool
is_node_of n t = leb 1 t && leb t n

-- the words of a node that joins
abbrev pub joining_words : memory.Node → Bool
joining_words r = eqb r.level 0 && (eqb r.pending 0 && eqb r.notified 0)

pub copying_of : (s : List ℕ) (x : ℕ) (v : Settings) (r : Node) (q : Bool) → SettingsOf s v → book_node r ≡ node_of s x
    → q ≡ (is_node_of v.nodes r.target && (is_in_system s r.target && joining_words (book_node r))) → q ≡ copying_sound s x
unfolding copying_sound joining_sound
copying_of s x v r q =
    carried (λ v r. q ≡ (is_node_of v.nodes r.target && (is_in_system s r.target && joining_words r))) s x v r

-- the tests of the code, of a node with what it carries
pub copying_is : (m : Member) → copying_sound m.state.words.now m.number
    ≡ (is_node m.state.words.now (target_of m.state.words.now m.number)
    && (is_in_system m.state.words.now m.node.target && joining_sound m.state.words.now m.number))
unfolding joining_sound
copying_is m =
    let s = m.state.words.now in
    let r = m.node in
    let t : r.target ≡ target_of s m.number = ap (λ (r : memory.Node). r.target) m.node_is in
    let w : joining_words (book_node r) ≡ joining_words (node_of s m.number) = ap joining_words m.node_is in
    sym (copying_of s m.number m.state.settings r _ m.state.settings_of m.node_is (cc (m.state.settings_of.nodes)))
