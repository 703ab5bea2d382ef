-- The settings and ids of an image that pictures a state, read into any memory: those of the state, and zero in every other word of the fixed length; past
-- it the memory that was there. Assumes nothing.
use Prim.Native.Nat.{ℕ, zero, suc, ◌+◌, ◌*◌, ◌≤◌, ◌<◌}
use mathlib.Core.Path.{◌≡◌, sym, ◌∙◌}
use mathlib.Core.Logic.{◌⊎◌, inl, inr}
use mathlib.Core.List.{List}
use native.Mathlib.Decide.{dec_lt}
use native.Mathlib.Omega.{arith}
use lib.ListN.{length, get_or, length-set}
use lib.Seq.{get_or-set_other}
use Rattle.model.specs.Memory.{state_length, node_count, node_of, id_of, status_of, zeroed}
use Rattle.model.specs.Join.{with_settings}
use Rattle.model.specs.Image.{im_base, im_digits, im_depth, im_nodes, im_id, load_id, loaded_ids}
use Rattle.model.proofs.Loops.{each_keeps}
use Rattle.model.proofs.Memory.{zeroed_length}
use Rattle.model.proofs.Over.{zeroed_past}
use Rattle.model.proofs.FoundingIsSound.{settings_length, settings_outside}
use Rattle.model.proofs.Status.{IsNode, InSystemOk, StatusOk, ok_in_system, ok_copying, ok_waiting, ok_notifying}
use Rattle.model.proofs.Sound.{Sound}
use Rattle.model.proofs.LoadingIsSound.{Words, words_loaded}
use Rattle.model.proofs.Sections.{Pictures}
use Rattle.model.proofs.WrittenIsTaken.{written_readable}

module _ (im s' : List ℕ) (room : state_length ≤ length s') where
  s₀ : List ℕ
  s₀ = with_settings (zeroed state_length s') (im_base im) (im_digits im) (im_depth im) (im_nodes im)

  pub ids_long : length (loaded_ids s' im) ≡ length s'
  unfolding loaded_ids s₀
  ids_long =
      each_keeps (λ (l : List ℕ). length l ≡ length s') (im_nodes im) (load_id im) s₀
      (settings_length (zeroed state_length s') (im_base im) (im_digits im) (im_depth im) (im_nodes im) ∙ zeroed_length state_length s' room)
      (λ k l h e. length-set l (8 * (k + 1)) (im_id im (k + 1)) ∙ e)

  -- past the fixed length
  pub ids_past : im_nodes im ≤ 64 → (p : ℕ) → state_length ≤ p → get_or (loaded_ids s' im) p 0 ≡ get_or s' p 0
  unfolding loaded_ids s₀
  ids_past few p h =
      each_keeps (λ (l : List ℕ). get_or l p 0 ≡ get_or s' p 0) (im_nodes im) (load_id im) s₀
      (settings_outside (zeroed state_length s') (im_base im) (im_digits im) (im_depth im) (im_nodes im) p (omega arith) ∙ zeroed_past state_length s' p h)
      (λ k l g e. get_or-set_other l (8 * (k + 1)) p (im_id im (k + 1)) 0 (λ q. omega arith) ∙ e)

module _ (im s t : List ℕ) (S : Sound s t) (P : Pictures im s t) (s' : List ℕ) (room : state_length ≤ length s') where
  W : Words im (loaded_ids s' im)
  unfolding loaded_ids
  W = words_loaded im s' (written_readable im s t S P) room

  node_back : {x : ℕ} → IsNode s x → IsNode (loaded_ids s' im) x
  node_back n = record { low = n.low; high = omega (arith, W.settings.count, P.nodes, n.high) }

  node_there : {x : ℕ} → IsNode (loaded_ids s' im) x → IsNode s x
  node_there n = record { low = n.low; high = omega (arith, W.settings.count, P.nodes, n.high) }

  -- a word before the records, or behind them
  settings_back : (p : ℕ) → p < 4 → get_or (loaded_ids s' im) p 0 ≡ get_or s p 0
  settings_back zero h = W.settings.base ∙ P.base
  settings_back (suc zero) h = W.settings.digits ∙ P.digits
  settings_back (suc (suc zero)) h = W.settings.depth ∙ P.depth
  settings_back (suc (suc (suc zero))) h = W.settings.count ∙ P.nodes
  settings_back (suc (suc (suc (suc p)))) h = absurd (omega arith)

  pub ids_apart : (p : ℕ) → p < state_length → (p < 8) ⊎ (8 * node_count s + 8 ≤ p) → get_or (loaded_ids s' im) p 0 ≡ get_or s p 0
  ids_apart p h (inl l) = go (dec_lt p 4)
    where
      go : Dec (p < 4) → get_or (loaded_ids s' im) p 0 ≡ get_or s p 0
      go (yes g) = settings_back p g
      go (no g) = W.zero p (omega arith) h (λ x n. omega (arith, n.low)) ∙ sym (S.head p (omega arith) l)
  ids_apart p h (inr l) = W.zero p (omega arith) h (λ x n. omega (arith, (node_there n).high)) ∙ sym (S.rest p l h)

  -- the words of a node's record: its id, and nothing else
  pub ids_back : (x : ℕ) → IsNode s x → id_of (loaded_ids s' im) x ≡ id_of s x
  ids_back x n = W.ids x (node_back n) ∙ P.ids x n

  pub ids_else : (x : ℕ) → IsNode s x → (c : ℕ) → 1 ≤ c → c < 8 → get_or (loaded_ids s' im) (8 * x + c) 0 ≡ 0
  ids_else x n c l h = W.zero (8 * x + c) (omega (arith, n.low)) (omega (arith, n.high, S.few)) (λ y m. omega arith)

-- a node in system has nothing but its id and its counts
pub in_system_ok : (s : List ℕ) (x : ℕ) → StatusOk s x → status_of s x ≡ 0 → InSystemOk (node_of s x)
in_system_ok s x (ok_in_system e r) z = r
in_system_ok s x (ok_copying e r) z = absurd (omega arith)
in_system_ok s x (ok_waiting e r) z = absurd (omega arith)
in_system_ok s x (ok_notifying e r) z = absurd (omega arith)
