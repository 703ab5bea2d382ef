-- What one line does to the network, and what is said of it. Assumes nothing.
use Prim.Native.Nat.{ℕ, ◌*◌, ◌≤◌}
use mathlib.Core.Path.{◌≡◌, refl, sym, ap, subst, ◌∙◌}
use mathlib.Core.List.{List}
use lib.ListN.{length, get_or}
use borrow.Author.Tests.{ne_eqb}
use native.Mathlib.Omega.{arith}
use Rattle.std.specs.Prelude.{Option, Result, OnOk}
use Rattle.std.specs.Io.KnownBytes.{Appends}
use Rattle.model.specs.Memory.{Memory}
use Rattle.model.specs.Run as book
use Rattle.model.specs.Run.{step, after}
use Rattle.model.proofs.Fields.{additions_fit}
use Rattle.putting.specs.Put.{Put}
use Rattle.putting.proofs.Putting.{put_none, put_then}
use Rattle.text.proofs.Pieces.{by_key}
use Rattle.text.specs.Ascii.{ascii}
use Rattle.text.specs.Lines.{labelled}
use Rattle.answers.specs.Numbers.{number_of}
use Rattle.answers.specs.declared.error.Refusal.{Refusal}
use Rattle.answers.proofs.Errors.{numbered_from_one}
use Rattle.calls.specs.declared.Call.{Call}
use Rattle.replay_calls.specs.Answered.{padded, Played, playing, listed, shown, Says}
use Rattle.replay_refusals.specs.Refused.{refused_text}
use Rattle.replay_words.specs.Said.{said}
use Rattle.replay_words.specs.Words.{words_of}
use Rattle.replay_words.specs.declared.said.Said.{Said}
use Rattle.replay_words.specs.declared.said.Said.TheVariants.{Filled}
use Rattle.script.specs.declared.command.Command.{Command}
use Rattle.script.specs.declared.command.Command.TheVariants as is
use Rattle.replay.specs.Said.{or_refused, unknown_said, command_said, command_after}

-- ---- a call, played

module _ (m m₁ : Memory) (s : Said) (c : book.Call) (e : shown m₁ s ≡ playing (step m c)) where
  pub played_memory : m₁ ≡ after m c
  unfolding playing after
  played_memory = ap (λ (p : Played). p.memory) e

  pub played_answer : listed s ≡ padded (step m c).answer
  unfolding playing
  played_answer = ap (λ (p : Played). p.words) e

  pub played_words : (call : Call) (d : ℕ) (file : List ℕ) → Says d file call s → words_of s ≡ said d file call (padded (step m c).answer)
  played_words call d file f = f ∙ ap (said d file call) played_answer

  pub played_put : (call : Call) (d : ℕ) (file o p : List ℕ) (g : ℕ) → Says d file call s → Put o 0 (words_of s) p g
      → Put o 0 (said d file call (padded (step m c).answer)) p g
  played_put call d file o p g f P = by_key (λ text. text) _ _ (sym (played_words call d file f)) o 0 p g P

-- what was written, by another name
pub written : {T E : Type 0} (r : Result T E) (o p : Option (List ℕ)) (t u : List ℕ) → t ≡ u → OnOk r (Appends o p t) → OnOk r (Appends o p u)
written r o p t u e h = subst (λ (t : List ℕ). OnOk r (Appends o p t)) e h

-- the records of a filling fit the memory for the list
pub list_fits : (m : Memory) (list : List ℕ) (s : Said) (n : ℕ) → s ≡ Filled n → listed s ≡ padded (step m (book.fill list)).answer → 4 * n ≤ length list
unfolding step
list_fits m list s n is e = subst (λ (n : ℕ). 4 * n ≤ length list) (sym (ap (λ (l : List ℕ). get_or l 1 0) (ap listed (sym is) ∙ e))) (additions_fit m list)

-- ---- the panel and a table

-- e is the refusal that the code found
pub says_refused : (number : ℕ) (e : Refusal) (text : List ℕ) → number_of e ≡ number → refused_text (number_of e) 0 0 ≡ or_refused number text
unfolding or_refused
says_refused number e text q = rw (sym q, ne_eqb (number_of e) 0 (numbered_from_one e)) refl

pub says_shown : (number : ℕ) (text : List ℕ) → 0 ≡ number → text ≡ or_refused number text
unfolding or_refused
says_shown number text q = rw (sym q) refl

-- ---- a line that is no command

pub unknown_put : (number : ℕ) (o : List ℕ) (p : List ℕ) (g : ℕ) (q : List ℕ) (h : ℕ) → Put o 0 (labelled (ascii "line ") number) p g
    → Put p g (ascii ": not understood\n") q h → Put o 0 (unknown_said number) q h
unfolding unknown_said
unknown_put number o p g q h P Q = put_then o 0 _ p g _ q h P Q

-- ---- the command decides

module _ (m : Memory) (number : ℕ) (command : Command) where
  leaves : (c : Command) → command ≡ c → (m₁ : Memory) → m₁ ≡ command_after m c → m₁ ≡ command_after m command
  leaves c e m₁ f = f ∙ ap (command_after m) (sym e)

  says : (c : Command) → command ≡ c → (o p : List ℕ) (g : ℕ) → Put o 0 (command_said m number c) p g → Put o 0 (command_said m number command) p g
  says c e o p g P = subst (λ (c : Command). Put o 0 (command_said m number c) p g) (sym e) P

  pub nothing_leaves : command ≡ is.Nothing → m ≡ command_after m command
  nothing_leaves e = leaves is.Nothing e m refl

  pub fill_leaves : command ≡ is.Fill → m ≡ command_after m command
  fill_leaves e = leaves is.Fill e m refl

  pub save_leaves : (v : ℕ) → command ≡ is.Save v → m ≡ command_after m command
  save_leaves v e = leaves (is.Save v) e m refl

  pub load_leaves : command ≡ is.Load → m ≡ command_after m command
  load_leaves e = leaves is.Load e m refl

  pub trace_leaves : command ≡ is.Trace → m ≡ command_after m command
  trace_leaves e = leaves is.Trace e m refl

  module _ (o : List ℕ) where
    pub nothing_says : command ≡ is.Nothing → Put o 0 (command_said m number command) o 0
    nothing_says e = says is.Nothing e o o 0 (put_none o 0 (omega arith))

    pub fill_says : command ≡ is.Fill → Put o 0 (command_said m number command) o 0
    fill_says e = says is.Fill e o o 0 (put_none o 0 (omega arith))

    pub save_says : (v : ℕ) → command ≡ is.Save v → Put o 0 (command_said m number command) o 0
    save_says v e = says (is.Save v) e o o 0 (put_none o 0 (omega arith))

    pub load_says : command ≡ is.Load → Put o 0 (command_said m number command) o 0
    load_says e = says is.Load e o o 0 (put_none o 0 (omega arith))

    pub trace_says : command ≡ is.Trace → Put o 0 (command_said m number command) o 0
    trace_says e = says is.Trace e o o 0 (put_none o 0 (omega arith))
