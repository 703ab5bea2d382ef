-- A run that is stopped, saved as an image of version 2 and gone on with elsewhere (document 02, ticket 9): the state is the one that was saved, every later
-- answer is as without the stop, and the counts go on.
use Rattle.std.specs.Prelude.{ℕ, ◌+◌, ◌≤◌, ◌≡◌, Bool, true, false, ◌&&◌, ◌||◌, List, [], ◌∷◌, ◌++◌, eqb, get_or}
use Rattle.model.specs.Memory.{Memory, digits, requests_of, notices_of}
use Rattle.model.specs.Refusals.{memory_short}
use Rattle.model.specs.Calls.{read_call, write_call}
use Rattle.model.specs.Run.{Call, found, read, begin, withdraw, deliver, lookup, survey, verdict, fill, write, trace, sound, Event, after, play, history, is_taken, is_run, sent, sent_from, answered, answered_from}
use Rattle.promise.specs.Fixed.{fixed}
use Rattle.promise.specs.Demand1.{SameUpToThere}
use Rattle.promise.specs.Demand2.{written}
use Rattle.promise.specs.Promise.{NodeIn}

-- after any list of calls the next call, whatever it is, gives the same answer and output on both memories and leaves the same in the fixed lengths; so the
-- histories are the same
pub record SameRuns (m m' : Memory) : Type 0 where
  pub next : (cs : List Call) (c : Call) → SameUpToThere (play m cs) (play m' cs) c
  pub histories : (cs : List Call) → history m' cs ≡ history m cs

-- memory m saved as version 2, and restored in the memory m'
abbrev pub restored : Memory → Memory → List ℕ → Memory
restored m m' out = (read_call m' (written m 2 out)).memory

pub record Restored (m m' : Memory) (out : List ℕ) : Type 0 where
  pub taken : is_taken (read_call m' (written m 2 out)).answer ≡ true
  -- every word and byte of the fixed lengths
  pub state : fixed (restored m m' out) ≡ fixed m
  pub runs : SameRuns m (restored m m' out)

-- a run that starts with memory m and call c and goes on with the calls cs is saved as this image; a new run starts by reading it into the memory m' and goes
-- on with the calls ds
abbrev pub saved_image : Memory → Call → List Call → List ℕ → List ℕ
saved_image m c cs out = written (play m (c ∷ cs)) 2 out

-- a node at the end has in its record what the two histories, one behind the other, count: the requests that it sent and its notices that were answered since
-- its latest beginning or, where neither run has one, on top of what its record had at the first start; and the requests are at most d + 1
pub record CountsGoOn (m : Memory) (c : Call) (cs : List Call) (out : List ℕ) (m' : Memory) (ds : List Call) (x : ℕ) : Type 0 where
  pub requests : requests_of (play m' (read (saved_image m c cs out) ∷ ds)).state x
      ≡ sent_from (requests_of (after m c).state x) x (history m (c ∷ cs) ++ history m' (read (saved_image m c cs out) ∷ ds))
  pub notices : notices_of (play m' (read (saved_image m c cs out) ∷ ds)).state x
      ≡ answered_from (notices_of (after m c).state x) x (history m (c ∷ cs) ++ history m' (read (saved_image m c cs out) ∷ ds))
  pub bounded : requests_of (play m' (read (saved_image m c cs out) ∷ ds)).state x ≤ digits (play m' (read (saved_image m c cs out) ∷ ds)).state + 1

-- the call, with this answer, is a beginning of x
abbrev pub begins_as : ℕ → Call → List ℕ → Bool
begins_as x (found b d K id) answer = false
begins_as x (read im) answer = false
begins_as x (begin id gateway) answer = eqb (get_or answer 1 0) x
begins_as x (withdraw y) answer = false
begins_as x (deliver y z) answer = false
begins_as x (lookup u z failed) answer = false
begins_as x (survey failed) answer = false
begins_as x verdict answer = false
begins_as x (fill out) answer = false
begins_as x (write version out) answer = false
begins_as x (trace file) answer = false
begins_as x sound answer = false

-- x began in the history
unfoldable pub begun_in : ℕ → List Event → Bool
begun_in x [] = false
begun_in x (e ∷ es) = is_taken e.answer && begins_as x e.call e.answer || begun_in x es

pub record Resumed : Type 0 where
  -- memories alike in the fixed lengths have the same runs
  pub alike : (m m' : Memory) → fixed m' ≡ fixed m → SameRuns m m'
  -- a state that is saved, whatever joins are under way, is restored, and goes on as without the stop
  pub goes_on : (m m' : Memory) (out : List ℕ) → is_taken (write_call m 2 out).answer ≡ true → memory_short m' ≡ false → Restored m m' out
  pub counts : (m : Memory) (c : Call) (cs : List Call) → is_run m c cs ≡ true
      → (out : List ℕ) → is_taken (write_call (play m (c ∷ cs)) 2 out).answer ≡ true
      → (m' : Memory) (ds : List Call) → is_run m' (read (saved_image m c cs out)) ds ≡ true
      → (x : ℕ) → NodeIn (play m' (read (saved_image m c cs out) ∷ ds)) x → CountsGoOn m c cs out m' ds x
  -- of any run, so of one from a restored state: a node that did not begin in it has in its record what it had at the start plus what the run counts
  pub added : (m : Memory) (c : Call) (cs : List Call) → is_run m c cs ≡ true → (x : ℕ) → NodeIn (play m (c ∷ cs)) x
      → begun_in x (history m (c ∷ cs)) ≡ false
      → (requests_of (play m (c ∷ cs)).state x ≡ requests_of (after m c).state x + sent x (history m (c ∷ cs)))
      × (notices_of (play m (c ∷ cs)).state x ≡ notices_of (after m c).state x + answered x (history m (c ∷ cs)))
