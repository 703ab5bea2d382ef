-- What is known of the joins under way and of the counts of an image of version 2. im is the image.
use Rattle.std.specs.Prelude.{ℕ, ◌≡◌, List}
use Rattle.model.specs.Memory as memory
use Rattle.model.specs.Image.{join_number, join_status, join_level, join_target, join_pending, join_notified}
use Rattle.image_joins.specs.declared.joins.Join.{Join}

-- join q as the code holds it
pub record JoinOf (im : List ℕ) (q : ℕ) (j : Join) : Type 0 where
  pub node : j.node ≡ join_number im q
  pub status : j.status ≡ join_status im q
  pub level : j.level ≡ join_level im q
  pub target : j.target ≡ join_target im q
  pub pending : j.pending ≡ join_pending im q
  pub notified : j.notified ≡ join_notified im q

-- a node's record r with what a join holds
abbrev pub joined_by : Join → memory.Node → memory.Node
joined_by j r =
    record {
      id = r.id;
      status = j.status;
      level = j.level;
      target = j.target;
      pending = j.pending;
      notified = j.notified;
      requests = r.requests;
      notices = r.notices;
    }

-- and with these counts
abbrev pub counted_by : ℕ → ℕ → memory.Node → memory.Node
counted_by requests notices r =
    record {
      id = r.id;
      status = r.status;
      level = r.level;
      target = r.target;
      pending = r.pending;
      notified = r.notified;
      requests = requests;
      notices = notices;
    }
