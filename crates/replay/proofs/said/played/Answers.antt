-- `played`: what the call leaves and answers, and its words. Assumes nothing.
use Rattle.replay.proofs.Turns.{played_memory, played_answer, played_put}
use Rattle.replay.proofs.said.played.Goals as goal

pub returns : goal.returns
returns c =
    let e = c.play-said.ensures in
    record {
      tables_after = played_memory _ _ _ _ e.result_after;
      out_after = e.out_after;
      answer_value = played_answer _ _ _ _ e.result_after;
      put = played_put _ _ _ _ e.result_after _ _ _ _ _ _ e.says c.put-end.ensures.put;
      end_bound = c.put-end.ensures.upper_bound;
    }
