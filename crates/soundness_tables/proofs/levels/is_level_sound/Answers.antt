-- `is_level_sound`: a level that holds its owner and nothing else is sound. Assumes nothing.
use Rattle.soundness_tables.proofs.LevelLaws.{level_alone}
use Rattle.soundness_tables.proofs.levels.is_level_sound.Goals as goal

pub returns-then-filled-eq1 : goal.returns-then-filled-eq1
returns-then-filled-eq1 c = search level_alone
