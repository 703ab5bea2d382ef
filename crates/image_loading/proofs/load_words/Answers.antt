-- `load_words`: what the version has. Assumes nothing.
use Rattle.image_loading.proofs.Steps.{words_plain, words_joined}
use Rattle.image_loading.proofs.load_words.Goals as goal

pub returns-then-has_joins : goal.returns-then-has_joins
returns-then-has_joins c = search words_joined

pub returns-else-has_joins : goal.returns-else-has_joins
returns-else-has_joins c = search words_plain
