-- What is said of a call, by the value that holds it.
use Rattle.std.specs.Prelude.{ℕ, cond, List, [], ◌∷◌}
use Rattle.answers.specs.Numbers.{number_of}
use Rattle.answers.specs.Fields.{taken_fields, short_fields}
use Rattle.text.specs.Ascii.{ascii}
use Rattle.text.specs.Lines.{line}
use Rattle.replay_survey.specs.SurveyText.{survey_said}
use Rattle.replay_refusals.specs.Refused.{refused_text}
use Rattle.replay_words.specs.Said.{bytes_text, deliver_text, lookup_text, judged_text, additions_text, paths_text}
use Rattle.replay_words.specs.declared.said.Said.{Said}
use Rattle.replay_words.specs.declared.said.Said.TheVariants.{Refused, Founded, Loaded, Begun, Withdrawn, Delivered, LookedUp, Surveyed, Judged, Filled, Saved, Traced, Sound}

-- the words of an answer are those of its fields behind refusal 0
abbrev pub words_of : Said → List ℕ
words_of (Refused r) = refused_text (number_of r.refusal) r.first r.second
words_of Founded = ascii "found: node 1\n"
words_of (Loaded bytes) = bytes_text (ascii "load: ") bytes
words_of (Begun node) = line (ascii "begin: node ") node
words_of (Withdrawn node) = line (ascii "withdraw: node ") node
words_of (Delivered d) = deliver_text (0 ∷ taken_fields d)
words_of (LookedUp l) = lookup_text (0 ∷ cond l.arrived 1 0 ∷ l.hops ∷ l.last ∷ [])
words_of (Surveyed s) = survey_said s.digits s.counts
words_of (Judged short) = judged_text (0 ∷ short_fields short)
words_of (Filled additions) = additions_text additions
words_of (Saved bytes) = bytes_text (ascii "save: ") bytes
words_of (Traced paths) = paths_text paths
words_of Sound = ascii "sound: the state is sound\n"
