-- `copy_out`: the part of the fixed length is as long as the words. Assumes nothing.
use Rattle.std.proofs.Common.{length-take-le, sym, ◌∙◌}
use Rattle.state.proofs.copy.copy_out.Goals as goal

pub copy_from_slice-requires : goal.copy_from_slice-requires
copy_from_slice-requires c = length-take-le 520 _ c.requires.state_length_in_bounds ∙ sym c.requires.words_len
