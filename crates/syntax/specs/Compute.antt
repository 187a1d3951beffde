-- For computed examples only: whoever unfolds `compute` unfolds every definition of this crate, and of `buffers`, that a run goes
-- through.
use Rattle.buffers.specs.Compute.{compute as compute_buffers}
use Rattle.syntax.specs.Pieces.{bytes, comma, newline, prefix_first, pieces, joined}
use Rattle.syntax.specs.Number.{digit, value_after, no_leading_zero, decimal, between, mode_digits, mode, set_gid, digits_before, decimal_text, mode_text}
use Rattle.syntax.specs.Form.{◌>>=◌, ◌>>◌, check, is_some, none_of, one_of, two_of, three_of, by_form}
use Rattle.syntax.specs.Path.{parent, last, depth, is_top, same_path, within, lies_below, rep, in_rep, below_rep, entry_location, reserved, name_byte, is_name, most_names, extended, names_from_top, path, begins_with_slash, typed_path, follows, without_rep, entry_at, entry_path, names_text, path_text, entry_text}
use Rattle.syntax.specs.Field.{uid, gid, bounded_by, bounded, role, plain_mode, password, content_byte, is_content, content}

unfoldable pub compute : Unit {0}
unfolding compute_buffers bytes comma newline prefix_first pieces joined digit value_after no_leading_zero decimal between mode_digits mode set_gid digits_before decimal_text mode_text ◌>>=◌ ◌>>◌ check is_some none_of one_of two_of three_of by_form parent last depth is_top same_path within lies_below rep in_rep below_rep entry_location reserved name_byte is_name most_names extended names_from_top path begins_with_slash typed_path follows without_rep entry_at entry_path names_text path_text entry_text uid gid bounded_by bounded role plain_mode password content_byte is_content content
compute = tt
