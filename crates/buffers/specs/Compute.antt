-- For computed examples only: whoever unfolds `compute` unfolds every definition of this crate that a run goes through.
use Rattle.buffers.specs.Text.{same_text, precedes, every}
use Rattle.buffers.specs.Fields.{two_bytes, number_at, padded, unpadded, text_at, all_bytes, all_from, table_bytes, table_from}

unfoldable pub compute : Unit {0}
unfolding same_text precedes every
compute = tt

-- and those that read values off their bytes
unfoldable pub compute_bytes : Unit {0}
unfolding two_bytes number_at padded unpadded text_at all_bytes all_from table_bytes table_from
compute_bytes = tt
