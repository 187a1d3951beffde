-- For computed examples only: whoever unfolds `compute` unfolds every definition of this crate that a run goes through.
use Rattle.listing.specs.Listing.{kind_text, tag_fields, node_line, forest_lines, listing}

unfoldable pub compute : Unit {0}
unfolding kind_text tag_fields node_line forest_lines listing
compute = tt
