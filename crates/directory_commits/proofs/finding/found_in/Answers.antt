-- `directory_commits::finding::found_in` meets its contract: the tree is lent.
use Rattle.stored_header.specs.StoredLaws.{long_enough, lent_encodes, lent_whole}
use borrow.Author.Rules.{rules}
use Rattle.directory_commits.proofs.finding.found_in.Goals as goal

pub slice_bounds-found_at-count : goal.slice_bounds-found_at-count
slice_bounds-found_at-count c = long_enough c.requires.some_store

pub slice_bounds-found_at-start : goal.slice_bounds-found_at-start
slice_bounds-found_at-start c = let l = long_enough c.requires.some_store in search rules

pub found_at-requires : goal.found_at-requires
found_at-requires c = record {
  whole = lent_whole c.requires.some_store;
  path_text = c.requires.path_text;
}

pub returns : goal.returns
returns c s w h e = c.found_at.ensures s.store.tree w (lent_encodes h) e
