-- `stored_header::may_enter` meets its contract: the tree is lent.
use borrow.Author.Rules.{rules}
use Rattle.stored_header.specs.StoredLaws.{long_enough, lent_encodes, lent_whole}
use Rattle.stored_header.proofs.may_enter.Goals as goal

pub slice_bounds-may_do-count : goal.slice_bounds-may_do-count
slice_bounds-may_do-count c = long_enough c.requires.some_store

pub slice_bounds-may_do-start : goal.slice_bounds-may_do-start
slice_bounds-may_do-start c = let l = long_enough c.requires.some_store in search rules

pub may_do-requires : goal.may_do-requires
may_do-requires c = record {
  whole = lent_whole c.requires.some_store;
  path_text = c.requires.path_text;
}

pub returns : goal.returns
returns c s p h q = c.may_do.ensures s.store.tree p (lent_encodes h) q
