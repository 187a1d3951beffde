-- `stored_header::put_directory` meets its contract: the header is lent, and the tree stays behind what is left of it.
use mathlib.Core.Path.{sym}
use Rattle.syntax.proofs.ParentLaws.{text_of_path}
use Rattle.stored_header.specs.StoredLaws.{long_enough, header_length, lent_headed, path_told, directory_bytes}
use Rattle.stored_header.proofs.put_directory.Goals as goal

pub slice_bounds-set_directory-end : goal.slice_bounds-set_directory-end
slice_bounds-set_directory-end c = long_enough c.requires.some_store

pub slice_bounds-set_directory-end-2 : goal.slice_bounds-set_directory-end-2
slice_bounds-set_directory-end-2 c = sym (header_length c.requires.some_store)

pub set_directory-requires : goal.set_directory-requires
set_directory-requires c = record {
  headed = lent_headed c.requires.some_store;
  uid_bound = c.requires.uid_bound;
  tells_path = path_told c.requires.path_text;
}

pub returns : goal.returns
returns c s p h q =
    let l = c.set_directory in
    let a = c.args in
    directory_bytes h a.uid p l.new.header (l.ensures s.setup s.store.registry h.header p (sym (text_of_path a.path.now p q)))
