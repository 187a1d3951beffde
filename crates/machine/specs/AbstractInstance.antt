-- The abstract machine as an instance of the text that it shares with the store.
use Rattle.tree.specs.Forest.{insert, remove, at, update_forest, alter, leaf, size, rooted}
use Rattle.machine.specs.Machine.{Machine}
use Rattle.machine.specs.AbstractMachine.{Abstract, Filed, top, an_entry, by_dominance, filed_revision, filed_content, new_entry, next_entry, on_people, on_entries, with_registry}

abbrev pub abstract : Machine Abstract Filed
abstract = record {
  workspace = λ h. h.workspace;
  elsewhere = λ h. size h.entries;
  entries = λ h. rooted an_entry top h.entries;
  judge = by_dominance;
  locate = λ p. p;
  revision = filed_revision;
  content = filed_content;
  registry = λ h. h.registry;
  file = λ e kind r content. on_entries (update_forest e.folder (insert e.name (leaf (new_entry kind r content))));
  revise = λ e content. on_entries (update_forest e.folder (at e.name (alter (next_entry content))));
  remove = λ e. on_entries (update_forest e.folder (remove e.name));
  on_workspace = on_people;
  with_registry = with_registry;
}
