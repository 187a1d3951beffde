-- States of the store and of the abstract machine that stand for one another still do so after each kind of change.
use Rattle.std.specs.Prelude.{◌≡◌, refl}
use Rattle.std.proofs.Common.{ap}
use Rattle.std.proofs.Math.Option.{none}
use Rattle.buffers.specs.Text.{Text}
use Rattle.accounts.specs.Dominance.{BoundedRole}
use Rattle.syntax.specs.Path.{Path, ◌▹◌, EntryPath, in_rep, entry_location}
use Rattle.tree.specs.declared.Kind.{Kind}
use Rattle.tree.specs.Forest.{Forest, Place, insert, remove, at, update, update_forest, alter, put, drop, leaf}
use Rattle.tree.specs.Node.{Node}
use Rattle.tree.proofs.ForestLaws.{leaf_map}
use Rattle.tree.proofs.RootedLaws.{rooted_put, rooted_drop, rooted_alter}
use Rattle.tree.specs.Graft.{Outside}
use Rattle.tree.proofs.GraftLaws.{update_inside}
use Rattle.shell.proofs.HidingLaws.{Beside, update_beside}
use Rattle.store.specs.State.{Registry, Store}
use Rattle.store.specs.Initial.{top_node, rep_node}
use Rattle.machine.specs.StoreMachine.{entry_node, next_node, on_tree, store}
use Rattle.machine.specs.AbstractMachine.{Entry, Abstract, new_entry, next_entry, on_entries}
use Rattle.machine.specs.AbstractInstance.{abstract}
use Rattle.machine.specs.Embedding.{in_store, stored, embed}
use Rattle.machine.proofs.EntryJudgeLaws.{next_law}
use Rattle.machine.specs.Simulation.{Tie, Tied}

-- the store's tree has them at `/rep`
beside : {s : Store} {h : Abstract} → Tie s h → Beside (stored h.entries) (leaf rep_node) top_node s.tree h.workspace
unfolding embed
beside t = record { same = ap (λ s. s.tree) t.same; here = t.kept.top; there = t.kept.there }

-- another people's tree in both
pub workspace_tie : {s : Store} {h : Abstract} → Tie s h → {a b : Place Node} → Beside (stored h.entries) (leaf rep_node) top_node a b
    → Tie (store.on_workspace (λ t. a) s) (abstract.on_workspace (λ t. b) h)
unfolding embed
workspace_tie t w = record {
  same = λ i. record { tree = w.same i; registry = (t.same i).registry };
  kept = record { top = w.here; there = w.there };
}

-- one change of it in both, outside `/rep`
pub people_tie : {s : Store} {h : Abstract} → Tie s h → (p : Path) → Outside p → (f : Place Node → Place Node)
    → Tie (store.on_workspace (update p f) s) (abstract.on_workspace (update p f) h)
people_tie t p o f = workspace_tie t (update_beside (beside t) p o f)

-- a change of the entries in both
entries_tie : {s : Store} {h : Abstract} → Tie s h → (p : Path) (f : Place Node → Place Node) (g : Forest Entry → Forest Entry)
    → update p f (stored h.entries) ≡ stored (g h.entries) → Tie (on_tree (update (in_rep p) f) s) (on_entries g h)
unfolding embed
entries_tie {h} t p f g law = record {
  same = rw (t.same, update_inside p f (stored h.entries) h.workspace, law);
  kept = record { top = t.kept.top; there = t.kept.there };
}

-- a new entry in both
pub file_tie : {s : Store} {h : Abstract} → Tie s h → (e : EntryPath) (kind : Kind) (r : BoundedRole) (content : Text)
    → Tie (store.file e kind r content s) (abstract.file e kind r content h)
unfolding stored in_store new_entry
file_tie {h} t e kind r content =
    let x = leaf (new_entry kind r content) in
    entries_tie t e.folder (put e.name (leaf (entry_node kind r 1 content))) (update_forest e.folder (insert e.name x))
    (rw (leaf_map in_store (new_entry kind r content)) (rooted_put in_store rep_node e.folder e.name x h.entries))

-- an entry revised in both
pub revise_tie : {s : Store} {h : Abstract} → Tie s h → (e : EntryPath) (content : Text) → Tie (store.revise e content s) (abstract.revise e content h)
unfolding stored entry_location in_rep
revise_tie {h} t e content =
    entries_tie t (e.folder ▹ e.name) (alter (next_node content)) (update_forest e.folder (at e.name (alter (next_entry content))))
    (rooted_alter in_store rep_node (next_node content) (next_entry content) (next_law content) e.folder e.name h.entries)

-- an entry taken out of both
pub remove_tie : {s : Store} {h : Abstract} → Tie s h → (e : EntryPath) → Tie (store.remove e s) (abstract.remove e h)
unfolding stored
remove_tie {h} t e = entries_tie t e.folder (drop e.name) (update_forest e.folder (remove e.name)) (rooted_drop in_store rep_node e.folder e.name h.entries)

-- another registry in both
pub registry_tie : {s : Store} {h : Abstract} → Tie s h → (r : Registry) → Tie (store.with_registry r s) (abstract.with_registry r h)
unfolding embed
registry_tie t r = record {
  same = rw t.same;
  kept = record { top = t.kept.top; there = t.kept.there };
}

-- done without a text
pub changed : {s : Store} {h : Abstract} → Tie s h → Tied (record { text = none; state = s }) (record { text = none; state = h })
changed t = record { text = refl; state = t }
