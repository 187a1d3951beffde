-- Entries redacted in the abstract machine: what a role that does not dominate r meets there is what it meets in the machine
-- itself; and the store redacted stands for the machine redacted.
use Rattle.std.specs.Prelude.{◌≡◌, [], Bool, true, false, ◌&&◌, not, cond}
use Rattle.std.proofs.Math.Path.{refl, sym, ap}
use Rattle.std.proofs.Common.{◌∙◌}
use Rattle.std.proofs.Math.Bool.{and-false}
use Rattle.buffers.specs.Cases.{case, contra}
use Rattle.buffers.specs.Text.{Text}
use Rattle.accounts.specs.declared.Caller.{Caller}
use Rattle.accounts.specs.Dominance.{same_role, BoundedRole}
use Rattle.accounts.proofs.DominanceLaws.{same_role_is}
use Rattle.accounts.proofs.ServiceLaws.{same_service}
use Rattle.syntax.specs.Path.{Name, Path, root, ◌▹◌, EntryPath, in_rep}
use Rattle.setup.specs.Setup.{Setup}
use Rattle.tree.specs.declared.Kind.TheVariants.{Directory}
use Rattle.tree.specs.Outcomes.{Agree}
use Rattle.tree.specs.Forest.{Forest, Place, insert, remove, at, update, update_forest, alter, put, drop, map_forest, map_place, rooted}
use Rattle.tree.proofs.RootedLaws.{rooted_below, rooted_put, rooted_drop, rooted_alter, rooted_map, rooted_of_map}
use Rattle.tree.proofs.PlaceLaws.{update_root}
use Rattle.tree.proofs.MapLaws.{map_map, walk_map, parent_walk_map}
use Rattle.tree.proofs.JudgeLaws.{directory_is_one}
use Rattle.tree.specs.Node.{is_directory, Node}
use Rattle.tree.specs.Walk.{walk, parent_walk}
use Rattle.tree.proofs.GraftLaws.{update_inside}
use Rattle.copying.specs.Copying.{Source, copy}
use Rattle.copying.proofs.CopyLaws.{copy_map}
use Rattle.store.specs.State.{Store}
use Rattle.store.specs.Initial.{directory_of, rep_node}
use Rattle.machine.specs.StoreMachine.{entry_node}
use Rattle.machine.specs.AbstractMachine.{Entry, Abstract, Filed, top, an_entry, dominated, filed_kind, filed_passes, filed_readable, filed_writable, by_dominance, filed_revision, filed_content, new_entry, next_entry}
use Rattle.machine.specs.Embedding.{in_store, stored, embed}
use Rattle.machine.specs.Simulation.{Tie}
use Rattle.secrecy.specs.Redacted.{is_secret, redacted_node, redacted}

module _ (r : BoundedRole) where
  -- ---- entries redacted

  -- a file of role r
  unfoldable pub secret : Entry → Bool
  secret x = not (is_directory x.kind) && same_role x.role.role r.role

  unfoldable pub redacted_entry : Entry → Entry
  redacted_entry x = record {
    kind = x.kind;
    role = x.role;
    revision = cond (secret x) 0 x.revision;
    content = cond (secret x) [] x.content;
  }

  -- what a walk from `/rep` then meets
  unfoldable pub redacted_filed : Filed → Filed
  redacted_filed top = top
  redacted_filed (an_entry x) = an_entry (redacted_entry x)

  abbrev pub hidden : Forest Entry → Forest Entry
  hidden = map_forest redacted_entry

  unfoldable pub redacted_abstract : Abstract → Abstract
  redacted_abstract h = record { workspace = h.workspace; entries = hidden h.entries; registry = h.registry }

  -- ---- redacted twice is redacted once

  twice : (x : Entry) → redacted_entry (redacted_entry x) ≡ redacted_entry x
  unfolding redacted_entry secret
  twice x = case (secret x) (λ e. rw e) (λ e. rw e)

  pub hidden_twice : (F : Forest Entry) → hidden (hidden F) ≡ hidden F
  hidden_twice F = map_map redacted_entry redacted_entry F ∙ (λ i. map_forest (λ x. twice x i) F)

  pub redacted_twice : (h : Abstract) → redacted_abstract (redacted_abstract h) ≡ redacted_abstract h
  unfolding redacted_abstract
  redacted_twice h = λ i. record { workspace = h.workspace; entries = hidden_twice h.entries i; registry = h.registry }

  -- ---- changes of redacted entries

  -- any entry to root a forest below
  abbrev blank : Entry
  blank = new_entry Directory r []

  abbrev below_blank : Forest Entry → Place Entry
  below_blank = rooted redacted_entry blank

  -- a change k of the entries, whether they are redacted or not, where redacted it is a change f of the redacted
  alike : (k : Forest Entry → Forest Entry) (f : Place Entry → Place Entry)
      → ((F : Forest Entry) → f (below_blank F) ≡ below_blank (k F)) → (F : Forest Entry) → hidden (k (hidden F)) ≡ hidden (k F)
  alike k f law F =
      let same : below_blank (hidden F) ≡ below_blank F = rooted_of_map redacted_entry redacted_entry blank F ∙ (λ i. rooted (λ x. twice x i) blank F) in
      sym (rooted_below redacted_entry blank (k (hidden F)))
      ∙ ap (λ d. d.below) (sym (law (hidden F)) ∙ ap f same ∙ law F)
      ∙ rooted_below redacted_entry blank (k F)

  -- a new entry
  pub insert_alike : (p : Path) (n : Name) (e : Place Entry) (F : Forest Entry)
      → hidden (update_forest p (insert n e) (hidden F)) ≡ hidden (update_forest p (insert n e) F)
  insert_alike p n e = alike (update_forest p (insert n e)) (update p (put n (map_place redacted_entry e))) (rooted_put redacted_entry blank p n e)

  -- an entry taken out
  pub remove_alike : (p : Path) (n : Name) (F : Forest Entry) → hidden (update_forest p (remove n) (hidden F)) ≡ hidden (update_forest p (remove n) F)
  remove_alike p n = alike (update_forest p (remove n)) (update p (drop n)) (rooted_drop redacted_entry blank p n)

  -- an entry revised
  next_alike : (content : Text) (x : Entry) → redacted_entry (next_entry content (redacted_entry x)) ≡ redacted_entry (next_entry content x)
  unfolding redacted_entry secret next_entry
  next_alike content x = case (secret x) (λ e. rw e) (λ e. rw e)

  abbrev revised : Path → Name → Text → Forest Entry → Forest Entry
  revised p n content = update_forest p (at n (alter (next_entry content)))

  pub revise_alike : (p : Path) (n : Name) (content : Text) (F : Forest Entry) → hidden (revised p n content (hidden F)) ≡ hidden (revised p n content F)
  revise_alike p n content =
      let next : Entry → Entry = λ x. redacted_entry (next_entry content x) in
      alike (revised p n content) (update (p ▹ n) (alter next)) (rooted_alter redacted_entry blank next (next_entry content) (next_alike content) p n)

  -- ---- how redacted entries are judged

  pub kind_kept : (a : Filed) → filed_kind (redacted_filed a) ≡ filed_kind a
  unfolding filed_kind redacted_filed redacted_entry
  kind_kept top = refl
  kind_kept (an_entry x) = refl

  module _ (u : Setup) (z : BoundedRole) where
    passes_kept : (a : Filed) → filed_passes u z (redacted_filed a) ≡ filed_passes u z a
    unfolding filed_passes redacted_filed redacted_entry
    passes_kept top = refl
    passes_kept (an_entry x) = refl

    pub readable_kept : (a : Filed) → filed_readable u z (redacted_filed a) ≡ filed_readable u z a
    unfolding filed_readable redacted_filed redacted_entry
    readable_kept top = refl
    readable_kept (an_entry x) = refl

    pub writable_kept : (a : Filed) → filed_writable u z (redacted_filed a) ≡ filed_writable u z a
    unfolding filed_writable redacted_filed redacted_entry
    writable_kept top = refl
    writable_kept (an_entry x) = refl

    -- `/rep` with the entries below it, as a walk meets them
    met_redacted : (F : Forest Entry) → rooted an_entry top (hidden F) ≡ map_place redacted_filed (rooted an_entry top F)
    unfolding redacted_filed
    met_redacted F = rooted_of_map an_entry redacted_entry top F ∙ sym (rooted_map redacted_filed an_entry top F)

    -- walks lead to the redacted place
    pub walk_kept : (F : Forest Entry) (p : Path) → Agree (λ d e. d ≡ map_place redacted_filed e)
        (walk (by_dominance u z) (rooted an_entry top (hidden F)) p) (walk (by_dominance u z) (rooted an_entry top F) p)
    unfolding by_dominance
    walk_kept F p = rw (met_redacted F) (walk_map redacted_filed (by_dominance u z) (by_dominance u z) kind_kept passes_kept (rooted an_entry top F) p)

    pub parent_walk_kept : (F : Forest Entry) (p : Path) → Agree (λ d e. d ≡ map_place redacted_filed e)
        (parent_walk (by_dominance u z) (rooted an_entry top (hidden F)) p) (parent_walk (by_dominance u z) (rooted an_entry top F) p)
    unfolding by_dominance
    parent_walk_kept F p = rw (met_redacted F) (parent_walk_map redacted_filed (by_dominance u z) (by_dominance u z) kind_kept passes_kept (rooted an_entry top F) p)

    -- ---- a role that does not dominate r

    module _ (junior : dominated u z r ≡ false) where
      -- what it dominates is not of role r
      other_role : (x : Entry) → dominated u z x.role ≡ true → same_role x.role.role r.role ≡ false
      unfolding dominated
      other_role x d = case (same_role x.role.role r.role)
          (λ s. contra d (rw (same_role_is x.role.role r.role s) junior))
          (λ s. s)

      open_entry : (x : Entry) → dominated u z x.role ≡ true → redacted_entry x ≡ x
      unfolding redacted_entry secret
      open_entry x d = rw (other_role x d, and-false (not (is_directory x.kind)))

      -- so what it may read is not redacted
      pub open_filed : (a : Filed) → filed_readable u z a ≡ true → redacted_filed a ≡ a
      unfolding filed_readable redacted_filed
      open_filed top d = refl
      open_filed (an_entry x) d = ap an_entry (open_entry x d)

      -- and its copies are the same
      abbrev apart : Source Filed
      apart = record { kind = filed_kind; readable = filed_readable u z; revision = filed_revision; content = filed_content }

      pub copy_kept : (c : Caller) (parent : Node) (e : EntryPath) (d : Place Filed) → filed_readable u z d.here ≡ true
          → copy c apart parent e (map_place redacted_filed d) ≡ copy c apart parent e d
      copy_kept c = copy_map c apart apart redacted_filed readable_kept
          (λ a _. kind_kept a) (λ a i. ap filed_revision (open_filed a i)) (λ a i. ap filed_content (open_filed a i))

  -- ---- a redacted store stands for a redacted machine

  node_redacted : (x : Entry) → redacted_node r (in_store x) ≡ in_store (redacted_entry x)
  unfolding redacted_node is_secret redacted_entry secret in_store entry_node
  node_redacted x = rw (same_service x.role.role r.role)

  rep_redacted : redacted_node r rep_node ≡ rep_node
  unfolding redacted_node is_secret rep_node directory_of
  rep_redacted = rw directory_is_one

  stored_redacted : (F : Forest Entry) → map_place (redacted_node r) (stored F) ≡ stored (hidden F)
  unfolding stored
  stored_redacted F =
      rooted_map (redacted_node r) in_store rep_node F
      ∙ (λ i. rooted (λ x. node_redacted x i) (rep_redacted i) F)
      ∙ sym (rooted_of_map in_store redacted_entry rep_node F)

  pub tie_redacted : {s : Store} {h : Abstract} → Tie s h → Tie (redacted r s) (redacted_abstract h)
  unfolding redacted redacted_abstract embed in_rep
  tie_redacted {h} t =
      let entries = stored h.entries in
      record {
        same = rw (t.same, update_inside root (map_place (redacted_node r)) entries h.workspace, update_root (map_place (redacted_node r)) entries, stored_redacted h.entries);
        kept = record { top = t.kept.top; there = t.kept.there };
      }
