-- The copy of a well-formed place is a well-formed place.
use Rattle.std.specs.Prelude.{◌≡◌, refl, Bool, false, ◌||◌, not, ◌+◌, ◌≤◌}
use Rattle.std.proofs.Common.{sym, ◌∙◌, ap, arith}
use Rattle.std.proofs.Math.Bool.{true}
use Rattle.buffers.specs.Cases.{case}
use Rattle.buffers.specs.Text.{Text, precedes}
use Rattle.accounts.specs.declared.Caller.{Caller}
use Rattle.accounts.specs.declared.Account.{Account}
use Rattle.accounts.specs.Caller.{is_caller}
use Rattle.syntax.specs.Number.{set_gid, is_mode}
use Rattle.syntax.specs.Path.{Name, Path, ◌▹◌, EntryPath, parent, depth, in_rep, entry_location, is_path, is_entry_path, below_rep}
use Rattle.syntax.proofs.PathLaws.{path_more}
use Rattle.tree.specs.declared.Kind.{Kind}
use Rattle.tree.specs.declared.Kind.TheVariants.{File, Directory}
use Rattle.tree.specs.Forest.{Forest, nil, node, Place, is_empty, height, map_forest, map_place}
use Rattle.tree.proofs.ForestLaws.{empty_is_nil, height_node}
use Rattle.tree.proofs.MapLaws.{map_nil, map_node, map_here, map_below}
use Rattle.tree.specs.Node.{is_directory, Tag, Node, set_tag, new_node}
use Rattle.tree.specs.Walk.{by_modes}
use Rattle.tree.specs.WellFormed.{is_node, leads, is_forest, is_place}
use Rattle.tree.proofs.JudgeLaws.{kind_by_modes}
use Rattle.tree.proofs.NodeLaws.{node_ranges, node_of_tag, node_of_any_content, kind_of_set_tag, kind_of_set_content, new_node_fits}
use Rattle.tree.proofs.WellFormedLaws.{place_parts, place_of_parts, forest_parts, forest_of_parts, leads_node, leads_before}
use Rattle.copying.specs.Copying.{Source, nodes_by, copy_mode, copy_node, copied, copy_children, copy}

-- a copy's mode is one, and without set-gid
pub copy_mode_fits : (k : Kind) → (is_mode (copy_mode k) ≡ true) × (set_gid (copy_mode k) ≡ false)
unfolding copy_mode is_mode set_gid
copy_mode_fits File = (refl, refl)
copy_mode_fits Directory = (refl, refl)

-- where there is no set-gid it is on directories only
pub without_gid : (b g : Bool) → g ≡ false → (b || not g) ≡ true
without_gid true g h = refl
without_gid false g h = ap not h

module _ (c : Caller) (o : is_caller c ≡ true) where
  copy_kind : (parent : Node) (k : Kind) (content : Text) (tag : Tag) → (copy_node c parent k content tag).kind ≡ k
  unfolding copy_node new_node
  copy_kind parent k content tag = kind_of_set_content content (set_tag tag (new_node c parent k (copy_mode k))) ∙ kind_of_set_tag tag (new_node c parent k (copy_mode k))

  -- a copy of a node in range, in a directory in range
  copy_fits : (parent x : Node) (e : EntryPath) → is_node parent ≡ true → is_node x ≡ true → is_entry_path e ≡ true
      → is_node (copy_node c parent x.kind x.content (record { path = e; revision = x.revision })) ≡ true
  unfolding copy_node new_node
  copy_fits parent x e h i k =
      let r = node_ranges x i in
      let m = copy_mode_fits x.kind in
      let tag : Tag = record { path = e; revision = x.revision } in
      let fresh = new_node c parent x.kind (copy_mode x.kind) in
      let fits = new_node_fits c parent x.kind (copy_mode x.kind) o h m.0 (without_gid (is_directory x.kind) (set_gid (copy_mode x.kind)) m.1) in
      node_of_any_content x.content (set_tag tag fresh) (node_of_tag tag fresh fits k r.revision) (λ d. r.bare (rw (kind_of_set_tag tag fresh) at d)) r.content

  module _ (a : Account) where
    copied_fits : (parent : Node) (e : EntryPath) (x : Node) → is_node parent ≡ true → is_node x ≡ true → is_entry_path e ≡ true
        → is_node (copied c (nodes_by (by_modes a)) parent e x) ≡ true
    unfolding copied
    copied_fits parent e x h i k = rw (kind_by_modes a x) (copy_fits parent x e h i k)

    copied_kind : (parent : Node) (e : EntryPath) (x : Node) → (copied c (nodes_by (by_modes a)) parent e x).kind ≡ x.kind
    unfolding copied
    copied_kind parent e x = copy_kind parent ((by_modes a).kind x) x.content (record { path = e; revision = x.revision }) ∙ kind_by_modes a x

    no_copies : (parent : Node) (folder : Path) (F : Forest Node) → is_empty F ≡ true → is_empty (copy_children c (nodes_by (by_modes a)) parent folder F) ≡ true
    unfolding copy_children
    no_copies parent folder F h = let q = empty_is_nil F h in rw q (rw q at h)

    copies_lead : (m : Name) (parent : Node) (folder : Path) (F : Forest Node) → is_forest F ≡ true → leads m F ≡ true
        → leads m (copy_children c (nodes_by (by_modes a)) parent folder F) ≡ true
    unfolding copy_children
    copies_lead m parent folder nil h b = b
    copies_lead m parent folder (node n x cs rest) h b =
        let before : precedes m n ≡ true = rw (leads_node m n x cs rest) at b in
        let v = forest_parts n (record { here = x; below = cs }) rest h in
        case ((by_modes a).readable x)
        (λ t. rw t (rw leads_node before))
        (λ t. rw t (copies_lead m parent folder rest v.others (leads_before m n rest before v.leading)))

    -- a copied place, if the copies below are well-formed
    copied_place : (parent : Node) (e : EntryPath) (d : Place Node) → is_node parent ≡ true → is_entry_path e ≡ true → is_place d ≡ true
        → is_forest (copy c (nodes_by (by_modes a)) parent e d).below ≡ true → is_place (copy c (nodes_by (by_modes a)) parent e d) ≡ true
    unfolding copy
    copied_place parent e d h k w f =
        let v = place_parts d w in
        place_of_parts (copy c (nodes_by (by_modes a)) parent e d) (record {
          own = copied_fits parent e d.here h v.own k;
          childless = λ b. no_copies (copied c (nodes_by (by_modes a)) parent e d.here) (below_rep e) d.below (v.childless (ap is_directory (sym (copied_kind parent e d.here)) ∙ b));
          forest = f;
        })

    copies_fit : (parent : Node) (folder : Path) (F : Forest Node) → is_node parent ≡ true → is_path (in_rep folder) ≡ true
        → depth (in_rep folder) + height F ≤ 6 → is_forest F ≡ true → is_forest (copy_children c (nodes_by (by_modes a)) parent folder F) ≡ true
    unfolding copy_children copy in_rep depth below_rep is_entry_path entry_location
    copies_fit parent folder nil h k l f = f
    copies_fit parent folder (node n x cs rest) h k l f =
        let e : EntryPath = record { folder = folder; name = n } in
        let d : Place Node = record { here = x; below = cs } in
        let v = forest_parts n d rest f in
        let w = place_parts d v.first in
        let b = height_node n x cs rest in
        let i = path_more (in_rep folder) n k v.name (omega arith) in
        let y = copied c (nodes_by (by_modes a)) parent e x in
        let others = copies_fit parent folder rest h k (omega arith) v.others in
        case ((by_modes a).readable x)
        (λ t. rw t (forest_of_parts n (copy c (nodes_by (by_modes a)) parent e d) (copy_children c (nodes_by (by_modes a)) parent folder rest) (record {
          name = v.name;
          first = copied_place parent e d h i v.first (copies_fit y (folder ▹ n) cs (copied_fits parent e x h w.own i) i (omega arith) w.forest);
          leading = copies_lead n parent folder rest v.others v.leading;
          others = others;
        })))
        (λ t. rw t others)

    -- the copy of a well-formed place that lies at an entry path is well-formed
    pub copy_is_place : (parent : Node) (e : EntryPath) (d : Place Node) → is_node parent ≡ true → is_entry_path e ≡ true → is_place d ≡ true
        → depth (entry_location e) + height d.below ≤ 6 → is_place (copy c (nodes_by (by_modes a)) parent e d) ≡ true
    unfolding copy below_rep is_entry_path entry_location in_rep
    copy_is_place parent e d h k w l =
        let v = place_parts d w in
        copied_place parent e d h k w
        (copies_fit (copied c (nodes_by (by_modes a)) parent e d.here) (below_rep e) d.below (copied_fits parent e d.here h v.own k) k l v.forest)

-- ---- copies of payloads that are told alike

-- the same are readable, and what is readable is copied alike
module _ {A B : Type 0} (c : Caller) (s : Source A) (t : Source B) (f : B → A) (reads : (b : B) → s.readable (f b) ≡ t.readable b)
    (kinds : (b : B) → t.readable b ≡ true → s.kind (f b) ≡ t.kind b) (revisions : (b : B) → t.readable b ≡ true → s.revision (f b) ≡ t.revision b)
    (contents : (b : B) → t.readable b ≡ true → s.content (f b) ≡ t.content b) where
  copied_map : (parent : Node) (e : EntryPath) (b : B) → t.readable b ≡ true → copied c s parent e (f b) ≡ copied c t parent e b
  unfolding copied
  copied_map parent e b r = rw (kinds b r, contents b r, revisions b r)

  children_map : (parent : Node) (folder : Path) (F : Forest B) → copy_children c s parent folder (map_forest f F) ≡ copy_children c t parent folder F
  unfolding copy_children
  children_map parent folder nil = rw (map_nil f)
  children_map parent folder (node n b cs rest) =
      let e : EntryPath = record { folder = folder; name = n } in
      let others = children_map parent folder rest in
      rw (map_node f n b cs rest, reads b) (case (t.readable b)
      (λ r. rw (r, copied_map parent e b r, children_map (copied c t parent e b) (folder ▹ n) cs, others))
      (λ r. rw (r, others)))

  -- the copies of a readable place whose payloads are mapped are those of the place
  pub copy_map : (parent : Node) (e : EntryPath) (d : Place B) → t.readable d.here ≡ true → copy c s parent e (map_place f d) ≡ copy c t parent e d
  unfolding copy
  copy_map parent e d r = rw (map_here f d, map_below f d) (rw (copied_map parent e d.here r) (rw (children_map _ (below_rep e) d.below)))
