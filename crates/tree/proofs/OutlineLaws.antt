-- Outlines: filing leaves them, and what an account may do in a tree and where its rows stand goes by them alone.
--
-- In order:
--   a node's outline: outline-tag, outline-revision, outline-content, outline-kind, allows-outline;
--   the judge by modes: kind-outline, passes-outline, readable-outline;
--   a tree's outlines after a payload was altered: outlines-altered;
--   trees of the same outlines: same-walk, same_index;
--   places of the same outlines: same_size, same-kind-of, same-readable.
use Rattle.std.specs.Prelude.{◌≡◌, refl, ℕ}
use Rattle.std.proofs.Math.Path.{sym}
use Rattle.std.proofs.Common.{◌∙◌, ap}
use Rattle.buffers.specs.Text.{Text}
use Rattle.accounts.specs.declared.Right.{Right}
use Rattle.accounts.specs.declared.Right.TheVariants.{R, X}
use Rattle.accounts.specs.declared.Account.{Account}
use Rattle.syntax.specs.Path.{Path}
use Rattle.tree.specs.Result.{done}
use Rattle.tree.proofs.AgreeLaws.{done_first, done_second}
use Rattle.tree.specs.Forest.{Place, size, update, alter}
use Rattle.tree.specs.Node.{Tag, Node, allows, set_revision, set_tag, set_content}
use Rattle.tree.specs.Walk.{by_modes, walk}
use Rattle.tree.proofs.MapLaws.{walk_map}
use Rattle.tree.specs.RowPlaces.{index_of}
use Rattle.tree.proofs.AlterLaws.{map_altered, index_kept, here_kept, size_kept}
use Rattle.tree.specs.Outline.{outline, outlines}

-- ---- a node

-- another tag leaves the outline
pub outline_tag : (t : Tag) (n : Node) → outline (set_tag t n) ≡ outline n
unfolding outline set_tag
outline_tag t n = refl

-- another revision too
pub outline_revision : (v : ℕ) (n : Node) → outline (set_revision v n) ≡ outline n
unfolding outline set_revision
outline_revision v n = refl

-- and other content
pub outline_content : (c : Text) (n : Node) → outline (set_content c n) ≡ outline n
unfolding outline set_content
outline_content c n = refl

-- the outline is of the node's kind
pub outline_kind : (n : Node) → (outline n).kind ≡ n.kind
unfolding outline
outline_kind n = refl

-- the access test comes to the same
pub allows_outline : (a : Account) (r : Right) (n : Node) → allows a r (outline n) ≡ allows a r n
unfolding allows outline
allows_outline a r n = refl

-- ---- the judge

module _ (a : Account) (n : Node) where
  -- an outline is judged as the node: its kind
  pub kind_outline : (by_modes a).kind (outline n) ≡ (by_modes a).kind n
  unfolding by_modes
  kind_outline = outline_kind n

  -- whether it may be passed
  pub passes_outline : (by_modes a).passes (outline n) ≡ (by_modes a).passes n
  unfolding by_modes
  passes_outline = allows_outline a X n

  -- and read
  pub readable_outline : (by_modes a).readable (outline n) ≡ (by_modes a).readable n
  unfolding by_modes
  readable_outline = rw (allows_outline a R n, allows_outline a X n, outline_kind n)

-- ---- trees

-- an alteration that leaves each outline leaves those of the tree
pub outlines_altered : (g : Node → Node) → ((x : Node) → outline (g x) ≡ outline x) → (p : Path) (t : Place Node) → outlines (update p (alter g) t) ≡ outlines t
unfolding outlines
outlines_altered g e p t = map_altered outline g e p t

module _ (t u : Place Node) (s : outlines t ≡ outlines u) where
  -- a walk leads to places of the same outlines
  pub same_walk : (a : Account) (p : Path) {d : Place Node} → walk (by_modes a) t p ≡ done d → (e : Place Node) × (walk (by_modes a) u p ≡ done e) × (outlines e ≡ outlines d)
  unfolding outlines
  same_walk a p led =
      let j = by_modes a in
      let w = done_second (walk_map outline j j (kind_outline a) (passes_outline a) t p) led in
      let v = done_first (walk_map outline j j (kind_outline a) (passes_outline a) u p) (ap (λ (x : Place Node). walk j x p) (sym s) ∙ w.1) in
      (v.0, v.1, sym v.2 ∙ w.2)

  -- rows stand alike
  pub same_index : (q : Path) → index_of t q ≡ index_of u q
  unfolding outlines
  same_index q = index_kept outline t u s q

module _ (d e : Place Node) (s : outlines d ≡ outlines e) where
  -- as many nodes are below
  pub same_size : size d.below ≡ size e.below
  unfolding outlines
  same_size = size_kept outline d e s

  -- the outline above is one
  same_outline : outline d.here ≡ outline e.here
  unfolding outlines
  same_outline = here_kept outline d e s

  -- so the kind
  pub same_kind_of : d.here.kind ≡ e.here.kind
  same_kind_of = sym (outline_kind d.here) ∙ ap (λ (n : Node). n.kind) same_outline ∙ outline_kind e.here

  -- and whether it may be read
  pub same_readable : (a : Account) → (by_modes a).readable d.here ≡ (by_modes a).readable e.here
  same_readable a = sym (readable_outline a d.here) ∙ ap (by_modes a).readable same_outline ∙ readable_outline a e.here
