-- The ranges of a node's values one by one, and that a node stays in range where one attribute is set to a value in range.
use Rattle.std.specs.Prelude.{◌≡◌, [], ◌∷◌, true, false, ◌&&◌, ◌||◌, not, ℕ, leb, ltb, length}
use Rattle.std.proofs.Math.Path.{refl}
use Rattle.std.proofs.Math.Option.{Option, none, some}
use Rattle.std.proofs.Common.{arith, ne_eqb}
use Rattle.buffers.specs.Cases.{case, and_both, contra}
use Rattle.buffers.specs.Text.{Text, every}
use Rattle.accounts.specs.declared.Uid.{Uid}
use Rattle.accounts.specs.declared.Gid.{Gid}
use Rattle.accounts.specs.declared.Caller.{Caller}
use Rattle.accounts.specs.Caller.{is_caller}
use Rattle.syntax.specs.Number.{set_gid, is_mode}
use Rattle.syntax.specs.Path.{is_entry_path}
use Rattle.syntax.specs.Field.{is_content}
use Rattle.syntax.proofs.FormLaws.{no_answer, answered, both}
use Rattle.tree.specs.declared.Kind.{Kind}
use Rattle.tree.specs.declared.Kind.TheVariants.{File, Directory}
use denote.Enum.Bare.{sameb}
use Rattle.tree.specs.contracts.Kind.{the_type}
use Rattle.tree.specs.Node.{is_directory, same_kind, Tag, Node, new_group, new_node, set_owner, set_group, set_mode, set_revision, set_tag, set_content}
use Rattle.tree.specs.WellFormed.{last_revision, is_tag, fits_kind, is_node}

-- the derived `==` of kinds compares them
pub kinds_compared : (i j : Kind) → sameb the_type i j ≡ same_kind i j
unfolding same_kind
kinds_compared File File = refl
kinds_compared File Directory = refl
kinds_compared Directory File = refl
kinds_compared Directory Directory = refl

-- the last revision's number
pub last_revision_is : last_revision ≡ 9999
unfolding last_revision
last_revision_is = refl

-- the entry path and the revision of a tag
abbrev pub TagRange : Tag → Type 0
TagRange t = (is_entry_path t.path ≡ true) × (leb t.revision last_revision ≡ true)

-- the ranges of a node's values: set-gid on directories only, and no content in them
pub record Ranges (n : Node) : Type 0 where
  pub owner : ltb n.owner.0 24 ≡ true
  pub group : ltb n.group.0 25 ≡ true
  pub mode : is_mode n.mode ≡ true
  pub gid : (is_directory n.kind || not (set_gid n.mode)) ≡ true
  pub revision : leb n.revision last_revision ≡ true
  pub tag : (t : Tag) → n.tag ≡ some t → TagRange t
  pub content : is_content n.content ≡ true
  pub bare : is_directory n.kind ≡ true → n.content ≡ []

tag_range : (o : Option Tag) → is_tag o ≡ true → (t : Tag) → o ≡ some t → TagRange t
unfolding is_tag
tag_range none h t e = no_answer e
tag_range (some s) h t e = rw (answered e) (and_both (is_entry_path s.path) (leb s.revision last_revision) h)

tag_of_range : (o : Option Tag) → ((t : Tag) → o ≡ some t → TagRange t) → is_tag o ≡ true
unfolding is_tag
tag_of_range none h = refl
tag_of_range (some t) h = let r = h t refl in both r.0 r.1

fits_gid : (k : Kind) (m : ℕ) (c : Text) → fits_kind k m c ≡ true → (is_directory k || not (set_gid m)) ≡ true
unfolding fits_kind is_directory
fits_gid File m c h = h
fits_gid Directory m c h = refl

fits_bare : (k : Kind) (m : ℕ) (c : Text) → fits_kind k m c ≡ true → is_directory k ≡ true → c ≡ []
unfolding fits_kind is_directory
fits_bare File m c h d = contra d refl
fits_bare Directory m [] h d = refl
fits_bare Directory m (b ∷ c) h d = contra h (ne_eqb (length (b ∷ c)) 0 (λ e. omega arith))

kind_fits : (k : Kind) (m : ℕ) (c : Text) → (is_directory k || not (set_gid m)) ≡ true → (is_directory k ≡ true → c ≡ []) → fits_kind k m c ≡ true
unfolding fits_kind is_directory
kind_fits File m c g b = g
kind_fits Directory m c g b = rw (b refl)

-- a node in range has its values in range
pub node_ranges : (n : Node) → is_node n ≡ true → Ranges n
unfolding is_node
node_ranges n h =
    let accounts = ltb n.owner.0 24 && ltb n.group.0 25 in
    let numbers = is_mode n.mode && leb n.revision last_revision in
    let k = fits_kind n.kind n.mode n.content in
    let i = and_both (accounts && numbers) (is_tag n.tag && (is_content n.content && k)) h in
    let a = and_both accounts numbers i.0 in
    let b = and_both (ltb n.owner.0 24) (ltb n.group.0 25) a.0 in
    let c = and_both (is_mode n.mode) (leb n.revision last_revision) a.1 in
    let d = and_both (is_tag n.tag) (is_content n.content && k) i.1 in
    let e = and_both (is_content n.content) k d.1 in
    record {
      owner = b.0;
      group = b.1;
      mode = c.0;
      gid = fits_gid n.kind n.mode n.content e.1;
      revision = c.1;
      tag = tag_range n.tag d.0;
      content = e.0;
      bare = fits_bare n.kind n.mode n.content e.1;
    }

-- and with its values in range a node is in range
pub node_of_ranges : (n : Node) → Ranges n → is_node n ≡ true
unfolding is_node
node_of_ranges n r = rw (
  r.owner,
  r.group,
  r.mode,
  r.revision,
  tag_of_range n.tag r.tag,
  r.content,
  kind_fits n.kind n.mode n.content r.gid r.bare,
)

-- a node without tag and content is in range with its other values
pub plain_node : (kind : Kind) (owner : Uid) (group : Gid) (mode : ℕ) → ltb owner.0 24 ≡ true → ltb group.0 25 ≡ true → is_mode mode ≡ true
    → (is_directory kind || not (set_gid mode)) ≡ true
    → is_node (record { kind = kind; owner = owner; group = group; mode = mode; revision = 0; tag = none; content = [] }) ≡ true
unfolding last_revision
plain_node kind owner group mode a b c d =
    node_of_ranges (record { kind = kind; owner = owner; group = group; mode = mode; revision = 0; tag = none; content = [] })
    (record { owner = a; group = b; mode = c; gid = d; revision = refl; tag = λ t e. no_answer e; content = unfold is_content every in refl; bare = λ _. refl })

-- ---- a node in range with one attribute set to a value in range is in range

-- the owner
pub node_of_owner : (u : Uid) (n : Node) → is_node n ≡ true → ltb u.0 24 ≡ true → is_node (set_owner u n) ≡ true
unfolding set_owner
node_of_owner u n h a =
    let r = node_ranges n h in
    node_of_ranges (set_owner u n)
    (record { owner = a; group = r.group; mode = r.mode; gid = r.gid; revision = r.revision; tag = r.tag; content = r.content; bare = r.bare })

-- the group
pub node_of_group : (g : Gid) (n : Node) → is_node n ≡ true → ltb g.0 25 ≡ true → is_node (set_group g n) ≡ true
unfolding set_group
node_of_group g n h a =
    let r = node_ranges n h in
    node_of_ranges (set_group g n)
    (record { owner = r.owner; group = a; mode = r.mode; gid = r.gid; revision = r.revision; tag = r.tag; content = r.content; bare = r.bare })

-- the mode, set-gid only on a directory
pub node_of_mode : (m : ℕ) (n : Node) → is_node n ≡ true → is_mode m ≡ true → (is_directory n.kind || not (set_gid m)) ≡ true
    → is_node (set_mode m n) ≡ true
unfolding set_mode
node_of_mode m n h a b =
    let r = node_ranges n h in
    node_of_ranges (set_mode m n)
    (record { owner = r.owner; group = r.group; mode = a; gid = b; revision = r.revision; tag = r.tag; content = r.content; bare = r.bare })

-- the revision
pub node_of_revision : (v : ℕ) (n : Node) → is_node n ≡ true → leb v last_revision ≡ true → is_node (set_revision v n) ≡ true
unfolding set_revision
node_of_revision v n h a =
    let r = node_ranges n h in
    node_of_ranges (set_revision v n)
    (record { owner = r.owner; group = r.group; mode = r.mode; gid = r.gid; revision = a; tag = r.tag; content = r.content; bare = r.bare })

-- the tag
pub node_of_tag : (t : Tag) (n : Node) → is_node n ≡ true → is_entry_path t.path ≡ true → leb t.revision last_revision ≡ true
    → is_node (set_tag t n) ≡ true
unfolding set_tag
node_of_tag t n h a b =
    let r = node_ranges n h in
    node_of_ranges (set_tag t n)
    (record { owner = r.owner; group = r.group; mode = r.mode; gid = r.gid; revision = r.revision; tag = λ s e. rw (answered e) (a, b); content = r.content; bare = r.bare })

-- the content, none in a directory
pub node_of_any_content : (c : Text) (n : Node) → is_node n ≡ true → (is_directory n.kind ≡ true → c ≡ []) → is_content c ≡ true
    → is_node (set_content c n) ≡ true
unfolding set_content
node_of_any_content c n h b a =
    let r = node_ranges n h in
    node_of_ranges (set_content c n)
    (record { owner = r.owner; group = r.group; mode = r.mode; gid = r.gid; revision = r.revision; tag = r.tag; content = a; bare = b })

-- so the content of a file
pub node_of_content : (c : Text) (n : Node) → is_node n ≡ true → is_directory n.kind ≡ false → is_content c ≡ true
    → is_node (set_content c n) ≡ true
node_of_content c n h f a = node_of_any_content c n h (λ d. contra d f) a

-- ---- no attribute set changes the kind

-- the owner
pub kind_of_set_owner : (u : Uid) (n : Node) → (set_owner u n).kind ≡ n.kind
unfolding set_owner
kind_of_set_owner u n = refl

-- the group
pub kind_of_set_group : (g : Gid) (n : Node) → (set_group g n).kind ≡ n.kind
unfolding set_group
kind_of_set_group g n = refl

-- the mode
pub kind_of_set_mode : (m : ℕ) (n : Node) → (set_mode m n).kind ≡ n.kind
unfolding set_mode
kind_of_set_mode m n = refl

-- the revision
pub kind_of_set_revision : (v : ℕ) (n : Node) → (set_revision v n).kind ≡ n.kind
unfolding set_revision
kind_of_set_revision v n = refl

-- the tag
pub kind_of_set_tag : (t : Tag) (n : Node) → (set_tag t n).kind ≡ n.kind
unfolding set_tag
kind_of_set_tag t n = refl

-- the content
pub kind_of_set_content : (c : Text) (n : Node) → (set_content c n).kind ≡ n.kind
unfolding set_content
kind_of_set_content c n = refl

-- the group of a new node
pub new_node_group : (c : Caller) (parent : Node) (kind : Kind) (mode : ℕ) → (new_node c parent kind mode).group ≡ new_group c parent
unfolding new_node
new_node_group c parent kind mode = refl

-- its group is the parent's with set-gid there, else the caller's primary one
pub group_given : (c : Caller) (parent : Node) → set_gid parent.mode ≡ true → new_group c parent ≡ parent.group
unfolding new_group
group_given c parent h = rw h

pub group_primary : (c : Caller) (parent : Node) → set_gid parent.mode ≡ false → new_group c parent ≡ c.primary
unfolding new_group
group_primary c parent h = rw h

-- what a caller makes
pub new_node_is : (c : Caller) (parent : Node) (kind : Kind) (mode : ℕ) →
    new_node c parent kind mode ≡ record { kind = kind; owner = c.account.uid; group = new_group c parent; mode = mode; revision = 0; tag = none; content = [] }
unfolding new_node
new_node_is c parent kind mode = refl

-- is in range if the caller is
pub new_node_fits : (c : Caller) (parent : Node) (kind : Kind) (mode : ℕ) → is_caller c ≡ true → is_node parent ≡ true → is_mode mode ≡ true
    → (is_directory kind || not (set_gid mode)) ≡ true → is_node (new_node c parent kind mode) ≡ true
unfolding new_node new_group is_caller
new_node_fits c parent kind mode o h a b =
    let i = and_both (ltb c.account.uid.0 24) (ltb c.primary.0 25) o in
    case (set_gid parent.mode)
    (λ t. rw t (plain_node kind c.account.uid parent.group mode i.0 (node_ranges parent h).group a b))
    (λ t. rw t (plain_node kind c.account.uid c.primary mode i.0 i.1 a b))
