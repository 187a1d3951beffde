-- A node of the file tree: kind, owner, group, mode, revision, tag, content.
use Rattle.std.specs.Prelude.{[], Bool, true, false, ◌||◌, cond, ℕ}
use Rattle.std.proofs.Math.Option.{Option, none, some}
use Rattle.buffers.specs.Text.{Text}
use Rattle.accounts.specs.declared.Uid.{Uid}
use Rattle.accounts.specs.declared.Gid.{Gid}
use Rattle.accounts.specs.declared.Right.{Right}
use Rattle.accounts.specs.declared.Account.{Account}
use Rattle.accounts.specs.declared.Caller.{Caller}
use Rattle.accounts.specs.Access.{is_root, same_uid, may}
use Rattle.syntax.specs.Number.{set_gid}
use Rattle.syntax.specs.Path.{EntryPath}
use Rattle.tree.specs.declared.Kind.{Kind}
use Rattle.tree.specs.declared.Kind.TheVariants.{File, Directory}

unfoldable pub is_directory : Kind → Bool
is_directory File = false
is_directory Directory = true

unfoldable pub same_kind : Kind → Kind → Bool
same_kind File File = true
same_kind File Directory = false
same_kind Directory File = false
same_kind Directory Directory = true

-- the entry and revision that a working file was filed or copied as
pub record Tag : Type 0 where
  pub path : EntryPath
  pub revision : ℕ

pub record Node : Type 0 where
  pub kind : Kind
  pub owner : Uid
  pub group : Gid
  pub mode : ℕ
  pub revision : ℕ
  pub tag : Option Tag
  pub content : Text

-- the access test at a node
unfoldable pub allows : Account → Right → Node → Bool
allows a t n = may a t n.owner n.group n.mode

-- the owner or root
unfoldable pub owns : Account → Node → Bool
owns a n = is_root a.uid || same_uid a.uid n.owner

-- A new node's group is its parent's if the parent has set-gid, else the person's primary group.
unfoldable pub new_group : Caller → Node → Gid
new_group c parent = cond (set_gid parent.mode) parent.group c.primary

-- A new node is the caller's.
unfoldable pub new_node : Caller → Node → Kind → ℕ → Node
new_node c parent kind mode = record {
  kind = kind;
  owner = c.account.uid;
  group = new_group c parent;
  mode = mode;
  revision = 0;
  tag = none;
  content = [];
}

-- a node with one attribute changed
unfoldable pub set_owner : Uid → Node → Node
set_owner u n = record { kind = n.kind; owner = u; group = n.group; mode = n.mode; revision = n.revision; tag = n.tag; content = n.content }

unfoldable pub set_group : Gid → Node → Node
set_group g n = record { kind = n.kind; owner = n.owner; group = g; mode = n.mode; revision = n.revision; tag = n.tag; content = n.content }

unfoldable pub set_mode : ℕ → Node → Node
set_mode m n = record { kind = n.kind; owner = n.owner; group = n.group; mode = m; revision = n.revision; tag = n.tag; content = n.content }

unfoldable pub set_revision : ℕ → Node → Node
set_revision v n = record { kind = n.kind; owner = n.owner; group = n.group; mode = n.mode; revision = v; tag = n.tag; content = n.content }

unfoldable pub set_tag : Tag → Node → Node
set_tag t n = record { kind = n.kind; owner = n.owner; group = n.group; mode = n.mode; revision = n.revision; tag = some t; content = n.content }

unfoldable pub set_content : Text → Node → Node
set_content c n = record { kind = n.kind; owner = n.owner; group = n.group; mode = n.mode; revision = n.revision; tag = n.tag; content = c }
