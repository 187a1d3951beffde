-- The parts of a store that was read, and what follows for the store where `login` or `logout` follows its steps on the header, and
-- where `cd` was decided on the tree.
use Rattle.std.specs.Prelude.{◌≡◌, true, ℕ, ◌-◌, ◌≤◌, length, take, Ok, Err, None, IsErrAnd}
use Rattle.std.specs.Prelude as code
use Rattle.std.proofs.Math.Path.{sym, ap, ap₂}
use Rattle.std.proofs.Common.{◌∙◌, length-drop, take_at, length-take-le, take_all}
use mathlib.Core.List.{List, ◌++◌}
use Rattle.std.proofs.Math.Option.{none, some}
use native.Mathlib.Omega.{arith}
use Rattle.std.proofs.Math.ListN.{drop, take-append-drop}
use Rattle.buffers.specs.Text.{Text}
use Rattle.accounts.specs.declared.Caller.{Caller}
use Rattle.accounts.specs.Dominance.{BoundedRole}
use Rattle.accounts.specs.declared.Uid.{Uid}
use Rattle.syntax.specs.Path.{Path}
use Rattle.syntax.proofs.PathLaws.{path_is_path}
use Rattle.syntax.proofs.ParentLaws.{text_of_path}
use Rattle.setup.specs.Setup.{Setup}
use Rattle.tree.specs.declared.Cause.{Cause}
use Rattle.tree.specs.Result.{Result, outcome, refused, done, ◌>>=◌, Outcome}
use Rattle.tree.specs.Forest.{Place}
use Rattle.tree.specs.Node.{Node}
use Rattle.tree.specs.Encoding.{encode_tree}
use Rattle.tree.proofs.ResultLaws.{refused_bind, done_bind}
use Rattle.tree.specs.TreeBytes.{Encodes, Whole, PathText}
use Rattle.walks.specs.declared.Spot.{Spot}
use Rattle.attributes.specs.declared.Deed.TheVariants.{Enter}
use Rattle.attributes.specs.Checks.{may_do, may_do_at}
use Rattle.attributes.specs.ChecksLaws.{enter_checked, decided_refused, decided_there}
use Rattle.tree.specs.declared.Refusal.TheVariants.{For}
use Rattle.shell.proofs.CommandBytesLaws.{passed_follows, silence_follows}
use Rattle.shell.specs.Replies.{Answer, reply, answer_of, written}
use Rattle.shell.specs.CommandBytes.{bytes_after, CarriesSilently}
use Rattle.store.specs.HeaderLayout.{header_width}
use Rattle.store.specs.State.{Registry, set_directory, Store, State, well_formed}
use Rattle.store.proofs.StateLaws.{parts, formed}
use Rattle.store.specs.StoreBytes.{store_width, header_bytes, encode, decode}
use Rattle.store.proofs.HeaderLaws.{length_header}
use Rattle.store.proofs.StoreBytesLaws.{decode_encode, encode_decode, decode_length}
use Rattle.store.proofs.DecodeLaws.{tree_read}
use Rattle.store.specs.Logins.{logged_in, logged_out}
use Rattle.header.specs.HeaderBytes.{Headed, TellsPath, HeaderFollows}
use Rattle.machine.specs.Machine.{run_login, run_logout, run_cd}
use Rattle.machine.specs.StoreMachine.{store}
use Rattle.machine.proofs.LoginLaws.{run_login_is, run_logout_is}
use Rattle.stored_header.specs.Stored.{Stored, SomeStore, bytes_with, moved_to}

-- bytes that are read as a state are that store's
pub read_stored : (b : List ℕ) (s : State) → decode b ≡ some s → Stored b s
unfolding encode
read_stored b s e =
    let i = encode_decode b s e in
    let p = parts s i.1 in
    let H = header_bytes s.setup s.store.registry in
    let T = encode_tree s.store.tree in
    let l = length_header s.setup s.store.registry p.setup p.registry in
    record {
      wide = decode_length b s e;
      header = record {
        in_range = p.setup;
        registered = p.registry;
        bytes = ap (take header_width) (sym i.0) ∙ take_at H T header_width l;
      };
      tree = tree_read b s e;
    }

-- a store's bytes are its encoding, and it is well-formed
module _ {b : List ℕ} {s : State} (h : Stored b s) where
  pub stored_bytes : b ≡ encode s
  unfolding encode
  stored_bytes = sym (take-append-drop header_width b) ∙ ap₂ ◌++◌ h.header.bytes h.tree.bytes

  pub stored_formed : well_formed s ≡ true
  stored_formed = formed s.setup h.header.in_range s.store h.header.registered h.tree.whole

-- the encoding of a well-formed state is that store's bytes
pub formed_stored : {b : List ℕ} (s : State) → well_formed s ≡ true → b ≡ encode s → Stored b s
formed_stored s w e = rw e (read_stored (encode s) s (decode_encode s w))

-- the bytes behind the header as they are lent
abbrev pub lent_tree : List ℕ → List ℕ
lent_tree b = take (length b - header_width) (drop header_width b)

pub lent_is : (b : List ℕ) → lent_tree b ≡ drop header_width b
lent_is b = take_all (length b - header_width) (drop header_width b) (omega (arith, length-drop header_width b))

pub lent_encodes : {b : List ℕ} {s : State} → Stored b s → Encodes (lent_tree b) s.store.tree
lent_encodes {b} h = rw (lent_is b) h.tree

module _ {b : List ℕ} (h : SomeStore b) where
  pub long_enough : header_width ≤ length b
  unfolding store_width
  long_enough = let w = h.1.wide in omega arith

  pub header_length : length (take header_width b) ≡ header_width
  header_length = length-take-le header_width b long_enough

  -- what is lent is a header and a tree
  pub lent_headed : Headed (take header_width b)
  lent_headed = (h.0.setup, h.0.store.registry, h.1.header)

  pub lent_whole : Whole (lent_tree b)
  lent_whole = (h.0.store.tree, lent_encodes h.1)

-- a text that reads as a path tells one
pub path_told : {t : Text} → PathText t → TellsPath t
path_told {t} h = (h.0, path_is_path t h.0 h.1, sym (text_of_path t h.0 h.1))

-- ---- what follows for the store

module _ {b : List ℕ} {s : State} (h : Stored b s) where
  -- steps on the header
  header_carries : (steps : Result Registry) (r : Answer) (H : List ℕ) → HeaderFollows s.setup steps (take header_width b) r H
      → CarriesSilently (bytes_with s.setup) (steps >>= λ z. done (record { text = none; state = record { tree = s.store.tree; registry = z } })) b r
      (H ++ drop header_width b)
  unfolding reply answer_of written bytes_after encode
  header_carries (refused k) r H f a = let g = rw refused_bind at (f a) in rw refused_bind (record {
    tells = g.tells;
    bytes = ap (λ (l : List ℕ). l ++ drop header_width b) g.bytes ∙ take-append-drop header_width b;
    text = g.text;
  })
  header_carries (done z) r H f a = let g = rw done_bind at (f a) in rw done_bind (record {
    tells = g.tells;
    bytes = ap₂ ◌++◌ g.bytes h.tree.bytes;
    text = g.text;
  })

  -- `login` and `logout`
  pub login_carries : (c : Caller) (z : BoundedRole) (password : Text) (r : Answer) (H : List ℕ)
      → HeaderFollows s.setup (logged_in s.setup s.store.registry c.account.uid z password) (take header_width b) r H
      → CarriesSilently (bytes_with s.setup) (run_login store s.setup s.store c z password) b r (H ++ drop header_width b)
  login_carries c z password r H f a =
      rw (run_login_is store s.setup s.store c z password)
      (header_carries (logged_in s.setup s.store.registry c.account.uid z password) r H f a)

  pub logout_carries : (c : Caller) (r : Answer) (H : List ℕ)
      → HeaderFollows s.setup (logged_out s.store.registry c.account.uid) (take header_width b) r H
      → CarriesSilently (bytes_with s.setup) (run_logout store s.setup s.store c) b r (H ++ drop header_width b)
  logout_carries c r H f a =
      rw (run_logout_is store s.setup s.store c)
      (header_carries (logged_out s.store.registry c.account.uid) r H f a)

-- ---- `cd`

-- what it does once it is decided
abbrev cd_goes_on : Caller → Path → Store → Place Node → Result (Outcome Store)
cd_goes_on c p s d = done (record { text = none; state = moved_to c.account.uid p s })

-- it is the decision on the tree, then that
cd_checked : (u : Setup) (s : Store) (c : Caller) (p : Path)
    → run_cd store u s c p ≡ (may_do c.account Enter s.tree p >>= cd_goes_on c p s)
unfolding run_cd
cd_checked u s c p = enter_checked c.account s.tree p (cd_goes_on c p s)

module _ {b : List ℕ} {s : State} (h : Stored b s) where
  -- the header of another working directory, before the tree
  pub directory_bytes : (uid : Uid) (p : Path) (H : List ℕ) → H ≡ header_bytes s.setup (set_directory uid p s.store.registry)
      → H ++ drop header_width b ≡ bytes_with s.setup (moved_to uid p s.store)
  unfolding encode
  directory_bytes uid p H e = ap₂ ◌++◌ e h.tree.bytes

  module _ (c : Caller) (p : Path) {r : code.Result Spot Cause} (same : outcome r ≡ may_do_at c.account Enter s.store.tree p) where
    pub cd_refused : {cause : Cause} {x : Answer} → r ≡ Err cause → IsErrAnd x (λ e. e ≡ For cause)
        → CarriesSilently (bytes_with s.setup) (run_cd store s.setup s.store c p) b x b
    cd_refused e passed =
        passed_follows b passed (cd_checked s.setup s.store c p ∙ decided_refused h.tree c.account Enter p same (cd_goes_on c p s.store) e)

    pub cd_carries : {there : Spot} → r ≡ Ok there → (b' : List ℕ) → b' ≡ bytes_with s.setup (moved_to c.account.uid p s.store)
        → CarriesSilently (bytes_with s.setup) (run_cd store s.setup s.store c p) b (Ok None) b'
    cd_carries e b' q = silence_follows b b' (cd_checked s.setup s.store c p ∙ decided_there h.tree c.account Enter p same (cd_goes_on c p s.store) e) q
