-- The header of the store: it always takes as many bytes, setup and registry are read back from it, and an account's session or
-- working directory written in its place makes the header of the registry with it.
use Rattle.std.specs.Prelude.{◌≡◌, refl, true, ℕ, ◌+◌, ◌*◌, ◌<◌, length, get_or, take, replicate}
use Rattle.std.proofs.Math.Path.{sym, ap}
use Rattle.std.proofs.Common.{◌∙◌, length-append, drop-drop}
use mathlib.Core.List.{List, [], ◌++◌, append_assoc, append-nil}
use Rattle.std.proofs.Math.Option.{Option, none}
use native.Mathlib.Omega.{arith}
use Rattle.std.proofs.Math.ListN.{set, drop}
use Rattle.std.proofs.lemmas.List.{length-replicate}
use Rattle.std.proofs.Math.Seq.{paste}
use Rattle.buffers.specs.Text.{every}
use Rattle.buffers.specs.Fields.{padded, text_at, all_bytes, all_from}
use Rattle.buffers.specs.FieldsLaws.{length_padded, text_at_padded, text_there}
use Rattle.buffers.specs.TableLaws.{length_all_bytes, all_bytes_at, all_from_bytes}
use Rattle.accounts.specs.declared.Uid.{Uid}
use Rattle.accounts.specs.Dominance.{BoundedRole}
use Rattle.syntax.specs.Path.{Path, root, is_path, path_text}
use Rattle.syntax.proofs.PathLaws.{path_of_text, path_text_fits}
use Rattle.setup.specs.Setup.{Setup, accounts, is_setup}
use Rattle.store.specs.HeaderLayout.{sessions_offset, directories_offset, directory_width, directories_width, directory_start, spare_width, header_width}
use Rattle.store.specs.State.{Registry, set_session, working_directory, set_directory, is_registry}
use Rattle.store.proofs.RegistryLaws.{registry_parts, working_directory_is_path}
use Rattle.store.specs.StoreBytes.{session_byte, directory_bytes, path_or_root, directory_from, front_bytes, header_bytes, setup_of, sessions_of, directories_of, registry_of}
use Rattle.store.proofs.ValuesLaws.{value_replaced}
use Rattle.store.proofs.FrontLaws.{front_before, length_front, behind_front, paste_behind_front, setup_of_front, sessions_of_front, session_in_front, front_with_session}

-- ---- one working directory

-- a path's text filled up with zeros
pub directory_bytes_are : (p : Path) → directory_bytes p ≡ padded directory_width (path_text p)
unfolding directory_bytes
directory_bytes_are p = refl

-- takes its width
pub length_directory : (p : Path) → is_path p ≡ true → length (directory_bytes p) ≡ directory_width
unfolding directory_bytes
length_directory p h = length_padded directory_width (path_text p) (path_text_fits p h).0

-- its text stands in its bytes, before whatever follows
directory_text : (p : Path) → is_path p ≡ true → text_at 0 directory_width (directory_bytes p) ≡ path_text p
unfolding directory_bytes
directory_text p h =
    let f = path_text_fits p h in
    rw append-nil at (text_at_padded [] [] 0 directory_width (path_text p) refl f.0 f.1)

directory_back : (p : Path) → is_path p ≡ true → directory_from (directory_bytes p) ≡ p
unfolding directory_from path_or_root
directory_back p h = rw (directory_text p h, path_of_text p h)

-- ---- what stands behind setup and sessions

-- the bytes that are zero, not computed
unused : List ℕ
unused = replicate spare_width 0

length_unused : length unused ≡ spare_width
unfolding unused
length_unused = length-replicate {A = ℕ} spare_width 0

directories_part : List Path → List ℕ
directories_part l = all_bytes directory_bytes l

header_parts : (u : Setup) (r : Registry) → header_bytes u r ≡ front_bytes u r.sessions (directories_part r.directories ++ unused)
unfolding header_bytes directories_part unused
header_parts u r = refl

-- a header before other bytes
before : (u : Setup) (r : Registry) (B : List ℕ) → header_bytes u r ++ B ≡ front_bytes u r.sessions (directories_part r.directories ++ (unused ++ B))
before u r B =
    let D = directories_part r.directories in
    ap (λ (l : List ℕ). l ++ B) (header_parts u r)
    ∙ front_before u r.sessions (D ++ unused) B
    ∙ ap (front_bytes u r.sessions) (append_assoc D unused B)

module _ (l : List Path) (n : length l ≡ 16) (h : every is_path l ≡ true) where
  length_directories : length (directories_part l) ≡ directories_width
  unfolding directories_part
  length_directories = length_all_bytes directory_width is_path directory_bytes length_directory l h ∙ omega arith

  directories_back : (Q : List ℕ) → all_from directory_width directory_from accounts (directories_part l ++ Q) ≡ l
  unfolding directories_part accounts
  directories_back Q =
      ap (λ k. all_from directory_width directory_from k (directories_part l ++ Q)) (sym n)
      ∙ all_from_bytes directory_width is_path directory_bytes length_directory directory_from directory_back l Q h

  module _ (i : ℕ) (k : i < 16) (Q : List ℕ) where
    directory_in_part : take directory_width (drop (directory_width * i) (directories_part l ++ Q)) ≡ directory_bytes (get_or l i root)
    unfolding directories_part
    directory_in_part = all_bytes_at directory_width is_path directory_bytes length_directory l i Q root h (omega arith)

    directory_replaced : (p : Path) → length (directory_bytes p) ≡ directory_width → paste (directories_part l ++ Q) (directory_width * i) (directory_bytes p) directory_width ≡ directories_part (set l i p) ++ Q
    unfolding directories_part
    directory_replaced p e = value_replaced directory_width is_path directory_bytes length_directory l i p root Q h e (omega arith)

module _ (u : Setup) (r : Registry) (h : is_setup u ≡ true) (k : is_registry r ≡ true) where
  -- the header takes its width
  pub length_header : length (header_bytes u r) ≡ header_width
  length_header =
      let p = registry_parts r k in
      let D = directories_part r.directories in
      ap length (header_parts u r)
      ∙ length_front u r.sessions h p.sessions (D ++ unused)
      ∙ omega (arith, length-append D unused, length_directories r.directories p.directories p.kept_paths, length_unused)

  -- the setup is read back from the header
  pub setup_of_header : (B : List ℕ) → setup_of (header_bytes u r ++ B) ≡ u
  setup_of_header B = ap setup_of (before u r B) ∙ setup_of_front u r.sessions h (registry_parts r k).sessions _

  -- so are the sessions
  pub sessions_of_header : (B : List ℕ) → sessions_of (header_bytes u r ++ B) ≡ r.sessions
  sessions_of_header B = ap sessions_of (before u r B) ∙ sessions_of_front u r.sessions h (registry_parts r k).sessions _

  -- and the working directories
  pub directories_of_header : (B : List ℕ) → directories_of (header_bytes u r ++ B) ≡ r.directories
  unfolding directories_of
  directories_of_header B =
      let p = registry_parts r k in
      rw (before u r B, behind_front u r.sessions h p.sessions (directories_part r.directories ++ (unused ++ B)))
      (directories_back r.directories p.directories p.kept_paths (unused ++ B))

  pub registry_of_header : (B : List ℕ) → registry_of (header_bytes u r ++ B) ≡ r
  unfolding registry_of
  registry_of_header B = λ i. record { sessions = sessions_of_header B i; directories = directories_of_header B i }

-- ---- what is kept for one account

module _ (u : Setup) (r : Registry) (h : is_setup u ≡ true) (k : is_registry r ≡ true) (uid : Uid) (l : uid.0 < 16) where
  -- the byte of its session
  pub session_in_header : get_or (header_bytes u r) (sessions_offset + uid.0) 0 ≡ session_byte (get_or r.sessions uid.0 none)
  session_in_header =
      ap (λ (b : List ℕ). get_or b (sessions_offset + uid.0) 0) (header_parts u r)
      ∙ session_in_front u r.sessions h (registry_parts r k).sessions _ uid.0 l

  -- stored there, a session's byte makes the header of the registry with it
  pub header_with_session : (o : Option BoundedRole) → set (header_bytes u r) (sessions_offset + uid.0) (session_byte o) ≡ header_bytes u (set_session uid o r)
  unfolding set_session
  header_with_session o =
      ap (λ (b : List ℕ). set b (sessions_offset + uid.0) (session_byte o)) (header_parts u r)
      ∙ front_with_session u r.sessions h (registry_parts r k).sessions _ uid.0 l o
      ∙ sym (header_parts u (set_session uid o r))

  -- the bytes of its working directory
  pub directory_in_header : take directory_width (drop (directory_start uid.0) (header_bytes u r)) ≡ directory_bytes (working_directory uid r)
  unfolding working_directory
  directory_in_header =
      let p = registry_parts r k in
      let D = directories_part r.directories in
      let there : drop (directory_start uid.0) (header_bytes u r) ≡ drop (directory_width * uid.0) (D ++ unused) =
      sym (drop-drop (directory_width * uid.0) directories_offset (header_bytes u r))
      ∙ ap (λ (b : List ℕ). drop (directory_width * uid.0) (drop directories_offset b)) (header_parts u r)
      ∙ ap (drop (directory_width * uid.0)) (behind_front u r.sessions h p.sessions (D ++ unused)) in
      ap (take directory_width) there
      ∙ directory_in_part r.directories p.directories p.kept_paths uid.0 l unused

  -- and its text
  pub directory_text_in_header : text_at (directory_start uid.0) directory_width (header_bytes u r) ≡ path_text (working_directory uid r)
  directory_text_in_header =
      let b = header_bytes u r in
      let o = directory_start uid.0 in
      let there : text_at 0 directory_width (take directory_width (drop o b)) ≡ text_at o directory_width b =
      let q : o + 0 ≡ o = omega arith in
      text_there b o directory_width 0 directory_width (omega arith) ∙ ap (λ (n : ℕ). text_at n directory_width b) q in
      sym there ∙ ap (text_at 0 directory_width) directory_in_header ∙ directory_text (working_directory uid r) (working_directory_is_path r uid k)

  -- written there, the bytes of a path that has the width make the header of the registry with it
  pub header_with_directory : (q : Path) → length (directory_bytes q) ≡ directory_width → paste (header_bytes u r) (directory_start uid.0) (directory_bytes q) directory_width ≡ header_bytes u (set_directory uid q r)
  unfolding set_directory
  header_with_directory q e =
      let p = registry_parts r k in
      let D = directories_part r.directories in
      let i = directory_width * uid.0 in
      ap (λ (b : List ℕ). paste b (directories_offset + i) (directory_bytes q) directory_width) (header_parts u r)
      ∙ paste_behind_front u r.sessions h p.sessions (D ++ unused) (directory_bytes q) i directory_width
      ∙ ap (front_bytes u r.sessions) (directory_replaced r.directories p.directories p.kept_paths uid.0 l unused q e)
      ∙ sym (header_parts u (set_directory uid q r))
