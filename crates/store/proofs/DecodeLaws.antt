-- Bytes are read as a state just if there are as many as a store has, the first are those of a header, and the others are read as a tree.
use Rattle.std.specs.Prelude.{◌≡◌, refl, List, [], ◌++◌, true, ◌&&◌, ℕ, zero, suc, eqb, length, get_or, take, drop}
use Rattle.std.proofs.Common.{◌∙◌, ap₂, append-nil, take-append-drop, take_at, drop_at, eq-eqb, eqb-true}
use Rattle.std.proofs.Math.Option.{some}
use Rattle.buffers.specs.Cases.{and_both}
use Rattle.buffers.specs.Text.{same_text, every}
use Rattle.buffers.specs.TextLaws.{same_text_refl, same_text_sound}
use Rattle.buffers.specs.Fields.{text_at, all_from}
use Rattle.buffers.specs.TableLaws.{length_all_from}
use Rattle.accounts.proofs.ClosureLaws.{one_test}
use Rattle.syntax.specs.Form.{is_some}
use Rattle.syntax.proofs.FormLaws.{both, the_some}
use Rattle.syntax.specs.Path.{is_path, path}
use Rattle.syntax.proofs.PathLaws.{path_is_path}
use Rattle.setup.specs.Setup.{Setup, accounts, is_setup}
use Rattle.tree.specs.Encoding.{encode_tree, decode_tree}
use Rattle.tree.proofs.EncodingLaws.{decode_encode_tree, encode_decode_tree}
use Rattle.tree.proofs.UpdateLaws.{by_option}
use Rattle.tree.specs.TreeBytes.{Encodes}
use Rattle.tree.proofs.TreeBytesLaws.{encodes}
use Rattle.store.specs.HeaderLayout.{header_width, sessions_offset, directories_offset, directory_width}
use Rattle.store.specs.State.{Registry, State, state_of, is_registry, well_formed}
use Rattle.store.proofs.RegistryLaws.{root_is_path, is_registered}
use Rattle.store.proofs.StateLaws.{parts, formed}
use Rattle.store.specs.StoreBytes.{store_width, header_bytes, session_of, path_or_root, directory_from, setup_of, sessions_of, directories_of, registry_of, is_header, encode, decode}
use Rattle.store.proofs.HeaderLaws.{length_header, setup_of_header, registry_of_header}
use Rattle.store.proofs.StoreBytesLaws.{decode_encode, encode_decode, decode_length}

-- the bytes of a setup in range and of a well-formed registry are a header
header_is : (u : Setup) (r : Registry) → is_setup u ≡ true → is_registry r ≡ true → is_header (header_bytes u r) ≡ true
unfolding is_header
header_is u r h k =
    let a : setup_of (header_bytes u r) ≡ u = rw append-nil at (setup_of_header u r h k []) in
    let b : registry_of (header_bytes u r) ≡ r = rw append-nil at (registry_of_header u r h k []) in
    rw (a, b, h) (same_text_refl (header_bytes u r))

-- the parts of bytes that are read
abbrev ReadParts : List ℕ → Type 0
ReadParts b = (length b ≡ store_width) × ((is_header (take header_width b) ≡ true) × (is_some (decode_tree (drop header_width b)) ≡ true))

read_in_parts : (b : List ℕ) (s : State) → decode b ≡ some s → ReadParts b
unfolding encode is_some
read_in_parts b s e =
    let i = encode_decode b s e in
    let p = parts s i.1 in
    let H = header_bytes s.setup s.store.registry in
    let T = encode_tree s.store.tree in
    let l = length_header s.setup s.store.registry p.setup p.registry in (
      decode_length b s e,
      (
        rw (← i.0, take_at H T header_width l) (header_is s.setup s.store.registry p.setup p.registry),
        rw (← i.0, drop_at H T header_width l, decode_encode_tree s.store.tree p.tree),
      ),
    )

-- the tree stands behind the header
pub tree_read : (b : List ℕ) (s : State) → decode b ≡ some s → Encodes (drop header_width b) s.store.tree
unfolding encode
tree_read b s e =
    let i = encode_decode b s e in
    let p = parts s i.1 in
    let H = header_bytes s.setup s.store.registry in
    let l = length_header s.setup s.store.registry p.setup p.registry in
    rw (← i.0, drop_at H (encode_tree s.store.tree) header_width l) (encodes p.tree)

-- what is read off any bytes is a well-formed registry: 16 sessions and 16 working directories, what is no path read as `/`
read_is_path : (b : List ℕ) → is_path (directory_from b) ≡ true
unfolding directory_from path_or_root
read_is_path b = by_option (path (text_at 0 directory_width b))
    (λ e. rw e root_is_path)
    (λ p e. rw e (path_is_path (text_at 0 directory_width b) p e))

all_read_paths : (n : ℕ) (b : List ℕ) → every is_path (all_from directory_width directory_from n b) ≡ true
unfolding every all_from
all_read_paths zero b = refl
all_read_paths (suc n) b = rw (read_is_path (take directory_width b)) (all_read_paths n (drop directory_width b))

read_registry : (b : List ℕ) → is_registry (registry_of b) ≡ true
unfolding registry_of sessions_of directories_of accounts
read_registry b = is_registered (registry_of b) (record {
  sessions = length_all_from 1 (λ s. session_of (get_or s 0 0)) 16 (drop sessions_offset b);
  directories = length_all_from directory_width directory_from 16 (drop directories_offset b);
  kept_paths = all_read_paths 16 (drop directories_offset b);
})

-- bytes that have these parts are read
parts_are_read : (b : List ℕ) → ReadParts b → is_some (decode b) ≡ true
unfolding is_header encode is_some
parts_are_read b (w, (h, t)) =
    let H = take header_width b in
    let T = drop header_width b in
    let i = and_both (is_setup (setup_of H)) (same_text (header_bytes (setup_of H) (registry_of H)) H) h in
    let j = the_some (decode_tree T) t in
    let k = encode_decode_tree T j.0 j.1 in
    let s : State = state_of (setup_of H) (record { tree = j.0; registry = registry_of H }) in
    let f : well_formed s ≡ true = formed (setup_of H) i.0 s.store (read_registry H) k.1 in
    let e : encode s ≡ b = ap₂ ◌++◌ (same_text_sound (header_bytes (setup_of H) (registry_of H)) H i.1) k.0 ∙ take-append-drop header_width b in
    rw (rw e at (decode_encode s f))

pub decode_in_parts : (b : List ℕ) → is_some (decode b) ≡ (eqb (length b) store_width && (is_header (take header_width b) && is_some (decode_tree (drop header_width b))))
decode_in_parts b = one_test (is_some (decode b)) (eqb (length b) store_width && (is_header (take header_width b) && is_some (decode_tree (drop header_width b))))
    (λ e. let s = the_some (decode b) e in let p = read_in_parts b s.0 s.1 in both (eq-eqb (length b) store_width p.0) (both p.1.0 p.1.1))
    (λ e.
    let i = and_both (eqb (length b) store_width) _ e in
    let j = and_both (is_header (take header_width b)) (is_some (decode_tree (drop header_width b))) i.1 in
    parts_are_read b (eqb-true (length b) store_width i.0, (j.0, j.1)))
