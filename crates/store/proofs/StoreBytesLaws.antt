-- The bytes of the whole store: a well-formed state is read back from its bytes, bytes that are read are those of the state
-- read, and there are always as many.
use Rattle.std.specs.Prelude.{◌≡◌, List, ◌++◌, true, ◌&&◌, ℕ, length, drop}
use Rattle.std.proofs.Common.{sym, ◌∙◌, ap, arith, length-append, drop_at}
use Rattle.std.proofs.Math.Option.{some}
use Rattle.buffers.specs.Cases.{and_both}
use Rattle.buffers.specs.Text.{same_text}
use Rattle.buffers.specs.TextLaws.{same_text_refl, same_text_sound}
use Rattle.syntax.specs.Form.{◌>>=◌, ◌>>◌, check}
use Rattle.syntax.proofs.FormLaws.{both_read, checked, answered}
use Rattle.tree.specs.Encoding.{encode_tree, decode_tree}
use Rattle.tree.proofs.EncodingLaws.{length_encode_tree, decode_encode_tree}
use Rattle.store.specs.HeaderLayout.{header_width}
use Rattle.store.specs.State.{State, well_formed}
use Rattle.store.proofs.StateLaws.{parts}
use Rattle.store.specs.StoreBytes.{store_width, header_bytes, setup_of, registry_of, encode, decode}
use Rattle.store.proofs.HeaderLaws.{length_header, setup_of_header, registry_of_header}

-- the encoding of a well-formed state has the width of all stores
pub length_encode : (s : State) → well_formed s ≡ true → length (encode s) ≡ store_width
unfolding encode store_width
length_encode s h =
    let i = parts s h in
    let H = header_bytes s.setup s.store.registry in
    let a = length_header s.setup s.store.registry i.setup i.registry in
    let b = length_encode_tree s.store.tree i.tree in
    length-append H (encode_tree s.store.tree) ∙ omega (arith, a, b)

-- what bytes are read as whose parts are known
read_as : (b : List ℕ) (s : State) → decode_tree (drop header_width b) ≡ some s.store.tree →
    setup_of b ≡ s.setup → registry_of b ≡ s.store.registry →
    decode b ≡ (check (well_formed s && same_text (encode s) b) >> some s)
unfolding decode ◌>>=◌
read_as b s t u r = rw (t, u, r)

-- a well-formed state is read back from its encoding
pub decode_encode : (s : State) → well_formed s ≡ true → decode (encode s) ≡ some s
unfolding encode ◌>>◌ check
decode_encode s h =
    let i = parts s h in
    let u = s.setup in
    let r = s.store.registry in
    let B = encode_tree s.store.tree in
    let t : decode_tree (drop header_width (header_bytes u r ++ B)) ≡ some s.store.tree =
    rw (drop_at (header_bytes u r) B header_width (length_header u r i.setup i.registry)) (decode_encode_tree s.store.tree i.tree) in
    read_as (encode s) s t (setup_of_header u r i.setup i.registry B) (registry_of_header u r i.setup i.registry B)
    ∙ rw (h, same_text_refl (encode s))

-- bytes that are read as a state are its encoding, and it is well-formed
pub encode_decode : (b : List ℕ) (s : State) → decode b ≡ some s → (encode s ≡ b) × (well_formed s ≡ true)
unfolding decode
encode_decode b s e =
    let i = both_read (decode_tree (drop header_width b)) _ s e in
    let r : State = record { setup = setup_of b; store = record { tree = i.0; registry = registry_of b } } in
    let j = checked (well_formed r && same_text (encode r) b) (some r) s i.2 in
    let k = and_both (well_formed r) (same_text (encode r) b) j.0 in
    let q : s ≡ r = answered j.1 in
    rw q (same_text_sound (encode r) b k.1, k.0)

-- bytes that are read as a state have the width of all stores
pub decode_length : (b : List ℕ) (s : State) → decode b ≡ some s → length b ≡ store_width
decode_length b s e = let i = encode_decode b s e in ap length (sym i.0) ∙ length_encode s i.1
