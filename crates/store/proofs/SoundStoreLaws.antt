-- Bytes are sound just if `decode` reads a state off them, and it is the state that makes them sound.
use Rattle.std.specs.Prelude.{◌≡◌, List, true, ℕ}
use Rattle.std.proofs.Math.Option.{none, some}
use Rattle.syntax.proofs.FormLaws.{both}
use Rattle.setup.proofs.SoundSetupLaws.{setup_is_sound, sound_is_setup}
use Rattle.tree.proofs.SoundTreeLaws.{tree_is_sound, sound_is_tree}
use Rattle.tree.proofs.UpdateLaws.{by_option}
use Rattle.store.specs.State.{State, well_formed}
use Rattle.store.proofs.RegistryLaws.{is_registered}
use Rattle.store.proofs.StateLaws.{parts}
use Rattle.store.specs.StoreBytes.{store_width, decode}
use Rattle.store.proofs.StoreBytesLaws.{decode_encode, encode_decode, decode_length}
use Rattle.store.specs.SoundStore.{Sound}

-- sound bytes are read as their state
sound_state : (b : List ℕ) (v : Sound b) → decode b ≡ some v.state
unfolding well_formed
sound_state b v =
    let s = v.state in
    let h : well_formed s ≡ true = both (sound_is_setup s.setup v.setup)
    (both
    (is_registered s.store.registry (record { sessions = v.sixteen_sessions; directories = v.sixteen_directories; kept_paths = v.kept_paths }))
    (sound_is_tree s.store.tree v.tree)) in
    rw v.bytes at (decode_encode s h)

-- so sound bytes are read
pub sound_is_decoded : (b : List ℕ) → Sound b → (s : State) × (decode b ≡ some s)
sound_is_decoded b v = (v.state, sound_state b v)

-- and bytes that are read are sound
pub decoded_is_sound : (b : List ℕ) (s : State) → decode b ≡ some s → Sound b
unfolding store_width
decoded_is_sound b s e =
    let i = encode_decode b s e in
    let w = parts s i.1 in
    record {
      width = decode_length b s e;
      state = s;
      bytes = i.0;
      tree = tree_is_sound s.store.tree w.tree;
      setup = setup_is_sound s.setup w.setup;
      sixteen_sessions = w.sessions;
      sixteen_directories = w.directories;
      kept_paths = w.kept_paths;
    }

-- bytes that are not sound are not read
pub unsound_is_none : (b : List ℕ) → (Sound b → ⊥) → decode b ≡ none
unsound_is_none b h = by_option (decode b) (λ e. e) (λ s e. absurd (h (decoded_is_sound b s e)))
