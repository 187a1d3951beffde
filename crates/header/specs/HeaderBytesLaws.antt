-- What stands in a header's bytes, and where.
--
-- In order: the header whole; an account's slot, its session and its working directory; the role pairs; the grants.
use Rattle.std.specs.Prelude.{◌≡◌, ℕ, ◌+◌, ◌*◌, ◌≤◌, ◌<◌, set, take, drop}
use Rattle.std.proofs.Math.Path.{refl, ap, ap₂}
use Rattle.std.proofs.Common.{sym, ◌∙◌, arith, get_or-drop, drop-drop, eq-eqb, ne_eqb}
use mathlib.Core.List.{List, [], append-nil}
use Rattle.std.proofs.Math.Option.{Option, none, some}
use Rattle.std.proofs.Math.ListN.{length, get_or, get_or-eq_default}
use Rattle.std.proofs.Math.Seq.{paste}
use Rattle.buffers.specs.Text.{Text}
use Rattle.buffers.specs.Fields.{number_at, padded, text_at, table_from}
use Rattle.buffers.specs.FieldsLaws.{length_padded, byte_there, number_there, text_there}
use Rattle.buffers.specs.TableLaws.{all_from_at, table_count, table_value}
use Rattle.accounts.specs.declared.Uid.{Uid}
use Rattle.accounts.specs.Dominance.{BoundedRole}
use Rattle.accounts.specs.PairBytes.{pair_of}
use Rattle.dominance.specs.PairsIn.{pairs_in}
use Rattle.syntax.specs.Path.{Path, path_text}
use Rattle.syntax.proofs.PathLaws.{path_text_fits}
use Rattle.setup.specs.Setup.{Grant, Setup, accounts, person}
use Rattle.setup.proofs.SetupLaws.{apart}
use Rattle.store.specs.HeaderLayout.{slot_width, sessions_offset, pairs_offset, pair_width, grants_offset, grant_width, grant_start, directory_width, directory_start, WideHeader}
use Rattle.store.specs.State.{Registry, set_session, working_directory, set_directory}
use Rattle.store.specs.StoreBytes.{slot_of, session_byte, grant_of, directory_bytes, header_bytes, setup_of}
use Rattle.store.proofs.HeaderLaws.{directory_bytes_are, length_header, setup_of_header, session_in_header, header_with_session, directory_text_in_header, header_with_directory}
use Rattle.header.specs.HeaderBytes.{Heads, Headed, TellsPath, grant_in}

-- ---- a header

module _ {b : List ℕ} {u : Setup} {z : Registry} (h : Heads b u z) where
  -- it has its width
  heads_wide : WideHeader b
  heads_wide = ap length h.bytes ∙ length_header u z h.in_range h.registered

  -- its setup is read from it
  setup_read : u ≡ setup_of b
  setup_read =
      sym (setup_of_header u z h.in_range h.registered []) ∙ ap setup_of (append-nil (header_bytes u z) ∙ sym h.bytes)

  -- ---- the slot of an account

  slot_read : (v : Uid) → v.0 < 16 → person u v ≡ slot_of (take slot_width (drop (slot_width * v.0) b))
  unfolding person setup_of accounts
  slot_read v l = ap (λ (s : Setup). get_or s.persons v.0 none) setup_read ∙ all_from_at slot_width slot_of 16 v.0 b none l

  first_of_slot : (v : Uid) → get_or (take 3 (drop (3 * v.0) b)) 0 0 ≡ get_or b (3 * v.0) 0
  first_of_slot v = byte_there b (3 * v.0) 3 0 (3 * v.0) (omega arith) (omega arith)

  -- 0 is no person's
  pub empty_slot : (v : Uid) → v.0 < 16 → get_or b (slot_width * v.0) 0 ≡ 0 → person u v ≡ none
  unfolding slot_of
  empty_slot v l e = slot_read v l ∙ rw (eq-eqb (get_or (take 3 (drop (3 * v.0) b)) 0 0) 0 (first_of_slot v ∙ e))

  -- any other is a person's primary group, before the further ones
  pub filled_slot : (v : Uid) → v.0 < 16 → (get_or b (slot_width * v.0) 0 ≡ 0 → ⊥)
      → person u v ≡ some (record { primary = record { 0 = get_or b (slot_width * v.0) 0 }; further = record { 0 = number_at (slot_width * v.0 + 1) b } })
  unfolding slot_of
  filled_slot v l e =
      let f = first_of_slot v in
      let g = number_there b (3 * v.0) 3 1 (3 * v.0 + 1) (omega arith) (omega arith) in
      slot_read v l
      ∙ rw (ne_eqb (get_or (take 3 (drop (3 * v.0) b)) 0 0) 0 (λ q. e (sym f ∙ q)))
      (λ j. some (record { primary = record { 0 = f j }; further = record { 0 = g j } }))

  -- there are no slots from 16 on
  pub no_slots_beyond : (v : Uid) → 16 ≤ v.0 → person u v ≡ none
  unfolding person
  no_slots_beyond v l = get_or-eq_default u.persons none (omega (arith, (apart u h.in_range).count))

  -- ---- the session of an account

  pub session_stands : (v : Uid) → v.0 < 16 → get_or b (sessions_offset + v.0) 0 ≡ session_byte (get_or z.sessions v.0 none)
  session_stands v l = rw h.bytes (session_in_header u z h.in_range h.registered v l)

  pub session_stored : (v : Uid) → v.0 < 16 → (o : Option BoundedRole)
      → set b (sessions_offset + v.0) (session_byte o) ≡ header_bytes u (set_session v o z)
  session_stored v l o = rw h.bytes (header_with_session u z h.in_range h.registered v l o)

  -- ---- the working directory of an account

  pub directory_stands : (v : Uid) → v.0 < 16 → text_at (directory_start v.0) directory_width b ≡ path_text (working_directory v z)
  directory_stands v l = rw h.bytes (directory_text_in_header u z h.in_range h.registered v l)

  -- a path's text that fits, filled up with zeros
  pub directory_stored : (v : Uid) → v.0 < 16 → (p : Path) (t : Text) → path_text p ≡ t → length t ≤ directory_width
      → paste b (directory_start v.0) (padded directory_width t) directory_width ≡ header_bytes u (set_directory v p z)
  directory_stored v l p t e k =
      let q : padded directory_width t ≡ directory_bytes p = ap (padded directory_width) (sym e) ∙ sym (directory_bytes_are p) in
      ap₂ (λ (x y : List ℕ). paste x (directory_start v.0) y directory_width) h.bytes q
      ∙ header_with_directory u z h.in_range h.registered v l p (ap length (sym q) ∙ length_padded directory_width t k)

  -- ---- the role pairs

  pairs_read : u.pairs ≡ table_from pair_width pair_of (drop pairs_offset b)
  unfolding setup_of
  pairs_read = ap (λ (s : Setup). s.pairs) setup_read

  pub pairs_counted : get_or b pairs_offset 0 ≡ length u.pairs
  pairs_counted = table_count pair_width pair_of b pairs_offset ∙ ap length (sym pairs_read)

  pub pairs_stand : u.pairs ≡ pairs_in (get_or b pairs_offset 0) (drop (pairs_offset + 1) b)
  unfolding table_from
  pairs_stand = pairs_read ∙ ap₂ pairs_in (get_or-drop pairs_offset b 0 0) (drop-drop 1 pairs_offset b)

  -- ---- the grants

  grants_read : u.grants ≡ table_from grant_width grant_of (drop grants_offset b)
  unfolding setup_of
  grants_read = ap (λ (s : Setup). s.grants) setup_read

  pub grants_counted : get_or b grants_offset 0 ≡ length u.grants
  grants_counted = table_count grant_width grant_of b grants_offset ∙ ap length (sym grants_read)

  pub grant_stands : (i : ℕ) (d : Grant) → i < length u.grants → get_or u.grants i d ≡ grant_in b i
  unfolding grant_of
  grant_stands i d l =
      let o = grant_start i in
      ap (λ (gs : List Grant). get_or gs i d) grants_read
      ∙ table_value grant_width grant_of b grants_offset i d (omega (arith, ap length grants_read))
      ∙ (λ j. record {
        uid = record { 0 = byte_there b o 10 0 o (omega arith) (omega arith) j };
        role = record { 0 = byte_there b o 10 1 (o + 1) (omega arith) refl j };
        password = text_there b o 10 2 8 (omega arith) j;
      })

-- every header has its width
pub headed_wide : {b : List ℕ} → Headed b → WideHeader b
headed_wide h = heads_wide h.2

-- the text of a path in range fits a working directory's field
pub told_fits : {t : Text} → TellsPath t → length t ≤ directory_width
told_fits (p, h, e) = omega (arith, ap length e, (path_text_fits p h).0)
