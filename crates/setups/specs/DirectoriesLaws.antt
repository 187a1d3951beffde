-- The first working directories as they are written into a header: one account's, those of the accounts one after another, and
-- the header that has them.
use Rattle.std.specs.Prelude.{◌≡◌, refl, true, ℕ, suc, ◌+◌, ◌*◌, ◌≤◌, ◌<◌, length, get_or, take, replicate}
use Rattle.std.proofs.Common.{sym, ◌∙◌, ap₂, arith, add-one, add-zero, suc-add, add-suc, length-take, take_all, take-suc, eq-eqb, ne_eqb}
use Rattle.std.proofs.Math.Path.{ap}
use mathlib.Core.List.{List, [], ◌∷◌, ◌++◌, map, map-append, append_assoc}
use Rattle.std.proofs.Math.Option.{Option}
use Rattle.std.proofs.lemmas.List.{length-map, length-replicate}
use Rattle.std.proofs.Math.Seq.{paste, paste-zero}
use Rattle.buffers.specs.Fields.{padded, all_bytes}
use Rattle.buffers.specs.PasteLaws.{paste_join, paste_piece}
use Rattle.buffers.specs.TableLaws.{zeros_join, length_all_bytes}
use Rattle.accounts.specs.declared.Uid.{Uid}
use Rattle.syntax.specs.Pieces.{bytes}
use Rattle.syntax.specs.Path.{Path, is_path, names_text, path_text}
use Rattle.setup.specs.Setup.{Person, Setup, is_setup}
use Rattle.setup.proofs.SetupLaws.{apart}
use Rattle.store.specs.declared.Person.{Person as Slot}
use Rattle.store.specs.HeaderLayout.{directories_offset, directory_width, directories_width, directory_start, spare_offset, spare_width}
use Rattle.store.specs.Initial.{home_name, no_sessions, first_directory, first_directories, initial_registry}
use Rattle.store.proofs.InitialLaws.{first_is_path, first_are_paths, length_first}
use Rattle.store.specs.InitialRows.{slot_value, no_slot}
use Rattle.store.specs.StoreBytes.{directory_bytes, front_bytes, header_bytes}
use Rattle.store.specs.SetupHeader.{setup_header}
use Rattle.store.proofs.SetupHeaderLaws.{length_no_sessions}
use Rattle.store.proofs.FrontLaws.{front_before, paste_behind_front}
use Rattle.store.proofs.HeaderLaws.{length_directory}
use Rattle.setups.specs.HeaderGrowsLaws.{one_more}

-- ---- one account's

-- an account that is no person's begins at `/`
pub begins_at_top : (v : Uid) (p : Slot) → p.primary.0 ≡ 0 → padded directory_width (47 ∷ []) ≡ directory_bytes (first_directory v (slot_value p))
unfolding directory_bytes first_directory slot_value path_text bytes
begins_at_top v p e = rw (eq-eqb p.primary.0 0 e)

-- a person at home
pub begins_at_home : (v : Uid) (p : Slot) (t : List ℕ) → (p.primary.0 ≡ 0 → ⊥) → t ≡ 47 ∷ home_name v → padded directory_width t ≡ directory_bytes (first_directory v (slot_value p))
unfolding directory_bytes first_directory slot_value path_text names_text
begins_at_home v p t h e = rw (ne_eqb p.primary.0 0 h, e)

-- ---- those of the accounts one after another

first_more : (l : List (Option Person)) (o : Option Person) (k : ℕ) → first_directories k (l ++ (o ∷ [])) ≡ first_directories k l ++ (first_directory (record { 0 = k + length l }) o ∷ [])
unfolding first_directories
first_more [] o k = ap (λ (n : ℕ). first_directory (record { 0 = n }) o ∷ []) (sym (add-zero k))
first_more (a ∷ l) o k =
    ap (λ (r : List Path). first_directory (record { 0 = k }) a ∷ r)
    (first_more l o (suc k) ∙ ap (λ (n : ℕ). first_directories (suc k) l ++ (first_directory (record { 0 = n }) o ∷ [])) (suc-add k (length l) ∙ sym (add-suc k (length l))))

-- their bytes
abbrev pub first_bytes : List (Option Person) → List ℕ
first_bytes l = all_bytes directory_bytes (first_directories 0 l)

length_first_bytes : (l : List (Option Person)) → length l ≤ 16 → length (first_bytes l) ≡ directory_width * length l
length_first_bytes l h =
    length_all_bytes directory_width is_path directory_bytes length_directory (first_directories 0 l) (first_are_paths l 0 (omega arith)) ∙ omega (arith, length_first l 0)

first_bytes_more : (l : List (Option Person)) (o : Option Person) → first_bytes (l ++ (o ∷ [])) ≡ first_bytes l ++ directory_bytes (first_directory (record { 0 = length l }) o)
first_bytes_more l o =
    let n : 0 + length l ≡ length l = omega arith in
    ap (all_bytes directory_bytes) (first_more l o 0)
    ∙ one_more directory_bytes (first_directories 0 l) (first_directory (record { 0 = 0 + length l }) o)
    ∙ ap (λ (m : ℕ). first_bytes l ++ directory_bytes (first_directory (record { 0 = m }) o)) n

-- those of the accounts below k are written
pub record DirectoriesWritten (h : List ℕ) (persons : List Slot) (b : List ℕ) (k : ℕ) : Type 0 where
  pub le : k ≤ 16
  pub sixteen : length persons ≡ 16
  pub wide : length b ≡ length h
  pub so_far : b ≡ paste h directories_offset (first_bytes (map slot_value (take k persons))) (directory_width * k)

pub none_written : (h : List ℕ) (persons : List Slot) → length persons ≡ 16 → DirectoriesWritten h persons h 0
none_written h persons l = record { le = omega arith; sixteen = l; wide = refl; so_far = paste-zero h directories_offset (first_bytes []) }

module _ {h : List ℕ} {persons : List Slot} {b : List ℕ} {k : ℕ} (w : DirectoriesWritten h persons b k) where
  pub one_written : (c : List ℕ) → spare_offset ≤ length h → k < 16 → length c ≡ length b →
      c ≡ paste b (directory_start k) (directory_bytes (first_directory (record { 0 = k }) (slot_value (get_or persons k no_slot)))) directory_width →
      DirectoriesWritten h persons c (k + 1)
  one_written c room l kept e =
      let o = slot_value (get_or persons k no_slot) in
      let done = map slot_value (take k persons) in
      let q = first_directory (record { 0 = k }) o in
      let n : length done ≡ k = length-map (take k persons) slot_value ∙ length-take k persons ∙ omega (arith, w.sixteen) in
      let all : map slot_value (take (k + 1) persons) ≡ done ++ (o ∷ []) =
      ap (λ (m : ℕ). map slot_value (take m persons)) (add-one k)
      ∙ ap (map slot_value) (take-suc persons k no_slot (omega (arith, w.sixteen)))
      ∙ map-append slot_value (take k persons) (get_or persons k no_slot ∷ []) in
      let bytes_are : first_bytes (map slot_value (take (k + 1) persons)) ≡ first_bytes done ++ directory_bytes q =
      ap first_bytes all ∙ first_bytes_more done o ∙ ap (λ (m : ℕ). first_bytes done ++ directory_bytes (first_directory (record { 0 = m }) o)) n in
      let further : directory_width * k + directory_width ≡ directory_width * (k + 1) = omega arith in
      record {
        le = omega arith;
        sixteen = w.sixteen;
        wide = kept ∙ w.wide;
        so_far =
            e ∙ ap (λ (x : List ℕ). paste x (directory_start k) (directory_bytes q) directory_width) w.so_far
            ∙ paste_join h (first_bytes done) (directory_bytes q) directories_offset (directory_width * k) directory_width
            (length_first_bytes done (omega arith) ∙ omega arith) (length_directory q (first_is_path k l o)) (omega arith)
            ∙ ap₂ (λ (x : List ℕ) (m : ℕ). paste h directories_offset x m) (sym bytes_are) further;
      }

  pub all_written : 16 ≤ k → b ≡ paste h directories_offset (first_bytes (map slot_value persons)) directories_width
  all_written m =
      let q : directory_width * k ≡ directories_width = omega (arith, w.le) in
      w.so_far ∙ ap₂ (λ (l : List Slot) (n : ℕ). paste h directories_offset (first_bytes (map slot_value l)) n) (take_all k persons (omega (arith, w.sixteen))) q

-- ---- the header that has them

module _ (u : Setup) (h : is_setup u ≡ true) where
  -- bytes written over the first zeros behind the front
  put_behind : (D O Z B : List ℕ) → length O ≡ directories_width → length D ≡ directories_width →
      paste (front_bytes u no_sessions (O ++ Z) ++ B) directories_offset D directories_width ≡ front_bytes u no_sessions (D ++ Z) ++ B
  put_behind D O Z B o d =
      ap (λ (x : List ℕ). paste x directories_offset D directories_width) (front_before u no_sessions (O ++ Z) B ∙ ap (front_bytes u no_sessions) (append_assoc O Z B))
      ∙ paste_behind_front u no_sessions h length_no_sessions (O ++ (Z ++ B)) D 0 directories_width
      ∙ ap (front_bytes u no_sessions) (paste_piece [] (Z ++ B) O D 0 directories_width refl o d ∙ sym (append_assoc D Z B))
      ∙ sym (front_before u no_sessions (D ++ Z) B)

  -- before any bytes, the header of the setup becomes that of the store that the setup begins with
  pub first_header : (B : List ℕ) → paste (setup_header u ++ B) directories_offset (first_bytes u.persons) directories_width ≡ header_bytes u (initial_registry u) ++ B
  unfolding setup_header header_bytes initial_registry
  first_header B =
      let n = (apart u h).count in
      ap (λ (x : List ℕ). paste (front_bytes u no_sessions x ++ B) directories_offset (first_bytes u.persons) directories_width) (zeros_join directories_width spare_width)
      ∙ put_behind (first_bytes u.persons) (replicate directories_width 0) (replicate spare_width 0) B (length-replicate {A = ℕ} directories_width 0)
      (length_first_bytes u.persons (omega arith) ∙ omega arith)
