-- The initial tree as the code writes it: a row for each directory, put in where root finds room for it.
--
-- In order: a directory put in below `/`; `/` and `/rep`; the home of an account; the accounts one after another.
use Rattle.std.specs.Prelude.{◌≡◌, Bool, true, ℕ, suc, ◌+◌, ◌-◌, ◌≤◌, ◌<◌, ◌/◌, ◌%◌, eqb, length, Ok, Err}
use Rattle.std.specs.Prelude as code
use Rattle.std.proofs.Math.Path.{refl, ap}
use Rattle.std.proofs.Common.{sym, ◌∙◌, arith, add-one}
use mathlib.Core.List.{List, [], ◌∷◌, map}
use Rattle.std.proofs.Math.Option.{Option, none, some}
use Rattle.std.proofs.Math.ListN.{get_or, get_or-map}
use borrow.Author.Tests.{eqb-true, eq-eqb, ne_eqb, ltb-true, lt-ltb, le-ltb}
use Rattle.buffers.specs.Cases.{case}
use Rattle.buffers.specs.Text.{Text, every}
use Rattle.buffers.specs.TextLaws.{every_get_or}
use Rattle.accounts.specs.declared.Uid.{Uid}
use Rattle.accounts.specs.declared.Account.{Account}
use Rattle.accounts.specs.declared.Gid.{Gid}
use Rattle.accounts.specs.Access.{is_root}
use Rattle.syntax.specs.Pieces.{bytes}
use Rattle.syntax.specs.Number.{octal, digits_before, decimal_text}
use Rattle.syntax.specs.Path.{Name, root, ◌▹◌, parent, last, depth, is_top, rep, is_name, most_names, has_names, is_path, path, names_text, path_text}
use Rattle.syntax.proofs.PathLaws.{path_of_text}
use Rattle.syntax.proofs.FormLaws.{no_answer, answered}
use Rattle.setup.specs.Setup.{Person, Setup, accounts, person, is_setup}
use Rattle.tree.specs.declared.Cause.{Cause}
use Rattle.tree.specs.Layout.{name_width}
use Rattle.tree.specs.Result.{outcome, done}
use Rattle.tree.proofs.ResultLaws.{not_done}
use Rattle.tree.specs.Forest.{Forest, no_nodes, Place, insert, put, leaf}
use Rattle.tree.specs.Node.{Node}
use Rattle.tree.specs.Walk.{by_modes, room}
use Rattle.tree.proofs.RoomLaws.{root_room}
use Rattle.tree.proofs.UpdateLaws.{place_at_root}
use Rattle.tree.specs.WellFormed.{is_tree}
use Rattle.tree.proofs.WellFormedLaws.{top_directory}
use Rattle.tree.specs.TreeBytes.{Insertable, Encodes, Whichever}
use Rattle.tree.proofs.TreeBytesLaws.{encodes}
use Rattle.tree.proofs.PlaceLaws.{put_here, put_below, update_root}
use Rattle.tree.specs.Encoding.{row_bytes, encode_tree}
use Rattle.edits.specs.declared.Fresh.{Fresh}
use Rattle.edits.specs.Changes.{rows_put, fresh_node, fresh_row}
use Rattle.edits.specs.WrittenLaws.{fresh_node_is}
use Rattle.gaps.specs.declared.Gap.{Gap}
use Rattle.gaps.specs.Gaps.{gap_from, behind_slash}
use Rattle.gaps.specs.GapsLaws.{last_in_text, last_fits, Standing, room_to, room_not, stands_insertable, stands_child}
use Rattle.store.specs.declared.Person.{Person as Slot}
use Rattle.store.specs.Initial.{directory_of, top_node, rep_node, home_node, home_name, with_home, homes, topped, initial_tree}
use Rattle.store.specs.InitialRows.{no_slot, slot_value, slot_in_range, Opens, OpensAt}
use Rattle.store.proofs.InitialLaws.{top_alone, Primaries, setup_primaries, top_whole, rep_open, homes_whole, home_open, initial_by_persons}
use Rattle.tree.specs.declared.Kind.TheVariants.{Directory}

-- ---- a directory put in

-- a child put in below `/`
put_topped : (n : Name) (e : Place Node) (F : Forest Node) → put n e (topped F) ≡ topped (insert n e F)
put_topped n e F = λ i. record { here = put_here n e (topped F) i; below = put_below n e (topped F) i }

-- the bytes of a tree, if it is well-formed
encoding : {b : List ℕ} {t : Place Node} → b ≡ encode_tree t → is_tree t ≡ true → Encodes b t
encoding e h = rw e (encodes h)

-- `/` and a name are the text of the path that has this one name
name_reads : (n : Name) → is_name n ≡ true → path (47 ∷ n) ≡ some (root ▹ n)
unfolding path_text names_text is_path has_names depth most_names
name_reads n h = path_of_text (root ▹ n) (rw h)

-- so where a tree is open to a name, a text of `/` and the name is such a path's
pub opens_at : {b : List ℕ} {n : Name} {t : Place Node} (s : Text) → s ≡ 47 ∷ n → Opens b n t → OpensAt b s n t
opens_at {n = n} s e h = record { reads = ap path e ∙ name_reads n h.ready.named; opens = h }

module _ (b : List ℕ) (s : Text) (n : Name) (t : Place Node) (h : OpensAt b s n t) where
  tree : Encodes b t
  tree = h.opens.tree

  -- the room that root finds is `/`
  top_room : (a : Account) → is_root a.uid ≡ true → room (by_modes a) t (root ▹ n) ≡ done t
  unfolding parent last is_top
  top_room a top = root_room a t (root ▹ n) top tree.whole (place_at_root t) (top_directory t tree.whole) h.opens.ready.free refl

  module _ (a : Account) {r : code.Result Gap Cause} (told : Whichever b s (λ t p. outcome r ≡ gap_from t p (room (by_modes a) t p))) where
    -- so it is not refused
    pub not_refused : is_root a.uid ≡ true → {k : Cause} → r ≡ Err k → ⊥
    not_refused top e = not_done (sym (room_not tree a (root ▹ n) (told t (root ▹ n) tree h.reads) e) ∙ top_room a top)

    module _ {g : Gap} (e : r ≡ Ok g) where
      stands : Standing b t (root ▹ n) a g.row g.at g.depth
      stands = room_to tree a (root ▹ n) (told t (root ▹ n) tree h.reads) e

      -- where room is found, the row may be put in
      pub spot_opens : Insertable b g.at 1
      spot_opens = stands_insertable stands 1 (omega (arith, h.opens.ready.room))

      -- with its name
      pub spot_named : length (behind_slash s) ≤ name_width
      spot_named = last_fits s h.reads stands.roomed.below_top

      -- and is then the directory put in
      pub directory_put : (m : Name) → m ≡ behind_slash s → (f : Fresh) → rows_put b g.at 1 (row_bytes (fresh_row g.depth m f)) ≡ encode_tree (put n (leaf (fresh_node f)) t)
      unfolding parent last
      directory_put m q f =
          ap (λ (x : Name). rows_put b g.at 1 (row_bytes (fresh_row g.depth x f))) (q ∙ last_in_text s h.reads)
          ∙ stands_child stands s h.reads f (omega (arith, h.opens.ready.room))
          ∙ ap encode_tree (update_root (put n (leaf (fresh_node f))) t)

-- ---- `/` and `/rep`

-- a new directory
pub directory_is : (owner : Uid) (group : Gid) (mode : ℕ)
    → fresh_node (record { kind = Directory; owner = owner; group = group; mode = mode; revision = 0 }) ≡ directory_of owner group mode
unfolding directory_of
directory_is owner group mode = fresh_node_is (record { kind = Directory; owner = owner; group = group; mode = mode; revision = 0 })

-- `/` alone is open to `/rep`
pub planted_opens : (b : List ℕ) → b ≡ encode_tree (leaf top_node) → OpensAt b (bytes "/rep") rep (topped no_nodes)
unfolding rep bytes
planted_opens b e = opens_at (bytes "/rep") refl (record { tree = encoding (e ∙ ap encode_tree top_alone) top_whole; ready = rep_open })

-- and with it there are the homes of no account
pub rep_put : (u : Setup) → put rep (leaf rep_node) (topped no_nodes) ≡ topped (homes u 0)
unfolding homes
rep_put u = put_topped rep (leaf rep_node) no_nodes

-- ---- homes

-- the path of a home is `/u` and one digit
pub short_path : (v : Uid) → v.0 < 10 → 47 ∷ 117 ∷ (48 + v.0) ∷ [] ≡ 47 ∷ home_name v
unfolding home_name bytes decimal_text digits_before
short_path v h = let m : v.0 % 10 ≡ v.0 = omega arith in rw (lt-ltb v.0 10 h, m)

-- or two, of which the first is 1
two_digits : (fuel n : ℕ) → 10 ≤ n → n < 16 → digits_before (suc (suc fuel)) n [] ≡ 49 ∷ (48 + (n - 10)) ∷ []
unfolding digits_before
two_digits fuel n h k =
    let d : n / 10 ≡ 1 = omega arith in
    let m : n % 10 ≡ n - 10 = omega arith in
    rw (le-ltb n 10 h, d, m)

pub long_path : (v : Uid) → 10 ≤ v.0 → v.0 < 16 → 47 ∷ 117 ∷ 49 ∷ (48 + (v.0 - 10)) ∷ [] ≡ 47 ∷ home_name v
unfolding home_name bytes decimal_text
long_path v h k =
    let e : v.0 ≡ suc (v.0 - 1) = omega arith in
    ap (λ (t : List ℕ). 47 ∷ 117 ∷ t) (sym (ap (λ (fuel : ℕ). digits_before (suc fuel) v.0 []) e ∙ two_digits (v.0 - 1) v.0 h k))

module _ (v : Uid) (p : Slot) (F : Forest Node) where
  -- an account without a person gets no home
  pub no_home : p.primary.0 ≡ 0 → with_home v (slot_value p) F ≡ F
  unfolding with_home slot_value
  no_home e = rw (eq-eqb p.primary.0 0 e)

  -- a person does
  pub home_put : (p.primary.0 ≡ 0 → ⊥)
      → put (home_name v) (leaf (directory_of v p.primary (octal 0 7 5 5))) (topped F) ≡ topped (with_home v (slot_value p) F)
  unfolding with_home slot_value home_node
  home_put h = put_topped (home_name v) (leaf (directory_of v p.primary (octal 0 7 5 5))) F ∙ rw (ne_eqb p.primary.0 0 h)

-- ---- the accounts one after another

-- a list passes a test where each of its elements does
every_at : {A : Type 0} (f : A → Bool) (l : List A) (d : A) → ((i : ℕ) → f (get_or l i d) ≡ true) → every f l ≡ true
unfolding every
every_at f [] d h = refl
every_at f (a ∷ l) d h = rw (h 0) (every_at f l d (λ i. h (suc i)))

-- a slot's person has its primary group
slot_primary : (s : Slot) (p : Person) → slot_value s ≡ some p → s.primary ≡ p.primary
unfolding slot_value
slot_primary s p e = case (eqb s.primary.0 0)
    (λ t. let q : none ≡ some p = rw t at e in no_answer q)
    (λ t. let q : some (record { primary = s.primary; further = s.further }) ≡ some p = rw t at e in sym (ap (λ (x : Person). x.primary) (answered q)))

-- a setup of persons alone
abbrev pub with_persons : List (Option Person) → Setup
with_persons l = record { persons = l; pairs = []; grants = [] }

module _ (ps : List Slot) where
  -- the setup of these slots
  abbrev of_slots : Setup
  of_slots = with_persons (map slot_value ps)

  slot_person : (u : Setup) (v : Uid) → u.persons ≡ map slot_value ps → person u v ≡ slot_value (get_or ps v.0 no_slot)
  unfolding person slot_value
  slot_person u v e = ap (λ (l : List (Option Person)). get_or l v.0 none) e ∙ get_or-map slot_value ps v.0 no_slot

  -- with the home of account k there are the homes of one account more
  pub turn_home : (k : ℕ)
      → topped (with_home (record { 0 = k }) (slot_value (get_or ps k no_slot)) (homes of_slots k)) ≡ topped (homes of_slots (k + 1))
  unfolding homes
  turn_home k =
      let v : Uid = record { 0 = k } in
      ap (λ (p : Option Person). topped (with_home v p (homes of_slots k))) (sym (slot_person of_slots v refl))
      ∙ ap (λ (m : ℕ). topped (homes of_slots m)) (sym (add-one k))

  -- the slots of a setup in range are in range
  pub slots_of_setup : (u : Setup) → is_setup u ≡ true → u.persons ≡ map slot_value ps → every slot_in_range ps ≡ true
  unfolding slot_in_range slot_value
  slots_of_setup u g e = every_at slot_in_range ps no_slot λ i.
      let s = get_or ps i no_slot in
      case (eqb s.primary.0 0)
      (λ t. lt-ltb s.primary.0 16 (omega (arith, eqb-true s.primary.0 0 t)))
      (λ t. lt-ltb s.primary.0 16 (setup_primaries u g (record { 0 = i }) (record { primary = s.primary; further = s.further }) (slot_person u (record { 0 = i }) e ∙ rw t)))

  module _ (fit : every slot_in_range ps ≡ true) where
    slots_primaries : Primaries of_slots
    unfolding slot_in_range
    slots_primaries v p e =
        let s = get_or ps v.0 no_slot in
        let q : s.primary ≡ p.primary = slot_primary s p (sym (slot_person of_slots v refl) ∙ e) in
        rw q at (ltb-true s.primary.0 16 (every_get_or slot_in_range ps v.0 no_slot fit refl))

    -- the home of account k may be put in
    pub turn_opens : (b : List ℕ) (k : ℕ) → k < 16 → b ≡ encode_tree (topped (homes of_slots k))
        → Opens b (home_name (record { 0 = k })) (topped (homes of_slots k))
    turn_opens b k h e = record { tree = encoding e (homes_whole of_slots slots_primaries k h); ready = home_open of_slots slots_primaries k h }

-- behind the last account the tree is the initial tree of every setup with the same persons
pub turned_all : (u v : Setup) (b : List ℕ) (k : ℕ) → k ≡ 16 → b ≡ encode_tree (topped (homes u k))
    → v.persons ≡ u.persons → b ≡ encode_tree (initial_tree v)
unfolding initial_tree accounts
turned_all u v b k q e s = e ∙ ap (λ (m : ℕ). encode_tree (topped (homes u m))) q ∙ ap encode_tree (initial_by_persons u v (sym s))
