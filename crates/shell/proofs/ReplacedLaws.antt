-- A done `mv` onto what stands at another path replaces a file by a file, and one onto itself changes nothing.
--
-- The file there gets the moved one's payload, then the moved one is taken out. A file has nothing below it, so it stands where
-- its payload does.
use Rattle.std.specs.Prelude.{◌≡◌, true, false, ℕ}
use Rattle.std.proofs.Math.Path.{refl}
use Rattle.std.proofs.Common.{sym, ◌∙◌, ap, arith}
use Rattle.std.proofs.Math.Option.{some}
use Rattle.buffers.specs.Cases.{contra}
use Rattle.accounts.specs.declared.Caller.{Caller}
use Rattle.syntax.specs.Path.{Name, Path, root, ◌▹◌, parent, last, is_top, same_path}
use Rattle.syntax.proofs.WithinLaws.{same_path_refl, differ_back}
use Rattle.syntax.proofs.FormLaws.{answered}
use Rattle.tree.specs.Result.{done, Outcome}
use Rattle.tree.proofs.GivesLaws.{done_with}
use Rattle.tree.specs.Forest.{Place, is_empty, update, place_at, alter, drop, Holds}
use Rattle.tree.proofs.ForestLaws.{empty_is_nil}
use Rattle.tree.specs.Node.{is_directory, Node}
use Rattle.tree.specs.Walk.{by_modes}
use Rattle.tree.specs.WellFormed.{is_place, is_tree}
use Rattle.tree.proofs.StepLaws.{parent_walked}
use Rattle.tree.proofs.PlaceLaws.{empty_size}
use Rattle.tree.proofs.UpdateLaws.{place_at_last, walked_at}
use Rattle.tree.proofs.WellFormedLaws.{place_parts, place_node}
use Rattle.tree.proofs.SizeLaws.{tree_place}
use Rattle.tree.proofs.ChangeLaws.{alter_at, keep_drop, nodes_drop}
use Rattle.tree.proofs.OtherPathLaws.{drop_gone}
use Rattle.tree.proofs.AlterLaws.{bare_altered, nodes_bare}
use Rattle.tree.proofs.HoldsLaws.{holds_altered, holds_alter, holds_drop}
use Rattle.shell.specs.Steps.{moved, run_mv}
use Rattle.shell.proofs.ReplacingLaws.{both_files, same_files}
use Rattle.shell.proofs.PassedMoveLaws.{PassedMove, mv_passed}
use Rattle.shell.specs.Replaced.{Replaced}

-- ---- files

-- two files with one payload are one
one_file : (d e : Place Node) → is_place d ≡ true → is_place e ≡ true → is_directory d.here.kind ≡ false → e.here ≡ d.here → e ≡ d
one_file d e v w file same =
    let alone = (place_parts e w).childless (ap (λ (x : Node). is_directory x.kind) same ∙ file) in
    let below : e.below ≡ d.below = empty_is_nil e.below alone ∙ sym (empty_is_nil d.below ((place_parts d v).childless file)) in
    λ i. record { here = same i; below = below i }

-- so in a well-formed tree a file stands where its payload does
file_stands : (t : Place Node) (p : Path) (d : Place Node) → is_tree t ≡ true → is_place d ≡ true → is_directory d.here.kind ≡ false
    → Holds t p d.here → place_at t p ≡ some d
file_stands t p d whole v file k = k.stands ∙ ap some (one_file d k.place v (tree_place t p k.place whole k.stands).0 file k.here)

-- ---- the two changes

-- the file d of the name n in q, and the file g at another path b
module _ (t : Place Node) (q : Path) (n : Name) (b : Path) (d g : Place Node) (whole : is_tree t ≡ true)
    (here : place_at t (q ▹ n) ≡ some d) (there : place_at t b ≡ some g) (off : same_path (q ▹ n) b ≡ false)
    (file : is_directory d.here.kind ≡ false) (onto_file : is_directory g.here.kind ≡ false) where
  -- the tree with the payload at both
  abbrev doubled : Place Node
  doubled = update b (alter (λ x. d.here)) t

  in_range : is_place d ≡ true
  in_range = (tree_place t (q ▹ n) d whole here).0

  alone : is_empty d.below ≡ true
  alone = (place_parts d in_range).childless file

  doubled_whole : is_tree doubled ≡ true
  doubled_whole = alter_at t b g (λ x. d.here) whole there (place_node d in_range) (same_files d.here.kind g.here.kind file onto_file)

  still_here : place_at doubled (q ▹ n) ≡ some d
  still_here = file_stands doubled (q ▹ n) d doubled_whole in_range file
      (holds_alter (q ▹ n) b (record { place = d; stands = here; here = refl }) (λ x. d.here) off)

  there_too : Holds doubled b d.here
  there_too = holds_altered b (record { place = g; stands = there; here = refl }) (λ x. d.here)

  -- and without the one at q the file is replaced
  replaces : Replaced t (q ▹ n) b d g (update q (drop n) doubled)
  replaces = record {
    file = file;
    onto_file = onto_file;
    stands = file_stands _ b d (keep_drop doubled q n doubled_whole) in_range file (holds_drop b q there_too n d still_here alone (differ_back (q ▹ n) b off));
    gone = drop_gone doubled doubled_whole q n;
    others = λ p x off_a off_b k. holds_drop p q (holds_alter p b k (λ y. d.here) off_b) n d still_here alone off_a;
    fewer = omega (arith, nodes_drop doubled q n d still_here, empty_size d.below alone, nodes_bare doubled t (bare_altered b (λ x. d.here) t));
  }

-- ---- the steps

module _ (c : Caller) (m : ℕ) (t : Place Node) where
  -- what has been found at the target is what stands there
  stood : {a b : Path} {t' : Place Node} (v : PassedMove c t a b t') → v.there ≡ place_at t b
  stood {b = b} v =
      let j = by_modes c.account in
      sym (place_at_last t b v.directory v.target_below_top (walked_at t j (parent b) v.directory (parent_walked j t b v.entered).0) ∙ v.found)

  -- a done `mv` onto what stands at another path replaces a file by a file
  pub replaced : (a b : Path) (o : Outcome (Place Node)) (d g : Place Node) → is_tree t ≡ true → run_mv c m t a b ≡ done o
      → place_at t a ≡ some d → place_at t b ≡ some g → same_path a b ≡ false → Replaced t a b d g o.state
  unfolding moved parent last is_top
  replaced root b o d g whole e here there off = contra refl (done_with (mv_passed c m t root b) e).below_top
  replaced (q ▹ n) b o d g whole e here there off =
      let v = done_with (mv_passed c m t (q ▹ n) b) e in
      let same = answered (sym here ∙ walked_at t (by_modes c.account) (q ▹ n) v.place v.led) in
      let found = stood v ∙ there in
      let files = both_files d.here.kind g (rw (same, found) at v.fitting) in
      rw (v.leaves, same, found) (rw off (replaces t q n b d g whole here there off files.1 files.0))

  -- and one onto itself leaves the tree as it was
  pub stays : (a : Path) (o : Outcome (Place Node)) → run_mv c m t a a ≡ done o → o.state ≡ t
  unfolding moved
  stays a o e =
      let v = done_with (mv_passed c m t a a) e in
      rw (v.leaves, stood v ∙ walked_at t (by_modes c.account) a v.place v.led) (rw (same_path_refl a))
