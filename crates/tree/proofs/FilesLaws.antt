-- The files below a directory: how many, where they lie, in which trees they are the same, and that they are those met row by row.
--
-- In order:
--   how many they are, and where they lie: files-count, files-within;
--   what is seen of a grafted tree: files-seen;
--   row by row in a well-formed tree: files-from-place.
use Rattle.std.specs.Prelude.{◌≡◌, false, ◌||◌, not, length}
use Rattle.std.proofs.Math.Path.{refl, sym, ap}
use Rattle.std.proofs.Common.{◌∙◌}
use mathlib.Core.List.{List, [], ◌++◌, append_assoc, append-nil}
use Rattle.std.proofs.Math.Option.{some}
use Rattle.std.proofs.Math.Bool.{true, or-true}
use Prim.Native.Nat.{ℕ, suc, ◌+◌, ◌≤◌, ◌<◌}
use native.Mathlib.Omega.{arith}
use Rattle.std.proofs.Math.ListN.{length-append}
use Rattle.buffers.specs.Cases.{case, and_both, contra}
use Rattle.buffers.specs.Text.{same_text, every}
use Rattle.buffers.specs.TextLaws.{same_text_refl, same_text_sound, every_append}
use Rattle.accounts.specs.declared.Right.TheVariants.{R, X}
use Rattle.accounts.specs.declared.Account.{Account}
use Rattle.syntax.specs.Path.{Name, Path, root, ◌▹◌, same_path, within, rep}
use Rattle.syntax.proofs.FormLaws.{no_answer, answered}
use Rattle.tree.specs.Result.{done}
use Rattle.tree.specs.Forest.{Forest, nil, node, Place, get, at, under, size}
use Rattle.tree.proofs.ForestLaws.{get_first, get_other}
use Rattle.tree.proofs.PlaceLaws.{empty_size}
use Rattle.tree.specs.Node.{Node, is_directory, allows}
use Rattle.tree.specs.Walk.{Judge, by_modes, enter, walk}
use Rattle.tree.proofs.StepLaws.{enters, walks_on}
use Rattle.tree.proofs.JudgeLaws.{kind_by_modes}
use Rattle.tree.specs.WellFormed.{leads, is_forest, is_tree}
use Rattle.tree.proofs.UpdateLaws.{walked_at}
use Rattle.tree.proofs.WellFormedLaws.{place_parts, forest_parts, get_leads, walked_place}
use Rattle.tree.specs.Graft.{graft, Seen, at_top, at_rep, outside}
use Rattle.tree.specs.RowPlaces.{ahead, index_of}
use Rattle.tree.proofs.RowPlacesLaws.{index_child}
use Rattle.tree.specs.Files.{files_below}
use Rattle.tree.specs.FileRows.{Met, FilesFrom, no_more, a_file, into, past}

module _ {A : Type 0} (j : Judge A) where
  -- ---- how many, and where

  -- there are no more files than nodes
  pub files_count : (p : Path) (F : Forest A) → length (files_below j p F) ≤ size F
  unfolding files_below size
  files_count p nil = omega arith
  files_count p (node n x cs rest) = case (is_directory (j.kind x))
      (λ i. case (j.readable x)
      (λ k. rw (i, k) (omega (arith, length-append (files_below j (p ▹ n) cs) (files_below j p rest), files_count (p ▹ n) cs, files_count p rest)))
      (λ k. rw (i, k) (omega (arith, files_count p rest))))
      (λ i. rw i (omega (arith, files_count p rest)))

  -- the files below a path are within it
  pub files_within : (w p : Path) (F : Forest A) → within w p ≡ true → every (within w) (files_below j p F) ≡ true
  unfolding files_below every
  files_within w p nil h = refl
  files_within w p (node n x cs rest) h =
      let l : within w (p ▹ n) ≡ true = unfold within in rw h (or-true (same_path w (p ▹ n))) in
      case (is_directory (j.kind x))
      (λ i. case (j.readable x)
      (λ k. rw (i, k) (every_append (within w) (files_below j (p ▹ n) cs) (files_below j p rest) ∙ rw (files_within w (p ▹ n) cs l) (files_within w p rest h)))
      (λ k. rw (i, k) (files_within w p rest h)))
      (λ i. rw (i, l) (files_within w p rest h))

  -- ---- a grafted tree

  -- another place at `/rep`, which may not be read in either, has no files that are met
  files_alike : (e f : Place A) → e.here ≡ f.here → is_directory (j.kind f.here) ≡ true → j.readable f.here ≡ false
      → (p : Path) (F : Forest A) → get rep F ≡ some f → files_below j p (at rep (λ d. e) F) ≡ files_below j p F
  unfolding get at files_below
  files_alike e f same directory shut p nil there = refl
  files_alike e f same directory shut p (node m y ds rest) there = case (same_text rep m)
      (λ i.
      let q : y ≡ f.here = sym (ap (λ d. d.here) (answered (rw i at there))) in
      rw (i, same, q, directory, shut))
      (λ i. rw (i, files_alike e f same directory shut p rest (rw i at there)))

  -- what is seen of both and may be read has the same files below it
  pub files_seen : (e f t : Place A) → e.here ≡ f.here → is_directory (j.kind f.here) ≡ true → j.readable f.here ≡ false → get rep t.below ≡ some f
      → {w : Path} {d d' : Place A} → Seen e f t w d d' → j.readable d'.here ≡ true → files_below j w d.below ≡ files_below j w d'.below
  unfolding graft under
  files_seen e f t same directory shut there at_top r = files_alike e f same directory shut root t.below there
  files_seen e f t same directory shut there (at_rep s) r = contra r shut
  files_seen e f t same directory shut there (outside o) r = refl

-- ---- row by row

-- a directory that may be read may be entered
read_enters : (a : Account) (n : Node) → is_directory ((by_modes a).kind n) ≡ true → (by_modes a).readable n ≡ true → enter (by_modes a) n ≡ done tt
unfolding by_modes
read_enters a n i r =
    let e = (and_both (allows a R n) (not (is_directory n.kind) || allows a X n) r).1 in
    enters (by_modes a) n i (rw i at e)

module _ (a : Account) (t : Place Node) where
  -- each of the siblings below p is met at its row, which is counted from i
  abbrev AllMet : Path → ℕ → Forest Node → Type 0
  AllMet p i F = (n : Name) (d : Place Node) → get n F ≡ some d → Met (by_modes a) t (i + size (ahead n F)) (p ▹ n) d

  -- the children of a directory that was met and may be read are met behind it
  children_met : {i : ℕ} {p : Path} {c : Place Node} → Met (by_modes a) t i p c → is_directory ((by_modes a).kind c.here) ≡ true → (by_modes a).readable c.here ≡ true
      → AllMet p (suc i) c.below
  children_met {i} {p} {c} v directory reads n d e = record {
    walked = walks_on (by_modes a) t p n v.walked (read_enters a c.here directory reads) e;
    row = omega (arith, v.row, index_child t p n c (walked_at t (by_modes a) p c v.walked));
  }

  module _ (p : Path) (i : ℕ) (n : Name) (x : Node) (cs rest : Forest Node) (all : AllMet p i (node n x cs rest)) where
    -- the first of siblings is met
    first_met : Met (by_modes a) t i (p ▹ n) (record { here = x; below = cs })
    unfolding ahead size
    first_met =
        let k = all n (record { here = x; below = cs }) (get_first n x cs rest) in
        let z : size (ahead n (node n x cs rest)) ≡ 0 = rw (same_text_refl n) in
        record { walked = k.walked; row = omega (arith, k.row) }

    -- and so are the others, whose names differ from its
    others_met : is_forest rest ≡ true → leads n rest ≡ true → AllMet p (suc i + size cs) rest
    unfolding ahead size
    others_met forest leading m d e = case (same_text m n)
        (λ s. no_answer (sym (get_leads n rest forest leading) ∙ ap (λ k. get k rest) (sym (same_text_sound m n s)) ∙ e))
        (λ s.
        let k = all m d (get_other m n x cs rest s ∙ e) in
        let z : size (ahead m (node n x cs rest)) ≡ suc (size cs + size (ahead m rest)) = rw s in
        record { walked = k.walked; row = omega (arith, k.row) })

  -- siblings that are met from row i on, then what is met behind them
  siblings_met : (end : ℕ) (p : Path) (F : Forest Node) → is_forest F ≡ true → (i : ℕ) → AllMet p i F → i + size F ≤ end
      → (qs : List Path) → FilesFrom (by_modes a) t end (i + size F) qs → FilesFrom (by_modes a) t end i (files_below (by_modes a) p F ++ qs)
  unfolding files_below size
  siblings_met end p nil h i all b qs r = let z : i + 0 ≡ i = omega arith in rw z at r
  siblings_met end p (node n x cs rest) h i all b qs r =
      let v = forest_parts n (record { here = x; below = cs }) rest h in
      let w = place_parts (record { here = x; below = cs }) v.first in
      let own = first_met p i n x cs rest all in
      let below : i < end = omega arith in
      let z : i + suc (size cs + size rest) ≡ suc i + size cs + size rest = omega arith in
      let behind = siblings_met end p rest v.others (suc i + size cs) (others_met p i n x cs rest all v.others v.leading) (omega arith) qs (rw z at r) in
      case (is_directory ((by_modes a).kind x))
      (λ k. case ((by_modes a).readable x)
      (λ l. rw (k, l, append_assoc (files_below (by_modes a) (p ▹ n) cs) (files_below (by_modes a) p rest) qs)
      (into below own k l (siblings_met end (p ▹ n) cs w.forest (suc i) (children_met own k l) (omega arith) (files_below (by_modes a) p rest ++ qs) behind)))
      (λ l. rw (k, l) (past below own k l behind)))
      (λ k.
      let none_below : suc i + size cs ≡ suc i = omega (arith, empty_size cs (w.childless (rw (kind_by_modes a x) at k))) in
      rw k (a_file below own k (rw none_below at behind)))

  -- the files below a directory that was walked to and may be read are those met from the row behind its own to its end
  pub files_from_place : is_tree t ≡ true → (w : Path) (d : Place Node) → walk (by_modes a) t w ≡ done d → is_directory d.here.kind ≡ true
      → (by_modes a).readable d.here ≡ true
      → FilesFrom (by_modes a) t (suc (index_of t w) + size d.below) (suc (index_of t w)) (files_below (by_modes a) w d.below)
  files_from_place whole w d led directory reads =
      let forest = (place_parts d (walked_place (by_modes a) t w d whole led)).forest in
      let all = children_met (record { walked = led; row = refl }) (rw (kind_by_modes a d.here) directory) reads in
      rw append-nil at (siblings_met (suc (index_of t w) + size d.below) w d.below forest (suc (index_of t w)) all (omega arith) [] no_more)
