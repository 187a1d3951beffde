-- `walks::below::child_names` meets its contract: the names written and those left are the names of all children.
use Prim.Native.Nat.{ℕ, suc, ◌≤◌, ◌<◌, ◌-◌, ◌+◌}
use native.Mathlib.Omega.{arith}
use mathlib.Core.Path.{◌≡◌, refl, sym, ◌∙◌, ap}
use mathlib.Core.List.{List, [], ◌∷◌, ◌++◌, append_assoc, append-nil}
use lib.ListN.{length, drop}
use Rattle.buffers.specs.Text.{Text}
use Rattle.syntax.specs.Pieces.{comma, joined}
use Rattle.tree.specs.RowAt.{row_at, all_rows}
use Rattle.walks.specs.RowBelow.{names_in, child_text_in}
use Rattle.walks.specs.RowBelowLaws.{names_go, names_stop, names_end, child_text_from}
use Rattle.walks.specs.NamesWritten.{NamesWritten}
use Rattle.walks.specs.NamesWrittenLaws.{named_nothing, named_length}
use Rattle.walks.proofs.below.child_names.Invariants.{left, Going}
use Rattle.walks.proofs.below.child_names.Goals as goal

module _ {tree : List ℕ} {at : ℕ} {answer₀ : List ℕ} {n depth : ℕ} {answer : List ℕ} {place i : ℕ} (g : Going tree at answer₀ n depth answer place i) where
  -- a deeper row
  goes_on : (b : List ℕ) (p : ℕ) → i < n → depth ≤ (row_at tree i).depth → length b ≡ length answer → p ≤ place + 9
      → NamesWritten answer₀ (g.done ++ names_in depth (row_at tree i ∷ [])) b p → Going tree at answer₀ n depth b p (i + 1)
  goes_on b p h l e w v = record {
    le = omega arith;
    all = g.all;
    from = g.from;
    level = g.level;
    few = omega (arith, g.few);
    len = e ∙ g.len;
    done = g.done ++ names_in depth (row_at tree i ∷ []);
    named = v;
    goes =
        let k = (row_at tree at).depth in
        append_assoc g.done (names_in depth (row_at tree i ∷ [])) (left tree at (i + 1))
        ∙ ap (λ (j : ℕ). g.done ++ (names_in j (row_at tree i ∷ []) ++ left tree at (i + 1))) g.level
        ∙ ap (λ (ns : List Text). g.done ++ ns) (sym (names_go tree k i (suc k) (omega (arith, g.all)) (omega (arith, g.level))))
        ∙ g.goes;
  }

  -- when none is left, all are written
  written : left tree at i ≡ [] → joined comma g.done ≡ child_text_in (all_rows tree) at
  written e =
      let q : g.done ≡ left tree at (at + 1) = sym (append-nil g.done) ∙ ap (λ (ns : List Text). g.done ++ ns) (sym e) ∙ g.goes in
      ap (joined comma) q ∙ sym (child_text_from tree at g.from (row_at tree at).depth refl)

  answers : left tree at i ≡ [] → (r : ℕ) → r ≡ place - 1
      → (r ≡ length (child_text_in (all_rows tree) at)) × (answer ≡ child_text_in (all_rows tree) at ++ drop (length (child_text_in (all_rows tree) at)) answer₀)
  answers e r q =
      let w = written e in
      let s = named_length g.done in
      (q ∙ ap (λ (p : ℕ). p - 1) g.named.next ∙ sym s ∙ ap length w, g.named.holds ∙ ap (λ (t : Text). t ++ drop (length t) answer₀) w)

  -- a row that is not deeper
  stops : i < n → (row_at tree i).depth < depth → left tree at i ≡ []
  stops h l = let k = (row_at tree at).depth in names_stop tree k i (suc k) (omega (arith, g.all)) (omega (arith, g.level))

  -- the end of the rows
  ends : n ≤ i → left tree at i ≡ []
  ends h = let k = (row_at tree at).depth in names_end tree k i (suc k) (omega (arith, g.all))

pub loop-i-init : goal.loop-i-init
loop-i-init c = record {
  le = omega arith;
  all = c.count-n.ensures;
  from = omega arith;
  level = omega arith;
  few = omega arith;
  len = refl;
  done = [];
  named = named_nothing c.args.answer.now;
  goes = refl;
}

pub shape_of-answer-then-depth_at-depth : goal.shape_of-answer-then-depth_at-depth
shape_of-answer-then-depth_at-depth c = c.loop-i.invariant.len

pub returns-then-depth_at-depth : goal.returns-then-depth_at-depth
returns-then-depth_at-depth c =
    let g = c.loop-i.invariant in
    answers g (stops g (omega arith) (omega arith)) c.bytes_before.result c.bytes_before.ensures

pub add_child-place-requires : goal.add_child-place-requires
add_child-place-requires c = let g = c.loop-i.invariant in omega arith

pub loop-i-preserved : goal.loop-i-preserved
loop-i-preserved c =
    let w = c.add_child-place in
    let l = c.loop-i in
    let g = l.invariant in
    let a = c.args in
    goes_on g w.new.answer w.result (omega arith) (omega arith) w.auto.answer w.ensures.1
    (w.ensures.0 a.answer.now g.done g.named)

pub shape_of-answer : goal.shape_of-answer
shape_of-answer c = c.loop-i.invariant.len

pub returns : goal.returns
returns c =
    let g = c.loop-i.invariant in
    answers g (ends g (omega arith)) c.bytes_before-2.result c.bytes_before-2.ensures
