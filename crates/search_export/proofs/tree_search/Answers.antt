-- `search_export::tree_search` meets its contract: bytes without the row leave the lent numbers as they were, and of others the search
-- is told.
use mathlib.Core.Path.{◌≡◌, sym, ◌∙◌, ap}
use mathlib.Core.List.{List}
use mathlib.Core.Bool.{true, false, ◌&&◌}
use Prim.Native.Nat.{ℕ}
use native.Mathlib.Omega.{arith}
use lib.Dec.{eqb, leb, ltb}
use lib.ListN.{length}
use borrow.Author.Tests.{eqb-true, leb-true, ltb-true}
use Rattle.buffers.specs.Cases.{and_both}
use Rattle.syntax.specs.Path.{Name}
use Rattle.tree.specs.declared.Search.{Search}
use Rattle.tree.specs.Layout.{most_rows, tree_width}
use Rattle.tree.specs.RowAt.{row_count, all_rows}
use Rattle.tree.specs.TreeBytes.{Used}
use Rattle.tree.specs.Search.{search_in}
use Rattle.search_export.specs.SearchCall.{is_used, Told, search_told, search_call}
use Rattle.search_export.proofs.tree_search.Goals as goal

module _ (b : List ℕ) (at : ℕ) where
  used : is_used b at ≡ true → Used b at
  unfolding is_used
  used h =
      let w = and_both (eqb (length b) tree_width) (leb (row_count b) most_rows && ltb at (row_count b)) h in
      let r = and_both (leb (row_count b) most_rows) (ltb at (row_count b)) w.1 in
      let few = leb-true (row_count b) most_rows r.0 in
      let inside = ltb-true at (row_count b) r.1 in
      record { sized = record { wide = eqb-true (length b) tree_width w.0; some_rows = omega arith; few_rows = few }; used = inside }

  module _ (n : Name) (place steps : ℕ) where
    nothing_told : is_used b at ≡ false → search_call b at n place steps ≡ record { number = 2; place = place; steps = steps }
    unfolding search_call
    nothing_told h = rw h

    told : (s : Search) → is_used b at ≡ true → s ≡ search_in (all_rows b) at n → search_call b at n place steps ≡ search_told s
    unfolding search_call
    told s h e = rw (h, ← e)

pub returns-then-not-has_row-clause-value : goal.returns-then-not-has_row-clause-value
returns-then-not-has_row-clause-value c =
    let a = c.args in
    sym (ap (λ (x : Told). x.number) (nothing_told a.tree.now a.at a.name.now a.place.now a.steps.now (sym c.has_row.ensures ∙ c.if-not-has_row.true)))

pub returns-then-not-has_row-clause-place_after : goal.returns-then-not-has_row-clause-place_after
returns-then-not-has_row-clause-place_after c =
    let a = c.args in
    sym (ap (λ (x : Told). x.place) (nothing_told a.tree.now a.at a.name.now a.place.now a.steps.now (sym c.has_row.ensures ∙ c.if-not-has_row.true)))

pub returns-then-not-has_row-clause-steps_after : goal.returns-then-not-has_row-clause-steps_after
returns-then-not-has_row-clause-steps_after c =
    let a = c.args in
    sym (ap (λ (x : Told). x.steps) (nothing_told a.tree.now a.at a.name.now a.place.now a.steps.now (sym c.has_row.ensures ∙ c.if-not-has_row.true)))

pub search_child-found-requires : goal.search_child-found-requires
search_child-found-requires c = let a = c.args in used a.tree.now a.at (sym c.has_row.ensures ∙ c.if-not-has_row.false)

pub returns-clause-value : goal.returns-clause-value
unfolding search_told
returns-clause-value c =
    let a = c.args in
    let s = c.search_child-found in
    let t = told a.tree.now a.at a.name.now a.place.now a.steps.now s.result (sym c.has_row.ensures ∙ c.if-not-has_row.false) s.ensures in
    c.number_of.ensures ∙ sym (ap (λ (x : Told). x.number) t)

pub returns-clause-place_after : goal.returns-clause-place_after
unfolding search_told
returns-clause-place_after c =
    let a = c.args in
    let s = c.search_child-found in
    let t = told a.tree.now a.at a.name.now a.place.now a.steps.now s.result (sym c.has_row.ensures ∙ c.if-not-has_row.false) s.ensures in
    c.place_of.ensures ∙ sym (ap (λ (x : Told). x.place) t)

pub returns-clause-steps_after : goal.returns-clause-steps_after
unfolding search_told
returns-clause-steps_after c =
    let a = c.args in
    let s = c.search_child-found in
    let t = told a.tree.now a.at a.name.now a.place.now a.steps.now s.result (sym c.has_row.ensures ∙ c.if-not-has_row.false) s.ensures in
    sym (ap (λ (x : Told). x.steps) t)
