-- `tree::children::search_child` meets its contract: at each row what is left of the search, with the steps so far, gives the whole; at
-- a child's row, where the first bytes are alike, what is behind them decides.
use Prim.Native.Nat.{ℕ, suc, ◌≤◌, ◌<◌, ◌+◌}
use native.Mathlib.Omega.{arith}
use native.Mathlib.Numerals.{add-one}
use mathlib.Core.Path.{◌≡◌, refl, sym, ◌∙◌, ap}
use mathlib.Core.List.{List}
use lib.ListN.{length, get_or}
use Rattle.buffers.specs.Text.{Text}
use Rattle.std.specs.Prelude.{Err}
use Rattle.tree.specs.declared.Search.{Search}
use Rattle.tree.specs.Layout.{most_rows, name_width}
use Rattle.tree.specs.RowScan.{Child, Order, Before, Same, After, order_in, child_by, child_in}
use Rattle.tree.proofs.RowScanLaws.{order_below, order_above, order_beside}
use Rattle.tree.specs.Search.{steps_at, steps_by, steps_in, search_in}
use Rattle.tree.proofs.ComparedLaws.{Decided, compared_none, one_more, first_ends, stands_before, stands_after, both_end, second_ends}
use Rattle.tree.specs.RowAt.{row_count, row_at, all_rows}
use Rattle.tree.specs.TreeBytes.{HasRow}
use Rattle.tree.proofs.RowAtLaws.{row_name_fits}
use Rattle.tree.proofs.SearchLaws.{name_nonzero, steps_aside, steps_beside, child_left, child_left_row, child_left_end, child_left_all, steps_left, steps_left_row, steps_left_end, steps_left_all}
use Rattle.tree.proofs.children.search_child.Invariants.{Going, Inner}
use Rattle.tree.proofs.children.search_child.Goals as goal

-- the search answers a child and its steps
abbrev Answers : List ℕ → ℕ → Text → Child → ℕ → Type 0
Answers tree at name child steps = ◌≡◌ {A = Search} (record { child = child; steps = steps }) (search_in (all_rows tree) at name)

whole : {child : Child} {steps : ℕ} (tree : List ℕ) (at : ℕ) (name : Text)
    → child ≡ child_in (all_rows tree) at name → steps ≡ steps_in (all_rows tree) at name → Answers tree at name child steps
unfolding search_in
whole tree at name c s = λ j. record { child = c j; steps = s j }

module _ {tree : List ℕ} {at : ℕ} {name : Text} {n depth steps i : ℕ} (g : Going tree at name n depth steps i) where
  -- at a row the search goes by how that stands and what steps it takes
  module _ (h : i < n) {o : Order} {s : ℕ} (e : order_in depth name (row_at tree i) ≡ o) (q : steps_at depth name (row_at tree i) ≡ s) where
    child-turns : child_by o i (child_left tree depth name (suc i)) ≡ child_in (all_rows tree) at name
    child-turns =
        ap (λ (x : Order). child_by x i (child_left tree depth name (suc i))) (sym e)
        ∙ sym (child_left_row tree depth name i (omega (arith, g.all)))
        ∙ g.goes

    steps-turn : steps + steps_by o s (steps_left tree depth name (suc i)) ≡ steps_in (all_rows tree) at name
    steps-turn =
        ap (λ (x : Order). steps + steps_by x s (steps_left tree depth name (suc i))) (sym e)
        ∙ ap (λ (x : ℕ). steps + steps_by (order_in depth name (row_at tree i)) x (steps_left tree depth name (suc i))) (sym q)
        ∙ ap (λ (x : ℕ). steps + x) (sym (steps_left_row tree depth name i (omega (arith, g.all))))
        ∙ g.sums

  module _ (h : i < n) {s sum : ℕ} (q : steps_at depth name (row_at tree i) ≡ s) (f : sum ≡ steps + s) where
    -- past a row that stands before the child
    past : order_in depth name (row_at tree i) ≡ Before → s ≤ suc name_width → Going tree at name n depth sum (i + 1)
    unfolding child_by steps_by
    past e l =
        record {
          le = omega arith;
          all = g.all;
          few = g.few;
          small = omega (arith, g.small, f);
          goes = rw add-one (child-turns h e q);
          sums = rw add-one (omega (arith, steps-turn h e q, f));
        }

    -- at its own it ends, and at one that stands behind it
    halts : (o : Order) → order_in depth name (row_at tree i) ≡ o → steps_by o s (steps_left tree depth name (suc i)) ≡ s
        → Answers tree at name (child_by o i (child_left tree depth name (suc i))) sum
    halts o e z = whole tree at name (child-turns h e q) (omega (arith, f, z, steps-turn h e q))

  -- behind the last row
  over : n ≤ i → Answers tree at name (Err n) steps
  over h =
      let e : n ≡ i = omega (arith, g.le) in
      whole tree at name
      (ap Err e ∙ sym (child_left_end tree depth name i (omega (arith, g.all))) ∙ g.goes)
      (omega (arith, g.sums, steps_left_end tree depth name i (omega (arith, g.all))))

-- behind the row of the place all of the search is left
starts : (tree : List ℕ) (at : ℕ) (name : Text) {n depth : ℕ} → at < row_count tree → depth ≡ suc (row_at tree at).depth
    → n ≡ row_count tree → n ≤ most_rows → Going tree at name n depth 0 (at + 1)
starts tree at name {n} {depth} h e all few =
    record {
      le = omega arith;
      all = all;
      few = few;
      small = omega arith;
      goes = rw add-one (child_left_all tree at depth name h e);
      sums = rw add-one (omega (arith, steps_left_all tree at depth name h e));
    }

begins : {tree : List ℕ} {at : ℕ} {name : Text} {n depth steps i : ℕ} → Going tree at name n depth steps i → i < n → HasRow tree i → (row_at tree i).depth ≡ depth
    → Inner tree at name n depth i steps i 0
begins {tree} {name = name} {i = i} g h r e =
    record { same = refl; lt = h; row = r; level = e; compared = compared_none (row_at tree i).name name; outer = g }

module _ {tree : List ℕ} {at : ℕ} {name : Text} {n depth i₀ steps i k : ℕ} (v : Inner tree at name n depth i₀ steps i k) where
  nonzero : k < length (row_at tree i).name → get_or (row_at tree i).name k 0 ≡ 0 → ⊥
  nonzero h = name_nonzero tree i k h

  short : k ≤ name_width
  short = omega (arith, v.compared.in_first, row_name_fits tree i)

  -- one byte more is alike
  more : {a b : ℕ} → a ≡ get_or (row_at tree i).name k 0 → b ≡ get_or name k 0 → k < length name → a ≡ b → (a ≡ 0 → ⊥)
      → Inner tree at name n depth i₀ steps i (k + 1)
  more p q l e z =
      record {
        same = v.same;
        lt = v.lt;
        row = v.row;
        level = v.level;
        compared = one_more v.compared nonzero l (omega arith) (λ y. z (omega arith));
        outer = v.outer;
      }

  -- where the next byte decides, the row stands as the names do, and takes a step for it
  module _ {o : Order} (d : Decided (row_at tree i).name name k o) where
    child-steps : steps_at depth name (row_at tree i) ≡ k + 1
    child-steps = steps_beside depth name (row_at tree i) v.level ∙ omega (arith, d.count)

    child-order : order_in depth name (row_at tree i) ≡ o
    child-order = order_beside depth name (row_at tree i) v.level ∙ d.order

  passed : Decided (row_at tree i).name name k Before → Going tree at name n depth (steps + (k + 1)) (i + 1)
  passed d = past v.outer v.lt (child-steps d) refl (child-order d) (omega (arith, short))

  halted : {sum : ℕ} (o : Order) → sum ≡ steps + (k + 1) → Decided (row_at tree i).name name k o
      → steps_by o (k + 1) (steps_left tree depth name (suc i)) ≡ k + 1 → Answers tree at name (child_by o i (child_left tree depth name (suc i))) sum
  halted o f d z = halts v.outer v.lt (child-steps d) f o (child-order d) z

pub children-init : goal.children-init
children-init c =
    let a = c.args in
    starts a.tree.now a.at a.name.now (omega arith) (omega arith) c.count-n.ensures (omega arith)

pub returns-then-d-depth : goal.returns-then-d-depth
unfolding child_by steps_by
returns-then-d-depth c =
    let a = c.args in
    let r = row_at a.tree.now c.children.i in
    halts c.children.invariant (omega arith) (steps_aside _ a.name.now r (λ e. omega arith)) (omega arith) After (order_above _ a.name.now r (omega arith)) refl

pub children-preserved-then-depth-d : goal.children-preserved-then-depth-d
children-preserved-then-depth-d c =
    let a = c.args in
    let r = row_at a.tree.now c.children.i in
    past c.children.invariant (omega arith) (steps_aside _ a.name.now r (λ e. omega arith)) (omega arith) (order_below _ a.name.now r (omega arith)) (omega arith)

pub bytes-init : goal.bytes-init
bytes-init c = begins c.children.invariant (omega arith) (record { room = omega arith }) (omega arith)

pub returns-then-b-a : goal.returns-then-b-a
unfolding child_by steps_by
returns-then-b-a c = let v = c.bytes.invariant in halted v After refl (stands_after v.compared (nonzero v) (omega arith) (omega arith)) refl

pub children-preserved-then-a-b : goal.children-preserved-then-a-b
children-preserved-then-a-b c = let v = c.bytes.invariant in passed v (stands_before v.compared (nonzero v) (omega arith) (omega arith))

pub children-preserved : goal.children-preserved
children-preserved c = let v = c.bytes.invariant in passed v (first_ends v.compared (nonzero v) (omega arith) (omega arith))

pub bytes-preserved : goal.bytes-preserved
bytes-preserved c = more c.bytes.invariant c.name_byte-a.ensures refl (omega arith) (omega arith) c.if-a-eq0.false

pub returns-then-name_byte-eq0 : goal.returns-then-name_byte-eq0
unfolding child_by steps_by
returns-then-name_byte-eq0 c = let v = c.bytes.invariant in halted v Same (omega arith) (both_end v.compared (nonzero v) (omega arith) (omega arith)) refl

pub returns-in-children : goal.returns-in-children
unfolding child_by steps_by
returns-in-children c = let v = c.bytes.invariant in halted v After (omega arith) (second_ends v.compared (nonzero v) (omega arith) (λ z. omega arith)) refl

pub returns : goal.returns
returns c = over c.children.invariant (omega arith)
