-- `sound_store::holds_store` meets its contract: the length, then the header, then the tree decide.
use mathlib.Core.Path.{◌≡◌, refl, sym, ◌∙◌, ap}
use mathlib.Core.List.{List}
use mathlib.Core.Bool.{◌&&◌, and_assoc}
use Prim.Native.Nat.{ℕ, ◌-◌}
use native.Mathlib.Omega.{arith}
use lib.Dec.{eqb}
use lib.ListN.{length, take, drop, length-drop}
use lib.Seq.{length-take-le, take_all}
use Rattle.std.proofs.Common.{eq-eqb, ne_eqb}
use Rattle.syntax.specs.Form.{is_some}
use Rattle.soundness.specs.BothLaws.{both, not_both}
use Rattle.tree.specs.Encoding.{decode_tree}
use Rattle.store.specs.HeaderLayout.{header_width}
use Rattle.store.specs.StoreBytes.{store_width, is_header, decode}
use Rattle.store.proofs.DecodeLaws.{decode_in_parts}
use Rattle.sound_store.proofs.holds_store.Goals as goal
use Rattle.sound_store.proofs.holds_store.Goals.{Joined-store-eq-STORE, then-store-eq-STORE, else-store-eq-STORE}

pub slice_bounds-holds_header-end : goal.slice_bounds-holds_header-end
slice_bounds-holds_header-end c = sym (length-take-le header_width c.args.store.now (omega arith))

pub holds_header-requires : goal.holds_header-requires
holds_header-requires c = length-take-le header_width c.args.store.now (omega arith)

-- the length and the header
front : (c : Joined-store-eq-STORE) → (let b = c.args.store.now in c.if-store-eq-STORE.value ≡ (eqb (length b) store_width && is_header (take header_width b)))
unfolding store_width
front c =
    let b = c.args.store.now in
    elim c.if-store-eq-STORE.branch [
      | then-store-eq-STORE w ↦ both refl (eq-eqb (length b) 65536 w.if-store-eq-STORE.true) (w.value-is ∙ w.holds_header.ensures)
      | else-store-eq-STORE w ↦ not_both _ refl (ne_eqb (length b) 65536 w.if-store-eq-STORE.false) w.value-is
    ]

whole : (b : List ℕ) → ((eqb (length b) store_width && is_header (take header_width b)) && is_some (decode_tree (drop header_width b))) ≡ is_some (decode b)
whole b = and_assoc (eqb (length b) store_width) (is_header (take header_width b)) (is_some (decode_tree (drop header_width b))) ∙ sym (decode_in_parts b)

pub returns-then-holds_header : goal.returns-then-holds_header
returns-then-holds_header c =
    let b = c.args.store.now in
    let rest : take (length b - header_width) (drop header_width b) ≡ drop header_width b = take_all (length b - header_width) (drop header_width b) (omega (arith, length-drop header_width b)) in
    both (front (goal.at.returns-then-holds_header c).Joined-store-eq-STORE) c.if-holds_header.true (c.holds_tree.ensures ∙ ap (λ (l : List ℕ). is_some (decode_tree l)) rest)
    ∙ whole b

pub returns-else-holds_header : goal.returns-else-holds_header
returns-else-holds_header c = not_both _ (front (goal.at.returns-else-holds_header c).Joined-store-eq-STORE) c.if-holds_header.false refl ∙ whole c.args.store.now
