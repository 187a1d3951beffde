-- `patterns::read_on` meets its contract: what is left fits in front of the window, and what is read behind it.
use mathlib.Core.Path.{◌≡◌, sym, ◌∙◌, ap, ap₂}
use mathlib.Core.List.{List, ◌++◌}
use Prim.Native.Nat.{ℕ, ◌-◌, ◌≤◌}
use native.Mathlib.Nat.{zero-add}
use Rattle.std.specs.Prelude.{Option, Some, None}
use native.Mathlib.Omega.{arith}
use lib.ListN.{length, take, drop, length-drop}
use lib.Seq.{paste, take-paste, length-take-le}
use borrow.Rule.Slice.PartMut.{mid_of, post_of, put_mid, same_len_mid}
use Rattle.syntax.specs.Parts.{part}
use Rattle.agenda.specs.declared.Place.{Place}
use Rattle.agenda.specs.Agenda.{PlaceHeld, ReadFits}
use Rattle.patterns.specs.Buffers.{Counted}
use Rattle.patterns.proofs.read_on.Goals as goal

-- what is read fits behind what is left
read_fits : (at : Place) (m : List ℕ) (n : ℕ) → PlaceHeld at n → length m ≡ n → (k : ℕ) → k ≡ length (mid_of (at.to - at.from) (length m - (at.to - at.from)) m)
    → (got : Option ℕ) → Counted k got → ReadFits at got
read_fits at m n h e b q (Some j) counted =
    let k = at.to - at.from in
    omega (arith, e, q, h.wide, h.within, counted, length-drop k m, length-take-le (length m - k) (drop k m) (omega (arith, length-drop k m)))
read_fits at m n h e b q None counted = tt

-- the bytes that were moved stay in front
in_front : (w m r : List ℕ) (from to : ℕ) → from ≤ to → to ≤ length w → m ≡ paste w 0 (drop from w) (to - from)
    → put_mid (to - from) (length m - (to - from)) m r ≡ part w from to ++ (r ++ post_of (to - from) (length m - (to - from)) m)
unfolding part
in_front w m r from to h l q =
    let k = to - from in
    ap (λ (x : List ℕ). x ++ (r ++ post_of k (length m - k) m))
    (ap₂ take (sym (zero-add k)) q ∙ take-paste w 0 (drop from w) k (omega arith) (omega (arith, length-drop from w)))

pub returns : goal.returns
returns c =
    let a = c.args.at in
    let w = c.args.window.now in
    let m = c.move_bytes in
    let r = c.read-got in
    let k = a.to - a.from in
    let f = read_fits a m.new.b (length w) c.requires m.auto.b (length r.new.buffer) r.auto.buffer r.result r.ensures in
    record {
      got = r.result;
      behind = r.new.buffer ++ post_of k (length m.new.b - k) m.new.b;
      leads = c.read_step.ensures;
      fits = f;
      holds = in_front w m.new.b r.new.buffer a.from a.to c.requires.ordered c.requires.within m.ensures;
      long = same_len_mid k (length m.new.b - k) m.new.b r.new.buffer r.auto.buffer ∙ m.auto.b;
    }
