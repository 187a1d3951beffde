-- `listing::path::write_names` meets its contract: a turn writes one name more.
use mathlib.Core.Path.{◌≡◌, refl, ◌∙◌}
use mathlib.Core.List.{List, ◌∷◌}
use native.Mathlib.Omega.{arith}
use Prim.Native.Nat.{ℕ, ◌≤◌, ◌<◌, ◌+◌, ◌*◌}
use lib.ListN.{length}
use Rattle.buffers.specs.OverLaws.{wrote_nothing, wrote_both}
use Rattle.listing.specs.RowListing.{names_told, WroteMost}
use Rattle.listing.proofs.RowListingLaws.{names_none, names_more}
use Rattle.listing.proofs.path.write_names.Invariants.{Going}
use Rattle.listing.proofs.path.write_names.Goals as goal

begins : (tree last : List ℕ) (depth : ℕ) (answer : List ℕ) → Going tree last depth answer answer 0 0
begins tree last depth answer =
    record { le = omega arith; len = refl; far = omega arith; done = rw (names_none (names_told tree last)) (wrote_nothing answer) }

-- one name more
one_more : {tree last : List ℕ} {depth : ℕ} {a b : List ℕ} {end k : ℕ} → Going tree last depth a b end k → (c : List ℕ) (r : ℕ) → k < depth → 9 * depth ≤ length a
    → length c ≡ length b → WroteMost 9 (47 ∷ names_told tree last (k + 1)) b end c r → Going tree last depth a c r (k + 1)
one_more {tree} {last} {k = k} g c r h room e w = record {
  le = omega arith;
  len = e ∙ g.len;
  far = omega (arith, g.far, w.short);
  done = rw (names_more (names_told tree last) k) (wrote_both g.done w.wrote (omega (arith, g.far, w.short)));
}

pub loop-k-init : goal.loop-k-init
loop-k-init c =
    let a = c.args in
    begins a.tree.now a.last a.depth a.answer.now

pub write_name-end-requires : goal.write_name-end-requires
write_name-end-requires c =
    let g = c.loop-k.invariant in
    record {
      has_row = c.requires.told_rows.there (c.loop-k.k + 1) (omega arith);
      at_in_bounds = omega (arith, g.far, g.len);
    }

pub loop-k-preserved : goal.loop-k-preserved
loop-k-preserved c =
    let w = c.write_name-end in
    let l = c.loop-k in
    one_more l.invariant w.new.answer w.result (omega arith) (omega arith) w.auto.answer w.ensures

pub shape_of-answer : goal.shape_of-answer
shape_of-answer c = c.loop-k.invariant.len

pub returns : goal.returns
returns c =
    let l = c.loop-k in
    let g = l.invariant in
    let z : l.k ≡ c.args.depth = omega arith in
    record { wrote = rw z at g.done; short = omega (arith, g.far) }
