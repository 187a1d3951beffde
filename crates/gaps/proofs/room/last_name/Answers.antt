-- `gaps::room::last_name` meets its contract: the last name stands behind the last `/`.
use mathlib.Core.Path.{◌≡◌, ap, ◌∙◌}
use Prim.Native.Nat.{ℕ, suc, ◌+◌, ◌-◌}
use native.Mathlib.Omega.{arith}
use lib.ListN.{length, drop, length-drop}
use lib.Seq.{take_all}
use Rattle.syntax.specs.Parts.{last_slash}
use Rattle.syntax.proofs.ParentLaws.{last_slash_less}
use Rattle.gaps.specs.Gaps.{behind_slash}
use Rattle.gaps.proofs.room.last_name.Goals as goal

pub slice_bounds-result-count : goal.slice_bounds-result-count
slice_bounds-result-count c = omega (arith, last_slash_less c.args.path.now (omega arith))

pub slice_bounds-result-start : goal.slice_bounds-result-start
slice_bounds-result-start c = omega (arith, last_slash_less c.args.path.now (omega arith))

pub returns : goal.returns
unfolding behind_slash
returns c =
    let s = c.args.path.now in
    let k = c.last_slash-slash.result in
    let D = drop (k + 1) s in
    let q : k + 1 ≡ suc (last_slash s) = omega (arith, c.last_slash-slash.ensures) in
    take_all (length s - (k + 1)) D (omega (arith, length-drop (k + 1) s))
    ∙ ap (λ (i : ℕ). drop i s) q
