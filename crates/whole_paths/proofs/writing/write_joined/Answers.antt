-- `whole_paths::writing::write_joined` meets its contract: the directory, the `/` and the short path are written one behind the other.
use mathlib.Core.Path.{◌∙◌}
use native.Mathlib.Omega.{arith}
use lib.ListN.{length-set}
use Rattle.std.proofs.Common.{length-take-le}
use Rattle.buffers.specs.PasteLaws.{paste_taken}
use Rattle.whole_paths.specs.WrittenLaws.{front_fits, joined_length, wrote_joined}
use Rattle.whole_paths.proofs.writing.write_joined.Goals as goal

pub slice_bounds-write-end : goal.slice_bounds-write-end
slice_bounds-write-end c =
    let d = c.args.directory.now in
    omega (arith, length-take-le c.front_length-n.result d (omega (arith, front_fits d)))

pub write-requires : goal.write-requires
write-requires c =
    let d = c.args.directory.now in
    let n = c.front_length-n.result in
    omega (arith, joined_length d c.args.s.now, length-take-le n d (omega (arith, front_fits d)))

pub overflow_add-text : goal.overflow_add-text
overflow_add-text c = omega (arith, joined_length c.args.directory.now c.args.s.now)

pub bounds-text-at : goal.bounds-text-at
bounds-text-at c = omega (arith, joined_length c.args.directory.now c.args.s.now)

pub overflow_add-at : goal.overflow_add-at
overflow_add-at c = omega (arith, joined_length c.args.directory.now c.args.s.now)

pub overflow_add-at-2 : goal.overflow_add-at-2
overflow_add-at-2 c = omega (arith, joined_length c.args.directory.now c.args.s.now)

pub write-requires-2 : goal.write-requires-2
write-requires-2 c = simp length-set (omega (arith, joined_length c.args.directory.now c.args.s.now))

pub overflow_add-result : goal.overflow_add-result
overflow_add-result c = omega (arith, joined_length c.args.directory.now c.args.s.now)

pub overflow_add-result-2 : goal.overflow_add-result-2
overflow_add-result-2 c = omega (arith, joined_length c.args.directory.now c.args.s.now)

pub overflow_add-result-3 : goal.overflow_add-result-3
overflow_add-result-3 c = omega (arith, joined_length c.args.directory.now c.args.s.now)

pub shape_of-text : goal.shape_of-text
shape_of-text c = c.write-2.auto.b ∙ simp length-set c.write.auto.b

pub returns : goal.returns
returns c =
    let a = c.args in
    let d = a.directory.now in
    let n = c.front_length-n.result in
    let front = c.write.ensures ∙ paste_taken a.text.now d a.at n (omega (arith, front_fits d)) in
    wrote_joined d a.s.now a.text.now a.at n c.front_length-n.ensures c.requires front c.write-2.ensures
