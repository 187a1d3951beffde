-- `gaps::group::new_group` meets its contract: the directory's mode says whether it has set-gid.
use mathlib.Core.Path.{sym, ◌∙◌, ap}
use Rattle.syntax.specs.Number.{set_gid}
use Rattle.tree.proofs.NodeLaws.{group_given, group_primary}
use Rattle.tree.specs.RowAt.{row_at}
use Rattle.gaps.proofs.group.new_group.Goals as goal

pub returns-then-has_set_gid : goal.returns-then-has_set_gid
returns-then-has_set_gid c =
    let a = c.args in
    let parent = (row_at a.tree.now a.row).here in
    c.group_at.ensures ∙ sym (group_given a.caller parent (ap set_gid (sym c.mode_at.ensures) ∙ sym c.has_set_gid.ensures ∙ c.if-has_set_gid.true))

pub returns : goal.returns
returns c =
    let a = c.args in
    let parent = (row_at a.tree.now a.row).here in
    sym (group_primary a.caller parent (ap set_gid (sym c.mode_at.ensures) ∙ sym c.has_set_gid.ensures ∙ c.if-has_set_gid.false))
