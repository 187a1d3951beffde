-- `nodes::removing::may_remove_row` meets its contract: one law of the checks for each return.
use Rattle.std.proofs.Common.{sym, ◌∙◌}
use Rattle.tree.proofs.TreeBytesLaws.{used_row}
use Rattle.nodes.specs.NodeChecksLaws.{removal_kind, removal_shut, removal_full, removal_done, refusal_told, passing_told}
use Rattle.nodes.proofs.removing.may_remove_row.Goals as goal

pub is_of_kind-requires : goal.is_of_kind-requires
is_of_kind-requires c = used_row c.requires.used

pub returns-then-not-is_of_kind : goal.returns-then-not-is_of_kind
returns-then-not-is_of_kind c = refusal_told (removal_kind _ _ _ _ _ _ (sym c.is_of_kind.ensures ∙ c.if-not-is_of_kind.true))

pub returns-then-not-may_at : goal.returns-then-not-may_at
returns-then-not-may_at c =
    let same = sym c.is_of_kind.ensures ∙ c.if-not-is_of_kind.false in
    refusal_told (removal_shut _ _ _ _ _ _ same (sym c.may_at.ensures ∙ c.if-not-may_at.true))

pub returns-then-has_children : goal.returns-then-has_children
returns-then-has_children c =
    let same = sym c.is_of_kind.ensures ∙ c.if-not-is_of_kind.false in
    let may = sym c.may_at.ensures ∙ c.if-not-may_at.false in
    refusal_told (removal_full _ _ _ _ _ _ same may (sym c.has_children.ensures ∙ c.if-has_children.true))

pub returns : goal.returns
returns c =
    let same = sym c.is_of_kind.ensures ∙ c.if-not-is_of_kind.false in
    let may = sym c.may_at.ensures ∙ c.if-not-may_at.false in
    passing_told (removal_done _ _ _ _ _ _ same may (sym c.has_children.ensures ∙ c.if-has_children.false))
