-- `nodes::moves::judge_onto` meets its contract: one law of the checks for each return.
use Rattle.std.proofs.Common.{◌≡◌, false, sym, ◌∙◌, ap}
use Rattle.tree.specs.Node.{is_directory}
use Rattle.tree.specs.RowAt.{row_at}
use Rattle.nodes.specs.MoveChecksLaws.{onto_directory, onto_by_directory, onto_shut, onto_done}
use Rattle.nodes.proofs.moves.judge_onto.Goals as goal
use Rattle.nodes.proofs.moves.judge_onto.Goals.{Else-is_directory, Else-is_directory-2}

-- a file stands there
onto_file : (c : Else-is_directory) → is_directory (row_at c.args.tree.now c.args.target).here.kind ≡ false
onto_file c = ap is_directory (sym c.kind_at.ensures) ∙ sym c.is_directory.ensures ∙ c.if-is_directory.false

-- and a file is moved
file : (c : Else-is_directory-2) → is_directory (row_at c.args.tree.now c.args.row).here.kind ≡ false
file c = ap is_directory (sym c.kind_at-2.ensures) ∙ sym c.is_directory-2.ensures ∙ c.if-is_directory-2.false

pub returns-then-is_directory : goal.returns-then-is_directory
returns-then-is_directory c =
    onto_directory _ _ _ _ _ _ (ap is_directory (sym c.kind_at.ensures) ∙ sym c.is_directory.ensures ∙ c.if-is_directory.true)

pub returns-then-is_directory-2 : goal.returns-then-is_directory-2
returns-then-is_directory-2 c =
    onto_by_directory _ _ _ _ _ _ (onto_file (goal.at.returns-then-is_directory-2 c).Else-is_directory)
    (ap is_directory (sym c.kind_at-2.ensures) ∙ sym c.is_directory-2.ensures ∙ c.if-is_directory-2.true)

pub returns-then-not-writable : goal.returns-then-not-writable
returns-then-not-writable c =
    let at = goal.at.returns-then-not-writable c in
    onto_shut _ _ _ _ _ _ (onto_file at.Else-is_directory) (file at.Else-is_directory-2) c.if-not-writable.true

pub returns-then-itself : goal.returns-then-itself
returns-then-itself c =
    let at = goal.at.returns-then-itself c in
    rw c.if-itself.true (onto_done _ _ _ _ _ _ (onto_file at.Else-is_directory) (file at.Else-is_directory-2) c.if-not-writable.false)

pub returns : goal.returns
returns c =
    let at = goal.at.returns c in
    rw c.if-itself.false (onto_done _ _ _ _ _ _ (onto_file at.Else-is_directory) (file at.Else-is_directory-2) c.if-not-writable.false)
