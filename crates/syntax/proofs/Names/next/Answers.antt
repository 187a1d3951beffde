-- `syntax::Names::next` meets its contract: the end is where `piece_end` says.
use Rattle.std.proofs.Common.{length, le-leb}
use Rattle.std.proofs.lemmas.Bool.{lt-leb}
use Rattle.syntax.specs.Parts.{part, next_name, behind_name}
use Rattle.syntax.proofs.Names.next.Goals as goal

pub returns-then-self-clause-name : goal.returns-then-self-clause-name
unfolding next_name
returns-then-self-clause-name c = let n = c.args.self.now in rw (le-leb (length n.path.now) n.at c.if-self.true)

pub returns-then-self-clause-rest : goal.returns-then-self-clause-rest
unfolding behind_name
returns-then-self-clause-rest c = let n = c.args.self.now in rw (le-leb (length n.path.now) n.at c.if-self.true)

pub returns-clause-name : goal.returns-clause-name
unfolding next_name part
returns-clause-name c = let n = c.args.self.now in rw (lt-leb (length n.path.now) n.at c.if-self.false, c.piece_end-end.ensures.0)

pub returns-clause-rest : goal.returns-clause-rest
unfolding behind_name
returns-clause-rest c = let n = c.args.self.now in rw (lt-leb (length n.path.now) n.at c.if-self.false, c.piece_end-end.ensures.0)
