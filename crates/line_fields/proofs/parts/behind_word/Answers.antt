-- `line_fields::parts::behind_word` meets its contract: each test decides the definition.
use Rattle.line_fields.proofs.parts.behind_word.Goals as goal

pub returns-then-word : goal.returns-then-word
returns-then-word c = rw c.if-word.true

pub returns-then-first : goal.returns-then-first
returns-then-first c = rw (c.if-word.false, c.if-first.true)

pub returns-then-second : goal.returns-then-second
returns-then-second c = rw (c.if-word.false, c.if-first.false, c.if-second.true)

pub returns-then-third : goal.returns-then-third
returns-then-third c = rw (c.if-word.false, c.if-first.false, c.if-second.false, c.if-third.true)

pub returns : goal.returns
returns c = rw (c.if-word.false, c.if-first.false, c.if-second.false, c.if-third.false)
