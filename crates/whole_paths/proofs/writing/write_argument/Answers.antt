-- `whole_paths::writing::write_argument` meets its contract: each way writes what the definition says of such an argument.
use mathlib.Core.Path.{sym, ◌∙◌}
use Rattle.buffers.specs.OverLaws.{wrote_text}
use Rattle.whole_paths.specs.WrittenLaws.{short_written, text_written, none_written, wrote_none}
use Rattle.whole_paths.proofs.writing.write_argument.Goals as goal

pub write_joined-requires : goal.write_joined-requires
write_joined-requires c =
    rw (short_written c.args.directory.now c.args.kind c.args.s.now (sym c.is_short.ensures ∙ c.if-is_short.true)) at c.requires

pub returns-then-is_short : goal.returns-then-is_short
returns-then-is_short c =
    rw (short_written c.args.directory.now c.args.kind c.args.s.now (sym c.is_short.ensures ∙ c.if-is_short.true)) c.write_joined.ensures

pub write-requires : goal.write-requires
write-requires c =
    rw (text_written c.args.directory.now c.args.kind c.args.s.now (sym c.is_short.ensures ∙ c.if-is_short.false) (sym c.has_text.ensures ∙ c.if-has_text.true)) at c.requires

pub returns-then-has_text : goal.returns-then-has_text
returns-then-has_text c =
    rw (text_written c.args.directory.now c.args.kind c.args.s.now (sym c.is_short.ensures ∙ c.if-is_short.false) (sym c.has_text.ensures ∙ c.if-has_text.true), c.write.ensures)
    (wrote_text c.args.s.now c.args.text.now c.args.at)

pub returns : goal.returns
returns c =
    rw (none_written c.args.directory.now c.args.kind c.args.s.now (sym c.is_short.ensures ∙ c.if-is_short.false) (sym c.has_text.ensures ∙ c.if-has_text.false))
    (wrote_none c.args.text.now c.args.at)
