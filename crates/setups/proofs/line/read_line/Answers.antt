-- `setups::line::read_line` meets its contract: `end`, a line of each kind, or one of no form.
use Rattle.std.specs.Prelude.{Some}
use mathlib.Core.Path.{refl, sym, ap, ◌∙◌}
use Rattle.syntax.specs.Pieces.{bytes}
use Rattle.syntax.specs.Parts.{part, span_text}
use Rattle.setup.proofs.SetupLaws.{p_range, g_range, l_range}
use Rattle.store.specs.SetupHeader.{reading_in}
use Rattle.setups.specs.LineRead.{after_line}
use Rattle.setups.specs.LineReadLaws.{told_person, told_group, told_pair, told_grant, told_wrong, password_short, is_the_end, is_a_line, is_no_line}
use Rattle.setups.proofs.line.read_line.Goals as goal

pub returns-then-same : goal.returns-then-same
unfolding bytes after_line
returns-then-same c =
    let a = c.args in
    let t = a.line.now in
    sym (ap (after_line a.header.now) (is_the_end t (reading_in a.kind a.header.now) (sym c.same.ensures ∙ c.if-same.true)))

pub name_person-requires : goal.name_person-requires
name_person-requires c =
    let t = c.args.line.now in
    let r = p_range t _ _ (told_person t _ _ refl c.line_at.ensures (c.in_ok-read.was ∙ ap Some c.in-Person.is)) in
    record {
      begun = c.requires.begun;
      uid_bound = r.0;
      gid_nonzero = r.1.0;
      gid_bound = r.1.1;
    }

pub join_group-requires : goal.join_group-requires
join_group-requires c =
    let t = c.args.line.now in
    let r = g_range t _ _ (told_group t _ _ refl c.line_at.ensures (c.in_ok-read.was ∙ ap Some c.in-Group.is)) in
    record {
      begun = c.requires.begun;
      uid_bound = r.0;
      gid_nonzero = r.1.0;
      gid_bound = r.1.1;
    }

pub of-requires : goal.of-requires
of-requires c = (told_grant c.args.line.now _ _ refl c.line_at.ensures (c.in_ok-read.was ∙ ap Some c.in-Grant.is)).1

pub add_grant-requires : goal.add_grant-requires
unfolding span_text part
add_grant-requires c =
    let t = c.args.line.now in
    let i = told_grant t _ _ refl c.line_at.ensures (c.in_ok-read.was ∙ ap Some c.in-Grant.is) in
    record {
      begun = c.requires.begun;
      kind_bound = c.requires.kind_bound;
      uid_bound = l_range t _ _ _ i.0;
      password_len_bound = rw c.of.ensures (password_short t _ _ _ i.0);
    }

pub returns-in-Person : goal.returns-in-Person
unfolding bytes
returns-in-Person c =
    let a = c.args in
    let t = a.line.now in
    let other = sym c.same.ensures ∙ c.if-same.false in
    c.name_person.ensures
    ∙ ap (after_line a.header.now) (sym (is_a_line t (reading_in a.kind a.header.now) other (told_person t _ _ refl c.line_at.ensures (c.in_ok-read.was ∙ ap Some c.in-Person.is))))

pub returns-in-Group : goal.returns-in-Group
unfolding bytes
returns-in-Group c =
    let a = c.args in
    let t = a.line.now in
    let other = sym c.same.ensures ∙ c.if-same.false in
    c.join_group.ensures
    ∙ ap (after_line a.header.now) (sym (is_a_line t (reading_in a.kind a.header.now) other (told_group t _ _ refl c.line_at.ensures (c.in_ok-read.was ∙ ap Some c.in-Group.is))))

pub returns-in-Pair : goal.returns-in-Pair
unfolding bytes
returns-in-Pair c =
    let a = c.args in
    let t = a.line.now in
    let other = sym c.same.ensures ∙ c.if-same.false in
    c.add_pair.ensures
    ∙ ap (after_line a.header.now) (sym (is_a_line t (reading_in a.kind a.header.now) other (told_pair t _ _ refl c.line_at.ensures (c.in_ok-read.was ∙ ap Some c.in-Pair.is))))

pub returns-in-Grant : goal.returns-in-Grant
unfolding bytes span_text part
returns-in-Grant c =
    let a = c.args in
    let t = a.line.now in
    let other = sym c.same.ensures ∙ c.if-same.false in
    rw c.of.ensures at c.add_grant.ensures
    ∙ ap (after_line a.header.now) (sym (is_a_line t (reading_in a.kind a.header.now) other (told_grant t _ _ refl c.line_at.ensures (c.in_ok-read.was ∙ ap Some c.in-Grant.is)).0))

pub returns-in_err-read : goal.returns-in_err-read
unfolding bytes after_line
returns-in_err-read c =
    let a = c.args in
    let t = a.line.now in
    let other = sym c.same.ensures ∙ c.if-same.false in
    rw c.from_residual.ensures (sym (ap (after_line a.header.now) (is_no_line t (reading_in a.kind a.header.now) other (told_wrong t _ _ refl c.line_at.ensures c.in_err-read.was))))
