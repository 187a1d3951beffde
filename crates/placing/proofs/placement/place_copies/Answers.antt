-- `placing::placement::place_copies` meets its contract: copies that are ready make the tree of the steps, and a refusal is theirs.
use Rattle.std.proofs.Common.{refl}
use Rattle.shell.proofs.CommandBytesLaws.{passed_follows}
use Rattle.placing.proofs.PlacingLaws.{ready_of, refused_of, ready_follows}
use Rattle.placing.proofs.placement.place_copies.Goals as goal

pub returns-in_err-n : goal.returns-in_err-n
returns-in_err-n c =
    let f = c.in_err-n.ensures in
    let b = c.args.tree.now in record {
      checked_out = (λ j. passed_follows b c.from_residual.ensures.1 (refused_of b c.copies_for.new.out c.args.site.at (f.prepared j) refl));
      copies_laid = f.copies_laid;
    }

pub put_copies-requires : goal.put_copies-requires
put_copies-requires c =
    let r = ready_of c.args.tree.now c.copies_for.new.out c.args.site.at (c.in_ok-n.ensures.prepared c.requires.checkout) refl in
    record {
      insertable = r.insertable;
      n_in_bounds = r.room;
    }

pub returns : goal.returns
returns c =
    let f = c.in_ok-n.ensures in
    let p = c.put_copies in record {
      checked_out = (λ j. ready_follows p.new.tree (ready_of c.args.tree.now c.copies_for.new.out c.args.site.at (f.prepared j) refl) p.ensures);
      copies_laid = f.copies_laid;
    }
