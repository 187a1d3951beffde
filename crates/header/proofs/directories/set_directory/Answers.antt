-- `header::directories::set_directory` meets its contract: the field of the account has the path's text, and it alone is written.
use mathlib.Core.Path.{◌∙◌, ap}
use Prim.Native.Nat.{ℕ}
use native.Mathlib.Omega.{arith}
use lib.Seq.{paste}
use Rattle.buffers.specs.Fields.{padded}
use Rattle.store.specs.HeaderLayout.{directory_width}
use Rattle.header.specs.HeaderBytesLaws.{headed_wide, told_fits, directory_stored}
use Rattle.header.proofs.directories.set_directory.Goals as goal

pub write_padded-requires : goal.write_padded-requires
write_padded-requires c =
    let w = headed_wide c.requires.headed in
    record {
      width_in_bounds = omega arith;
      s_len_bound = told_fits c.requires.tells_path;
    }

pub returns : goal.returns
returns c u z h p e =
    let b = c.args.header.now in
    let t = c.args.path.now in
    c.write_padded.ensures
    ∙ ap (λ (n : ℕ). paste b n (padded directory_width t) directory_width) c.start_of-at.ensures
    ∙ directory_stored h c.args.uid c.requires.uid_bound p t e (told_fits c.requires.tells_path)
