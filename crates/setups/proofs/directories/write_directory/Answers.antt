-- `setups::directories::write_directory` meets its contract: the text `/`, or the home's.
use mathlib.Core.Path.{◌∙◌, ap}
use mathlib.Core.List.{List}
use Prim.Native.Nat.{ℕ}
use native.Mathlib.Omega.{arith}
use lib.Seq.{paste}
use Rattle.accounts.specs.declared.Uid.{Uid}
use Rattle.store.specs.HeaderLayout.{directory_width, directory_start}
use Rattle.setups.specs.DirectoriesLaws.{begins_at_top, begins_at_home}
use Rattle.setups.proofs.directories.write_directory.Goals as goal

pub returns-then-group-eq0 : goal.returns-then-group-eq0
returns-then-group-eq0 c =
    let a = c.args in
    c.write_padded.ensures
    ∙ ap (λ (x : List ℕ). paste a.header.now (directory_start a.k) x directory_width) (begins_at_top (record { 0 = a.k }) a.person (omega arith))

pub returns : goal.returns
returns c =
    let a = c.args in
    let v : Uid = record { 0 = a.k } in
    c.write_padded-2.ensures
    ∙ ap (λ (x : List ℕ). paste a.header.now (directory_start a.k) x directory_width) (begins_at_home v a.person _ (λ z. omega arith) c.home_path.ensures.path)
