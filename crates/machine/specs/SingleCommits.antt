-- The command `commit` of files one after another, as a list of such commands runs: each on what the one before left.
use Rattle.std.specs.Prelude.{List, [], ◌∷◌, ℕ, suc}
use Rattle.accounts.specs.declared.Caller.{Caller}
use Rattle.syntax.specs.Path.{Path}
use Rattle.commands.specs.Command.{commit, entry}
use Rattle.setup.specs.Setup.{Setup}
use Rattle.shell.specs.Replies.{Reply, ok, refusal, reply, after}
use Rattle.store.specs.State.{Store}
use Rattle.machine.specs.Machine.{run}
use Rattle.machine.specs.StoreMachine.{store}
use Rattle.machine.specs.Runs.{Ran}

unfoldable pub single_commits : Setup → Caller → List Path → Store → Ran Store
single_commits u c [] s = record { replies = []; state = s }
single_commits u c (w ∷ ws) s =
    let o = run store u s c (entry (commit w)) in
    let rest = single_commits u c ws (after s o) in
    record { replies = reply o ∷ rest.replies; state = rest.state }

-- how many were done
unfoldable pub how_many_done : List Reply → ℕ
how_many_done [] = 0
how_many_done (ok text ∷ rest) = suc (how_many_done rest)
how_many_done (refusal why ∷ rest) = how_many_done rest
