-- The theorems about the two machines and lists of calls on them, each with the words that it stands for. Their proofs are in the
-- files beside it.
--
-- Demand 3 comes first, then soundness, then what follows for people, roles and entries. Those about calls on bytes stand in
-- `CallTheorems` of the crate calls.
use Rattle.std.specs.Prelude.{◌≡◌, refl, List, [], true, false, ◌⊎◌, ℕ, ◌<◌, eqb, ltb}
use Rattle.std.proofs.Math.Option.{none, some}
use Rattle.buffers.specs.Text.{Text, every}
use Rattle.accounts.specs.declared.Caller.{Caller}
use Rattle.accounts.specs.declared.Uid.{Uid}
use Rattle.accounts.specs.Access.{is_root}
use Rattle.accounts.specs.Dominance.{BoundedRole}
use Rattle.syntax.specs.Number.{decimal_text}
use Rattle.syntax.specs.Path.{Path, root, ◌▹◌, EntryPath, rep, same_path, within, lies_below}
use Rattle.commands.specs.Command.{ShellAction, mv, cd, commit, Command, shell, account, entry, some_path, some_walked_path, Line, line}
use Rattle.setup.specs.Setup.{Setup, accepted, setup, is_setup}
use Rattle.setup.proofs.SetupLaws.{accepted_is_setup}
use Rattle.tree.specs.declared.Kind.{Kind}
use Rattle.tree.specs.declared.Cause.{Cause}
use Rattle.tree.specs.declared.Cause.TheVariants.{Access, Unsound, ShortAnswer}
use Rattle.tree.specs.Result.{refused, done, Outcome}
use Rattle.tree.specs.Outcomes.{Ensures}
use Rattle.tree.specs.Forest.{Place, place_at}
use Rattle.tree.specs.Node.{is_directory, Node}
use Rattle.tree.specs.Walk.{by_modes, walk}
use Rattle.tree.specs.Files.{files_below}
use Rattle.tree.specs.WellFormed.{is_tree}
use Rattle.shell.specs.Privacy.{Private, Unaltered, walks_first}
use Rattle.shell.specs.Replaced.{Replaced}
use Rattle.shell.specs.Replies.{after}
use Rattle.store.specs.State.{Store, State, state_of, well_formed}
use Rattle.store.specs.Initial.{initial_store}
use Rattle.store.proofs.InitialLaws
use Rattle.store.specs.StoreBytes.{encode, decode}
use Rattle.store.specs.SoundStore.{Sound}
use Rattle.store.proofs.SoundStoreLaws
use Rattle.store.specs.Callers.{caller}
use Rattle.machine.specs.Machine.{Machine, session, run}
use Rattle.machine.specs.StoreMachine.{store}
use Rattle.machine.specs.AbstractMachine.{Abstract, Filed, dominated, abstract_step, abstract_runs, initial_abstract}
use Rattle.machine.specs.AbstractInstance.{abstract}
use Rattle.machine.proofs.AbstractInstanceLaws
use Rattle.machine.specs.Embedding.{met, embed}
use Rattle.machine.specs.Runs.{Call, step, runs, root's}
use Rattle.machine.proofs.RunsLaws
use Rattle.machine.proofs.MachineAnswerLaws
use Rattle.machine.specs.Observed.{Compared, without_root, Reached, ReachedWithoutRoot}
use Rattle.machine.proofs.MachineKeepingLaws
use Rattle.machine.specs.Simulation.{Kept}
use Rattle.machine.proofs.ComparedLaws
use Rattle.machine.specs.EntryAccess.{names_entry, MayRead, ReadsAll, MorePairs}
use Rattle.machine.proofs.KeptOutLaws
use Rattle.machine.specs.WorkingDirectory.{MovedByCd}
use Rattle.machine.proofs.WorkingDirectoryLaws
use Rattle.machine.proofs.ReplacedFileLaws
use Rattle.machine.specs.EntryChanges.{node_of, FiledAs, Rightful, Change, Making}
use Rattle.machine.proofs.EntryRevisionLaws
use Rattle.machine.proofs.EntryMakingLaws
use Rattle.machine.specs.SingleCommits.{single_commits, how_many_done}
use Rattle.machine.proofs.SingleCommitsLaws
use Rattle.machine.proofs.ReadingLaws
use Rattle.machine.proofs.MachinePrivacyLaws

-- Demand 3. For every setup text that is taken and every list of calls, of any bytes and with any answer buffers, none of them
-- root's, the store and the abstract machine give the same replies, and afterwards hold the same people's tree, sessions, working
-- directories and entries.
pub demand_3 : (text : Text) (u : Setup) → setup text ≡ accepted u → (calls : List Call) → without_root calls ≡ true →
    Compared (runs store u (initial_store u) calls) (abstract_runs u (initial_abstract u) calls)
demand_3 = ComparedLaws.compared_lists

-- A line without a listed form is not root's, one with a listed form is by its caller.
pub root_has_a_form : (call : Call) → line call.line ≡ none → root's call ≡ false
root_has_a_form = RunsLaws.no_form_not_root's

pub root_is_caller_0 : (call : Call) (l : Line) → line call.line ≡ some l → root's call ≡ eqb l.caller.0 0
root_is_caller_0 = RunsLaws.root's-by-caller

-- The abstract machine is an instance of the text that the store is one of, so what is said of any machine is said of it.
pub abstract_is_a_machine : (u : Setup) (h : Abstract) (call : Call) → step abstract u h call ≡ abstract_step u h call
abstract_is_a_machine = AbstractInstanceLaws.step_is

-- On either machine no call is refused 18, and 20 only with an answer buffer of less than 4,096 bytes.
pub no_call_is_18 : {S A : Type 0} (M : Machine S A) (u : Setup) (s : S) (call : Call) → step M u s call ≡ refused Unsound → ⊥
no_call_is_18 = MachineAnswerLaws.never_18

pub only_short_is_20 : {S A : Type 0} (M : Machine S A) (u : Setup) (s : S) (call : Call) → step M u s call ≡ refused ShortAnswer → call.room < 4096
only_short_is_20 = MachineAnswerLaws.short_is_20

-- Soundness. Bytes are read as a state just if they are sound, as document 01's sentence has it.
pub sound_is_read : (b : List ℕ) → Sound b → (s : State) × (decode b ≡ some s)
sound_is_read = SoundStoreLaws.sound_is_decoded

pub read_is_sound : (b : List ℕ) (s : State) → decode b ≡ some s → Sound b
read_is_sound = SoundStoreLaws.decoded_is_sound

-- Every accepted setup gives a well-formed store,
pub initial_is_sound : (text : Text) (u : Setup) → setup text ≡ accepted u → well_formed (state_of u (initial_store u)) ≡ true
initial_is_sound text u e = InitialLaws.initial_well_formed u (accepted_is_setup text u e)

-- and every call by anyone, root included, keeps it well-formed.
pub calls_keep_sound : (u : Setup) → is_setup u ≡ true → (s : Store) → well_formed (state_of u s) ≡ true → (call : Call) →
    well_formed (state_of u (after s (step store u s call))) ≡ true
calls_keep_sound = MachineKeepingLaws.step_keeps

-- So the bytes of a store that is reached from an initial one by calls of anyone are read back.
pub reached_is_read_back : (u : Setup) (s : Store) → Reached u s → decode (encode (state_of u s)) ≡ some (state_of u s)
reached_is_read_back = MachineKeepingLaws.reached_decodes

-- The stores that the following speak of are there: that of every accepted setup is one.
pub initial_is_reached : (text : Text) (u : Setup) → setup text ≡ accepted u → ReachedWithoutRoot u (initial_store u)
unfolding without_root runs every
initial_is_reached text u e = record { reached = record { text = text; taken = e; calls = []; state = refl }; rootless = refl }

-- A person's shell line with a path below `/rep` is refused.
pub shell_reaches_no_entry : (u : Setup) (s : Store) → ReachedWithoutRoot u s → (v : Uid) (c : Caller) → is_root v ≡ false → caller u v ≡ done c →
    (command : ShellAction) → names_entry command ≡ true → (why : Cause) × (run store u s c (shell command) ≡ refused why)
shell_reaches_no_entry = KeptOutLaws.shell_refused

-- A person's `cd` to `/rep` or below is refused.
pub cd_reaches_no_entry : (u : Setup) (s : Store) → ReachedWithoutRoot u s → (v : Uid) (c : Caller) → is_root v ≡ false → caller u v ≡ done c →
    (p : Path) → within (root ▹ rep) p ≡ true → (why : Cause) × (run store u s c (account (cd p)) ≡ refused why)
cd_reaches_no_entry = KeptOutLaws.cd_refused

-- A done command, of anyone on any store, leaves every account's working directory, or it is a `cd`, the account is the caller's, and
-- the registry is the one before with the path of the `cd` for that account.
pub only_cd_moves : (u : Setup) (s : Store) (c : Caller) (command : Command) (o : Outcome Store) → run store u s c command ≡ done o →
    MovedByCd c command s.registry o.state.registry
only_cd_moves = WorkingDirectoryLaws.only_cd_moves

-- A done `mv`, of anyone on a well-formed tree, onto what stands at another path: both are files, and the moved one stands there
-- as it was, its tag too; nothing stands where it came from, every other node is as it was, and there is one node less.
pub replaced_file : (u : Setup) (s : Store) (c : Caller) (a b : Path) (o : Outcome Store) (d g : Place Node) → is_tree s.tree ≡ true →
    run store u s c (shell (mv a b)) ≡ done o → place_at s.tree a ≡ some d → place_at s.tree b ≡ some g → same_path a b ≡ false →
    Replaced s.tree a b d g o.state.tree
replaced_file = ReplacedFileLaws.replaced_file

-- A done `mv` of a path onto itself, of anyone on any store, leaves the store as it was.
pub moved_onto_itself : (u : Setup) (s : Store) (c : Caller) (a : Path) (o : Outcome Store) → run store u s c (shell (mv a a)) ≡ done o → o.state ≡ s
moved_onto_itself = ReplacedFileLaws.moved_onto_itself

-- A person's done command leaves an entry as it is, or the session's role dominates the entry's and writes in its directory, and the
-- command is a `commit` of a file tagged with its path and revision, which gives it the file's content and the next revision, a
-- `commit` of a directory that does so once or more, one file within it after another, or the `del` that removes it.
pub entry_changed_by_right : (u : Setup) (s : Store) → ReachedWithoutRoot u s → (v : Uid) (c : Caller) → is_root v ≡ false → caller u v ≡ done c →
    (command : Command) (o : Outcome Store) → run store u s c command ≡ done o →
    (e : EntryPath) (kind : Kind) (r : BoundedRole) (revision : ℕ) (content : Text) → FiledAs s e kind r revision content →
    FiledAs o.state e kind r revision content ⊎ (Change s o.state e kind r revision command × Rightful u s c e r)
entry_changed_by_right = EntryRevisionLaws.stored_entry_changed

-- The commit of a directory that the caller can read, in a session and on a well-formed tree, is the command `commit` of the files
-- below it in path order, through directories the caller can read, one after another: it leaves the state that they leave, and its text
-- is how many of them are done.
pub directory_commit_is_commits : (u : Setup) (s : Store) (c : Caller) (w : Path) (found : Place Node) (z : BoundedRole) → is_tree s.tree ≡ true →
    session store u s c ≡ done z → walk (by_modes c.account) s.tree w ≡ done found → is_directory found.here.kind ≡ true →
    (by_modes c.account).readable found.here ≡ true →
    (let ran = single_commits u c (files_below (by_modes c.account) w found.below) s in
    run store u s c (entry (commit w)) ≡ done (record { text = some (decimal_text (how_many_done ran.replies)); state = ran.state }))
directory_commit_is_commits = SingleCommitsLaws.directory_commits

-- Where nothing stands, a person's done command leaves nothing, or is an `add` there in a session whose role dominates that of the
-- new entry and writes in its directory; the entry has revision 1 and the kind and content of the file or directory added.
pub entry_made_by_right : (u : Setup) (s : Store) → ReachedWithoutRoot u s → (v : Uid) (c : Caller) → is_root v ≡ false → caller u v ≡ done c →
    (command : Command) (o : Outcome Store) → run store u s c command ≡ done o →
    (e : EntryPath) → node_of s e ≡ none → (node_of o.state e ≡ none) ⊎ Making u s o.state c e command
entry_made_by_right = EntryMakingLaws.stored_entry_made

-- A role dominates another just if its account may read every entry that the other's may, in every well-formed store whose
-- entries have document 01's form.
pub dominance_is_reading : (u : Setup) → is_setup u ≡ true → (a b : BoundedRole) →
    (dominated u a b ≡ true → ReadsAll u a b) × (ReadsAll u a b → dominated u a b ≡ true)
dominance_is_reading = ReadingLaws.dominance_is_reading

-- More role pairs never turn a role's permission into a refusal: at `/rep` and at every entry an account may still pass, read and write,
pub more_pairs_refuse_nothing : (u u' : Setup) → is_setup u ≡ true → is_setup u' ≡ true → MorePairs u u' → (z : BoundedRole) (x : Filed) →
    ((store.judge u z).passes (met x) ≡ true → (store.judge u' z).passes (met x) ≡ true)
    × ((store.judge u z).readable (met x) ≡ true → (store.judge u' z).readable (met x) ≡ true)
    × ((store.judge u z).writable (met x) ≡ true → (store.judge u' z).writable (met x) ≡ true)
more_pairs_refuse_nothing u u' s s' more z x =
    (ReadingLaws.more_passes u u' s s' more z x, ReadingLaws.more_readable u u' s s' more z x, ReadingLaws.more_writable u u' s s' more z x)

-- and the entries that it may walk to and read it still may.
pub more_pairs_hide_nothing : (u u' : Setup) → is_setup u ≡ true → is_setup u' ≡ true → MorePairs u u' →
    (z : BoundedRole) (h : Abstract) → Kept h → (p : Path) (d : Place Node) → MayRead u z (embed h) p d → MayRead u' z (embed h) p d
more_pairs_hide_nothing = ReadingLaws.more_may_read

-- A command by anyone but its owner and root leaves a directory of mode 0700 owned by a person the same with all below it: at its path,
-- or where a `mv` of it or of a directory above it carries it; or nothing lay below it, and `rmdir` of it took it out. What is so moved
-- or taken out stood in a directory in which the caller may write.
pub private_directory_stays : (u : Setup) (s : Store) (c : Caller) (p : Path) (d : Place Node) →
    is_tree s.tree ≡ true → place_at s.tree p ≡ some d →
    Private c.account d → ltb d.here.owner.0 16 ≡ true → (command : Command) →
    Ensures (λ o. Unaltered c.account s.tree d p command o.state.tree) (run store u s c command)
private_directory_stays u s c p d whole there v small = MachinePrivacyLaws.run_private u s c p d there v small whole

-- Such a command is refused if a path that its caller walks lies below the directory,
pub private_directory_is_not_passed : (u : Setup) (s : Store) (c : Caller) (p : Path) (d : Place Node) → place_at s.tree p ≡ some d →
    Private c.account d → (command : Command) → some_walked_path (lies_below p) command ≡ true →
    (why : Cause) × (run store u s c command ≡ refused why)
private_directory_is_not_passed = MachinePrivacyLaws.run_refused

-- and refused 5 if it is a shell command that walks before it refuses a path other than `/`: all but `rm`, `rmdir` and `mv`.
pub private_directory_refuses_access : (u : Setup) (s : Store) (c : Caller) (p : Path) (d : Place Node) →
    is_tree s.tree ≡ true → place_at s.tree p ≡ some d →
    Private c.account d → (command : ShellAction) → walks_first command ≡ true → some_path (lies_below p) command ≡ true →
    run store u s c (shell command) ≡ refused Access
private_directory_refuses_access u s c p d whole there v = MachinePrivacyLaws.run_through u s c p d there v whole
