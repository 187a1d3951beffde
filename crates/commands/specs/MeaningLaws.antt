-- What the parts of a parsed line read as, and of which command they are.
use Rattle.std.specs.Prelude.{◌≡◌, refl, Bool, true, false, ltb, Some, None}
use Rattle.std.proofs.Common.{sym, subst, ap, ◌∙◌}
use Rattle.std.proofs.Math.Option.{Option, none, some, map}
use Rattle.buffers.specs.Cases.{and_both}
use Rattle.buffers.specs.Text.{Text}
use Rattle.accounts.specs.declared.Role.{Role}
use Rattle.accounts.specs.Dominance.{BoundedRole}
use Rattle.syntax.specs.declared.Span.{Span}
use Rattle.syntax.proofs.FormLaws.{no_answer, both_read, answered}
use Rattle.syntax.specs.Path.{Path, EntryPath, path, entry_path}
use Rattle.syntax.specs.Field.{bounded_by, bounded}
use Rattle.syntax.specs.Parts.{span_text, text_in}
use Rattle.syntax.proofs.PartsLaws.{text_inside}
use Rattle.arguments.specs.Kinds.{read_in}
use Rattle.commands.specs.declared.Command.{Command as Parts}
use Rattle.commands.specs.declared.Command.TheVariants.{Shell, Account, Entry}
use Rattle.commands.specs.declared.ShellCommand.{ShellCommand as ShellParts}
use Rattle.commands.specs.declared.ShellCommand.TheVariants.{Create, Mkdir, Read, Write, Rm, Rmdir, Mv, Chmod, Chgrp, Chown}
use Rattle.commands.specs.declared.AccountCommand.{AccountCommand as AccountParts}
use Rattle.commands.specs.declared.AccountCommand.TheVariants.{Login, Logout, Cd}
use Rattle.commands.specs.declared.EntryCommand.{EntryCommand as EntryParts}
use Rattle.commands.specs.declared.EntryCommand.TheVariants.{Add, Co, Commit, Up, Del}
use Rattle.commands.specs.declared.Typed.{Typed}
use Rattle.commands.specs.declared.CommandLine.{CommandLine}
use Rattle.commands.specs.Command.{ShellAction, create, mkdir, read, write, rm, rmdir, mv, chmod, chgrp, chown, AccountAction, login, logout, cd}
use Rattle.commands.specs.Command.{EntryAction, add, co, commit, up, del, Command, TypedCommand, shell, account, entry, Line, line, is_shell_command, is_command, is_typed_command, is_line}
use Rattle.commands.specs.CommandLaws.{line_is_line}
use Rattle.commands.specs.Parsed.{with_path, with_entry, shell_meaning, account_meaning, entry_meaning, meaning, typed_meaning, whole_meaning, MakesOf, line_with, parsed}
use Rattle.commands.specs.Meaning.{PartReads, TypedMeant, ShellMeans, AccountMeans, EntryMeans, Means, ShellMeant, Meant}

-- a part that was read lies inside the line
part_reads : {A : Type 0} (reader : Text → Option A) (t : Text) (s : Span) (x : A) → read_in reader t s ≡ some x → PartReads reader t s x
unfolding read_in
part_reads reader t s x e =
    let i : _ = both_read (text_in t s) reader x e in
    let j = text_inside t s i.0 i.1 in
    record { inside = j.0; reads = ap reader (sym j.1) ∙ i.2 }

-- a path alone, and an entry path alone, of which a command of a kind is made
module _ {K : Type 0} (of_kind : K → Command) (t : Text) (s : Span) (k : Command) where
  one_path : (make : Path → K) → with_path t s (λ q. of_kind (make q)) ≡ some k → (e : K) × ((q : Path) × PartReads path t s q × (e ≡ make q)) × (k ≡ of_kind e)
  unfolding with_path
  one_path make e =
      let i : _ = both_read (read_in path t s) (λ p. some (of_kind (make p))) k e in
      (make i.0, (i.0, part_reads path t s i.0 i.1, refl), answered i.2)

  one_entry : (make : EntryPath → K) → with_entry t s (λ q. of_kind (make q)) ≡ some k → (e : K) × ((q : EntryPath) × PartReads entry_path t s q × (e ≡ make q)) × (k ≡ of_kind e)
  unfolding with_entry
  one_entry make e =
      let i : _ = both_read (read_in entry_path t s) (λ p. some (of_kind (make p))) k e in
      (make i.0, (i.0, part_reads entry_path t s i.0 i.1, refl), answered i.2)

-- a number that is a role is that role
bounded_role : (r : Role) (z : BoundedRole) → bounded r.0 ≡ some z → z.role ≡ r
unfolding bounded bounded_by
bounded_role r z e = by (ltb r.0 8) refl e
  where
    by : (small : Bool) (h : ltb r.0 8 ≡ small) → bounded_by r.0 small h ≡ some z → z.role ≡ r
    by true h e = ap (λ (x : BoundedRole). x.role) (answered e)
    by false h e = no_answer e

-- what parts mean is what each reads as, kind by kind
shell_parts_mean : (t : Text) (c : ShellParts) (k : Command) → shell_meaning t c ≡ some k → Means t (Shell c) k
unfolding shell_meaning ShellMeans Means
shell_parts_mean t (Create p m) k e = one_path shell t p k (λ q. create q m) e
shell_parts_mean t (Mkdir p m) k e = one_path shell t p k (λ q. mkdir q m) e
shell_parts_mean t (Read p) k e = one_path shell t p k read e
shell_parts_mean t (Write p c) k e =
    let i : _ = both_read (read_in path t p) _ k e in
    let j : _ = both_read (text_in t c) _ k i.2 in
    let x = text_inside t c j.0 j.1 in
    (write i.0 (span_text t c), (i.0, part_reads path t p i.0 i.1, x.0, refl), answered j.2 ∙ ap (λ (y : Text). shell (write i.0 y)) x.1)
shell_parts_mean t (Rm p) k e = one_path shell t p k rm e
shell_parts_mean t (Rmdir p) k e = one_path shell t p k rmdir e
shell_parts_mean t (Mv a b) k e =
    let i : _ = both_read (read_in path t a) _ k e in
    let j = one_path shell t b k (mv i.0) i.2 in
    (j.0, (i.0, j.1.0, part_reads path t a i.0 i.1, j.1.1, j.1.2), j.2)
shell_parts_mean t (Chmod p m) k e = one_path shell t p k (λ q. chmod q m) e
shell_parts_mean t (Chgrp p g) k e = one_path shell t p k (λ q. chgrp q g) e
shell_parts_mean t (Chown p u) k e = one_path shell t p k (λ q. chown q u) e

account_parts_mean : (t : Text) (c : AccountParts) (k : Command) → account_meaning t c ≡ some k → Means t (Account c) k
unfolding account_meaning AccountMeans Means
account_parts_mean t (Login r w) k e =
    let i : _ = both_read (bounded r.0) _ k e in
    let j : _ = both_read (text_in t w) _ k i.2 in
    let x = text_inside t w j.0 j.1 in
    (login i.0 (span_text t w), (i.0, bounded_role r i.0 i.1, x.0, refl), answered j.2 ∙ ap (λ (y : Text). account (login i.0 y)) x.1)
account_parts_mean t Logout k e = (logout, refl, answered e)
account_parts_mean t (Cd p) k e = one_path account t p k cd e

entry_parts_mean : (t : Text) (c : EntryParts) (k : Command) → entry_meaning t c ≡ some k → Means t (Entry c) k
unfolding entry_meaning EntryMeans Means
entry_parts_mean t (Add w n r) k e =
    let i : _ = both_read (read_in path t w) _ k e in
    let j : _ = both_read (read_in entry_path t n) _ k i.2 in
    let h : _ = both_read (bounded r.0) _ k j.2 in
    (add i.0 j.0 h.0, (i.0, j.0, h.0, part_reads path t w i.0 i.1, part_reads entry_path t n j.0 j.1, bounded_role r h.0 h.1, refl), answered h.2)
entry_parts_mean t (Co n d) k e =
    let i : _ = both_read (read_in entry_path t n) _ k e in
    let j = one_path entry t d k (co i.0) i.2 in
    (j.0, (i.0, j.1.0, part_reads entry_path t n i.0 i.1, j.1.1, j.1.2), j.2)
entry_parts_mean t (Commit w) k e = one_path entry t w k commit e
entry_parts_mean t (Up w) k e = one_path entry t w k up e
entry_parts_mean t (Del n) k e = one_entry entry t n k del e

meaning_means : (t : Text) (c : Parts) (k : Command) → meaning t c ≡ some k → Means t c k
unfolding meaning
meaning_means t (Shell c) k e = shell_parts_mean t c k e
meaning_means t (Account c) k e = account_parts_mean t c k e
meaning_means t (Entry c) k e = entry_parts_mean t c k e

-- a line that was not parsed has no form
pub parsed_none : (t : Text) → parsed t None ≡ map some (line t) → line t ≡ none
unfolding parsed
parsed_none t e = by (line t) e
  where
    by : (l : Option Line) → none ≡ map some l → l ≡ none
    by none e = refl
    by (some l) e = no_answer e

-- one that was parsed is that of its caller and of the command that its arguments make, which is in range
pub parsed_line : (t : Text) (r : CommandLine) → parsed t (Some r) ≡ map some (line t)
    → (k : TypedCommand) × TypedMeant t r.typed k × (line t ≡ some (record { caller = r.caller; command = k }))
unfolding parsed line_with is_line
parsed_line t r e = by (line t) refl e
  where
    by : (l : Option Line) → line t ≡ l → some (line_with r.caller (typed_meaning t r.typed)) ≡ map some l
        → (k : TypedCommand) × TypedMeant t r.typed k × (line t ≡ some (record { caller = r.caller; command = k }))
    by none q e = no_answer (sym e)
    by (some l) q e =
        let i : _ = both_read (typed_meaning t r.typed) (λ k. some (record { caller = r.caller; command = k })) l (sym (answered e)) in
        let m : l ≡ record { caller = r.caller; command = i.0 } = answered i.2 in
        let h : line t ≡ some (record { caller = r.caller; command = i.0 }) = q ∙ ap some m in
        let fits = (and_both (ltb r.caller.0 24) (is_typed_command i.0) (line_is_line t (record { caller = r.caller; command = i.0 }) h)).1 in
        (i.0, record { means = i.1; in_range = fits }, h)

-- parts that are made where all paths are whole are those of the command that these make
pub whole_meant : {t : Text} {c : Typed} {d : Parts} {k : Command} → MakesOf c d → whole_meaning t c ≡ some k → is_command k ≡ true → Meant t d k
whole_meant {t} {d = d} {k} m e h = record { means = meaning_means t d k (m.means t ∙ e); in_range = h }

-- ---- parts that are known

-- the command of parts, where these are known
pub means_as : {P K : Type 0} (of_parts : Text → P → K → Type 0) {t : Text} {c d : P} {k : K} → c ≡ d → of_parts t c k → of_parts t d k
means_as {P} of_parts {t} {k = k} e m = subst (λ (x : P). of_parts t x k) e m

-- it is of their kind
module _ {t : Text} {c : Parts} {k : Command} (m : Meant t c k) where
  pub of_shell : {d : ShellParts} → c ≡ Shell d → (e : ShellAction) × ShellMeant t d e × (k ≡ shell e)
  unfolding Means is_command is_shell_command
  of_shell e = let i = means_as Means e m.means in (i.0, record { means = i.1; in_range = rw i.2 at m.in_range }, i.2)

  pub of_account : {d : AccountParts} → c ≡ Account d → (e : AccountAction) × AccountMeans t d e × (k ≡ account e)
  unfolding Means
  of_account e = means_as Means e m.means

  pub of_entry : {d : EntryParts} → c ≡ Entry d → (e : EntryAction) × EntryMeans t d e × (k ≡ entry e)
  unfolding Means
  of_entry e = means_as Means e m.means

-- a part as it was cut out of the line
pub part_read : {A : Type 0} {reader : Text → Option A} {t : Text} {s : Span} {q : A} (x : Text) → x ≡ span_text t s → PartReads reader t s q → reader x ≡ some q
part_read {reader = reader} x e h = ap reader e ∙ h.reads
