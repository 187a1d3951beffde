-- All that is read as a command line is one: every value in range.
use Rattle.std.specs.Prelude.{◌≡◌, refl, List, [], ◌∷◌, map, Bool, true, ltb}
use Rattle.std.proofs.Math.Option.{some}
use Rattle.buffers.specs.Text.{Text}
use Rattle.syntax.specs.Pieces.{comma, pieces}
use Rattle.syntax.specs.Form.{◌>>=◌, by_form}
use Rattle.syntax.proofs.FormLaws.{no_answer, both_read, answered, both, AnswersPass, any_gives, FormsGive, no_form, ◌also◌, by_form_gives}
use Rattle.syntax.specs.Field.{uid, role, is_content}
use Rattle.syntax.specs.Number.{is_mode}
use Rattle.syntax.specs.Path.{TypedPath, is_name, is_typed_path, is_entry_path, typed_path}
use Rattle.arguments.specs.declared.ArgumentKind.{ArgumentKind}
use Rattle.arguments.specs.Kinds.{Value, reader, Makes, arguments_of}
use Rattle.commands.specs.declared.Word.{Word}
use Rattle.commands.specs.declared.Word.TheVariants.{Create, Mkdir, Read, Write, Rm, Rmdir, Mv, Chmod, Chgrp, Chown, Login, Logout, Cd, Add, Co, Commit, Up, Del}
use Rattle.arguments.specs.declared.ArgumentKind.TheVariants as a
use Rattle.commands.specs.Command.{TypedCommand, Line, takes, listed, words, form, forms, line_of, line, is_shell_form, is_account_form, is_entry_form, is_typed_command, is_line}
use Rattle.syntax.proofs.PathLaws.{entry_is_entry}
use Rattle.syntax.proofs.FollowsLaws.{typed_is_typed}
use Rattle.syntax.proofs.FieldLaws.{uid_gives, gid_gives, mode_gives, plain_mode_gives, password_gives, content_gives}

-- what the readers of a kind answer is in range
in_range : (k : ArgumentKind) → Value TypedPath k → Bool
in_range a.Path p = is_typed_path p
in_range a.Entry e = is_entry_path e
in_range a.Mode m = is_mode m
in_range a.Plain m = ltb m 512
in_range a.Uid u = ltb u.0 24
in_range a.Gid g = ltb g.0 25
in_range a.Role r = true
in_range a.Password w = is_name w
in_range a.Content c = is_content c
in_range a.Absent v = true

reader_gives : (k : ArgumentKind) → AnswersPass (reader typed_path k) (in_range k)
unfolding in_range reader
reader_gives a.Path = typed_is_typed
reader_gives a.Entry = entry_is_entry
reader_gives a.Mode = mode_gives
reader_gives a.Plain = plain_mode_gives
reader_gives a.Uid = uid_gives
reader_gives a.Gid = gid_gives
reader_gives a.Role = any_gives role
reader_gives a.Password = password_gives
reader_gives a.Content = content_gives
reader_gives a.Absent = λ s v e. refl

-- arguments in range make a command in range
Keeps : (ks : List ArgumentKind) → Makes TypedPath ks TypedCommand → Type 0
Keeps [] x = is_typed_command x ≡ true
Keeps (k ∷ ks) x = (v : Value TypedPath k) → in_range k v ≡ true → Keeps ks (x v)

arguments_give : (ks : List ArgumentKind) (x : Makes TypedPath ks TypedCommand) → Keeps ks x → AnswersPass (arguments_of typed_path ks x) is_typed_command
unfolding Keeps arguments_of
arguments_give [] x h [] y e = rw (answered e) h
arguments_give [] x h (s ∷ ts) y e = no_answer e
arguments_give (k ∷ ks) x h [] y e = no_answer e
arguments_give (k ∷ ks) x h (s ∷ ts) y e =
    let i : _ = both_read (reader typed_path k s) (λ v. arguments_of typed_path ks (x v) ts) y e in
    arguments_give ks (x i.0) (h i.0 (reader_gives k s i.0 i.1)) ts y i.2

-- and so they do of each word
keeps : (w : Word) → Keeps (listed w).kinds ((listed w).makes TypedPath)
unfolding Keeps listed takes in_range is_typed_command is_shell_form is_account_form is_entry_form
keeps Create = λ p h m k. both h k
keeps Mkdir = λ p h m k. both h k
keeps Read = λ p h. h
keeps Write = λ p h c k. both h k
keeps Rm = λ p h. h
keeps Rmdir = λ p h. h
keeps Mv = λ p h q k. both h k
keeps Chmod = λ p h m k. both h k
keeps Chgrp = λ p h g k. both h k
keeps Chown = λ p h u k. both h k
keeps Login = λ r h w k. k
keeps Logout = refl
keeps Cd = λ p h. h
keeps Add = λ w h e k r l. both h k
keeps Co = λ e h d k. both h k
keeps Commit = λ w h. h
keeps Up = λ w h. h
keeps Del = λ e h. h

forms_give : (ws : List Word) → FormsGive is_typed_command (map form ws)
unfolding form
forms_give [] = no_form
forms_give (w ∷ ws) = arguments_give (listed w).kinds ((listed w).makes TypedPath) (keeps w) also forms_give ws

line_of_is_line : (ts : List Text) (l : Line) → line_of ts ≡ some l → is_line l ≡ true
unfolding line_of is_line forms
line_of_is_line [] l e = no_answer e
line_of_is_line (u ∷ []) l e = no_answer e
line_of_is_line (u ∷ (w ∷ arguments)) l e =
    let i : _ = both_read (uid u) (λ c. by_form forms w arguments >>= λ k. some (record { caller = c; command = k })) l e in
    let j : _ = both_read (by_form forms w arguments) (λ k. some (record { caller = i.0; command = k })) l i.2 in
    rw (answered j.2) (both (uid_gives u i.0 i.1) (by_form_gives is_typed_command (forms_give words) w arguments j.0 j.1))

-- what is read as a line is one
pub line_is_line : (t : Text) (l : Line) → line t ≡ some l → is_line l ≡ true
unfolding line
line_is_line t l e = line_of_is_line (pieces comma t) l e
