-- The kinds of arguments: what a reader makes of the text of each, and how arguments of some kinds are read one after another. What a
-- path is comes with its reader: a line's paths are read as they are typed, those of a command that is run as whole ones.
--
-- The code reads of each argument whether it has its form, and its number: `number_in` says which, and `value` what the
-- argument is, from its part of the line and that number.
use Rattle.std.specs.Prelude.{◌≡◌, List, [], ◌∷◌, Bool, ℕ, ◌%◌}
use Rattle.std.proofs.Math.Option.{Option, none, some}
use Rattle.buffers.specs.Text.{Text}
use Rattle.accounts.specs.declared.Uid.{Uid}
use Rattle.accounts.specs.declared.Gid.{Gid}
use Rattle.accounts.specs.Dominance.{BoundedRole}
use Rattle.syntax.specs.declared.Span.{Span}
use Rattle.syntax.specs.Number.{mode, between}
use Rattle.syntax.specs.Form.{◌>>=◌, ◌>>◌, check, is_some}
use Rattle.syntax.specs.Path.{EntryPath, is_name, typed_path, entry_path}
use Rattle.syntax.specs.Field.{uid, gid, bounded, role, plain_mode, password, is_content, content}
use Rattle.syntax.specs.Parts.{Inside, span_text, text_in}
use Rattle.arguments.specs.declared.ArgumentKind.{ArgumentKind}
use Rattle.arguments.specs.declared.ArgumentKind.TheVariants as a

-- what an argument of a kind is, where P is what a path is: as it is typed, or whole
abbrev pub Value : Type 0 → ArgumentKind → Type 0
Value P a.Path = P
Value P a.Entry = EntryPath
Value P a.Mode = ℕ
Value P a.Plain = ℕ
Value P a.Uid = Uid
Value P a.Gid = Gid
Value P a.Role = BoundedRole
Value P a.Password = Text
Value P a.Content = Text
Value P a.Absent = Unit {0}

-- what is made of arguments of some kinds
abbrev pub Makes : Type 0 → List ArgumentKind → Type 0 → Type 0
Makes P [] X = X
Makes P (k ∷ ks) X = Value P k → Makes P ks X

module _ {P : Type 0} (read_path : Text → Option P) where
  unfoldable pub reader : (k : ArgumentKind) → Text → Option (Value P k)
  reader a.Path t = read_path t
  reader a.Entry t = entry_path t
  reader a.Mode t = mode t
  reader a.Plain t = plain_mode t
  reader a.Uid t = uid t
  reader a.Gid t = gid t
  reader a.Role t = role t
  reader a.Password t = password t
  reader a.Content t = content t
  reader a.Absent t = some tt

  -- exactly the arguments of these kinds, each read by its reader
  unfoldable pub arguments_of : {X : Type 0} (ks : List ArgumentKind) → Makes P ks X → List Text → Option X
  arguments_of [] x [] = some x
  arguments_of [] x (s ∷ more) = none
  arguments_of (k ∷ ks) x [] = none
  arguments_of (k ∷ ks) x (s ∷ more) = do
    v ← reader k s
    arguments_of ks (x v) more

-- the number that the code reads of an argument, 0 where its kind has none
unfoldable pub zero_if : Bool → Option ℕ
zero_if has_form = do
  check has_form
  some 0

unfoldable pub number_in : ArgumentKind → Text → Option ℕ
number_in a.Path t = zero_if (is_some (typed_path t))
number_in a.Entry t = zero_if (is_some (entry_path t))
number_in a.Mode t = mode t
number_in a.Plain t = plain_mode t
number_in a.Uid t = between 0 23 t
number_in a.Gid t = between 0 24 t
number_in a.Role t = between 0 7 t
number_in a.Password t = zero_if (is_name t)
number_in a.Content t = zero_if (is_content t)
number_in a.Absent t = some 0

-- what a reader makes of a part
unfoldable pub read_in : {A : Type 0} → (Text → Option A) → Text → Span → Option A
read_in read t s = text_in t s >>= read

-- an argument that was read: its part of the line, and its number
pub record Argument : Type 0 where
  pub part : Span
  pub number : ℕ

-- it lies inside the line and has the form of its kind, with that number
pub record ArgumentRead (k : ArgumentKind) (t : Text) (v : Argument) : Type 0 where
  pub inside : Inside v.part t
  pub number : some v.number ≡ number_in k (span_text t v.part)

module _ {P : Type 0} (read_path : Text → Option P) where
  -- what it is
  unfoldable pub value : (k : ArgumentKind) → Text → Argument → Option (Value P k)
  value a.Path t v = read_in read_path t v.part
  value a.Entry t v = read_in entry_path t v.part
  value a.Mode t v = some v.number
  value a.Plain t v = some v.number
  value a.Uid t v = some (record { 0 = v.number % 256 })
  value a.Gid t v = some (record { 0 = v.number % 256 })
  value a.Role t v = bounded (v.number % 256)
  value a.Password t v = text_in t v.part
  value a.Content t v = text_in t v.part
  value a.Absent t v = some tt

  -- what is made of those that were read; any behind them are not looked at
  unfoldable pub values_of : {X : Type 0} (ks : List ArgumentKind) → Makes P ks X → Text → List Argument → Option X
  values_of [] x t vs = some x
  values_of (k ∷ ks) x t [] = none
  values_of (k ∷ ks) x t (v ∷ vs) = do
    a ← value k t v
    values_of ks (x a) t vs
