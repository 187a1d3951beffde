-- What the code's readers answer: parts of a text by their places, fields, numbers and names.
use Rattle.std.specs.Prelude.{List, [], ◌∷◌, Bool, ◌&&◌, ◌||◌, cond, ℕ, zero, suc, ◌+◌, ◌-◌, ◌≤◌, eqb, leb, length, take, drop, get_or}
use Rattle.std.specs.Prelude as code
use Rattle.std.specs.Prelude.{Some, None}
use Rattle.std.proofs.Math.Option.{Option, some}
use Rattle.buffers.specs.Text.{Text, same_text}
use Rattle.syntax.specs.declared.Span.{Span}
use Rattle.syntax.specs.declared.Field.{Field}
use Rattle.syntax.specs.Pieces.{comma, piece_length}
use Rattle.syntax.specs.Form.{◌>>◌, check}

-- the bytes from one place up to another
unfoldable pub part : Text → ℕ → ℕ → Text
part t start end = take (end - start) (drop start t)

unfoldable pub span_text : Text → Span → Text
span_text t s = part t s.start s.end

-- a part lies inside a text
pub record Inside (s : Span) (t : Text) : Type 0 where
  pub ordered : s.start ≤ s.end
  pub ends : s.end ≤ length t

-- whether it does, as a test
unfoldable pub span_inside : Text → Span → Bool
span_inside t s = leb s.start s.end && leb s.end (length t)

-- the text of a part that lies inside a text; a part that does not has none
unfoldable pub text_in : Text → Span → Option Text
text_in t s = do
  check (span_inside t s)
  some (span_text t s)

-- the field that starts at a place
unfoldable pub field_at : Text → ℕ → Field
field_at t at =
    let end = at + piece_length comma (drop at t) in
    record { start = at; end = end; last = eqb end (length t) }

-- the name that starts at a place of a path, or none where the path ends before
unfoldable pub next_name : Text → ℕ → code.Option Text
next_name t at = cond (leb (length t) at) None (Some (part t at (at + piece_length 47 (drop at t))))

-- the place behind it
unfoldable pub behind_name : Text → ℕ → ℕ
behind_name t at = cond (leb (length t) at) at (at + piece_length 47 (drop at t) + 1)

-- the next name with those that are read behind it
unfoldable pub names_of : List Text → code.Option Text → List Text
names_of behind (Some name) = name ∷ behind
names_of behind None = []

-- the names that are read of a path from a place on, at most so many
unfoldable pub names_read : Text → ℕ → ℕ → List Text
names_read t at zero = []
names_read t at (suc n) = names_of (names_read t (behind_name t at) n) (next_name t at)

-- the names of a text from a place on
unfoldable pub names_from : Text → ℕ → List Text
names_from t at = names_read t at (length t - at)

-- the names of a path text in order
unfoldable pub path_names : Text → List Text
path_names t = names_read t 1 (length t)

-- where the last `/` among the first so many bytes of a text is, or 0
unfoldable pub slash_before : Text → ℕ → ℕ
slash_before t zero = 0
slash_before t (suc n) = cond (eqb (get_or t n 0) 47) n (slash_before t n)

-- where the last `/` of a text is, or 0 where there is none
unfoldable pub last_slash : Text → ℕ
last_slash t = slash_before t (length t)

-- the text u is s, or goes on behind it with a `/`
unfoldable pub text_goes_on_from : Text → Text → Bool
text_goes_on_from s u = same_text (take (length s) u) s && (eqb (length u) (length s) || eqb (get_or u (length s) 0) 47)
