-- One working directory's bytes: they are written as they are read just if they are a path's text, filled up with zeros.
use Rattle.std.specs.Prelude.{◌≡◌, refl, List, [], ◌&&◌, ℕ, ◌+◌, ◌≤◌, length, take, drop}
use Rattle.std.proofs.Common.{sym, ◌∙◌, ap, append-nil, arith}
use Rattle.std.proofs.Math.Option.{Option, none, some}
use Rattle.buffers.specs.Cases.{case}
use Rattle.buffers.specs.Text.{same_text}
use Rattle.buffers.specs.TextLaws.{same_text_sound}
use Rattle.buffers.specs.Fields.{padded, text_at, is_filled}
use Rattle.buffers.specs.FieldsLaws.{length_padded, text_at_padded, field_text_fits, text_there}
use Rattle.syntax.specs.Form.{is_some}
use Rattle.syntax.proofs.FormLaws.{no_answer}
use Rattle.syntax.specs.Path.{Path, root, path, path_text}
use Rattle.syntax.proofs.PathLaws.{path_of_text, path_text_fits}
use Rattle.syntax.proofs.ParentLaws.{text_of_path}
use Rattle.soundness.specs.RowTestLaws.{same_filled}
use Rattle.store.specs.HeaderLayout.{directory_width}
use Rattle.store.proofs.RegistryLaws.{root_is_path}
use Rattle.store.specs.StoreBytes.{directory_bytes, path_or_root, directory_from}
use Rattle.store.proofs.HeaderLaws.{directory_bytes_are, length_directory}

-- what is read takes the width, whether it is a path or not
long_as_read : (x : List ℕ) (o : Option Path) → path (text_at 0 directory_width x) ≡ o → length (directory_bytes (path_or_root o)) ≡ directory_width
unfolding path_or_root directory_bytes
long_as_read x none e = length_directory root root_is_path
long_as_read x (some p) e =
    let t = text_at 0 directory_width x in
    rw (← text_of_path t p e) (length_padded directory_width t (field_text_fits x 0 directory_width))

pub directory_long : (x : List ℕ) → length x ≡ directory_width → length (directory_bytes (directory_from x)) ≡ directory_width
unfolding directory_from
directory_long x h = long_as_read x (path (text_at 0 directory_width x)) refl

-- the bytes of `/` hold a path
root_holds_path : path (text_at 0 directory_width (directory_bytes root)) ≡ some root
unfolding directory_bytes
root_holds_path =
    let f = path_text_fits root root_is_path in
    let t : text_at 0 directory_width (padded directory_width (path_text root)) ≡ path_text root =
    rw append-nil at (text_at_padded [] [] 0 directory_width (path_text root) refl f.0 f.1) in
    ap path t ∙ path_of_text root root_is_path

-- the text of a field's bytes
field_text : (b : List ℕ) (i : ℕ) → text_at 0 directory_width (take directory_width (drop i b)) ≡ text_at i directory_width b
field_text b i =
    let q : i + 0 ≡ i = omega arith in
    text_there b i directory_width 0 directory_width (omega arith) ∙ ap (λ (n : ℕ). text_at n directory_width b) q

-- so what is no path is written otherwise, and a path as its text filled up
same_as_read : (b : List ℕ) (i : ℕ) → i + directory_width ≤ length b → (o : Option Path) → path (text_at i directory_width b) ≡ o →
    same_text (directory_bytes (path_or_root o)) (take directory_width (drop i b)) ≡ (is_some o && is_filled i directory_width b)
unfolding path_or_root is_some
same_as_read b i h none e =
    let x = take directory_width (drop i b) in
    case (same_text (directory_bytes root) x)
    (λ t. no_answer (sym e ∙ ap path (sym (field_text b i) ∙ ap (text_at 0 directory_width) (sym (same_text_sound (directory_bytes root) x t))) ∙ root_holds_path))
    (λ t. t)
same_as_read b i h (some p) e =
    let t = text_at i directory_width b in
    let q : directory_bytes p ≡ padded directory_width t = directory_bytes_are p ∙ ap (padded directory_width) (sym (text_of_path t p e)) in
    rw q (same_filled i directory_width b h)

pub directory_read : (b : List ℕ) (i : ℕ) → i + directory_width ≤ length b → let x = take directory_width (drop i b) in
    same_text (directory_bytes (directory_from x)) x ≡ (is_some (path (text_at i directory_width b)) && is_filled i directory_width b)
unfolding directory_from
directory_read b i h = rw (field_text b i) (same_as_read b i h (path (text_at i directory_width b)) refl)
