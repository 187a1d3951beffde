-- What the code tests: a row's bytes field by field, and the rows from one on.
use Rattle.std.specs.Prelude.{List, Bool, true, ◌&&◌, ◌||◌, cond, ℕ, zero, suc, ◌+◌, ◌-◌, eqb, leb, ltb, get_or, drop}
use Rattle.buffers.specs.Text.{every}
use Rattle.buffers.specs.Fields.{number_at, text_at, is_filled, zeros_at}
use Rattle.syntax.specs.Number.{is_mode}
use Rattle.syntax.specs.Path.{Name, name_byte, entry_path}
use Rattle.syntax.specs.Field.{content_byte, is_content}
use Rattle.syntax.specs.Form.{is_some}
use Rattle.tree.specs.Layout.{mode_offset, revision_offset, name_offset, name_width, tag_offset, tag_width, tag_revision_offset, whole_tag_width, content_offset, content_width, base_offset, base_width}
use Rattle.tree.specs.WellFormed.{last_revision, fits_kind}
use Rattle.tree.specs.Encoding.{kind_byte, kind_of}
use Rattle.tree.specs.declared.Kind.{Kind}
use Rattle.tree.specs.declared.Kind.TheVariants.{File, Directory}
use Rattle.tree.specs.RowAt.{all_rows, row_at}
use Rattle.soundness.specs.Sound.{is_row, row_stretches, in_order, may_follow}

-- a byte says what a node is
unfoldable pub is_kind_byte : ℕ → Bool
is_kind_byte b = eqb b (kind_byte Directory) || eqb b (kind_byte File)

-- kind, owner, group, mode and revision are in range
unfoldable pub has_numbers : List ℕ → Bool
has_numbers x =
    is_kind_byte (get_or x 1 0)
    && ((ltb (get_or x 2 0) 24 && ltb (get_or x 3 0) 25) && (is_mode (number_at mode_offset x) && leb (number_at revision_offset x) last_revision))

-- the tag's fields are zero, or an entry path filled up and a revision
unfoldable pub has_tag : List ℕ → Bool
has_tag x = cond (is_some (entry_path (text_at tag_offset tag_width x))) (is_filled tag_offset tag_width x && leb (number_at tag_revision_offset x) last_revision) (zeros_at tag_offset whole_tag_width x)

-- the content is one that the kind allows, zeros fill up its field, and the bytes kept for a merge base are zero
unfoldable pub has_content : List ℕ → Bool
has_content x =
    let c = text_at content_offset content_width x in
    (is_content c && fits_kind (kind_of (get_or x 1 0)) (number_at mode_offset x) c)
    && (is_filled content_offset content_width x && zeros_at base_offset base_width x)

-- so many bytes from a place each pass a test with the next
unfoldable pub neighbours_pass : (ℕ → ℕ → Bool) → ℕ → ℕ → List ℕ → Bool
neighbours_pass f i zero x = true
neighbours_pass f i (suc n) x = f (get_or x i 0) (get_or x (suc i) 0) && neighbours_pass f (suc i) n x

-- in a field filled up, a byte of a class may stand before any, a zero before a zero
unfoldable pub may_stand : (ℕ → Bool) → ℕ → ℕ → Bool
may_stand class b next = cond (eqb b 0) (eqb next 0) (class b)

-- the class of all bytes: then no more is asked than that zeros fill the field up
unfoldable pub any_byte : ℕ → Bool
any_byte b = true

-- in a name filled up, a byte is one of a name or zero, whatever is next
unfoldable pub may_name : ℕ → ℕ → Bool
may_name b next = eqb b 0 || name_byte b

-- a content filled up stands in the field at a place: each byte may stand before the next, and the last before a zero, whatever
-- the next field begins with
unfoldable pub content_stands : ℕ → List ℕ → Bool
content_stands at x = neighbours_pass (may_stand content_byte) at (content_width - 1) x && may_stand content_byte (get_or x (at + (content_width - 1)) 0) 0

unfoldable pub row_test : List ℕ → Bool
row_test x = (has_numbers x && is_filled name_offset name_width x) && (has_tag x && has_content x)

-- whether the row at an index may follow the one before it, where the row at its depth last seen is given
abbrev pub may_follow_at : List ℕ → ℕ → ℕ → Bool
may_follow_at b i beside = may_follow (row_at b (i - 1)).depth (row_at b (i - 1)).here.kind (row_at b beside).name (row_at b i)

-- the rows from one on are sound each and stand in order behind another of these names and this kind
unfoldable pub rest_in_order : List ℕ → ℕ → List Name → Kind → Bool
rest_in_order b i names kind = every is_row (drop i (row_stretches b)) && in_order names kind (drop i (all_rows b))
