-- The tag of a place as its row tells it: its path is what the tag's text reads as, and its revision the number behind it.
use Rattle.std.specs.Prelude.{◌≡◌, List, [], ℕ}
use Rattle.std.proofs.Math.Path.{sym, ap}
use Rattle.std.proofs.Common.{◌∙◌}
use Rattle.std.proofs.Math.Option.{none, some}
use Rattle.syntax.specs.Form.{◌>>=◌}
use Rattle.syntax.proofs.FormLaws.{no_answer, both_read, answered}
use Rattle.syntax.specs.Path.{Path, EntryPath, entry_path}
use Rattle.tree.specs.Forest.{Place}
use Rattle.tree.specs.Node.{Tag, Node}
use Rattle.tree.specs.Encoding.{tag_of, row_bytes, read_row}
use Rattle.tree.proofs.RowBytesLaws.{no_entry, untagged_text}
use Rattle.tree.specs.RowAt.{row_bytes_at, row_at, tag_text_at, tag_number_at}
use Rattle.tree.proofs.RowAtLaws.{row_name_fits}
use Rattle.tree.specs.TreeBytes.{At}
use Rattle.tree.proofs.TreeBytesLaws.{at_here}

module _ {b : List ℕ} {t : Place Node} {p : Path} {i : ℕ} {d : Place Node} (a : At b t p i d) where
  -- its text reads as its path
  pub tag_reads : (g : Tag) → d.here.tag ≡ some g → (entry_path (tag_text_at b i) ≡ some g.path) × (tag_number_at b i ≡ g.revision)
  unfolding row_at read_row tag_text_at tag_number_at tag_of ◌>>=◌
  tag_reads g e =
      let tagged : (entry_path (tag_text_at b i) >>= λ x. some (record { path = x; revision = tag_number_at b i })) ≡ some g = ap (λ (n : Node). n.tag) (at_here a) ∙ e in
      let k = both_read (entry_path (tag_text_at b i)) (λ (x : EntryPath). some (record { path = x; revision = tag_number_at b i })) g tagged in
      let q = answered k.2 in
      (k.1 ∙ ap some (sym (ap (λ (x : Tag). x.path) q)), sym (ap (λ (x : Tag). x.revision) q))

  -- so it is not empty
  pub tag_written : (g : Tag) → d.here.tag ≡ some g → tag_text_at b i ≡ [] → ⊥
  tag_written g e z = let read : entry_path [] ≡ some g.path = rw z at (tag_reads g e).0 in no_answer (sym no_entry ∙ read)

  -- and is empty where there is none, if its bytes are those of its row
  pub tag_blank : row_bytes_at b i ≡ row_bytes (row_at b i) → d.here.tag ≡ none → tag_text_at b i ≡ []
  unfolding tag_text_at
  tag_blank held e = rw held (untagged_text (row_at b i) (row_name_fits b i) (ap (λ (n : Node). n.tag) (at_here a) ∙ e))
