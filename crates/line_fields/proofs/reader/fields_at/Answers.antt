-- `line_fields::reader::fields_at` meets its contract: the reader holds the same line all along, and each field is read where the one
-- before it lets the line go on.
use Rattle.std.proofs.Common.{◌≡◌, ℕ, ◌≤◌, List, length, ◌∙◌, Bor}
use Rattle.syntax.specs.declared.Field.{Field}
use Rattle.syntax.specs.Parts.{field_at}
use Rattle.line_fields.specs.FieldsRead.{place_after}
use Rattle.line_fields.proofs.FieldsReadLaws.{place_after_inside, read_in_turn}
use Rattle.line_fields.proofs.reader.fields_at.Goals as goal

-- behind a field the reader of the line l stands inside it
inside : {m n : Bor (List ℕ)} (f : Field) {at : ℕ} → n ≡ m → at ≡ place_after m.now f → at ≤ length n.now
inside {m = m} f e h = rw (e, h) (place_after_inside m.now f)

-- what was read of the reader's line is read of l
placed : {l m : Bor (List ℕ)} (f : Field) {at : ℕ} → m ≡ l → at ≡ place_after m.now f → at ≡ place_after l.now f
placed f e h = rw e at h

read : {l m : Bor (List ℕ)} {f : Field} {at n : ℕ} → m ≡ l → at ≡ n → f ≡ field_at m.now at → f ≡ field_at l.now n
read e k h = rw (e, k) at h

pub next-first-requires : goal.next-first-requires
next-first-requires c = inside _ c.past-r.ensures.0 c.past-r.ensures.1

pub next-second-requires : goal.next-second-requires
next-second-requires c = inside _ c.past-r-2.ensures.0 c.past-r-2.ensures.1

pub next-third-requires : goal.next-third-requires
next-third-requires c = inside _ c.past-r-3.ensures.0 c.past-r-3.ensures.1

pub returns : goal.returns
returns c =
    let l₀ = c.new-r.ensures.0 in
    let l₁ = c.past-r.ensures.0 ∙ l₀ in
    let l₂ = c.past-r-2.ensures.0 ∙ l₁ in
    let l₃ = c.past-r-3.ensures.0 ∙ l₂ in
    read_in_turn c.args.line.now c.args.at c.next-word.result c.next-first.result c.next-second.result c.next-third.result c.fields_of.result
    (read l₀ c.new-r.ensures.1 c.next-word.ensures)
    (read l₁ (placed _ l₀ c.past-r.ensures.1) c.next-first.ensures)
    (read l₂ (placed _ l₁ c.past-r-2.ensures.1) c.next-second.ensures)
    (read l₃ (placed _ l₂ c.past-r-3.ensures.1) c.next-third.ensures)
    c.fields_of.ensures
