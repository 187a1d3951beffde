-- When bytes are those of a well-formed tree, as a test row by row: what a row's bytes hold, which row may follow another,
-- and zeros behind the last.
use Rattle.std.specs.Prelude.{List, [], ◌∷◌, Bool, true, false, ◌&&◌, cond, ℕ, suc, ◌-◌, eqb, leb, length, take, drop}
use Rattle.buffers.specs.Text.{same_text, precedes, every}
use Rattle.buffers.specs.Fields.{two_bytes, all_from, all_zero}
use Rattle.syntax.specs.Path.{Name, is_name, most_names}
use Rattle.tree.specs.declared.Kind.{Kind}
use Rattle.tree.specs.Layout.{row_width, tree_width, row_start}
use Rattle.tree.specs.Node.{is_directory, Node}
use Rattle.tree.specs.Rows.{Row}
use Rattle.tree.specs.WellFormed.{most_nodes, is_node}
use Rattle.tree.specs.Encoding.{row_bytes, read_row}
use Rattle.tree.specs.RowAt.{row_count, all_rows}

-- whether bytes are those of a row with a node in range
unfoldable pub is_row : List ℕ → Bool
is_row x = is_node (read_row x).here && same_text (row_bytes (read_row x)) x

-- the bytes of each row
unfoldable pub row_stretches : List ℕ → List (List ℕ)
row_stretches b = all_from row_width (λ x. x) (row_count b) (drop 2 b)

-- Names of a row and of the directories it lies in have its own first; `/` has none, so there are as many as the row is deep.

-- the k outermost of such names
unfoldable pub outermost : ℕ → List Name → List Name
outermost k names = drop (length names - k) names

unfoldable pub innermost : List Name → Name
innermost [] = []
innermost (n ∷ names) = n

-- whether a row may follow another of this depth and kind: below it if that is a directory, or behind the row that was last
-- at its own depth, which has the name `beside`, in byte order
unfoldable pub may_follow : ℕ → Kind → Name → Row Node → Bool
may_follow depth kind beside r =
    let d = r.depth in
    (is_name r.name && (leb 1 d && leb d most_names))
    && cond (leb d depth) (precedes beside r.name) (eqb d (suc depth) && is_directory kind)

-- whether a row may follow another of these names and this kind
unfoldable pub follows : List Name → Kind → Row Node → Bool
follows names kind r = may_follow (length names) kind (innermost (outermost r.depth names)) r

-- whether rows stand in order behind another
unfoldable pub in_order : List Name → Kind → List (Row Node) → Bool
in_order names kind [] = true
in_order names kind (r ∷ rs) = follows names kind r && in_order (r.name ∷ outermost (r.depth - 1) names) r.here.kind rs

-- whether a row is that of `/`
unfoldable pub is_top_row : Row Node → Bool
is_top_row r = (eqb r.depth 0 && eqb (length r.name) 0) && is_directory r.here.kind

-- whether rows are `/` and others in order behind it; at least `/` must be there
unfoldable pub form_tree : List (Row Node) → Bool
form_tree [] = false
form_tree (r ∷ rs) = is_top_row r && in_order [] r.here.kind rs

-- whether the number of rows stands in its two bytes as it is written, and is not too large
unfoldable pub is_count : List ℕ → Bool
is_count b = leb (row_count b) most_nodes && same_text (two_bytes (row_count b)) (take 2 b)

-- whether bytes are as many as a tree has, with a number of rows, the rows of a tree, and zeros behind them
unfoldable pub is_sound : List ℕ → Bool
is_sound b =
    (eqb (length b) tree_width && is_count b)
    && ((every is_row (row_stretches b) && form_tree (all_rows b)) && all_zero (drop (row_start (row_count b)) b))
