-- The files below a directory, worked out: files among directories that may be read and that may not.
use Rattle.std.specs.Prelude.{◌≡◌, refl, [], ◌∷◌, map, Bool, true, false}
use Rattle.syntax.specs.Pieces.{bytes}
use Rattle.syntax.specs.Path.{root, ◌▹◌, names_text, path_text}
use Rattle.tree.specs.declared.Kind.{Kind}
use Rattle.tree.specs.declared.Kind.TheVariants.{File, Directory}
use Rattle.tree.specs.Forest.{Forest, nil, node}
use Rattle.tree.specs.Node.{is_directory}
use Rattle.tree.specs.Walk.{Judge}
use Rattle.tree.specs.Files.{files_below}

-- a file, which nobody may read, a directory that may be read, and one that may only be passed and changed
data Sort : Type 0 where
  file free shut : Sort

kind_of : Sort → Kind
kind_of file = File
kind_of free = Directory
kind_of shut = Directory

is_free : Sort → Bool
is_free file = false
is_free free = true
is_free shut = false

by_sort : Judge Sort
by_sort = record { kind = kind_of; passes = λ x. true; readable = is_free; writable = λ x. true }

-- a directory with nothing in it, a file, and a directory of either sort with a file
elm_below : Forest Sort
elm_below =
    node (bytes "ash") free nil
    (node (bytes "box") file nil
    (node (bytes "fig") free (node (bytes "yew") file nil nil)
    (node (bytes "nut") shut (node (bytes "yew") file nil nil) nil)))

-- a file, a directory of either sort with files in it, and a file behind them
woods : Forest Sort
woods =
    node (bytes "ash") file nil
    (node (bytes "elm") free elm_below
    (node (bytes "fir") shut (node (bytes "box") file nil (node (bytes "fig") free (node (bytes "yew") file nil nil) nil))
    (node (bytes "oak") file nil nil)))

-- of each directory what lies below it before what lies behind it, and every path from the top
files_listed : map path_text (files_below by_sort (root ▹ bytes "home") woods) ≡ map bytes ("/home/ash" ∷ "/home/elm/box" ∷ "/home/elm/fig/yew" ∷ "/home/oak" ∷ [])
unfolding kind_of is_free by_sort elm_below woods bytes names_text path_text is_directory files_below
files_listed = refl

-- no directory is among them
no_directory_listed : map path_text (files_below by_sort root (node (bytes "fig") free (node (bytes "yew") file nil nil) nil)) ≡ map bytes ("/fig/yew" ∷ [])
unfolding kind_of is_free by_sort bytes names_text path_text is_directory files_below
no_directory_listed = refl
