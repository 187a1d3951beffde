-- The largest trees, by computation: `/` with 255 files, all names of 8 bytes; and a file as deep as may be, with the longest values.
use Rattle.std.specs.Prelude.{[], replicate}
use Rattle.std.proofs.Math.Option.{none, some}
use Rattle.syntax.specs.Number.{octal}
use Rattle.syntax.specs.Path.{Name, root, ◌▹◌}
use Rattle.syntax.specs.Field.{content_limit}
use Rattle.tree.specs.declared.Kind.TheVariants.{File, Directory}
use Rattle.tree.specs.Forest.{nil, node, Place}
use Rattle.tree.specs.Node.{Node}

-- `/aaaaaaaa/aaaaaaaa/aaaaaaaa/aaaaaaaa/aaaaaaaa/aaaaaaaa`
abbrev pub deep : Place Node
deep =
    let a : Name = replicate 8 97 in
    let d : Node = record { kind = Directory; owner = record { 0 = 0 }; group = record { 0 = 0 }; mode = 0; revision = 0; tag = none; content = [] } in
    let f : Node = record {
      kind = File;
      owner = record { 0 = 23 };
      group = record { 0 = 24 };
      mode = octal 0 7 7 7;
      revision = 9999;
      tag = some (record { path = record { folder = root ▹ a ▹ a ▹ a ▹ a; name = a }; revision = 9999 });
      content = replicate content_limit 97;
    } in
    record { here = d; below = node a d (node a d (node a d (node a d (node a d (node a f nil nil) nil) nil) nil) nil) nil }
