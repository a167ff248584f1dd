-- The trees of the methods, units and sources that the code holds.
use Rattle.std.specs.Prelude.{List, map}
use Rattle.ds2_tree.specs.declared.source.Source as code
use Rattle.ds2_tree.specs.Units.{SourcePart}
pub use Rattle.ds2_tree.specs.GlobalViews.{method_tree, global_tree}
pub use Rattle.ds2_tree.specs.PartViews.{package_tree, thread_tree, data_tree, part_tree}

-- the tree of a source
abbrev pub source_tree : code.Source → List SourcePart
source_tree s = map part_tree s.parts
