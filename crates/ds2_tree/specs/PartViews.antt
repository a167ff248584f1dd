-- The trees of the units that the code holds.
use Rattle.std.specs.Prelude.{map}
use Rattle.ds2_tree.specs.declared.units.Package as code_package
use Rattle.ds2_tree.specs.declared.units.Thread as code_thread
use Rattle.ds2_tree.specs.declared.units.DataProgram as code_data
use Rattle.ds2_tree.specs.declared.units.SourcePart as code_part
use Rattle.ds2_tree.specs.declared.units.SourcePart.TheVariants as part
use Rattle.ds2_tree.specs.Units.{Package, Thread, DataProgram, SourcePart, Proc, Run, Quit, APackage, AThread, AData}
use Rattle.ds2_tree.specs.GlobalViews.{global_tree}

-- the tree of a package
abbrev pub package_tree : code_package.Package → Package
package_tree u = record { keyword = u.keyword; name = u.name; semicolon = u.semicolon; globals = map global_tree u.globals; end_keyword = u.end_keyword; end = u.end }

-- the tree of a thread program
abbrev pub thread_tree : code_thread.Thread → Thread
thread_tree u = record { keyword = u.keyword; name = u.name; parameters = u.parameters; semicolon = u.semicolon; globals = map global_tree u.globals; end_keyword = u.end_keyword; end = u.end }

-- the tree of a data program
abbrev pub data_tree : code_data.DataProgram → DataProgram
data_tree u = record { keyword = u.keyword; outputs = u.outputs; semicolon = u.semicolon; globals = map global_tree u.globals; end_keyword = u.end_keyword; end = u.end }

-- the tree of a part of a source
abbrev pub part_tree : code_part.SourcePart → SourcePart
part_tree (part.Proc keyword ds2 end) = Proc keyword ds2 end
part_tree (part.Run keyword end) = Run keyword end
part_tree (part.Quit keyword end) = Quit keyword end
part_tree (part.Package u) = APackage (package_tree u)
part_tree (part.Thread u) = AThread (thread_tree u)
part_tree (part.Data u) = AData (data_tree u)
