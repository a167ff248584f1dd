-- A program and what its bodies name, as the code holds them.
use Rattle.std.specs.Prelude.{[], map, None}
use Rattle.ds2_meaning.specs.declared.units.Program.{Program}
use Rattle.ds2_meaning.specs.ProgramTree.{UnitTree, sources}
use Rattle.ds2_meaning.specs.View.{unit_tree, objects_tree}
use Rattle.ds2_locality.specs.Deeds.{CodeScope}
use Rattle.ds2_deeds.specs.declared.scope.BodyScope.{BodyScope}
use Rattle.ds2_deeds.specs.NamedLocations.{code_home}

-- a program as its meaning sees it, but for the name and the parameters that a thread program has
abbrev pub nameless_tree : Program → UnitTree
nameless_tree program = unit_tree None [] program

-- whose code it is, and what it names
abbrev pub scope_of : BodyScope → CodeScope
scope_of s = record { home = code_home s.home; objects = objects_tree s.hashes.now s.iterators.now; outputs = map sources s.outputs.now }
