use Rattle.std.proofs.Common.{◌≡◌, map, drop}
use Rattle.ds2_meaning.specs.View.{instance_tree}
use Rattle.ds2_program_code.specs.CodeMethods.{first_of_instance}
use Rattle.ds2_numbering.proofs.methods.first_of_named.Given as goal

abbrev pub invariant-instances : goal.invariant-instances
invariant-instances l = first_of_instance l.at (map instance_tree (drop l.instance-index l.instances)) l.name ≡ first_of_instance l.before (map instance_tree l.instances) l.name
