use Rattle.std.proofs.Common.{◌≡◌, ◌++◌, map, drop}
use Rattle.std.specs.Prelude.{flat_map, Some}
use Rattle.ds2_meaning.specs.ProgramTree.{InstanceTree}
use Rattle.ds2_meaning.specs.View.{instance_tree}
use Rattle.ds2_program_code.specs.CodeParts.{walked_hash}
use Rattle.ds2_numbering.specs.CellNumbers.{tree_of}
use Rattle.ds2_generate.proofs.tables.add_instance_iterators.Given as goal

abbrev pub invariant-instances : goal.invariant-instances
invariant-instances l = l.parts ++ flat_map (λ (i : InstanceTree). map (walked_hash (tree_of l.program) (Some i.name)) i.objects.iterators) (map instance_tree (drop l.instance-index l.instances)) ≡ l.fn.parts ++ flat_map (λ (i : InstanceTree). map (walked_hash (tree_of l.program) (Some i.name)) i.objects.iterators) (map instance_tree l.instances)
