use Rattle.std.proofs.Common.{◌≡◌, ◌++◌, map, drop}
use Rattle.std.specs.Prelude.{flat_map, Some}
use Rattle.ds2_meaning.specs.ProgramTree.{InstanceTree}
use Rattle.ds2_meaning.specs.View.{instance_tree}
use Rattle.ds2_generate.specs.PartsAmong.{hash_part_among}
use Rattle.ds2_generate.proofs.tables.add_instance_hashes.Given as goal

abbrev pub invariant-instances : goal.invariant-instances
invariant-instances l = l.parts ++ flat_map (λ (i : InstanceTree). map (hash_part_among l.slots (Some i.name)) i.objects.hashes) (map instance_tree (drop l.instance-index l.instances)) ≡ l.fn.parts ++ flat_map (λ (i : InstanceTree). map (hash_part_among l.slots (Some i.name)) i.objects.hashes) (map instance_tree l.instances)
