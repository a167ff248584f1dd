use Rattle.std.proofs.Common.{◌≡◌, map, drop, Some}
use Rattle.std.specs.Prelude.{flat_map}
use Rattle.ds2_locality.specs.Verdict.{iterators_kept_at}
use Rattle.ds2_meaning.specs.ProgramTree.{InstanceTree}
use Rattle.ds2_meaning.specs.View.{instance_tree}
use Rattle.ds2_deeds.specs.NamedLocations.{locations_named, with_locations}
use Rattle.ds2_deeds.proofs.table.add_instance_iterators.Given as goal

abbrev pub invariant-instances : goal.invariant-instances
invariant-instances l =
    with_locations (locations_named l.locations) (flat_map (λ (i : InstanceTree). iterators_kept_at (Some i.name) i.objects) (map instance_tree (drop l.instance-index l.instances)))
    ≡ with_locations (locations_named l.fn.locations) (flat_map (λ (i : InstanceTree). iterators_kept_at (Some i.name) i.objects) (map instance_tree l.instances))
