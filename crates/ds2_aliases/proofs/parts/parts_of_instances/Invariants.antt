use Rattle.std.proofs.Common.{◌≡◌, ◌++◌, drop}
use Rattle.std.specs.Prelude.{map}
use Rattle.ds2_calls.specs.UnitsCalls.{calls_by_tables}
use Rattle.ds2_aliases.specs.PartsOfMethods.{part_of_instance}
use Rattle.ds2_aliases.proofs.parts.parts_of_instances.Given as goal

abbrev pub invariant-instances : goal.invariant-instances
invariant-instances l =
    l.all ++ map (part_of_instance (calls_by_tables l.calls).sort_of_instance) (drop l.n-index l.instances) ≡ map (part_of_instance (calls_by_tables l.calls).sort_of_instance) l.instances
