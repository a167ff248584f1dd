use Rattle.std.proofs.Common.{◌≡◌, drop}
use Rattle.ds2_names.specs.NameRules.{from_each}
use Rattle.ds2_names.specs.UnitRules.{is_kept_from_packages}
use Rattle.ds2_scope.specs.CodeUnits.{instances_in_source}
use Rattle.ds2_scope.specs.Earliest.{earlier_of, earliest}
use Rattle.ds2_misplaced.specs.MisplacedParts.{keyword_where}
use Rattle.ds2_misplaced.proofs.kinds.kept_from_packages.Given as goal

abbrev pub invariant-instances : goal.invariant-instances
invariant-instances l =
    earlier_of l.found (earliest (from_each (keyword_where is_kept_from_packages) (instances_in_source (drop l.instance-index l.instances))))
    ≡ earliest (from_each (keyword_where is_kept_from_packages) (instances_in_source l.instances))
