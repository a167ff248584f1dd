use Rattle.std.proofs.Common.{◌≡◌, drop}
use Rattle.ds2_names.specs.NameRules.{from_each, clashing_name}
use Rattle.ds2_scope.specs.Earliest.{earlier_of, earliest}
use Rattle.ds2_given_names.proofs.output_columns.earliest_of_clashes.Given as goal

abbrev pub invariant-all : goal.invariant-all
invariant-all l = earlier_of l.found (earliest (from_each (clashing_name l.all) (drop l.n-index l.all))) ≡ earliest (from_each (clashing_name l.all) l.all)
