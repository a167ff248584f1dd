use Rattle.std.proofs.Common.{length}
use Rattle.std.specs.List.{AllByRecursion}
use Rattle.ds2_value.specs.Schema.{IsNamedColumn}
use Rattle.ds2_value.proofs.schema.read_names.Given as goal

abbrev pub invariant-columns : goal.invariant-columns
invariant-columns l = AllByRecursion IsNamedColumn l.rest → AllByRecursion IsNamedColumn l.columns

abbrev pub decreases-columns : goal.decreases-columns
decreases-columns l = length l.rest
