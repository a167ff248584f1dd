use Rattle.std.proofs.Common.{◌≡◌, drop}
use Rattle.std.specs.Prelude.{map}
use Rattle.ds2_names.specs.Uses.{WritesTo}
use Rattle.ds2_scope.specs.Earliest.{earlier_of}
use Rattle.ds2_calls.specs.UseParts.{earliest_use}
use Rattle.ds2_calls.proofs.statement_walk.in_tables.Given as goal

abbrev pub invariant-tables : goal.invariant-tables
invariant-tables g l =
    earlier_of l.found (earliest_use (g.R.UseRule.places l.rule) (map WritesTo (drop l.table-index l.tables))) ≡ earliest_use (g.R.UseRule.places l.rule) (map WritesTo l.tables)
