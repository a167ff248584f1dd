use Rattle.std.proofs.Common.{◌≡◌, length}
use Rattle.ds2_value.specs.Schema.{distinct_names}
use Rattle.ds2_value.proofs.schema.distinct_names.Given as goal

abbrev pub invariant-columns : goal.invariant-columns
invariant-columns l = distinct_names l.rest ≡ distinct_names l.columns

abbrev pub decreases-columns : goal.decreases-columns
decreases-columns l = length l.rest
