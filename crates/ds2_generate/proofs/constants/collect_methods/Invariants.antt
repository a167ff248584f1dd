use Rattle.std.proofs.Common.{◌≡◌, map, drop}
use Rattle.ds2_meaning.specs.View.{typed_method}
use Rattle.ds2_generate.specs.ConstantWalk.{constants_of_methods}
use Rattle.ds2_constants.specs.UsedOnce.{with_used}
use Rattle.ds2_generate.proofs.constants.collect_methods.Given as goal

abbrev pub invariant-methods : goal.invariant-methods
invariant-methods l = with_used (constants_of_methods (map typed_method (drop l.method-index l.methods))) l.table ≡ with_used (constants_of_methods (map typed_method l.methods)) l.fn.table
