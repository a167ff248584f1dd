use Rattle.std.proofs.Common.{◌≡◌, map, drop}
use Rattle.std.specs.List.{list_any}
use Rattle.ds2_meaning.specs.Method.{MethodTree}
use Rattle.ds2_meaning.specs.TypedStatement.{have_output}
use Rattle.ds2_meaning.specs.View.{typed_method}
use Rattle.ds2_local.proofs.runs.methods_have_output.Given as goal

abbrev pub invariant-methods : goal.invariant-methods
invariant-methods l = list_any (λ (m : MethodTree). have_output m.body) (map typed_method (drop l.method-index l.methods)) ≡ list_any (λ (m : MethodTree). have_output m.body) (map typed_method l.methods)
