use Rattle.std.proofs.Common.{◌≡◌, drop}
use Rattle.std.specs.Prelude.{map}
use Rattle.ds2_meaning.specs.IsTyped.{method_number}
use Rattle.ds2_meaning.specs.View.{typed_method}
use Rattle.ds2_instance_types.proofs.constructors.method_number.Given as goal

abbrev pub invariant-methods : goal.invariant-methods
invariant-methods l = method_number l.number (map typed_method (drop l.m-index l.methods)) l.name ≡ method_number 0 (map typed_method l.methods) l.name
