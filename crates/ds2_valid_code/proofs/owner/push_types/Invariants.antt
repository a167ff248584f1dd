use Rattle.std.proofs.Common.{◌≡◌, ◌++◌, drop}
use Rattle.ds2_valid_code.specs.SignatureCodes.{type_code, list_code}
use Rattle.ds2_valid_code.proofs.owner.push_types.Given as goal

abbrev pub invariant-types : goal.invariant-types
invariant-types l = l.code ++ list_code type_code (drop l.ty-index l.types) ≡ l.initial.code ++ list_code type_code l.types
