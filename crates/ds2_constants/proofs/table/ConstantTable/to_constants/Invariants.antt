use Rattle.std.proofs.Common.{◌≡◌, ◌++◌, map, drop}
use Rattle.ds2_program_code.specs.CodeConstants.{constant_part}
use Rattle.ds2_constants.specs.ConstantKeys.{used_of_key}
use Rattle.ds2_constants.proofs.table.ConstantTable.to_constants.Given as goal

abbrev pub invariant-keys : goal.invariant-keys
invariant-keys l = l.list ++ map constant_part (map used_of_key (drop l.key-index l.key-items)) ≡ map constant_part l.self
