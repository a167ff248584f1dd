-- Constants with their numbers, each found by the order of keys.
use Rattle.std.specs.Prelude.{◌≡◌, ℕ, List, map}
use Rattle.std.specs.BTreeMap.{BTreeMap, get}
use Rattle.ds2_program_code.specs.PlacedProgram.{number_of_first}
use Rattle.ds2_program_code.specs.CodeConstants.{is_one_constant}
use Rattle.ds2_constants.specs.ConstantKeys.{used_of_key}
use Rattle.ds2_constants.specs.KeyOrder.{key_cmp}
use Rattle.ds2_constants.specs.declared.key.ConstantKey.{ConstantKey}

-- each constant has the number of its first place
abbrev pub HaveConstantNumbers : List ConstantKey → BTreeMap ConstantKey ℕ → Type 0
HaveConstantNumbers keys numbers = (k : ConstantKey) → get key_cmp numbers k ≡ number_of_first (λ other. is_one_constant (used_of_key k) other) (map used_of_key keys)
