use Rattle.std.proofs.Common.{◌≡◌, ◌++◌, drop, string_bytes}
use Rattle.std.specs.Prelude.{option_map}
use Rattle.ds2_value.specs.Functions.{joined_texts}
use Rattle.ds2_value.proofs.functions.joined_texts.Given as goal

abbrev pub invariant-texts : goal.invariant-texts
invariant-texts l = joined_texts l.args ≡ option_map (λ more. string_bytes l.joined ++ more) (joined_texts (drop l.v-index l.args))
