use Rattle.std.proofs.Common.{◌≡◌, None, nat_eq, ap, arith}
use Rattle.std.specs.Option.{option_map}
use Rattle.std.proofs.lemmas.Grind.{common_steps}
use Rattle.std.specs.Cmp.Lexicographic.{pointwise}
use Rattle.std.specs.HashMap.{get}
use Rattle.ds2_calls.specs.KnownUnits.{methods_in_table}
use Rattle.ds2_calls.proofs.known_calls.KnownCalls.new.Goals as goal

pub returns : goal.returns
returns c = record {
  packages = λ name. let none : get (pointwise nat_eq) c.new.result name ≡ None = grind (arith, common_steps) in ap (option_map methods_in_table) none;
  threads = λ name. grind (arith, common_steps);
}
