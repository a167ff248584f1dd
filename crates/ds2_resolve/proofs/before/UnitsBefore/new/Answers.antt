use Rattle.std.proofs.Common.{◌≡◌, None, nat_eq, refl, ap, arith}
use Rattle.std.specs.Prelude.{unwrap_or}
use Rattle.std.proofs.lemmas.Grind.{common_steps}
use Rattle.std.specs.Cmp.Lexicographic.{pointwise}
use Rattle.std.specs.HashMap.{get}
use Rattle.ds2_resolve.proofs.before.UnitsBefore.new.Goals as goal

pub returns : goal.returns
returns c = λ parts counted. record {
  known = c.new.ensures;
  calls = c.new-2.ensures;
  count = refl;
  makers = λ name. let none : get (pointwise nat_eq) c.new-3.result name ≡ None = grind (arith, common_steps) in ap (λ o. unwrap_or o 0) none;
  mentioned = λ name. grind (arith, common_steps);
  room = refl;
  tokens = counted;
}
