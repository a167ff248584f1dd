use Rattle.ds2_program_types.proofs.BodyForms.{nothing_to_return, surely_returned, not_returned}
use Rattle.ds2_tree.specs.UnitViews.{method_tree}
use Rattle.ds2_elaboration.specs.StatementTypes.{list_surely_returns}
use Rattle.std.proofs.Common.{◌≡◌, true, false, arith}
use Rattle.std.proofs.lemmas.Grind.{common_steps}
use Rattle.ds2_program_types.proofs.bodies.return_rule.Goals as goal

pub returns-in-None : goal.returns-in-None
returns-in-None c = let m = method_tree c.args.m.now in nothing_to_return m.returns (list_surely_returns m.body) m.name.place c.in-None.is

pub returns-then-list_returns : goal.returns-then-list_returns
returns-then-list_returns c =
    let m = method_tree c.args.m.now in
    let told : list_surely_returns m.body ≡ true = grind (arith, common_steps) in
    surely_returned m.returns (list_surely_returns m.body) m.name.place _ c.in-Some.is told

pub returns-else-list_returns : goal.returns-else-list_returns
returns-else-list_returns c =
    let m = method_tree c.args.m.now in
    let told : list_surely_returns m.body ≡ false = grind (arith, common_steps) in
    not_returned m.returns (list_surely_returns m.body) m.name.place _ c.refusal.result c.in-Some.is told c.refusal.ensures
