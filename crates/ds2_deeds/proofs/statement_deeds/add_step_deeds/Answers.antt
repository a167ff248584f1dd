use Rattle.std.proofs.Common.{Option, option_map, sym, ap, ◌∙◌}
use Rattle.ds2_meaning.specs.declared.expressions.Expression as code_expression
use Rattle.ds2_meaning.specs.View.{typed_expression}
use Rattle.ds2_locality.specs.Deeds.{step_deeds}
use Rattle.ds2_deeds.specs.CodeTrees.{scope_of}
use Rattle.ds2_deeds.specs.NumberedDeeds.{numbers_of, with_deeds}
use Rattle.ds2_deeds.proofs.DeedLemmas.{none_added}
use Rattle.ds2_deeds.proofs.statement_deeds.add_step_deeds.Goals as goal

pub returns-in-None : goal.returns-in-None
returns-in-None c =
    let n = numbers_of c.args.numbers in
    let deeds = c.args.deeds.now in
    sym (ap (λ (o : Option code_expression.Expression). with_deeds n (step_deeds (scope_of c.args.scope.now) (option_map typed_expression o)) deeds) c.in-None.is ∙ none_added n deeds)
