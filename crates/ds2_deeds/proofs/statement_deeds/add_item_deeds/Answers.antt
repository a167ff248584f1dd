use Rattle.std.proofs.Common.{[], ◌∷◌, sym, ap, ◌∙◌}
use Rattle.ds2_meaning.specs.declared.statements.PutItem.{PutItem}
use Rattle.ds2_meaning.specs.View.{item_tree}
use Rattle.ds2_locality.specs.Deeds.{item_deeds}
use Rattle.ds2_deeds.specs.CodeTrees.{scope_of}
use Rattle.ds2_deeds.specs.NumberedDeeds.{numbers_of, with_deeds}
use Rattle.ds2_deeds.proofs.DeedLemmas.{none_added}
use Rattle.ds2_deeds.proofs.statement_deeds.add_item_deeds.Goals as goal

pub returns-in-Constant : goal.returns-in-Constant
returns-in-Constant c =
    let n = numbers_of c.args.numbers in
    let deeds = c.args.deeds.now in
    sym (ap (λ (x : PutItem). with_deeds n (item_deeds (scope_of c.args.scope.now) (item_tree x ∷ [])) deeds) c.in-Constant.is ∙ none_added n deeds)
