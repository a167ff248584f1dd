use Rattle.std.proofs.Common.{List, [], ◌∷◌, map, arith}
use Rattle.std.proofs.lemmas.Grind.{common_steps}
use Rattle.ds2_meaning.specs.declared.statements.ParameterSetting.{ParameterSetting}
use Rattle.ds2_meaning.specs.View.{parameter_tree}
use Rattle.ds2_locality.specs.Deeds.{parameter_deeds}
use Rattle.ds2_deeds.specs.CodeTrees.{scope_of}
use Rattle.ds2_deeds.specs.NumberedDeeds.{numbers_of}
use Rattle.ds2_deeds.proofs.DeedLemmas.{none_added, item_added}
use Rattle.ds2_deeds.proofs.ItemLemmas.{parameter_first}
use Rattle.ds2_deeds.proofs.statement_deeds.add_parameters_deeds.Goals as goal

pub returns : goal.returns
returns c = grind (arith, common_steps, none_added (numbers_of c.args.numbers) c.settings.deeds, c.settings.invariant)

pub settings-preserved : goal.settings-preserved
settings-preserved c =
    let s = scope_of c.args.scope.now in
    let instance = c.args.instance.now in
    item_added (numbers_of c.args.numbers) (λ (l : List ParameterSetting). parameter_deeds s instance (map parameter_tree l)) (λ (x : ParameterSetting). parameter_deeds s instance (parameter_tree x ∷ [])) (λ x xs. parameter_first s instance (parameter_tree x) (map parameter_tree xs))
    c.args.settings.now c.settings.setting-index c.setting-item.result c.settings.deeds _ _ c.settings-test.true c.setting-item.is c.in_ok-add_parameter_deeds.ensures c.settings.invariant
