use Rattle.std.proofs.Common.{List, [], ◌∷◌, map, refl, ap, ◌∙◌, arith}
use Rattle.std.proofs.lemmas.Grind.{common_steps}
use Rattle.ds2_meaning.specs.declared.hashes.HashVariable.{HashVariable}
use Rattle.ds2_meaning.specs.Location.{Location}
use Rattle.ds2_locality.specs.Deeds.{Mention, global_at, variables_at}
use Rattle.ds2_deeds.specs.NamedLocations.{code_home}
use Rattle.ds2_deeds.specs.NumberedDeeds.{numbers_of, with_deeds}
use Rattle.ds2_deeds.proofs.DeedLemmas.{none_added, item_added}
use Rattle.ds2_deeds.proofs.deed.add_mentions.Goals as goal

pub returns : goal.returns
returns c = grind (arith, common_steps, none_added (numbers_of c.args.numbers) c.variables.deeds, c.variables.invariant)

pub variables-preserved : goal.variables-preserved
variables-preserved c =
    let n = numbers_of c.args.numbers in
    let home = code_home c.args.home in
    let is = c.in_ok-add_mention.ensures ∙ ap (λ (at : Location). with_deeds n (Mention at ∷ []) c.variables.deeds) c.global_location.ensures in
    item_added n (λ (l : List HashVariable). map Mention (variables_at home l)) (λ (v : HashVariable). Mention (global_at home v.global) ∷ []) (λ x xs. refl)
    c.args.variables.now c.variables.variable-index c.variable-item.result c.variables.deeds _ _ c.variables-test.true c.variable-item.is is c.variables.invariant
