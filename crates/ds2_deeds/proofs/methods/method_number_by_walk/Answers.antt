use Rattle.std.proofs.Common.{Some, map, sym, ap, ◌∙◌, arith}
use Rattle.std.proofs.lemmas.Grind.{common_steps}
use Rattle.ds2_program_code.specs.PlacedProgram.{number_of_first}
use Rattle.ds2_locality.specs.Deeds.{is_same_method}
use Rattle.ds2_deeds.specs.NamedMethods.{method_of_name}
use Rattle.ds2_deeds.proofs.NumberLemmas.{from_first, number_here, number_later}
use Rattle.ds2_deeds.proofs.methods.method_number_by_walk.Goals as goal

pub returns-then-is_one_method : goal.returns-then-is_one_method
returns-then-is_one_method c =
    let test = is_same_method (method_of_name c.args.method) in
    ap Some c.methods.invariant.0
    ∙ number_here test method_of_name c.args.methods.now c.methods.other-index c.other-item.result _ c.methods-test.true c.other-item.is (sym c.is_one_method.ensures ∙ c.if-is_one_method.true) c.methods.invariant.1
    ∙ from_first (number_of_first test (map method_of_name c.args.methods.now))

pub methods-preserved : goal.methods-preserved
methods-preserved c =
    let test = is_same_method (method_of_name c.args.method) in (
      grind (arith, common_steps, c.methods.invariant.0),
      number_later test method_of_name c.args.methods.now c.methods.other-index c.other-item.result _ c.methods-test.true c.other-item.is (sym c.is_one_method.ensures ∙ c.if-is_one_method.false) c.methods.invariant.1,
    )

pub returns : goal.returns
returns c = grind (arith, common_steps, c.methods.invariant.1)
