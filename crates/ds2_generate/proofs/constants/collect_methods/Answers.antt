use Rattle.std.proofs.Common.{◌+◌, List, map, drop, sym, ap, ◌∙◌, arith}
use Rattle.std.proofs.lemmas.Grind.{common_steps}
use Rattle.ds2_meaning.specs.declared.methods.Method.{Method}
use Rattle.ds2_meaning.specs.declared.statements.Statement.{Statement}
use Rattle.ds2_meaning.specs.View.{all_statements, typed_method, typed_statement}
use Rattle.ds2_program_code.specs.UsedConstants.{constants_of_body}
use Rattle.ds2_constants.specs.UsedOnce.{with_used}
use Rattle.ds2_generate.specs.ConstantWalk.{constants_of_methods}
use Rattle.ds2_generate.proofs.WalkLemmas.{no_constant, method_collected, grown_by_equal, first_and_rest}
use Rattle.ds2_generate.proofs.constants.collect_methods.Goals as goal

pub methods-preserved : goal.methods-preserved
methods-preserved c =
    let methods = c.args.methods.now in
    let n = c.methods.method-index in
    let m = c.method-item.result in
    let rest = map typed_method (drop (n + 1) methods) in
    ap (λ t. with_used (constants_of_methods rest) t)
    (grown_by_equal (λ (l : List Statement). constants_of_body (all_statements (map typed_statement l))) _ _ _ _ c.as_slice.ensures c.in_ok-collect_statements.ensures)
    ∙ sym (method_collected (typed_method m) rest c.methods.table)
    ∙ ap (λ (l : List Method). with_used (constants_of_methods (map typed_method l)) c.methods.table) (sym (first_and_rest methods n m c.methods-test.true c.method-item.is))
    ∙ c.methods.invariant

pub returns : goal.returns
returns c = grind (arith, common_steps, no_constant c.methods.table, c.methods.invariant)
