use Rattle.std.proofs.Common.{ap, ◌∙◌}
use Rattle.std.specs.Prelude.{Bool}
use Rattle.ds2_reference_types.specs.Passing.{lent_variable, IsByValue, IsPassed}
use Rattle.ds2_reference_types.proofs.IfOks.{if_ok}
use Rattle.ds2_reference_types.proofs.PassingForms.{passed_in_out, passed_by_value}
use Rattle.ds2_reference_types.proofs.passing.passed.Goals as goal

pub returns-then-in_out : goal.returns-then-in_out
returns-then-in_out c = λ e p h v.
    passed_in_out c.args.p.now e c.in_out_argument.result c.if-in_out.true
    (c.in_out_argument.ensures e p h (v ∙ ap (λ (b : Bool). lent_variable b e.value.node) c.if-in_out.true))

pub returns-else-in_out : goal.returns-else-in_out
returns-else-in_out c = λ e p h v.
    if_ok (IsByValue c.args.p.now.ty e) (IsPassed c.args.p.now e) c.value_argument.result (λ a. passed_by_value c.args.p.now e a c.if-in_out.false) (c.value_argument.ensures e p h)
