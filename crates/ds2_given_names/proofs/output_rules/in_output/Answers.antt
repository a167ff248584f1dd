use Rattle.std.proofs.Common.{◌≡◌, refl, sym, ◌∙◌}
use Rattle.std.proofs.lemmas.Result.{IfOk-weaker}
use Rattle.ds2_given_names.proofs.OutputLemmas.{null_output, other_output}
use Rattle.ds2_given_names.proofs.output_rules.in_output.Goals as goal

pub returns-then-branch : goal.returns-then-branch
returns-then-branch c = λ all are statements. null_output all c.args.o.now (sym c.in_ok-is_null_output.ensures ∙ c.if-branch.true)

pub returns-else-branch : goal.returns-else-branch
returns-else-branch c =
    IfOk-weaker c.in_real_output.result _ _
    (λ b h all are statements. other_output all c.args.o.now b (sym c.in_ok-is_null_output.ensures ∙ c.if-branch.false) (h all c.args.o.now are statements c.options_of.ensures refl))
    c.in_real_output.ensures
