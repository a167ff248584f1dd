use Rattle.std.proofs.Common.{Bool, sym, ap, ◌∙◌}
use Rattle.ds2_elaboration.specs.Typings.{clash_unless, is_integer_type}
use Rattle.ds2_types.specs.Judgements.{first_type_refusal}
use Rattle.ds2_statement_types.proofs.ControlForms.{unbroken_count}
use Rattle.ds2_statement_types.proofs.counts.whole_variable.Goals as goal

pub returns-in-None : goal.returns-in-None
returns-in-None c =
    unbroken_count c.args.variable (clash_unless (is_integer_type c.args.ty) c.args.place)
    (sym c.in-None.is ∙ c.clash_unless.ensures ∙ ap (λ (b : Bool). first_type_refusal (clash_unless b c.args.place)) c.is_integer.ensures)

pub returns-in-Some : goal.returns-in-Some
returns-in-Some c = sym (sym c.in-Some.is ∙ c.clash_unless.ensures ∙ ap (λ (b : Bool). first_type_refusal (clash_unless b c.args.place)) c.is_integer.ensures)
