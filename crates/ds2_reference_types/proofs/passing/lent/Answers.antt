use Rattle.std.proofs.Common.{ap, sym, ◌∙◌, Option}
use Rattle.ds2_meaning.specs.declared.location.Reference.{Reference}
use Rattle.ds2_reference_types.specs.Passing.{part_of_variable}
use Rattle.ds2_reference_types.proofs.PassingForms.{lent_outcome}
use Rattle.ds2_reference_types.proofs.passing.lent.Goals as goal

pub returns-in-Err : goal.returns-in-Err
returns-in-Err c = λ e p h v.
    lent_outcome c.args.ty e c.args.x c.args.place c.type_clash-other.result p h c.type_clash-other.ensures c.args.variable _ v (sym c.ruled.ensures ∙ c.in-Err.is)

pub returns-in-Ok : goal.returns-in-Ok
returns-in-Ok c = λ e p h v.
    let so = lent_outcome c.args.ty e c.args.x c.args.place c.type_clash-other.result p h c.type_clash-other.ensures c.args.variable _ v (sym c.ruled.ensures ∙ c.in-Ok.is) in
    (so.0, c.by_variable.ensures ∙ ap (λ (r : Option Reference). part_of_variable r) (sym v))
