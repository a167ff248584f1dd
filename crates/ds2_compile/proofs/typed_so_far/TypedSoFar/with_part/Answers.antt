use Rattle.std.proofs.Common.{◌∷◌, subst}
use Rattle.ds2_tree.specs.UnitViews.{part_tree}
use Rattle.ds2_tree.specs.declared.units.SourcePart.{SourcePart}
use Rattle.ds2_compile.specs.TypedSoFar.{BecomesWithRest}
use Rattle.ds2_compile.proofs.SourceSteps.{past_proc, past_quit, past_run}
use Rattle.ds2_compile.proofs.typed_so_far.TypedSoFar.with_part.Goals as goal

pub returns-in-Proc-clause-leads : goal.returns-in-Proc-clause-leads
returns-in-Proc-clause-leads c = λ tables parts rest lead.
    past_proc tables parts c.args.self rest c.in-Proc.keyword c.in-Proc.ds2 c.in-Proc.end
    (subst (λ (p : SourcePart). BecomesWithRest tables parts c.args.self (part_tree p ∷ rest)) c.in-Proc.is lead)

pub returns-in-Run-clause-leads : goal.returns-in-Run-clause-leads
returns-in-Run-clause-leads c = λ tables parts rest lead.
    past_run tables parts c.args.self rest c.in-Run.keyword c.in-Run.end
    (subst (λ (p : SourcePart). BecomesWithRest tables parts c.args.self (part_tree p ∷ rest)) c.in-Run.is lead)

pub returns-in-Quit-clause-leads : goal.returns-in-Quit-clause-leads
returns-in-Quit-clause-leads c = λ tables parts rest lead.
    past_quit tables parts c.args.self rest c.in-Quit.keyword c.in-Quit.end
    (subst (λ (p : SourcePart). BecomesWithRest tables parts c.args.self (part_tree p ∷ rest)) c.in-Quit.is lead)

pub returns-in-Package-clause-leads : goal.returns-in-Package-clause-leads
returns-in-Package-clause-leads c = λ tables parts rest lead.
    c.with_package.ensures.leads tables parts rest
    (subst (λ (p : SourcePart). BecomesWithRest tables parts c.args.self (part_tree p ∷ rest)) c.in-Package.is lead)
