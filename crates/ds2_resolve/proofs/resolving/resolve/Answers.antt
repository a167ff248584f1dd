use Rattle.std.proofs.Common.{subst, ap, ◌∙◌}
use Rattle.ds2_names.specs.SourceLimits.{scope_refusal}
use Rattle.ds2_names.specs.SourceUnit.{UnitSource, columns_stored}
use Rattle.ds2_resolve.specs.StandingBefore.{TellsOfUnits, behind_mentions}
use Rattle.ds2_resolve.proofs.resolving.resolve.Goals as goal

pub returns-clause-refusal : goal.returns-clause-refusal
returns-clause-refusal c = λ units kept.
    c.in_ok-refusal.ensures.refusal units kept (c.in_ok-names.ensures units.known kept.known) ∙ ap (scope_refusal (columns_stored c.args.tables.now) units) c.unit_of_data-unit.ensures

pub returns-clause-behind : goal.returns-clause-behind
returns-clause-behind c = λ units kept.
    c.in_ok-enter_data.ensures (columns_stored c.args.tables.now) units
    (subst (λ (u : UnitSource). TellsOfUnits c.refusal_of_unit.new.before (behind_mentions u units)) c.unit_of_data-unit.ensures (c.in_ok-refusal.ensures.behind units kept))
