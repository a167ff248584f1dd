use Rattle.std.proofs.Common.{◌≡◌, [], refl, subst, ap, ◌∙◌}
use Rattle.ds2_names.specs.NameRules.{columns_left}
use Rattle.ds2_names.specs.SourceLimits.{scope_refusal}
use Rattle.ds2_names.specs.SourceUnit.{UnitSource, columns_stored, names_of_unit}
use Rattle.ds2_scope.specs.CodeUnits.{unit_source}
use Rattle.ds2_resolve.specs.StandingBefore.{TellsOfUnits, behind_mentions}
use Rattle.ds2_resolve.proofs.resolving.resolve_thread.Goals as goal

pub returns-clause-refusal : goal.returns-clause-refusal
returns-clause-refusal c = λ units kept.
    c.in_ok-refusal.ensures.refusal units kept (c.in_ok-names.ensures units.known kept.known) ∙ ap (scope_refusal (columns_stored c.args.tables.now) units) c.unit_of_thread-all.ensures

pub returns-clause-behind : goal.returns-clause-behind
returns-clause-behind c = λ units kept.
    let tables = columns_stored c.args.tables.now in
    let columns = c.in_ok-columns.ensures (names_of_unit tables units.known (unit_source c.unit_of_thread-all.result)) (c.in_ok-names.ensures units.known kept.known) refl in
    c.in_ok-enter_thread.ensures tables units
    (columns ∙ ap (λ u. columns_left (names_of_unit tables units.known u) []) c.unit_of_thread-all.ensures)
    (subst (λ (u : UnitSource). TellsOfUnits c.refusal_of_unit.new.before (behind_mentions u units)) c.unit_of_thread-all.ensures (c.in_ok-refusal.ensures.behind units kept))
