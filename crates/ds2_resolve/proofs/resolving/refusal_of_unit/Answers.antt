use Rattle.std.proofs.Common.{sym, ap, ◌∙◌}
use Rattle.ds2_names.specs.SourceUnit.{columns_stored}
use Rattle.ds2_scope.specs.CodeUnits.{unit_source}
use Rattle.ds2_scope.specs.Lesser.{first_refusal}
use Rattle.ds2_resolve.proofs.resolving.refusal_of_unit.Goals as goal

pub returns-clause-refusal : goal.returns-clause-refusal
returns-clause-refusal c = λ units kept are.
    c.first.ensures
    ∙ ap first_refusal (c.in_ok-rules.ensures.rules units kept are)
    ∙ sym (c.refusal_of_places.ensures (columns_stored c.args.tables.now) units (unit_source c.args.unit))

pub returns-clause-behind : goal.returns-clause-behind
returns-clause-behind c = λ units kept. c.in_ok-rules.ensures.behind units kept
