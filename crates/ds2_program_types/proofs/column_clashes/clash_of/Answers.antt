use Rattle.std.proofs.Common.{Option, Some, sym, ap, ◌∙◌}
use Rattle.ds2_base.specs.declared.place.Place.{Place}
use Rattle.ds2_base.specs.declared.place.Refusal.{Refusal}
use Rattle.ds2_meaning.specs.declared.refusals.TypeKind.{TypeKind}
use Rattle.ds2_names.specs.SourceUnit.{columns_stored}
use Rattle.ds2_declared_types.specs.Joins.{places_in}
use Rattle.ds2_program_types.proofs.ColumnRules.{rule_at, rule_of_column}
use Rattle.ds2_program_types.proofs.column_clashes.clash_of.Goals as goal

pub returns-in-None : goal.returns-in-None
returns-in-None c = λ before u variables r h.
    ap (λ (o : Option Place). rule_at (places_in o)) (sym c.in-None.is)
    ∙ rule_of_column (columns_stored c.args.from.tables.now) before u variables c.args.name.now c.declared_type-own.result c.clash_over.result (c.declared_type-own.ensures variables h)
    (c.clash_over.ensures before u r)

pub returns-in-Some : goal.returns-in-Some
returns-in-Some c = λ before u variables r h.
    ap (λ (r : Refusal TypeKind). Some r) c.refusal.ensures ∙ ap (λ (o : Option Place). rule_at (places_in o)) (sym c.in-Some.is)
    ∙ rule_of_column (columns_stored c.args.from.tables.now) before u variables c.args.name.now c.declared_type-own.result c.clash_over.result (c.declared_type-own.ensures variables h)
    (c.clash_over.ensures before u r)
