use Rattle.std.proofs.Common.{◌≡◌, Result, sym, ap, subst, ◌∙◌}
use Rattle.ds2_base.specs.declared.place.Refusal.{Refusal}
use Rattle.ds2_tree.specs.UnitViews.{thread_tree}
use Rattle.ds2_meaning.specs.declared.refusals.TypeKind.{TypeKind}
use Rattle.ds2_meaning.specs.declared.units.TypedThread.{TypedThread}
use Rattle.ds2_names.specs.SourceUnit.{UnitSource, columns_stored, names_of_unit, unit_of_thread}
use Rattle.ds2_elaboration.specs.ProgramTypes.{broken_type_rules}
use Rattle.ds2_scope.specs.UnitNames.{NamesAre}
use Rattle.ds2_types.specs.Judgements.{IsOutcome}
use Rattle.ds2_program_types.specs.TypedPrograms.{IsTypedThread}
use Rattle.ds2_compile.proofs.UnitOutcomes.{refused_for_names, refused_for_types, unrefused}
use Rattle.ds2_compile.proofs.typed_units.typed_thread.Goals as goal

pub returns-in-Some-clause-typed : goal.returns-in-Some-clause-typed
returns-in-Some-clause-typed c = λ units tells types made.
    let tables = columns_stored c.args.tables.now in
    let u = unit_of_thread (thread_tree c.args.unit.now) in
    let given = c.in_ok-refusal.ensures.refusal units.names tells in
    refused_for_names tables units u c.in-Some.refusal c.of_names.result (sym c.in-Some.is ∙ given) c.of_names.ensures

pub returns-in-Ok-clause-typed : goal.returns-in-Ok-clause-typed
returns-in-Ok-clause-typed c = λ units tells types made.
    let tables = columns_stored c.args.tables.now in
    let u = unit_of_thread (thread_tree c.args.unit.now) in
    let given = c.in_ok-refusal.ensures.refusal units.names tells in
    let names = subst (λ (v : UnitSource). NamesAre c.in_ok-names.names (names_of_unit tables units.names.known v)) c.unit_of_thread.ensures (c.in_ok-names.ensures units.names.known tells.known) in
    let outcome =
    subst (λ (o : Result TypedThread (Refusal TypeKind)). IsOutcome (IsTypedThread tables units u) (broken_type_rules tables units u) o) c.in-Ok.is
    (c.in_ok-typed-in-None.ensures units (sym made) types names) in
    (unrefused tables units u (sym c.in-None.is ∙ given) outcome.0, outcome.1)

pub returns-clause-typed : goal.returns-clause-typed
returns-clause-typed c = λ units tells types made.
    let tables = columns_stored c.args.tables.now in
    let u = unit_of_thread (thread_tree c.args.unit.now) in
    let given = c.in_ok-refusal.ensures.refusal units.names tells in
    let names = subst (λ (v : UnitSource). NamesAre c.in_ok-names.names (names_of_unit tables units.names.known v)) c.unit_of_thread.ensures (c.in_ok-names.ensures units.names.known tells.known) in
    let outcome =
    subst (λ (o : Result TypedThread (Refusal TypeKind)). IsOutcome (IsTypedThread tables units u) (broken_type_rules tables units u) o) c.in-Err.is
    (c.in_ok-typed-in-None.ensures units (sym made) types names) in
    refused_for_types tables units u c.in-Err.refusal c.of_types.result (sym c.in-None.is ∙ given) outcome c.of_types.ensures
