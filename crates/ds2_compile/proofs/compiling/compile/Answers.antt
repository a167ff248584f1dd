use Rattle.std.proofs.Common.{◌≡◌, List, map, IfOk, Result, subst, sym, ap, ◌∙◌}
use Rattle.std.specs.List.{AllByRecursion}
use Rattle.ds2_base.specs.declared.stop.Stop.{Stop}
use Rattle.ds2_tree.specs.UnitViews.{source_tree}
use Rattle.ds2_meaning.specs.View.{typed_data_program}
use Rattle.ds2_meaning.specs.declared.units.TypedData.{TypedData}
use Rattle.ds2_meaning.specs.declared.units.TypedThread.{TypedThread}
use Rattle.ds2_names.specs.SourceUnit.{TableColumns, columns_stored}
use Rattle.ds2_elaboration.specs.Elaboration.{elaborated_source}
use Rattle.ds2_elaboration.specs.TypedPrograms.{HaveSchemas}
use Rattle.ds2_code.specs.ValidCode.{IsValidStaged}
use Rattle.ds2_code.specs.declared.parts.StagedParts.{StagedParts}
use Rattle.ds2_same_meaning.specs.SameAnswer.{HasNamedInstances}
use Rattle.ds2_source.specs.declared.kinds.SourceRefusal.{SourceRefusal}
use Rattle.ds2_compile.specs.SourceOutcomes.{IsOutcomeOfSource}
use Rattle.ds2_compile.specs.declared.programs.TypedSource.{TypedSource}
use Rattle.ds2_compile.specs.SourceThreads.{AreThreadsOfSource}
use Rattle.ds2_compile.proofs.SourceSteps.{text_stands}
use Rattle.ds2_verdicts.specs.ThreadVerdicts.{IsTyped, verdicts_on}
use Rattle.ds2_compile.specs.CodesOfPrograms.{AreCodesOf}
use Rattle.ds2_compile.specs.declared.compiling.Compiled.{Compiled}
use Rattle.ds2_compile.proofs.CompiledOutcomes.{source_compiled, source_linked}
use Rattle.ds2_compile.proofs.SourceThreads.{threads_beside, verdicts_are}
use Rattle.ds2_compile.proofs.StagedCodes.{code_of_typed}
use Rattle.ds2_compile.proofs.compiling.compile.Goals as goal

pub typed_source-requires-clause-schemas : goal.typed_source-requires-clause-schemas
typed_source-requires-clause-schemas c = subst (λ (t : TableColumns). HaveSchemas t) (ap columns_stored c.as_slice.ensures) c.read_schemas.ensures

pub object_of-requires : goal.object_of-requires
object_of-requires c =
    let tables = columns_stored c.args.schemas.now.tables in
    let parts = source_tree c.args.source.now in
    let schemas = subst (λ (t : TableColumns). HaveSchemas t) (ap columns_stored c.as_slice.ensures) c.read_schemas.ensures in
    let is = subst (λ (o : Result TypedSource (Stop SourceRefusal)). IsOutcomeOfSource (elaborated_source tables parts) o) c.in-Ok.is c.typed_source.ensures.programs in
    source_linked c.every_text_is_typed.ensures tables parts schemas c.requires.text c.in-Ok.typed.programs is c.outputs_have_slots.ensures c.in_ok-codes-in-Ok.codes
    (c.in_ok-codes-in-Ok.ensures.codes ∙ ap (λ (ds : List TypedData). map code_of_typed ds) c.as_slice-all.ensures)

pub judge_threads-requires : goal.judge_threads-requires
judge_threads-requires c =
    let tables = columns_stored c.args.schemas.now.tables in
    let parts = source_tree c.args.source.now in
    let schemas = subst (λ (t : TableColumns). HaveSchemas t) (ap columns_stored c.as_slice.ensures) c.read_schemas.ensures in
    let is = subst (λ (o : Result TypedSource (Stop SourceRefusal)). IsOutcomeOfSource (elaborated_source tables parts) o) c.in-Ok.is c.typed_source.ensures.programs in
    let are = subst (λ (o : Result TypedSource (Stop SourceRefusal)). IfOk o (λ (typed : TypedSource). AreThreadsOfSource tables parts typed.threads)) c.in-Ok.is c.typed_source.ensures.threads in
    subst (λ (ts : List TypedThread). AllByRecursion IsTyped ts) (sym c.as_slice-in-Ok.ensures)
    (threads_beside c.every_thread_is_typed.ensures tables parts c.in-Ok.typed.programs c.in-Ok.typed.threads schemas (text_stands c.tokens_stand_in_order.ensures parts c.requires.text) is are)

pub returns-in_ok-verdicts-in-Ok : goal.returns-in_ok-verdicts-in-Ok
returns-in_ok-verdicts-in-Ok c =
    let tables = columns_stored c.args.schemas.now.tables in
    let parts = source_tree c.args.source.now in
    let schemas = subst (λ (t : TableColumns). HaveSchemas t) (ap columns_stored c.as_slice.ensures) c.read_schemas.ensures in
    let is = subst (λ (o : Result TypedSource (Stop SourceRefusal)). IsOutcomeOfSource (elaborated_source tables parts) o) c.in-Ok.is c.typed_source.ensures.programs in
    let are = subst (λ (o : Result TypedSource (Stop SourceRefusal)). IfOk o (λ (typed : TypedSource). AreThreadsOfSource tables parts typed.threads)) c.in-Ok.is c.typed_source.ensures.threads in
    let compiled : Compiled = record { object = c.in_ok-object-in-Ok.object; verdicts = c.in_ok-verdicts-in-Ok.verdicts } in
    source_compiled c.every_text_is_typed.ensures tables parts schemas c.requires.text c.in-Ok.typed.programs is c.typed_programs_mean_same.ensures c.local_stages_are_independent.ensures compiled
    (subst (λ (ds : List TypedData). AllByRecursion (λ (d : TypedData). HasNamedInstances (typed_data_program d)) ds) c.as_slice-all.ensures c.read_instances.ensures)
    (c.in_ok-object-in-Ok.ensures.object ∙ c.in_ok-codes-in-Ok.ensures.codes ∙ ap (λ (ds : List TypedData). map code_of_typed ds) c.as_slice-all.ensures)
    (record { each = subst (λ (cs : List StagedParts). AllByRecursion IsValidStaged cs) (sym c.in_ok-object-in-Ok.ensures.object) c.in_ok-codes-in-Ok.ensures.valid; links = c.in_ok-object-in-Ok.ensures.linked })
    (c.in_ok-verdicts-in-Ok.ensures ∙ ap (verdicts_on parts) c.as_slice-in-Ok.ensures ∙ verdicts_are c.typed_threads_are_judged.ensures tables parts c.in-Ok.typed.threads are)
