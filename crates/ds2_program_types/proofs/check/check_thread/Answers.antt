use Rattle.std.proofs.Common.{Ok, Err, refl}
use Rattle.ds2_elaboration.specs.ProgramTypes.{broken_type_rules}
use Rattle.ds2_names.specs.SourceUnit.{columns_stored, unit_of_thread}
use Rattle.ds2_scope.specs.CodeUnits.{unit_source}
use Rattle.ds2_tree.specs.UnitViews.{thread_tree}
use Rattle.ds2_simple_statement_types.proofs.PartOutcomes.{stands_of}
use Rattle.ds2_program_types.specs.TypedPrograms.{IsStagedProgram}
use Rattle.ds2_program_types.proofs.TreeForms.{of_source}
use Rattle.ds2_program_types.proofs.check.check_thread.Goals as goal

pub returns-in-Err : goal.returns-in-Err
returns-in-Err c = λ before m t n.
    let u = unit_of_thread (thread_tree c.args.unit.now) in
    let tables = columns_stored c.args.tables.now in
    let so = of_source IsStagedProgram tables before c.args.names.now (unit_source c.unit_of_thread-own.result) u c.in_ok-typed.typed c.unit_of_thread-own.ensures refl (c.in_ok-typed.ensures before t m) n in
    stands_of (IsStagedProgram tables before u) (broken_type_rules tables before u) c.in_ok-typed.typed (Err c.in-Err.refusal) so c.in-Err.is

pub returns-in_ok-head-in-Ok : goal.returns-in_ok-head-in-Ok
returns-in_ok-head-in-Ok c = λ before m t n.
    let u = unit_of_thread (thread_tree c.args.unit.now) in
    let tables = columns_stored c.args.tables.now in
    let so = of_source IsStagedProgram tables before c.args.names.now (unit_source c.unit_of_thread-own.result) u c.in_ok-typed.typed c.unit_of_thread-own.ensures refl (c.in_ok-typed.ensures before t m) n in
    let typed = stands_of (IsStagedProgram tables before u) (broken_type_rules tables before u) c.in_ok-typed.typed (Ok c.in-Ok.program) so c.in-Ok.is in
    (typed.0, c.thread_of-thread.ensures tables before (thread_tree c.args.unit.now) c.in_ok-head-in-Ok.ensures typed.1)
