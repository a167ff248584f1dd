use Rattle.std.proofs.Common.{Ok, Err, ap, ◌∙◌}
use Rattle.std.specs.Option.{option_map}
use Rattle.ds2_meaning.specs.View.{typed_thread_program}
use Rattle.ds2_elaboration.specs.ProgramTypes.{broken_type_rules}
use Rattle.ds2_simple_statement_types.proofs.PartOutcomes.{stands_of}
use Rattle.ds2_program_types.specs.TypedPrograms.{IsProgramOf}
use Rattle.ds2_program_types.specs.UnitsAtHand.{columns_at_hand, source_at_hand}
use Rattle.ds2_program_types.proofs.programs.with_stage.Goals as goal

pub returns-in-Err : goal.returns-in-Err
returns-in-Err c = λ before t m h p s.
    let u = source_at_hand c.args.unit in
    let tables = columns_at_hand c.args.unit in
    stands_of (IsProgramOf tables before u) (broken_type_rules tables before u) c.in_ok-typed.typed (Err c.in-Err.refusal) (c.in_ok-typed.ensures before t m h p) c.in-Err.is

pub returns-in_ok-stage-in-Ok : goal.returns-in_ok-stage-in-Ok
returns-in_ok-stage-in-Ok c = λ before t m h p s.
    let u = source_at_hand c.args.unit in
    let tables = columns_at_hand c.args.unit in
    let so = stands_of (IsProgramOf tables before u) (broken_type_rules tables before u) c.in_ok-typed.typed (Ok c.in-Ok.program) (c.in_ok-typed.ensures before t m h p) c.in-Ok.is in
    (so.0, record { program = so.1; stage = ap (option_map typed_thread_program) c.in_ok-stage-in-Ok.ensures ∙ s })
