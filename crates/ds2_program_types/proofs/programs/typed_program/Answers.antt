use Rattle.std.proofs.Common.{Ok, Err}
use Rattle.ds2_elaboration.specs.ProgramTypes.{broken_type_rules}
use Rattle.ds2_simple_statement_types.proofs.PartOutcomes.{stands_of}
use Rattle.ds2_program_types.specs.TypedMethodLists.{AreInstancesAndMethods}
use Rattle.ds2_program_types.specs.UnitsAtHand.{columns_at_hand, source_at_hand}
use Rattle.ds2_program_types.proofs.programs.typed_program.Goals as goal

pub returns-in-Err : goal.returns-in-Err
returns-in-Err c = λ before t m h n.
    let u = source_at_hand c.args.unit in
    let tables = columns_at_hand c.args.unit in
    stands_of (AreInstancesAndMethods tables before u) (broken_type_rules tables before u) c.in_ok-typed.typed (Err c.in-Err.refusal) (c.in_ok-typed.ensures before t m h) c.in-Err.is

pub returns-in_ok-program-in-Ok : goal.returns-in_ok-program-in-Ok
returns-in_ok-program-in-Ok c = λ before t m h n.
    let u = source_at_hand c.args.unit in
    let tables = columns_at_hand c.args.unit in
    let so = stands_of (AreInstancesAndMethods tables before u) (broken_type_rules tables before u) c.in_ok-typed.typed (Ok c.in-Ok.both) (c.in_ok-typed.ensures before t m h) c.in-Ok.is in
    (so.0, c.in_ok-program-in-Ok.ensures before m h n so.1.0 so.1.1)
