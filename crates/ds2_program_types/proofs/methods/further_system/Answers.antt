use Rattle.std.proofs.Common.{Ok, Err}
use Rattle.ds2_simple_statement_types.proofs.PartOutcomes.{AreBoth, both_stand, stands_of}
use Rattle.ds2_program_types.specs.TypedMethodLists.{AreMethodsOf, IsSystemOf}
use Rattle.ds2_program_types.proofs.methods.further_system.Goals as goal

pub returns-in-Err : goal.returns-in-Err
returns-in-Err c = λ tables before u methods own xs ys h s n k.
    stands_of (AreBoth (AreMethodsOf tables before u methods) (IsSystemOf tables before u own)) _ c.of_both.result (Err c.in-Err.refusal)
    (both_stand (AreMethodsOf tables before u methods) (IsSystemOf tables before u own) xs ys c.args.so_far c.args.m c.of_both.result h k c.of_both.ensures)
    c.in-Err.is

pub returns-in-Ok : goal.returns-in-Ok
returns-in-Ok c = λ tables before u methods own xs ys h s n k.
    let so = stands_of (AreBoth (AreMethodsOf tables before u methods) (IsSystemOf tables before u own)) _ c.of_both.result (Ok c.in-Ok.parts)
    (both_stand (AreMethodsOf tables before u methods) (IsSystemOf tables before u own) xs ys c.args.so_far c.args.m c.of_both.result h k c.of_both.ensures)
    c.in-Ok.is in
    (so.0, c.with_system.ensures tables before u methods own so.1.0 s n so.1.1)
