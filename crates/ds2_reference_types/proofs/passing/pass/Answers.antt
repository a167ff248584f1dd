use Rattle.ds2_reference_types.specs.Passing.{passed_part, passed_refusals}
use Rattle.ds2_reference_types.proofs.PassingForms.{further_argument, longer_arguments}
use Rattle.ds2_reference_types.proofs.passing.pass.Goals as goal

pub returns-in-Err : goal.returns-in-Err
returns-in-Err c = λ refusals parts e b p h v.
    further_argument parts (passed_part c.args.p.now e) refusals (passed_refusals c.args.p.now e) c.args.before c.in_ok-argument.argument c.arguments_and.result _ b
    (c.in_ok-argument.ensures e p h v) c.arguments_and.ensures c.in-Err.is

pub returns-in_ok-all-in-Ok : goal.returns-in_ok-all-in-Ok
returns-in_ok-all-in-Ok c = λ refusals parts e b p h v.
    let so = further_argument parts (passed_part c.args.p.now e) refusals (passed_refusals c.args.p.now e) c.args.before c.in_ok-argument.argument c.arguments_and.result _ b
    (c.in_ok-argument.ensures e p h v) c.arguments_and.ensures c.in-Ok.is in
    (so.0, longer_arguments parts (passed_part c.args.p.now e) c.in-Ok.further c.in_ok-all-in-Ok.all so.1 c.in_ok-all-in-Ok.ensures)
