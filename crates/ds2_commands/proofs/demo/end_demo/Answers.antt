use Rattle.std.proofs.Common.{sym, subst}
use Rattle.ds2_commands.specs.DemoOutcomes.{EndsDemo}
use Rattle.ds2_commands.proofs.demo.end_demo.Goals as goal

pub returns-in-Ok : goal.returns-in-Ok
returns-in-Ok c = subst (λ ran. EndsDemo c.args.n ran c.args.text.now c.args.log.now c.tell_end.result c.tell_end.new.log) (sym c.in-Ok.is) (c.tell_end.ensures tt)
