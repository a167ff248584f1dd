use Rattle.ds2_deeds.specs.NamedMethods.{methods_named}
use Rattle.ds2_deeds.proofs.MethodLemmas.{method_added}
use Rattle.ds2_deeds.proofs.methods.add_methods.Goals as goal

pub methods-preserved : goal.methods-preserved
methods-preserved c = method_added c.methods.methods c.push.new.self (methods_named c.args.methods.now) c.args.home c.methods.number c.in_ok-push.ensures.ok c.methods.invariant
