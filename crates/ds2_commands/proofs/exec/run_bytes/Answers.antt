use Rattle.std.proofs.Common.{refl}
use Rattle.ds2_commands.proofs.ObjectSteps.{bytes_refused, bytes_short, object_ran}
use Rattle.ds2_commands.proofs.exec.run_bytes.Goals as goal

pub returns-in-Ok-clause-does : goal.returns-in-Ok-clause-does
returns-in-Ok-clause-does g c =
    object_ran c.args.bytes.now c.args.budget c.in-Ok.object c.args.session.now.log c.run_object.new.session.log (g.S.Store.files c.args.session.now.store.now) (g.S.Store.files c.run_object.new.session.store.now) c.run_object.result c.in-Ok.ensures c.run_object.ensures.does

pub returns-in-Err-Refused-clause-does : goal.returns-in-Err-Refused-clause-does
returns-in-Err-Refused-clause-does g c =
    bytes_refused c.args.bytes.now c.args.budget c.in-Err-Refused.refusal c.in-Err-Refused.field-0 c.args.session.now.log c.refuse_object.new.log (g.S.Store.files c.args.session.now.store.now) (g.S.Store.files c.args.session.now.store.now) c.refuse_object.result
    c.in-Err-Refused.field-0-is c.in-Err-Refused.ensures c.refuse_object.ensures refl

pub returns-in-Err-OutOfMemory-clause-does : goal.returns-in-Err-OutOfMemory-clause-does
returns-in-Err-OutOfMemory-clause-does g c = bytes_short c.args.bytes.now c.args.budget c.args.session.now.log (g.S.Store.files c.args.session.now.store.now)
