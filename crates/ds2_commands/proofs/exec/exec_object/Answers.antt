use Rattle.ds2_commands.proofs.ObjectSteps.{object_ends, object_then}
use Rattle.ds2_commands.proofs.exec.exec_object.Goals as goal

pub returns-in_err-bytes-clause-does : goal.returns-in_err-bytes-clause-does
returns-in_err-bytes-clause-does g c =
    object_ends c.args.name.now c.args.budget c.args.session.now.log c.read_file.new.session.log (g.S.Store.files c.args.session.now.store.now) (g.S.Store.files c.read_file.new.session.store.now) c.in_err-bytes.field-0.0 c.from_residual.result
    c.from_residual.ensures.1 c.in_err-bytes.ensures.loads

pub returns-clause-does : goal.returns-clause-does
returns-clause-does g c =
    object_then c.args.name.now c.args.budget c.in_ok-bytes.bytes c.args.session.now.log c.read_file.new.session.log c.run_bytes.new.session.log (g.S.Store.files c.args.session.now.store.now) (g.S.Store.files c.read_file.new.session.store.now)
    (g.S.Store.files c.run_bytes.new.session.store.now) c.run_bytes.result c.requires.named c.in_ok-bytes.ensures.loads c.run_bytes.ensures.does
