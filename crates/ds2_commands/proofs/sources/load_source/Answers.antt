use Rattle.ds2_commands.proofs.LoadSteps.{file_ends, file_then}
use Rattle.ds2_commands.proofs.sources.load_source.Goals as goal

pub returns-in_err-bytes-clause-loads : goal.returns-in_err-bytes-clause-loads
returns-in_err-bytes-clause-loads g c sources =
    file_ends sources c.args.name.now c.args.session.now.log c.read_file.new.session.log (g.S.Store.files c.args.session.now.store.now) (g.S.Store.files c.read_file.new.session.store.now) c.in_err-bytes.field-0.0 c.from_residual.result
    c.from_residual.ensures.1 c.in_err-bytes.ensures.loads

pub returns-clause-loads : goal.returns-clause-loads
returns-clause-loads g c sources =
    file_then sources c.args.name.now c.in_ok-bytes.bytes c.args.session.now.log c.read_file.new.session.log c.load_bytes.new.session.log (g.S.Store.files c.args.session.now.store.now) (g.S.Store.files c.read_file.new.session.store.now)
    (g.S.Store.files c.load_bytes.new.session.store.now) c.load_bytes.result c.requires c.in_ok-bytes.ensures.loads (c.load_bytes.ensures.loads sources)
