use Rattle.ds2_store_steps.proofs.FileSteps.{write_failed}
use Rattle.ds2_store_steps.proofs.files.write_file.Goals as goal

pub returns-in-Err-Failed-clause-does : goal.returns-in-Err-Failed-clause-does
returns-in-Err-Failed-clause-does g c rest =
    write_failed c.args.name.now c.args.bytes.now c.args.session.now.log rest (g.S.Store.files c.args.session.now.store.now) (g.S.Store.files c.write.new.self) c.fail_write.result c.fail_write.new.log c.fail_write.ensures c.in-Err-Failed.ensures.err
