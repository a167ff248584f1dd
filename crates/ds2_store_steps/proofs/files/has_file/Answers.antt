use Rattle.ds2_store_steps.proofs.FileSteps.{ask_failed}
use Rattle.ds2_store_steps.proofs.files.has_file.Goals as goal

pub returns-in-Err-clause-asks : goal.returns-in-Err-clause-asks
returns-in-Err-clause-asks g c = (
  c.has.ensures.files,
  λ rest. ask_failed c.args.name.now rest c.args.session.now.log (g.S.Store.files c.args.session.now.store.now) (g.S.Store.files c.has.new.self) c.fail_read.result c.fail_read.new.log c.fail_read.ensures c.has.ensures.files,
)
