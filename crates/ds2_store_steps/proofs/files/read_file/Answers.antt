use Rattle.std.proofs.Common.{arith}
use Rattle.ds2_answer.specs.declared.kinds.FileKind.TheVariants.{Absent, TooLarge}
use Rattle.ds2_store_steps.specs.declared.halt.Halt.TheVariants.{OutOfMemory}
use Rattle.ds2_store_steps.proofs.FileSteps.{load_failed, load_refused, over_absent, over_long}
use Rattle.ds2_store_steps.proofs.files.read_file.Goals as goal

pub returns-in-Ok-clause-loads : goal.returns-in-Ok-clause-loads
returns-in-Ok-clause-loads g c =
    load_refused (g.S.Store.files c.args.session.now.store.now) (g.S.Store.files c.read.new.self) c.args.limit c.args.name.now TooLarge c.args.session.now.log c.refuse_file.result c.refuse_file.new.log
    (over_long (g.S.Store.files c.args.session.now.store.now) c.args.limit c.args.name.now c.in-Ok.bytes c.in-Ok.ensures.bytes (omega (arith, c.len.ensures, c.if-len-limit.true))) c.refuse_file.ensures c.read.ensures.files

pub returns-in-Err-Absent-clause-loads : goal.returns-in-Err-Absent-clause-loads
returns-in-Err-Absent-clause-loads g c =
    load_refused (g.S.Store.files c.args.session.now.store.now) (g.S.Store.files c.read.new.self) c.args.limit c.args.name.now Absent c.args.session.now.log c.refuse_file-in-Err-Absent.result c.refuse_file-in-Err-Absent.new.log
    (over_absent (g.S.Store.files c.args.session.now.store.now) c.args.limit c.args.name.now c.read.result c.in-Err-Absent.field-0 c.read.ensures.bytes c.in-Err-Absent.is c.in-Err-Absent.field-0-is) c.refuse_file-in-Err-Absent.ensures c.read.ensures.files

pub returns-in-Err-Failed-clause-loads : goal.returns-in-Err-Failed-clause-loads
returns-in-Err-Failed-clause-loads g c =
    load_failed (g.S.Store.files c.args.session.now.store.now) (g.S.Store.files c.read.new.self) c.args.limit c.args.name.now c.args.session.now.log c.fail_read.result c.fail_read.new.log c.fail_read.ensures c.read.ensures.files

pub returns-in-Err-OutOfMemory-clause-loads : goal.returns-in-Err-OutOfMemory-clause-loads
returns-in-Err-OutOfMemory-clause-loads g c =
    load_failed (g.S.Store.files c.args.session.now.store.now) (g.S.Store.files c.read.new.self) c.args.limit c.args.name.now c.args.session.now.log OutOfMemory c.args.session.now.log tt c.read.ensures.files
