use Rattle.ds2_store_steps.proofs.TableSteps.{file_is_no_read, file_is_no_write, kept_cause, table_read, table_unnamed, table_unread}
use Rattle.ds2_csv.specs.Reads.{reads}
use Rattle.ds2_answer.specs.declared.status.Status.TheVariants.{Read, Write}
use Rattle.ds2_store_steps.proofs.tables.read_one.Goals as goal

pub returns-in_err-file-clause-loads : goal.returns-in_err-file-clause-loads
returns-in_err-file-clause-loads g c = table_unnamed c.args.references.now c.args.name.now c.args.session.now.log (g.S.Store.files c.args.session.now.store.now) c.from_residual.result c.from_residual.ensures.1

pub returns-in_err-bytes-clause-loads : goal.returns-in_err-bytes-clause-loads
returns-in_err-bytes-clause-loads g c =
    table_unread c.args.references.now c.args.name.now c.in_ok-file.file c.args.session.now.log (g.S.Store.files c.args.session.now.store.now) (g.S.Store.files c.read_file.new.session.store.now) c.in_err-bytes.field-0.0 c.read_file.new.session.log c.from_residual-in_err-bytes.result
    c.in_ok-file.ensures c.from_residual-in_err-bytes.ensures.1 c.in_err-bytes.ensures.loads

pub returns-clause-loads : goal.returns-clause-loads
returns-clause-loads g c =
    table_read c.args.references.now c.args.name.now c.in_ok-file.file c.in_ok-bytes.bytes c.args.session.now.log c.read_file.new.session.log (g.S.Store.files c.args.session.now.store.now) (g.S.Store.files c.read_file.new.session.store.now) c.kept_table.result c.kept_table.new.log
    c.in_ok-file.ensures c.in_ok-bytes.ensures.loads c.kept_table.ensures

pub returns-clause-cause : goal.returns-clause-cause
returns-clause-cause g c = record {
  same_store = c.in_ok-bytes.ensures.cause.same_store;
  read = kept_cause c.args.references.now c.args.name.now (reads c.in_ok-bytes.bytes) c.read_file.new.session.log c.kept_table.new.log c.kept_table.result Read (g.S.Store.read_faults c.args.session.now.store.now) (g.S.Store.read_faults c.read_file.new.session.store.now) file_is_no_read
      c.in_ok-bytes.ensures.cause.read.later c.kept_table.ensures;
  write = kept_cause c.args.references.now c.args.name.now (reads c.in_ok-bytes.bytes) c.read_file.new.session.log c.kept_table.new.log c.kept_table.result Write (g.S.Store.write_faults c.args.session.now.store.now) (g.S.Store.write_faults c.read_file.new.session.store.now) file_is_no_write
      c.in_ok-bytes.ensures.cause.write.later c.kept_table.ensures;
}
