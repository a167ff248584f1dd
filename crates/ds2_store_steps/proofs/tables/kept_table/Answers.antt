use Rattle.std.proofs.Common.{Result, Ok, subst, sym}
use Rattle.ds2_table.specs.Table.{Contents}
use Rattle.ds2_csv.specs.Reads.{reads}
use Rattle.ds2_csv.specs.declared.refusal.CsvRefusal.{CsvRefusal}
use Rattle.ds2_answer.specs.HeldTables.{NamedTable}
use Rattle.ds2_store_steps.specs.TableReads.{KeepsRead}
use Rattle.ds2_store_steps.proofs.TableSteps.{nothing_kept, table_unkept}
use Rattle.ds2_store_steps.proofs.tables.kept_table.Goals as goal

pub returns-in_ok-kept-in-Ok : goal.returns-in_ok-kept-in-Ok
returns-in_ok-kept-in-Ok c =
    subst (λ (r : Result Contents CsvRefusal). KeepsRead c.args.references.now c.args.name.now r c.args.log.now c.keep_table.result c.keep_table.new.log) (sym c.in-Ok.ensures)
    (subst (λ (t : NamedTable). KeepsRead c.args.references.now t.name (Ok t.contents) c.args.log.now c.keep_table.result c.keep_table.new.log) c.in_ok-kept-in-Ok.ensures c.keep_table.ensures)

pub returns-in_err-kept-in-Ok : goal.returns-in_err-kept-in-Ok
returns-in_err-kept-in-Ok c = table_unkept c.args.references.now c.args.name.now (reads c.args.bytes.now) c.args.log.now c.args.log.now c.from_residual.result c.from_residual.ensures.1

pub returns-in-Err-OutOfMemory : goal.returns-in-Err-OutOfMemory
returns-in-Err-OutOfMemory c = λ told go. nothing_kept c.args.references.now c.args.name.now (reads c.args.bytes.now) c.args.log.now c.args.log.now told go
