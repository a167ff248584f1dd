-- What the run of code leaves in the log, and over which tables code can be run.
use Rattle.std.specs.Prelude.{◌≡◌, ℕ, ◌==◌, true, IsTrue, List, []}
use Rattle.std.specs.List.{AllByRecursion, flat_map}
use Rattle.ds2_table.specs.Table.{Contents}
use Rattle.ds2_code.specs.declared.parts.StagedParts.{StagedParts}
use Rattle.ds2_code.specs.declared.parts.TableReference.{TableReference}
use Rattle.ds2_object.specs.ObjectSpelling.{linked_behind}
use Rattle.ds2_answer.specs.HeldTables.{NamedTable, contents_named}
use Rattle.ds2_answer.specs.Lines.{table_line}
use Rattle.ds2_answer.specs.ObjectPlans.{references_of}
use Rattle.ds2_exec.specs.declared.output_sink.OutputSink.{OutputSink}

-- the lines that count the rows of tables
abbrev pub rows_counted : List OutputSink → List ℕ
rows_counted tables = flat_map (λ (t : OutputSink). table_line t.written.name t.written.rows) tables

-- among tables of the store the one that a reference means has the columns that it names
abbrev pub HasColumnsStored : List NamedTable → TableReference → Type 0
HasColumnsStored stored r = (r.maker == 0) ≡ true → Contents.columns (contents_named stored r.name) ≡ r.columns

-- programs can be run one behind the other over tables of the store: each table that one names is among these with its columns, or an earlier
-- program makes it
pub record AreLinked (codes : List StagedParts) (stored : List NamedTable) : Type 0 where
  pub links : IsTrue (linked_behind [] codes)
  pub columns : AllByRecursion (HasColumnsStored stored) (references_of codes)
