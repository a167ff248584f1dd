-- What the units of a program mean, and the program on its tables.
use Rattle.std.specs.List.{range_with_len}
use Rattle.std.specs.Prelude.{ℕ, ◌+◌, nat_eq, Bool, false, if◌then◌else◌, List, [], ◌∷◌, length, filter, map, Option, Some, None}
use Rattle.ds2_value.specs.HashList.{HashItems, hash_answer}
use Rattle.ds2_value.specs.Operations.{or_null_at_fault}
use Rattle.ds2_value.specs.Progress.{at_the_start, UnitOutcome, Completed, Interrupted}
use Rattle.ds2_value.specs.Row.{Row, Columns}
use Rattle.ds2_value.specs.declared.fault.TheConstants.{CALL_DEPTH}
use Rattle.ds2_value.specs.Types.{assign_of}
use Rattle.ds2_value.specs.declared.hash_function.HashFunction.TheVariants.{Add}
use Rattle.ds2_value.specs.declared.value.Value.{Value}
use Rattle.ds2_value.specs.declared.value.Value.TheVariants.{Null}
use Rattle.ds2_value.specs.Run.{Written}
use Rattle.ds2_value.specs.declared.fault.Ending.{Ending}
use Rattle.ds2_value.specs.declared.fault.Ending.TheVariants.{Normal, Faulted}
use Rattle.ds2_table.specs.Table.{Contents}
use Rattle.ds2_table.specs.OneThread.{Units, ProgramOf, Reads, ReadsFrom, Answer, alone_answer}
use Rattle.ds2_meaning.specs.declared.globals.OutputColumn.{OutputColumn}
use Rattle.ds2_meaning.specs.declared.globals.OutputTable.{OutputTable}
use Rattle.ds2_meaning.specs.declared.globals.Variable.{Variable}
use Rattle.ds2_meaning.specs.declared.hashes.DeclaredHash.{DeclaredHash}
use Rattle.ds2_meaning.specs.declared.hashes.DeclaredIterator.{DeclaredIterator}
use Rattle.ds2_meaning.specs.declared.hashes.HashVariable.{HashVariable}
use Rattle.ds2_meaning.specs.declared.hashes.LoadedTable.{LoadedTable}
use Rattle.ds2_meaning.specs.declared.location.Global.{Global}
use Rattle.ds2_meaning.specs.declared.location.Global.TheVariants.{Named, First, Last, Present, Parameter}
use Rattle.ds2_meaning.specs.Location.{Home, Storage, Holds, Items, Position, held, with_content}
use Rattle.ds2_meaning.specs.RunState.{RunState, StatementOutcome, Proceeds, Leaves, Continues, Returns, Faults, no_locals}
use Rattle.ds2_meaning.specs.Evaluation.{Surroundings}
use Rattle.ds2_meaning.specs.Execution.{exec_all, write_each}
use Rattle.ds2_meaning.specs.HashObjects.{DeclaredObjects, object_at}
use Rattle.ds2_meaning.specs.Invocation.{invoke}
use Rattle.ds2_meaning.specs.Reading.{TableRows, Settings, value_under, number_of_groups, loads_over, row_settings, with_settings, stage_instance, stage_columns}
use Rattle.ds2_meaning.specs.ProgramTree.{BodyTree, InstanceTree, UnitTree, ProgramTree, OverTables, OverStage, reader_of, output_sources, data_vector, is_cleared, declarations_of, program_has_output}

-- ---- units

-- what the statements of a program's system methods find around them
abbrev pub program_surroundings : UnitTree → Surroundings
program_surroundings p = record { calls = invoke (declarations_of p) CALL_DEPTH; objects = p.objects; outputs = output_sources p; home = None }

-- the state in which the statements of a system method begin
abbrev pub unit_state : ℕ → Storage → RunState
unit_state budget c = record { storage = c; locals = no_locals; progress = at_the_start budget }

-- the statements of a system method on variables, with a budget
abbrev pub carry_out : UnitTree → BodyTree → ℕ → Storage → StatementOutcome
carry_out p body budget c = exec_all (program_surroundings p) body.statements (unit_state budget c)

-- a unit is completed by what is done at its end
abbrev pub completed_by : (RunState → RunState) → RunState → UnitOutcome Storage
completed_by at_end w = let u = at_end w in Completed u.storage u.progress 0

-- a unit is at its end where its statements are done or return; `leave` and `continue` outside of loops, which no typed program has,
-- end it likewise
abbrev pub unit_end : (RunState → RunState) → StatementOutcome → UnitOutcome Storage
unit_end at_end (Proceeds w) = completed_by at_end w
unit_end at_end (Leaves w) = completed_by at_end w
unit_end at_end (Continues w) = completed_by at_end w
unit_end at_end (Returns v w) = completed_by at_end w
unit_end at_end (Faults f w) = Interrupted f w.progress 0

-- nothing is done at the end of `init` and `term`
abbrev pub nothing_more : RunState → RunState
nothing_more w = w

-- a program without an `output` statement writes a row to each of its outputs at the end of `run`
abbrev pub implicit_output : UnitTree → RunState → RunState
implicit_output p w = if program_has_output p then w else write_each None (output_sources p) (range_with_len 0 (length p.outputs)) w

-- `run` sets this global of the program to null
abbrev pub is_cleared_global : UnitTree → Global → Bool
is_cleared_global p (Named name) = is_cleared p name
is_cleared_global p _ = false

-- `run` sets this location to null; what belongs to an instance is never set to null
abbrev pub is_cleared_at : UnitTree → Home → Global → Bool
is_cleared_at p None global = is_cleared_global p global
is_cleared_at p (Some instance) global = false

-- the variables before a load: those that `run` sets to null are null
abbrev pub with_cleared : UnitTree → Storage → Storage
with_cleared p before = λ at. if is_cleared_at p at.home at.global then Holds Null else before at

-- the units of a program, each with this budget; `run` sets variables to null, then has what its load sets
abbrev pub program_units : UnitTree → ℕ → Units Settings Storage
program_units p budget = record {
  init = λ c. unit_end nothing_more (carry_out p p.init budget c);
  run = λ load c. unit_end (implicit_output p) (carry_out p p.run budget (with_settings load (with_cleared p c)));
  term = λ c. unit_end nothing_more (carry_out p p.term budget c);
}

-- ---- programs

-- before a program begins nothing is kept: every variable is null
abbrev pub nothing_kept : Storage
nothing_kept at = Holds Null

-- the name of a global
abbrev pub global_name : Global → List ℕ
global_name (Named name) = name
global_name (First name) = name
global_name (Last name) = name
global_name (Present name) = name
global_name (Parameter name) = name

-- what a row has for the variables of a hash object: the column of each one's name, in its type
abbrev pub row_for_variables : List HashVariable → Columns → Row → Row
row_for_variables variables columns row =
    map (λ (v : HashVariable). or_null_at_fault (assign_of (value_under (global_name v.global) columns row) v.ty)) variables

-- the items with those of rows of a table, in their order; of several rows with one key the first one stays
abbrev pub with_rows_as_items : DeclaredHash → Columns → List Row → HashItems → HashItems
with_rows_as_items hash columns [] items = items
with_rows_as_items hash columns (row ∷ rows) items =
    with_rows_as_items hash columns rows
    (hash_answer Add (row_for_variables hash.key_variables columns row) (row_for_variables hash.data_variables columns row) items).items

-- the items with which a hash object begins: none, or those of the rows of its table
abbrev pub first_items : DeclaredHash → Option LoadedTable → TableRows → HashItems
first_items hash None tables = []
first_items hash (Some loaded) tables = with_rows_as_items hash loaded.columns (tables loaded.table) []

-- hash objects have the items with which they begin
abbrev pub with_hashes_opened : TableRows → Home → List DeclaredHash → Storage → Storage
with_hashes_opened tables home [] before = before
with_hashes_opened tables home (h ∷ hashes) before =
    with_content (object_at home h.name) (Items (first_items h h.loaded tables)) (with_hashes_opened tables home hashes before)

-- iterators stand nowhere
abbrev pub with_iterators_opened : Home → List DeclaredIterator → Storage → Storage
with_iterators_opened home [] before = before
with_iterators_opened home (i ∷ iterators) before = with_content (object_at home i.name) (Position None) (with_iterators_opened home iterators before)

-- the hash objects of a home are loaded, and its iterators stand nowhere
abbrev pub with_objects_opened : TableRows → Home → DeclaredObjects → Storage → Storage
with_objects_opened tables home objects before = with_hashes_opened tables home objects.hashes (with_iterators_opened home objects.iterators before)

-- likewise those of instances
abbrev pub with_instances_opened : TableRows → List InstanceTree → Storage → Storage
with_instances_opened tables [] before = before
with_instances_opened tables (i ∷ instances) before =
    with_objects_opened tables (Some i.name) i.objects (with_instances_opened tables instances before)

-- the parameters of a thread program have these values, as many as there are; the others stay as they are
abbrev pub with_parameters : List Variable → List Value → Storage → Storage
with_parameters [] values before = before
with_parameters (p ∷ ps) [] before = before
with_parameters (p ∷ ps) (v ∷ vs) before = with_parameters ps vs (with_content (record { home = None; global = Parameter p.name }) (Holds v) before)

-- what is kept where a program begins over these tables with these values of its parameters: every variable is null, hash objects
-- are loaded, and iterators stand nowhere
abbrev pub opening_of : UnitTree → TableRows → List Value → Storage
opening_of p tables values =
    with_parameters p.parameters values (with_objects_opened tables None p.objects (with_instances_opened tables p.instances nothing_kept))

-- the values that the last `setparms` gave to the parameters of an instance; null where there was none
abbrev pub parameters_given : List ℕ → List Variable → Storage → List Value
parameters_given instance parameters c = map (λ (p : Variable). held (c (record { home = Some instance; global = Parameter p.name }))) parameters

-- the values that a program gives to the parameters of the thread program that it reads from
abbrev pub parameters_for_stage : UnitTree → (stage : ProgramTree) → Storage → List Value
parameters_for_stage p stage = parameters_given (stage_instance p.reading) (reader_of stage).parameters

-- the load of a program that a row of the thread program that it reads from is
abbrev pub load_of_row : UnitTree → Row → Settings
load_of_row p = row_settings (data_vector p) (stage_columns p.reading)

-- a program as units over its loads, which make groups at a grain, or over the rows of the thread program that it reads from
abbrev pub program_over_loads : ProgramTree → TableRows → (budget grain : ℕ) → ProgramOf Settings Storage
program_over_loads (OverTables p) tables budget grain =
    Reads (program_units p budget) (loads_over (data_vector p) p.reading tables) (number_of_groups grain p.reading tables)
program_over_loads (OverStage p stage) tables budget grain =
    ReadsFrom (program_units p budget) (program_over_loads stage tables budget grain) (opening_of (reader_of stage) tables) (parameters_for_stage p stage) (load_of_row p)

-- the one-thread answer of a program with these values of its parameters, over these tables. The grain, which fits the reading
-- statement of the program that reads tables, changes the number of groups alone
abbrev pub program_answer : ProgramTree → List Value → TableRows → (budget grain : ℕ) → Answer
program_answer p values tables budget grain = alone_answer (program_over_loads p tables budget grain) (opening_of (reader_of p) tables values)

-- ---- tables

-- a table that a program makes: its name, whether a file of that name may be written over, its columns and its rows
pub record MadeTable : Type 0 where
  pub name : List ℕ
  pub overwrites : Bool
  pub contents : Contents

-- the columns of an output
abbrev pub output_columns : OutputTable → Columns
output_columns output = map (λ (c : OutputColumn). record { name = c.name; ty = c.ty }) output.columns

-- the rows that were written to the output of this number, in order
abbrev pub rows_written : ℕ → List Written → List Row
rows_written number rows = map (λ (w : Written). w.row) (filter (λ (w : Written). nat_eq w.output number) rows)

-- the tables of outputs, numbered from this number on
abbrev pub tables_made : ℕ → List OutputTable → List Written → List MadeTable
tables_made number [] rows = []
tables_made number (output ∷ outputs) rows =
    record { name = output.name; overwrites = output.overwrites; contents = record { columns = output_columns output; rows = rows_written number rows } }
    ∷ tables_made (number + 1) outputs rows

-- the tables that a program leaves that ended so: those of all its outputs after a normal end, and none after a fault
abbrev pub tables_left_at : Option Ending → List MadeTable → List MadeTable
tables_left_at (Some Normal) tables = tables
tables_left_at (Some (Faulted fault place)) tables = []
tables_left_at None tables = []

-- the tables that a program leaves with this answer
abbrev pub tables_left : UnitTree → Answer → List MadeTable
tables_left p answer = tables_left_at answer.ending (tables_made 0 p.outputs answer.rows)
