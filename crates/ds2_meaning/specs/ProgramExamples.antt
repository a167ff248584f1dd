-- What small programs over tables leave, written out from the rules by hand. Each stands behind its source.
use Rattle.std.specs.Prelude.{◌≡◌, ℕ, nat_eq, Bool, true, false, ◌&&◌, codes, bytes_eq, if◌then◌else◌, List, [], ◌∷◌, ◌++◌, map, Some, None, pos}
use Rattle.ds2_value.specs.Row.{Row, Columns}
use Rattle.ds2_value.specs.Run.{Written}
use Rattle.ds2_value.specs.declared.comparison.Comparison.TheVariants as comparison
use Rattle.ds2_value.specs.declared.fault.Ending.TheVariants.{Normal, Faulted}
use Rattle.ds2_value.specs.declared.fault.Fault.TheVariants.{DivideByZero}
use Rattle.ds2_value.specs.declared.ty.Ty.TheVariants.{BigInt, Decimal as DecimalOf, Varchar}
use Rattle.ds2_value.specs.declared.value.Value.TheVariants.{Null, Txt}
use Rattle.ds2_meaning.specs.declared.expressions.Function.TheVariants as function
use Rattle.ds2_meaning.specs.declared.expressions.Operation.TheVariants as operation
use Rattle.ds2_meaning.specs.declared.globals.Variable as variables
use Rattle.ds2_meaning.specs.declared.location.Global.TheVariants.{First, Last, Present}
use Rattle.ds2_meaning.specs.declared.location.Reference.TheVariants.{At}
use Rattle.ds2_meaning.specs.declared.readings.ByVariable.{ByVariable}
use Rattle.ds2_meaning.specs.declared.readings.Input.{Input}
use Rattle.ds2_meaning.specs.declared.readings.Reading.{Reading}
use Rattle.ds2_meaning.specs.declared.readings.Reading.TheVariants.{Nothing, Set, Merge, From}
use Rattle.ds2_meaning.specs.ExampleWords.{col, natural, fixed, value_of_type, variable_of, int, binary, plus, function_of, assign_at, bigint, output_column, output_of, body_of, bigint_column, stored, program_with, Seen, seen, ran, ends_with}
use Rattle.ds2_meaning.specs.HashObjects.{no_objects}
use Rattle.ds2_meaning.specs.Method.{MethodTree}
use Rattle.ds2_meaning.specs.ProgramMeaning.{program_answer, tables_left}
use Rattle.ds2_meaning.specs.ProgramTree.{UnitTree, ProgramTree, OverTables, OverStage}
use Rattle.ds2_meaning.specs.Reading.{TableRows, first_grain}
use Rattle.ds2_meaning.specs.StatementExamples.{one_by_zero}
use Rattle.ds2_meaning.specs.TypedExpression.{TypedExpression, Convert, Compared, Variable, Called, NoArgument}
use Rattle.ds2_meaning.specs.TypedStatement.{TypedStatement, Empty, Construct, ReturnValue, Output, Put, If, Block, Text, Shown}
use Rattle.ds2_meaning.specs.View.{all_statements}

-- the tables of these names with these rows stand in the store, and no others
abbrev pub tables_of : List (List ℕ × List Row) → TableRows
tables_of [] mentioned = []
tables_of (table ∷ tables) mentioned = if bytes_eq table.0 mentioned.name && nat_eq mentioned.maker 0 then table.1 else tables_of tables mentioned

-- a table without an `in=` flag, whose columns are BIGINT
abbrev pub input_of : List ℕ → List (List ℕ) → Input
input_of table names = record { table = stored table; present = None; columns = map bigint_column names }

-- a BY variable that is not descending
abbrev pub by_ascending : List ℕ → ByVariable
by_ascending name = record { name = name; is_descending = false }

-- a program with these declared variables and these columns, which reads this and has these statements in `run`
abbrev pub reader : Reading → List (List ℕ) → List (List ℕ) → List TypedStatement → UnitTree
reader reading declared columns body = record {
  thread = None;
  parameters = [];
  declared = map bigint declared;
  columns = map bigint columns;
  retained = [];
  instances = [];
  objects = no_objects;
  threads = [];
  reading = reading;
  outputs = output_of (map bigint declared) ∷ [];
  methods = [];
  init = body_of [];
  run = body_of body;
  term = body_of [];
}

-- a program whose output has these BIGINT variables
abbrev pub with_columns : List (List ℕ) → UnitTree → UnitTree
with_columns names p = record p { outputs = output_of (map bigint names) ∷ [] }

-- a program with these retained variables
abbrev pub retaining : List (List ℕ) → UnitTree → UnitTree
retaining names p = record p { retained = names }

-- what is seen of a program over tables
abbrev pub ran_over : UnitTree → List (List ℕ × List Row) → ℕ → Seen
ran_over p tables budget = seen (program_answer (OverTables p) [] (tables_of tables) budget (first_grain p.reading))

-- the rows that a program over tables writes
abbrev pub rows_over : UnitTree → List (List ℕ × List Row) → List Row
rows_over p tables = map (λ (w : Written). w.row) (program_answer (OverTables p) [] (tables_of tables) 20 (first_grain p.reading)).rows

-- a row of two BIGINT values
abbrev pub two : ℕ → ℕ → Row
two a b = natural a ∷ natural b ∷ []

-- s = coalesce(s, 0) + a;
abbrev pub adds_up : TypedStatement
adds_up = assign_at 1 (codes "s") (plus (function_of function.Coalesce BigInt (variable_of (codes "s") ∷ int 0 ∷ [])) (variable_of (codes "a")))

-- data p (keep=(x)) q (overwrite=yes rename=(y=z)); x = 1; y = 2;
abbrev pub two_outputs : UnitTree
two_outputs = record (program_with (codes "x" ∷ codes "y" ∷ []) (assign_at 1 (codes "x") (int 1) ∷ assign_at 8 (codes "y") (int 2) ∷ [])) {
  outputs = record { name = codes "p"; overwrites = false; columns = output_column (bigint (codes "x")) ∷ [] }
      ∷ record { name = codes "q"; overwrites = true; columns = output_column (bigint (codes "x")) ∷ record { name = codes "z"; source = codes "y"; ty = BigInt } ∷ [] } ∷ [];
}

-- method p(); k = 7; end;
abbrev pub keeping_seven : MethodTree
keeping_seven = record { name = codes "p"; parameters = []; locals = []; returns = None; body = all_statements (assign_at 40 (codes "k") (int 7) ∷ []) }

-- method get() returns bigint; return k; end;
abbrev pub getting : MethodTree
getting = record { name = codes "get"; parameters = []; locals = []; returns = Some BigInt; body = all_statements (ReturnValue (col 55) (variable_of (codes "k")) ∷ []) }

-- merge x y, perhaps with / retain; by k; and these statements
abbrev pub merging : Bool → List TypedStatement → UnitTree
merging retains body = with_columns (codes "k" ∷ codes "p" ∷ codes "q" ∷ [])
    (reader (Merge (input_of (codes "x") (codes "k" ∷ codes "p" ∷ []) ∷ input_of (codes "y") (codes "k" ∷ codes "q" ∷ []) ∷ []) (by_ascending (codes "k") ∷ []) retains)
    [] (codes "k" ∷ codes "p" ∷ codes "q" ∷ []) body)

-- a table x with one row of the key 1, and a table y with three
abbrev pub one_and_three : List (List ℕ × List Row)
one_and_three = (codes "x", two 1 7 ∷ []) ∷ (codes "y", two 1 10 ∷ two 1 11 ∷ two 1 12 ∷ []) ∷ []

-- the units of a program, what they keep, and what they write
pub record UnitExamples : Type 0 where
  -- retain s; set t; s = coalesce(s, 0) + a;
  pub retained : rows_over (retaining (codes "s" ∷ []) (with_columns (codes "s" ∷ []) (reader (Set (input_of (codes "t") (codes "a" ∷ []) ∷ []) []) (codes "s" ∷ []) (codes "a" ∷ []) (adds_up ∷ []))))
      ((codes "t", (natural 1 ∷ []) ∷ (natural 2 ∷ []) ∷ (natural 3 ∷ []) ∷ []) ∷ []) ≡ (natural 1 ∷ []) ∷ (natural 3 ∷ []) ∷ (natural 6 ∷ []) ∷ []
  -- set t; s = coalesce(s, 0) + a;
  pub not_retained : rows_over (with_columns (codes "s" ∷ []) (reader (Set (input_of (codes "t") (codes "a" ∷ []) ∷ []) []) (codes "s" ∷ []) (codes "a" ∷ []) (adds_up ∷ [])))
      ((codes "t", (natural 1 ∷ []) ∷ (natural 2 ∷ []) ∷ (natural 3 ∷ []) ∷ []) ∷ []) ≡ (natural 1 ∷ []) ∷ (natural 2 ∷ []) ∷ (natural 3 ∷ []) ∷ []
  -- method init(); x = 5; y = 6; end; method run(); put x y; end; method term(); put y; end; with y retained
  pub init_run_term : ran (retaining (codes "y" ∷ []) (record (program_with (codes "x" ∷ codes "y" ∷ []) (Put (col 60) (Shown (variable_of (codes "x")) ∷ Shown (variable_of (codes "y")) ∷ []) ∷ [])) {
    init = body_of (assign_at 16 (codes "x") (int 5) ∷ assign_at 23 (codes "y") (int 6) ∷ []);
    term = body_of (Put (col 95) (Shown (variable_of (codes "y")) ∷ []) ∷ []);
  })) 10
      ≡ record { rows = (Null ∷ natural 6 ∷ []) ∷ []; lines = codes "null 6" ∷ codes "6" ∷ []; ending = Some Normal; budgets_left = 8 ∷ 9 ∷ 9 ∷ [] }
  -- method init(); put 'a'; end; and no `run`: there is no load
  pub no_run : ran (record (program_with (codes "x" ∷ []) []) { reading = Nothing; init = body_of (Put (col 16) (Text (codes "a") ∷ []) ∷ []) }) 10
      ≡ record { rows = []; lines = codes "a" ∷ []; ending = Some Normal; budgets_left = 9 ∷ 10 ∷ [] }
  -- data p (keep=(x)) q (overwrite=yes rename=(y=z)); x = 1; y = 2; with a row in each output
  pub several_outputs : tables_left two_outputs (program_answer (OverTables two_outputs) [] (λ table. []) 10 0)
      ≡ record { name = codes "p"; overwrites = false; contents = record { columns = bigint_column (codes "x") ∷ []; rows = (natural 1 ∷ []) ∷ [] } }
      ∷ record { name = codes "q"; overwrites = true; contents = record { columns = bigint_column (codes "x") ∷ bigint_column (codes "z") ∷ []; rows = two 1 2 ∷ [] } } ∷ []
  -- data p q; x = 1; output q;
  pub one_of_two_outputs : (program_answer (OverTables (record (program_with (codes "x" ∷ []) (assign_at 1 (codes "x") (int 1) ∷ Output (col 8) (1 ∷ []) ∷ [])) {
    outputs = output_of (bigint (codes "x") ∷ []) ∷ output_of (bigint (codes "x") ∷ []) ∷ [];
  })) [] (λ table. []) 10 0).rows
      ≡ record { output = 1; row = natural 1 ∷ [] } ∷ []
  -- set t; if a = 2 then if 1 / 0 then; : the row before the fault was written, and no unit runs behind it
  pub fault_in_a_later_load : ran_over (with_columns (codes "a" ∷ []) (reader (Set (input_of (codes "t") (codes "a" ∷ []) ∷ []) []) [] (codes "a" ∷ []) (
      If (col 8) (Compared comparison.Equal (variable_of (codes "a")) (int 2)) (If (col 22) one_by_zero (Empty (col 36))) ∷ [])))
      ((codes "t", (natural 1 ∷ []) ∷ (natural 2 ∷ []) ∷ (natural 3 ∷ []) ∷ []) ∷ []) 10
      ≡ record { rows = (natural 1 ∷ []) ∷ []; lines = []; ending = Some (Faulted DivideByZero (col 22)); budgets_left = 10 ∷ 9 ∷ 8 ∷ [] }
  -- package p; dcl bigint k; method p(); k = 7; end; method get() returns bigint; return k; end; endpackage;
  -- and dcl package p q(); x = q.get(); the program's own k stays null
  pub constructed_first : ran (record (program_with (codes "x" ∷ codes "k" ∷ []) (assign_at 80 (codes "x") (Called (Some (codes "q")) 1 NoArgument BigInt) ∷ [])) {
    instances = record { name = codes "q"; package' = codes "p"; variables = bigint (codes "k") ∷ []; objects = no_objects; methods = keeping_seven ∷ getting ∷ [] } ∷ [];
    init = body_of (Construct (col 60) (codes "q") (Some 0) NoArgument ∷ []);
  }) 10
      ≡ ends_with ((natural 7 ∷ Null ∷ []) ∷ []) (7 ∷ 7 ∷ 10 ∷ [])

-- the loads of `set` and `merge`
pub record LoadExamples : Type 0 where
  -- set a b; with a column that the other table lacks
  pub table_after_table : rows_over (with_columns (codes "k" ∷ codes "v" ∷ codes "w" ∷ []) (reader (Set (input_of (codes "a") (codes "k" ∷ codes "v" ∷ []) ∷ input_of (codes "b") (codes "k" ∷ codes "w" ∷ []) ∷ []) []) [] (codes "k" ∷ codes "v" ∷ codes "w" ∷ []) []))
      ((codes "a", two 2 11 ∷ two 1 12 ∷ []) ∷ (codes "b", two 3 21 ∷ []) ∷ [])
      ≡ (natural 2 ∷ natural 11 ∷ Null ∷ []) ∷ (natural 1 ∷ natural 12 ∷ Null ∷ []) ∷ (natural 3 ∷ Null ∷ natural 21 ∷ []) ∷ []
  -- set a b; by k;
  pub interleaved : rows_over (with_columns (codes "k" ∷ codes "v" ∷ []) (reader (Set (input_of (codes "a") (codes "k" ∷ codes "v" ∷ []) ∷ input_of (codes "b") (codes "k" ∷ codes "v" ∷ []) ∷ []) (by_ascending (codes "k") ∷ [])) [] (codes "k" ∷ codes "v" ∷ []) []))
      ((codes "a", two 2 11 ∷ (Null ∷ natural 12 ∷ []) ∷ []) ∷ (codes "b", two 2 21 ∷ (Null ∷ natural 22 ∷ []) ∷ two 1 23 ∷ []) ∷ [])
      ≡ (Null ∷ natural 12 ∷ []) ∷ (Null ∷ natural 22 ∷ []) ∷ two 1 23 ∷ two 2 11 ∷ two 2 21 ∷ []
  -- set a; by descending k v;
  pub descending : rows_over (with_columns (codes "k" ∷ codes "v" ∷ []) (reader (Set (input_of (codes "a") (codes "k" ∷ codes "v" ∷ []) ∷ []) (record { name = codes "k"; is_descending = true } ∷ by_ascending (codes "v") ∷ [])) [] (codes "k" ∷ codes "v" ∷ []) []))
      ((codes "a", two 1 2 ∷ two 3 9 ∷ (Null ∷ natural 5 ∷ []) ∷ two 1 1 ∷ two 3 8 ∷ []) ∷ [])
      ≡ two 3 8 ∷ two 3 9 ∷ two 1 1 ∷ two 1 2 ∷ (Null ∷ natural 5 ∷ []) ∷ []
  -- set t; by a b; f = first.b; l = last.b;
  pub flags : rows_over (with_columns (codes "f" ∷ codes "l" ∷ codes "a" ∷ codes "b" ∷ []) (reader (Set (input_of (codes "t") (codes "a" ∷ codes "b" ∷ []) ∷ []) (by_ascending (codes "a") ∷ by_ascending (codes "b") ∷ [])) (codes "f" ∷ codes "l" ∷ []) (codes "a" ∷ codes "b" ∷ []) (
      assign_at 1 (codes "f") (Variable (At (First (codes "b"))) BigInt) ∷ assign_at 14 (codes "l") (Variable (At (Last (codes "b"))) BigInt) ∷ [])))
      ((codes "t", two 1 1 ∷ two 1 1 ∷ two 2 1 ∷ []) ∷ [])
      ≡ (natural 1 ∷ natural 0 ∷ natural 1 ∷ natural 1 ∷ []) ∷ (natural 0 ∷ natural 1 ∷ natural 1 ∷ natural 1 ∷ []) ∷ (natural 1 ∷ natural 1 ∷ natural 2 ∷ natural 1 ∷ []) ∷ []
  -- merge x y; by k;
  pub merged : rows_over (merging false []) one_and_three
      ≡ (natural 1 ∷ natural 7 ∷ natural 10 ∷ []) ∷ (natural 1 ∷ Null ∷ natural 11 ∷ []) ∷ (natural 1 ∷ Null ∷ natural 12 ∷ []) ∷ []
  -- merge x y / retain; by k;
  pub merged_retaining : rows_over (merging true []) one_and_three
      ≡ (natural 1 ∷ natural 7 ∷ natural 10 ∷ []) ∷ (natural 1 ∷ natural 7 ∷ natural 11 ∷ []) ∷ (natural 1 ∷ natural 7 ∷ natural 12 ∷ []) ∷ []
  -- merge x y / retain; by k; if q = 11 then p = 9;
  pub merged_and_assigned : rows_over (merging true (If (col 1) (Compared comparison.Equal (variable_of (codes "q")) (int 11)) (assign_at 16 (codes "p") (int 9)) ∷ [])) one_and_three
      ≡ (natural 1 ∷ natural 7 ∷ natural 10 ∷ []) ∷ (natural 1 ∷ natural 9 ∷ natural 11 ∷ []) ∷ (natural 1 ∷ natural 9 ∷ natural 12 ∷ []) ∷ []
  -- merge x(in=ix) y(in=iy); by k; f = ix; g = iy;
  pub merged_with_flags : rows_over (with_columns (codes "f" ∷ codes "g" ∷ codes "k" ∷ codes "p" ∷ codes "q" ∷ []) (reader (Merge (
      record { table = stored (codes "x"); present = Some (codes "ix"); columns = bigint_column (codes "k") ∷ bigint_column (codes "p") ∷ [] }
      ∷ record { table = stored (codes "y"); present = Some (codes "iy"); columns = bigint_column (codes "k") ∷ bigint_column (codes "q") ∷ [] } ∷ []) (by_ascending (codes "k") ∷ []) false)
      (codes "f" ∷ codes "g" ∷ []) (codes "k" ∷ codes "p" ∷ codes "q" ∷ []) (
      assign_at 1 (codes "f") (Variable (At (Present (codes "ix"))) BigInt) ∷ assign_at 9 (codes "g") (Variable (At (Present (codes "iy"))) BigInt) ∷ [])))
      ((codes "x", two 1 7 ∷ []) ∷ (codes "y", two 1 10 ∷ two 2 20 ∷ []) ∷ [])
      ≡ (natural 1 ∷ natural 1 ∷ natural 1 ∷ natural 7 ∷ natural 10 ∷ []) ∷ (natural 0 ∷ natural 1 ∷ natural 2 ∷ Null ∷ natural 20 ∷ []) ∷ []
  -- merge x y; by k; over two tables without rows: `run` is not called
  pub merged_without_rows : ran_over (merging false []) ((codes "x", []) ∷ (codes "y", []) ∷ []) 10 ≡ ends_with [] (10 ∷ 10 ∷ [])

-- total, of type DECIMAL(15,2)
abbrev pub total_of : TypedExpression
total_of = value_of_type (codes "total") (DecimalOf 15 2)

-- total = 0;
abbrev pub assign_total : ℕ → TypedStatement
assign_total column = assign_at column (codes "total") (Convert (int 0) (DecimalOf 15 2))

-- if first.region then total = 0;
abbrev pub begins_group : TypedStatement
begins_group = If (col 1) (Variable (At (First (codes "region"))) BigInt) (assign_total 22)

-- total = total + amt;
abbrev pub adds_amount : TypedStatement
adds_amount = assign_at 34 (codes "total") (Convert (binary operation.DecimalAdd (DecimalOf 38 2) total_of (value_of_type (codes "amt") (DecimalOf 3 2))) (DecimalOf 15 2))

-- total and region, with their types
abbrev pub sums_variables : List variables.Variable
sums_variables = record { name = codes "total"; ty = DecimalOf 15 2 } ∷ record { name = codes "region"; ty = Varchar 1 } ∷ []

-- retain total; keep region total; set sales; by region; these statements, total = total + amt; if last.region then this one
abbrev pub summing : List TypedStatement → TypedStatement → UnitTree
summing first last = record {
  thread = Some (codes "sums");
  parameters = [];
  declared = record { name = codes "total"; ty = DecimalOf 15 2 } ∷ [];
  columns = record { name = codes "region"; ty = Varchar 1 } ∷ record { name = codes "amt"; ty = DecimalOf 3 2 } ∷ [];
  retained = codes "total" ∷ [];
  instances = [];
  objects = no_objects;
  threads = [];
  reading = Set (record { table = stored (codes "sales"); present = None; columns = record { name = codes "region"; ty = Varchar 1 } ∷ record { name = codes "amt"; ty = DecimalOf 3 2 } ∷ [] } ∷ []) (by_ascending (codes "region") ∷ []);
  outputs = record { name = codes "sums"; overwrites = false; columns = map output_column sums_variables } ∷ [];
  methods = [];
  init = body_of [];
  run = body_of (first ++ adds_amount ∷ If (col 55) (Variable (At (Last (codes "region"))) BigInt) last ∷ []);
  term = body_of [];
}

-- the columns of that thread program
abbrev pub sums_columns : Columns
sums_columns = record { name = codes "total"; ty = DecimalOf 15 2 } ∷ record { name = codes "region"; ty = Varchar 1 } ∷ []

-- data totals; dcl thread sums s; method run(); set from s threads=4; end; enddata;
abbrev pub totals : UnitTree → ProgramTree
totals stage = OverStage (record {
  thread = None;
  parameters = [];
  declared = [];
  columns = sums_variables;
  retained = [];
  instances = [];
  objects = no_objects;
  threads = record { name = codes "s"; parameters = [] } ∷ [];
  reading = From (codes "s") 4 sums_columns;
  outputs = record { name = codes "totals"; overwrites = false; columns = map output_column sums_variables } ∷ [];
  methods = [];
  init = body_of [];
  run = body_of [];
  term = body_of [];
}) (OverTables stage)

-- a row of sales: a region and an amount of so many hundredths
abbrev pub sale : List ℕ → ℕ → Row
sale region hundredths = Txt region ∷ fixed (pos hundredths) 2 ∷ []

-- sales in the regions N, S, N and E
abbrev pub sales : TableRows
sales = tables_of ((codes "sales", sale (codes "N") 150 ∷ sale (codes "S") 200 ∷ sale (codes "N") 225 ∷ sale (codes "E") 400 ∷ []) ∷ [])

-- what is seen of totals over a thread program and those sales
abbrev pub stage_seen : UnitTree → Seen
stage_seen stage = seen (program_answer (totals stage) [] sales 20 1)

-- a thread program and a data program that reads from it
pub record StageExamples : Type 0 where
  -- retain total; keep region total; set sales; by region; if first.region then total = 0; total = total + amt;
  -- if last.region then output; and data totals; dcl thread sums s; method run(); set from s threads=4; end; enddata;
  pub group_sums : stage_seen (summing (begins_group ∷ []) (Output (col 75) (0 ∷ []))) ≡ record {
    rows = (fixed (pos 400) 2 ∷ Txt (codes "E") ∷ []) ∷ (fixed (pos 375) 2 ∷ Txt (codes "N") ∷ []) ∷ (fixed (pos 200) 2 ∷ Txt (codes "S") ∷ []) ∷ [];
    lines = [];
    ending = Some Normal;
    budgets_left = 20 ∷ 20 ∷ 15 ∷ 16 ∷ 16 ∷ 15 ∷ 20 ∷ 20 ∷ 20 ∷ 20 ∷ 20 ∷ [];
  }
  -- likewise, without the first `if`, and with if last.region then do; output; total = 0; end;
  pub sums_that_go_on : (stage_seen (summing [] (Block (col 75) (all_statements (Output (col 79) (0 ∷ []) ∷ assign_total 87 ∷ []))))).rows
      ≡ (Null ∷ Txt (codes "E") ∷ []) ∷ (fixed (pos 375) 2 ∷ Txt (codes "N") ∷ []) ∷ (fixed (pos 200) 2 ∷ Txt (codes "S") ∷ []) ∷ []
  -- what the first says of its stage
  pub stage_is_noted : (program_answer (totals (summing (begins_group ∷ []) (Output (col 75) (0 ∷ [])))) [] sales 20 1).stages
      ≡ record { groups = 3; executed = 0; ending = Some Normal } ∷ []
