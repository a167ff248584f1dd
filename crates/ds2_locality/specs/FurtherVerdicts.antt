-- The verdicts on jobs as a user writes them, with lines and columns, and on further small thread programs.
use Rattle.std.specs.Prelude.{◌≡◌, ℕ, false, codes, List, [], ◌∷◌, ◌++◌, map, Some, None}
use Rattle.ds2_base.specs.declared.place.Place.{Place}
use Rattle.ds2_value.specs.declared.comparison.Comparison.TheVariants as comparison
use Rattle.ds2_value.specs.declared.hash_function.HashFunction.TheVariants as hash
use Rattle.ds2_value.specs.declared.schema.Column.{Column}
use Rattle.ds2_value.specs.declared.ty.Ty.{Ty}
use Rattle.ds2_value.specs.declared.ty.Ty.TheVariants.{BigInt, Decimal as DecimalOf, Varchar}
use Rattle.ds2_meaning.specs.declared.expressions.Function.TheVariants as function
use Rattle.ds2_meaning.specs.declared.expressions.Operation.TheVariants as operation
use Rattle.ds2_meaning.specs.declared.globals.Variable as variables
use Rattle.ds2_meaning.specs.declared.location.Global.TheVariants.{Present}
use Rattle.ds2_meaning.specs.declared.location.Reference.TheVariants.{At}
use Rattle.ds2_meaning.specs.declared.readings.Reading.TheVariants.{Once, Set, Merge}
use Rattle.ds2_meaning.specs.ExampleWords.{col, global, value_of_type, variable_of, local, int, binary, negated, function_of, assign_at, stored, body_of, output_of, by_value}
use Rattle.ds2_meaning.specs.HashObjects.{no_objects}
use Rattle.ds2_meaning.specs.Method.{MethodTree}
use Rattle.ds2_meaning.specs.ProgramExamples.{input_of, by_ascending, retaining}
use Rattle.ds2_meaning.specs.ProgramTree.{UnitTree}
use Rattle.ds2_meaning.specs.StatementExamples.{with_methods}
use Rattle.ds2_meaning.specs.TypedExpression.{TypedExpression, Variable, Widen, Convert, Compared, Called, HashCalled, Then, NoExpression, NoArgument, ByValue}
use Rattle.ds2_meaning.specs.TypedStatement.{TypedStatement, Empty, Assign, Invoke, Continue, ReturnValue, Output, Put, If, Select, SelectValue, Block, While, Until, Otherwise, When, Text, Labelled}
use Rattle.ds2_meaning.specs.View.{all_statements}
use Rattle.ds2_locality.specs.declared.locality.Reason.TheVariants.{Reads}
use Rattle.ds2_locality.specs.declared.locality.Verdict.{Verdict}
use Rattle.ds2_locality.specs.declared.locality.Verdict.TheVariants.{Local, NotLocal}
use Rattle.ds2_locality.specs.LocalityExamples.{first_flag, last_flag, by_none, by_a, retaining_x, verdict_on, verdict_with_x, not_local_reads, x_is, adds_v, resets_if, outputs_row, outputs_if, puts, not_so, first_a, first_b, last_a, v_value, block_of, verdict_with_hash, asks_hash, add_v, plain_method, calls_m, verdict_with_methods}
use Rattle.ds2_locality.specs.Verdict.{own_objects_first, verdict_of}

-- ---- jobs

-- the place in this line and column
abbrev pub at_line : ℕ → ℕ → Place
at_line line column = record { line = line; column = column }

-- decimal(15,2)
abbrev pub money : Ty
money = DecimalOf 15 2

-- the amount of a sale
abbrev pub amount : TypedExpression
amount = value_of_type (codes "amt") (DecimalOf 5 2)

-- total = 0;
abbrev pub total_is_zero : Place → TypedStatement
total_is_zero place = Assign place (global (codes "total")) (Convert (Widen (int 0)) money)

-- if this flag then total = 0; in line 5
abbrev pub resets_total : TypedExpression → TypedStatement
resets_total flag = If (at_line 5 1) flag (total_is_zero (at_line 5 22))

-- total = total + amt; in line 6
abbrev pub grows_by_amount : TypedStatement
grows_by_amount = Assign (at_line 6 1) (global (codes "total")) (Convert (binary operation.DecimalAdd (DecimalOf 38 2) (value_of_type (codes "total") money) amount) money)

-- if this flag then output; in line 7
abbrev pub writes_total : TypedExpression → TypedStatement
writes_total flag = If (at_line 7 1) flag (Output (at_line 7 21) (0 ∷ []))

-- if this flag then do; output; total = 0; end; in line 7
abbrev pub writes_and_resets : TypedExpression → TypedStatement
writes_and_resets flag = If (at_line 7 1) flag (Block (at_line 7 21) (all_statements (Output (at_line 7 25) (0 ∷ []) ∷ total_is_zero (at_line 7 33) ∷ [])))

-- a text of one character
abbrev pub one_character : List ℕ → variables.Variable
one_character name = record { name = name; ty = Varchar 1 }

-- a text column of one character
abbrev pub text_column : List ℕ → Column
text_column name = record { name = name; ty = Varchar 1 }

-- thread sums; dcl decimal(15,2) total; retain total; keep .. total; method run(); set sales; by ..; with `run` in line 3
abbrev pub sums_of_sales : List (List ℕ) → List TypedStatement → UnitTree
sums_of_sales bys body = record {
  thread = Some (codes "sums");
  parameters = [];
  declared = record { name = codes "total"; ty = money } ∷ [];
  columns = one_character (codes "region") ∷ one_character (codes "prod") ∷ record { name = codes "amt"; ty = DecimalOf 5 2 } ∷ [];
  retained = codes "total" ∷ [];
  instances = [];
  objects = no_objects;
  threads = [];
  reading = Set (record {
    table = stored (codes "sales");
    present = None;
    columns = text_column (codes "region") ∷ text_column (codes "prod") ∷ record { name = codes "amt"; ty = DecimalOf 5 2 } ∷ [];
  } ∷ []) (map by_ascending bys);
  outputs = output_of (record { name = codes "total"; ty = money } ∷ map one_character bys) ∷ [];
  methods = [];
  init = body_of [];
  run = body_of body;
  term = body_of [];
}

-- by region
abbrev pub by_region : List (List ℕ)
by_region = codes "region" ∷ []

-- by region prod
abbrev pub by_region_then_product : List (List ℕ)
by_region_then_product = codes "region" ∷ codes "prod" ∷ []

-- the verdict on such a job
abbrev pub verdict_on_sums : List (List ℕ) → List TypedStatement → Verdict
verdict_on_sums bys body =
    let p = sums_of_sales bys body in verdict_of (record { program = p; run_place = at_line 3 8; term_place = at_line 0 0; objects = own_objects_first p })

-- sums of sales
pub record JobVerdicts : Type 0 where
  -- by region; if first.region then total = 0; total = total + amt; if last.region then output;
  pub by_one : verdict_on_sums by_region (resets_total (first_flag (codes "region")) ∷ grows_by_amount ∷ writes_total (last_flag (codes "region")) ∷ []) ≡ Local 1
  -- by region; total = total + amt; if last.region then do; output; total = 0; end;
  pub reset_after_output : verdict_on_sums by_region (grows_by_amount ∷ writes_and_resets (last_flag (codes "region")) ∷ []) ≡ NotLocal (Reads (codes "total")) (at_line 6 1)
  -- by region prod; if first.prod then total = 0; total = total + amt; if last.prod then output;
  pub by_two : verdict_on_sums by_region_then_product (resets_total (first_flag (codes "prod")) ∷ grows_by_amount ∷ writes_total (last_flag (codes "prod")) ∷ []) ≡ Local 2
  -- and then if first.region then total = 0;
  pub region_flag_read : verdict_on_sums by_region_then_product (
      resets_total (first_flag (codes "prod")) ∷ grows_by_amount ∷ writes_total (last_flag (codes "prod")) ∷ If (at_line 8 1) (first_flag (codes "region")) (total_is_zero (at_line 8 22)) ∷ [])
      ≡ Local 1

-- ---- further small thread programs

-- by a b v;
abbrev pub by_all_three : List (List ℕ)
by_all_three = codes "a" ∷ codes "b" ∷ codes "v" ∷ []

-- the variable x
abbrev pub x_value : TypedExpression
x_value = variable_of (codes "x")

-- y = this;
abbrev pub y_is : ℕ → TypedExpression → TypedStatement
y_is column value = assign_at column (codes "y") value

-- method k(); these statements end;
abbrev pub method_k : List TypedStatement → MethodTree
method_k body = record (plain_method body) { name = codes "k" }

-- method NAME(bigint n) returns bigint; these statements return the other method's result; end;
abbrev pub method_asking : List ℕ → List TypedStatement → ℕ → MethodTree
method_asking name body other = record {
  name = name;
  parameters = by_value (codes "n") ∷ [];
  locals = [];
  returns = Some BigInt;
  body = all_statements (body ++ ReturnValue (col 210) (Called None other (ByValue (local (codes "n")) NoArgument) BigInt) ∷ []);
}

-- method m(bigint n) returns bigint; x = y; return k(n); end; method k(bigint n) returns bigint; return m(n); end;
abbrev pub calling_each_other : List MethodTree
calling_each_other =
    method_asking (codes "m") (assign_at 200 (codes "x") (variable_of (codes "y")) ∷ []) 1 ∷ method_asking (codes "k") [] 0 ∷ []

-- likewise with an operand, a construct or a call each
pub record FurtherVerdicts : Type 0 where
  -- by a b v; with first.v and last.v
  pub finest_of_three : verdict_with_x by_all_three (resets_if 10 (first_flag (codes "v")) ∷ adds_v 20 ∷ outputs_if 30 (last_flag (codes "v")) ∷ []) ≡ Local 3
  -- by a b v; with first.b and last.b
  pub middle_of_three : verdict_with_x by_all_three (resets_if 10 first_b ∷ adds_v 20 ∷ outputs_if 30 (last_flag (codes "b")) ∷ []) ≡ Local 2
  -- by a b v; with first.v and last.a
  pub coarsest_of_three : verdict_with_x by_all_three (resets_if 10 (first_flag (codes "v")) ∷ adds_v 20 ∷ outputs_if 30 last_a ∷ []) ≡ Local 1
  -- merge t u; by a; with first.a and last.a
  pub merged_sum : verdict_on (record (retaining_x by_a (resets_if 10 first_a ∷ adds_v 20 ∷ outputs_if 30 last_a ∷ [])) {
    reading = Merge (input_of (codes "t") (codes "a" ∷ codes "v" ∷ []) ∷ input_of (codes "u") (codes "a" ∷ codes "b" ∷ []) ∷ []) (by_ascending (codes "a") ∷ []) false;
  }) ≡ Local 1
  -- no table is read: x = x + v; output;
  pub one_load : verdict_on (record (retaining_x by_none (adds_v 20 ∷ outputs_row 30 ∷ [])) { reading = Once }) ≡ not_local_reads (codes "x") 20
  -- by a; put 'v' x=; x = 0; output;
  pub labelled_item_reads : verdict_with_x by_a (Put (col 10) (Text (codes "v") ∷ Labelled (codes "x") x_value ∷ []) ∷ x_is 20 0 ∷ outputs_row 30 ∷ []) ≡ not_local_reads (codes "x") 10
  -- by a; y = coalesce(v, x); x = 0; output;
  pub argument_reads : verdict_with_x by_a (y_is 10 (function_of function.Coalesce BigInt (v_value ∷ x_value ∷ [])) ∷ x_is 20 0 ∷ outputs_row 30 ∷ []) ≡ not_local_reads (codes "x") 10
  -- by a; y = -x; x = 0; output;
  pub prefix_reads : verdict_with_x by_a (y_is 10 (negated x_value) ∷ x_is 20 0 ∷ outputs_row 30 ∷ []) ≡ not_local_reads (codes "x") 10
  -- by a; y = v < x; x = 0; output;
  pub comparison_reads : verdict_with_x by_a (y_is 10 (Compared comparison.Less v_value x_value) ∷ x_is 20 0 ∷ outputs_row 30 ∷ []) ≡ not_local_reads (codes "x") 10
  -- by a; select (x); when (1) y = 1; otherwise; end; x = 0; output;
  pub select_reads : verdict_with_x by_a (SelectValue (col 10) x_value (When (Then (int 1) NoExpression) (y_is 15 (int 1)) (Otherwise (Empty (col 18)))) ∷ x_is 20 0 ∷ outputs_row 30 ∷ []) ≡ not_local_reads (codes "x") 10
  -- by a; select; when (v, x) y = 1; otherwise; end; x = 0; output;
  pub when_reads : verdict_with_x by_a (Select (col 10) (When (Then v_value (Then x_value NoExpression)) (y_is 15 (int 1)) (Otherwise (Empty (col 18)))) ∷ x_is 20 0 ∷ outputs_row 30 ∷ []) ≡ not_local_reads (codes "x") 10
  -- by a; select; when (first.a) x = 0; when (x) ; otherwise; end; output; behind a test that is known to hold nothing is read
  pub when_behind_known : verdict_with_x by_a (Select (col 10) (When (Then first_a NoExpression) (x_is 15 0) (When (Then x_value NoExpression) (Empty (col 20)) (Otherwise (Empty (col 22))))) ∷ outputs_row 30 ∷ []) ≡ Local 1
  -- by a; do until (v); if v then continue; x = 0; end; output;
  pub continued_before : verdict_with_x by_a (Until (col 10) v_value (all_statements (If (col 15) v_value (Continue (col 18)) ∷ x_is 20 0 ∷ [])) ∷ outputs_row 25 ∷ []) ≡ not_local_reads (codes "x") 25
  -- by a; do while (not first.a); put x; end; x = 0; output; the test of a loop is not decided
  pub loop_test_is_not_decided : verdict_with_x by_a (While (col 10) (not_so first_a) (all_statements (puts 15 (codes "x") ∷ [])) ∷ x_is 20 0 ∷ outputs_row 30 ∷ []) ≡ not_local_reads (codes "x") 15
  -- by a; do; x = 0; end; put x; output;
  pub block_cleans : verdict_with_x by_a (block_of 10 (x_is 15 0 ∷ []) ∷ puts 20 (codes "x") ∷ outputs_row 30 ∷ []) ≡ Local 1
  -- by a; if f then x = 0; x = x + v; output; where f is the flag `in=` of t: no flag but `first` is known
  pub present_is_not_known : verdict_on (record (retaining_x by_a (resets_if 10 (Variable (At (Present (codes "f"))) BigInt) ∷ adds_v 20 ∷ outputs_row 30 ∷ [])) {
    reading = Set (record (input_of (codes "t") (codes "a" ∷ codes "b" ∷ codes "v" ∷ [])) { present = Some (codes "f") } ∷ []) (by_ascending (codes "a") ∷ []);
  }) ≡ not_local_reads (codes "x") 20
  -- by a; x = 1; y = h.replace(); output;
  pub replace_reads : verdict_with_hash by_a (x_is 10 1 ∷ asks_hash 20 (HashCalled (codes "h") hash.Replace) ∷ outputs_row 30 ∷ []) ≡ not_local_reads (codes "h") 20
  -- by a; y = h.remove(); x = 0; output;
  pub remove_reads : verdict_with_hash by_a (asks_hash 10 (HashCalled (codes "h") hash.Remove) ∷ x_is 20 0 ∷ outputs_row 30 ∷ []) ≡ not_local_reads (codes "h") 10
  -- by a; y = h.check(); x = 0; output; nothing changes the hash object, and the data are not read
  pub only_checked : verdict_with_hash by_a (asks_hash 10 (HashCalled (codes "h") hash.Check) ∷ x_is 20 0 ∷ outputs_row 30 ∷ []) ≡ Local 1
  -- by a; y = h.num_items(); x = 1; y = h.add(); output;
  pub counted_before_added : verdict_with_hash by_a (asks_hash 10 (HashCalled (codes "h") hash.NumItems) ∷ x_is 20 1 ∷ asks_hash 25 add_v ∷ outputs_row 30 ∷ []) ≡ not_local_reads (codes "h") 10
  -- method m(); k(); end; method k(); put x; end; by a; if v then m(); x = 0; output; the read stands in the calling statement of `run`
  pub deep_read : verdict_with_methods (plain_method (Invoke (col 200) None 1 NoArgument ∷ []) ∷ method_k (puts 210 (codes "x") ∷ []) ∷ []) by_a (If (col 10) v_value (calls_m 15) ∷ x_is 20 0 ∷ outputs_row 30 ∷ []) ≡ not_local_reads (codes "x") 15
  -- two methods that call each other, of which the first sets x: a call of the other one reads all that they mention
  pub cycle_of_two : verdict_with_methods calling_each_other by_a (y_is 10 (Called None 1 (ByValue v_value NoArgument) BigInt) ∷ x_is 20 0 ∷ outputs_row 30 ∷ []) ≡ not_local_reads (codes "x") 10
  -- retain x y; though y is read first there: variables of a cycle are read in the order of their declarations
  pub cycle_in_order : verdict_on (with_methods calling_each_other (retaining (codes "x" ∷ codes "y" ∷ []) (retaining_x by_a (y_is 10 (Called None 0 (ByValue v_value NoArgument) BigInt) ∷ x_is 20 0 ∷ outputs_row 30 ∷ []))))
      ≡ not_local_reads (codes "x") 10
