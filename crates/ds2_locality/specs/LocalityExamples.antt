-- What the verdict on small thread programs is, written out from the rules by hand. Each stands behind its source, without the lines that
-- all have: `thread s; dcl bigint x y; .. method run(); set t; .. end; endthread;`, where t has the BIGINT columns a, b and v.
use Rattle.std.specs.Prelude.{◌≡◌, ℕ, ◌+◌, codes, List, [], ◌∷◌, map, Some, None}
use Rattle.ds2_value.specs.declared.comparison.Comparison.TheVariants as comparison
use Rattle.ds2_value.specs.declared.hash_function.HashFunction.TheVariants as hash
use Rattle.ds2_value.specs.declared.hash_function.IteratorFunction.TheVariants as iterator
use Rattle.ds2_value.specs.declared.ty.Ty.TheVariants.{BigInt}
use Rattle.ds2_meaning.specs.declared.expressions.Operation.TheVariants as operation
use Rattle.ds2_meaning.specs.declared.expressions.Prefix.TheVariants as prefix
use Rattle.ds2_meaning.specs.declared.location.Global.TheVariants.{First, Last, Parameter}
use Rattle.ds2_meaning.specs.declared.location.Reference.TheVariants.{At}
use Rattle.ds2_meaning.specs.declared.readings.Reading.TheVariants.{Set}
use Rattle.ds2_meaning.specs.ExampleWords.{col, global, variable_of, local, int, binary, plus, less, assign_at, bigint, body_of, by_value}
use Rattle.ds2_meaning.specs.HashExamples.{hash_variable}
use Rattle.ds2_meaning.specs.HashObjects.{DeclaredObjects, no_objects}
use Rattle.ds2_meaning.specs.Method.{MethodTree}
use Rattle.ds2_meaning.specs.ProgramExamples.{input_of, by_ascending, reader, with_columns, retaining}
use Rattle.ds2_meaning.specs.ProgramTree.{UnitTree}
use Rattle.ds2_meaning.specs.StatementExamples.{with_methods, handed_in_and_out}
use Rattle.ds2_meaning.specs.TypedExpression.{TypedExpression, Variable, Prefixed, Compared, Called, HashCalled, IteratorCalled, Then, NoExpression, NoArgument, ByValue, InOut}
use Rattle.ds2_meaning.specs.TypedStatement.{TypedStatement, Empty, Assign, Invoke, Evaluate, Construct, Leave, Return, ReturnValue, Output, Put, If, IfElse, Select, SelectValue, Block, Count, While, Until, NoOtherwise, Otherwise, When, Shown}
use Rattle.ds2_meaning.specs.View.{all_statements}
use Rattle.ds2_locality.specs.declared.locality.Reason.TheVariants.{TermHasStatements, InitWrites, Reads}
use Rattle.ds2_locality.specs.declared.locality.Verdict.{Verdict}
use Rattle.ds2_locality.specs.declared.locality.Verdict.TheVariants.{Local, NotLocal}
use Rattle.ds2_locality.specs.Verdict.{own_objects_first, verdict_of}

-- ---- words

-- first.v
abbrev pub first_flag : List ℕ → TypedExpression
first_flag v = Variable (At (First v)) BigInt

-- last.v
abbrev pub last_flag : List ℕ → TypedExpression
last_flag v = Variable (At (Last v)) BigInt

-- no BY variable
abbrev pub by_none : List (List ℕ)
by_none = []

-- by a;
abbrev pub by_a : List (List ℕ)
by_a = codes "a" ∷ []

-- by a b;
abbrev pub by_a_and_b : List (List ℕ)
by_a_and_b = codes "a" ∷ codes "b" ∷ []

-- a thread program by these, which retains x and writes a and x
abbrev pub retaining_x : List (List ℕ) → List TypedStatement → UnitTree
retaining_x bys body =
    record (retaining (codes "x" ∷ []) (with_columns (codes "a" ∷ codes "x" ∷ []) (reader (Set (input_of (codes "t") (codes "a" ∷ codes "b" ∷ codes "v" ∷ []) ∷ []) (map by_ascending bys))
    (codes "x" ∷ codes "y" ∷ []) (codes "a" ∷ codes "b" ∷ codes "v" ∷ []) body))) { thread = Some (codes "s") }

-- the verdict on a thread program whose `run` has its name in column 5, and `term` in column 9
abbrev pub verdict_on : UnitTree → Verdict
verdict_on p = verdict_of (record { program = p; run_place = col 5; term_place = col 9; objects = own_objects_first p })

-- the verdict on a thread program by these, which retains x and writes a and x
abbrev pub verdict_with_x : List (List ℕ) → List TypedStatement → Verdict
verdict_with_x bys body = verdict_on (retaining_x bys body)

-- not local: this name is read in the statement in this column
abbrev pub not_local_reads : List ℕ → ℕ → Verdict
not_local_reads name column = NotLocal (Reads name) (col column)

-- x = n; in this column
abbrev pub x_is : ℕ → ℕ → TypedStatement
x_is column n = assign_at column (codes "x") (int n)

-- x = x + v;
abbrev pub adds_v : ℕ → TypedStatement
adds_v column = assign_at column (codes "x") (plus (variable_of (codes "x")) (variable_of (codes "v")))

-- if c then x = 0;
abbrev pub resets_if : ℕ → TypedExpression → TypedStatement
resets_if column c = If (col column) c (x_is (column + 5) 0)

-- output;
abbrev pub outputs_row : ℕ → TypedStatement
outputs_row column = Output (col column) (0 ∷ [])

-- if c then output;
abbrev pub outputs_if : ℕ → TypedExpression → TypedStatement
outputs_if column c = If (col column) c (outputs_row (column + 5))

-- put this variable;
abbrev pub puts : ℕ → List ℕ → TypedStatement
puts column name = Put (col column) (Shown (variable_of name) ∷ [])

-- c and d
abbrev pub and_also : TypedExpression → TypedExpression → TypedExpression
and_also c d = binary operation.And BigInt c d

-- c or d
abbrev pub or_also : TypedExpression → TypedExpression → TypedExpression
or_also c d = binary operation.Or BigInt c d

-- not c
abbrev pub not_so : TypedExpression → TypedExpression
not_so c = Prefixed prefix.Not c BigInt

-- first.a
abbrev pub first_a : TypedExpression
first_a = first_flag (codes "a")

-- first.b
abbrev pub first_b : TypedExpression
first_b = first_flag (codes "b")

-- last.a
abbrev pub last_a : TypedExpression
last_a = last_flag (codes "a")

-- last.b
abbrev pub last_b : TypedExpression
last_b = last_flag (codes "b")

-- the variable v
abbrev pub v_value : TypedExpression
v_value = variable_of (codes "v")

-- do; these statements end;
abbrev pub block_of : ℕ → List TypedStatement → TypedStatement
block_of column body = Block (col column) (all_statements body)

-- dcl package hash h([v],[x]); dcl package hiter i('h');
abbrev pub hash_of_v : DeclaredObjects
hash_of_v = record {
  hashes = record { name = codes "h"; key_variables = hash_variable BigInt (codes "v") ∷ []; data_variables = hash_variable BigInt (codes "x") ∷ []; loaded = None } ∷ [];
  iterators = record { name = codes "i"; hash = codes "h" } ∷ [];
}

-- the verdict on such a program with h and i
abbrev pub verdict_with_hash : List (List ℕ) → List TypedStatement → Verdict
verdict_with_hash bys body = verdict_on (record (retaining_x bys body) { objects = hash_of_v })

-- y = this;
abbrev pub asks_hash : ℕ → TypedExpression → TypedStatement
asks_hash column call = assign_at column (codes "y") call

-- h.find()
abbrev pub find_v : TypedExpression
find_v = HashCalled (codes "h") hash.Find

-- h.add()
abbrev pub add_v : TypedExpression
add_v = HashCalled (codes "h") hash.Add

-- h.clear()
abbrev pub clear_h : TypedExpression
clear_h = HashCalled (codes "h") hash.Clear

-- i.next()
abbrev pub next_item : TypedExpression
next_item = IteratorCalled (codes "i") iterator.Next

-- method m(); these statements end;
abbrev pub plain_method : List TypedStatement → MethodTree
plain_method body = record { name = codes "m"; parameters = []; locals = []; returns = None; body = all_statements body }

-- m();
abbrev pub calls_m : ℕ → TypedStatement
calls_m column = Invoke (col column) None 0 NoArgument

-- the verdict on such a program with these methods
abbrev pub verdict_with_methods : List MethodTree → List (List ℕ) → List TypedStatement → Verdict
verdict_with_methods methods bys body = verdict_on (with_methods methods (retaining_x bys body))

-- method m(bigint n) returns bigint; if n then return x; x = 1; return m(n - 1); end;
abbrev pub recursive_method : MethodTree
recursive_method = record {
  name = codes "m";
  parameters = by_value (codes "n") ∷ [];
  locals = [];
  returns = Some BigInt;
  body = all_statements (
      If (col 200) (local (codes "n")) (ReturnValue (col 205) (variable_of (codes "x"))) ∷ x_is 210 1
      ∷ ReturnValue (col 215) (Called None 0 (ByValue (less (local (codes "n")) (int 1)) NoArgument) BigInt) ∷ []);
}

-- package p; dcl bigint c; method m(); c = c + 1; end; method z(); c = 0; end; endpackage; and dcl package p q;
abbrev pub with_counter : UnitTree → UnitTree
with_counter p = record p {
  instances = record {
    name = codes "q";
    package' = codes "p";
    variables = bigint (codes "c") ∷ [];
    objects = no_objects;
    methods = plain_method (assign_at 200 (codes "c") (plus (variable_of (codes "c")) (int 1)) ∷ [])
        ∷ record (plain_method (assign_at 210 (codes "c") (int 0) ∷ [])) { name = codes "z" } ∷ [];
  } ∷ [];
}

-- q.m();
abbrev pub counts_in_q : ℕ → TypedStatement
counts_in_q column = Invoke (col column) (Some (codes "q")) 0 NoArgument

-- q.z();
abbrev pub zeroes_q : ℕ → TypedStatement
zeroes_q column = Invoke (col column) (Some (codes "q")) 1 NoArgument

-- thread s(bigint n);
abbrev pub with_parameter_n : UnitTree → UnitTree
with_parameter_n p = record p { parameters = bigint (codes "n") ∷ [] }

-- the parameter n
abbrev pub n_value : TypedExpression
n_value = Variable (At (Parameter (codes "n"))) BigInt

-- ---- grains

-- sums by groups, and which grain they have
pub record GrainVerdicts : Type 0 where
  -- by a; if first.a then x = 0; x = x + v; if last.a then output;
  pub sum_by_a : verdict_with_x by_a (resets_if 10 first_a ∷ adds_v 20 ∷ outputs_if 30 last_a ∷ []) ≡ Local 1
  -- by a b; with first.b and last.b
  pub sum_by_two : verdict_with_x by_a_and_b (resets_if 10 first_b ∷ adds_v 20 ∷ outputs_if 30 last_b ∷ []) ≡ Local 2
  -- by a b; with first.a and last.a
  pub sum_by_first_of_two : verdict_with_x by_a_and_b (resets_if 10 first_a ∷ adds_v 20 ∷ outputs_if 30 last_a ∷ []) ≡ Local 1
  -- by a b; with first.b and last.a: the flag of a is read
  pub last_flag_of_the_coarser : verdict_with_x by_a_and_b (resets_if 10 first_b ∷ adds_v 20 ∷ outputs_if 30 last_a ∷ []) ≡ Local 1
  -- by a b; with first.b and last.b, and then if first.a then x = 0;
  pub coarser_flag_read : verdict_with_x by_a_and_b (resets_if 10 first_b ∷ adds_v 20 ∷ outputs_if 30 last_b ∷ resets_if 40 first_a ∷ []) ≡ Local 1
  -- by a; x = x + v; if last.a then output;
  pub never_reset : verdict_with_x by_a (adds_v 20 ∷ outputs_if 30 last_a ∷ []) ≡ not_local_reads (codes "x") 20
  -- by a; x = x + v; if last.a then do; output; x = 0; end;
  pub reset_behind : verdict_with_x by_a (adds_v 20 ∷ If (col 30) last_a (block_of 35 (outputs_row 40 ∷ x_is 50 0 ∷ [])) ∷ []) ≡ not_local_reads (codes "x") 20
  -- by a; if last.a then x = 0; x = x + v; if last.a then output;
  pub last_is_not_known : verdict_with_x by_a (resets_if 10 last_a ∷ adds_v 20 ∷ outputs_if 30 last_a ∷ []) ≡ not_local_reads (codes "x") 20
  -- x = 0; x = x + v; output;
  pub without_by : verdict_with_x by_none (x_is 10 0 ∷ adds_v 20 ∷ outputs_row 30 ∷ []) ≡ Local 0
  -- x = x + v; output;
  pub without_by_not_reset : verdict_with_x by_none (adds_v 20 ∷ outputs_row 30 ∷ []) ≡ not_local_reads (codes "x") 20
  -- by a b; y = y + v; put y; where y is not retained
  pub not_retained : verdict_with_x by_a_and_b (assign_at 10 (codes "y") (plus (variable_of (codes "y")) v_value) ∷ puts 20 (codes "y") ∷ outputs_row 30 ∷ []) ≡ Local 2
  -- by a b; put x; where nothing changes x
  pub never_changed : verdict_with_x by_a_and_b (puts 10 (codes "x") ∷ []) ≡ Local 2
  -- by a b; x = a; and an implicit output
  pub cleaned_before_the_end : verdict_with_x by_a_and_b (assign_at 10 (codes "x") (variable_of (codes "a")) ∷ []) ≡ Local 2
  -- by a b; if first.a then put v; x = 0;
  pub flag_decides_nothing_kept : verdict_with_x by_a_and_b (If (col 10) first_a (puts 15 (codes "v")) ∷ x_is 20 0 ∷ []) ≡ Local 1

-- ---- reading and cleaning

-- what reads, what cleans, and where ways meet
pub record ReadVerdicts : Type 0 where
  -- by a; if v then x = 1; output;
  pub cleaned_on_one_way : verdict_with_x by_a (If (col 10) v_value (x_is 15 1) ∷ outputs_row 20 ∷ []) ≡ not_local_reads (codes "x") 20
  -- by a; if v then x = 1; and an implicit output
  pub implicit_output_reads : verdict_with_x by_a (If (col 10) v_value (x_is 15 1) ∷ []) ≡ not_local_reads (codes "x") 5
  -- by a; if v then x = 1; else x = 2; output;
  pub cleaned_on_both_ways : verdict_with_x by_a (IfElse (col 10) v_value (x_is 15 1) (x_is 20 2) ∷ outputs_row 25 ∷ []) ≡ Local 1
  -- by a; if v then return; x = 1; and an implicit output
  pub returned_before : verdict_with_x by_a (If (col 10) v_value (Return (col 15)) ∷ x_is 20 1 ∷ []) ≡ not_local_reads (codes "x") 5
  -- by a; return; put x; and an output elsewhere: nothing reaches the `put`
  pub behind_return : verdict_with_x by_a (x_is 10 1 ∷ Return (col 15) ∷ puts 20 (codes "x") ∷ outputs_row 25 ∷ []) ≡ Local 1
  -- by a; if first.a and v then x = 0; x = x + v; output;
  pub and_of_known_and_other : verdict_with_x by_a (resets_if 10 (and_also first_a v_value) ∷ adds_v 20 ∷ outputs_row 30 ∷ []) ≡ not_local_reads (codes "x") 20
  -- by a; if v or first.a then x = 0; x = x + v; output;
  pub or_of_known_and_other : verdict_with_x by_a (resets_if 10 (or_also v_value first_a) ∷ adds_v 20 ∷ outputs_row 30 ∷ []) ≡ Local 1
  -- by a; if not first.a then x = x + v; else x = v; output;
  pub not_of_known : verdict_with_x by_a (IfElse (col 10) (not_so first_a) (adds_v 15) (assign_at 20 (codes "x") v_value) ∷ outputs_row 30 ∷ []) ≡ Local 1
  -- by a; if first.a = 1 then x = 0; x = x + v; output; a comparison is not decided
  pub comparison_of_known : verdict_with_x by_a (resets_if 10 (Compared comparison.Equal first_a (int 1)) ∷ adds_v 20 ∷ outputs_row 30 ∷ []) ≡ not_local_reads (codes "x") 20
  -- by a; select; when (v, first.a) x = 0; otherwise; end; x = x + v; output;
  pub select_decided : verdict_with_x by_a (Select (col 10) (When (Then v_value (Then first_a NoExpression)) (x_is 15 0) (Otherwise (Empty (col 20)))) ∷ adds_v 25 ∷ outputs_row 30 ∷ []) ≡ Local 1
  -- by a; select (first.a); when (1) x = 0; otherwise; end; x = x + v; output; no value is decided
  pub select_value_undecided : verdict_with_x by_a (SelectValue (col 10) first_a (When (Then (int 1) NoExpression) (x_is 15 0) (Otherwise (Empty (col 20)))) ∷ adds_v 25 ∷ outputs_row 30 ∷ []) ≡ not_local_reads (codes "x") 25
  -- by a; select; when (v) x = 0; end; x = x + v; output; without `otherwise` no way goes on
  pub select_without_otherwise : verdict_with_x by_a (Select (col 10) (When (Then v_value NoExpression) (x_is 15 0) NoOtherwise) ∷ adds_v 25 ∷ outputs_row 30 ∷ []) ≡ Local 1
  -- by a; do while (v); x = 0; end; output; behind the loop the set of its head stands
  pub loop_body_may_not_run : verdict_with_x by_a (While (col 10) v_value (all_statements (x_is 15 0 ∷ [])) ∷ outputs_row 20 ∷ []) ≡ not_local_reads (codes "x") 20
  -- by a; do while (x); x = 0; end; output; the test is read in the loop
  pub loop_test_reads : verdict_with_x by_a (While (col 10) (variable_of (codes "x")) (all_statements (x_is 15 0 ∷ [])) ∷ outputs_row 20 ∷ []) ≡ not_local_reads (codes "x") 10
  -- by a; do until (v); x = 0; end; output;
  pub last_test_cleans : verdict_with_x by_a (Until (col 10) v_value (all_statements (x_is 15 0 ∷ [])) ∷ outputs_row 20 ∷ []) ≡ Local 1
  -- by a; do until (v); if v then leave; x = 0; end; output;
  pub left_before : verdict_with_x by_a (Until (col 10) v_value (all_statements (If (col 15) v_value (Leave (col 18)) ∷ x_is 20 0 ∷ [])) ∷ outputs_row 25 ∷ []) ≡ not_local_reads (codes "x") 25
  -- by a; do x = 1 to 3; end; output; the variable of a counted loop is clean
  pub counted_is_clean : verdict_with_x by_a (Count (col 10) (global (codes "x")) (int 1) (int 3) None (all_statements []) ∷ outputs_row 20 ∷ []) ≡ Local 1
  -- by a; do y = 1 to 3; x = 0; end; output;
  pub counted_body_may_not_run : verdict_with_x by_a (Count (col 10) (global (codes "y")) (int 1) (int 3) None (all_statements (x_is 15 0 ∷ [])) ∷ outputs_row 20 ∷ []) ≡ not_local_reads (codes "x") 20
  -- by a; do x = x to 3; end; output; the bounds are read before
  pub counted_from_itself : verdict_with_x by_a (Count (col 10) (global (codes "x")) (variable_of (codes "x")) (int 3) None (all_statements []) ∷ outputs_row 20 ∷ []) ≡ not_local_reads (codes "x") 10
  -- by a; if v then do; y = x; x = 1; end; the read stands in the innermost statement
  pub innermost_statement : verdict_with_x by_a (If (col 10) v_value (block_of 15 (assign_at 20 (codes "y") (variable_of (codes "x")) ∷ x_is 25 1 ∷ [])) ∷ outputs_row 30 ∷ []) ≡ not_local_reads (codes "x") 20
  -- by a; if not first.a then put x; if v then x = 1; output; of a alone: no flag is known at a later load
  pub read_at_later_loads : verdict_on (with_columns (codes "a" ∷ []) (retaining_x by_a (If (col 10) (not_so first_a) (puts 15 (codes "x")) ∷ If (col 20) v_value (x_is 25 1) ∷ outputs_row 30 ∷ []))) ≡ not_local_reads (codes "x") 15
  -- retain x y; by a; x = y + x; y = 1; output; operands are read in order of evaluation, not of declaration
  pub first_operand_first : verdict_on (retaining (codes "x" ∷ codes "y" ∷ []) (retaining_x by_a (assign_at 10 (codes "x") (plus (variable_of (codes "y")) (variable_of (codes "x"))) ∷ assign_at 20 (codes "y") (int 1) ∷ outputs_row 30 ∷ []))) ≡ not_local_reads (codes "y") 10

-- ---- calls

-- methods, instances, hash objects and parameters
pub record CallVerdicts : Type 0 where
  -- method m(); x = 0; end; by a; if first.a then m(); x = x + v; output;
  pub method_cleans : verdict_with_methods (plain_method (x_is 200 0 ∷ []) ∷ []) by_a (If (col 10) first_a (calls_m 15) ∷ adds_v 20 ∷ outputs_row 30 ∷ []) ≡ Local 1
  -- method m(); put x; end; by a; m(); x = 0; output; the read stands in the calling statement
  pub method_reads : verdict_with_methods (plain_method (puts 200 (codes "x") ∷ []) ∷ []) by_a (calls_m 10 ∷ x_is 20 0 ∷ outputs_row 30 ∷ []) ≡ not_local_reads (codes "x") 10
  -- method m(); if first.a then x = 0; end; by a; m(); x = x + v; output; a known flag decides in a method too
  pub flag_in_method : verdict_with_methods (plain_method (resets_if 200 first_a ∷ []) ∷ []) by_a (calls_m 10 ∷ adds_v 20 ∷ outputs_row 30 ∷ []) ≡ Local 1
  -- method m(bigint n) returns bigint; .. return m(n - 1); end; by a; y = m(v); output; a method on a cycle reads all that it mentions
  pub recursive_reads : verdict_with_methods (recursive_method ∷ []) by_a (assign_at 10 (codes "y") (Called None 0 (ByValue v_value NoArgument) BigInt) ∷ outputs_row 20 ∷ []) ≡ not_local_reads (codes "x") 10
  -- the same behind x = 0;
  pub recursive_behind_reset : verdict_with_methods (recursive_method ∷ []) by_a (x_is 10 0 ∷ assign_at 15 (codes "y") (Called None 0 (ByValue v_value NoArgument) BigInt) ∷ outputs_row 20 ∷ []) ≡ Local 1
  -- method m(in_out bigint n); end; by a; m(x); output; a variable that is handed in and out is read
  pub in_out_reads : verdict_with_methods (record (plain_method []) { parameters = handed_in_and_out (codes "n") ∷ [] } ∷ []) by_a (Invoke (col 10) None 0 (InOut (global (codes "x")) NoArgument) ∷ outputs_row 20 ∷ []) ≡ not_local_reads (codes "x") 10
  -- by a; q.m(); x = 0; output; the instance is named
  pub instance_named : verdict_on (with_counter (retaining_x by_a (counts_in_q 10 ∷ x_is 20 0 ∷ outputs_row 30 ∷ []))) ≡ not_local_reads (codes "q") 10
  -- by a; if first.a then q.z(); q.m(); x = 0; output;
  pub instance_reset : verdict_on (with_counter (retaining_x by_a (If (col 10) first_a (zeroes_q 15) ∷ counts_in_q 20 ∷ x_is 30 0 ∷ outputs_row 40 ∷ []))) ≡ Local 1
  -- by a; y = h.find(); x = 0; output; nothing changes the hash object
  pub hash_only_searched : verdict_with_hash by_a (asks_hash 10 find_v ∷ x_is 20 0 ∷ outputs_row 30 ∷ []) ≡ Local 1
  -- by a; y = h.find(); output; `find` cleans no data variable
  pub find_cleans_nothing : verdict_with_hash by_a (asks_hash 10 find_v ∷ outputs_row 30 ∷ []) ≡ not_local_reads (codes "x") 30
  -- by a; x = v; y = h.add(); output;
  pub hash_kept : verdict_with_hash by_a (assign_at 10 (codes "x") v_value ∷ asks_hash 20 add_v ∷ outputs_row 30 ∷ []) ≡ not_local_reads (codes "h") 20
  -- by a; if first.a then h.clear(); x = v; y = h.add(); output;
  pub hash_cleared : verdict_with_hash by_a (If (col 5) first_a (Evaluate (col 8) clear_h) ∷ assign_at 10 (codes "x") v_value ∷ asks_hash 20 add_v ∷ outputs_row 30 ∷ []) ≡ Local 1
  -- by a; y = h.add(); output; the hash object is read before its variables
  pub hash_read_first : verdict_with_hash by_a (asks_hash 20 add_v ∷ outputs_row 30 ∷ []) ≡ not_local_reads (codes "h") 20
  -- by a; if first.a then h.clear(); y = h.add(); x = 0; output; and then the data variables
  pub data_read_by_add : verdict_with_hash by_a (If (col 5) first_a (Evaluate (col 8) clear_h) ∷ asks_hash 20 add_v ∷ x_is 25 0 ∷ outputs_row 30 ∷ []) ≡ not_local_reads (codes "x") 20
  -- by a; y = i.next(); x = 0; output;
  pub iterator_kept : verdict_with_hash by_a (asks_hash 10 next_item ∷ x_is 20 0 ∷ outputs_row 30 ∷ []) ≡ not_local_reads (codes "i") 10
  -- by a; if first.a then h.clear(); y = i.next(); x = 0; output; `clear` cleans the iterators too
  pub iterator_cleared : verdict_with_hash by_a (If (col 5) first_a (Evaluate (col 8) clear_h) ∷ asks_hash 10 next_item ∷ x_is 20 0 ∷ outputs_row 30 ∷ []) ≡ Local 1
  -- thread s(bigint n); by a; x = n; output;
  pub parameter_read : verdict_on (with_parameter_n (retaining_x by_a (assign_at 10 (codes "x") n_value ∷ outputs_row 20 ∷ []))) ≡ Local 1
  -- thread s(bigint n); by a; x = n; n = n + 1; output; a parameter that `run` assigns to is kept
  pub parameter_changed : verdict_on (with_parameter_n (retaining_x by_a (assign_at 10 (codes "x") n_value ∷ Assign (col 20) (At (Parameter (codes "n"))) (plus n_value (int 1)) ∷ outputs_row 30 ∷ []))) ≡ not_local_reads (codes "n") 10

-- ---- `init` and `term`

-- what stands outside of `run`
pub record OutsideVerdicts : Type 0 where
  -- method term(); x = 0; end;
  pub term_has_statement : verdict_on (record (retaining_x by_a (adds_v 20 ∷ [])) { term = body_of (x_is 300 0 ∷ []) }) ≡ NotLocal TermHasStatements (col 9)
  -- method init(); x = 0; put x; put x; end;
  pub init_puts : verdict_on (record (retaining_x by_a (adds_v 20 ∷ [])) { init = body_of (x_is 300 0 ∷ puts 310 (codes "x") ∷ puts 320 (codes "x") ∷ []) }) ≡ NotLocal InitWrites (col 310)
  -- method m(); put x; end; method init(); m(); end;
  pub init_calls_what_puts : verdict_on (record (with_methods (plain_method (puts 200 (codes "x") ∷ []) ∷ []) (retaining_x by_a (adds_v 20 ∷ []))) { init = body_of (calls_m 300 ∷ []) }) ≡ NotLocal InitWrites (col 200)
  -- package p; method p(); put 1; end; and dcl package p q;
  pub constructor_puts : verdict_on (record (retaining_x by_a (x_is 10 0 ∷ [])) {
    instances = record { name = codes "q"; package' = codes "p"; variables = []; objects = no_objects; methods = record (plain_method (Put (col 200) (Shown (int 1) ∷ []) ∷ [])) { name = codes "p" } ∷ [] } ∷ [];
    init = body_of (Construct (col 150) (codes "q") (Some 0) NoArgument ∷ []);
  }) ≡ NotLocal InitWrites (col 200)
  -- method init(); x = 0; end; by a; x = 0; `init` may set what it likes
  pub init_sets : verdict_on (record (retaining_x by_a (x_is 10 0 ∷ [])) { init = body_of (x_is 300 0 ∷ []) }) ≡ Local 1
