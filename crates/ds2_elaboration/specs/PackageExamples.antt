-- Small sources with packages, hash objects and thread programs: what they become, or the refusal of their types.
use Rattle.std.specs.Prelude.{◌≡◌, ◌+◌, ℕ, pos, codes, List, [], ◌∷◌, Some, None, Result, Ok, Err}
use Rattle.std.specs.Result.{result_map_both}
use Rattle.ds2_tree.specs.Expressions.{Expression, Call, Member}
use Rattle.ds2_tree.specs.Globals.{GlobalItem}
use Rattle.ds2_tree.specs.Statements as s
use Rattle.ds2_tree.specs.Units.{SourcePart, APackage, AThread, AData}
use Rattle.ds2_tree.specs.declared.expressions.Callee.TheVariants as callee
use Rattle.ds2_tree.specs.declared.readings.Reading.TheVariants as read_as
use Rattle.ds2_value.specs.declared.hash_function.HashFunction.TheVariants.{Find, NumItems}
use Rattle.ds2_value.specs.declared.ty.Ty.TheVariants.{BigInt, Decimal as DecimalOf}
use Rattle.ds2_value.specs.declared.value.Value.TheVariants.{Int}
use Rattle.ds2_meaning.specs.declared.location.Global.TheVariants.{Named}
use Rattle.ds2_meaning.specs.declared.location.Reference.TheVariants.{At}
use Rattle.ds2_meaning.specs.declared.readings.Reading as typed_reading
use Rattle.ds2_meaning.specs.declared.readings.Reading.TheVariants as typed_as
use Rattle.ds2_meaning.specs.declared.refusals.TypeKind.TheVariants.{TypeClash}
use Rattle.ds2_meaning.specs.ExampleWords.{col}
use Rattle.ds2_meaning.specs.ProgramTree.{ProgramTree, reader_of}
use Rattle.ds2_meaning.specs.TypedExpression.{TypedExpression, Constant, Convert, Widen, Called, HashCalled, NoArgument, ByValue}
use Rattle.ds2_meaning.specs.TypedStatement.{TypedStatements, Finish, Next, Assign, Construct, SetParameters, Invoke}
use Rattle.ds2_names.specs.InstanceExamples.{hash_at, instance_at, thread_at, integer_placed_at}
use Rattle.ds2_names.specs.NameExamples.{word_in}
use Rattle.ds2_elaboration.specs.Elaboration.{ProgramRefusal, OfTypes, elaborated_source}
use Rattle.ds2_elaboration.specs.OperatorExamples.{no_columns_at_all}
use Rattle.ds2_elaboration.specs.SourceWords.{integer_at, name_at, arguments_from, sets, returns_at, bigint_word, decimal_words, text_words, parameter_at, declares, returning, method_at, program_from}

-- ---- words

-- x.m(arguments), the method two columns behind the object
abbrev pub calling_on : ℕ → List ℕ → List ℕ → List Expression → Expression
calling_on column object method arguments =
    Call (callee.Method (word_in column object) (col 999) (word_in (column + 2) method)) (col 999) (arguments_from arguments) (col 999)

-- x.m(arguments); as a statement
abbrev pub calls_on : ℕ → List ℕ → List ℕ → List Expression → s.Statement
calls_on column object method arguments =
    s.Call (callee.Method (word_in column object) (col 999) (word_in (column + 2) method)) (col 999) (arguments_from arguments) (col 999) (col 999)

-- method name(); with these statements, in this column
abbrev pub doing : ℕ → List ℕ → List s.Statement → GlobalItem
doing column name statements = method_at column name [] None None statements

-- package p; method p(decimal(9,2) a); end; method m(bigint a) returns bigint; return a; end; endpackage;
abbrev pub package_with_constructor : SourcePart
package_with_constructor = APackage (record {
  keyword = word_in 1 (codes "package");
  name = word_in 9 (codes "p");
  semicolon = col 10;
  globals =
      method_at 12 (codes "p") (parameter_at 20 (decimal_words (codes "9") (codes "2")) (codes "a") ∷ []) None None []
      ∷ method_at 40 (codes "m") (parameter_at 50 bigint_word (codes "a") ∷ []) (returning bigint_word) None (returns_at 60 (name_at 67 (codes "a")) ∷ []) ∷ [];
  end_keyword = word_in 80 (codes "endpackage");
  end = col 90;
})

-- thread t(decimal(9,2) n); dcl bigint y; method run(); end; endthread;
abbrev pub thread_with_parameter : SourcePart
thread_with_parameter = AThread (record {
  keyword = word_in 1 (codes "thread");
  name = word_in 8 (codes "t");
  parameters = Some (record { opening = col 9; list = parameter_at 10 (decimal_words (codes "9") (codes "2")) (codes "n") ∷ []; closing = col 12 });
  semicolon = col 13;
  globals = declares 20 bigint_word (codes "y") ∷ doing 30 (codes "run") [] ∷ [];
  end_keyword = word_in 60 (codes "endthread");
  end = col 70;
})

-- dcl bigint x; beside these parts, in a data program behind another unit
abbrev pub beside_x : SourcePart → List GlobalItem → Result (List ProgramTree) ProgramRefusal
beside_x before globals = elaborated_source no_columns_at_all (before ∷ AData (program_from (declares 5 bigint_word (codes "x") ∷ globals)) ∷ [])

-- the statements of `run` and of `init` of each program of a source that is not refused, one after the other
abbrev pub runs_of_each : Result (List ProgramTree) ProgramRefusal → Result (List TypedStatements) ProgramRefusal
runs_of_each = result_map_both (map_each (λ (p : ProgramTree). (reader_of p).run.statements)) (λ refusal. refusal)
  where
    map_each : (ProgramTree → TypedStatements) → List ProgramTree → List TypedStatements
    map_each f [] = []
    map_each f (p ∷ programs) = f p ∷ map_each f programs

-- those of `init`
abbrev pub inits_of_each : Result (List ProgramTree) ProgramRefusal → Result (List TypedStatements) ProgramRefusal
inits_of_each = result_map_both (map_each (λ (p : ProgramTree). (reader_of p).init.statements)) (λ refusal. refusal)
  where
    map_each : (ProgramTree → TypedStatements) → List ProgramTree → List TypedStatements
    map_each f [] = []
    map_each f (p ∷ programs) = f p ∷ map_each f programs

-- the reading statements
abbrev pub readings_of_each : Result (List ProgramTree) ProgramRefusal → Result (List typed_reading.Reading) ProgramRefusal
readings_of_each = result_map_both (map_each (λ (p : ProgramTree). (reader_of p).reading)) (λ refusal. refusal)
  where
    map_each : (ProgramTree → typed_reading.Reading) → List ProgramTree → List typed_reading.Reading
    map_each f [] = []
    map_each f (p ∷ programs) = f p ∷ map_each f programs

-- the integer 1
abbrev pub integer_one : TypedExpression
integer_one = Constant (Int (pos 1)) BigInt

-- a refusal of types in a column
abbrev pub clash_at_column : ℕ → Result (List TypedStatements) ProgramRefusal
clash_at_column column = Err (OfTypes (record { kind = TypeClash; place = col column }))

-- ---- examples

-- instances of packages
pub record InstanceTypeExamples : Type 0 where
  -- dcl package p q(1); method run(); x = q.m(1); end;
  pub method_called : runs_of_each (beside_x package_with_constructor (
      instance_at 10 (codes "p") (codes "q") (integer_placed_at 26 ∷ []) ∷ doing 80 (codes "run") (sets 100 (codes "x") (calling_on 104 (codes "q") (codes "m") (integer_at 108 (codes "1") ∷ [])) ∷ []) ∷ []))
      ≡ Ok (Next (Assign (col 100) (At (Named (codes "x"))) (Called (Some (codes "q")) 1 (ByValue integer_one NoArgument) BigInt)) Finish ∷ [])
  -- the constructor stands in `init` at its declaration, and its argument has the parameter's type
  pub constructor_called : inits_of_each (beside_x package_with_constructor (instance_at 10 (codes "p") (codes "q") (integer_placed_at 26 ∷ []) ∷ []))
      ≡ Ok (Next (Construct (col 10) (codes "q") (Some 0) (ByValue (Convert (Widen integer_one) (DecimalOf 9 2)) NoArgument)) Finish ∷ [])
  -- x = q.p(1); of a method that returns nothing, at its name
  pub nothing_returned : runs_of_each (beside_x package_with_constructor (
      instance_at 10 (codes "p") (codes "q") (integer_placed_at 26 ∷ []) ∷ doing 80 (codes "run") (sets 100 (codes "x") (calling_on 104 (codes "q") (codes "p") (integer_at 108 (codes "1") ∷ [])) ∷ []) ∷ []))
      ≡ clash_at_column 106
  -- q.p(1); as a statement
  pub called_as_a_statement : runs_of_each (beside_x package_with_constructor (
      instance_at 10 (codes "p") (codes "q") (integer_placed_at 26 ∷ []) ∷ doing 80 (codes "run") (calls_on 100 (codes "q") (codes "p") (integer_at 108 (codes "1") ∷ []) ∷ []) ∷ []))
      ≡ Ok (Next (Invoke (col 100) (Some (codes "q")) 0 (ByValue (Convert (Widen integer_one) (DecimalOf 9 2)) NoArgument)) Finish ∷ [])

-- hash objects
pub record HashTypeExamples : Type 0 where
  -- x = h.find(); and x = h.num_items; where h has the key k and the data variable v
  pub found : runs_of_each (beside_x package_with_constructor (
      declares 6 bigint_word (codes "k") ∷ declares 7 (text_words (codes "char") (codes "3")) (codes "v") ∷ hash_at 40 (codes "h") (codes "k") (codes "v")
      ∷ doing 80 (codes "run") (sets 100 (codes "x") (calling_on 104 (codes "h") (codes "find") []) ∷ sets 120 (codes "x") (Member (word_in 124 (codes "h")) (col 125) (word_in 126 (codes "num_items"))) ∷ []) ∷ []))
      ≡ Ok (Next (Assign (col 100) (At (Named (codes "x"))) (HashCalled (codes "h") Find)) (Next (Assign (col 120) (At (Named (codes "x"))) (HashCalled (codes "h") NumItems)) Finish) ∷ [])

-- thread programs
pub record ThreadTypeExamples : Type 0 where
  -- dcl thread t s; method init(); s.setparms(1); end;
  pub parameters_set : inits_of_each (beside_x thread_with_parameter (
      thread_at 10 (codes "t") (codes "s") ∷ doing 80 (codes "init") (calls_on 100 (codes "s") (codes "setparms") (integer_at 110 (codes "1") ∷ []) ∷ []) ∷ []))
      ≡ Ok (Next (SetParameters (col 100) (codes "s") (record { parameter = codes "n"; value = Convert (Widen integer_one) (DecimalOf 9 2) } ∷ [])) Finish ∷ [])
  -- x = s.setparms(1); at its name
  pub setting_as_a_value : inits_of_each (beside_x thread_with_parameter (
      thread_at 10 (codes "t") (codes "s") ∷ doing 80 (codes "init") (sets 100 (codes "x") (calling_on 104 (codes "s") (codes "setparms") (integer_at 110 (codes "1") ∷ [])) ∷ []) ∷ []))
      ≡ clash_at_column 106
  -- method run(); set from s; end;
  pub read_from : readings_of_each (beside_x thread_with_parameter (
      thread_at 10 (codes "t") (codes "s") ∷ method_at 80 (codes "run") [] None (Some (read_as.SetFrom (word_in 100 (codes "set")) (word_in 104 (codes "from")) (word_in 109 (codes "s")) None (col 110))) [] ∷ []))
      ≡ Ok (typed_as.From (codes "s") 1 (record { name = codes "y"; ty = BigInt } ∷ []) ∷ [])
