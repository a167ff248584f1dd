-- A program that is typed, and programs that are not.
use Rattle.std.specs.Prelude.{◌≡◌, ◌-◌, ◌^◌, true, false, codes, List, [], ◌∷◌, ◌++◌, Some, None}
use Rattle.ds2_value.specs.declared.hash_function.HashFunction.TheVariants as hash
use Rattle.ds2_value.specs.declared.ty.Ty.TheVariants.{BigInt}
use Rattle.ds2_meaning.specs.declared.location.Global.TheVariants.{First, Parameter}
use Rattle.ds2_meaning.specs.declared.location.Reference.TheVariants.{At}
use Rattle.ds2_meaning.specs.declared.readings.Input.{Input}
use Rattle.ds2_meaning.specs.declared.readings.Reading.TheVariants.{Set, Merge, From}
use Rattle.ds2_meaning.specs.ExampleWords.{col, int, variable_of, assign_at, bigint, output_of, program_with}
use Rattle.ds2_meaning.specs.FormExamples.{counting_up}
use Rattle.ds2_meaning.specs.HashExamples.{hashing, on_hash}
use Rattle.ds2_meaning.specs.IsTyped.{IsTypedProgram, IsTypedDataProgram, location_type, is_countable}
use Rattle.ds2_meaning.specs.ProgramExamples.{input_of, reader, summing, totals}
use Rattle.ds2_meaning.specs.ProgramTree.{UnitTree, OverTables}
use Rattle.ds2_meaning.specs.StatementExamples.{calling}
use Rattle.ds2_meaning.specs.TypedStatement.{Assign, Evaluate, SetParameters, Leave, Construct, Output}
use Rattle.ds2_meaning.specs.TypedExpression.{HashCalled, NoArgument}

-- set t t ..; with seventeen tables
abbrev pub many_tables : UnitTree
many_tables = reader (Set (four ++ four ++ four ++ four ++ input_of (codes "t") (codes "k" ∷ []) ∷ []) []) [] (codes "k" ∷ []) []
  where
    four : List Input
    four = input_of (codes "t") (codes "k" ∷ []) ∷ input_of (codes "t") (codes "k" ∷ []) ∷ input_of (codes "t") (codes "k" ∷ []) ∷ input_of (codes "t") (codes "k" ∷ []) ∷ []

-- which small programs are typed
pub record TypedExamples : Type 0 where
  -- x = f(3); with a method that calls itself
  pub recursion_is_typed : IsTypedDataProgram (OverTables (calling 3))
  -- a flag as a target
  pub flag_is_no_target : IsTypedProgram (OverTables (program_with (codes "x" ∷ []) (Assign (col 1) (At (First (codes "x"))) (int 1) ∷ []))) → ⊥
  -- n = n + 1; where n is a parameter of the thread program
  pub parameter_may_be_set : IsTypedProgram (OverTables counting_up)
  -- a loop is left outside of loops
  pub leave_wants_a_loop : IsTypedProgram (OverTables (program_with (codes "x" ∷ []) (Leave (col 1) ∷ []))) → ⊥
  -- an instance is constructed in `run`
  pub constructors_stand_in_init : IsTypedProgram (OverTables (program_with (codes "x" ∷ []) (Construct (col 1) (codes "p") None NoArgument ∷ []))) → ⊥
  -- a variable that is not there
  pub names_are_known : IsTypedProgram (OverTables (program_with (codes "x" ∷ []) (assign_at 1 (codes "x") (variable_of (codes "q")) ∷ []))) → ⊥
  -- h.add(); with a hash object of k and v, and an iterator
  pub hash_is_typed : IsTypedProgram (OverTables (hashing (codes "k" ∷ codes "v" ∷ []) (Evaluate (col 1) (on_hash hash.Add) ∷ [])))
  -- g.find(); where there is no g
  pub hashes_are_known : IsTypedProgram (OverTables (hashing (codes "k" ∷ codes "v" ∷ []) (Evaluate (col 1) (HashCalled (codes "g") hash.Find) ∷ []))) → ⊥
  -- s.setparms(); in `run`
  pub parameters_are_set_in_init : IsTypedProgram (OverTables (record (program_with (codes "x" ∷ []) (SetParameters (col 1) (codes "s") [] ∷ [])) {
    threads = record { name = codes "s"; parameters = [] } ∷ [];
  })) → ⊥
  -- data out out; and two columns x of one output
  pub outputs_have_names_of_their_own : IsTypedProgram (OverTables (record (program_with (codes "x" ∷ []) []) {
    outputs = output_of (bigint (codes "x") ∷ []) ∷ output_of (bigint (codes "x") ∷ []) ∷ [];
  })) → ⊥
  pub columns_have_names_of_their_own : IsTypedProgram (OverTables (record (program_with (codes "x" ∷ []) []) { outputs = output_of (bigint (codes "x") ∷ bigint (codes "x") ∷ []) ∷ [] })) → ⊥
  -- set t; where t has two columns k, and seventeen tables
  pub tables_are_schemas : IsTypedProgram (OverTables (reader (Set (input_of (codes "t") (codes "k" ∷ codes "k" ∷ []) ∷ []) []) [] (codes "k" ∷ []) [])) → ⊥
  pub seventeen_tables_are_too_many : IsTypedProgram (OverTables many_tables) → ⊥
  -- merge t; without a BY variable
  pub merge_wants_a_by_variable : IsTypedProgram (OverTables (reader (Merge (input_of (codes "t") (codes "k" ∷ []) ∷ []) [] false) [] (codes "k" ∷ []) [])) → ⊥
  -- set from s threads=65;
  pub workers_are_few : IsTypedProgram (OverTables (record (program_with (codes "x" ∷ []) []) { reading = From (codes "s") 65 [] })) → ⊥
  -- a data program with a parameter n, and a thread program as a data program
  pub data_has_no_parameters : IsTypedProgram (OverTables (record (program_with (codes "x" ∷ []) []) { parameters = bigint (codes "n") ∷ [] })) → ⊥
  pub thread_is_no_data : IsTypedDataProgram (OverTables (record (program_with (codes "x" ∷ []) []) { thread = Some (codes "t") })) → ⊥
  -- set from s; where the thread program has no name
  pub stage_has_a_name : IsTypedProgram (totals (record (summing [] (Output (col 75) (0 ∷ []))) { thread = None })) → ⊥
  -- dcl thread t s; with a parameter n, which gets BIGINT values
  pub given_values_have_types : location_type (record (program_with (codes "x" ∷ []) []) { threads = record { name = codes "s"; parameters = bigint (codes "n") ∷ [] } ∷ [] })
      (Some (codes "s")) (Parameter (codes "n")) ≡ Some BigInt
  -- so many items are counted by a BIGINT, and one more are not
  pub most_items : is_countable (2 ^ 63 - 1) ≡ true
  pub more_items : is_countable (2 ^ 63) ≡ false
