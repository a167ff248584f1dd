-- Columns that `keep` and `drop` leave, sources inside and outside of the domain, what may be set, and layouts of programs with
-- parameters, instances and thread programs.
use Rattle.std.specs.Prelude.{◌≡◌, ℕ, true, false, codes, List, [], ◌∷◌, map, Some, None, Result, Ok, Err}
use Rattle.ds2_tree.specs.Expressions.{Expression}
use Rattle.ds2_tree.specs.Globals.{Listed}
use Rattle.ds2_tree.specs.Statements.{Assignment}
use Rattle.ds2_tree.specs.declared.expressions.ChainKind.TheVariants.{Sum}
use Rattle.ds2_tree.specs.Units.{DataProgram}
use Rattle.ds2_value.specs.declared.ty.Ty.TheVariants.{BigInt, Decimal as DecimalOf, Varchar}
use Rattle.ds2_meaning.specs.ExampleWords.{col, variable_of, plus, assign_at, bigint, output_column, program_with}
use Rattle.ds2_meaning.specs.FurtherExamples.{naming}
use Rattle.ds2_meaning.specs.HashObjects.{no_objects}
use Rattle.ds2_meaning.specs.ProgramExamples.{input_of, reader, with_columns, retaining, summing, totals}
use Rattle.ds2_meaning.specs.ProgramTree.{UnitTree, reader_of}
use Rattle.ds2_meaning.specs.TypedStatement.{TypedStatements, Output, Finish, Next}
use Rattle.ds2_meaning.specs.declared.refusals.ScopeKind.TheVariants.{UnknownName}
use Rattle.ds2_meaning.specs.declared.refusals.TypeKind.TheVariants.{TypeClash}
use Rattle.ds2_meaning.specs.declared.globals.OutputTable as typed_output
use Rattle.ds2_meaning.specs.declared.location.Global.TheVariants.{Named, First, Last, Present, Parameter}
use Rattle.ds2_meaning.specs.declared.location.Reference.TheVariants.{At}
use Rattle.ds2_meaning.specs.declared.readings.Reading.TheVariants.{Set}
use Rattle.ds2_layout.specs.Layout.{slot_for, layout_of}
use Rattle.ds2_layout.specs.declared.slot.SlotRole.TheVariants.{Cleared, Kept, Column, Flag}
use Rattle.ds2_names.specs.InstanceExamples.{bigints_at}
use Rattle.ds2_names.specs.NameExamples.{word_in, program_of_statement, two_columns}
use Rattle.ds2_names.specs.RuleExamples.{listing_at}
use Rattle.ds2_elaboration.specs.Elaboration.{ProgramRefusal, OfNames, OfTypes}
use Rattle.ds2_elaboration.specs.ExpressionTypes.{is_settable_reference}
use Rattle.ds2_elaboration.specs.OperatorExamples.{no_columns_at_all, statements_of_run}
use Rattle.ds2_elaboration.specs.SourceWords.{becomes_alone, typed_alone, name_at, text_at, chained}

-- ---- keep and drop

-- data out(keep=(i k)) rest(drop=(j)) all; dcl bigint i j k m; keep i j k; drop k; enddata;
abbrev pub program_with_lists : DataProgram
program_with_lists = record {
  keyword = word_in 1 (codes "data");
  outputs =
      record { table = word_in 6 (codes "out"); options = Some (record { opening = col 9; list = listing_at 10 (codes "keep") (word_in 16 (codes "i") ∷ word_in 18 (codes "k") ∷ []) ∷ []; closing = col 20 }) }
      ∷ record { table = word_in 22 (codes "rest"); options = Some (record { opening = col 26; list = listing_at 27 (codes "drop") (word_in 33 (codes "j") ∷ []) ∷ []; closing = col 35 }) }
      ∷ record { table = word_in 37 (codes "all"); options = None }
      ∷ [];
  semicolon = col 40;
  globals =
      bigints_at 50 (codes "i" ∷ codes "j" ∷ codes "k" ∷ codes "m" ∷ [])
      ∷ Listed (word_in 70 (codes "keep")) (word_in 75 (codes "i") ∷ word_in 77 (codes "j") ∷ word_in 79 (codes "k") ∷ []) (col 80)
      ∷ Listed (word_in 90 (codes "drop")) (word_in 95 (codes "k") ∷ []) (col 96) ∷ [];
  end_keyword = word_in 999 (codes "enddata");
  end = col 999;
}

-- an output of this name with these BIGINT columns
abbrev pub made_of : List ℕ → List (List ℕ) → typed_output.OutputTable
made_of name columns = record { name = name; overwrites = false; columns = map (λ column. output_column (bigint column)) columns }

-- the columns that each output has
pub record ListedColumnExamples : Type 0 where
  -- k is dropped although `out` keeps it, m is not kept, and `rest` drops j
  pub columns_left_of_each : (typed_alone no_columns_at_all program_with_lists).outputs
      ≡ made_of (codes "out") (codes "i" ∷ []) ∷ made_of (codes "rest") (codes "i" ∷ []) ∷ made_of (codes "all") (codes "i" ∷ codes "j" ∷ []) ∷ []

-- ---- one program from its names to its tree

-- what data out; dcl bigint x; method run(); set t; x = this; end; enddata; becomes, where t has the columns a and b
abbrev pub one_assignment : Expression → Result TypedStatements ProgramRefusal
one_assignment value = statements_of_run (becomes_alone two_columns (program_of_statement (Assignment (word_in 46 (codes "x")) (col 48) value (col 60))))

-- a source that is taken, one that is refused for its names, and one for its types
pub record AssignedSourceExamples : Type 0 where
  -- x = a + b;
  pub sum_becomes_typed : one_assignment (chained Sum 52 (codes "+") (name_at 50 (codes "a")) (name_at 54 (codes "b"))) ≡ Ok (Next (assign_at 46 (codes "x") (plus (variable_of (codes "a")) (variable_of (codes "b")))) Finish)
  -- x = q;
  pub unknown_value : one_assignment (name_at 50 (codes "q")) ≡ Err (OfNames (record { kind = UnknownName; place = col 50 }))
  -- x = 'a';
  pub text_for_integer : one_assignment (text_at 50 (codes "'a'")) ≡ Err (OfTypes (record { kind = TypeClash; place = col 46 }))

-- ---- what may be set

-- what may be set
pub record SettableExamples : Type 0 where
  -- a parameter of a thread program may be set, and a flag may not
  pub parameter_is_settable : is_settable_reference (At (Parameter (codes "p"))) ≡ true
  pub flag_is_not_settable : is_settable_reference (At (Present (codes "p"))) ≡ false

-- ---- layouts

-- dcl bigint x k; dcl package p q; where the package has a variable k
abbrev pub program_with_instance : UnitTree
program_with_instance = record (program_with (codes "x" ∷ codes "k" ∷ []) []) {
  instances = record { name = codes "q"; package' = codes "p"; variables = bigint (codes "k") ∷ []; objects = no_objects; methods = [] } ∷ [];
}

-- retain a; set t; with the columns a and b
abbrev pub program_with_retained_column : UnitTree
program_with_retained_column =
    retaining (codes "a" ∷ []) (with_columns (codes "b" ∷ codes "a" ∷ []) (reader (Set (input_of (codes "t") (codes "a" ∷ codes "b" ∷ []) ∷ []) []) [] (codes "a" ∷ codes "b" ∷ []) []))

-- the slots of programs with parameters, with instances, with a retained column, and of a program and the thread program that it reads
-- from, which have a layout each
pub record ThreadLayoutExamples : Type 0 where
  -- thread names(bigint n); dcl bigint x;
  pub parameters_are_kept : layout_of (naming []) ≡ record {
    slots = slot_for None (Named (codes "x")) BigInt Cleared ∷ slot_for None (Parameter (codes "n")) BigInt Kept ∷ [];
    projections = (0 ∷ []) ∷ [];
  }
  -- the program's own k is set to null, and that of the instance is kept
  pub variables_of_instances : (layout_of program_with_instance).slots
      ≡ slot_for None (Named (codes "x")) BigInt Cleared ∷ slot_for None (Named (codes "k")) BigInt Cleared ∷ slot_for (Some (codes "q")) (Named (codes "k")) BigInt Kept ∷ []
  -- a retained column is a column; the output has b and a
  pub retained_columns : layout_of program_with_retained_column ≡ record {
    slots = slot_for None (Named (codes "a")) BigInt Column ∷ slot_for None (Named (codes "b")) BigInt Column ∷ [];
    projections = (1 ∷ 0 ∷ []) ∷ [];
  }
  -- data totals; dcl thread sums s; method run(); set from s threads=4; end; enddata; and thread sums, with total retained
  pub of_the_reader : (layout_of (reader_of (totals (summing [] (Output (col 75) (0 ∷ [])))))).slots
      ≡ slot_for None (Named (codes "total")) (DecimalOf 15 2) Column ∷ slot_for None (Named (codes "region")) (Varchar 1) Column ∷ []
  pub of_its_thread_program : layout_of (summing [] (Output (col 75) (0 ∷ []))) ≡ record {
    slots =
        slot_for None (Named (codes "total")) (DecimalOf 15 2) Kept ∷ slot_for None (Named (codes "region")) (Varchar 1) Column ∷ slot_for None (Named (codes "amt")) (DecimalOf 3 2) Column
        ∷ slot_for None (First (codes "region")) BigInt Flag ∷ slot_for None (Last (codes "region")) BigInt Flag ∷ [];
    projections = (0 ∷ 1 ∷ []) ∷ [];
  }
