-- Small programs whose names stand for columns, flags, parameters and locals: what they become, or where they are refused.
use Rattle.std.specs.Prelude.{◌≡◌, ℕ, codes, List, [], ◌∷◌, Some, None, Result, Ok, Err}
use Rattle.ds2_tree.specs.Expressions.{Expression, Member}
use Rattle.ds2_tree.specs.Globals.{GlobalItem, Defined}
use Rattle.ds2_tree.specs.Statements.{Statement, Put}
use Rattle.ds2_tree.specs.declared.globals.TypeName.{TypeName}
use Rattle.ds2_tree.specs.declared.statements.PutItem.TheVariants as item
use Rattle.ds2_tree.specs.declared.expressions.ChainKind.TheVariants.{Sum, Concatenation}
use Rattle.ds2_value.specs.declared.ty.Ty.TheVariants.{BigInt, Varchar}
use Rattle.ds2_meaning.specs.declared.globals.Variable.{Variable}
use Rattle.ds2_meaning.specs.declared.location.Global.{Global}
use Rattle.ds2_meaning.specs.declared.location.Global.TheVariants.{First, Last, Present}
use Rattle.ds2_meaning.specs.declared.location.Reference.TheVariants.{At}
use Rattle.ds2_meaning.specs.declared.refusals.TypeKind.TheVariants.{TypeClash}
use Rattle.ds2_meaning.specs.ExampleWords.{col, global, variable_of, text_constant, assign_at, assign_local}
use Rattle.ds2_meaning.specs.TypedExpression as tree
use Rattle.ds2_meaning.specs.TypedStatement as t
use Rattle.ds2_names.specs.NameExamples.{word_in}
use Rattle.ds2_elaboration.specs.Elaboration.{ProgramRefusal, OfTypes}
use Rattle.ds2_elaboration.specs.OperatorExamples.{no_columns_at_all, statements_of_run, refused_in}
use Rattle.ds2_elaboration.specs.SourceExamples.{small_tables, columns_over, clash_in, bodies_unless_refused, flagged_reading}
use Rattle.ds2_elaboration.specs.SourceWords.{becomes_alone, name_at, integer_at, text_at, chained, compared_at, calling_at, sets, calls, counts_at, bigint_word, text_words, declares, parameter_at, in_out_at, method_at, statements_from, program_from}

-- ---- columns whose tables do not join

-- varchar(5)
abbrev pub five_characters : TypeName
five_characters = text_words (codes "varchar") (codes "5")

-- a method without parameters, with a local of this type
abbrev pub method_with_local : ℕ → List ℕ → TypeName → List ℕ → List Statement → GlobalItem
method_with_local column name ty hiding body = Defined (record {
  keyword = word_in column (codes "method");
  name = word_in 999 name;
  parameters = record { opening = col 999; list = []; closing = col 999 };
  returns = None;
  semicolon = col 999;
  locals = record { keyword = word_in 999 (codes "dcl"); ty = ty; names = word_in 999 hiding ∷ []; end = col 999 } ∷ [];
  reading = None;
  body = statements_from body;
  end_keyword = word_in 999 (codes "end");
  end = col 999;
})

-- dcl varchar(5) v; dcl bigint i; method g(in_out varchar(5) a); end;
abbrev pub text_globals : List GlobalItem
text_globals = declares 10 five_characters (codes "v") ∷ declares 12 bigint_word (codes "i") ∷ method_at 60 (codes "g") (in_out_at 70 five_characters (codes "a") ∷ []) None None [] ∷ []

-- those, and method init(); with this statement in column 40, end; before a `run` that begins with set whole short; whose columns k
-- do not join
abbrev pub before_unjoined : Statement → Result (List Variable) ProgramRefusal
before_unjoined statement = columns_over (method_at 20 (codes "init") [] None None (statement ∷ []) ∷ text_globals) (codes "whole") (codes "short")

-- a column whose tables do not join has no type: a statement before the reading statement is not refused for one, and the table is
pub record UnjoinedColumnExamples : Type 0 where
  -- v = k; k = 'x'; : neither a text nor a number
  pub read_unjoined : before_unjoined (sets 40 (codes "v") (name_at 44 (codes "k"))) ≡ clash_in 112
  pub set_unjoined : before_unjoined (sets 40 (codes "k") (text_at 44 (codes "'x'"))) ≡ clash_in 112
  -- v = k + 1; v = k || 'x'; i = k = 'x'; i = length(k); : nothing around it is refused
  pub sum_of_unjoined : before_unjoined (sets 40 (codes "v") (chained Sum 46 (codes "+") (name_at 44 (codes "k")) (integer_at 48 (codes "1")))) ≡ clash_in 112
  pub text_of_unjoined : before_unjoined (sets 40 (codes "v") (chained Concatenation 46 (codes "||") (name_at 44 (codes "k")) (text_at 49 (codes "'x'")))) ≡ clash_in 112
  pub compared_unjoined : before_unjoined (sets 40 (codes "i") (compared_at 46 (codes "=") (name_at 44 (codes "k")) (text_at 48 (codes "'x'")))) ≡ clash_in 112
  pub length_of_unjoined : before_unjoined (sets 40 (codes "i") (calling_at 44 (codes "length") (name_at 51 (codes "k") ∷ []))) ≡ clash_in 112
  -- g(k); do k = 1 to 2; end;
  pub handed_over_unjoined : before_unjoined (calls 40 (codes "g") (name_at 42 (codes "k") ∷ [])) ≡ clash_in 112
  pub counted_unjoined : before_unjoined (counts_at 40 (codes "k") (integer_at 47 (codes "1")) (integer_at 52 (codes "2"))) ≡ clash_in 112
  -- v = length(k); : a BIGINT whatever k is
  pub length_is_integer : before_unjoined (sets 40 (codes "v") (calling_at 44 (codes "length") (name_at 51 (codes "k") ∷ []))) ≡ clash_in 40
  -- k = v + 1; : the value is refused by itself
  pub value_for_unjoined : before_unjoined (sets 40 (codes "k") (chained Sum 46 (codes "+") (name_at 44 (codes "v")) (integer_at 48 (codes "1")))) ≡ clash_in 46
  -- dcl bigint k; in `init`, v = k; : the local is a BIGINT
  pub hidden_unjoined : columns_over (method_with_local 20 (codes "init") bigint_word (codes "k") (sets 40 (codes "v") (name_at 44 (codes "k")) ∷ []) ∷ text_globals) (codes "whole") (codes "short") ≡ clash_in 40
  -- dcl bigint k; v = k; before set whole fixed; : a declared variable has its type
  pub declared_unjoined : columns_over (method_at 20 (codes "init") [] None None (sets 40 (codes "v") (name_at 44 (codes "k")) ∷ []) ∷ declares 14 bigint_word (codes "k") ∷ text_globals) (codes "whole") (codes "fixed") ≡ clash_in 40

-- ---- flags, parameters and locals

-- dcl bigint i; method run(); set whole (in=p); by k; and these statements, end;
abbrev pub beside_flags : List Statement → Result t.TypedStatements ProgramRefusal
beside_flags body =
    statements_of_run (becomes_alone small_tables (program_from (declares 10 bigint_word (codes "i") ∷ declares 12 five_characters (codes "v") ∷ method_at 80 (codes "run") [] None flagged_reading body ∷ [])))

-- first.k or last.k in this column
abbrev pub flag_at : ℕ → List ℕ → Expression
flag_at column word = Member (word_in column word) (col 999) (word_in 999 (codes "k"))

-- the value of a flag
abbrev pub value_of_flag : Global → tree.TypedExpression
value_of_flag flag = tree.Variable (At flag) BigInt

-- dcl bigint i; method h(varchar(5) i); and this statement, end;
abbrev pub beside_parameter : Statement → Result (List t.TypedStatements) ProgramRefusal
beside_parameter statement =
    bodies_unless_refused (becomes_alone no_columns_at_all (program_from (
    declares 10 bigint_word (codes "i") ∷ method_at 60 (codes "h") (parameter_at 70 five_characters (codes "i") ∷ []) None None (statement ∷ []) ∷ [])))

-- dcl bigint i; method h(); dcl varchar(5) i; and this statement, end;
abbrev pub beside_local : Statement → Result (List t.TypedStatements) ProgramRefusal
beside_local statement =
    bodies_unless_refused (becomes_alone no_columns_at_all (program_from (
    declares 10 bigint_word (codes "i") ∷ method_with_local 60 (codes "h") five_characters (codes "i") (statement ∷ []) ∷ [])))

-- i = 'x'; in column 80, where i is a local or parameter of five characters
abbrev pub text_set : Result (List t.TypedStatements) ProgramRefusal
text_set = Ok (t.Next (assign_local 80 (codes "i") (tree.Convert (text_constant (codes "x") 1) (Varchar 5))) t.Finish ∷ [])

-- dcl bigint i; dcl varchar(5) v; method m(bigint a, in_out bigint b); end; method run(); m(i, second); end;
abbrev pub calling_with_both : List ℕ → Result t.TypedStatements ProgramRefusal
calling_with_both second =
    statements_of_run (becomes_alone no_columns_at_all (program_from (
    declares 10 bigint_word (codes "i") ∷ declares 12 five_characters (codes "v")
    ∷ method_at 60 (codes "m") (parameter_at 70 bigint_word (codes "a") ∷ in_out_at 72 bigint_word (codes "b") ∷ []) None None []
    ∷ method_at 80 (codes "run") [] None None (calls 130 (codes "m") (name_at 132 (codes "i") ∷ name_at 135 second ∷ []) ∷ []) ∷ [])))

-- what names stand for
pub record VariableTypeExamples : Type 0 where
  -- i = p; i = first.k; i = last.k; v = p; : a flag is a BIGINT
  pub present_value : beside_flags (sets 130 (codes "i") (name_at 134 (codes "p")) ∷ []) ≡ Ok (t.Next (assign_at 130 (codes "i") (value_of_flag (Present (codes "p")))) t.Finish)
  pub first_value : beside_flags (sets 130 (codes "i") (flag_at 134 (codes "first")) ∷ []) ≡ Ok (t.Next (assign_at 130 (codes "i") (value_of_flag (First (codes "k")))) t.Finish)
  pub last_value : beside_flags (sets 130 (codes "i") (flag_at 134 (codes "last")) ∷ []) ≡ Ok (t.Next (assign_at 130 (codes "i") (value_of_flag (Last (codes "k")))) t.Finish)
  pub present_to_text : beside_flags (sets 130 (codes "v") (name_at 134 (codes "p")) ∷ []) ≡ refused_in TypeClash 130
  -- m(i, i); m(i, v); : each argument as its parameter takes it
  pub both_arguments : calling_with_both (codes "i") ≡ Ok (t.Next (t.Invoke (col 130) None 0 (tree.ByValue (variable_of (codes "i")) (tree.InOut (global (codes "i")) tree.NoArgument))) t.Finish)
  pub second_argument_clashes : calling_with_both (codes "v") ≡ refused_in TypeClash 135
  -- put p= first.k;
  pub flags_put : beside_flags (Put (word_in 130 (codes "put")) (item.Variable (word_in 134 (codes "p")) (Some (col 999)) ∷ item.Member (word_in 137 (codes "first")) (col 999) (word_in 999 (codes "k")) ∷ []) (col 999) ∷ [])
      ≡ Ok (t.Next (t.Put (col 130) (t.Labelled (codes "p") (value_of_flag (Present (codes "p"))) ∷ t.Shown (value_of_flag (First (codes "k"))) ∷ [])) t.Finish)
  -- i = 'x'; i = 1; where a parameter i hides the global one
  pub parameter_hides : beside_parameter (sets 80 (codes "i") (text_at 84 (codes "'x'"))) ≡ text_set
  pub number_to_parameter : beside_parameter (sets 80 (codes "i") (integer_at 84 (codes "1"))) ≡ Err (OfTypes (record { kind = TypeClash; place = col 80 }))
  -- i = 'x'; i = 1; where a local i does
  pub local_hides : beside_local (sets 80 (codes "i") (text_at 84 (codes "'x'"))) ≡ text_set
  pub number_to_local : beside_local (sets 80 (codes "i") (integer_at 84 (codes "1"))) ≡ Err (OfTypes (record { kind = TypeClash; place = col 80 }))
