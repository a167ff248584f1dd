-- Small units with instances, packages and thread programs, and the refusals of their names. In `dcl package hash h([k],[v]);` the
-- name stands 17 columns behind the first word, the key variable 20 and the data variable 24.
use Rattle.std.specs.Prelude.{◌≡◌, ℕ, ◌+◌, codes, List, [], ◌∷◌, ◌++◌, map, Option, Some, None}
use Rattle.ds2_base.specs.declared.place.Refusal.{Refusal}
use Rattle.ds2_token.specs.declared.kinds.TokenKind.TheVariants.{Text, Integer}
use Rattle.ds2_token.specs.declared.token.Token.{Token}
use Rattle.ds2_tree.specs.Expressions.{Variable, Member, Arguments, NoArgument, Argument}
use Rattle.ds2_tree.specs.Globals.{Method, GlobalItem, Declared, Listed, Defined}
use Rattle.ds2_tree.specs.Statements as s
use Rattle.ds2_tree.specs.Units.{DataProgram, AData}
use Rattle.ds2_tree.specs.declared.expressions.Callee.TheVariants as callee
use Rattle.ds2_tree.specs.declared.globals.Bracketed.{Bracketed}
use Rattle.ds2_tree.specs.declared.globals.Constant.{Constant}
use Rattle.ds2_tree.specs.declared.globals.Declaration.TheVariants as declaration
use Rattle.ds2_tree.specs.declared.globals.Parameter as source_parameter
use Rattle.ds2_tree.specs.declared.globals.TypeName.TheVariants as type_name
use Rattle.ds2_tree.specs.declared.readings.Reading as source_reading
use Rattle.ds2_tree.specs.declared.readings.Reading.TheVariants as reading
use Rattle.ds2_tree.specs.declared.units.OutputTable as source_output
use Rattle.ds2_meaning.specs.ExampleWords.{col}
use Rattle.ds2_meaning.specs.declared.refusals.ScopeKind.{ScopeKind}
use Rattle.ds2_meaning.specs.declared.refusals.ScopeKind.TheVariants.{UnknownName, DuplicateName, UnknownMethod, WrongCount, NotVariable, AliasedArgument, TooManyNames, Misplaced, NoColumns}
use Rattle.ds2_names.specs.NameExamples.{word_in, program_of_statement, two_columns, sum_of_names}
use Rattle.ds2_names.specs.SourceUnit.{names_alone, OfPackage, OfThread, OfData, UnitSource, KnownUnit, Packaged, Threaded}
use Rattle.ds2_names.specs.SourceLimits.{mentioned_table, tables_made_by, store_tables, BeforeUnit, before_all, behind_part, scope_refusal}

-- ---- words

-- dcl bigint a b; in this column and behind it
abbrev pub bigints_at : ℕ → List (List ℕ) → GlobalItem
bigints_at column names =
    Declared (declaration.Variables (record {
      keyword = word_in column (codes "dcl");
      ty = type_name.BigInt (word_in (column + 4) (codes "bigint"));
      names = map (word_in (column + 11)) names;
      end = col (column + 15);
    }))

-- a name between brackets
abbrev pub in_brackets : ℕ → List ℕ → Bracketed
in_brackets column name = record { opening = col column; names = record { comma = None; name = word_in (column + 1) name } ∷ []; closing = col (column + 2) }

-- dcl package hash name([key],[item]);
abbrev pub hash_at : ℕ → List ℕ → List ℕ → List ℕ → GlobalItem
hash_at column name key item =
    Declared (declaration.Hash (word_in column (codes "dcl")) (word_in (column + 4) (codes "package")) (word_in (column + 12) (codes "hash")) (word_in (column + 17) name)
    (col (column + 18)) (in_brackets (column + 19) key) (col (column + 22)) (in_brackets (column + 23) item) None (col (column + 26)) (col (column + 27)))

-- dcl package hiter name(text);
abbrev pub iterator_at : ℕ → List ℕ → List ℕ → GlobalItem
iterator_at column name text =
    Declared (declaration.Hiter (word_in column (codes "dcl")) (word_in (column + 4) (codes "package")) (word_in (column + 12) (codes "hiter")) (word_in (column + 18) name)
    (col (column + 19)) (record { kind = Text; spelling = text; place = col (column + 20) }) (col (column + 23)) (col (column + 24)))

-- dcl package p name(constants); the name 14 columns behind the first word, and the first constant 16
abbrev pub instance_at : ℕ → List ℕ → List ℕ → List Constant → GlobalItem
instance_at column package' name constants =
    Declared (declaration.Instance (word_in column (codes "dcl")) (word_in (column + 4) (codes "package")) (word_in (column + 12) package') (word_in (column + 14) name)
    (Some (record { opening = col (column + 15); list = constants; closing = col (column + 17) })) (col (column + 18)))

-- dcl thread t name; the name 13 columns behind the first word
abbrev pub thread_at : ℕ → List ℕ → List ℕ → GlobalItem
thread_at column thread name =
    Declared (declaration.Thread (word_in column (codes "dcl")) (word_in (column + 4) (codes "thread")) (word_in (column + 11) thread) (word_in (column + 13) name) (col (column + 14)))

-- an integer constant
abbrev pub integer_placed_at : ℕ → Constant
integer_placed_at column = record { comma = None; minus = None; value = record { kind = Integer; spelling = codes "1"; place = col column } }

-- a BIGINT parameter, by value or in_out
abbrev pub parameter_placed_at : ℕ → Option Token → List ℕ → source_parameter.Parameter
parameter_placed_at column in_out name = record { comma = None; in_out = in_out; ty = type_name.BigInt (word_in column (codes "bigint")); name = word_in (column + 7) name }

-- the word in_out
abbrev pub word_in_out : ℕ → Option Token
word_in_out column = Some (word_in column (codes "in_out"))

-- method name(parameters); with this reading statement and these statements
abbrev pub method_placed_at : ℕ → List ℕ → List source_parameter.Parameter → Option source_reading.Reading → List s.Statement → Method
method_placed_at column name parameters reads statements = record {
  keyword = word_in column (codes "method");
  name = word_in (column + 7) name;
  parameters = record { opening = col (column + 11); list = parameters; closing = col (column + 12) };
  returns = None;
  semicolon = col (column + 13);
  locals = [];
  reading = reads;
  body = in_a_list statements;
  end_keyword = word_in (column + 90) (codes "end");
  end = col (column + 93);
}
  where
    in_a_list : List s.Statement → s.Statements
    in_a_list [] = s.NoStatement
    in_a_list (first ∷ rest) = s.Then first (in_a_list rest)

-- arguments, each a name
abbrev pub names_handed : List Token → Arguments
names_handed [] = NoArgument
names_handed (t ∷ tokens) = Argument None (Variable t) (names_handed tokens)

-- x.m(names); the method two columns behind the instance
abbrev pub call_on : ℕ → List ℕ → List ℕ → List Token → s.Statement
call_on column instance method arguments =
    s.Call (callee.Method (word_in column instance) (col (column + 1)) (word_in (column + 2) method)) (col (column + 10)) (names_handed arguments) (col (column + 20)) (col (column + 21))

-- m(names);
abbrev pub call_of : ℕ → List ℕ → List Token → s.Statement
call_of column method arguments = s.Call (callee.Function (word_in column method)) (col (column + 1)) (names_handed arguments) (col (column + 8)) (col (column + 9))

-- target = x.member; the instance four columns behind the target, the member six
abbrev pub member_into : ℕ → List ℕ → List ℕ → List ℕ → s.Statement
member_into column target instance member =
    s.Assignment (word_in column target) (col (column + 2)) (Member (word_in (column + 4) instance) (col (column + 5)) (word_in (column + 6) member)) (col (column + 20))

-- target = name;
abbrev pub name_into : ℕ → List ℕ → List ℕ → s.Statement
name_into column target name = s.Assignment (word_in column target) (col (column + 2)) (Variable (word_in (column + 4) name)) (col (column + 5))

-- method run(); with these statements, in column 200
abbrev pub running : List s.Statement → GlobalItem
running statements = Defined (method_placed_at 200 (codes "run") [] None statements)

-- data out; with these parts
abbrev pub data_unit : List GlobalItem → UnitSource
data_unit globals = record { kind = OfData; name = None; parameters = []; outputs = record { table = word_in 6 (codes "out"); options = None } ∷ []; globals = globals }

-- package p; with these parts
abbrev pub package_unit : List GlobalItem → UnitSource
package_unit globals = record { kind = OfPackage; name = Some (word_in 9 (codes "p")); parameters = []; outputs = []; globals = globals }

-- thread t; with these parts
abbrev pub thread_unit : List GlobalItem → UnitSource
thread_unit globals = record { kind = OfThread; name = Some (word_in 8 (codes "t")); parameters = []; outputs = []; globals = globals }

-- dcl bigint k v; and dcl package hash h([k],[v]); and these parts
abbrev pub with_hash : List GlobalItem → UnitSource
with_hash globals = data_unit (bigints_at 10 (codes "k" ∷ codes "v" ∷ []) ∷ hash_at 40 (codes "h") (codes "k") (codes "v") ∷ globals)

-- before the first unit of a small source
abbrev pub behind : List KnownUnit → BeforeUnit
behind known = record { known = known; data_programs = 0; made = []; mentioned = []; tokens = 100 }

-- the refusal of a unit's names, over tables with the columns a and b
abbrev pub refused : List KnownUnit → UnitSource → Option (Refusal ScopeKind)
refused known u = scope_refusal two_columns (behind known) u

-- a refusal in a column
abbrev pub refused_at : ScopeKind → ℕ → Option (Refusal ScopeKind)
refused_at kind column = Some (record { kind = kind; place = col column })

-- the package p with a constructor p(in_out bigint n) or p(bigint n), and with a method m(in_out bigint a)
abbrev pub package_p : Option Token → List KnownUnit
package_p in_out = Packaged (record {
  name = codes "p";
  methods = method_placed_at 1 (codes "p") (parameter_placed_at 12 in_out (codes "n") ∷ []) None [] ∷ method_placed_at 100 (codes "m") (parameter_placed_at 112 (word_in_out 112) (codes "a") ∷ []) None [] ∷ [];
  tokens = 40;
}) ∷ []

-- the thread program t with a parameter n and a column c, the end of a chain of so many
abbrev pub thread_t : ℕ → List KnownUnit
thread_t chain = Threaded (record { name = codes "t"; parameters = codes "n" ∷ []; columns = codes "c" ∷ []; chain = chain }) ∷ []

-- the thread program a with a column c, which reads tables
abbrev pub thread_a : List KnownUnit
thread_a = Threaded (record { name = codes "a"; parameters = []; columns = codes "c" ∷ []; chain = 1 }) ∷ []

-- set from i;
abbrev pub from_i : Option source_reading.Reading
from_i = Some (reading.SetFrom (word_in 215 (codes "set")) (word_in 219 (codes "from")) (word_in 224 (codes "i")) None (col 225))

-- set s;
abbrev pub from_s : Option source_reading.Reading
from_s = Some (reading.Set (word_in 215 (codes "set")) (record { table = word_in 219 (codes "s"); flag = None } ∷ []) (col 220) None)

-- ---- instances

-- hash objects, iterators and instances of packages
pub record InstanceNameExamples : Type 0 where
  -- h.find(); k = h.num_items;
  pub calls_are_taken : refused [] (with_hash (running (call_on 220 (codes "h") (codes "find") [] ∷ member_into 250 (codes "k") (codes "h") (codes "num_items") ∷ []) ∷ [])) ≡ None
  -- dcl package hash g([q],[v]); where there is no q
  pub unknown_key : refused [] (with_hash (hash_at 80 (codes "g") (codes "q") (codes "v") ∷ running [] ∷ [])) ≡ refused_at UnknownName 100
  -- dcl package hash g([k],[h]); and dcl package hash g([h],[v]); where h is an instance
  pub instance_as_data : refused [] (with_hash (hash_at 80 (codes "g") (codes "k") (codes "h") ∷ running [] ∷ [])) ≡ refused_at NotVariable 104
  pub instance_as_key : refused [] (with_hash (hash_at 80 (codes "g") (codes "h") (codes "v") ∷ running [] ∷ [])) ≡ refused_at NotVariable 100
  -- h.delete(); h.find(k); k = h.size; k = h; h = k;
  pub no_such_call : refused [] (with_hash (running (call_on 220 (codes "h") (codes "delete") [] ∷ []) ∷ [])) ≡ refused_at UnknownMethod 222
  pub too_many_arguments : refused [] (with_hash (running (call_on 220 (codes "h") (codes "find") (word_in 231 (codes "k") ∷ []) ∷ []) ∷ [])) ≡ refused_at WrongCount 222
  pub no_such_member : refused [] (with_hash (running (member_into 220 (codes "k") (codes "h") (codes "size") ∷ []) ∷ [])) ≡ refused_at UnknownMethod 226
  pub instance_as_value : refused [] (with_hash (running (name_into 220 (codes "k") (codes "h") ∷ []) ∷ [])) ≡ refused_at UnknownName 224
  pub instance_as_target : refused [] (with_hash (running (name_into 220 (codes "h") (codes "k") ∷ []) ∷ [])) ≡ refused_at NotVariable 220
  -- k.find(); where k is a variable, and h.find(); in a method with a parameter h
  pub variable_as_instance : refused [] (with_hash (running (call_on 220 (codes "k") (codes "find") [] ∷ []) ∷ [])) ≡ refused_at UnknownName 220
  pub hidden_instance : refused [] (with_hash (Defined (method_placed_at 80 (codes "f") (parameter_placed_at 92 None (codes "h") ∷ []) None (call_on 110 (codes "h") (codes "find") [] ∷ [])) ∷ running [] ∷ [])) ≡ refused_at UnknownName 110
  -- dcl package hiter i('H'); before dcl package hash h([k],[v]); and dcl package hiter i('g');
  pub later_hash : refused [] (data_unit (iterator_at 80 (codes "i") (codes "'H'") ∷ bigints_at 110 (codes "k" ∷ codes "v" ∷ []) ∷ hash_at 140 (codes "h") (codes "k") (codes "v") ∷ running [] ∷ [])) ≡ None
  pub no_such_hash : refused [] (with_hash (iterator_at 80 (codes "i") (codes "'g'") ∷ running [] ∷ [])) ≡ refused_at UnknownName 100
  -- two globals of one name: dcl package hash k([k],[v]);
  pub instance_of_a_variables_name : refused [] (with_hash (hash_at 80 (codes "k") (codes "v") (codes "v") ∷ running [] ∷ [])) ≡ refused_at DuplicateName 97
  -- method m(in_out bigint a); h.find(); end; and m(v); : the call may reach v
  pub reached_by_a_hash : refused [] (with_hash (Defined (method_placed_at 80 (codes "m") (parameter_placed_at 99 (word_in_out 92) (codes "a") ∷ []) None (call_on 120 (codes "h") (codes "find") [] ∷ []))
      ∷ running (call_of 220 (codes "m") (word_in 222 (codes "v") ∷ []) ∷ []) ∷ [])) ≡ refused_at AliasedArgument 222
  -- dcl package q i; where there is no q: calls on i are not refused
  pub unknown_package : refused [] (with_hash (running (call_on 220 (codes "i") (codes "m") [] ∷ []) ∷ instance_at 300 (codes "q") (codes "i") [] ∷ [])) ≡ refused_at UnknownName 312
  -- dcl package p i; dcl package p i(1); and dcl package p i(1); with an in_out parameter
  pub constructor_without_argument : refused (package_p None) (with_hash (instance_at 80 (codes "p") (codes "i") [] ∷ running [] ∷ [])) ≡ refused_at WrongCount 94
  pub constructor_is_taken : refused (package_p None) (with_hash (instance_at 80 (codes "p") (codes "i") (integer_placed_at 96 ∷ []) ∷ running [] ∷ [])) ≡ None
  pub constant_for_in_out : refused (package_p (word_in_out 10)) (with_hash (instance_at 80 (codes "p") (codes "i") (integer_placed_at 96 ∷ []) ∷ running [] ∷ [])) ≡ refused_at NotVariable 96
  -- i.m(v); and i.m(h); where h is an instance, and i.n();
  pub call_of_a_package : refused (package_p None) (with_hash (instance_at 80 (codes "p") (codes "i") (integer_placed_at 96 ∷ []) ∷ running (call_on 220 (codes "i") (codes "m") (word_in 231 (codes "v") ∷ []) ∷ []) ∷ [])) ≡ None
  pub instance_for_in_out : refused (package_p None) (with_hash (instance_at 80 (codes "p") (codes "i") (integer_placed_at 96 ∷ []) ∷ running (call_on 220 (codes "i") (codes "m") (word_in 231 (codes "h") ∷ []) ∷ []) ∷ [])) ≡ refused_at NotVariable 231
  pub no_such_method : refused (package_p None) (with_hash (instance_at 80 (codes "p") (codes "i") (integer_placed_at 96 ∷ []) ∷ running (call_on 220 (codes "i") (codes "n") [] ∷ []) ∷ [])) ≡ refused_at UnknownMethod 222

-- ---- units

-- packages and thread programs
pub record UnitNameExamples : Type 0 where
  -- package p; where there is one, and where there is a thread program t
  pub second_package : refused (package_p None) (package_unit (bigints_at 20 (codes "k" ∷ []) ∷ [])) ≡ refused_at DuplicateName 9
  pub package_is_taken : refused (thread_t 1) (package_unit (bigints_at 20 (codes "k" ∷ []) ∷ [])) ≡ None
  -- in a package: retain k; dcl thread t i; dcl package q i; and a method run with a parameter and a reading statement
  pub list_in_a_package : refused [] (package_unit (bigints_at 20 (codes "k" ∷ []) ∷ Listed (word_in 50 (codes "retain")) (word_in 57 (codes "k") ∷ []) (col 58) ∷ [])) ≡ refused_at Misplaced 50
  pub thread_in_a_package : refused (thread_t 1) (package_unit (thread_at 50 (codes "t") (codes "i") ∷ [])) ≡ refused_at Misplaced 50
  pub unknown_package_in_a_package : refused [] (package_unit (instance_at 50 (codes "q") (codes "i") [] ∷ [])) ≡ refused_at Misplaced 50
  pub run_of_a_package : refused [] (package_unit (Defined (method_placed_at 50 (codes "run") (parameter_placed_at 62 None (codes "n") ∷ []) None []) ∷ Defined (method_placed_at 150 (codes "go") [] None (call_of 170 (codes "run") (word_in 174 (codes "k") ∷ []) ∷ [])) ∷ bigints_at 10 (codes "k" ∷ []) ∷ [])) ≡ None
  pub reading_in_a_package : refused [] (package_unit (Defined (method_placed_at 50 (codes "run") [] from_i []) ∷ [])) ≡ refused_at Misplaced 215
  -- set from i; y = c; and its columns
  pub columns_of_a_thread : refused (thread_t 1) (data_unit (bigints_at 20 (codes "y" ∷ []) ∷ thread_at 50 (codes "t") (codes "i") ∷ Defined (method_placed_at 200 (codes "run") [] from_i (name_into 230 (codes "y") (codes "c") ∷ [])) ∷ [])) ≡ None
  -- set from i; where i is one of an unknown thread program, and no column is left; and where there is no i
  pub unknown_thread : refused [] (data_unit (thread_at 50 (codes "t") (codes "i") ∷ Defined (method_placed_at 200 (codes "run") [] from_i []) ∷ [])) ≡ refused_at UnknownName 61
  pub no_such_instance : refused [] (data_unit (bigints_at 20 (codes "y" ∷ []) ∷ Defined (method_placed_at 200 (codes "run") [] from_i []) ∷ [])) ≡ refused_at UnknownName 224
  -- a data program without a column
  pub nothing_left : refused [] (data_unit (running [] ∷ [])) ≡ refused_at NoColumns 6
  -- i.setparms(k); in `init` and in `run`, and i.setparms();
  pub parameters_in_init : refused (thread_t 1) (data_unit (bigints_at 20 (codes "k" ∷ []) ∷ thread_at 50 (codes "t") (codes "i") ∷ Defined (method_placed_at 70 (codes "init") [] None (call_on 90 (codes "i") (codes "setparms") (word_in 101 (codes "k") ∷ []) ∷ [])) ∷ running [] ∷ [])) ≡ None
  pub parameters_in_run : refused (thread_t 1) (data_unit (bigints_at 20 (codes "k" ∷ []) ∷ thread_at 50 (codes "t") (codes "i") ∷ running (call_on 220 (codes "i") (codes "setparms") (word_in 231 (codes "k") ∷ []) ∷ []) ∷ [])) ≡ refused_at Misplaced 220
  pub missing_parameter : refused (thread_t 1) (data_unit (bigints_at 20 (codes "k" ∷ []) ∷ thread_at 50 (codes "t") (codes "i") ∷ Defined (method_placed_at 70 (codes "init") [] None (call_on 90 (codes "i") (codes "setparms") [] ∷ [])) ∷ running [] ∷ [])) ≡ refused_at WrongCount 92
  -- thread t; in_out in its parameters, and output t;
  pub in_out_of_a_thread : refused [] (record (thread_unit (bigints_at 50 (codes "k" ∷ []) ∷ [])) { parameters = parameter_placed_at 20 (word_in_out 13) (codes "n") ∷ [] }) ≡ refused_at Misplaced 13
  pub parameter_of_a_thread : refused [] (record (thread_unit (bigints_at 50 (codes "k" ∷ []) ∷ running (name_into 220 (codes "n") (codes "n") ∷ []) ∷ [])) { parameters = parameter_placed_at 20 None (codes "n") ∷ [] }) ≡ None
  pub output_of_a_name : refused [] (thread_unit (bigints_at 50 (codes "k" ∷ []) ∷ running (s.Output (word_in 220 (codes "output")) (word_in 227 (codes "t") ∷ []) (col 228) ∷ []) ∷ [])) ≡ refused_at Misplaced 220
  -- in a thread program: dcl thread a i; where there is an a, and where there is none
  pub thread_in_a_thread : refused thread_a (thread_unit (bigints_at 20 (codes "k" ∷ []) ∷ thread_at 50 (codes "a") (codes "i") ∷ [])) ≡ refused_at Misplaced 50
  pub unknown_thread_in_a_thread : refused [] (thread_unit (bigints_at 20 (codes "k" ∷ []) ∷ thread_at 50 (codes "a") (codes "i") ∷ [])) ≡ refused_at Misplaced 50
  -- set from i; before that, and where there is no i; and set s;
  pub thread_read_by_a_thread : refused thread_a (thread_unit (bigints_at 20 (codes "k" ∷ []) ∷ Defined (method_placed_at 200 (codes "run") [] from_i []) ∷ thread_at 400 (codes "a") (codes "i") ∷ [])) ≡ refused_at Misplaced 215
  -- it gives no columns: without one of its own there is none, and `keep c` names none
  pub no_column_of_the_read_thread : refused thread_a (thread_unit (Defined (method_placed_at 200 (codes "run") [] from_i []) ∷ thread_at 400 (codes "a") (codes "i") ∷ [])) ≡ refused_at NoColumns 8
  pub column_of_the_read_thread_kept : refused thread_a (thread_unit (bigints_at 20 (codes "k" ∷ []) ∷ Listed (word_in 50 (codes "keep")) (word_in 55 (codes "k") ∷ word_in 57 (codes "c") ∷ []) (col 58)
      ∷ Defined (method_placed_at 200 (codes "run") [] from_i []) ∷ thread_at 400 (codes "a") (codes "i") ∷ [])) ≡ refused_at UnknownName 57
  pub no_instance_read_by_a_thread : refused [] (thread_unit (bigints_at 20 (codes "k" ∷ []) ∷ Defined (method_placed_at 200 (codes "run") [] from_i []) ∷ [])) ≡ refused_at Misplaced 215
  pub table_read_by_a_thread : refused [] (thread_unit (bigints_at 20 (codes "k" ∷ []) ∷ Defined (method_placed_at 200 (codes "run") [] from_s []) ∷ [])) ≡ None

-- ---- limits

-- sixteen tables
abbrev pub sixteen_tables : List (List ℕ)
sixteen_tables =
    codes "a" ∷ codes "b" ∷ codes "c" ∷ codes "d" ∷ codes "e" ∷ codes "f" ∷ codes "g" ∷ codes "h" ∷ codes "i" ∷ codes "j" ∷ codes "k" ∷ codes "l"
    ∷ codes "m" ∷ codes "n" ∷ codes "o" ∷ codes "p" ∷ []

-- outputs of these names
abbrev pub outputs_named : List (List ℕ) → List source_output.OutputTable
outputs_named names = map (λ name. record { table = word_in 6 name; options = None }) names

-- data out; dcl bigint x; method run(); set t; x = a + b; end; enddata;
abbrev pub reads_t : DataProgram
reads_t = program_of_statement (sum_of_names (codes "x") (codes "a") (codes "b"))

-- data t; likewise
abbrev pub reads_and_makes_t : DataProgram
reads_and_makes_t = record reads_t { outputs = outputs_named (codes "t" ∷ []) }

-- limits over a source, and the tables that mentions mean
pub record LimitExamples : Type 0 where
  -- the 65th data program
  pub sixty_five_programs : scope_refusal two_columns (record (behind []) { data_programs = 64 }) (with_hash (running [] ∷ [])) ≡ refused_at TooManyNames 6
  pub sixty_four_programs : scope_refusal two_columns (record (behind []) { data_programs = 63 }) (with_hash (running [] ∷ [])) ≡ None
  -- the tokens of an instance's package
  pub too_many_tokens_with_it : scope_refusal two_columns (record (behind (package_p None)) { tokens = 999961 }) (with_hash (instance_at 80 (codes "p") (codes "i") (integer_placed_at 96 ∷ []) ∷ running [] ∷ [])) ≡ refused_at TooManyNames 94
  pub just_enough_tokens : scope_refusal two_columns (record (behind (package_p None)) { tokens = 999960 }) (with_hash (instance_at 80 (codes "p") (codes "i") (integer_placed_at 96 ∷ []) ∷ running [] ∷ [])) ≡ None
  -- set s; as the 17th table of the store, and as one that a program makes
  pub seventeenth_table : scope_refusal two_columns (record (behind []) { mentioned = sixteen_tables }) (with_hash (Defined (method_placed_at 200 (codes "run") [] from_s []) ∷ [])) ≡ refused_at TooManyNames 219
  pub made_table : scope_refusal two_columns (record (behind []) { mentioned = sixteen_tables; made = record { name = codes "s"; maker = 1 } ∷ [] }) (with_hash (Defined (method_placed_at 200 (codes "run") [] from_s []) ∷ [])) ≡ None
  -- data s; data t; data S; : a mention of s behind them means the table of the third program, and `_null_` is none
  pub last_maker : mentioned_table (tables_made_by 3 (outputs_named (codes "S" ∷ [])) ++ tables_made_by 2 (outputs_named (codes "t" ∷ [])) ++ tables_made_by 1 (outputs_named (codes "s" ∷ []))) (codes "s")
      ≡ record { name = codes "s"; maker = 3 }
  pub no_maker : mentioned_table (tables_made_by 1 (outputs_named (codes "_null_" ∷ []))) (codes "_null_") ≡ record { name = codes "_null_"; maker = 0 }
  -- data t; set t; and data out; set t; : the first means the table of the store, and the second that of the first
  pub table_of_the_store : names_alone (store_tables 0 [] [] (AData reads_and_makes_t ∷ AData reads_t ∷ [])) ≡ codes "t" ∷ []
  pub table_of_the_first : (behind_part two_columns (AData reads_and_makes_t) (before_all (AData reads_and_makes_t ∷ AData reads_t ∷ []))).made ≡ record { name = codes "t"; maker = 1 } ∷ []
