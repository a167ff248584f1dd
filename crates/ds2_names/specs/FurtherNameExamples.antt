-- Further small data programs and the refusals of their names: what may be listed, expressions for in_out parameters, reading
-- statements outside of `run`, calls of system methods, numbers of arguments, flags as targets, and what stands where it may not.
use Rattle.std.specs.Prelude.{◌≡◌, ℕ, codes, List, [], ◌∷◌, map, Option, Some, None}
use Rattle.ds2_tree.specs.Expressions.{Variable, Parenthesis, NoArgument, Argument}
use Rattle.ds2_tree.specs.Globals.{GlobalItem, Listed, Defined}
use Rattle.ds2_tree.specs.Statements as s
use Rattle.ds2_tree.specs.declared.expressions.Callee.TheVariants as callee
use Rattle.ds2_tree.specs.declared.readings.Reading as source_reading
use Rattle.ds2_tree.specs.declared.readings.Reading.TheVariants as reading
use Rattle.ds2_meaning.specs.ExampleWords.{col}
use Rattle.ds2_meaning.specs.declared.refusals.ScopeKind.TheVariants.{UnknownName, UnknownMethod, WrongCount, NotVariable, Misplaced}
use Rattle.ds2_names.specs.NameExamples.{word_in}
use Rattle.ds2_names.specs.SourceUnit.{UnitSource}
use Rattle.ds2_names.specs.InstanceExamples.{bigints_at, hash_at, parameter_placed_at, method_placed_at, call_of, name_into, running, data_unit, thread_unit, with_hash, refused, refused_at}
use Rattle.ds2_names.specs.RuleExamples.{listing_at, renaming_at, renamings_at, over_two, set_by, reading_run, in_out_unit}

-- retain these names; in column 100
abbrev pub retains_at_100 : List (List ℕ) → GlobalItem
retains_at_100 names = Listed (word_in 100 (codes "retain")) (map (word_in 107) names) (col 120)

-- m((v), w); the parenthesis in column 222
abbrev pub call_with_parenthesis : s.Statement
call_with_parenthesis =
    s.Call (callee.Function (word_in 220 (codes "m"))) (col 221) (Argument None (Parenthesis (col 222) (Variable (word_in 223 (codes "v"))) (col 224)) (Argument (Some (col 225)) (Variable (word_in 226 (codes "w"))) NoArgument)) (col 227) (col 228)

-- dcl bigint y; method f(); y = a; end; and a method of this name that has set s; by a;
abbrev pub read_in : List ℕ → UnitSource
read_in method = data_unit (bigints_at 10 (codes "y" ∷ []) ∷ Defined (method_placed_at 90 (codes "f") [] None (name_into 120 (codes "y") (codes "a") ∷ []))
    ∷ Defined (method_placed_at 200 method [] (set_by (word_in 225 (codes "a") ∷ [])) []) ∷ [])

-- set s(in=p);
abbrev pub set_with_flag : Option source_reading.Reading
set_with_flag = Some (reading.Set (word_in 215 (codes "set"))
    (record { table = word_in 219 (codes "s"); flag = Some (record { opening = col 220; keyword = word_in 221 (codes "in"); equals = col 223; name = word_in 224 (codes "p"); closing = col 225 }) } ∷ []) (col 226) None)

-- dcl bigint y; and these parts
abbrev pub beside_y : List GlobalItem → UnitSource
beside_y globals = data_unit (bigints_at 10 (codes "y" ∷ []) ∷ globals)

-- what the rules of names say of these
pub record FurtherNameExamples : Type 0 where
  -- retain h; where h is a hash object; thread t(bigint n); with retain n; and retain k k;
  pub instance_is_listed : refused [] (with_hash (retains_at_100 (codes "h" ∷ []) ∷ running [] ∷ [])) ≡ None
  pub parameter_is_listed : refused [] (record (thread_unit (bigints_at 50 (codes "k" ∷ []) ∷ retains_at_100 (codes "n" ∷ []) ∷ [])) { parameters = parameter_placed_at 20 None (codes "n") ∷ [] }) ≡ None
  pub listed_twice : refused [] (with_hash (retains_at_100 (codes "k" ∷ codes "k" ∷ []) ∷ running [] ∷ [])) ≡ None
  -- dcl package hash h([k],[k]);
  pub key_and_data_variable : refused [] (data_unit (bigints_at 10 (codes "k" ∷ []) ∷ hash_at 40 (codes "h") (codes "k") (codes "k") ∷ running [] ∷ [])) ≡ None
  -- rename=(a=b) drop=(a) : a column that is dropped is renamed to another one's name
  pub renaming_what_is_dropped : refused [] (over_two (listing_at 50 (codes "drop") (word_in 56 (codes "a") ∷ []) ∷ renamings_at 20 (renaming_at 28 (codes "a") (codes "b") ∷ []) ∷ [])) ≡ None
  -- m((v), w); with an in_out parameter: at the parenthesis
  pub expression_for_in_out : refused [] (in_out_unit [] (running (call_with_parenthesis ∷ []) ∷ [])) ≡ refused_at NotVariable 222
  -- set s; in `run` gives its columns to every method, and in another method to none
  pub columns_of_run : refused [] (read_in (codes "run")) ≡ None
  pub columns_of_a_misplaced_reading : refused [] (read_in (codes "m")) ≡ refused_at UnknownName 124
  -- init(); in `run`
  pub call_of_a_system_method : refused [] (beside_y (Defined (method_placed_at 60 (codes "init") [] None []) ∷ running (call_of 220 (codes "init") [] ∷ []) ∷ [])) ≡ refused_at UnknownMethod 220
  -- abs(y, y);
  pub two_arguments_for_one : refused [] (beside_y (running (call_of 220 (codes "abs") (word_in 224 (codes "y") ∷ word_in 226 (codes "y") ∷ []) ∷ []) ∷ [])) ≡ refused_at WrongCount 220
  -- set s(in=p); p = y;
  pub flag_as_target : refused [] (beside_y (reading_run set_with_flag (name_into 250 (codes "p") (codes "y") ∷ []) ∷ [])) ≡ refused_at NotVariable 250
  -- return y; in `run`, output; in a method m, and method init(bigint n);
  pub value_returned_by_run : refused [] (beside_y (running (s.Return (word_in 220 (codes "return")) (Some (Variable (word_in 227 (codes "y")))) (col 228) ∷ []) ∷ [])) ≡ refused_at Misplaced 220
  pub output_in_a_method : refused [] (beside_y (Defined (method_placed_at 60 (codes "m") [] None (s.Output (word_in 120 (codes "output")) [] (col 126) ∷ [])) ∷ running [] ∷ [])) ≡ refused_at Misplaced 120
  pub parameter_of_init : refused [] (beside_y (Defined (method_placed_at 60 (codes "init") (parameter_placed_at 72 None (codes "n") ∷ []) None []) ∷ running [] ∷ [])) ≡ refused_at Misplaced 60
