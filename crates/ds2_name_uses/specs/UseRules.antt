-- What a use of a name breaks in a method of a unit, by tests on names.
use Rattle.std.specs.Prelude.{◌++◌, ℕ, Bool, not, ◌&&◌, ◌||◌, nat_eq, bytes_eq, codes, if◌then◌else◌, List, [], ◌∷◌, is_some, true, false, Option, Some, None}
use Rattle.std.specs.Option.{option_map_or}
use Rattle.ds2_base.specs.declared.place.Place.{Place}
use Rattle.ds2_token.specs.declared.token.Token.{Token}
use Rattle.ds2_tree.specs.Expressions.{Expression, Variable}
use Rattle.ds2_tree.specs.Globals.{Method}
use Rattle.ds2_tree.specs.declared.expressions.Callee.{Callee}
use Rattle.ds2_tree.specs.declared.expressions.Callee.TheVariants as callee
use Rattle.ds2_calls.specs.KnownUnits.{UnitsByName}
use Rattle.ds2_calls.specs.SortCalls.{counts_by, is_known_by, is_known_stage, counts_on_sort, CallsByName, flags_by_names}
use Rattle.ds2_calls.specs.UnitsCalls.{calls_of_names}
use Rattle.ds2_calls.specs.declared.instances.Sort.{Sort}
use Rattle.ds2_calls.specs.declared.instances.Sort.TheVariants as sort
use Rattle.ds2_names.specs.NameRules.{place_unless, is_flag_word, columns_are_known, is_output_name, no_names, argument_count, takes_count, unknown_in_use, not_variable_in_use, unknown_method_in_use, wrong_count_in_use}
use Rattle.ds2_names.specs.SourceUnit.{PlacedName, SourceNames, spelled_name, is_package, is_system_name, local_names, vector_names, is_named}
use Rattle.ds2_names.specs.UnitRules.{is_system_method, misplaced_setting}
use Rattle.ds2_names.specs.Uses.{NameUse, Values, Members, HandsOver, CallsOn, Sets, WritesTo, first_place}
use Rattle.ds2_name_uses.specs.declared.scope.UsageRule.{UsageRule}
use Rattle.ds2_name_uses.specs.declared.scope.UsageRule.TheVariants as usage
use Rattle.ds2_calls.specs.UseParts.{InOutFlags}

-- tests on names: parameters and locals; what may be set, the variables and the parameters of a thread program; `in=` flags, BY variables, outputs;
-- what calls may mean; and whether a name that is not there may be a column, the unit is a program, and the method is its `init`
pub record NameTests : Type 0 where
  pub is_local : List ℕ → Bool
  pub is_settable : List ℕ → Bool
  pub is_flag : List ℕ → Bool
  pub is_by : List ℕ → Bool
  pub is_output : List ℕ → Bool
  pub calls : CallsByName
  pub is_open : Bool
  pub is_program : Bool
  pub is_init : Bool

-- the variables of a unit and the parameters of a thread program
abbrev pub settable_names : SourceNames → List PlacedName
settable_names names = vector_names names ++ names.parameters

-- the tests that a unit's names give in a method
abbrev pub tests_of : SourceNames → Method → NameTests
tests_of names m = record {
  is_local = is_named (local_names m);
  is_settable = is_named (settable_names names);
  is_flag = is_named names.flags;
  is_by = is_named names.bys;
  is_output = is_output_name names;
  calls = calls_of_names names;
  is_open = not (columns_are_known names);
  is_program = not (is_package names.unit.kind);
  is_init = is_system_method (codes "init") names m;
}

-- for each parameter of what is called whether it is in_out
abbrev pub flags_by : NameTests → InOutFlags
flags_by t = flags_by_names t.calls

-- a name is that of an instance
abbrev pub is_instance_name : NameTests → List ℕ → Bool
is_instance_name t name = is_some (t.calls.sort_of_instance name)

-- what the instance is one of that a name means in a method; a parameter or local of this name hides it
abbrev pub visible_sort : NameTests → List ℕ → Option Sort
visible_sort t name = if t.is_local name then None else t.calls.sort_of_instance name

-- a global is there
abbrev pub is_global_there : NameTests → List ℕ → Bool
is_global_there t name = t.is_settable name || (t.is_flag name || (is_instance_name t name || t.is_open))

-- a name has a value
abbrev pub is_value_there : NameTests → List ℕ → Bool
is_value_there t name = t.is_local name || (t.is_settable name || (t.is_flag name || (t.is_open && not (is_instance_name t name))))

-- a name is there
abbrev pub is_there : NameTests → List ℕ → Bool
is_there t name = t.is_local name || is_global_there t name

-- a name may be set
abbrev pub may_be_set : NameTests → List ℕ → Bool
may_be_set t name = t.is_local name || (t.is_settable name || (t.is_open && not (t.is_flag name || is_instance_name t name)))

-- what stands before a point is there: a flag's word with its BY variable, or an instance
abbrev pub is_object_there : NameTests → Token → Token → Bool
is_object_there t object member = if is_flag_word object then t.is_by (spelled_name member) else is_some (visible_sort t (spelled_name object))

-- what stands before the point of a call and is no instance
abbrev pub unknown_object : NameTests → Callee → List Place
unknown_object t (callee.Method object dot method) = place_unless (is_some (visible_sort t (spelled_name object))) object.place
unknown_object t _ = []

-- a use of a name that is not there
abbrev pub unknown_by : NameTests → NameUse → List Place
unknown_by t (Values n) = place_unless (is_value_there t (spelled_name n)) n.place
unknown_by t (HandsOver n) = place_unless (is_there t (spelled_name n)) n.place
unknown_by t (Sets n) = place_unless (is_there t (spelled_name n)) n.place
unknown_by t (Members object member) = place_unless (is_object_there t object member) object.place
unknown_by t (CallsOn f arguments) = unknown_object t f
unknown_by t (WritesTo n) = place_unless (t.is_output (spelled_name n)) n.place

-- a target, or an argument for an in_out parameter, that may not be set
abbrev pub not_variable_by : NameTests → NameUse → List Place
not_variable_by t (Sets n) = place_unless (may_be_set t (spelled_name n)) n.place
not_variable_by t (HandsOver n) = place_unless (may_be_set t (spelled_name n)) n.place
not_variable_by t (CallsOn f arguments) = no_names (flags_by t f) arguments
not_variable_by t _ = []

-- a call of an instance, one of a known sort, that calls nothing
abbrev pub unknown_call_on : UnitsByName → Token → Option Sort → List Place
unknown_call_on units method None = []
unknown_call_on units method (Some s) = place_unless (not (is_known_by units s) || is_some (counts_on_sort units s (spelled_name method))) method.place

-- an instance is a hash object
abbrev pub is_hash_sort : Sort → Bool
is_hash_sort (sort.Package name) = false
is_hash_sort (sort.Hash variables) = true
is_hash_sort (sort.Iterator hash) = false
is_hash_sort (sort.Thread name) = false

-- what stands behind the point of an instance without an argument list, and is not `num_items` of a hash object
abbrev pub unknown_member_by : Token → Option Sort → List Place
unknown_member_by member None = []
unknown_member_by member (Some s) = place_unless (is_hash_sort s && bytes_eq (spelled_name member) (codes "num_items")) member.place

-- a name that calls nothing, or a system method
abbrev pub unknown_method_by : NameTests → NameUse → List Place
unknown_method_by t (CallsOn (callee.Function n) arguments) =
    place_unless (not (t.is_program && is_system_name (spelled_name n)) && is_some (counts_by (t.calls.method (spelled_name n)) (spelled_name n))) n.place
unknown_method_by t (CallsOn (callee.Method object dot method) arguments) = unknown_call_on t.calls.units method (visible_sort t (spelled_name object))
unknown_method_by t (Members object member) = if is_flag_word object then [] else unknown_member_by member (visible_sort t (spelled_name object))
unknown_method_by t _ = []

-- another number of arguments of a call on an instance
abbrev pub wrong_count_by_sort : UnitsByName → Token → ℕ → Option Sort → List Place
wrong_count_by_sort units method count None = []
wrong_count_by_sort units method count (Some s) = place_unless (takes_count (counts_on_sort units s (spelled_name method)) count) method.place

-- another number of arguments
abbrev pub wrong_count_by : NameTests → NameUse → List Place
wrong_count_by t (CallsOn (callee.Function n) arguments) =
    place_unless (takes_count (counts_by (t.calls.method (spelled_name n)) (spelled_name n)) (argument_count arguments)) n.place
wrong_count_by t (CallsOn (callee.Null keyword) arguments) = place_unless (nat_eq (argument_count arguments) 1) keyword.place
wrong_count_by t (CallsOn (callee.Method object dot method) arguments) = wrong_count_by_sort t.calls.units method (argument_count arguments) (visible_sort t (spelled_name object))
wrong_count_by t _ = []

-- a call of `setparms` of an instance of a known thread program
abbrev pub is_setting_by : NameTests → Token → Token → Bool
is_setting_by t object method =
    bytes_eq (spelled_name method) (codes "setparms") && option_map_or (is_known_stage t.calls.units) (visible_sort t (spelled_name object)) false

-- `setparms` outside of `init`
abbrev pub misplaced_by : NameTests → NameUse → List Place
misplaced_by t (CallsOn (callee.Method object dot method) arguments) = place_unless (not (is_setting_by t object method) || t.is_init) object.place
misplaced_by t _ = []

-- what a use breaks of a rule
abbrev pub broken_by : UsageRule → NameTests → NameUse → List Place
broken_by usage.UnknownName t u = unknown_by t u
broken_by usage.NotVariable t u = not_variable_by t u
broken_by usage.UnknownMethod t u = unknown_method_by t u
broken_by usage.WrongCount t u = wrong_count_by t u
broken_by usage.MisplacedSetting t u = misplaced_by t u

-- likewise, by the names of a unit
abbrev pub broken_in_use : UsageRule → SourceNames → Method → NameUse → List Place
broken_in_use usage.UnknownName names m u = unknown_in_use names m u
broken_in_use usage.NotVariable names m u = not_variable_in_use names m u
broken_in_use usage.UnknownMethod names m u = unknown_method_in_use names m u
broken_in_use usage.WrongCount names m u = wrong_count_in_use names m u
broken_in_use usage.MisplacedSetting names m u = misplaced_setting names m u

-- an argument for an in_out parameter that is no name, at its first token
abbrev pub no_name_in : Expression → List Place
no_name_in (Variable name) = []
no_name_in e = first_place e ∷ []

-- likewise, where it is for an in_out parameter
abbrev pub no_name_if : Bool → Expression → List Place
no_name_if true e = no_name_in e
no_name_if false e = []
