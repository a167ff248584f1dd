-- The rules of names of a unit of a source: for each rule on what a name means the places at which it is broken.
use Rattle.std.specs.Prelude.{ℕ, zero, suc, ◌+◌, ◌-◌, ◌*◌, Bool, true, false, not, ◌&&◌, ◌||◌, nat_eq, bytes_eq, codes, if◌then◌else◌, List, [], ◌∷◌, ◌++◌, length, map, filter, fold, is_some, is_none, unwrap_or, Option, Some, None}
use Rattle.std.specs.List.{list_all, list_any, flat_map}
use Rattle.std.specs.Option.{option_map_or}
use Rattle.ds2_base.specs.declared.place.Place.{Place}
use Rattle.ds2_token.specs.Words.{is_word}
use Rattle.ds2_token.specs.declared.token.Token.{Token}
use Rattle.ds2_tree.specs.Expressions.{Variable, Arguments, NoArgument, Argument}
use Rattle.ds2_tree.specs.Globals.{Method, GlobalItem, Listed}
use Rattle.ds2_tree.specs.declared.expressions.Callee.{Callee}
use Rattle.ds2_tree.specs.declared.expressions.Callee.TheVariants as callee
use Rattle.ds2_tree.specs.declared.globals.Constant.{Constant}
use Rattle.ds2_tree.specs.declared.readings.Input as source_input
use Rattle.ds2_tree.specs.declared.units.OutputOption.{OutputOption}
use Rattle.ds2_tree.specs.declared.units.OutputOption.TheVariants as option
use Rattle.ds2_tree.specs.declared.units.OutputOptions.{OutputOptions}
use Rattle.ds2_tree.specs.declared.units.OutputTable as source_output
use Rattle.ds2_tree.specs.declared.units.Renaming.{Renaming}
use Rattle.ds2_value.specs.Row.{Columns}
use Rattle.ds2_value.specs.Schema.{has_column}
use Rattle.ds2_meaning.specs.ProgramTree.{is_listed}
use Rattle.ds2_names.specs.declared.placed.OutputName as placed
use Rattle.ds2_names.specs.Functions.{function_counts, takes_so_many}
use Rattle.ds2_names.specs.SourceUnit.{TableColumns, spelled_name, spelled_text, PlacedName, placed_name, names_alone, is_earlier, listed_tokens, is_system_name, local_names, UnitSource, is_package, InstanceOf, AnyPackage, HashObject, HashIterator, AnyThread, SourceInstance, instance_named, KnownPackage, KnownThread, KnownUnit, package_named, thread_named, known_names, tables_of_reading, stage_token, stage_read, SourceNames, vector_names, plain_globals, instance_names, all_globals, is_named}
use Rattle.ds2_names.specs.Uses.{NameUse, Values, Members, HandsOver, CallsOn, Sets, WritesTo, first_place, method_named, in_out_of, statements_uses}

-- ---- words

-- what comes of each item, one behind the other
abbrev pub from_each : {A B : Type 0} → (A → List B) → List A → List B
from_each f xs = flat_map f xs

-- a place, where a test does not hold
abbrev pub place_unless : Bool → Place → List Place
place_unless holds place = if holds then [] else place ∷ []

-- the instance of a unit that this name means in a method; a parameter or local of this name hides it
abbrev pub visible_instance : SourceNames → Method → List ℕ → Option SourceInstance
visible_instance names m name = if is_named (local_names m) name then None else instance_named names.instances name

-- the methods of the package that an instance is one of, where that is known
abbrev pub methods_of_sort : List KnownUnit → InstanceOf → List Method
methods_of_sort known (AnyPackage package' arguments) = option_map_or (λ (p : KnownPackage). p.methods) (package_named known (spelled_name package')) []
methods_of_sort known _ = []

-- the methods of the package that the instance of this name is one of
abbrev pub methods_of_instance : SourceNames → List ℕ → List Method
methods_of_instance names name =
    option_map_or (λ (i : SourceInstance). methods_of_sort names.known i.sort) (instance_named names.instances name) []

-- the declared method that is called, where one is: one of the unit, or one of the package of an instance, also of one that a local
-- hides, where the call is refused before
abbrev pub method_called : SourceNames → Callee → Option Method
method_called names (callee.Function t) = method_named names.methods (spelled_name t)
method_called names (callee.Null keyword) = None
method_called names (callee.Method object dot method) = method_named (methods_of_instance names (spelled_name object)) (spelled_name method)

-- for each parameter of what is called whether it is in_out
abbrev pub in_out_parameters : SourceNames → Callee → List Bool
in_out_parameters names f = in_out_of (method_called names f)

-- the number that an integer token spells
abbrev pub spelled_number : Token → ℕ
spelled_number t = fold (λ n c. n * 10 + (c - 48)) 0 t.spelling

-- the uses of names in a method of a unit
abbrev pub uses_in : SourceNames → Method → List NameUse
uses_in names m = statements_uses (in_out_parameters names) m.body

-- the places that a rule on uses gives, over all methods of a unit
abbrev pub from_uses : SourceNames → (Method → NameUse → List Place) → List Place
from_uses names rule = from_each (λ (m : Method). from_each (rule m) (uses_in names m)) names.methods

-- the columns of a unit are known: it reads from no thread program, or from one that is known
abbrev pub columns_are_known : SourceNames → Bool
columns_are_known names = is_none (stage_token names.reading) || is_some (stage_read names.known names.instances (stage_token names.reading))

-- a name that no global has may be a column of the unit, where its columns are not known
abbrev pub may_be_column : SourceNames → List ℕ → Bool
may_be_column names name = not (columns_are_known names) && not (is_named (all_globals names) name)

-- a name is that of a global of any kind, or may be that of a column
abbrev pub may_be_global : SourceNames → List ℕ → Bool
may_be_global names name = is_named (all_globals names) name || may_be_column names name

-- the options of an output
abbrev pub options_of : Option OutputOptions → List OutputOption
options_of None = []
options_of (Some options) = options.list

-- ---- UnknownName, at the name

-- a name has a value in a method: it is one of its parameters and locals, or a global that is no instance, or it may be a column
abbrev pub is_in_scope : SourceNames → Method → List ℕ → Bool
is_in_scope names m name = is_named (local_names m) name || is_named (plain_globals names) name || may_be_column names name

-- a name is one of a method's parameters and locals, or any global, or may be a column: an instance, too, is there, although it may
-- not be set
abbrev pub is_known_name : SourceNames → Method → List ℕ → Bool
is_known_name names m name = is_named (local_names m) name || may_be_global names name

-- `first` or `last`, which before a point and without arguments are always flags
abbrev pub is_flag_word : Token → Bool
is_flag_word t = is_word (codes "first") t || is_word (codes "last") t

-- `first.v` and `last.v` of a BY variable
abbrev pub is_flag_member : SourceNames → Token → Token → Bool
is_flag_member names object member = is_flag_word object && is_named names.bys (spelled_name member)

-- the names of the outputs of a unit
abbrev pub output_names : SourceNames → List PlacedName
output_names names = map (λ (o : source_output.OutputTable). placed_name o.table) names.outputs

-- an output of this name; `_null_` is none
abbrev pub is_output_name : SourceNames → List ℕ → Bool
is_output_name names name = is_named (output_names names) name && not (bytes_eq name (codes "_null_"))

-- what stands before the point of `x.y` is there: a flag's word with its BY variable, or an instance
abbrev pub is_object : SourceNames → Method → Token → Token → Bool
is_object names m object member =
    if is_flag_word object then is_flag_member names object member else is_some (visible_instance names m (spelled_name object))

-- a use of a name that is not there: as a value, a target or an argument, before a point, and as a table of `output`
abbrev pub unknown_in_use : SourceNames → Method → NameUse → List Place
unknown_in_use names m (Values t) = place_unless (is_in_scope names m (spelled_name t)) t.place
unknown_in_use names m (HandsOver t) = place_unless (is_known_name names m (spelled_name t)) t.place
unknown_in_use names m (Sets t) = place_unless (is_known_name names m (spelled_name t)) t.place
unknown_in_use names m (Members object member) = place_unless (is_object names m object member) object.place
unknown_in_use names m (CallsOn (callee.Method object dot method) arguments) =
    place_unless (is_some (visible_instance names m (spelled_name object))) object.place
unknown_in_use names m (WritesTo t) = place_unless (is_output_name names (spelled_name t)) t.place
unknown_in_use names m _ = []

-- the names that an option of an output lists
abbrev pub option_tokens : OutputOption → List Token
option_tokens (option.Listed keyword equals opening listed closing) = listed
option_tokens (option.Overwrite keyword equals answer) = []
option_tokens (option.Rename keyword equals opening renamings closing) = map (λ (r : Renaming). r.old) renamings

-- the names that the statements and the options of a unit list
abbrev pub all_listed_tokens : UnitSource → List Token
all_listed_tokens u =
    listed_tokens u.globals ++ from_each (λ (o : source_output.OutputTable). from_each option_tokens (options_of o.options)) u.outputs

-- a BY variable is a column of each table of the reading statement
abbrev pub is_in_all_tables : TableColumns → List source_input.Input → List ℕ → Bool
is_in_all_tables tables [] name = true
is_in_all_tables tables (i ∷ inputs) name = has_column name (tables (spelled_name i.table)) && is_in_all_tables tables inputs name

-- the names of a hash object's key and data variables that are no globals
abbrev pub unknown_hash_variables : SourceNames → List Token → List Place
unknown_hash_variables names variables =
    from_each (λ (t : Token). place_unless (may_be_global names (spelled_name t)) t.place) variables

-- a table has a column for each variable
abbrev pub has_each_column : Columns → List Token → Bool
has_each_column columns variables = list_all (λ (t : Token). has_column (spelled_name t) columns) variables

-- the text of a hash object's table that lacks a column for one of its variables
abbrev pub lacking_table : TableColumns → List Token → Option Token → List Place
lacking_table tables variables None = []
lacking_table tables variables (Some text) = place_unless (has_each_column (tables (spelled_text text)) variables) text.place

-- an instance is a hash object
abbrev pub is_hash : InstanceOf → Bool
is_hash (HashObject keys items table) = true
is_hash _ = false

-- the instance of this name is a hash object
abbrev pub is_hash_name : SourceNames → List ℕ → Bool
is_hash_name names name = option_map_or (λ (i : SourceInstance). is_hash i.sort) (instance_named names.instances name) false

-- what a declaration of an instance names that is not there: a package or a thread program before the unit, a variable of a hash
-- object or a column of its table, and the hash object of an iterator
abbrev pub unknown_in_instance : TableColumns → SourceNames → InstanceOf → List Place
unknown_in_instance tables names (AnyPackage package' arguments) =
    place_unless (is_some (package_named names.known (spelled_name package'))) package'.place
unknown_in_instance tables names (HashObject keys items table) =
    unknown_hash_variables names (keys ++ items) ++ lacking_table tables (keys ++ items) table
unknown_in_instance tables names (HashIterator hash) = place_unless (is_hash_name names (spelled_text hash)) hash.place
unknown_in_instance tables names (AnyThread thread) = place_unless (is_some (thread_named names.known (spelled_name thread))) thread.place

-- an instance is one of a known thread program
abbrev pub is_known_thread : List KnownUnit → InstanceOf → Bool
is_known_thread known (AnyThread thread) = is_some (thread_named known (spelled_name thread))
is_known_thread known _ = false

-- an instance is one of a thread program
abbrev pub is_thread_instance : InstanceOf → Bool
is_thread_instance (AnyThread thread) = true
is_thread_instance _ = false

-- the instance of this name is one of a thread program
abbrev pub is_stage_name : SourceNames → List ℕ → Bool
is_stage_name names name = option_map_or (λ (i : SourceInstance). is_thread_instance i.sort) (instance_named names.instances name) false

-- a name behind `set from` that is no instance of a thread program
abbrev pub unknown_stage : SourceNames → Option Token → List Place
unknown_stage names None = []
unknown_stage names (Some t) = place_unless (is_stage_name names (spelled_name t)) t.place

-- a name that is not there: one that is used, one that is listed, a BY variable that some table lacks, one in the declaration of an
-- instance, and the instance that `set from` names
abbrev pub unknown_names : TableColumns → SourceNames → List Place
unknown_names tables names =
    from_uses names (unknown_in_use names)
    ++ from_each (λ (t : Token). place_unless (may_be_global names (spelled_name t)) t.place) (all_listed_tokens names.unit)
    ++ from_each (λ (b : PlacedName). place_unless (is_in_all_tables tables (tables_of_reading names.reading) b.name) b.place) names.bys
    ++ from_each (λ (i : SourceInstance). unknown_in_instance tables names i.sort) names.instances
    ++ unknown_stage names (stage_token names.reading)

-- ---- DuplicateName, at the later name

-- the places of names that stand behind the same name at an earlier place
abbrev pub later_places : List PlacedName → List Place
later_places names =
    map (λ (n : PlacedName). n.place)
    (filter (λ (n : PlacedName). list_any (λ (o : PlacedName). bytes_eq o.name n.name && is_earlier o.place n.place) names) names)

-- the new name of a column under the renamings of an output, at the place of that name, where it is renamed
abbrev pub renamed_to : List Renaming → List ℕ → Option PlacedName
renamed_to [] name = None
renamed_to (r ∷ renamings) name = if bytes_eq (spelled_name r.old) name then Some (placed_name r.new) else renamed_to renamings name

-- the renamings of an option
abbrev pub renamings_in : OutputOption → List Renaming
renamings_in (option.Rename keyword equals opening renamings closing) = renamings
renamings_in _ = []

-- the renamings of an output
abbrev pub renamings_of : source_output.OutputTable → List Renaming
renamings_of o = from_each renamings_in (options_of o.options)

-- a column renamed twice in one option: the old names
abbrev pub renamed_twice : source_output.OutputTable → List Place
renamed_twice o =
    from_each (λ x. later_places (map (λ (r : Renaming). placed_name r.old) (renamings_in x))) (options_of o.options)

-- the names that the options `keep=` or `drop=` of an output list
abbrev pub listed_by : List ℕ → OutputOption → List (List ℕ)
listed_by word (option.Listed keyword equals opening listed closing) = if is_word word keyword then map spelled_name listed else []
listed_by word _ = []

-- a name passes `keep` lists: there are none, or one has it
abbrev pub passes_keep : List (List ℕ) → List ℕ → Bool
passes_keep [] name = true
passes_keep (first ∷ kept) name = is_listed (first ∷ kept) name

-- the names that the statements `keep` or `drop` of a unit list
abbrev pub listed_in_statements : List ℕ → List GlobalItem → List (List ℕ)
listed_in_statements word [] = []
listed_in_statements word (Listed keyword names end ∷ globals) =
    (if is_word word keyword then map spelled_name names else []) ++ listed_in_statements word globals
listed_in_statements word (_ ∷ globals) = listed_in_statements word globals

-- a variable is a column of an output: it passes the `keep` statement and option and the `drop` statement and option
abbrev pub is_output_column : UnitSource → List OutputOption → List ℕ → Bool
is_output_column u options name =
    passes_keep (listed_in_statements (codes "keep") u.globals) name
    && passes_keep (from_each (listed_by (codes "keep")) options) name
    && not (is_listed (listed_in_statements (codes "drop") u.globals) name)
    && not (is_listed (from_each (listed_by (codes "drop")) options) name)

-- the columns of an output with these options before they are renamed, in the order of the vector; that of a thread program has
-- no options
abbrev pub columns_left : SourceNames → List OutputOption → List (List ℕ)
columns_left names options = filter (is_output_column names.unit options) (names_alone (vector_names names))

-- a column of an output: its name, and the place of its new name where it is renamed
abbrev pub OutputName : Type 0
OutputName = placed.OutputName

-- a name, or a new one where it is renamed
abbrev pub name_if_renamed : List ℕ → Option PlacedName → OutputName
name_if_renamed name None = record { name = name; new_place = None }
name_if_renamed name (Some new) = record { name = new.name; new_place = Some new.place }

-- a column of an output with these renamings: it has its new name where it is renamed
abbrev pub output_name : List Renaming → List ℕ → OutputName
output_name renamings name = name_if_renamed name (renamed_to renamings name)

-- the columns of an output, in the order of the vector, each with the name that it has there
abbrev pub renamed_columns : SourceNames → source_output.OutputTable → List OutputName
renamed_columns names o = map (output_name (renamings_of o)) (columns_left names (options_of o.options))

-- a new name at this place stands behind that of another column: one that is not renamed, or one that is renamed at an earlier place
abbrev pub is_behind : Place → Option Place → Bool
is_behind place None = true
is_behind place (Some other) = is_earlier other place

-- a column has this name before a new name at this place
abbrev pub has_name_before : List ℕ → Place → OutputName → Bool
has_name_before name place o = bytes_eq o.name name && is_behind place o.new_place

-- the place of a column's new name, where it has one, and another column has that name before
abbrev pub clash_at_new_name : List OutputName → OutputName → (new_place : Option Place) → List Place
clash_at_new_name all n None = []
clash_at_new_name all n (Some place) = if list_any (has_name_before n.name place) all then place ∷ [] else []

-- a column that has the name of another one is told at its new name; one that is not renamed is told nowhere
abbrev pub clashing_name : List OutputName → OutputName → List Place
clashing_name all n = clash_at_new_name all n n.new_place

-- columns of an output that have one name
abbrev pub clashing_columns : SourceNames → source_output.OutputTable → List Place
clashing_columns names o = let all = renamed_columns names o in from_each (clashing_name all) all

-- the outputs of a unit; `_null_` is none
abbrev pub real_outputs : SourceNames → List source_output.OutputTable
real_outputs names = filter (λ (o : source_output.OutputTable). not (bytes_eq (spelled_name o.table) (codes "_null_"))) names.outputs

-- the name of a unit that a unit before it has; a data program has no name of its own
abbrev pub duplicate_unit : List KnownUnit → Option Token → List Place
duplicate_unit known None = []
duplicate_unit known (Some t) = place_unless (not (is_listed (known_names known) (spelled_name t))) t.place

-- a name that was given before: two units, two globals, two parameters or locals, two methods, two BY variables, two outputs, a
-- column renamed twice, two columns of an output
abbrev pub duplicate_names : SourceNames → List Place
duplicate_names names =
    duplicate_unit names.known names.unit.name
    ++ later_places (all_globals names)
    ++ later_places names.bys
    ++ later_places (map (λ (m : Method). placed_name m.name) names.methods)
    ++ from_each (λ (m : Method). later_places (local_names m)) names.methods
    ++ later_places (output_names names)
    ++ from_each renamed_twice names.outputs
    ++ from_each (clashing_columns names) (real_outputs names)

-- ---- UnknownMethod and WrongCount, at the method's name

-- the numbers of arguments that a declared method takes, where there is one: at least and at most so many
abbrev pub method_counts : Option Method → Option (ℕ × ℕ)
method_counts None = None
method_counts (Some m) = let n = length m.parameters.list in Some (n, n)

-- those of what a name calls: a method of the unit, else a function
abbrev pub counts_of : Option Method → List ℕ → Option (ℕ × ℕ)
counts_of (Some m) name = method_counts (Some m)
counts_of None name = function_counts name

-- how many arguments there are
abbrev pub argument_count : Arguments → ℕ
argument_count NoArgument = 0
argument_count (Argument comma value rest) = argument_count rest + 1

-- a method of a unit is a system method: `init`, `run` and `term` of a package are methods like others
abbrev pub is_system : SourceNames → List ℕ → Bool
is_system names name = not (is_package names.unit.kind) && is_system_name name

-- the calls of hash objects
abbrev pub hash_calls : List (List ℕ)
hash_calls = codes "find" ∷ codes "check" ∷ codes "add" ∷ codes "replace" ∷ codes "remove" ∷ codes "clear" ∷ codes "num_items" ∷ []

-- the calls of iterators
abbrev pub iterator_calls : List (List ℕ)
iterator_calls = codes "first" ∷ codes "next" ∷ codes "prev" ∷ codes "last" ∷ []

-- no arguments where the list has this name
abbrev pub none_where : List (List ℕ) → List ℕ → Option (ℕ × ℕ)
none_where calls name = if is_listed calls name then Some (0, 0) else None

-- so many arguments where the name is `setparms`
abbrev pub parameters_where : ℕ → List ℕ → Option (ℕ × ℕ)
parameters_where count name = if bytes_eq name (codes "setparms") then Some (count, count) else None

-- those of a method of an instance, where it has one; where the package or thread program is not known there is none
abbrev pub counts_on_instance : List KnownUnit → InstanceOf → List ℕ → Option (ℕ × ℕ)
counts_on_instance known (AnyPackage package' arguments) name = method_counts (method_named (methods_of_sort known (AnyPackage package' arguments)) name)
counts_on_instance known (HashObject keys items table) name = none_where hash_calls name
counts_on_instance known (HashIterator hash) name = none_where iterator_calls name
counts_on_instance known (AnyThread thread) name =
    option_map_or (λ (t : KnownThread). parameters_where (length t.parameters) name) (thread_named known (spelled_name thread)) None

-- what an instance is one of is known: its package or thread program, or it is a hash object or an iterator; calls on another instance
-- are not refused
abbrev pub is_known_sort : List KnownUnit → InstanceOf → Bool
is_known_sort known (AnyPackage package' arguments) = is_some (package_named known (spelled_name package'))
is_known_sort known (AnyThread thread) = is_some (thread_named known (spelled_name thread))
is_known_sort known _ = true

-- a call on an instance that calls nothing
abbrev pub unknown_method_on : SourceNames → Token → Option SourceInstance → List Place
unknown_method_on names method None = []
unknown_method_on names method (Some i) =
    place_unless (not (is_known_sort names.known i.sort) || is_some (counts_on_instance names.known i.sort (spelled_name method))) method.place

-- what stands behind the point of an instance without an argument list, and is not `num_items` of a hash object
abbrev pub unknown_member_on : Token → Option SourceInstance → List Place
unknown_member_on member None = []
unknown_member_on member (Some i) = place_unless (is_hash i.sort && bytes_eq (spelled_name member) (codes "num_items")) member.place

-- a name that calls nothing, or a system method
abbrev pub unknown_method_in_use : SourceNames → Method → NameUse → List Place
unknown_method_in_use names m (CallsOn (callee.Function t) arguments) =
    let name = spelled_name t in place_unless (not (is_system names name) && is_some (counts_of (method_named names.methods name) name)) t.place
unknown_method_in_use names m (CallsOn (callee.Method object dot method) arguments) =
    unknown_method_on names method (visible_instance names m (spelled_name object))
unknown_method_in_use names m (Members object member) =
    if is_flag_word object then [] else unknown_member_on member (visible_instance names m (spelled_name object))
unknown_method_in_use names m _ = []

-- a number of arguments that what is called does not take; what is not there takes any
abbrev pub takes_count : Option (ℕ × ℕ) → ℕ → Bool
takes_count None n = true
takes_count (Some counts) n = takes_so_many counts n

-- another number of arguments of a call on an instance
abbrev pub wrong_count_on : SourceNames → Token → ℕ → Option SourceInstance → List Place
wrong_count_on names method count None = []
wrong_count_on names method count (Some i) = place_unless (takes_count (counts_on_instance names.known i.sort (spelled_name method)) count) method.place

-- another number of arguments
abbrev pub wrong_count_in_use : SourceNames → Method → NameUse → List Place
wrong_count_in_use names m (CallsOn (callee.Function t) arguments) =
    let name = spelled_name t in place_unless (takes_count (counts_of (method_named names.methods name) name) (argument_count arguments)) t.place
wrong_count_in_use names m (CallsOn (callee.Null keyword) arguments) = place_unless (nat_eq (argument_count arguments) 1) keyword.place
wrong_count_in_use names m (CallsOn (callee.Method object dot method) arguments) =
    wrong_count_on names method (argument_count arguments) (visible_instance names m (spelled_name object))
wrong_count_in_use names m _ = []

-- for each parameter of the constructor of a package, its method of its own name, whether it is in_out; none where there is no
-- constructor
abbrev pub constructor_parameters : KnownPackage → List Bool
constructor_parameters p = in_out_of (method_named p.methods p.name)

-- another number of constants than the constructor of an instance's package has parameters, at the instance
abbrev pub wrong_constructor : List KnownUnit → SourceInstance → InstanceOf → List Place
wrong_constructor known i (AnyPackage package' arguments) =
    option_map_or (λ (p : KnownPackage). place_unless (nat_eq (length arguments) (length (constructor_parameters p))) i.name.place)
    (package_named known (spelled_name package')) []
wrong_constructor known i _ = []

-- a call of what is not there
abbrev pub unknown_methods : SourceNames → List Place
unknown_methods names = from_uses names (unknown_method_in_use names)

-- a call, or the declaration of an instance, with another number of arguments
abbrev pub wrong_counts : SourceNames → List Place
wrong_counts names =
    from_uses names (wrong_count_in_use names) ++ from_each (λ (i : SourceInstance). wrong_constructor names.known i i.sort) names.instances

-- ---- NotVariable, at the name

-- a global may be set: it is a variable, or a parameter of the thread program; so may what may be a column
abbrev pub is_settable_global : SourceNames → List ℕ → Bool
is_settable_global names name = is_named (vector_names names) name || is_named names.parameters name || may_be_column names name

-- a name may be set in a method: it is one of its parameters or locals, or a global that may be set
abbrev pub is_settable : SourceNames → Method → List ℕ → Bool
is_settable names m name = is_named (local_names m) name || is_settable_global names name

-- the first tokens of arguments for in_out parameters that are no name
abbrev pub no_names : List Bool → Arguments → List Place
no_names in_out NoArgument = []
no_names (true ∷ in_out) (Argument comma (Variable name) rest) = no_names in_out rest
no_names (true ∷ in_out) (Argument comma value rest) = first_place value ∷ no_names in_out rest
no_names (false ∷ in_out) (Argument comma value rest) = no_names in_out rest
no_names [] (Argument comma value rest) = []

-- a target, or an argument for an in_out parameter, that is no variable
abbrev pub not_variable_in_use : SourceNames → Method → NameUse → List Place
not_variable_in_use names m (Sets t) = place_unless (is_settable names m (spelled_name t)) t.place
not_variable_in_use names m (HandsOver t) = place_unless (is_settable names m (spelled_name t)) t.place
not_variable_in_use names m (CallsOn f arguments) = no_names (in_out_parameters names f) arguments
not_variable_in_use names m _ = []

-- the first token of a constant
abbrev pub constant_place : Constant → Place
constant_place c = unwrap_or c.minus c.value.place

-- the constants for in_out parameters of a constructor
abbrev pub handed_constants : List Bool → List Constant → List Place
handed_constants (true ∷ in_out) (c ∷ constants) = constant_place c ∷ handed_constants in_out constants
handed_constants (false ∷ in_out) (c ∷ constants) = handed_constants in_out constants
handed_constants _ _ = []

-- a name is that of an instance, and of no other global
abbrev pub is_only_instance : SourceNames → List ℕ → Bool
is_only_instance names name = is_named (instance_names names) name && not (is_named (plain_globals names) name)

-- what is no variable in the declaration of an instance: a key variable of a hash object that is an instance, a data variable that
-- may not be set, and a constant for an in_out parameter of a constructor
abbrev pub not_variable_in_instance : SourceNames → InstanceOf → List Place
not_variable_in_instance names (HashObject keys items table) =
    from_each (λ (t : Token). place_unless (not (is_only_instance names (spelled_name t))) t.place) keys
    ++ from_each (λ (t : Token). place_unless (is_settable_global names (spelled_name t)) t.place) items
not_variable_in_instance names (AnyPackage package' arguments) =
    option_map_or (λ (p : KnownPackage). handed_constants (constructor_parameters p) arguments) (package_named names.known (spelled_name package')) []
not_variable_in_instance names _ = []

-- what is no variable where one is asked for
abbrev pub not_variables : SourceNames → List Place
not_variables names =
    from_uses names (not_variable_in_use names) ++ from_each (λ (i : SourceInstance). not_variable_in_instance names i.sort) names.instances

-- ---- AliasedArgument, at the argument

-- the names that are handed to in_out parameters
abbrev pub handed_names : List Bool → Arguments → List PlacedName
handed_names in_out NoArgument = []
handed_names (true ∷ in_out) (Argument comma (Variable name) rest) = placed_name name ∷ handed_names in_out rest
handed_names (flag ∷ in_out) (Argument comma value rest) = handed_names in_out rest
handed_names [] (Argument comma value rest) = []

-- the plain name that a use mentions
abbrev pub mentioned_name : NameUse → List (List ℕ)
mentioned_name (Values t) = spelled_name t ∷ []
mentioned_name (HandsOver t) = spelled_name t ∷ []
mentioned_name (Sets t) = spelled_name t ∷ []
mentioned_name _ = []

-- the key and data variables of a hash object
abbrev pub hash_variables : InstanceOf → List (List ℕ)
hash_variables (HashObject keys items table) = map spelled_name (keys ++ items)
hash_variables _ = []

-- the key and data variables of the hash object of this name
abbrev pub variables_of_hash : SourceNames → List ℕ → List (List ℕ)
variables_of_hash names name = option_map_or (λ (i : SourceInstance). hash_variables i.sort) (instance_named names.instances name) []

-- the variables that a call of a hash object or of an iterator mentions: the key and data variables of the hash object
abbrev pub variables_of_object : SourceNames → InstanceOf → List (List ℕ)
variables_of_object names (HashIterator hash) = variables_of_hash names (spelled_text hash)
variables_of_object names sort = hash_variables sort

-- likewise those of the instance that a name means in a method
abbrev pub variables_behind : SourceNames → Method → Token → List (List ℕ)
variables_behind names m object =
    option_map_or (λ (i : SourceInstance). variables_of_object names i.sort) (visible_instance names m (spelled_name object)) []

-- the globals that a use mentions by calling a hash object or an iterator
abbrev pub mentioned_by_object : SourceNames → Method → NameUse → List (List ℕ)
mentioned_by_object names m (CallsOn (callee.Method object dot method) arguments) = variables_behind names m object
mentioned_by_object names m (Members object member) = if is_flag_word object then [] else variables_behind names m object
mentioned_by_object names m _ = []

-- the globals that a method mentions itself: by names that it does not hide, and by calls of hash objects and iterators
abbrev pub own_mentions : SourceNames → Method → List (List ℕ)
own_mentions names m =
    filter (λ name. not (is_named (local_names m) name)) (from_each mentioned_name (uses_in names m))
    ++ from_each (mentioned_by_object names m) (uses_in names m)

-- the name of a method that a use calls
abbrev pub called_name : NameUse → List (List ℕ)
called_name (CallsOn (callee.Function t) arguments) = spelled_name t ∷ []
called_name _ = []

-- the globals that a method, or one that it may call, mentions: so many calls deep
abbrev pub mentions_of : SourceNames → ℕ → Option Method → List (List ℕ)
mentions_of names zero method = []
mentions_of names (suc depth) None = []
mentions_of names (suc depth) (Some m) =
    own_mentions names m ++ from_each (λ name. mentions_of names depth (method_named names.methods name)) (from_each called_name (uses_in names m))

-- a name that is handed over is a global that the called method may reach
abbrev pub is_reached : SourceNames → Method → Callee → List ℕ → Bool
is_reached names m (callee.Function t) name =
    not (is_named (local_names m) name)
    && is_listed (mentions_of names (length names.methods) (method_named names.methods (spelled_name t))) name
is_reached names m _ name = false

-- two arguments for in_out parameters that are one variable, at the second; and one that the called method may reach
abbrev pub aliased_in_use : SourceNames → Method → NameUse → List Place
aliased_in_use names m (CallsOn f arguments) =
    let handed = handed_names (in_out_parameters names f) arguments in
    later_places handed ++ from_each (λ (n : PlacedName). place_unless (not (is_reached names m f n.name)) n.place) handed
aliased_in_use names m _ = []

-- a variable that can be reached on a second way
abbrev pub aliased_arguments : SourceNames → List Place
aliased_arguments names = from_uses names (aliased_in_use names)
