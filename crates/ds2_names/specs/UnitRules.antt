-- The rules of a unit of a source that count its names and place its parts, and all rules of names together.
use Rattle.std.specs.Prelude.{ℕ, ◌+◌, Bool, true, false, not, ◌&&◌, ◌||◌, nat_le, nat_lt, nat_eq, bytes_eq, codes, if◌then◌else◌, List, [], ◌∷◌, ◌++◌, length, map, filter, is_some, is_none, Option, Some, None}
use Rattle.std.specs.Int.{is_in_range}
use Rattle.std.specs.Option.{option_map_or}
use Rattle.ds2_base.specs.declared.place.Place.{Place}
use Rattle.ds2_base.specs.declared.place.Refusal.{Refusal}
use Rattle.ds2_token.specs.declared.token.Token.{Token}
use Rattle.ds2_tree.specs.Expressions.{Expression}
use Rattle.ds2_tree.specs.Globals.{Method, GlobalItem, Listed}
use Rattle.ds2_tree.specs.Statements as s
use Rattle.ds2_tree.specs.declared.expressions.Callee.TheVariants as callee
use Rattle.ds2_tree.specs.declared.globals.Parameter as source_parameter
use Rattle.ds2_tree.specs.declared.globals.Returns.{Returns}
use Rattle.ds2_tree.specs.declared.globals.Scale.{Scale}
use Rattle.ds2_tree.specs.declared.globals.TypeName.{TypeName}
use Rattle.ds2_tree.specs.declared.globals.TypeName.TheVariants as type_name
use Rattle.ds2_tree.specs.declared.globals.VariableDeclaration.{VariableDeclaration}
use Rattle.ds2_tree.specs.declared.readings.Input as source_input
use Rattle.ds2_tree.specs.declared.readings.Reading as source_reading
use Rattle.ds2_tree.specs.declared.readings.Reading.TheVariants as reading
use Rattle.ds2_tree.specs.declared.readings.Threads.{Threads}
use Rattle.ds2_tree.specs.declared.units.OutputOption.{OutputOption}
use Rattle.ds2_tree.specs.declared.units.OutputOption.TheVariants as option
use Rattle.ds2_tree.specs.declared.units.OutputTable as source_output
use Rattle.ds2_names.specs.Refusals.{broken_at}
use Rattle.ds2_names.specs.SourceUnit.{TableColumns, spelled_name, PlacedName, placed_name, is_earlier, variable_declarations, local_names, UnitKind, OfPackage, OfThread, OfData, is_package, is_thread, InstanceOf, AnyPackage, HashObject, AnyThread, SourceInstance, KnownThread, KnownUnit, thread_named, reads_thread, tables_of_reading, SourceNames, instance_names, all_globals}
use Rattle.ds2_names.specs.Uses.{NameUse, CallsOn}
use Rattle.ds2_meaning.specs.declared.refusals.ScopeKind.{ScopeKind}
use Rattle.ds2_meaning.specs.declared.refusals.ScopeKind.TheVariants as kind
use Rattle.ds2_names.specs.NameRules.{from_each, place_unless, spelled_number, uses_in, visible_instance, columns_are_known, options_of, real_outputs, is_known_thread, later_places, is_system, columns_left, unknown_names, duplicate_names, unknown_methods, wrong_counts, not_variables, aliased_arguments}

-- ---- TooManyNames, at the name beyond a limit

-- the places among these at which more than so many stand up to there
abbrev pub beyond : ℕ → List Place → List Place
beyond limit places = filter (λ place. nat_lt limit (length (filter (λ other. not (is_earlier place other)) places))) places

-- the places of names
abbrev pub places_of : List PlacedName → List Place
places_of names = map (λ (n : PlacedName). n.place) names

-- 64 key and 64 data variables of a hash object
abbrev pub too_many_variables : InstanceOf → List Place
too_many_variables (HashObject keys items table) =
    beyond 64 (map (λ (t : Token). t.place) keys) ++ beyond 64 (map (λ (t : Token). t.place) items)
too_many_variables _ = []

-- 1,000 globals, of which each BY variable has two flags; 1,000 parameters and locals; 16 outputs, 16 tables and 16 BY variables; 64
-- instances, and 64 key and 64 data variables
abbrev pub too_many_names : SourceNames → List Place
too_many_names names =
    beyond 1000 (places_of (all_globals names) ++ places_of names.bys ++ places_of names.bys)
    ++ from_each (λ (m : Method). beyond 1000 (places_of (local_names m))) names.methods
    ++ beyond 16 (map (λ (o : source_output.OutputTable). o.table.place) (real_outputs names))
    ++ beyond 16 (map (λ (i : source_input.Input). i.table.place) (tables_of_reading names.reading))
    ++ beyond 16 (places_of names.bys)
    ++ beyond 64 (places_of (instance_names names))
    ++ from_each (λ (i : SourceInstance). too_many_variables i.sort) names.instances

-- ---- BadNumber, at the number

-- a number is at least and at most so much
abbrev pub is_between : ℕ → ℕ → ℕ → Bool
is_between least most n = is_in_range least most n

-- a scale that is greater than its precision
abbrev pub bad_scale : ℕ → Option Scale → List Place
bad_scale precision None = []
bad_scale precision (Some scale) = place_unless (nat_le (spelled_number scale.number) precision) scale.number.place

-- the numbers of a type: 1 to 38 digits, no more of them behind the point; 1 to 1,024 characters
abbrev pub bad_type_numbers : TypeName → List Place
bad_type_numbers (type_name.BigInt keyword) = []
bad_type_numbers (type_name.Decimal keyword opening precision scale closing) =
    place_unless (is_between 1 38 (spelled_number precision)) precision.place ++ bad_scale (spelled_number precision) scale
bad_type_numbers (type_name.Text keyword opening width closing) = place_unless (is_between 1 1024 (spelled_number width)) width.place

-- the types of declarations of variables
abbrev pub declared_types : List VariableDeclaration → List TypeName
declared_types declarations = map (λ (v : VariableDeclaration). v.ty) declarations

-- the type behind `returns`, where there is one
abbrev pub returned_types : Option Returns → List TypeName
returned_types None = []
returned_types (Some returns) = returns.ty ∷ []

-- the types of a method: of its parameters, its result and its locals
abbrev pub method_types : Method → List TypeName
method_types m =
    map (λ (p : source_parameter.Parameter). p.ty) m.parameters.list ++ returned_types m.returns ++ declared_types m.locals

-- the number of threads behind `set from`, where it is given: 1 to 64
abbrev pub bad_threads : Option Threads → List Place
bad_threads None = []
bad_threads (Some threads) = place_unless (is_between 1 64 (spelled_number threads.number)) threads.number.place

-- the number of threads of a reading statement
abbrev pub bad_reading_number : Option source_reading.Reading → List Place
bad_reading_number (Some (reading.SetFrom keyword from instance threads end)) = bad_threads threads
bad_reading_number _ = []

-- the types of a unit: of its variables and parameters, and of its methods
abbrev pub unit_types : SourceNames → List TypeName
unit_types names =
    declared_types (variable_declarations names.unit.globals)
    ++ map (λ (p : source_parameter.Parameter). p.ty) names.unit.parameters
    ++ from_each method_types names.methods

-- a number of a type, or of threads, outside its bounds
abbrev pub bad_numbers : SourceNames → List Place
bad_numbers names = from_each bad_type_numbers (unit_types names) ++ from_each (λ (m : Method). bad_reading_number m.reading) names.methods

-- ---- Misplaced, at the first token

-- the first token of a reading statement
abbrev pub reading_place : source_reading.Reading → Place
reading_place (reading.Set keyword inputs end by) = keyword.place
reading_place (reading.SetFrom keyword from instance threads end) = keyword.place
reading_place (reading.Merge keyword inputs retain end by) = keyword.place

-- a reading statement where it may not stand, by a test that tells which one may stand there
abbrev pub misplaced_reading : (source_reading.Reading → Bool) → Option source_reading.Reading → List Place
misplaced_reading may_read None = []
misplaced_reading may_read (Some reading) = place_unless (may_read reading) (reading_place reading)

-- a `return` with a value where no type is returned, or without one where one is
abbrev pub misplaced_return : Bool → Token → Option Expression → List Place
misplaced_return returns keyword value = place_unless (if returns then is_some value else is_none value) keyword.place

-- what stands where it may not stand, where `may_output` tells which `output` statements may stand here, by the tables that they name
module _ (may_output : List Token → Bool) (returns : Bool) where
  abbrev mutual
    -- statements that stand where they may not stand, inside a loop or not: `leave` and `continue` outside loops, an `output`
    -- that may not stand here, and `return` with or without a value against what the method returns
    pub misplaced_in : Bool → s.Statement → List Place
    misplaced_in loop (s.Leave keyword end) = place_unless loop keyword.place
    misplaced_in loop (s.Continue keyword end) = place_unless loop keyword.place
    misplaced_in loop (s.Return keyword value end) = misplaced_return returns keyword value
    misplaced_in loop (s.Output keyword tables end) = place_unless (may_output tables) keyword.place
    misplaced_in loop (s.If keyword condition then_keyword then_part) = misplaced_in loop then_part
    misplaced_in loop (s.IfElse keyword condition then_keyword then_part else_keyword else_part) = misplaced_in loop then_part ++ misplaced_in loop else_part
    misplaced_in loop (s.Select keyword selector semicolon whens otherwise end_keyword end) = misplaced_in_whens loop whens ++ misplaced_in_otherwise loop otherwise
    misplaced_in loop (s.Do keyword s.Block semicolon body end_keyword end) = misplaced_in_all loop body
    misplaced_in loop (s.Do keyword control semicolon body end_keyword end) = misplaced_in_all true body
    misplaced_in loop _ = []

    -- those in statements
    pub misplaced_in_all : Bool → s.Statements → List Place
    misplaced_in_all loop s.NoStatement = []
    misplaced_in_all loop (s.Then first rest) = misplaced_in loop first ++ misplaced_in_all loop rest

    -- those in the parts of a `select`
    pub misplaced_in_whens : Bool → s.Whens → List Place
    misplaced_in_whens loop s.NoWhen = []
    misplaced_in_whens loop (s.When keyword opening values closing statement rest) = misplaced_in loop statement ++ misplaced_in_whens loop rest

    -- those in its last part
    pub misplaced_in_otherwise : Bool → s.Otherwise → List Place
    misplaced_in_otherwise loop s.NoOtherwise = []
    misplaced_in_otherwise loop (s.Otherwise' keyword statement) = misplaced_in loop statement

-- a system method with parameters or a result, at its first token
abbrev pub misplaced_head : SourceNames → Method → List Place
misplaced_head names m =
    place_unless (not (is_system names (spelled_name m.name)) || (nat_eq (length m.parameters.list) 0 && is_none m.returns)) m.keyword.place

-- a method is this system method of a program
abbrev pub is_system_method : List ℕ → SourceNames → Method → Bool
is_system_method name names m = not (is_package names.unit.kind) && bytes_eq (spelled_name m.name) name

-- `output` stands in system methods alone, and names no table in a thread program
abbrev pub may_write : SourceNames → Method → List Token → Bool
may_write names m tables = is_system names (spelled_name m.name) && (not (is_thread names.unit.kind) || nat_eq (length tables) 0)

-- a reading statement stands in `run` alone, and reads from no thread program in a thread program
abbrev pub may_read : SourceNames → Method → source_reading.Reading → Bool
may_read names m reading = (not (is_thread names.unit.kind) || not (reads_thread reading)) && is_system_method (codes "run") names m

-- a call of `setparms` of an instance of a known thread program
abbrev pub is_setting : SourceNames → Method → Token → Token → Bool
is_setting names m object method =
    bytes_eq (spelled_name method) (codes "setparms")
    && option_map_or (λ (i : SourceInstance). is_known_thread names.known i.sort) (visible_instance names m (spelled_name object)) false

-- `setparms` outside the body of `init`, at the instance
abbrev pub misplaced_setting : SourceNames → Method → NameUse → List Place
misplaced_setting names m (CallsOn (callee.Method object dot method) arguments) =
    place_unless (not (is_setting names m object method) || is_system_method (codes "init") names m) object.place
misplaced_setting names m _ = []

-- what is misplaced in a method
abbrev pub misplaced_in_method : SourceNames → Method → List Place
misplaced_in_method names m =
    misplaced_head names m
    ++ misplaced_reading (may_read names m) m.reading
    ++ misplaced_in_all (may_write names m) (is_some m.returns) false m.body
    ++ from_each (misplaced_setting names m) (uses_in names m)

-- what a package may not hold: instances of packages and of thread programs
abbrev pub is_kept_from_packages : InstanceOf → Bool
is_kept_from_packages (AnyPackage package' arguments) = true
is_kept_from_packages (AnyThread thread) = true
is_kept_from_packages _ = false

-- the word `retain`, `keep` or `drop` of each list of a unit
abbrev pub list_keywords : List GlobalItem → List Place
list_keywords [] = []
list_keywords (Listed keyword names end ∷ globals) = keyword.place ∷ list_keywords globals
list_keywords (_ ∷ globals) = list_keywords globals

-- how many thread programs a chain may have, each of which reads from the next: one, which reads tables alone
abbrev pub longest_chain : ℕ
longest_chain = 1

-- an instance of a thread program that makes a chain of more thread programs than it may have; one of a thread program that is not
-- known adds one, too
abbrev pub makes_long_chain : List KnownUnit → InstanceOf → Bool
makes_long_chain known (AnyThread thread) =
    nat_lt longest_chain (option_map_or (λ (t : KnownThread). t.chain) (thread_named known (spelled_name thread)) 1 + 1)
makes_long_chain known _ = false

-- the words of declarations of instances for which a test holds
abbrev pub instance_keywords : (InstanceOf → Bool) → List SourceInstance → List Place
instance_keywords test instances = map (λ (i : SourceInstance). i.keyword.place) (filter (λ (i : SourceInstance). test i.sort) instances)

-- the word `in_out` of parameters
abbrev pub in_out_words : List source_parameter.Parameter → List Place
in_out_words parameters = from_each (λ (p : source_parameter.Parameter). option_map_or (λ (t : Token). t.place ∷ []) p.in_out []) parameters

-- what a unit of a kind may not hold: a package no instances of packages and thread programs and no lists, a thread program no
-- `in_out` parameters and no instance that makes a long chain
abbrev pub misplaced_in_kind : UnitKind → SourceNames → List Place
misplaced_in_kind OfPackage names = instance_keywords is_kept_from_packages names.instances ++ list_keywords names.unit.globals
misplaced_in_kind OfThread names = in_out_words names.unit.parameters ++ instance_keywords (makes_long_chain names.known) names.instances
misplaced_in_kind OfData names = []

-- the word of an option with its place
abbrev pub option_word : OutputOption → PlacedName
option_word (option.Listed keyword equals opening listed closing) = placed_name keyword
option_word (option.Overwrite keyword equals answer) = placed_name keyword
option_word (option.Rename keyword equals opening renamings closing) = placed_name keyword

-- `_null_` is an output beside another one
abbrev pub misplaced_null : List source_output.OutputTable → List Place
misplaced_null outputs =
    if nat_le (length outputs) 1 then []
    else map (λ (o : source_output.OutputTable). o.table.place) (filter (λ (o : source_output.OutputTable). bytes_eq (spelled_name o.table) (codes "_null_")) outputs)

-- what stands where it may not stand: statements and reading statements, heads of system methods, calls of `setparms`, what a unit
-- of this kind may not hold, `_null_` beside another output, and an option given twice
abbrev pub misplaced : SourceNames → List Place
misplaced names =
    from_each (misplaced_in_method names) names.methods
    ++ misplaced_in_kind names.unit.kind names
    ++ misplaced_null names.outputs
    ++ from_each (λ (o : source_output.OutputTable). later_places (map option_word (options_of o.options))) names.outputs

-- ---- NoColumns, at the name of the output or the thread program

-- a place, where no column is left and the columns are known
abbrev pub without_columns : SourceNames → List OutputOption → Place → List Place
without_columns names options place = place_unless (not (columns_are_known names) || not (nat_eq (length (columns_left names options)) 0)) place

-- an output without a column, other than `_null_`
abbrev pub output_without_columns : SourceNames → source_output.OutputTable → List Place
output_without_columns names o =
    if bytes_eq (spelled_name o.table) (codes "_null_") then [] else without_columns names (options_of o.options) o.table.place

-- the place of the name of a thread program
abbrev pub thread_name_place : SourceNames → List Place
thread_name_place names = if is_thread names.unit.kind then option_map_or (λ (t : Token). t.place ∷ []) names.unit.name [] else []

-- an output, or a thread program, without a column
abbrev pub no_columns : SourceNames → List Place
no_columns names = from_each (output_without_columns names) names.outputs ++ from_each (without_columns names []) (thread_name_place names)

-- ---- all rules

-- the broken rules of names of a unit, each with its places
abbrev pub broken_name_rules : TableColumns → SourceNames → List (Refusal ScopeKind)
broken_name_rules tables names =
    broken_at kind.UnknownName (unknown_names tables names)
    ++ broken_at kind.DuplicateName (duplicate_names names)
    ++ broken_at kind.UnknownMethod (unknown_methods names)
    ++ broken_at kind.WrongCount (wrong_counts names)
    ++ broken_at kind.NotVariable (not_variables names)
    ++ broken_at kind.AliasedArgument (aliased_arguments names)
    ++ broken_at kind.TooManyNames (too_many_names names)
    ++ broken_at kind.BadNumber (bad_numbers names)
    ++ broken_at kind.Misplaced (misplaced names)
    ++ broken_at kind.NoColumns (no_columns names)
