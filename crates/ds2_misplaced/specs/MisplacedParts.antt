-- What is misplaced in one part of a unit, calls of `setparms` aside.
use Rattle.std.specs.Prelude.{◌≡◌, ℕ, Bool, true, false, not, ◌&&◌, ◌||◌, nat_eq, bytes_eq, codes, if◌then◌else◌, List, [], ◌∷◌, ◌++◌, length, map, is_some, is_none, Option}
use Rattle.std.specs.Option.{option_map_or}
use Rattle.ds2_base.specs.declared.place.Place.{Place}
use Rattle.ds2_token.specs.declared.token.Token.{Token}
use Rattle.ds2_tree.specs.Globals.{Method, GlobalItem}
use Rattle.ds2_tree.specs.declared.globals.Parameter as source_parameter
use Rattle.ds2_tree.specs.Statements as s
use Rattle.ds2_tree.specs.StatementViews.{statement_tree}
use Rattle.ds2_tree.specs.declared.readings.Reading.{Reading}
use Rattle.ds2_tree.specs.declared.statements.DoControl.{DoControl}
use Rattle.ds2_tree.specs.declared.statements.DoControl.TheVariants as control
use Rattle.ds2_tree.specs.declared.statements.ElseIf.{ElseIf}
use Rattle.ds2_tree.specs.declared.units.OutputOption.{OutputOption}
use Rattle.ds2_tree.specs.declared.units.OutputOption.TheVariants as option
use Rattle.ds2_tree.specs.declared.units.OutputTable as source_output
use Rattle.ds2_names.specs.NameRules.{from_each, from_uses, place_unless, later_places, options_of}
use Rattle.ds2_names.specs.SourceUnit.{spelled_name, is_system_name, is_package, is_thread, PlacedName, UnitKind, OfPackage, OfThread, OfData, InstanceOf, SourceInstance, reads_thread, SourceNames}
use Rattle.ds2_names.specs.UnitRules.{option_word, misplaced_reading, misplaced_in, misplaced_in_all, misplaced_in_whens, misplaced_in_otherwise, misplaced_in_kind, misplaced_null, misplaced_setting, misplaced, list_keywords}
use Rattle.ds2_scope.specs.Earliest.{earlier_of, earliest}
use Rattle.ds2_scope.specs.declared.known.KnownThread.{KnownThread}
use Rattle.ds2_misplaced.specs.declared.output_rule.OutputRule.{OutputRule}
use Rattle.ds2_misplaced.specs.declared.output_rule.OutputRule.TheVariants as output_rule_is

-- a `do` is a loop
abbrev pub is_loop : DoControl → Bool
is_loop control.Block = false
is_loop _ = true

-- an `output` of these tables may stand in a method
abbrev pub allows : OutputRule → List Token → Bool
allows output_rule_is.Nowhere tables = false
allows output_rule_is.Unnamed tables = nat_eq (length tables) 0
allows output_rule_is.Anywhere tables = true

-- which `output` statements may stand in a method of a unit of a kind, which is a system method or not
abbrev pub rule_on_outputs : UnitKind → Bool → OutputRule
rule_on_outputs OfPackage is_system = output_rule_is.Nowhere
rule_on_outputs OfThread is_system = if is_system then output_rule_is.Unnamed else output_rule_is.Nowhere
rule_on_outputs OfData is_system = if is_system then output_rule_is.Anywhere else output_rule_is.Nowhere

module _ (rule : OutputRule) (returns : Bool) where
  -- the misplaced statements within one, under a rule on `output`
  abbrev pub misplaced_within : Bool → s.Statement → List Place
  misplaced_within inside statement = misplaced_in (allows rule) returns inside statement

  -- those within statements
  abbrev pub misplaced_within_all : Bool → s.Statements → List Place
  misplaced_within_all inside statements = misplaced_in_all (allows rule) returns inside statements

  -- those within the parts of a `select`
  abbrev pub misplaced_within_whens : Bool → s.Whens → List Place
  misplaced_within_whens inside whens = misplaced_in_whens (allows rule) returns inside whens

  -- those within a last part
  abbrev pub misplaced_within_otherwise : Bool → s.Otherwise → List Place
  misplaced_within_otherwise inside otherwise = misplaced_in_otherwise (allows rule) returns inside otherwise

  -- those within an `else if`
  abbrev pub misplaced_within_else_if : Bool → ElseIf → List Place
  misplaced_within_else_if inside x = misplaced_within inside (statement_tree x.then)

-- a method of a unit of a kind is a system method: a package has none
abbrev pub is_system_in : UnitKind → List ℕ → Bool
is_system_in kind name = not (is_package kind) && is_system_name name

-- a reading statement may stand in a method of this name of a unit of a kind
abbrev pub may_read_in : UnitKind → List ℕ → Reading → Bool
may_read_in kind name reading = (not (is_thread kind) || not (reads_thread reading)) && (not (is_package kind) && bytes_eq name (codes "run"))

-- a method with parameters or a result, where it is a system method
abbrev pub misplaced_method_head : Bool → Method → List Place
misplaced_method_head is_system m = place_unless (not is_system || (nat_eq (length m.parameters.list) 0 && is_none m.returns)) m.keyword.place

-- the misplaced statements of a method
abbrev pub misplaced_body : OutputRule → Method → List Place
misplaced_body rule m = misplaced_within_all rule (is_some m.returns) false m.body

-- what is misplaced in a method of a unit of a kind
abbrev pub misplaced_in_method_of : UnitKind → Method → List Place
misplaced_in_method_of kind m =
    misplaced_method_head (is_system_in kind (spelled_name m.name)) m
    ++ misplaced_reading (may_read_in kind (spelled_name m.name)) m.reading
    ++ misplaced_body (rule_on_outputs kind (is_system_in kind (spelled_name m.name))) m

-- the word of an option
abbrev pub option_token : OutputOption → Token
option_token (option.Listed keyword equals opening listed closing) = keyword
option_token (option.Overwrite keyword equals answer) = keyword
option_token (option.Rename keyword equals opening renamings closing) = keyword

-- the words of options, with their places
abbrev pub option_names : List OutputOption → List PlacedName
option_names options = map option_word options

-- the later ones of two options of one sort of an output
abbrev pub repeated_options : source_output.OutputTable → List Place
repeated_options o = later_places (option_names (options_of o.options))

-- the place of an output that is `_null_`
abbrev pub null_place : source_output.OutputTable → List Place
null_place o = place_unless (not (bytes_eq (spelled_name o.table) (codes "_null_"))) o.table.place

-- ---- what a unit of a kind may not hold

-- the word of the declaration of an instance for which a test holds
abbrev pub keyword_where : (InstanceOf → Bool) → SourceInstance → List Place
keyword_where test i = place_unless (not (test i.sort)) i.keyword.place

-- how many thread programs the chain has that ends with one, by what is kept of it: one that is not known counts as one
abbrev pub chain_or_one : Option KnownThread → ℕ
chain_or_one thread = option_map_or (λ (t : KnownThread). t.chain) thread 1

-- the word of a list, where a part of a unit is one
abbrev pub list_keyword_in : GlobalItem → List Place
list_keyword_in g = list_keywords (g ∷ [])

-- the word `in_out` of a parameter, where it has one
abbrev pub in_out_word : source_parameter.Parameter → List Place
in_out_word p = option_map_or (λ (t : Token). t.place ∷ []) p.in_out []

-- ---- a unit

-- what stands where it may not stand, calls of `setparms` aside
abbrev pub misplaced_aside : SourceNames → List Place
misplaced_aside names =
    from_each (misplaced_in_method_of names.unit.kind) names.methods
    ++ misplaced_in_kind names.unit.kind names
    ++ misplaced_null names.outputs
    ++ from_each repeated_options names.outputs

-- the calls of `setparms` that stand where they may not stand
abbrev pub misplaced_settings : SourceNames → List Place
misplaced_settings names = from_uses names (misplaced_setting names)

-- both together are what is misplaced
abbrev pub MisplacedIsBoth : Type 0
MisplacedIsBoth = (names : SourceNames) → earliest (misplaced names) ≡ earlier_of (earliest (misplaced_aside names)) (earliest (misplaced_settings names))
