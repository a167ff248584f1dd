-- Which names that a unit lists are not there, and what it breaks of the rules on uses.
use Rattle.std.proofs.Common.{◌≡◌, ℕ, Bool, true, false, ◌&&◌, List, [], ◌∷◌, ◌++◌, Option, Some, None, refl, sym, ap, ◌∙◌, append_assoc}
use Rattle.std.specs.Prelude.{if◌then◌else◌}
use Rattle.std.specs.Option.{option_map_or}
use Rattle.ds2_base.specs.declared.place.Place.{Place}
use Rattle.ds2_token.specs.declared.token.Token.{Token}
use Rattle.ds2_tree.specs.Globals.{GlobalItem, Declared, Listed, Defined}
use Rattle.ds2_tree.specs.declared.readings.Input as source_input
use Rattle.ds2_tree.specs.declared.units.OutputTable as source_output
use Rattle.ds2_calls.specs.InstanceSorts.{sort_of, sort_if_any, sort_named}
use Rattle.ds2_names.specs.NameRules.{from_each, place_unless, options_of, option_tokens, all_listed_tokens, is_in_all_tables, may_be_global, unknown_stage, is_thread_instance}
use Rattle.ds2_names.specs.SourceUnit.{TableColumns, is_earlier, PlacedName, UnitSource, InstanceOf, AnyPackage, HashObject, HashIterator, AnyThread, SourceInstance, KnownUnit, SourceNames, spelled_name, listed_tokens, source_methods, instance_named, tables_of_reading, stage_token, names_of_unit}
use Rattle.ds2_name_uses.specs.BrokenUses.{broken_in_method, unknown_beside_uses, unknown_names_used, BreaksFirst}
use Rattle.ds2_name_uses.specs.declared.scope.UsageRule.TheVariants as usage
use Rattle.ds2_scope.specs.Earliest.{earlier_of, earliest}
use Rattle.ds2_scope.specs.UnitNames.{reading_in_unit}
use Rattle.ds2_name_uses.specs.ListedParts.{unknown_global, unknown_globals, unknown_in_lists, unknown_in_output, lacking_column, lacking_by, is_stage_sort, unknown_stage_by}
use Rattle.ds2_name_uses.specs.UseRules.{NameTests, is_global_there}
use Rattle.ds2_value.specs.Schema.{has_column}
use Rattle.ds2_scope.proofs.EachLemmas.{each_append, each_of_each, each_is}
use Rattle.ds2_scope.proofs.EarliestLemmas.{earlier_of_assoc, earlier_of_comm, earliest_append}

-- ---- BY variables

interchange : (a b c d : Option Place) → earlier_of (earlier_of a b) (earlier_of c d) ≡ earlier_of (earlier_of a c) (earlier_of b d)
interchange a b c d =
    earlier_of_assoc a b (earlier_of c d)
    ∙ ap (earlier_of a) (sym (earlier_of_assoc b c d) ∙ ap (λ x. earlier_of x d) (earlier_of_comm b c) ∙ earlier_of_assoc c b d)
    ∙ sym (earlier_of_assoc a c (earlier_of b d))

one_place : (p : Place) → earlier_of (Some p) (Some p) ≡ Some p
one_place p = by (is_earlier p p)
  where
    by : (t : Bool) → (if t then Some p else Some p) ≡ Some p
    by true = refl
    by false = refl

unless_both : (s t : Bool) (p : Place) → earliest (place_unless (s && t) p) ≡ earlier_of (earliest (place_unless s p)) (earliest (place_unless t p))
unless_both true t p = refl
unless_both false true p = refl
unless_both false false p = sym (one_place p)

-- one table more
pub one_more_table : (tables : TableColumns) (i : source_input.Input) (is : List source_input.Input) (bys : List PlacedName)
    → earlier_of (earliest (from_each (lacking_column (tables (spelled_name i.table))) bys)) (earliest (from_each (lacking_by tables is) bys)) ≡ earliest (from_each (lacking_by tables (i ∷ is)) bys)
one_more_table tables i is [] = refl
one_more_table tables i is (b ∷ bys) =
    let columns = tables (spelled_name i.table) in
    let here = lacking_column columns b in
    let there = lacking_by tables is b in
    let others = from_each (lacking_column columns) bys in
    let elsewhere = from_each (lacking_by tables is) bys in
    (λ i. earlier_of (earliest_append here others i) (earliest_append there elsewhere i))
    ∙ interchange (earliest here) (earliest others) (earliest there) (earliest elsewhere)
    ∙ (λ j. earlier_of (sym (unless_both (has_column b.name columns) (is_in_all_tables tables is b.name) b.place) j) (one_more_table tables i is bys j))
    ∙ sym (earliest_append (lacking_by tables (i ∷ is) b) (from_each (lacking_by tables (i ∷ is)) bys))

pub one_more_input : (tables : TableColumns) (found : Option Place) (i : source_input.Input) (is : List source_input.Input) (bys : List PlacedName)
    → earlier_of (earlier_of found (earliest (from_each (lacking_column (tables (spelled_name i.table))) bys))) (earliest (from_each (lacking_by tables is) bys))
    ≡ earlier_of found (earliest (from_each (lacking_by tables (i ∷ is)) bys))
one_more_input tables found i is bys =
    earlier_of_assoc found (earliest (from_each (lacking_column (tables (spelled_name i.table))) bys)) (earliest (from_each (lacking_by tables is) bys))
    ∙ ap (earlier_of found) (one_more_table tables i is bys)

pub no_table : (tables : TableColumns) (bys : List PlacedName) → from_each (lacking_by tables []) bys ≡ []
no_table tables [] = refl
no_table tables (b ∷ bys) = no_table tables bys

-- ---- names that are listed

listed_item : (t : NameTests) (g : GlobalItem) (gs : List GlobalItem) → unknown_globals t (listed_tokens (g ∷ gs)) ≡ unknown_in_lists t g ++ unknown_globals t (listed_tokens gs)
listed_item t (Listed keyword names end) gs = each_append (unknown_global t) names (listed_tokens gs)
listed_item t (Declared d) gs = refl
listed_item t (Defined m) gs = refl

listed_parts : (t : NameTests) (gs : List GlobalItem) → unknown_globals t (listed_tokens gs) ≡ from_each (unknown_in_lists t) gs
listed_parts t [] = refl
listed_parts t (g ∷ gs) = listed_item t g gs ∙ ap (λ r. unknown_in_lists t g ++ r) (listed_parts t gs)

option_parts : (t : NameTests) (os : List source_output.OutputTable)
    → unknown_globals t (from_each (λ (o : source_output.OutputTable). from_each option_tokens (options_of o.options)) os) ≡ from_each (unknown_in_output t) os
option_parts t os =
    sym (each_of_each (unknown_global t) (λ (o : source_output.OutputTable). from_each option_tokens (options_of o.options)) os)
    ∙ each_is (λ (o : source_output.OutputTable). unknown_globals t (from_each option_tokens (options_of o.options))) (unknown_in_output t)
    (λ o. sym (each_of_each (unknown_global t) option_tokens (options_of o.options))) os

all_listed : (t : NameTests) (u : UnitSource)
    → unknown_globals t (all_listed_tokens u) ≡ from_each (unknown_in_lists t) u.globals ++ from_each (unknown_in_output t) u.outputs
all_listed t u =
    each_append (unknown_global t) (listed_tokens u.globals) (from_each (λ (o : source_output.OutputTable). from_each option_tokens (options_of o.options)) u.outputs)
    ∙ (λ i. listed_parts t u.globals i ++ option_parts t u.outputs i)

pub beside_parts : (tables : TableColumns) (bys : List PlacedName) (t : NameTests) (u : UnitSource)
    → earliest (unknown_beside_uses tables bys t u)
    ≡ earlier_of (earlier_of (earliest (from_each (unknown_in_lists t) u.globals)) (earliest (from_each (unknown_in_output t) u.outputs)))
    (earlier_of (earliest (from_each (lacking_by tables (tables_of_reading (reading_in_unit u))) bys)) (earliest (unknown_stage_by t (stage_token (reading_in_unit u)))))
beside_parts tables bys t u =
    let lists = from_each (unknown_in_lists t) u.globals in
    let options = from_each (unknown_in_output t) u.outputs in
    let lacking = from_each (lacking_by tables (tables_of_reading (reading_in_unit u))) bys in
    let stage = unknown_stage_by t (stage_token (reading_in_unit u)) in
    earliest_append ((lists ++ options) ++ lacking) stage
    ∙ ap (λ x. earlier_of x (earliest stage)) (earliest_append (lists ++ options) lacking ∙ ap (λ x. earlier_of x (earliest lacking)) (earliest_append lists options))
    ∙ earlier_of_assoc (earlier_of (earliest lists) (earliest options)) (earliest lacking) (earliest stage)

-- ---- the instance of `set from`

stage_sort : (s : InstanceOf) → is_thread_instance s ≡ is_stage_sort (Some (sort_of s))
stage_sort (AnyPackage package' arguments) = refl
stage_sort (HashObject keys items table) = refl
stage_sort (HashIterator hash) = refl
stage_sort (AnyThread thread) = refl

stage_if_any : (o : Option SourceInstance) → option_map_or (λ (i : SourceInstance). is_thread_instance i.sort) o false ≡ is_stage_sort (sort_if_any o)
stage_if_any None = refl
stage_if_any (Some i) = stage_sort i.sort

stage_is : (names : SourceNames) (t : NameTests) (stage : Option Token) → ((name : List ℕ) → t.calls.sort_of_instance name ≡ sort_named names.instances name)
    → unknown_stage names stage ≡ unknown_stage_by t stage
stage_is names t None sorts = refl
stage_is names t (Some n) sorts =
    ap (λ b. place_unless b n.place) (stage_if_any (instance_named names.instances (spelled_name n)) ∙ ap is_stage_sort (sym (sorts (spelled_name n))))

-- ---- a unit

module _ (tables : TableColumns) (known : List KnownUnit) (u : UnitSource) where
  reading_is : (names_of_unit tables known u).reading ≡ reading_in_unit u
  reading_is = refl

  -- the names that are not there: those in uses, and the others
  unknown_parts : (t : NameTests) → ((name : List ℕ) → may_be_global (names_of_unit tables known u) name ≡ is_global_there t name)
      → ((name : List ℕ) → t.calls.sort_of_instance name ≡ sort_named (names_of_unit tables known u).instances name)
      → unknown_names_used tables (names_of_unit tables known u) ≡ from_each (broken_in_method usage.UnknownName (names_of_unit tables known u)) (source_methods u.globals) ++ unknown_beside_uses tables (names_of_unit tables known u).bys t u
  unknown_parts t global sorts =
      let names = names_of_unit tables known u in
      let used = from_each (broken_in_method usage.UnknownName names) (source_methods u.globals) in
      let lists = from_each (unknown_in_lists t) u.globals in
      let options = from_each (unknown_in_output t) u.outputs in
      let lacking = from_each (lacking_by tables (tables_of_reading (reading_in_unit u))) names.bys in
      let stage = unknown_stage_by t (stage_token (reading_in_unit u)) in
      (λ i. ((used ++ from_each (λ (n : Token). place_unless (global (spelled_name n) i) n.place) (all_listed_tokens u))
      ++ from_each (λ (b : PlacedName). place_unless (is_in_all_tables tables (tables_of_reading (reading_is i)) b.name) b.place) names.bys) ++ stage_is names t (stage_token (reading_is i)) sorts i)
      ∙ (λ i. ((used ++ all_listed t u i) ++ lacking) ++ stage)
      ∙ ap (λ r. r ++ stage) (append_assoc used (lists ++ options) lacking)
      ∙ append_assoc used ((lists ++ options) ++ lacking) stage

  -- all that a unit breaks of the rules on uses
  pub uses_broken : (t : NameTests) (bys : List PlacedName) (used beside unknown_method wrong_count not_variable misplaced_setting : Option Place)
      → ((name : List ℕ) → may_be_global (names_of_unit tables known u) name ≡ is_global_there t name)
      → ((name : List ℕ) → t.calls.sort_of_instance name ≡ sort_named (names_of_unit tables known u).instances name) → bys ≡ (names_of_unit tables known u).bys
      → used ≡ earliest (from_each (broken_in_method usage.UnknownName (names_of_unit tables known u)) (source_methods u.globals)) → beside ≡ earliest (unknown_beside_uses tables bys t u)
      → unknown_method ≡ earliest (from_each (broken_in_method usage.UnknownMethod (names_of_unit tables known u)) (source_methods u.globals))
      → wrong_count ≡ earliest (from_each (broken_in_method usage.WrongCount (names_of_unit tables known u)) (source_methods u.globals))
      → not_variable ≡ earliest (from_each (broken_in_method usage.NotVariable (names_of_unit tables known u)) (source_methods u.globals))
      → misplaced_setting ≡ earliest (from_each (broken_in_method usage.MisplacedSetting (names_of_unit tables known u)) (source_methods u.globals))
      → BreaksFirst tables (names_of_unit tables known u)
      (record { unknown_name = earlier_of used beside; unknown_method = unknown_method; wrong_count = wrong_count; not_variable = not_variable; misplaced_setting = misplaced_setting })
  uses_broken t bys used beside unknown_method wrong_count not_variable misplaced_setting global sorts b us bs um wc nv ms = record {
    unknown_name = (λ i. earlier_of (us i) ((bs ∙ ap (λ ns. earliest (unknown_beside_uses tables ns t u)) b) i))
        ∙ sym (earliest_append (from_each (broken_in_method usage.UnknownName (names_of_unit tables known u)) (source_methods u.globals)) (unknown_beside_uses tables (names_of_unit tables known u).bys t u))
        ∙ sym (ap earliest (unknown_parts t global sorts));
    unknown_method = um;
    wrong_count = wc;
    not_variable = nv;
    misplaced_setting = ms;
  }
