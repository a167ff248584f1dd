-- The refusal of a unit's names, from the earliest place at which each rule is broken.
use Rattle.std.specs.Prelude.{◌≡◌, List, Option, Some, None}
use Rattle.ds2_base.specs.declared.place.Place.{Place}
use Rattle.ds2_base.specs.declared.place.Refusal.{Refusal}
use Rattle.ds2_meaning.specs.declared.refusals.ScopeKind.{ScopeKind}
use Rattle.ds2_meaning.specs.declared.refusals.ScopeKind.TheVariants as scope
use Rattle.ds2_names.specs.NameRules.{unknown_names, duplicate_names, unknown_methods, wrong_counts, not_variables, aliased_arguments}
use Rattle.ds2_names.specs.Refusals.{scope_rank, first_of_both}
use Rattle.ds2_names.specs.SourceLimits.{BeforeUnit, beyond_source_limits, scope_refusal}
use Rattle.ds2_names.specs.SourceUnit.{TableColumns, UnitSource, names_of_unit}
use Rattle.ds2_names.specs.UnitRules.{too_many_names, bad_numbers, misplaced, no_columns}
use Rattle.ds2_scope.specs.declared.refusal.BrokenRules.{BrokenRules}
use Rattle.ds2_scope.specs.Earliest.{earliest}

-- the one of two refusals that is given, where there are some
abbrev pub lesser : Option (Refusal ScopeKind) → Option (Refusal ScopeKind) → Option (Refusal ScopeKind)
lesser None other = other
lesser (Some a) other = Some (first_of_both scope_rank a other)

-- the refusal of a rule that is broken first at a place, where it is broken
abbrev pub refused_first : ScopeKind → Option Place → Option (Refusal ScopeKind)
refused_first kind None = None
refused_first kind (Some place) = Some (record { kind = kind; place = place })

-- the refusal that is given of rules that are broken first at these places
abbrev pub first_refusal : BrokenRules → Option (Refusal ScopeKind)
first_refusal b =
    lesser
    (lesser (refused_first scope.UnknownName b.unknown_name)
    (lesser (refused_first scope.DuplicateName b.duplicate_name)
    (lesser (refused_first scope.UnknownMethod b.unknown_method)
    (lesser (refused_first scope.WrongCount b.wrong_count)
    (lesser (refused_first scope.NotVariable b.not_variable)
    (lesser (refused_first scope.AliasedArgument b.aliased_argument)
    (lesser (refused_first scope.TooManyNames b.too_many_names)
    (lesser (refused_first scope.BadNumber b.bad_number)
    (lesser (refused_first scope.Misplaced b.misplaced) (refused_first scope.NoColumns b.no_columns))))))))))
    (refused_first scope.TooManyNames b.source_limit)

-- for each rule of names the earliest place at which a unit behind others breaks it
abbrev pub rules_broken : TableColumns → BeforeUnit → UnitSource → BrokenRules
rules_broken tables before u =
    let names = names_of_unit tables before.known u in
    record {
      unknown_name = earliest (unknown_names tables names);
      duplicate_name = earliest (duplicate_names names);
      unknown_method = earliest (unknown_methods names);
      wrong_count = earliest (wrong_counts names);
      not_variable = earliest (not_variables names);
      aliased_argument = earliest (aliased_arguments names);
      too_many_names = earliest (too_many_names names);
      bad_number = earliest (bad_numbers names);
      misplaced = earliest (misplaced names);
      no_columns = earliest (no_columns names);
      source_limit = earliest (beyond_source_limits before u);
    }

-- the refusal of a unit's names is that of these places
abbrev pub RefusalOfPlaces : Type 0
RefusalOfPlaces = (tables : TableColumns) (before : BeforeUnit) (u : UnitSource) → scope_refusal tables before u ≡ first_refusal (rules_broken tables before u)
