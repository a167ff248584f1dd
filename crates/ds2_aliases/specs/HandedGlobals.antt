-- The globals that methods hand to in_out parameters, and which of these arguments are aliased.
use Rattle.std.specs.Prelude.{ℕ, Bool, not, length, if◌then◌else◌, List, [], ◌∷◌, Option}
use Rattle.ds2_base.specs.declared.place.Place.{Place}
use Rattle.ds2_names.specs.NameRules.{from_each, later_places, place_unless}
use Rattle.ds2_names.specs.SourceUnit.{PlacedName, is_named}
use Rattle.ds2_scope.specs.Earliest.{earlier_of, earliest}
use Rattle.ds2_aliases.specs.declared.mentions.Mention.{Mention}
use Rattle.ds2_aliases.specs.declared.mentions.Mention.TheVariants as mention
use Rattle.ds2_aliases.specs.declared.handings.Handing.{Handing}
use Rattle.ds2_aliases.specs.declared.parts.MethodParts.{MethodParts}
use Rattle.ds2_aliases.specs.declared.parts.UnitParts.{UnitParts}
use Rattle.ds2_aliases.specs.ReachingMethods.{reaches}

-- a name that is handed to a method, where nothing hides it
abbrev pub unhidden_handing : (List ℕ → Bool) → List ℕ → PlacedName → List Handing
unhidden_handing hidden method n = if hidden n.name then [] else record { method = method; name = n.name; place = n.place } ∷ []

-- the globals that a mention hands over
abbrev pub handings_in : (List ℕ → Bool) → Mention → List Handing
handings_in hidden (mention.Name n) = []
handings_in hidden (mention.Call n handed) = from_each (unhidden_handing hidden n) handed
handings_in hidden (mention.Object n handed) = []

-- the globals that a method hands over
abbrev pub handings_of_method : MethodParts → List Handing
handings_of_method m = from_each (handings_in (is_named m.locals)) m.mentions

-- the place of a global that is handed to a method that reaches it
abbrev pub reached_place : UnitParts → Handing → List Place
reached_place unit h = place_unless (not (reaches unit h.name (length unit.methods) h.method)) h.place

-- the second ones of two names that a mention hands over and that are one
abbrev pub repeated_in_mention : Mention → List Place
repeated_in_mention (mention.Name n) = []
repeated_in_mention (mention.Call n handed) = later_places handed
repeated_in_mention (mention.Object n handed) = later_places handed

-- the second ones of two names that one call in a method hands over and that are one
abbrev pub repeated_in_method : MethodParts → List Place
repeated_in_method m = from_each repeated_in_mention m.mentions

-- the earliest aliased argument of a unit: one that is handed over twice in a call, or a global that the called method reaches
abbrev pub aliased_by_parts : UnitParts → Option Place
aliased_by_parts unit =
    earlier_of (earliest (from_each repeated_in_method unit.methods)) (earliest (from_each (reached_place unit) (from_each handings_of_method unit.methods)))
