-- Names of a unit beyond a limit.
use Rattle.std.proofs.Common.{◌≡◌, Bool, true, false, not, List, [], ◌∷◌, ◌++◌, Option, Some, None, refl, sym, ap, ◌∙◌}
use Rattle.std.specs.Prelude.{if◌then◌else◌, bytes_eq, codes, map, filter}
use Rattle.ds2_base.specs.declared.place.Place.{Place}
use Rattle.ds2_tree.specs.declared.units.OutputTable as source_output
use Rattle.ds2_names.specs.NameRules.{from_each, place_unless, real_outputs}
use Rattle.ds2_names.specs.SourceUnit.{SourceNames, PlacedName, spelled_name, tables_of_reading, all_globals, vector_names}
use Rattle.ds2_names.specs.UnitRules.{beyond, places_of, too_many_names}
use Rattle.ds2_scope.specs.declared.unit_names.UnitNames.{UnitNames}
use Rattle.ds2_scope.specs.Earliest.{earlier_of, earliest}
use Rattle.ds2_given_names.specs.OutputParts.{is_null_output}
use Rattle.ds2_scope.specs.UnitNames.{NamesAre}
use Rattle.ds2_given_names.specs.TooMany.{input_place, real_place, global_places, too_many_locals, too_many_in_instance}
use Rattle.ds2_scope.proofs.EarliestLemmas.{earlier_of_assoc, earliest_append}

-- seven lists of places
seven : (a b c d e f g : List Place) → earliest (a ++ b ++ c ++ d ++ e ++ f ++ g)
    ≡ earlier_of (earlier_of (earlier_of (earliest a) (earliest b)) (earlier_of (earliest c) (earlier_of (earliest d) (earliest e)))) (earlier_of (earliest f) (earliest g))
seven a b c d e f g =
    earliest_append (a ++ b ++ c ++ d ++ e ++ f) g
    ∙ ap (λ x. earlier_of x (earliest g)) (earliest_append (a ++ b ++ c ++ d ++ e) f)
    ∙ earlier_of_assoc (earliest (a ++ b ++ c ++ d ++ e)) (earliest f) (earliest g)
    ∙ ap (λ x. earlier_of x (earlier_of (earliest f) (earliest g)))
    (earliest_append (a ++ b ++ c ++ d) e
    ∙ ap (λ x. earlier_of x (earliest e)) (earliest_append (a ++ b ++ c) d)
    ∙ earlier_of_assoc (earliest (a ++ b ++ c)) (earliest d) (earliest e)
    ∙ ap (λ x. earlier_of x (earlier_of (earliest d) (earliest e))) (earliest_append (a ++ b) c ∙ ap (λ x. earlier_of x (earliest c)) (earliest_append a b))
    ∙ earlier_of_assoc (earlier_of (earliest a) (earliest b)) (earliest c) (earlier_of (earliest d) (earliest e)))

places_append : (xs ys : List PlacedName) → places_of (xs ++ ys) ≡ places_of xs ++ places_of ys
places_append [] ys = refl
places_append (x ∷ xs) ys = ap (λ r. x.place ∷ r) (places_append xs ys)

real_places : (os : List source_output.OutputTable)
    → map (λ (o : source_output.OutputTable). o.table.place) (filter (λ (o : source_output.OutputTable). not (is_null_output o)) os) ≡ from_each real_place os
real_places [] = refl
real_places (o ∷ os) = by (is_null_output o) (real_places os)
  where
    rest : List source_output.OutputTable
    rest = filter (λ (x : source_output.OutputTable). not (is_null_output x)) os

    by : (t : Bool) → map (λ (x : source_output.OutputTable). x.table.place) rest ≡ from_each real_place os
        → map (λ (x : source_output.OutputTable). x.table.place) (if not t then o ∷ rest else rest) ≡ place_unless t o.table.place ++ from_each real_place os
    by true ih = ih
    by false ih = ap (λ r. o.table.place ∷ r) ih

module _ (names : SourceNames) (n : UnitNames) (h : NamesAre n names) where
  globals_at : places_of (all_globals names) ≡ places_of n.variables ++ places_of n.parameters ++ places_of n.flags ++ places_of n.instances
  globals_at =
      sym (λ i. places_of (h.variables i ++ h.parameters i ++ h.flags i ++ h.instances i))
      ∙ places_append (n.variables ++ n.parameters ++ n.flags) n.instances
      ∙ ap (λ ps. ps ++ places_of n.instances) (places_append (n.variables ++ n.parameters) n.flags ∙ ap (λ ps. ps ++ places_of n.flags) (places_append n.variables n.parameters))

  -- the limits of a unit, from the first name beyond each
  pub limits_are : (globals locals outputs inputs bys objects variables : Option Place)
      → globals ≡ earliest (beyond 1000 (global_places n)) → locals ≡ earliest (from_each too_many_locals names.methods)
      → outputs ≡ earliest (beyond 16 (from_each real_place names.outputs)) → inputs ≡ earliest (beyond 16 (map input_place (tables_of_reading names.reading)))
      → bys ≡ earliest (beyond 16 (places_of n.bys)) → objects ≡ earliest (beyond 64 (places_of n.instances)) → variables ≡ earliest (from_each too_many_in_instance names.instances)
      → earlier_of (earlier_of (earlier_of globals locals) (earlier_of outputs (earlier_of inputs bys))) (earlier_of objects variables) ≡ earliest (too_many_names names)
  limits_are globals locals outputs inputs bys objects variables g l o t b k v =
      (λ i. earlier_of (earlier_of (earlier_of (g i) (l i)) (earlier_of (o i) (earlier_of (t i) (b i)))) (earlier_of (k i) (v i)))
      ∙ sym (seven (beyond 1000 (global_places n)) (from_each too_many_locals names.methods) (beyond 16 (from_each real_place names.outputs))
      (beyond 16 (map input_place (tables_of_reading names.reading))) (beyond 16 (places_of n.bys)) (beyond 64 (places_of n.instances)) (from_each too_many_in_instance names.instances))
      ∙ sym (λ i. earliest (beyond 1000 (globals_at i ++ places_of (sym h.bys i) ++ places_of (sym h.bys i)) ++ from_each too_many_locals names.methods ++ beyond 16 (real_places names.outputs i)
      ++ beyond 16 (map input_place (tables_of_reading names.reading)) ++ beyond 16 (places_of (sym h.bys i)) ++ beyond 64 (places_of (sym h.instances i)) ++ from_each too_many_in_instance names.instances))
