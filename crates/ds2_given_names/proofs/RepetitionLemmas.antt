-- Names that a unit gives twice.
use Rattle.std.proofs.Common.{◌≡◌, List, [], ◌∷◌, ◌++◌, Option, Some, None, refl, sym, ap, ◌∙◌, append_assoc}
use Rattle.std.specs.Prelude.{map}
use Rattle.ds2_base.specs.declared.place.Place.{Place}
use Rattle.ds2_tree.specs.declared.units.OutputTable as source_output
use Rattle.ds2_names.specs.NameRules.{from_each, later_places, output_names, renamed_twice, duplicate_unit, duplicate_names}
use Rattle.ds2_names.specs.SourceUnit.{UnitSource, SourceNames, PlacedName, source_methods, all_globals}
use Rattle.ds2_scope.specs.Collected.{method_name, repeated_locals}
use Rattle.ds2_scope.specs.declared.unit_names.UnitNames.{UnitNames}
use Rattle.ds2_scope.specs.Earliest.{earlier_of, earliest}
use Rattle.ds2_given_names.specs.OutputParts.{clashing_in}
use Rattle.ds2_scope.specs.UnitNames.{NamesAre}
use Rattle.ds2_given_names.specs.Repetitions.{globals_listed, repeated_parts}
use Rattle.ds2_scope.proofs.EarliestLemmas.{earlier_of_assoc, earliest_append}
use Rattle.ds2_given_names.proofs.OutputLemmas.{real_clashes}

pub repeated_in_order : (n : UnitNames) (u : UnitSource)
    → earliest (repeated_parts n u)
    ≡ earlier_of (earlier_of (earliest (later_places (globals_listed n))) (earlier_of (earliest (later_places n.bys)) (earliest (later_places (map method_name (source_methods u.globals))))))
    (earlier_of (earliest (from_each repeated_locals (source_methods u.globals))) (earlier_of (earliest (later_places n.outputs)) (earliest (from_each renamed_twice u.outputs))))
repeated_in_order n u =
    let a = later_places (globals_listed n) in
    let b = later_places n.bys in
    let c = later_places (map method_name (source_methods u.globals)) in
    let d = from_each repeated_locals (source_methods u.globals) in
    let e = later_places n.outputs in
    let f = from_each renamed_twice u.outputs in
    earliest_append (((((a ++ b) ++ c) ++ d) ++ e)) f
    ∙ ap (λ x. earlier_of x (earliest f)) (earliest_append ((((a ++ b) ++ c) ++ d)) e)
    ∙ earlier_of_assoc (earliest (((a ++ b) ++ c) ++ d)) (earliest e) (earliest f)
    ∙ ap (λ x. earlier_of x (earlier_of (earliest e) (earliest f))) (earliest_append ((a ++ b) ++ c) d)
    ∙ earlier_of_assoc (earliest ((a ++ b) ++ c)) (earliest d) (earlier_of (earliest e) (earliest f))
    ∙ ap (λ x. earlier_of x (earlier_of (earliest d) (earlier_of (earliest e) (earliest f))))
    (earliest_append (a ++ b) c ∙ ap (λ x. earlier_of x (earliest c)) (earliest_append a b) ∙ earlier_of_assoc (earliest a) (earliest b) (earliest c))

-- places before six lists of places
before_six : (x a b c d e f : List Place) → x ++ a ++ b ++ c ++ d ++ e ++ f ≡ x ++ (a ++ b ++ c ++ d ++ e ++ f)
before_six x a b c d e f =
    ap (λ y. y ++ c ++ d ++ e ++ f) (append_assoc x a b)
    ∙ ap (λ y. y ++ d ++ e ++ f) (append_assoc x (a ++ b) c)
    ∙ ap (λ y. y ++ e ++ f) (append_assoc x (a ++ b ++ c) d)
    ∙ ap (λ y. y ++ f) (append_assoc x (a ++ b ++ c ++ d) e)
    ∙ append_assoc x (a ++ b ++ c ++ d ++ e) f

module _ (names : SourceNames) (u : UnitSource) (n : UnitNames) (same : names.unit ≡ u) (methods : names.methods ≡ source_methods u.globals) (outputs : names.outputs ≡ u.outputs) where
  -- the names that a unit gives twice
  pub duplicates_are : NamesAre n names → earliest (duplicate_names names)
      ≡ earlier_of (earlier_of (earliest (duplicate_unit names.known u.name)) (earliest (repeated_parts n u))) (earliest (from_each (clashing_in names) u.outputs))
  duplicates_are h =
      let own = duplicate_unit names.known u.name in
      let clash = from_each (clashing_in names) u.outputs in
      ap earliest
      ((λ i. duplicate_unit names.known (same i).name ++ later_places (all_globals names) ++ later_places names.bys ++ later_places (map method_name (methods i)) ++ from_each repeated_locals (methods i)
      ++ later_places (output_names names) ++ from_each renamed_twice (outputs i) ++ real_clashes names (outputs i) i)
      ∙ sym (λ i. own ++ later_places (h.variables i ++ h.parameters i ++ h.flags i ++ h.instances i) ++ later_places (h.bys i) ++ later_places (map method_name (source_methods u.globals))
      ++ from_each repeated_locals (source_methods u.globals) ++ later_places (h.outputs i) ++ from_each renamed_twice u.outputs ++ clash)
      ∙ ap (λ x. x ++ clash)
      (before_six own (later_places (globals_listed n)) (later_places n.bys) (later_places (map method_name (source_methods u.globals)))
      (from_each repeated_locals (source_methods u.globals)) (later_places n.outputs) (from_each renamed_twice u.outputs)))
      ∙ earliest_append (own ++ repeated_parts n u) clash
      ∙ ap (λ x. earlier_of x (earliest clash)) (earliest_append own (repeated_parts n u))
