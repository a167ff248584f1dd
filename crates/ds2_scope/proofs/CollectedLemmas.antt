-- What one part more of a unit gives names to.
use Rattle.std.proofs.Common.{◌≡◌, List, [], ◌∷◌, ◌++◌, Option, Some, None, refl, sym, ap, ◌∙◌}
use Rattle.std.specs.Prelude.{map}
use Rattle.ds2_base.specs.declared.place.Place.{Place}
use Rattle.ds2_tree.specs.Globals.{Method, GlobalItem, Declared, Listed, Defined}
use Rattle.ds2_tree.specs.declared.globals.Declaration.TheVariants as declaration
use Rattle.ds2_tree.specs.declared.readings.Input as source_input
use Rattle.ds2_tree.specs.declared.readings.InputFlag.{InputFlag}
use Rattle.ds2_names.specs.NameRules.{from_each}
use Rattle.ds2_names.specs.SourceUnit.{PlacedName, declared_names, variable_declarations, source_methods, source_instances, flag_names}
use Rattle.std.proofs.lemmas.List.{map-append}
use Rattle.ds2_scope.specs.CodeUnits.{source_instance, instances_in_source}
use Rattle.ds2_scope.specs.Collected.{declared_in, methods_in, instances_in, flags_in}
use Rattle.ds2_scope.specs.declared.instances.Instance.{Instance}
use Rattle.ds2_scope.specs.Earliest.{earlier_of, earliest}
use Rattle.ds2_scope.proofs.EarliestLemmas.{none_right, earlier_of_assoc, earliest_append}

pub declared_item : (g : GlobalItem) (gs : List GlobalItem) → declared_names (variable_declarations (g ∷ gs)) ≡ declared_in g ++ declared_names (variable_declarations gs)
declared_item (Declared (declaration.Variables v)) gs = refl
declared_item (Declared (declaration.Instance a b c d e f)) gs = refl
declared_item (Declared (declaration.Hash a b c d e f g h i j k)) gs = refl
declared_item (Declared (declaration.Hiter a b c d e f g h)) gs = refl
declared_item (Declared (declaration.Thread a b c d e)) gs = refl
declared_item (Listed keyword names end) gs = refl
declared_item (Defined m) gs = refl

pub instances_item : (g : GlobalItem) (gs : List GlobalItem) → source_instances (g ∷ gs) ≡ instances_in g ++ source_instances gs
instances_item (Declared (declaration.Variables v)) gs = refl
instances_item (Declared (declaration.Instance a b c d e f)) gs = refl
instances_item (Declared (declaration.Hash a b c d e f g h i j k)) gs = refl
instances_item (Declared (declaration.Hiter a b c d e f g h)) gs = refl
instances_item (Declared (declaration.Thread a b c d e)) gs = refl
instances_item (Listed keyword names end) gs = refl
instances_item (Defined m) gs = refl

-- one instance more, behind others
pub instance_added : (is : List Instance) (i : Instance) → instances_in_source (is ++ i ∷ []) ≡ instances_in_source is ++ source_instance i ∷ []
instance_added is i = map-append source_instance is (i ∷ [])

pub methods_item : (g : GlobalItem) (gs : List GlobalItem) → source_methods (g ∷ gs) ≡ methods_in g ++ source_methods gs
methods_item (Declared d) gs = refl
methods_item (Listed keyword names end) gs = refl
methods_item (Defined m) gs = refl

pub one_more_item : {A : Type 0} (f : A → List Place) (found : Option Place) (x : A) (xs : List A)
    → earlier_of (earlier_of found (earliest (f x))) (earliest (from_each f xs)) ≡ earlier_of found (earliest (from_each f (x ∷ xs)))
one_more_item f found x xs =
    earlier_of_assoc found (earliest (f x)) (earliest (from_each f xs)) ∙ ap (earlier_of found) (sym (earliest_append (f x) (from_each f xs)))

pub one_more_global : (f : Method → List Place) (found : Option Place) (g : GlobalItem) (gs : List GlobalItem)
    → earlier_of (earlier_of found (earliest (from_each f (methods_in g)))) (earliest (from_each f (source_methods gs))) ≡ earlier_of found (earliest (from_each f (source_methods (g ∷ gs))))
one_more_global f found (Declared d) gs = ap (λ x. earlier_of x (earliest (from_each f (source_methods gs)))) (none_right found)
one_more_global f found (Listed keyword names end) gs = ap (λ x. earlier_of x (earliest (from_each f (source_methods gs)))) (none_right found)
one_more_global f found (Defined m) gs =
    ap (λ x. earlier_of (earlier_of found x) (earliest (from_each f (source_methods gs)))) (earliest_append (f m) [] ∙ none_right (earliest (f m)))
    ∙ one_more_item f found m (source_methods gs)

pub flags_item : (i : source_input.Input) (is : List source_input.Input) → flag_names (i ∷ is) ≡ flags_in i ++ flag_names is
flags_item i is = by i.flag
  where
    by : (flag : Option InputFlag) → flag_names (record i { flag = flag } ∷ is) ≡ flag_names (record i { flag = flag } ∷ []) ++ flag_names is
    by None = refl
    by (Some flag) = refl
