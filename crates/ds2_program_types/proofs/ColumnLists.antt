-- What columns break, as lists of places and of rules.
use Rattle.std.proofs.Common.{◌≡◌, List, [], ◌∷◌, ◌++◌, Option, refl, sym, ap, ◌∙◌}
use Rattle.ds2_elaboration.specs.UnitsBefore.{UnitsBefore}
use Rattle.ds2_base.specs.declared.place.Place.{Place}
use Rattle.ds2_base.specs.declared.place.Refusal.{Refusal}
use Rattle.ds2_elaboration.specs.Typings.{TypeRefusals}
use Rattle.ds2_meaning.specs.declared.refusals.TypeKind.{TypeKind}
use Rattle.ds2_meaning.specs.declared.refusals.TypeKind.TheVariants.{TypeClash}
use Rattle.ds2_names.specs.NameRules.{from_each}
use Rattle.ds2_names.specs.Refusals.{broken_at}
use Rattle.ds2_names.specs.SourceUnit.{TableColumns, PlacedName, UnitSource}
use Rattle.ds2_meaning.specs.IsTyped.{type_in}
use Rattle.ds2_meaning.specs.declared.globals.Variable.{Variable}
use Rattle.ds2_elaboration.specs.SourceTypes.{clashing_at, clashing_tables, program_variables, unit_names}
use Rattle.ds2_types.specs.Judgements.{first_type_refusal, lesser_refusal}
use Rattle.ds2_types.proofs.RefusalOrder.{least_append}
use Rattle.ds2_program_types.specs.MethodRules.{column_rules}
use Rattle.ds2_program_types.proofs.RuleLists.{given_of}

broken_append : (xs ys : List Place) → broken_at TypeClash (xs ++ ys) ≡ broken_at TypeClash xs ++ broken_at TypeClash ys
broken_append [] ys = refl
broken_append (x ∷ xs) ys = ap (λ (l : TypeRefusals). record { kind = TypeClash; place = x } ∷ l) (broken_append xs ys)

-- the rules at the places of parts
pub broken_each : {S : Type 0} (places : S → List Place) (xs : List S) → broken_at TypeClash (from_each places xs) ≡ from_each (λ (x : S). broken_at TypeClash (places x)) xs
broken_each places [] = refl
broken_each {S} places (x ∷ xs) =
    broken_append (places x) (from_each places xs) ∙ ap (λ (l : TypeRefusals). broken_at TypeClash (places x) ++ l) (broken_each places xs)

-- the rules of declared columns and of the others
pub broken_both : {S T : Type 0} (of_declared : S → List Place) (of_others : T → List Place) (xs : List S) (ys : List T)
    → broken_at TypeClash (from_each of_declared xs ++ from_each of_others ys)
    ≡ from_each (λ (x : S). broken_at TypeClash (of_declared x)) xs ++ from_each (λ (y : T). broken_at TypeClash (of_others y)) ys
broken_both {S} {T} of_declared of_others xs ys =
    broken_append (from_each of_declared xs) (from_each of_others ys)
    ∙ ap (λ (l : TypeRefusals). l ++ broken_at TypeClash (from_each of_others ys)) (broken_each of_declared xs)
    ∙ ap (λ (l : TypeRefusals). from_each (λ (x : S). broken_at TypeClash (of_declared x)) xs ++ l) (broken_each of_others ys)

module _ (tables : TableColumns) (before : UnitsBefore) (u : UnitSource) where
  -- the places at which columns break rules
  abbrev pub clashes_of : List Variable → List PlacedName → List Place
  clashes_of declared columns =
      from_each (λ (v : Variable). clashing_at tables before u (type_in declared v.name) v.name) declared
      ++ from_each (λ (n : PlacedName). clashing_at tables before u (type_in declared n.name) n.name) columns

  -- the broken rule that is given of columns
  pub columns_ruled : (declared : List Variable) (columns : List PlacedName) (first second result : Option (Refusal TypeKind)) → declared ≡ program_variables u
      → columns ≡ (unit_names tables before u).columns → first ≡ given_of (λ (v : Variable). column_rules tables before u declared v.name) declared
      → second ≡ given_of (λ (n : PlacedName). column_rules tables before u declared n.name) columns → result ≡ lesser_refusal first second
      → result ≡ first_type_refusal (broken_at TypeClash (clashing_tables tables before u))
  columns_ruled declared columns first second result d k f s r =
      r ∙ ap (λ (o : Option (Refusal TypeKind)). lesser_refusal o second) f ∙ ap (lesser_refusal (given_of (λ (v : Variable). column_rules tables before u declared v.name) declared)) s
      ∙ sym
      (least_append (from_each (λ (v : Variable). column_rules tables before u declared v.name) declared) (from_each (λ (n : PlacedName). column_rules tables before u declared n.name) columns))
      ∙ sym
      (ap first_type_refusal
      (broken_both (λ (v : Variable). clashing_at tables before u (type_in declared v.name) v.name) (λ (n : PlacedName). clashing_at tables before u (type_in declared n.name) n.name) declared columns))
      ∙ ap (λ (vs : List Variable). first_type_refusal (broken_at TypeClash (clashes_of vs columns))) d
      ∙ ap (λ (ns : List PlacedName). first_type_refusal (broken_at TypeClash (clashes_of (program_variables u) ns))) k
