-- Numbers of types and of threads, part by part.
use Rattle.std.proofs.Common.{◌≡◌, ℕ, List, [], ◌∷◌, ◌++◌, Option, Some, None, refl, sym, ap, ◌∙◌}
use Rattle.std.specs.Prelude.{map}
use Rattle.ds2_base.specs.declared.place.Place.{Place}
use Rattle.ds2_token.specs.declared.token.Token.{Token}
use Rattle.ds2_tree.specs.Globals.{Method, GlobalItem, Declared, Listed, Defined}
use Rattle.ds2_tree.specs.declared.globals.Declaration.TheVariants as declaration
use Rattle.ds2_tree.specs.declared.globals.Parameter as source_parameter
use Rattle.ds2_tree.specs.declared.globals.Scale.{Scale}
use Rattle.ds2_tree.specs.declared.globals.TypeName.{TypeName}
use Rattle.ds2_tree.specs.declared.globals.VariableDeclaration.{VariableDeclaration}
use Rattle.ds2_names.specs.NameRules.{from_each, place_unless, spelled_number}
use Rattle.ds2_names.specs.SourceUnit.{TableColumns, KnownUnit, UnitSource, variable_declarations, source_methods, names_of_unit}
use Rattle.ds2_names.specs.UnitRules.{is_between, bad_scale, bad_type_numbers, declared_types, returned_types, method_types, bad_numbers}
use Rattle.ds2_given_names.specs.TypeNumbers.{types_in, bad_in_types, bad_in_method, bad_in_reading, bad_numbers_by}
use Rattle.ds2_scope.specs.Earliest.{earlier_of, earliest}
use Rattle.ds2_scope.proofs.EachLemmas.{each_append, each_of_each}
use Rattle.ds2_scope.proofs.EarliestLemmas.{none_right, earlier_of_assoc, earliest_append}

pub decimal_parts : (precision : Token) (scale : Option Scale)
    → earliest (place_unless (is_between 1 38 (spelled_number precision)) precision.place ++ bad_scale (spelled_number precision) scale)
    ≡ earlier_of (earliest (place_unless (is_between 1 38 (spelled_number precision)) precision.place)) (earliest (bad_scale (spelled_number precision) scale))
decimal_parts precision scale = earliest_append (place_unless (is_between 1 38 (spelled_number precision)) precision.place) (bad_scale (spelled_number precision) scale)

both_types : (xs ys : List TypeName) → earliest (bad_in_types (xs ++ ys)) ≡ earlier_of (earliest (bad_in_types xs)) (earliest (bad_in_types ys))
both_types xs ys = ap earliest (each_append bad_type_numbers xs ys) ∙ earliest_append (bad_in_types xs) (bad_in_types ys)

pub method_parts : (m : Method) → earliest (bad_in_method m)
    ≡ earlier_of (earlier_of (earliest (bad_in_types (map (λ (p : source_parameter.Parameter). p.ty) m.parameters.list))) (earliest (bad_in_types (returned_types m.returns))))
    (earliest (bad_in_types (declared_types m.locals)))
method_parts m =
    let parameters = map (λ (p : source_parameter.Parameter). p.ty) m.parameters.list in
    both_types (parameters ++ returned_types m.returns) (declared_types m.locals)
    ∙ ap (λ x. earlier_of x (earliest (bad_in_types (declared_types m.locals)))) (both_types parameters (returned_types m.returns))

pub one_more_type : (found : Option Place) (g : GlobalItem) (gs : List GlobalItem)
    → earlier_of (earlier_of found (earliest (bad_in_types (types_in g)))) (earliest (bad_in_types (declared_types (variable_declarations gs))))
    ≡ earlier_of found (earliest (bad_in_types (declared_types (variable_declarations (g ∷ gs)))))
one_more_type found (Declared (declaration.Variables v)) gs =
    earlier_of_assoc found (earliest (bad_in_types (v.ty ∷ []))) (earliest (bad_in_types (declared_types (variable_declarations gs))))
    ∙ ap (earlier_of found) (sym (both_types (v.ty ∷ []) (declared_types (variable_declarations gs))))
one_more_type found (Declared (declaration.Instance a b c d e f)) gs = ap (λ x. earlier_of x (earliest (bad_in_types (declared_types (variable_declarations gs))))) (none_right found)
one_more_type found (Declared (declaration.Hash a b c d e f g h i j k)) gs = ap (λ x. earlier_of x (earliest (bad_in_types (declared_types (variable_declarations gs))))) (none_right found)
one_more_type found (Declared (declaration.Hiter a b c d e f g h)) gs = ap (λ x. earlier_of x (earliest (bad_in_types (declared_types (variable_declarations gs))))) (none_right found)
one_more_type found (Declared (declaration.Thread a b c d e)) gs = ap (λ x. earlier_of x (earliest (bad_in_types (declared_types (variable_declarations gs))))) (none_right found)
one_more_type found (Listed keyword names end) gs = ap (λ x. earlier_of x (earliest (bad_in_types (declared_types (variable_declarations gs))))) (none_right found)
one_more_type found (Defined m) gs = ap (λ x. earlier_of x (earliest (bad_in_types (declared_types (variable_declarations gs))))) (none_right found)

pub numbers_in_order : (u : UnitSource) → earliest (bad_numbers_by u)
    ≡ earlier_of (earlier_of (earlier_of (earliest (bad_in_types (declared_types (variable_declarations u.globals)))) (earliest (bad_in_types (map (λ (p : source_parameter.Parameter). p.ty) u.parameters))))
    (earliest (from_each bad_in_method (source_methods u.globals))))
    (earliest (from_each bad_in_reading (source_methods u.globals)))
numbers_in_order u =
    let variables = bad_in_types (declared_types (variable_declarations u.globals)) in
    let parameters = bad_in_types (map (λ (p : source_parameter.Parameter). p.ty) u.parameters) in
    let methods = from_each bad_in_method (source_methods u.globals) in
    let readings = from_each bad_in_reading (source_methods u.globals) in
    earliest_append (variables ++ parameters ++ methods) readings
    ∙ ap (λ x. earlier_of x (earliest readings)) (earliest_append (variables ++ parameters) methods ∙ ap (λ x. earlier_of x (earliest methods)) (earliest_append variables parameters))

-- the numbers of a unit are those of its parts
pub numbers_are : (tables : TableColumns) (known : List KnownUnit) (u : UnitSource) → bad_numbers (names_of_unit tables known u) ≡ bad_numbers_by u
numbers_are tables known u =
    let declared = declared_types (variable_declarations u.globals) in
    let parameters = map (λ (p : source_parameter.Parameter). p.ty) u.parameters in
    let methods = from_each method_types (source_methods u.globals) in
    let readings = from_each bad_in_reading (source_methods u.globals) in
    ap (λ r. r ++ readings)
    (each_append bad_type_numbers (declared ++ parameters) methods
    ∙ (λ i. each_append bad_type_numbers declared parameters i ++ sym (each_of_each bad_type_numbers method_types (source_methods u.globals)) i))
