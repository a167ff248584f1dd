-- What holds of a unit that breaks no rule of names.
use Rattle.std.proofs.Common.{◌≡◌, ℕ, nat_le, nat_lt, bytes_eq, codes, cond, Bool, true, false, List, [], ◌∷◌, ◌++◌, length, map, filter, find, position, slice_get, unwrap_or, if◌then◌else◌, Option, Some, None, option_map, refl, sym, ap, ◌∙◌, subst, true≢false, arith}
use Rattle.std.specs.List.{position_or_len, AllByRecursion}
use Rattle.std.proofs.lemmas.Bool.{and_from, le-leb, lt-ltb}
use Rattle.std.proofs.lemmas.List.Folds.{find_at}
use Rattle.std.proofs.lemmas.Option.{slice_get-map, slice_get_within}
use Rattle.ds2_base.specs.declared.place.Place.{Place}
use Rattle.ds2_token.specs.Words.{is_word}
use Rattle.ds2_token.specs.declared.token.Token.{Token}
use Rattle.ds2_tree.specs.Globals.{Method}
use Rattle.ds2_tree.specs.declared.globals.Parameter as source_parameter
use Rattle.ds2_tree.specs.declared.globals.Returns.{Returns}
use Rattle.ds2_tree.specs.declared.globals.Scale.{Scale}
use Rattle.ds2_tree.specs.declared.globals.TypeName.{TypeName}
use Rattle.ds2_tree.specs.declared.globals.TypeName.TheVariants as type_name
use Rattle.ds2_tree.specs.declared.globals.VariableDeclaration.{VariableDeclaration}
use Rattle.ds2_value.specs.Types.{in_bounds}
use Rattle.ds2_value.specs.declared.ty.Ty.{Ty}
use Rattle.ds2_value.specs.declared.ty.Ty.TheVariants.{Char, Varchar}
use Rattle.ds2_meaning.specs.declared.globals.Variable as typed
use Rattle.ds2_meaning.specs.declared.methods.Parameter as typed_parameter
use Rattle.ds2_meaning.specs.declared.refusals.ScopeKind.TheVariants as kind
use Rattle.ds2_meaning.specs.IsTyped.{type_in, with_parameters_of, AreInBounds}
use Rattle.ds2_names.specs.NameRules.{from_each, place_unless, spelled_number, later_places, renamed_twice, output_names, clashing_columns, real_outputs, duplicate_unit, unknown_names, duplicate_names, unknown_methods, wrong_counts, not_variables, aliased_arguments}
use Rattle.ds2_names.specs.Refusals.{broken_at}
use Rattle.ds2_names.specs.SourceUnit.{TableColumns, spelled_name, placed_name, local_names, SourceNames, all_globals}
use Rattle.ds2_names.specs.UnitRules.{too_many_names, is_between, bad_scale, bad_type_numbers, declared_types, returned_types, method_types, bad_numbers, misplaced, no_columns, broken_name_rules}
use Rattle.ds2_names.specs.Uses.{method_named}
use Rattle.ds2_elaboration.specs.SourceTypes.{scale_or_zero, spelled_type, declared_variables, elaborated_parameter, elaborated_parameters, variables_in_method, returned_type}
use Rattle.ds2_elaboration.specs.TypedScopes.{IsBoundedIfAny}
use Rattle.ds2_elaboration.proofs.Outcome.{both_empty, unplaced}

-- ---- lists of refusals

pub nowhere : {K : Type 0} (kind : K) (places : List Place) → broken_at kind places ≡ [] → places ≡ []
nowhere kind [] h = refl
nowhere kind (p ∷ places) h = cc

pub each_empty : {A B : Type 0} (f : A → List B) (xs : List A) → from_each f xs ≡ [] → AllByRecursion (λ (x : A). f x ≡ []) xs
each_empty f [] h = tt
each_empty f (x ∷ xs) h = let p = both_empty (f x) (from_each f xs) h in (p.0, each_empty f xs p.1)

pub halves_empty : {A B : Type 0} (f : A → List B) (xs ys : List A) → from_each f (xs ++ ys) ≡ [] → (from_each f xs ≡ []) × (from_each f ys ≡ [])
halves_empty f [] ys h = (refl, h)
halves_empty f (x ∷ xs) ys h =
    let p = both_empty (f x) (from_each f (xs ++ ys)) h in
    let q = halves_empty f xs ys p.1 in
    (ap (λ zs. zs ++ from_each f xs) p.0 ∙ q.0, q.1)

pub nested_empty : {A B C : Type 0} (f : B → List C) (g : A → List B) (xs : List A) → from_each f (from_each g xs) ≡ []
    → AllByRecursion (λ (x : A). from_each f (g x) ≡ []) xs
nested_empty f g [] h = tt
nested_empty f g (x ∷ xs) h = let p = halves_empty f (g x) (from_each g xs) h in (p.0, nested_empty f g xs p.1)

pub both_all : {A : Type 0} (P Q : A → Type 0) (xs : List A) → AllByRecursion P xs → AllByRecursion Q xs → AllByRecursion (λ (x : A). P x × Q x) xs
both_all P Q [] f g = tt
both_all P Q (x ∷ xs) f g = ((f.0, g.0), both_all P Q xs f.1 g.1)

pub each_of : {A : Type 0} (P Q : A → Type 0) → ((x : A) → P x → Q x) → (xs : List A) → AllByRecursion P xs → AllByRecursion Q xs
each_of P Q f [] h = tt
each_of P Q f (x ∷ xs) h = (f x h.0, each_of P Q f xs h.1)

-- no rule of names is broken
pub record NamesHold (tables : TableColumns) (names : SourceNames) : Type 0 where
  pub unknown : unknown_names tables names ≡ []
  pub duplicate : duplicate_names names ≡ []
  pub variables : not_variables names ≡ []
  pub too_many : too_many_names names ≡ []
  pub numbers : bad_numbers names ≡ []
  pub places : misplaced names ≡ []
  pub columns : no_columns names ≡ []

pub names_hold : (tables : TableColumns) (names : SourceNames) → broken_name_rules tables names ≡ [] → NamesHold tables names
names_hold tables names h =
    let p9 = both_empty (broken_at kind.UnknownName (unknown_names tables names) ++ broken_at kind.DuplicateName (duplicate_names names) ++ broken_at kind.UnknownMethod (unknown_methods names) ++ broken_at kind.WrongCount (wrong_counts names) ++ broken_at kind.NotVariable (not_variables names) ++ broken_at kind.AliasedArgument (aliased_arguments names) ++ broken_at kind.TooManyNames (too_many_names names) ++ broken_at kind.BadNumber (bad_numbers names) ++ broken_at kind.Misplaced (misplaced names)) (broken_at kind.NoColumns (no_columns names)) h in
    let p8 = both_empty (broken_at kind.UnknownName (unknown_names tables names) ++ broken_at kind.DuplicateName (duplicate_names names) ++ broken_at kind.UnknownMethod (unknown_methods names) ++ broken_at kind.WrongCount (wrong_counts names) ++ broken_at kind.NotVariable (not_variables names) ++ broken_at kind.AliasedArgument (aliased_arguments names) ++ broken_at kind.TooManyNames (too_many_names names) ++ broken_at kind.BadNumber (bad_numbers names)) (broken_at kind.Misplaced (misplaced names)) p9.0 in
    let p7 = both_empty (broken_at kind.UnknownName (unknown_names tables names) ++ broken_at kind.DuplicateName (duplicate_names names) ++ broken_at kind.UnknownMethod (unknown_methods names) ++ broken_at kind.WrongCount (wrong_counts names) ++ broken_at kind.NotVariable (not_variables names) ++ broken_at kind.AliasedArgument (aliased_arguments names) ++ broken_at kind.TooManyNames (too_many_names names)) (broken_at kind.BadNumber (bad_numbers names)) p8.0 in
    let p6 = both_empty (broken_at kind.UnknownName (unknown_names tables names) ++ broken_at kind.DuplicateName (duplicate_names names) ++ broken_at kind.UnknownMethod (unknown_methods names) ++ broken_at kind.WrongCount (wrong_counts names) ++ broken_at kind.NotVariable (not_variables names) ++ broken_at kind.AliasedArgument (aliased_arguments names)) (broken_at kind.TooManyNames (too_many_names names)) p7.0 in
    let p5 = both_empty (broken_at kind.UnknownName (unknown_names tables names) ++ broken_at kind.DuplicateName (duplicate_names names) ++ broken_at kind.UnknownMethod (unknown_methods names) ++ broken_at kind.WrongCount (wrong_counts names) ++ broken_at kind.NotVariable (not_variables names)) (broken_at kind.AliasedArgument (aliased_arguments names)) p6.0 in
    let p4 = both_empty (broken_at kind.UnknownName (unknown_names tables names) ++ broken_at kind.DuplicateName (duplicate_names names) ++ broken_at kind.UnknownMethod (unknown_methods names) ++ broken_at kind.WrongCount (wrong_counts names)) (broken_at kind.NotVariable (not_variables names)) p5.0 in
    let p3 = both_empty (broken_at kind.UnknownName (unknown_names tables names) ++ broken_at kind.DuplicateName (duplicate_names names) ++ broken_at kind.UnknownMethod (unknown_methods names)) (broken_at kind.WrongCount (wrong_counts names)) p4.0 in
    let p2 = both_empty (broken_at kind.UnknownName (unknown_names tables names) ++ broken_at kind.DuplicateName (duplicate_names names)) (broken_at kind.UnknownMethod (unknown_methods names)) p3.0 in
    let p1 = both_empty (broken_at kind.UnknownName (unknown_names tables names)) (broken_at kind.DuplicateName (duplicate_names names)) p2.0 in
    record {
      unknown = nowhere kind.UnknownName (unknown_names tables names) p1.0;
      duplicate = nowhere kind.DuplicateName (duplicate_names names) p1.1;
      variables = nowhere kind.NotVariable (not_variables names) p4.1;
      too_many = nowhere kind.TooManyNames (too_many_names names) p6.1;
      numbers = nowhere kind.BadNumber (bad_numbers names) p7.1;
      places = nowhere kind.Misplaced (misplaced names) p8.1;
      columns = nowhere kind.NoColumns (no_columns names) p9.1;
    }

-- no name is given twice
pub record NamesOnce (names : SourceNames) : Type 0 where
  pub globals : later_places (all_globals names) ≡ []
  pub locals : from_each (λ (m : Method). later_places (local_names m)) names.methods ≡ []
  pub outputs : later_places (output_names names) ≡ []
  pub renamed : from_each renamed_twice names.outputs ≡ []
  pub columns : from_each (clashing_columns names) (real_outputs names) ≡ []

pub names_once : (names : SourceNames) → duplicate_names names ≡ [] → NamesOnce names
names_once names h =
    let p7 = both_empty (duplicate_unit names.known names.unit.name ++ later_places (all_globals names) ++ later_places names.bys ++ later_places (map (λ (m : Method). placed_name m.name) names.methods) ++ from_each (λ (m : Method). later_places (local_names m)) names.methods ++ later_places (output_names names) ++ from_each renamed_twice names.outputs) (from_each (clashing_columns names) (real_outputs names)) h in
    let p6 = both_empty (duplicate_unit names.known names.unit.name ++ later_places (all_globals names) ++ later_places names.bys ++ later_places (map (λ (m : Method). placed_name m.name) names.methods) ++ from_each (λ (m : Method). later_places (local_names m)) names.methods ++ later_places (output_names names)) (from_each renamed_twice names.outputs) p7.0 in
    let p5 = both_empty (duplicate_unit names.known names.unit.name ++ later_places (all_globals names) ++ later_places names.bys ++ later_places (map (λ (m : Method). placed_name m.name) names.methods) ++ from_each (λ (m : Method). later_places (local_names m)) names.methods) (later_places (output_names names)) p6.0 in
    let p4 = both_empty (duplicate_unit names.known names.unit.name ++ later_places (all_globals names) ++ later_places names.bys ++ later_places (map (λ (m : Method). placed_name m.name) names.methods)) (from_each (λ (m : Method). later_places (local_names m)) names.methods) p5.0 in
    let p3 = both_empty (duplicate_unit names.known names.unit.name ++ later_places (all_globals names) ++ later_places names.bys) (later_places (map (λ (m : Method). placed_name m.name) names.methods)) p4.0 in
    let p2 = both_empty (duplicate_unit names.known names.unit.name ++ later_places (all_globals names)) (later_places names.bys) p3.0 in
    let p1 = both_empty (duplicate_unit names.known names.unit.name) (later_places (all_globals names)) p2.0 in
    record { globals = p1.1; locals = p4.1; outputs = p5.1; renamed = p6.1; columns = p7.1 }

-- ---- types in bounds

scale_bound : (precision : ℕ) (scale : Option Scale) → bad_scale precision scale ≡ [] → nat_le (scale_or_zero scale) precision ≡ true
scale_bound precision None h = le-leb 0 precision (omega arith)
scale_bound precision (Some scale) h = unplaced (nat_le (spelled_number scale.number) precision) scale.number.place h

text_bound : (b : Bool) (width : ℕ) → is_between 1 1024 width ≡ true → in_bounds (if b then Char width else Varchar width) ≡ true
text_bound true width h = h
text_bound false width h = h

pub spelled_bounds : (ty : TypeName) → bad_type_numbers ty ≡ [] → in_bounds (spelled_type ty) ≡ true
spelled_bounds (type_name.BigInt keyword) h = refl
spelled_bounds (type_name.Decimal keyword opening precision scale closing) h =
    let digits = spelled_number precision in
    let p = both_empty (place_unless (is_between 1 38 digits) precision.place) (bad_scale digits scale) h in
    and_from (is_between 1 38 digits) (nat_le (scale_or_zero scale) digits) (unplaced (is_between 1 38 digits) precision.place p.0) (scale_bound digits scale p.1)
spelled_bounds (type_name.Text keyword opening width closing) h =
    text_bound (is_word (codes "char") keyword) (spelled_number width) (unplaced (is_between 1 1024 (spelled_number width)) width.place h)

pub bounds_append : (xs ys : List typed.Variable) → AreInBounds xs → AreInBounds ys → AreInBounds (xs ++ ys)
bounds_append [] ys f g = g
bounds_append (x ∷ xs) ys f g = (f.0, bounds_append xs ys f.1 g)

named_bounds : (ty : Ty) → in_bounds ty ≡ true → (names : List Token)
    → AreInBounds (map (λ (t : Token). record { name = spelled_name t; ty = ty }) names)
named_bounds ty h [] = tt
named_bounds ty h (t ∷ names) = (h, named_bounds ty h names)

pub declared_bounds : (declarations : List VariableDeclaration) → from_each bad_type_numbers (declared_types declarations) ≡ []
    → AreInBounds (declared_variables declarations)
declared_bounds [] h = tt
declared_bounds (v ∷ declarations) h =
    let p = both_empty (bad_type_numbers v.ty) (from_each bad_type_numbers (declared_types declarations)) h in
    bounds_append (map (λ (t : Token). record { name = spelled_name t; ty = spelled_type v.ty }) v.names) (declared_variables declarations)
    (named_bounds (spelled_type v.ty) (spelled_bounds v.ty p.0) v.names) (declared_bounds declarations p.1)

-- the types of parameters are in bounds
abbrev pub AreBoundedParameters : List typed_parameter.Parameter → Type 0
AreBoundedParameters ps = AllByRecursion (λ (p : typed_parameter.Parameter). in_bounds p.ty ≡ true) ps

parameter_bounds : (ps : List source_parameter.Parameter) → from_each bad_type_numbers (map (λ (p : source_parameter.Parameter). p.ty) ps) ≡ []
    → AreBoundedParameters (map elaborated_parameter ps)
parameter_bounds [] h = tt
parameter_bounds (p ∷ ps) h =
    let q = both_empty (bad_type_numbers p.ty) (from_each bad_type_numbers (map (λ (x : source_parameter.Parameter). x.ty) ps)) h in
    (spelled_bounds p.ty q.0, parameter_bounds ps q.1)

with_parameters_bounds : (ps : List typed_parameter.Parameter) (variables : List typed.Variable) → AreBoundedParameters ps → AreInBounds variables
    → AreInBounds (with_parameters_of ps variables)
with_parameters_bounds [] variables f g = g
with_parameters_bounds (p ∷ ps) variables f g = (f.0, with_parameters_bounds ps variables f.1 g)

result_bound : (returns : Option Returns) → from_each bad_type_numbers (returned_types returns) ≡ [] → IsBoundedIfAny (returned_type returns)
result_bound None h = tt
result_bound (Some returns) h = spelled_bounds returns.ty (both_empty (bad_type_numbers returns.ty) [] h).0

-- the types of a method are in bounds
pub record MethodBounds (m : Method) : Type 0 where
  pub parameters : AreBoundedParameters (elaborated_parameters m)
  pub locals : AreInBounds (variables_in_method m)
  pub result : IsBoundedIfAny (returned_type m.returns)

pub method_bounds : (m : Method) → from_each bad_type_numbers (method_types m) ≡ [] → MethodBounds m
method_bounds m h =
    let parameters = map (λ (p : source_parameter.Parameter). p.ty) m.parameters.list in
    let p = halves_empty bad_type_numbers (parameters ++ returned_types m.returns) (declared_types m.locals) h in
    let q = halves_empty bad_type_numbers parameters (returned_types m.returns) p.0 in
    let own = parameter_bounds m.parameters.list q.0 in
    record {
      parameters = own;
      locals = with_parameters_bounds (elaborated_parameters m) (declared_variables m.locals) own (declared_bounds m.locals p.1);
      result = result_bound m.returns q.1;
    }

pub same_item : {A : Type 0} (x y : A) → Some x ≡ Some y → x ≡ y
same_item x y h = cc

bounded_if : (b : Bool) (v : typed.Variable) (rest : Option Ty) (ty : Ty) → in_bounds v.ty ≡ true → (rest ≡ Some ty → in_bounds ty ≡ true)
    → (if b then Some v.ty else rest) ≡ Some ty → in_bounds ty ≡ true
bounded_if true v rest ty f g h = subst (λ t. in_bounds t ≡ true) (same_item v.ty ty h) f
bounded_if false v rest ty f g h = g h

-- the type of a variable in bounds
pub bounded_in : (variables : List typed.Variable) → AreInBounds variables → (name : List ℕ) (ty : Ty) → type_in variables name ≡ Some ty → in_bounds ty ≡ true
bounded_in [] f name ty h = cc
bounded_in (v ∷ variables) f name ty h = bounded_if (bytes_eq v.name name) v (type_in variables name) ty f.0 (bounded_in variables f.1 name ty) h

-- ---- methods by their names

-- a method has a name
abbrev is_method_of : List ℕ → Method → Bool
is_method_of name m = bytes_eq (spelled_name m.name) name

found_if : (b : Bool) (m : Method) (x y : Option Method) → x ≡ y → (if b then Some m else x) ≡ cond b (Some m) y
found_if true m x y e = refl
found_if false m x y e = e

named_is_found : (methods : List Method) (name : List ℕ) → method_named methods name ≡ find (is_method_of name) methods
named_is_found [] name = refl
named_is_found (m ∷ methods) name =
    found_if (is_method_of name m) m (method_named methods name) (find (is_method_of name) methods) (named_is_found methods name)

number_if : (b : Bool) (i n : ℕ) → nat_lt i n ≡ b → nat_lt i n ≡ true → unwrap_or (cond b (Some i) None) 0 ≡ i
number_if true i n e h = refl
number_if false i n e h = absurd (true≢false (sym h ∙ e))

-- the method of a name stands at its number among what methods become
pub number_stands : {A : Type 0} (f : Method → A) (methods : List Method) (name : List ℕ) (m : Method) → method_named methods name ≡ Some m
    → slice_get (map f methods) (unwrap_or (position (λ (x : Method). bytes_eq (spelled_name x.name) name) methods) 0) ≡ Some (f m)
number_stands f methods name m h =
    let test = is_method_of name in
    let i = position_or_len test methods in
    let there : slice_get methods i ≡ Some m = sym (find_at test methods) ∙ (sym (named_is_found methods name) ∙ h) in
    let within = lt-ltb i (length methods) (slice_get_within methods i m there) in
    ap (λ k. slice_get (map f methods) k) (number_if (nat_lt i (length methods)) i (length methods) refl within)
    ∙ (slice_get-map f methods i ∙ ap (λ o. option_map f o) there)

named_if : (P : Method → Type 0) (b : Bool) (m x : Method) (rest : Option Method) → P m → (rest ≡ Some x → P x) → (if b then Some m else rest) ≡ Some x → P x
named_if P true m x rest f g h = subst P (same_item m x h) f
named_if P false m x rest f g h = g h

-- what holds of all methods holds of the one of a name
pub of_named : (P : Method → Type 0) (methods : List Method) → AllByRecursion P methods → (name : List ℕ) (m : Method) → method_named methods name ≡ Some m → P m
of_named P [] f name m h = cc
of_named P (x ∷ methods) f name m h = named_if P (bytes_eq (spelled_name x.name) name) x m (method_named methods name) f.0 (of_named P methods f.1 name m) h

kept_if : {A : Type 0} (P : A → Type 0) (b : Bool) (m : A) (rest : List A) → P m → AllByRecursion P rest → AllByRecursion P (cond b (m ∷ rest) rest)
kept_if P true m rest f g = (f, g)
kept_if P false m rest f g = g

-- and of those that pass a test
pub of_kept : {A : Type 0} (P : A → Type 0) (test : A → Bool) (xs : List A) → AllByRecursion P xs → AllByRecursion P (filter test xs)
of_kept P test [] f = tt
of_kept P test (x ∷ xs) f = kept_if P (test x) x (filter test xs) f.0 (of_kept P test xs f.1)

passed_if : {A : Type 0} (test : A → Bool) (b : Bool) (m : A) (rest : List A) → test m ≡ b → AllByRecursion (λ (x : A). test x ≡ true) rest
    → AllByRecursion (λ (x : A). test x ≡ true) (cond b (m ∷ rest) rest)
passed_if test true m rest e g = (e, g)
passed_if test false m rest e g = g

pub all_pass : {A : Type 0} (test : A → Bool) (xs : List A) → AllByRecursion (λ (x : A). test x ≡ true) (filter test xs)
all_pass test [] = tt
all_pass test (x ∷ xs) = passed_if test (test x) x (filter test xs) refl (all_pass test xs)
