-- The tokens and the names of the variables of a method.
use Rattle.std.proofs.Common.{◌≡◌, List, [], ◌∷◌, ◌++◌, map, refl, sym, ap, ◌∙◌, subst}
use Rattle.ds2_token.specs.declared.token.Token.{Token}
use Rattle.ds2_tree.specs.Globals.{Method, parameter_spelling, parameters_spelling, variables_spelling, type_spelling, returns_spelling, method_spelling}
use Rattle.ds2_tree.specs.Lists.{one_token, if_any, all_spelled, comma_spelling}
use Rattle.ds2_tree.specs.Marks.{open_mark, close_mark, semicolon_mark}
use Rattle.ds2_tree.specs.Readings.{reading_spelling}
use Rattle.ds2_tree.specs.Statements.{statements_spelling}
use Rattle.ds2_tree.specs.declared.globals.Parameter as source_parameter
use Rattle.ds2_tree.specs.declared.globals.VariableDeclaration.{VariableDeclaration}
use Rattle.ds2_value.specs.declared.ty.Ty.{Ty}
use Rattle.ds2_meaning.specs.declared.globals.Variable as typed
use Rattle.ds2_meaning.specs.IsTyped.{with_parameters_of, variable_names}
use Rattle.ds2_names.specs.NameRules.{from_each}
use Rattle.ds2_names.specs.SourceUnit.{spelled_name, PlacedName, placed_name, names_alone, declared_names, local_names}
use Rattle.ds2_elaboration.specs.SourceTypes.{spelled_type, declared_variables, elaborated_parameter, variables_in_method}
use Rattle.ds2_elaboration.proofs.Orders.{Within, passed, itself_within, behind_others, before_others, both_within, tokens_within, parts_within}

-- ---- the tokens of a method

-- the tokens of its parameters and locals
abbrev pub local_tokens : Method → List Token
local_tokens m = map (λ (p : source_parameter.Parameter). p.name) m.parameters.list ++ from_each (λ (v : VariableDeclaration). v.names) m.locals

parameter_within : (p : source_parameter.Parameter) → Within (p.name ∷ []) (parameter_spelling p)
parameter_within p =
    behind_others (comma_spelling p.comma) (behind_others (if_any one_token p.in_out) (behind_others (type_spelling p.ty) (itself_within (p.name ∷ []))))

one_each : (ps : List source_parameter.Parameter)
    → from_each (λ (p : source_parameter.Parameter). p.name ∷ []) ps ≡ map (λ (p : source_parameter.Parameter). p.name) ps
one_each [] = refl
one_each (p ∷ ps) = ap (λ ts. p.name ∷ ts) (one_each ps)

pub parameters_within : (ps : List source_parameter.Parameter) → Within (map (λ (p : source_parameter.Parameter). p.name) ps) (all_spelled parameter_spelling ps)
parameters_within ps =
    subst (λ ts. Within ts (all_spelled parameter_spelling ps)) (one_each ps) (parts_within (λ (p : source_parameter.Parameter). p.name ∷ []) parameter_spelling parameter_within ps)

pub declaration_within : (v : VariableDeclaration) → Within v.names (variables_spelling v)
declaration_within v = passed v.keyword (behind_others (type_spelling v.ty) (tokens_within v.names (semicolon_mark v.end ∷ [])))

pub declared_within : (ds : List VariableDeclaration) → Within (from_each (λ (v : VariableDeclaration). v.names) ds) (all_spelled variables_spelling ds)
declared_within ds = parts_within (λ (v : VariableDeclaration). v.names) variables_spelling declaration_within ds

pub locals_within : (m : Method) → Within (local_tokens m) (method_spelling m)
locals_within m =
    let rest = if_any reading_spelling m.reading ++ (statements_spelling m.body ++ (m.end_keyword ∷ (semicolon_mark m.end ∷ []))) in
    passed m.keyword (passed m.name (both_within
    (passed (open_mark m.parameters.opening) (before_others (close_mark m.parameters.closing ∷ []) (parameters_within m.parameters.list)))
    (behind_others (if_any returns_spelling m.returns) (passed (semicolon_mark m.semicolon) (before_others rest (declared_within m.locals))))))

-- the tokens of its reading statement
pub reading_within : (m : Method) → Within (if_any reading_spelling m.reading) (method_spelling m)
reading_within m =
    let rest = statements_spelling m.body ++ (m.end_keyword ∷ (semicolon_mark m.end ∷ [])) in
    passed m.keyword (passed m.name (behind_others (parameters_spelling m.parameters) (behind_others (if_any returns_spelling m.returns)
    (passed (semicolon_mark m.semicolon) (behind_others (all_spelled variables_spelling m.locals)
    (before_others rest (itself_within (if_any reading_spelling m.reading))))))))

-- ---- the names of a method's variables

pub map_append : {A B : Type 0} (f : A → B) (xs ys : List A) → map f (xs ++ ys) ≡ map f xs ++ map f ys
map_append f [] ys = refl
map_append f (x ∷ xs) ys = ap (λ zs. f x ∷ zs) (map_append f xs ys)

pub declared_as_tokens : (ds : List VariableDeclaration) → declared_names ds ≡ map placed_name (from_each (λ (v : VariableDeclaration). v.names) ds)
declared_as_tokens [] = refl
declared_as_tokens (v ∷ ds) =
    ap (λ ns. map placed_name v.names ++ ns) (declared_as_tokens ds) ∙ sym (map_append placed_name v.names (from_each (λ (x : VariableDeclaration). x.names) ds))

pub parameters_as_tokens : (ps : List source_parameter.Parameter)
    → map (λ (p : source_parameter.Parameter). placed_name p.name) ps ≡ map placed_name (map (λ (p : source_parameter.Parameter). p.name) ps)
parameters_as_tokens [] = refl
parameters_as_tokens (p ∷ ps) = ap (λ ns. placed_name p.name ∷ ns) (parameters_as_tokens ps)

pub locals_as_tokens : (m : Method) → local_names m ≡ map placed_name (local_tokens m)
locals_as_tokens m =
    ap (λ ns. ns ++ declared_names m.locals) (parameters_as_tokens m.parameters.list)
    ∙ (ap (λ ns. map placed_name (map (λ (p : source_parameter.Parameter). p.name) m.parameters.list) ++ ns) (declared_as_tokens m.locals)
    ∙ sym (map_append placed_name (map (λ (p : source_parameter.Parameter). p.name) m.parameters.list) (from_each (λ (v : VariableDeclaration). v.names) m.locals)))

named_names : (ty : Ty) (tokens : List Token)
    → variable_names (map (λ (t : Token). record { name = spelled_name t; ty = ty }) tokens) ≡ names_alone (map placed_name tokens)
named_names ty [] = refl
named_names ty (t ∷ tokens) = ap (λ ns. spelled_name t ∷ ns) (named_names ty tokens)

pub declared_variable_names : (ds : List VariableDeclaration) → variable_names (declared_variables ds) ≡ names_alone (declared_names ds)
declared_variable_names [] = refl
declared_variable_names (v ∷ ds) =
    map_append (λ (x : typed.Variable). x.name) (map (λ (t : Token). record { name = spelled_name t; ty = spelled_type v.ty }) v.names) (declared_variables ds)
    ∙ (ap (λ ns. ns ++ variable_names (declared_variables ds)) (named_names (spelled_type v.ty) v.names)
    ∙ (ap (λ ns. names_alone (map placed_name v.names) ++ ns) (declared_variable_names ds)
    ∙ sym (map_append (λ (n : PlacedName). n.name) (map placed_name v.names) (declared_names ds))))

local_variable_names_from : (ps : List source_parameter.Parameter) (variables : List typed.Variable) (names : List PlacedName) → variable_names variables ≡ names_alone names
    → variable_names (with_parameters_of (map elaborated_parameter ps) variables) ≡ names_alone (map (λ (p : source_parameter.Parameter). placed_name p.name) ps ++ names)
local_variable_names_from [] variables names e = e
local_variable_names_from (p ∷ ps) variables names e = ap (λ ns. spelled_name p.name ∷ ns) (local_variable_names_from ps variables names e)

pub local_variable_names : (m : Method) → variable_names (variables_in_method m) ≡ names_alone (local_names m)
local_variable_names m = local_variable_names_from m.parameters.list (declared_variables m.locals) (declared_names m.locals) (declared_variable_names m.locals)
