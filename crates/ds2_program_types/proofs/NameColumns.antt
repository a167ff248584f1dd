-- The columns among the names of a program.
use Rattle.std.proofs.Common.{◌≡◌, ℕ, ◌+◌, List, [], ◌∷◌, ◌++◌, length, drop, map, refl, sym, ◌∙◌, length-append}
use Rattle.std.proofs.lemmas.List.{length-map}
use Rattle.ds2_elaboration.specs.UnitsBefore.{UnitsBefore}
use Rattle.ds2_token.specs.declared.token.Token.{Token}
use Rattle.ds2_tree.specs.declared.globals.VariableDeclaration.{VariableDeclaration}
use Rattle.ds2_meaning.specs.declared.globals.Variable.{Variable}
use Rattle.ds2_names.specs.SourceUnit.{TableColumns, PlacedName, placed_name, spelled_name, declared_names, variable_declarations, UnitSource}
use Rattle.ds2_scope.specs.UnitNames.{NamesAre}
use Rattle.ds2_scope.specs.declared.unit_names.UnitNames.{UnitNames}
use Rattle.ds2_elaboration.specs.SourceTypes.{spelled_type, declared_variables, program_variables, unit_names}

-- a variable of a declaration
abbrev variable_of : VariableDeclaration → Token → Variable
variable_of v t = record { name = spelled_name t; ty = spelled_type v.ty }

-- as many variables are declared as names of them are given
as_many : (vs : List VariableDeclaration) → length (declared_variables vs) ≡ length (declared_names vs)
as_many [] = refl
as_many (v ∷ vs) =
    length-append (map (variable_of v) v.names) (declared_variables vs)
    ∙ (λ i. (length-map v.names (variable_of v) ∙ sym (length-map v.names placed_name)) i + as_many vs i)
    ∙ sym (length-append (map placed_name v.names) (declared_names vs))

behind : {A : Type 0} (xs ys : List A) → drop (length xs) (xs ++ ys) ≡ ys
behind [] ys = refl
behind (x ∷ xs) ys = behind xs ys

-- what stands behind the names of declared variables
pub columns_told : (tables : TableColumns) (before : UnitsBefore) (u : UnitSource) (n : UnitNames) (k : ℕ) (columns : List PlacedName) → NamesAre n (unit_names tables before u) → k ≡ length (program_variables u)
    → columns ≡ drop k n.variables → columns ≡ (unit_names tables before u).columns
columns_told tables before u n k columns h l e =
    e
    ∙ (λ i. drop ((l ∙ as_many (variable_declarations u.globals)) i) (h.variables i))
    ∙ behind (declared_names (variable_declarations u.globals)) (unit_names tables before u).columns
