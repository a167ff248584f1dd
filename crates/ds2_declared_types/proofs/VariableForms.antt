-- Variables of a unit and of a method, part by part.
use Rattle.std.proofs.Common.{◌≡◌, List, [], ◌∷◌, ◌++◌, map, refl, sym, ap, ◌∙◌}
use Rattle.ds2_tree.specs.Globals.{GlobalItem, Declared, Listed, Defined, Method}
use Rattle.ds2_tree.specs.declared.globals.Declaration.TheVariants as declaration
use Rattle.ds2_tree.specs.declared.globals.Parameter.{Parameter}
use Rattle.ds2_meaning.specs.IsTyped.{with_parameters_of}
use Rattle.ds2_meaning.specs.declared.globals.Variable.{Variable}
use Rattle.ds2_names.specs.SourceUnit.{variable_declarations}
use Rattle.ds2_elaboration.specs.SourceTypes.{declared_variables, elaborated_parameter, variables_in_method}
use Rattle.ds2_declared_types.specs.Joins.{variables_declared_in, variable_of_parameter}

pub declared_item : (g : GlobalItem) (gs : List GlobalItem)
    → declared_variables (variable_declarations (g ∷ gs)) ≡ variables_declared_in g ++ declared_variables (variable_declarations gs)
declared_item (Declared (declaration.Variables v)) gs = refl
declared_item (Declared (declaration.Instance a b c d e f)) gs = refl
declared_item (Declared (declaration.Hash a b c d e f g h i j k)) gs = refl
declared_item (Declared (declaration.Hiter a b c d e f g h)) gs = refl
declared_item (Declared (declaration.Thread a b c d e)) gs = refl
declared_item (Listed keyword names end) gs = refl
declared_item (Defined m) gs = refl

before_locals : (ps : List Parameter) (locals : List Variable) → with_parameters_of (map elaborated_parameter ps) locals ≡ map variable_of_parameter ps ++ locals
before_locals [] locals = refl
before_locals (p ∷ ps) locals = ap (λ (l : List Variable). variable_of_parameter p ∷ l) (before_locals ps locals)

-- the parameters of a method, and its locals behind them
pub with_parameters : (m : Method) → variables_in_method m ≡ map variable_of_parameter m.parameters.list ++ declared_variables m.locals
with_parameters m = before_locals m.parameters.list (declared_variables m.locals)
