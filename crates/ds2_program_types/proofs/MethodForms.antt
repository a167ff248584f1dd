-- A typed method of its parts.
use Rattle.std.proofs.Common.{◌≡◌, ℕ, List, [], ◌∷◌, ◌++◌, map, Option, Some, Result, Ok, Err, sym, ap, ◌∙◌, subst}
use Rattle.std.specs.Prelude.{IfOk}
use Rattle.ds2_elaboration.specs.UnitsBefore.{UnitsBefore}
use Rattle.ds2_value.specs.declared.ty.Ty.{Ty}
use Rattle.ds2_tree.specs.Globals.{Method}
use Rattle.ds2_meaning.specs.Method.{MethodTree}
use Rattle.ds2_meaning.specs.ProgramTree.{BodyTree}
use Rattle.ds2_meaning.specs.TypedStatement.{TypedStatements}
use Rattle.ds2_base.specs.declared.place.Refusal.{Refusal}
use Rattle.ds2_base.specs.declared.stop.OutOfMemory.{OutOfMemory}
use Rattle.ds2_elaboration.specs.Typings.{TypeRefusals}
use Rattle.ds2_meaning.specs.View.{typed_method, typed_statements}
use Rattle.ds2_meaning.specs.declared.methods.Method as typed
use Rattle.ds2_meaning.specs.declared.refusals.TypeKind.{TypeKind}
use Rattle.ds2_types.specs.Judgements.{IsOutcome}
use Rattle.ds2_expression_types.proofs.ArgumentLists.{map-push}
use Rattle.ds2_simple_statement_types.specs.BothParts.{with_one}
use Rattle.ds2_simple_statement_types.proofs.PartLists.{one_behind}
use Rattle.ds2_program_types.specs.PackageMethods.{AreTyped}
use Rattle.ds2_meaning.specs.declared.globals.Variable.{Variable}
use Rattle.ds2_meaning.specs.declared.methods.Parameter.{Parameter}
use Rattle.ds2_meaning.specs.declared.statements.Statement.{Statement}
use Rattle.ds2_names.specs.SourceUnit.{TableColumns, spelled_name, UnitSource}
use Rattle.ds2_elaboration.specs.ProgramTypes.{method_tree_of, body_of_method, scope_of_method}
use Rattle.ds2_elaboration.specs.SourceTypes.{declared_variables, elaborated_parameters, returned_type}
use Rattle.ds2_elaboration.specs.StatementTypes.{statements_node}

abbrev pub method_of : List ℕ → List Parameter → List Variable → Option Ty → TypedStatements → MethodTree
method_of name parameters locals returns body = record { name = name; parameters = parameters; locals = locals; returns = returns; body = body }

abbrev pub body_of : List Variable → TypedStatements → BodyTree
body_of locals body = record { locals = locals; statements = body }

module _ (tables : TableColumns) (before : UnitsBefore) (u : UnitSource) (m : Method) where
  -- a method that can be called
  pub same_method : (name : List ℕ) (parameters : List Parameter) (locals : List Variable) (returns : Option Ty) (body : List Statement) → name ≡ spelled_name m.name
      → parameters ≡ elaborated_parameters m → locals ≡ declared_variables m.locals → returns ≡ returned_type m.returns
      → typed_statements body ≡ statements_node (scope_of_method tables before u m) m.body → method_of name parameters locals returns (typed_statements body) ≡ method_tree_of tables before u m
  same_method name parameters locals returns body a b c d e =
      ap (λ (x : List ℕ). method_of x parameters locals returns (typed_statements body)) a
      ∙ ap (λ (x : List Parameter). method_of (spelled_name m.name) x locals returns (typed_statements body)) b
      ∙ ap (λ (x : List Variable). method_of (spelled_name m.name) (elaborated_parameters m) x returns (typed_statements body)) c
      ∙ ap (λ (x : Option Ty). method_of (spelled_name m.name) (elaborated_parameters m) (declared_variables m.locals) x (typed_statements body)) d
      ∙ ap (λ (x : TypedStatements). method_of (spelled_name m.name) (elaborated_parameters m) (declared_variables m.locals) (returned_type m.returns) x) e

  -- a system method
  pub same_body : (locals : List Variable) (body : List Statement) → locals ≡ declared_variables m.locals → typed_statements body ≡ statements_node (scope_of_method tables before u m) m.body
      → body_of locals (typed_statements body) ≡ body_of_method tables before u (Some m)
  same_body locals body c e =
      ap (λ (x : List Variable). body_of x (typed_statements body)) c ∙ ap (λ (x : TypedStatements). body_of (declared_variables m.locals) x) e

module _ (tables : TableColumns) (before : UnitsBefore) (u : UnitSource) (m : Method) (methods : List Method) where
  -- one more method of a package, behind others
  pub method_behind : (xs ys : TypeRefusals) (items : Result (List typed.Method) (Refusal TypeKind)) (one : Result typed.Method (Refusal TypeKind))
      (result : Result (Result (List typed.Method) (Refusal TypeKind)) OutOfMemory) → IsOutcome (AreTyped tables before u methods) xs items
      → IsOutcome (λ (t : typed.Method). typed_method t ≡ method_tree_of tables before u m) ys one → IfOk result (λ all. all ≡ with_one items one)
      → IfOk result (IsOutcome (AreTyped tables before u (methods ++ m ∷ [])) (xs ++ ys))
  method_behind xs ys items one (Err fault) h k e = e
  method_behind xs ys items one (Ok all) h k e =
      subst (λ (l : List MethodTree). IsOutcome (λ (ms : List typed.Method). map typed_method ms ≡ l) (xs ++ ys) all) (sym (map-push (method_tree_of tables before u) methods m))
      (subst (IsOutcome (λ (ms : List typed.Method). map typed_method ms ≡ map (method_tree_of tables before u) methods ++ method_tree_of tables before u m ∷ []) (xs ++ ys)) (sym e)
      (one_behind typed_method xs ys (map (method_tree_of tables before u) methods) (method_tree_of tables before u m) items one h k))
