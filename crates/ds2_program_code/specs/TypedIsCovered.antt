-- The statements of a typed unit have all that their code needs, where the names in scope have their places.
use Rattle.std.specs.Prelude.{◌≡◌, IsTrue, ℕ, ◌<◌, Bool, true, false, List, map, slice_get, Option, Some, None, is_some}
use Rattle.ds2_value.specs.declared.ty.Ty.{Ty}
use Rattle.ds2_meaning.specs.declared.location.Reference.{Reference}
use Rattle.ds2_meaning.specs.Evaluation.{callee_home}
use Rattle.ds2_meaning.specs.HashObjects.{hash_named, iterator_named}
use Rattle.ds2_meaning.specs.IsTyped.{NamesInScope, reference_type, AreTypedStatements}
use Rattle.ds2_meaning.specs.Method.{MethodTree}
use Rattle.ds2_meaning.specs.TypedStatement.{TypedStatements}
use Rattle.ds2_code.specs.declared.parts.MethodPart.{MethodPart}
use Rattle.ds2_code.specs.declared.parts.ProgramParts.{ProgramParts}
use Rattle.ds2_gen.specs.CodePieces.{ReturnWay, JumpsToEnd, HandsBack}
use Rattle.ds2_gen.specs.CoveredForms.{HasValueCell, HasOutput, IsParameterCell, AreCoveredStatements}
use Rattle.ds2_gen.specs.CoveredObjects.{HasHash, HasIterator}
use Rattle.ds2_gen.specs.ExpressionCode.{Callee, CodeNumbers}
use Rattle.ds2_gen.specs.MethodCode.{parameter_part}
use Rattle.ds2_gen.specs.StatementCode.{parameter_cell}
use Rattle.ds2_program_code.specs.UsedConstants.{constants_of_body, HaveConstants}

-- a method has its number, and its part in the code
pub record IsCallable (code : ProgramParts) (numbers : CodeNumbers) (instance : Option (List ℕ)) (number : ℕ) (method : MethodTree) : Type 0 where
  pub callee : Callee
  pub part : MethodPart
  pub placed : numbers.callee (callee_home numbers.home instance) number ≡ Some callee
  pub coded : slice_get code.methods callee.number ≡ Some part
  pub parameters : part.parameters ≡ map parameter_part method.parameters
  pub result : callee.has_result ≡ is_some method.returns

-- all that statements may name has its place
pub record NamesHavePlaces (code : ProgramParts) (numbers : CodeNumbers) (names : NamesInScope) : Type 0 where
  pub variables : (r : Reference) (ty : Ty) → reference_type names r ≡ Some ty → HasValueCell numbers r
  pub methods : (instance : Option (List ℕ)) (number : ℕ) (method : MethodTree) → slice_get (names.methods instance) number ≡ Some method → IsCallable code numbers instance number method
  pub hashes : (name : List ℕ) → IsTrue (is_some (hash_named names.objects.hashes name)) → HasHash code numbers name
  pub iterators : (name : List ℕ) → IsTrue (is_some (iterator_named names.objects.iterators name)) → HasIterator code numbers name
  pub outputs : (n : ℕ) → n < names.outputs → HasOutput code numbers n
  pub stage_parameters : (instance parameter : List ℕ) → IsParameterCell (parameter_cell numbers instance parameter)

-- a body is returned from with a value where it returns one
abbrev pub ReturnsAs : ReturnWay → Option Ty → Type 0
ReturnsAs (JumpsToEnd end) None = Unit {0}
ReturnsAs (JumpsToEnd end) (Some ty) = ⊥
ReturnsAs (HandsBack true) None = ⊥
ReturnsAs (HandsBack true) (Some ty) = Unit {0}
ReturnsAs (HandsBack false) None = Unit {0}
ReturnsAs (HandsBack false) (Some ty) = ⊥

-- typed statements are covered, where what they may name has its place and the constants that they use have their numbers
abbrev pub TypedIsCovered : Type 0
TypedIsCovered =
    (code : ProgramParts) (numbers : CodeNumbers) (names : NamesInScope) (way : ReturnWay) (loop : Bool) (body : TypedStatements)
    → NamesHavePlaces code numbers names → ReturnsAs way names.returns → HaveConstants code numbers (constants_of_body body) → AreTypedStatements names loop body
    → AreCoveredStatements code numbers way body
