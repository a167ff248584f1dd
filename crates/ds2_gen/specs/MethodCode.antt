-- The instructions of declared methods, and what the code of a body finds of those that it calls.
use Rattle.std.specs.Prelude.{◌≡◌, ℕ, zero, suc, ◌+◌, ◌<◌, ◌≤◌, Bool, true, false, bytes_eq, List, [], ◌∷◌, ◌++◌, length, map, slice_get, Option, Some, None, is_some}
use Rattle.ds2_value.specs.declared.ty.Ty.{Ty}
use Rattle.ds2_meaning.specs.declared.methods.Parameter.{Parameter}
use Rattle.ds2_meaning.specs.Location.{Home, Location}
use Rattle.ds2_meaning.specs.Method.{MethodTree, Declarations}
use Rattle.ds2_code.specs.declared.instr.Instr.{Instr}
use Rattle.ds2_code.specs.declared.instr.Instr.TheVariants as instr
use Rattle.ds2_code.specs.declared.parts.MethodPart.{MethodPart}
use Rattle.ds2_code.specs.declared.parts.ParameterPart.{ParameterPart}
use Rattle.ds2_code.specs.declared.parts.ProgramParts.{ProgramParts}
use Rattle.ds2_gen.specs.CodeCells.{GlobalAt, LocalNamed, CodeCell, LocalCell, Placement, IsPlacement}
use Rattle.ds2_gen.specs.CodePieces.{StandsAt, ExitPoints, HandsBack}
use Rattle.ds2_gen.specs.CoveredForms.{AreCoveredStatements}
use Rattle.ds2_gen.specs.ExpressionCode.{Callee, CodeNumbers}
use Rattle.ds2_gen.specs.StatementCode.{statements_keep, statements_size, statements_code}

-- what stands behind the statements of a method: one that ends without `return` has no result, or null for one
abbrev pub method_ending : Option Ty → List Instr
method_ending None = instr.Ret ∷ []
method_ending (Some ty) = instr.Null ty ∷ instr.RetV ∷ []

-- the number of the instruction behind the statements of a method
abbrev pub method_end : CodeNumbers → ℕ → MethodTree → ℕ
method_end numbers at method = at + statements_size numbers method.body

-- a method is returned from with a result where it has one
abbrev pub method_exits : ℕ → (has_result : Bool) → ExitPoints
method_exits end has_result = record { leave = end; continue = end; return = HandsBack has_result }

-- the instructions of a method
abbrev pub method_code : CodeNumbers → ℕ → MethodTree → List Instr
method_code numbers at method =
    statements_code numbers at 0 (method_exits (method_end numbers at method) (is_some method.returns)) method.body ++ method_ending method.returns

-- a parameter of a method in code
abbrev pub parameter_part : Parameter → ParameterPart
parameter_part p = record { ty = p.ty; is_in_out = p.is_in_out }

-- ---- the frame of a method

-- parameters lie in the frame in order, from this number on
abbrev pub HaveLocals : Placement → ℕ → List Parameter → Type 0
HaveLocals p n [] = Unit {0}
HaveLocals p n (x ∷ parameters) = (p.cell (LocalNamed x.name) ≡ Some (LocalCell n)) × HaveLocals p (suc n) parameters

-- a name has this number in a frame of parameters and of so many locals behind them: it is the parameter's there, or no parameter's
abbrev pub IsLocalAt : List Parameter → (locals : ℕ) → List ℕ → ℕ → Type 0
IsLocalAt [] locals name n = n < locals
IsLocalAt (x ∷ parameters) locals name zero = bytes_eq name x.name ≡ true
IsLocalAt (x ∷ parameters) locals name (suc n) = (bytes_eq name x.name ≡ false) × IsLocalAt parameters locals name n

-- the placement of a method with so many locals behind its parameters: parameters, locals and the values that its code keeps lie in
-- the frame, and nothing else does
pub record IsMethodPlacement (p : Placement) (listed : List Parameter) (locals : ℕ) : Type 0 where
  pub sound : IsPlacement p
  pub parameters : HaveLocals p 0 listed
  pub names : (name : List ℕ) (c : CodeCell) → p.cell (LocalNamed name) ≡ Some c → (n : ℕ) × (c ≡ LocalCell n) × IsLocalAt listed locals name n
  pub kept : (k : ℕ) → k < p.kept_count → (n : ℕ) × (p.kept_cell k ≡ LocalCell n) × (n < length listed + locals)
  pub frameless : (at : Location) (n : ℕ) → p.cell (GlobalAt at) ≡ Some (LocalCell n) → ⊥

-- the code of a method of a home stands at its entry, and its part in the code is that of the method
pub record HasMethod (code : ProgramParts) (numbers : CodeNumbers) (declared : Declarations) (owner : Home) (method : MethodTree) (part : MethodPart) : Type 0 where
  pub home : numbers.home ≡ owner
  pub objects : numbers.objects ≡ declared.objects owner
  pub outputs : numbers.outputs ≡ []
  pub parameters : part.parameters ≡ map parameter_part method.parameters
  pub placement : IsMethodPlacement numbers.placement method.parameters (length part.locals)
  pub covered : AreCoveredStatements code numbers (HandsBack (is_some method.returns)) method.body
  pub kept : statements_keep method.body ≤ numbers.placement.kept_count
  pub stands : StandsAt code.instrs part.entry (method_code numbers part.entry method)

-- ---- calls

-- a cell lies in the frame of a method
abbrev pub is_in_frame : CodeCell → Bool
is_in_frame (LocalCell n) = true
is_in_frame _ = false

-- code of the first placement can call code of the second: each location has one cell in both, and what the caller keeps beside them
-- outside its frame, its locals and what is reserved there, the method leaves alone
pub record MayCall (caller callee : Placement) : Type 0 where
  pub globals : (at : Location) → caller.cell (GlobalAt at) ≡ callee.cell (GlobalAt at)
  pub locals : (name : List ℕ) (c : CodeCell) → caller.cell (LocalNamed name) ≡ Some c → is_in_frame c ≡ false → callee.is_reserved 0 c ≡ true
  pub reserved : (kept : ℕ) (c : CodeCell) → caller.is_reserved kept c ≡ true → is_in_frame c ≡ false → callee.is_reserved 0 c ≡ true

-- a method that code calls is declared, hands back a result where it returns one, and its code is there, with its own numbers
pub record CalleeFits (code : ProgramParts) (declared : Declarations) (methods : Home → ℕ → CodeNumbers) (numbers : CodeNumbers) (home : Home) (k : ℕ) (callee : Callee) (part : MethodPart) : Type 0 where
  pub method : MethodTree
  pub listed : slice_get (declared.methods home) k ≡ Some method
  pub result : callee.has_result ≡ is_some method.returns
  pub body : HasMethod code (methods home k) declared home method part
  pub may : MayCall numbers.placement (methods home k).placement

-- likewise each that the code of a body may call
abbrev pub CalleesFit : ProgramParts → Declarations → (Home → ℕ → CodeNumbers) → CodeNumbers → Type 0
CalleesFit code declared methods numbers =
    (home : Home) (k : ℕ) (callee : Callee) (part : MethodPart) → numbers.callee home k ≡ Some callee → slice_get code.methods callee.number ≡ Some part
    → CalleeFits code declared methods numbers home k callee part

-- and each that the code of a declared method may call
abbrev pub MethodsFit : ProgramParts → Declarations → (Home → ℕ → CodeNumbers) → Type 0
MethodsFit code declared methods =
    (home : Home) (k : ℕ) (method : MethodTree) → slice_get (declared.methods home) k ≡ Some method → CalleesFit code declared methods (methods home k)
