-- How the bodies of a program return, and code to which a body is appended.
use Rattle.std.specs.Prelude.{List, ◌++◌, Option, Some, None}
use Rattle.ds2_value.specs.declared.ty.Ty.{Ty}
use Rattle.ds2_meaning.specs.declared.globals.Variable.{Variable}
use Rattle.ds2_code.specs.declared.instr.Instr.{Instr}
use Rattle.ds2_gen.specs.ExpressionCode.{CodeNumbers}
use Rattle.ds2_gen.specs.UnitCode.{locals_code}
use Rattle.ds2_emitter.specs.declared.returning.Returning.{Returning}
use Rattle.ds2_emitter.specs.declared.returning.Returning.TheVariants.{WithResult, WithoutResult}

-- a declared method hands back a result where it has one
abbrev pub method_returning : Option Ty → Returning
method_returning None = WithoutResult
method_returning (Some ty) = WithResult

-- the locals of a system method are set to null
unfoldable pub with_locals : CodeNumbers → List Variable → List Instr → List Instr
with_locals n locals code = code ++ locals_code n locals
