-- Typed statements that hold no others, as their meaning sees them.
use Rattle.std.proofs.Common.{◌≡◌, ℕ, Bool, true, false, if◌then◌else◌, List, map, Option, Some, None, sym, ap, ◌∙◌}
use Rattle.std.specs.Str.{is_utf8}
use Rattle.ds2_base.specs.Text.{text_of}
use Rattle.ds2_base.specs.declared.place.Place.{Place}
use Rattle.ds2_meaning.specs.TypedStatement as t
use Rattle.ds2_meaning.specs.View.{Part, Chained, statement_part, arm_part, when_part, call_tree, parameter_tree, typed_statement}
use Rattle.ds2_meaning.specs.declared.expressions.Call.{Call}
use Rattle.ds2_meaning.specs.declared.statements.ParameterSetting.{ParameterSetting}
use Rattle.ds2_meaning.specs.declared.statements.Statement.TheFolds.{fold-roll-Statement}
use Rattle.ds2_meaning.specs.declared.statements.Statement.TheOpen as node
use Rattle.ds2_meaning.specs.declared.statements.Statement.TheVariants as statement

-- a call whose result is dropped
pub invoke_typed : (place : Place) (call : Call) → typed_statement (statement.Invoke place call) ≡ t.Invoke place (call_tree call).instance (call_tree call).method (call_tree call).arguments
invoke_typed place call =
    ap typed_statement (sym (statement.rolls-Invoke place call))
    ∙ fold-roll-Statement t.TypedStatement Chained (Part t.TypedWhens) statement_part arm_part when_part (node.Invoke place call)

-- values for the parameters of a thread program
pub set_typed : (place : Place) (instance : List ℕ) (values : List ParameterSetting)
    → typed_statement (statement.SetParameters place instance values) ≡ t.SetParameters place instance (map parameter_tree values)
set_typed place instance values =
    ap typed_statement (sym (statement.rolls-SetParameters place instance values))
    ∙ fold-roll-Statement t.TypedStatement Chained (Part t.TypedWhens) statement_part arm_part when_part (node.SetParameters place instance values)

-- the text, where there is one
abbrev text_or : List ℕ → Option (List ℕ) → List ℕ
text_or other None = other
text_or other (Some x) = x

-- a text that is told from its bytes
pub text_told : (bytes text : List ℕ) → text_of bytes ≡ Some text → text ≡ bytes
text_told bytes text h = by (is_utf8 bytes) h
  where
    by : (b : Bool) → (if b then Some bytes else None) ≡ Some text → text ≡ bytes
    by true e = ap (text_or bytes) (sym e)
    by false e = ap (text_or bytes) (sym e)

-- ---- statements without parts

pub empty_typed : (place : Place) → typed_statement (statement.Empty place) ≡ t.Empty place
empty_typed place =
    ap typed_statement (sym (statement.rolls-Empty place))
    ∙ fold-roll-Statement t.TypedStatement Chained (Part t.TypedWhens) statement_part arm_part when_part (node.Empty place)

pub leave_typed : (place : Place) → typed_statement (statement.Leave place) ≡ t.Leave place
leave_typed place =
    ap typed_statement (sym (statement.rolls-Leave place))
    ∙ fold-roll-Statement t.TypedStatement Chained (Part t.TypedWhens) statement_part arm_part when_part (node.Leave place)

pub continue_typed : (place : Place) → typed_statement (statement.Continue place) ≡ t.Continue place
continue_typed place =
    ap typed_statement (sym (statement.rolls-Continue place))
    ∙ fold-roll-Statement t.TypedStatement Chained (Part t.TypedWhens) statement_part arm_part when_part (node.Continue place)

pub return_typed : (place : Place) → typed_statement (statement.Return place) ≡ t.Return place
return_typed place =
    ap typed_statement (sym (statement.rolls-Return place))
    ∙ fold-roll-Statement t.TypedStatement Chained (Part t.TypedWhens) statement_part arm_part when_part (node.Return place)
