-- What each instruction of an expression does, and the short runs of instructions that stand for one step of the meaning.
use Rattle.std.proofs.Common.{◌≡◌, ℕ, ◌+◌, Bool, true, false, List, [], ◌∷◌, ◌++◌, length, Some, Result, refl, ap, ◌∙◌, subst, arith, length-append, if◌then◌else◌}
use Rattle.std.specs.Prelude.{slice_get}
use Rattle.ds2_decimal.specs.Arithmetic as decimal
use Rattle.ds2_value.specs.Functions.{concat_of}
use Rattle.ds2_value.specs.Operations.{of_decimals, of_decimal, truth_value, widened, or_null_at_fault, of_one, of_one_or_fault, of_two}
use Rattle.ds2_value.specs.Row.{Row}
use Rattle.ds2_value.specs.Types.{assign_of}
use Rattle.ds2_value.specs.Value.{sum_of, difference_of, product_of, negative_of, compared_of, truth_of, and_of, or_of, not_of, or_null}
use Rattle.ds2_value.specs.declared.comparison.Comparison.{Comparison}
use Rattle.ds2_value.specs.declared.fault.Fault.{Fault}
use Rattle.ds2_value.specs.declared.truth.Truth.{Truth}
use Rattle.ds2_value.specs.declared.truth.Truth.TheVariants.{Yes, No, Unknown}
use Rattle.ds2_value.specs.declared.ty.Ty.{Ty}
use Rattle.ds2_value.specs.declared.ty.Ty.TheVariants.{BigInt, Decimal as DecimalOf, Char, Varchar}
use Rattle.ds2_value.specs.declared.value.Value.{Value}
use Rattle.ds2_value.specs.declared.value.Value.TheVariants as value
use Rattle.ds2_meaning.specs.declared.expressions.Operation.{Operation}
use Rattle.ds2_meaning.specs.declared.expressions.Operation.TheVariants as operation
use Rattle.ds2_meaning.specs.declared.expressions.Prefix.{Prefix}
use Rattle.ds2_meaning.specs.declared.expressions.Prefix.TheVariants as prefix
use Rattle.ds2_meaning.specs.declared.location.Reference.{Reference}
use Rattle.ds2_meaning.specs.declared.location.Reference.TheVariants.{At, Local}
use Rattle.ds2_meaning.specs.IsTyped.{TypeClass, Integers, Decimals, Texts}
use Rattle.ds2_meaning.specs.Location.{Home, Content, held}
use Rattle.ds2_meaning.specs.RunState.{RunState, ExpressionEnd, Gives, attempt, then_operand, variable_value}
use Rattle.ds2_meaning.specs.ValueOperations.{operated, prefixed, converted}
use Rattle.ds2_code.specs.declared.instr.Instr.{Instr}
use Rattle.ds2_code.specs.declared.instr.Instr.TheVariants as instr
use Rattle.ds2_code.specs.declared.parts.ProgramParts.{ProgramParts}
use Rattle.ds2_code.specs.CodeRun.{CallFrame, MachineState, GoesOn, perform}
use Rattle.ds2_code.specs.InstructionTable.{Pure, Partial, of_operands, kind_of}
use Rattle.ds2_gen.specs.CodeCells.{nameable_of, content_of, CodeCell, SlotCell, LocalCell, HashCell, IteratorCell, ParameterCell, Cells, desk_of, CellHas, IsValueCell, Placement, HoldState}
use Rattle.ds2_gen.specs.CodePieces.{StandsAt, machine_at, ComesTo, EvaluatesTo}
use Rattle.ds2_gen.specs.CoveredForms.{HasConstant}
use Rattle.ds2_gen.specs.ExpressionCode.{CodeNumbers, constant_instr, load_instr, conversion_code, truth_code, prefix_code, operation_instr, operand_code, widening_code, widened_type, left_operand_code, comparison_instr}
use Rattle.ds2_gen.proofs.PieceLemmas.{front_stands, back_stands, at_most, comes_on, comes_by, comes_at_once, evaluates_on, operand_evaluates, attempt_evaluates}

-- ---- truth

-- a number of this type as a truth of the machine
abbrev pub as_truth : Ty → Value → Value
as_truth (DecimalOf p s) v = truth_value (truth_of v)
as_truth _ v = v

truth_again : (t : Truth) → truth_of (truth_value t) ≡ t
unfolding truth_of
truth_again Yes = refl
truth_again No = refl
truth_again Unknown = refl

pub truth_kept : (ty : Ty) (v : Value) → truth_of (as_truth ty v) ≡ truth_of v
truth_kept BigInt v = refl
truth_kept (DecimalOf p s) v = truth_again (truth_of v)
truth_kept (Char n) v = refl
truth_kept (Varchar n) v = refl

-- an operand as an operation takes it
abbrev pub as_operand : Operation → Ty → Value → Value
as_operand operation.And ty v = as_truth ty v
as_operand operation.Or ty v = as_truth ty v
as_operand _ ty v = v

-- it gives what the operand itself gives
pub operated_kept : (o : Operation) (a b : Ty) (x y : Value) (w : RunState) → operated o (as_operand o a x) (as_operand o b y) w ≡ operated o x y w
operated_kept operation.And a b x y w =
    ap (λ t. Gives (truth_value (and_of t (truth_of (as_truth b y)))) w) (truth_kept a x) ∙ ap (λ t. Gives (truth_value (and_of (truth_of x) t)) w) (truth_kept b y)
operated_kept operation.Or a b x y w =
    ap (λ t. Gives (truth_value (or_of t (truth_of (as_truth b y)))) w) (truth_kept a x) ∙ ap (λ t. Gives (truth_value (or_of (truth_of x) t)) w) (truth_kept b y)
operated_kept _ a b x y w = refl

named_value : (home : Home) (r : Reference) (w : RunState) → held (content_of (nameable_of home r) w.storage w.locals) ≡ variable_value home r w
named_value home (At g) w = refl
named_value home (Local n) w = refl

-- a machine of a frame
abbrev pub from : List CallFrame → ℕ → Row → Cells → RunState → MachineState
from frames at stack cells w = machine_at at (desk_of stack cells) frames w.progress

module _ (code : ProgramParts) (p : Placement) (kept : ℕ) (frames : List CallFrame) where
  -- ---- one instruction

  pub pure_one : (i : Instr) (f : Value → Value) → kind_of i ≡ Pure 1 (of_one f) → (at to : ℕ) (v : Value) (stack : Row) (cells : Cells) (w : RunState)
      → at + 1 ≡ to → slice_get code.instrs at ≡ Some i → HoldState p w cells → ComesTo code p kept (from frames at (v ∷ stack) cells w) to (f v ∷ stack) w
  pure_one i f is at to v stack cells w e here holds =
      comes_by code p kept i at to (v ∷ stack) (f v ∷ stack) cells frames w w here e (ap (λ k. perform code k (from frames at (v ∷ stack) cells w)) is) holds (at_most w.progress.left)

  pure_two : (i : Instr) (f : Value → Value → Value) → kind_of i ≡ Pure 2 (of_operands f) → (at to : ℕ) (x y : Value) (stack : Row) (cells : Cells) (w : RunState)
      → at + 1 ≡ to → slice_get code.instrs at ≡ Some i → HoldState p w cells → ComesTo code p kept (from frames at (y ∷ x ∷ stack) cells w) to (f x y ∷ stack) w
  pure_two i f is at to x y stack cells w e here holds =
      comes_by code p kept i at to (y ∷ x ∷ stack) (f x y ∷ stack) cells frames w w here e (ap (λ k. perform code k (from frames at (y ∷ x ∷ stack) cells w)) is) holds (at_most w.progress.left)

  partial_one : (i : Instr) (f : Value → Result Value Fault) → kind_of i ≡ Partial 1 (of_one_or_fault f) → (at to : ℕ) (v : Value) (stack : Row) (cells : Cells) (w : RunState)
      → at + 1 ≡ to → slice_get code.instrs at ≡ Some i → HoldState p w cells → EvaluatesTo code p kept (from frames at (v ∷ stack) cells w) to stack (attempt (f v) w)
  partial_one i f is at to v stack cells w e here holds =
      attempt_evaluates code p kept i (f v) at to (v ∷ stack) stack cells frames w here e (ap (λ k. perform code k (from frames at (v ∷ stack) cells w)) is) holds

  partial_two : (i : Instr) (f : Value → Value → Result Value Fault) → kind_of i ≡ Partial 2 (of_two f) → (at to : ℕ) (x y : Value) (stack : Row) (cells : Cells) (w : RunState)
      → at + 1 ≡ to → slice_get code.instrs at ≡ Some i → HoldState p w cells → EvaluatesTo code p kept (from frames at (y ∷ x ∷ stack) cells w) to stack (attempt (f x y) w)
  partial_two i f is at to x y stack cells w e here holds =
      attempt_evaluates code p kept i (f x y) at to (y ∷ x ∷ stack) stack cells frames w here e (ap (λ k. perform code k (from frames at (y ∷ x ∷ stack) cells w)) is) holds

  -- ---- constants and variables

  constant_comes : (k : ℕ) (v : Value) (at to : ℕ) (stack : Row) (cells : Cells) (w : RunState) → at + 1 ≡ to → slice_get code.instrs at ≡ Some (instr.Const k)
      → perform code (kind_of (instr.Const k)) (from frames at stack cells w) ≡ GoesOn (from frames (at + 1) (v ∷ stack) cells w) → HoldState p w cells → ComesTo code p kept (from frames at stack cells w) to (v ∷ stack) w
  constant_comes k v at to stack cells w e here goes holds = comes_by code p kept (instr.Const k) at to stack (v ∷ stack) cells frames w w here e goes holds (at_most w.progress.left)

  pub constant_runs : (numbers : CodeNumbers) (v : Value) (ty : Ty) (at to : ℕ) (stack : Row) (cells : Cells) (w : RunState) → at + 1 ≡ to → HasConstant code numbers v ty
      → slice_get code.instrs at ≡ Some (constant_instr numbers v ty) → HoldState p w cells → ComesTo code p kept (from frames at stack cells w) to (v ∷ stack) w
  constant_runs numbers value.Null ty at to stack cells w e has here holds =
      comes_by code p kept (instr.Null ty) at to stack (value.Null ∷ stack) cells frames w w here e refl holds (at_most w.progress.left)
  constant_runs numbers (value.Int i) ty at to stack cells w e has here holds =
      constant_comes (numbers.constant (value.Int i) ty) (value.Int i) at to stack cells w e here (ap (λ x. GoesOn (from frames (at + 1) (x ∷ stack) cells w)) has) holds
  constant_runs numbers (value.Dec d) ty at to stack cells w e has here holds =
      constant_comes (numbers.constant (value.Dec d) ty) (value.Dec d) at to stack cells w e here (ap (λ x. GoesOn (from frames (at + 1) (x ∷ stack) cells w)) has) holds
  constant_runs numbers (value.Txt t) ty at to stack cells w e has here holds =
      constant_comes (numbers.constant (value.Txt t) ty) (value.Txt t) at to stack cells w e here (ap (λ x. GoesOn (from frames (at + 1) (x ∷ stack) cells w)) has) holds

  pub load_comes : (c : CodeCell) (x : Content) (ty : Ty) (at to : ℕ) (stack : Row) (cells : Cells) (w : RunState) → at + 1 ≡ to → IsValueCell c → CellHas c x cells
      → slice_get code.instrs at ≡ Some (load_instr (Some c) ty) → HoldState p w cells → ComesTo code p kept (from frames at stack cells w) to (held x ∷ stack) w
  load_comes (SlotCell n) x ty at to stack cells w e is has here holds =
      comes_by code p kept (instr.GLoad n) at to stack (held x ∷ stack) cells frames w w here e (ap (λ o. GoesOn (from frames (at + 1) (or_null o ∷ stack) cells w)) has) holds (at_most w.progress.left)
  load_comes (LocalCell n) x ty at to stack cells w e is has here holds =
      comes_by code p kept (instr.LLoad n) at to stack (held x ∷ stack) cells frames w w here e (ap (λ o. GoesOn (from frames (at + 1) (or_null o ∷ stack) cells w)) has) holds (at_most w.progress.left)
  load_comes (HashCell n) x ty at to stack cells w e is has here holds = absurd is
  load_comes (IteratorCell n) x ty at to stack cells w e is has here holds = absurd is
  load_comes (ParameterCell n) x ty at to stack cells w e is has here holds = absurd is

  pub variable_runs : (home : Home) (r : Reference) (c : CodeCell) (ty : Ty) (at to : ℕ) (stack : Row) (cells : Cells) (w : RunState) → at + 1 ≡ to → p.cell (nameable_of home r) ≡ Some c → IsValueCell c
      → slice_get code.instrs at ≡ Some (load_instr (p.cell (nameable_of home r)) ty) → HoldState p w cells → ComesTo code p kept (from frames at stack cells w) to (variable_value home r w ∷ stack) w
  variable_runs home r c ty at to stack cells w e placed is here holds =
      subst (λ v. ComesTo code p kept (from frames at stack cells w) to (v ∷ stack) w) (named_value home r w)
      (load_comes c (content_of (nameable_of home r) w.storage w.locals) ty at to stack cells w e is (holds.0 (nameable_of home r) c placed) (here ∙ ap (λ o. Some (load_instr o ty)) placed) holds)

  -- ---- conversions

  pub widening_runs : (b : Bool) (at to : ℕ) (v : Value) (stack : Row) (cells : Cells) (w : RunState) → at + length (widening_code b) ≡ to → StandsAt code.instrs at (widening_code b)
      → HoldState p w cells → ComesTo code p kept (from frames at (v ∷ stack) cells w) to ((if b then widened v else v) ∷ stack) w
  widening_runs true at to v stack cells w len has holds = pure_one instr.IToD widened refl at to v stack cells w len has.0 holds
  widening_runs false at to v stack cells w len has holds = comes_at_once code p kept at to (v ∷ stack) cells frames w (omega arith) holds

  pub truth_runs : (ty : Ty) (at to : ℕ) (v : Value) (stack : Row) (cells : Cells) (w : RunState) → at + length (truth_code ty) ≡ to → StandsAt code.instrs at (truth_code ty)
      → HoldState p w cells → ComesTo code p kept (from frames at (v ∷ stack) cells w) to (as_truth ty v ∷ stack) w
  truth_runs BigInt at to v stack cells w len has holds = comes_at_once code p kept at to (v ∷ stack) cells frames w (omega arith) holds
  truth_runs (DecimalOf p' s') at to v stack cells w len has holds = pure_one instr.DTruth (λ a. truth_value (truth_of a)) refl at to v stack cells w len has.0 holds
  truth_runs (Char n) at to v stack cells w len has holds = comes_at_once code p kept at to (v ∷ stack) cells frames w (omega arith) holds
  truth_runs (Varchar n) at to v stack cells w len has holds = comes_at_once code p kept at to (v ∷ stack) cells frames w (omega arith) holds

  pub operand_runs : (o : Operation) (ty : Ty) (at to : ℕ) (v : Value) (stack : Row) (cells : Cells) (w : RunState) → at + length (operand_code o ty) ≡ to → StandsAt code.instrs at (operand_code o ty)
      → HoldState p w cells → ComesTo code p kept (from frames at (v ∷ stack) cells w) to (as_operand o ty v ∷ stack) w
  operand_runs operation.And ty at to v stack cells w len has holds = truth_runs ty at to v stack cells w len has holds
  operand_runs operation.Or ty at to v stack cells w len has holds = truth_runs ty at to v stack cells w len has holds
  operand_runs _ ty at to v stack cells w len has holds = comes_at_once code p kept at to (v ∷ stack) cells frames w (omega arith) holds

  pub left_operand_runs : (b : Bool) (o : Operation) (ty : Ty) (at to : ℕ) (v : Value) (stack : Row) (cells : Cells) (w : RunState) → at + length (left_operand_code b o ty) ≡ to
      → StandsAt code.instrs at (left_operand_code b o ty) → HoldState p w cells
      → ComesTo code p kept (from frames at (v ∷ stack) cells w) to (as_operand o (widened_type b ty) (if b then widened v else v) ∷ stack) w
  left_operand_runs b o ty at to v stack cells w len has holds =
      let first = widening_code b in
      let second = operand_code o (widened_type b ty) in
      let mid = at + length first in
      let u = if b then widened v else v in
      let c = widening_runs b at mid v stack cells w refl (front_stands code.instrs at first second has) holds in
      comes_on code p kept (from frames at (v ∷ stack) cells w) mid to (u ∷ stack) (as_operand o (widened_type b ty) u ∷ stack) w w c
      (operand_runs o (widened_type b ty) mid to u stack c.cells w (omega (arith, length-append first second)) (back_stands code.instrs at mid first second refl has) c.holds)

  pub conversion_runs : (ty : Ty) (at to : ℕ) (v : Value) (stack : Row) (cells : Cells) (w : RunState) → at + length (conversion_code ty) ≡ to → StandsAt code.instrs at (conversion_code ty)
      → HoldState p w cells → EvaluatesTo code p kept (from frames at (v ∷ stack) cells w) to stack (converted ty v w)
  conversion_runs BigInt at to v stack cells w len has holds = comes_at_once code p kept at to (v ∷ stack) cells frames w (omega arith) holds
  conversion_runs (DecimalOf p' s') at to v stack cells w len has holds = partial_one (instr.Rescale p' s') (λ a. assign_of a (DecimalOf p' s')) refl at to v stack cells w len has.0 holds
  conversion_runs (Char n) at to v stack cells w len has holds = pure_one (instr.Pad n) (λ a. or_null_at_fault (assign_of a (Char n))) refl at to v stack cells w len has.0 holds
  conversion_runs (Varchar n) at to v stack cells w len has holds = pure_one (instr.Cut n) (λ a. or_null_at_fault (assign_of a (Varchar n))) refl at to v stack cells w len has.0 holds

  -- ---- operators

  not_runs : (ty : Ty) (at to : ℕ) (v : Value) (stack : Row) (cells : Cells) (w : RunState) → at + length (truth_code ty ++ instr.Not ∷ []) ≡ to → StandsAt code.instrs at (truth_code ty ++ instr.Not ∷ [])
      → HoldState p w cells → ComesTo code p kept (from frames at (v ∷ stack) cells w) to (truth_value (not_of (truth_of v)) ∷ stack) w
  not_runs ty at to v stack cells w len has holds =
      let first = truth_code ty in
      let mid = at + length first in
      let c = truth_runs ty at mid v stack cells w refl (front_stands code.instrs at first (instr.Not ∷ []) has) holds in
      let end : mid + 1 ≡ to = omega (arith, length-append first (instr.Not ∷ [])) in
      subst (λ t. ComesTo code p kept (from frames at (v ∷ stack) cells w) to (truth_value (not_of t) ∷ stack) w) (truth_kept ty v)
      (comes_on code p kept (from frames at (v ∷ stack) cells w) mid to (as_truth ty v ∷ stack) (truth_value (not_of (truth_of (as_truth ty v))) ∷ stack) w w c
      (pure_one instr.Not (λ a. truth_value (not_of (truth_of a))) refl mid to (as_truth ty v) stack c.cells w end (back_stands code.instrs at mid first (instr.Not ∷ []) refl has).0 c.holds))

  pub prefix_runs : (x : Prefix) (ty : Ty) (at to : ℕ) (v : Value) (stack : Row) (cells : Cells) (w : RunState) → at + length (prefix_code x ty) ≡ to → StandsAt code.instrs at (prefix_code x ty)
      → HoldState p w cells → EvaluatesTo code p kept (from frames at (v ∷ stack) cells w) to stack (prefixed x v w)
  prefix_runs prefix.IntegerNegate ty at to v stack cells w len has holds = partial_one instr.INeg negative_of refl at to v stack cells w len has.0 holds
  prefix_runs prefix.DecimalNegate ty at to v stack cells w len has holds = pure_one instr.DNeg (of_decimal decimal.neg) refl at to v stack cells w len has.0 holds
  prefix_runs prefix.Plus ty at to v stack cells w len has holds = comes_at_once code p kept at to (v ∷ stack) cells frames w (omega arith) holds
  prefix_runs prefix.Not ty at to v stack cells w len has holds = not_runs ty at to v stack cells w len has holds

  pub operation_runs : (o : Operation) (at to : ℕ) (x y : Value) (stack : Row) (cells : Cells) (w : RunState) → at + 1 ≡ to → slice_get code.instrs at ≡ Some (operation_instr o)
      → HoldState p w cells → EvaluatesTo code p kept (from frames at (y ∷ x ∷ stack) cells w) to stack (operated o x y w)
  operation_runs operation.IntegerAdd at to x y stack cells w e here holds = partial_two instr.IAdd sum_of refl at to x y stack cells w e here holds
  operation_runs operation.IntegerSubtract at to x y stack cells w e here holds = partial_two instr.ISub difference_of refl at to x y stack cells w e here holds
  operation_runs operation.IntegerMultiply at to x y stack cells w e here holds = partial_two instr.IMul product_of refl at to x y stack cells w e here holds
  operation_runs operation.DecimalAdd at to x y stack cells w e here holds = partial_two instr.DAdd (of_decimals decimal.add) refl at to x y stack cells w e here holds
  operation_runs operation.DecimalSubtract at to x y stack cells w e here holds = partial_two instr.DSub (of_decimals decimal.sub) refl at to x y stack cells w e here holds
  operation_runs operation.DecimalMultiply at to x y stack cells w e here holds = partial_two instr.DMul (of_decimals decimal.mul) refl at to x y stack cells w e here holds
  operation_runs operation.DecimalDivide at to x y stack cells w e here holds = partial_two instr.DDiv (of_decimals decimal.div) refl at to x y stack cells w e here holds
  operation_runs operation.Concatenate at to x y stack cells w e here holds =
      comes_by code p kept instr.Cat at to (y ∷ x ∷ stack) (concat_of (x ∷ y ∷ []) ∷ stack) cells frames w w here e refl holds (at_most w.progress.left)
  operation_runs operation.And at to x y stack cells w e here holds = pure_two instr.And (λ a b. truth_value (and_of (truth_of a) (truth_of b))) refl at to x y stack cells w e here holds
  operation_runs operation.Or at to x y stack cells w e here holds = pure_two instr.Or (λ a b. truth_value (or_of (truth_of a) (truth_of b))) refl at to x y stack cells w e here holds

  pub comparison_runs : (kind : TypeClass) (comparison : Comparison) (at to : ℕ) (x y : Value) (stack : Row) (cells : Cells) (w : RunState) → at + 1 ≡ to
      → slice_get code.instrs at ≡ Some (comparison_instr kind comparison) → HoldState p w cells → ComesTo code p kept (from frames at (y ∷ x ∷ stack) cells w) to (compared_of comparison x y ∷ stack) w
  comparison_runs Integers comparison at to x y stack cells w e here holds = pure_two (instr.ICmp comparison) (compared_of comparison) refl at to x y stack cells w e here holds
  comparison_runs Decimals comparison at to x y stack cells w e here holds = pure_two (instr.DCmp comparison) (compared_of comparison) refl at to x y stack cells w e here holds
  comparison_runs Texts comparison at to x y stack cells w e here holds = pure_two (instr.TCmp comparison) (compared_of comparison) refl at to x y stack cells w e here holds

  -- the operation of a link, from both its operands on: the right one as the operation takes it, the operation, and what follows
  pub link_runs : (o : Operation) (ty other : Ty) (at mid to : ℕ) (x y : Value) (stack : Row) (cells : Cells) (w : RunState) (go : Value → RunState → ExpressionEnd)
      → at + length (operand_code o other) ≡ mid → StandsAt code.instrs at (operand_code o other) → slice_get code.instrs mid ≡ Some (operation_instr o) → HoldState p w cells
      → ((v : Value) (u : RunState) (d : Cells) → HoldState p u d → EvaluatesTo code p kept (from frames (mid + 1) (v ∷ stack) d u) to stack (go v u))
      → EvaluatesTo code p kept (from frames at (y ∷ as_operand o ty x ∷ stack) cells w) to stack (then_operand (operated o x y w) go)
  link_runs o ty other at mid to x y stack cells w go len has here holds next =
      let left = as_operand o ty x in
      let right = as_operand o other y in
      let c = operand_runs o other at mid y (left ∷ stack) cells w len has holds in
      let m = from frames mid (right ∷ left ∷ stack) c.cells w in
      evaluates_on code p kept (from frames at (y ∷ left ∷ stack) cells w) mid to (right ∷ left ∷ stack) stack w (then_operand (operated o x y w) go) c
      (subst (λ r. EvaluatesTo code p kept m to stack (then_operand r go)) (operated_kept o ty other x y w)
      (operand_evaluates code p kept m (mid + 1) to stack stack (operated o left right w) go (operation_runs o mid (mid + 1) left right stack c.cells w refl here c.holds) next))
