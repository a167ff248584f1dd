-- Functions of several arguments: their values come onto the operands in order, and the function takes them all off.
use Rattle.std.proofs.Common.{◌≡◌, ℕ, zero, suc, ◌+◌, List, [], ◌∷◌, ◌++◌, length, Option, Some, Result, refl, ap, ◌∙◌, arith, append-nil}
use Rattle.std.specs.Prelude.{fold, slice_get}
use Rattle.ds2_value.specs.Functions.{first_of, lesser_of, greater_of}
use Rattle.ds2_value.specs.Operations.{of_one}
use Rattle.ds2_value.specs.Row.{Row}
use Rattle.ds2_value.specs.ValueFunctions.{function_row, function_value}
use Rattle.ds2_value.specs.declared.fault.Fault.{Fault}
use Rattle.ds2_value.specs.declared.value.Value.{Value}
use Rattle.ds2_value.specs.declared.value.Value.TheVariants.{Null}
use Rattle.ds2_meaning.specs.declared.expressions.Function.{Function}
use Rattle.ds2_meaning.specs.declared.expressions.Function.TheVariants as function
use Rattle.ds2_meaning.specs.Evaluation.{with_one_more, then_others, then_all}
use Rattle.ds2_meaning.specs.RunState.{RunState, ExpressionEnd, Gives, Breaks, ExpressionsEnd, GiveAll, BreakAt, attempt}
use Rattle.ds2_meaning.specs.ValueOperations.{applied}
use Rattle.ds2_code.specs.declared.instr.Instr.{Instr}
use Rattle.ds2_code.specs.declared.instr.Instr.TheVariants as instr
use Rattle.ds2_code.specs.declared.parts.ProgramParts.{ProgramParts}
use Rattle.ds2_code.specs.CodeRun.{CallFrame, MachineState, Broken, on_desk, on_result, perform}
use Rattle.ds2_code.specs.Desk.{Taken, take_off, with_value_for, with_result_for}
use Rattle.ds2_code.specs.InstructionTable.{Pure, Partial, kind_of}
use Rattle.ds2_gen.specs.CallPieces.{stacked}
use Rattle.ds2_gen.specs.CodeCells.{Cells, desk_of, Placement, HoldState}
use Rattle.ds2_gen.specs.CodePieces.{StandsAt, EndsWith, ComesTo, EvaluatesTo}
use Rattle.ds2_gen.specs.CoveredForms.{TakesCount}
use Rattle.ds2_gen.specs.ExpressionCode.{function_code}
use Rattle.ds2_gen.proofs.PieceLemmas.{at_most, behind, comes_on, comes_by, comes_at_once, evaluates_on, attempt_evaluates}
use Rattle.ds2_gen.proofs.StepLemmas.{from}

-- ---- values above operands

taken_some : (vs acc : List Value) (below : Row) (k n : ℕ) → length vs + k ≡ n → take_off n acc (stacked vs below) ≡ take_off k (vs ++ acc) below
taken_some [] acc below k n e = let same : n ≡ k = omega arith in ap (λ j. take_off j acc below) same
taken_some (v ∷ vs) acc below k n e = taken_some vs acc (v ∷ below) (suc k) n (omega arith)

pub taken_all : (vs : List Value) (below : Row) (n : ℕ) → length vs ≡ n → take_off n [] (stacked vs below) ≡ Some (record { values = vs; below = below })
taken_all vs below n e =
    let named : List Value → Option Taken = λ values. Some (record { values = values; below = below }) in
    taken_some vs [] below zero n (omega arith) ∙ ap named (append-nil vs)

module _ (code : ProgramParts) (p : Placement) (kept : ℕ) where
  -- the code of expressions in order: so many values come above the operands, or the first fault ends the run
  abbrev pub AllEvaluateTo : ℕ → MachineState → ℕ → Row → ExpressionsEnd → Type 0
  AllEvaluateTo n m to below (GiveAll vs w) = (length vs ≡ n) × ComesTo code p kept m to (stacked vs below) w
  AllEvaluateTo n m to below (BreakAt f w) = EndsWith code m (Broken f w.progress)

  pub one_more : (n : ℕ) (m : MachineState) (mid to : ℕ) (v : Value) (below : Row) (w : RunState) (o : ExpressionsEnd) (c : ComesTo code p kept m mid (v ∷ below) w)
      → AllEvaluateTo n (behind m mid (v ∷ below) c.cells w) to (v ∷ below) o → AllEvaluateTo (suc n) m to below (with_one_more v o)
  one_more n m mid to v below w (GiveAll vs u) c g = (ap suc g.0, comes_on code p kept m mid to (v ∷ below) (stacked vs (v ∷ below)) w u c g.1)
  one_more n m mid to v below w (BreakAt f u) c g = c.leads.by (Broken f u.progress) g

  -- an expression and those behind it
  pub others_evaluate : (n : ℕ) (m : MachineState) (mid to : ℕ) (below : Row) (o : ExpressionEnd) (go : RunState → ExpressionsEnd) → EvaluatesTo code p kept m mid below o
      → ((v : Value) (w : RunState) (d : Cells) → HoldState p w d → AllEvaluateTo n (behind m mid (v ∷ below) d w) to (v ∷ below) (go w))
      → AllEvaluateTo (suc n) m to below (then_others o go)
  others_evaluate n m mid to below (Gives v w) go g k = one_more n m mid to v below w (go w) g (k v w g.cells g.holds)
  others_evaluate n m mid to below (Breaks f w) go g k = g

  -- all of them, and what is made of their values
  pub all_evaluate : (n : ℕ) (m : MachineState) (mid to : ℕ) (below : Row) (o : ExpressionsEnd) (go : List Value → RunState → ExpressionEnd) → AllEvaluateTo n m mid below o
      → ((vs : List Value) (w : RunState) (d : Cells) → length vs ≡ n → HoldState p w d → EvaluatesTo code p kept (behind m mid (stacked vs below) d w) to below (go vs w))
      → EvaluatesTo code p kept m to below (then_all o go)
  all_evaluate n m mid to below (GiveAll vs w) go g k = evaluates_on code p kept m mid to (stacked vs below) below w (go vs w) g.1 (k vs w g.1.cells g.0 g.1.holds)
  all_evaluate n m mid to below (BreakAt f w) go g k = g

  module _ (frames : List CallFrame) where
    pure_many : (i : Instr) (n : ℕ) (f : Row → Value) → kind_of i ≡ Pure n f → (at to : ℕ) (vs : List Value) (below : Row) (cells : Cells) (w : RunState) → length vs ≡ n
        → at + 1 ≡ to → slice_get code.instrs at ≡ Some i → HoldState p w cells → ComesTo code p kept (from frames at (stacked vs below) cells w) to (f vs ∷ below) w
    pure_many i n f is at to vs below cells w count e here holds =
        let m = from frames at (stacked vs below) cells w in
        comes_by code p kept i at to (stacked vs below) (f vs ∷ below) cells frames w w here e
        (ap (λ k. perform code k m) is ∙ ap (λ t. on_desk (with_value_for f t (desk_of (stacked vs below) cells)) m) (taken_all vs below n count)) holds (at_most w.progress.left)

    partial_many : (i : Instr) (n : ℕ) (f : Row → Result Value Fault) → kind_of i ≡ Partial n f → (at to : ℕ) (vs : List Value) (below : Row) (cells : Cells) (w : RunState) → length vs ≡ n
        → at + 1 ≡ to → slice_get code.instrs at ≡ Some i → HoldState p w cells → EvaluatesTo code p kept (from frames at (stacked vs below) cells w) to below (attempt (f vs) w)
    partial_many i n f is at to vs below cells w count e here holds =
        let m = from frames at (stacked vs below) cells w in
        attempt_evaluates code p kept i (f vs) at to (stacked vs below) below cells frames w here e
        (ap (λ k. perform code k m) is ∙ ap (λ t. on_result (with_result_for f t (desk_of (stacked vs below) cells)) m) (taken_all vs below n count)) holds

    unchanged_runs : (at to : ℕ) (vs : List Value) (below : Row) (cells : Cells) (w : RunState) → length vs ≡ 1 → at ≡ to → HoldState p w cells
        → ComesTo code p kept (from frames at (stacked vs below) cells w) to (of_one (λ v. v) vs ∷ below) w
    unchanged_runs at to [] below cells w count e holds = absurd (omega arith)
    unchanged_runs at to (a ∷ []) below cells w count e holds = comes_at_once code p kept at to (a ∷ below) cells frames w e holds
    unchanged_runs at to (a ∷ b ∷ vs) below cells w count e holds = absurd (omega arith)

    pub function_runs : (f : Function) (n at to : ℕ) (vs : List Value) (below : Row) (cells : Cells) (w : RunState) → length vs ≡ n → TakesCount f n → at + length (function_code f n) ≡ to
        → StandsAt code.instrs at (function_code f n) → HoldState p w cells → EvaluatesTo code p kept (from frames at (stacked vs below) cells w) to below (applied f vs w)
    function_runs (function.Value f) n at to vs below cells w count takes e has holds =
        partial_many (instr.Apply f) (length (function_row f).operands) (function_value f) refl at to vs below cells w (count ∙ takes) e has.0 holds
    function_runs function.Coalesce n at to vs below cells w count takes e has holds = pure_many (instr.Choose n) n (fold first_of Null) refl at to vs below cells w count e has.0 holds
    function_runs function.Least n at to vs below cells w count takes e has holds = pure_many (instr.Least n) n (fold lesser_of Null) refl at to vs below cells w count e has.0 holds
    function_runs function.Greatest n at to vs below cells w count takes e has holds = pure_many (instr.Greatest n) n (fold greater_of Null) refl at to vs below cells w count e has.0 holds
    function_runs function.Unchanged n at to vs below cells w count takes e has holds = unchanged_runs at to vs below cells w (count ∙ takes) (omega arith) holds
