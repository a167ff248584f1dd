-- How pieces of code are put together.
use Rattle.std.proofs.Common.{◌≡◌, ℕ, zero, suc, ◌+◌, ◌≤◌, List, [], ◌∷◌, ◌++◌, length, Some, Result, Ok, Err, ap, ◌∙◌, subst, arith}
use Rattle.std.specs.Prelude.{slice_get}
use Rattle.ds2_value.specs.Progress.{with_event}
use Rattle.ds2_value.specs.Row.{Row}
use Rattle.ds2_value.specs.Run.{Did}
use Rattle.ds2_value.specs.declared.fault.Fault.{Fault}
use Rattle.ds2_value.specs.declared.value.Value.{Value}
use Rattle.ds2_meaning.specs.RunState.{RunState, ExpressionEnd, Gives, Breaks, then_operand, attempt}
use Rattle.ds2_code.specs.declared.instr.Instr.{Instr}
use Rattle.ds2_code.specs.declared.parts.ProgramParts.{ProgramParts}
use Rattle.ds2_code.specs.CodeRun.{CallFrame, MachineState, CodeEnd, Broken, GoesOn, Stops, on_result, perform, after_instruction, and_one, then_run, run_code}
use Rattle.ds2_code.specs.Desk.{result_above}
use Rattle.ds2_code.specs.InstructionTable.{kind_of}
use Rattle.ds2_gen.specs.CodeCells.{Cells, kept_on, desk_of, Placement, IsPlacement, HoldState}
use Rattle.ds2_gen.specs.CodePieces.{StandsAt, EndsWith, LeadsOnTo, machine_at, ComesTo, EvaluatesTo}
use Rattle.ds2_gen.proofs.CellLemmas.{same_cell, same_cell_on}

-- ---- stretches of a list

pub front_stands : (all : List Instr) (at : ℕ) (xs ys : List Instr) → StandsAt all at (xs ++ ys) → StandsAt all at xs
front_stands all at [] ys h = tt
front_stands all at (x ∷ xs) ys h = (h.0, front_stands all (at + 1) xs ys h.1)

pub back_stands : (all : List Instr) (at mid : ℕ) (xs ys : List Instr) → at + length xs ≡ mid → StandsAt all at (xs ++ ys) → StandsAt all mid ys
back_stands all at mid [] ys e h = let n : at ≡ mid = omega arith in subst (λ k. StandsAt all k ys) n h
back_stands all at mid (x ∷ xs) ys e h = back_stands all (at + 1) mid xs ys (omega arith) h.1

pub at_most : (n : ℕ) → n ≤ n
at_most n = omega arith

pub no_more : (a b c : ℕ) → a ≤ b → b ≤ c → a ≤ c
no_more a b c h k = omega arith

-- the machine at a place of the same frame
abbrev pub behind : MachineState → ℕ → Row → Cells → RunState → MachineState
behind m at stack cells w = machine_at at (desk_of stack cells) m.frames w.progress

module _ (code : ProgramParts) where
  -- ---- runs

  pub stays : (m : MachineState) → LeadsOnTo code m m
  stays m = record { by = λ e h. h }

  pub leads_on : (m u v : MachineState) → LeadsOnTo code m u → LeadsOnTo code u v → LeadsOnTo code m v
  leads_on m u v a b = record { by = λ e h. a.by e (b.by e h) }

  -- one instruction
  pub one : (i : Instr) (m u : MachineState) → slice_get code.instrs m.at ≡ Some i → perform code (kind_of i) m ≡ GoesOn u → LeadsOnTo code m u
  one i m u here goes = record {
    by = λ e h. (suc h.0, ap (λ o. then_run (after_instruction code o m) (run_code code h.0)) here ∙ ap (λ x. then_run x (run_code code h.0)) goes ∙ ap and_one h.1);
  }

  -- the last instruction
  pub last : (i : Instr) (m : MachineState) (e : CodeEnd) → slice_get code.instrs m.at ≡ Some i → perform code (kind_of i) m ≡ Stops e → EndsWith code m e
  last i m e here stops = (suc zero, ap (λ o. then_run (after_instruction code o m) (run_code code zero)) here ∙ ap (λ x. then_run x (run_code code zero)) stops)

  module _ (p : Placement) (kept : ℕ) where
    -- ---- coming to a place

    pub comes_on : (m : MachineState) (mid to : ℕ) (stack after : Row) (w u : RunState) (c : ComesTo code p kept m mid stack w)
        → ComesTo code p kept (behind m mid stack c.cells w) to after u → ComesTo code p kept m to after u
    comes_on m mid to stack after w u c d = record {
      cells = d.cells;
      holds = d.holds;
      reserved = λ k is. same_cell_on k (kept_on m.desk) c.cells d.cells (c.reserved k is) (d.reserved k is);
      left = no_more u.progress.left w.progress.left m.progress.left d.left c.left;
      leads = leads_on m (behind m mid stack c.cells w) (behind m to after d.cells u) c.leads d.leads;
    }

    -- code that leaves more cells as they are
    pub comes_less : IsPlacement p → (more : ℕ) → kept ≤ more → (m : MachineState) (to : ℕ) (stack : Row) (w : RunState) → ComesTo code p more m to stack w → ComesTo code p kept m to stack w
    comes_less sound more least m to stack w c = record {
      cells = c.cells;
      holds = c.holds;
      reserved = λ k is. c.reserved k (sound.grows kept more k least is);
      left = c.left;
      leads = c.leads;
    }

    -- one instruction that changes no cell
    pub comes_by : (i : Instr) (at to : ℕ) (before after : Row) (cells : Cells) (frames : List CallFrame) (w u : RunState)
        → slice_get code.instrs at ≡ Some i → at + 1 ≡ to
        → perform code (kind_of i) (machine_at at (desk_of before cells) frames w.progress) ≡ GoesOn (machine_at (at + 1) (desk_of after cells) frames u.progress)
        → HoldState p u cells → u.progress.left ≤ w.progress.left
        → ComesTo code p kept (machine_at at (desk_of before cells) frames w.progress) to after u
    comes_by i at to before after cells frames w u here e goes holds left = record {
      cells = cells;
      holds = holds;
      reserved = λ k is. same_cell k cells;
      left = left;
      leads = subst (λ n. LeadsOnTo code (machine_at at (desk_of before cells) frames w.progress) (machine_at n (desk_of after cells) frames u.progress)) e
          (one i (machine_at at (desk_of before cells) frames w.progress) (machine_at (at + 1) (desk_of after cells) frames u.progress) here goes);
    }

    -- a jump
    pub jumps_by : (i : Instr) (at to : ℕ) (before after : Row) (cells : Cells) (frames : List CallFrame) (w u : RunState)
        → slice_get code.instrs at ≡ Some i
        → perform code (kind_of i) (machine_at at (desk_of before cells) frames w.progress) ≡ GoesOn (machine_at to (desk_of after cells) frames u.progress)
        → HoldState p u cells → u.progress.left ≤ w.progress.left
        → ComesTo code p kept (machine_at at (desk_of before cells) frames w.progress) to after u
    jumps_by i at to before after cells frames w u here goes holds left = record {
      cells = cells;
      holds = holds;
      reserved = λ k is. same_cell k cells;
      left = left;
      leads = one i (machine_at at (desk_of before cells) frames w.progress) (machine_at to (desk_of after cells) frames u.progress) here goes;
    }

    -- where there is no instruction
    pub comes_at_once : (at to : ℕ) (stack : Row) (cells : Cells) (frames : List CallFrame) (w : RunState) → at ≡ to → HoldState p w cells
        → ComesTo code p kept (machine_at at (desk_of stack cells) frames w.progress) to stack w
    comes_at_once at to stack cells frames w e holds = record {
      cells = cells;
      holds = holds;
      reserved = λ k is. same_cell k cells;
      left = at_most w.progress.left;
      leads = subst (λ n. LeadsOnTo code (machine_at at (desk_of stack cells) frames w.progress) (machine_at n (desk_of stack cells) frames w.progress)) e (stays (machine_at at (desk_of stack cells) frames w.progress));
    }

    -- ---- expressions

    pub evaluates_on : (m : MachineState) (mid to : ℕ) (stack below : Row) (w : RunState) (o : ExpressionEnd) (c : ComesTo code p kept m mid stack w)
        → EvaluatesTo code p kept (behind m mid stack c.cells w) to below o → EvaluatesTo code p kept m to below o
    evaluates_on m mid to stack below w (Gives v u) c g = comes_on m mid to stack (v ∷ below) w u c g
    evaluates_on m mid to stack below w (Breaks f u) c g = c.leads.by (Broken f u.progress) g

    -- an operand, and what is made of its value
    pub operand_evaluates : (m : MachineState) (mid to : ℕ) (under below : Row) (o : ExpressionEnd) (go : Value → RunState → ExpressionEnd)
        → EvaluatesTo code p kept m mid under o
        → ((v : Value) (w : RunState) (cells : Cells) → HoldState p w cells → EvaluatesTo code p kept (behind m mid (v ∷ under) cells w) to below (go v w))
        → EvaluatesTo code p kept m to below (then_operand o go)
    operand_evaluates m mid to under below (Gives v w) go g k = evaluates_on m mid to (v ∷ under) below w (go v w) g (k v w g.cells g.holds)
    operand_evaluates m mid to under below (Breaks f w) go g k = g

    -- an operation that may fault
    pub attempt_evaluates : (i : Instr) (r : Result Value Fault) (at to : ℕ) (before below : Row) (cells : Cells) (frames : List CallFrame) (w : RunState)
        → slice_get code.instrs at ≡ Some i → at + 1 ≡ to
        → perform code (kind_of i) (machine_at at (desk_of before cells) frames w.progress)
        ≡ on_result (Some (result_above below r (desk_of before cells))) (machine_at at (desk_of before cells) frames w.progress)
        → HoldState p w cells → EvaluatesTo code p kept (machine_at at (desk_of before cells) frames w.progress) to below (attempt r w)
    attempt_evaluates i (Ok v) at to before below cells frames w here e does holds =
        comes_by i at to before (v ∷ below) cells frames w (record { storage = w.storage; locals = w.locals; progress = with_event Did w.progress }) here e does holds (at_most w.progress.left)
    attempt_evaluates i (Err f) at to before below cells frames w here e does holds =
        last i (machine_at at (desk_of before cells) frames w.progress) _ here does
