-- A run with so much work to do is over after so many instructions, and has one end.
use Rattle.std.proofs.Common.{◌≡◌, ℕ, zero, suc, ◌<◌, ◌≤◌, Option, Some, None, refl, sym, ap, ◌∙◌, arith}
use Rattle.std.specs.Prelude.{slice_get}
use Rattle.ds2_code.specs.declared.instr.Instr.{Instr}
use Rattle.ds2_code.specs.declared.parts.ProgramParts.{ProgramParts}
use Rattle.ds2_code.specs.CodeBound.{HasBoundedJumps, work_left}
use Rattle.ds2_code.specs.CodeLaws.{RunHasOneEnd, InstructionsLeaveLess, UnitsBeginWithLittle, HasComeToAnEnd, UnitsEndInTime}
use Rattle.ds2_code.specs.CodeRun.{MachineState, CodeEnd, NextState, GoesOn, Stops, perform, after_instruction, CodeRun, UnderWay, Over, and_one, then_run, run_code}
use Rattle.ds2_code.specs.CodeUnit.{unit_begun, most_executed}
use Rattle.ds2_code.specs.InstructionTable.{kind_of}
use Rattle.ds2_code.proofs.WorkFalls.{some_work, most_work}
use Rattle.ds2_code.proofs.InstructionsFall.{instruction_falls}

module _ (code : ProgramParts) (bounded : HasBoundedJumps code.instrs) where
  within_more : (n : ℕ) (s : CodeRun) → HasComeToAnEnd code n s → HasComeToAnEnd code (suc n) (and_one s)
  within_more n (UnderWay m) h = h
  within_more n (Over k e) h = omega (arith, h)

  abbrev Ended : ℕ → Type 0
  Ended n = (m : MachineState) → work_left code.instrs m ≤ n → HasComeToAnEnd code n (run_code code n m)

  none_left : (m : MachineState) (o : Option Instr) → slice_get code.instrs m.at ≡ o → work_left code.instrs m ≤ 0 → slice_get code.instrs m.at ≡ None
  none_left m None here h = here
  none_left m (Some i) here h = absurd (omega (arith, some_work code.instrs m.at m.frames m.progress.left i here, h))

  after : (n : ℕ) (m : MachineState) (i : Instr) (x : NextState) → Ended n → slice_get code.instrs m.at ≡ Some i → perform code (kind_of i) m ≡ x → work_left code.instrs m ≤ suc n → HasComeToAnEnd code (suc n) (then_run x (run_code code n))
  after n m i (GoesOn u) ih here is h = within_more n (run_code code n u) (ih u (omega (arith, instruction_falls code m i here bounded u is, h)))
  after n m i (Stops e) ih here is h = omega arith

  next : (n : ℕ) (m : MachineState) (o : Option Instr) → Ended n → slice_get code.instrs m.at ≡ o → work_left code.instrs m ≤ suc n → HasComeToAnEnd code (suc n) (then_run (after_instruction code o m) (run_code code n))
  next n m None ih here h = omega arith
  next n m (Some i) ih here h = after n m i (perform code (kind_of i) m) ih here refl h

  pub ended : (n : ℕ) → Ended n
  ended zero m h = none_left m (slice_get code.instrs m.at) refl h
  ended (suc n) m h = next n m (slice_get code.instrs m.at) (ended n) refl h

pub units_begin_with_little : UnitsBeginWithLittle
units_begin_with_little code entry budget state = most_work code.instrs entry budget

falls_by : (code : ProgramParts) (m u : MachineState) (o : Option Instr) → HasBoundedJumps code.instrs → slice_get code.instrs m.at ≡ o → after_instruction code o m ≡ GoesOn u → work_left code.instrs u < work_left code.instrs m
falls_by code m u None bounded here h = absurd cc
falls_by code m u (Some i) bounded here h = instruction_falls code m i here bounded u h

pub instructions_leave_less : InstructionsLeaveLess
instructions_leave_less code m u bounded h = falls_by code m u (slice_get code.instrs m.at) bounded refl h

pub units_end_in_time : UnitsEndInTime
units_end_in_time code entry budget state bounded =
    ended code bounded (most_executed code budget) (unit_begun entry budget state) (most_work code.instrs entry budget)

-- what a longer run_code says of the rest
abbrev pub Before : CodeRun → ℕ → CodeEnd → Type 0
Before s k e = (j : ℕ) × (s ≡ Over j e) × (k ≡ suc j)

pub one_less : (s : CodeRun) (k : ℕ) (e : CodeEnd) → and_one s ≡ Over k e → Before s k e
one_less (UnderWay m) k e h = absurd cc
one_less (Over j f) k e h = let same : f ≡ e = cc in let n : k ≡ suc j = cc in (j, ap (λ z. Over j z) same, n)

module _ (code : ProgramParts) where
  abbrev Agrees : ℕ → Type 0
  Agrees n = (k i j : ℕ) (m : MachineState) (e f : CodeEnd) → run_code code n m ≡ Over i e → run_code code k m ≡ Over j f → (i ≡ j) × (e ≡ f)

  same_pair : (n : ℕ) → Agrees n → (k i j : ℕ) (x : NextState) (e f : CodeEnd) → then_run x (run_code code n) ≡ Over i e → then_run x (run_code code k) ≡ Over j f → (i ≡ j) × (e ≡ f)
  same_pair n ih k i j (GoesOn m) e f g h =
      let a = one_less (run_code code n m) i e g in
      let b = one_less (run_code code k m) j f h in
      let r = ih k a.0 b.0 m e f a.1 b.1 in
      (a.2 ∙ ap (λ z. suc z) r.0 ∙ sym b.2, r.1)
  same_pair n ih k i j (Stops d) e f g h = (cc, cc)

  pub one_end : (n : ℕ) → Agrees n
  one_end zero k i j m e f g h = absurd cc
  one_end (suc n) zero i j m e f g h = absurd cc
  one_end (suc n) (suc k) i j m e f g h = same_pair n (one_end n) k i j (after_instruction code (slice_get code.instrs m.at) m) e f g h

pub run_has_one_end : RunHasOneEnd
run_has_one_end code n k i j m e f g h = one_end code n k i j m e f g h
