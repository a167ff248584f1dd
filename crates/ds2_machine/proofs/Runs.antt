-- Runs, one instruction longer.
use Rattle.std.proofs.Common.{◌≡◌, ℕ, zero, suc, ◌+◌, ◌<◌, List, [], ◌++◌, Option, Some, None, refl, sym, ap, ◌∙◌, subst, add-one, append_assoc, Result, Ok, Err, IfOk}
use Rattle.std.specs.Prelude.{slice_get}
use Rattle.std.proofs.lemmas.List.{append-nil}
use Rattle.ds2_value.specs.Run.{Written}
use Rattle.ds2_code.specs.declared.instr.Instr.{Instr}
use Rattle.ds2_code.specs.declared.parts.ProgramParts.{ProgramParts}
use Rattle.ds2_code.specs.CodeBound.{HasBoundedJumps, work_left}
use Rattle.ds2_code.specs.CodeLaws.{InstructionsLeaveLess}
use Rattle.ds2_code.specs.CodeRun.{MachineState, CodeEnd, Stuck, NextState, GoesOn, Stops, perform, after_instruction, CodeRun, UnderWay, Over, and_one, then_run, run_code}
use Rattle.ds2_code.specs.InstructionTable.{Kind, kind_of}
use Rattle.ds2_machine.specs.declared.state.State.{State}
use Rattle.ds2_machine.specs.declared.state.Halt.{Halt}
use Rattle.ds2_machine.specs.declared.state.Halt.TheVariants as halt
use Rattle.ds2_machine.specs.MachineView.{UnitTold, nothing_told, machine_of_state, next_of_state, way_of_next, end_of_state, IsQuietStep, IsSunkStep, IsUnderWay, HasRunTo}
use Rattle.ds2_machine.specs.Sink.{SinkTakes}

module _ (code : ProgramParts) where
  still : (t : CodeRun) (u : MachineState) → and_one t ≡ UnderWay u → t ≡ UnderWay u
  still (UnderWay a) u q = q
  still (Over j e) u q = absurd cc

  -- what a longer run does, once a run of n instructions is known for each machine
  longer : (n : ℕ) (u : MachineState) (t : CodeRun) → ((w : MachineState) → run_code code n w ≡ UnderWay u → run_code code (suc n) w ≡ t) → (x : NextState) → then_run x (run_code code n) ≡ UnderWay u → then_run x (run_code code (suc n)) ≡ and_one t
  longer n u t ih (Stops e) k = absurd cc
  longer n u t ih (GoesOn w) k = ap and_one (ih w (still (run_code code n w) u k))

  further : (n : ℕ) (m u v : MachineState) → run_code code n m ≡ UnderWay u → after_instruction code (slice_get code.instrs u.at) u ≡ GoesOn v → run_code code (suc n) m ≡ UnderWay v
  further zero m u v h s =
      let e : m ≡ u = cc in
      ap (λ (z : MachineState). then_run (after_instruction code (slice_get code.instrs z.at) z) (run_code code zero)) e ∙ ap (λ x. then_run x (run_code code zero)) s
  further (suc n) m u v h s = longer n u (UnderWay v) (λ w k. further n w u v k s) (after_instruction code (slice_get code.instrs m.at) m) h

  finished : (n : ℕ) (m u : MachineState) (e : CodeEnd) → run_code code n m ≡ UnderWay u → after_instruction code (slice_get code.instrs u.at) u ≡ Stops e → run_code code (suc n) m ≡ Over (suc n) e
  finished zero m u e h s =
      let same : m ≡ u = cc in
      ap (λ (z : MachineState). then_run (after_instruction code (slice_get code.instrs z.at) z) (run_code code zero)) same ∙ ap (λ x. then_run x (run_code code zero)) s
  finished (suc n) m u e h s = longer n u (Over (suc n) e) (λ w k. finished n w u e k s) (after_instruction code (slice_get code.instrs m.at) m) h

  pub works_less : InstructionsLeaveLess → HasBoundedJumps code.instrs → (i : Instr) (old new : State) (o : Option Halt) {S : Type 0} (has_taken : S → S → List Written → List (List ℕ) → Type 0) (before after : S) → slice_get code.instrs old.at ≡ Some i
      → IsSunkStep has_taken before after (λ told. perform code (kind_of i) (machine_of_state old told)) new o → o ≡ None → work_left code.instrs (machine_of_state new nothing_told) < work_left code.instrs (machine_of_state old nothing_told)
  works_less law bounded i old new o has_taken before after here step is =
      let x = perform code (kind_of i) (machine_of_state old nothing_told) in
      law code (machine_of_state old nothing_told) (machine_of_state new (record { way = way_of_next x; rows = [] ++ step.rows; lines = [] ++ step.lines })) bounded
      (ap (λ z. after_instruction code z (machine_of_state old nothing_told)) here ∙ step.next nothing_told ∙ ap (λ z. next_of_state z new (record { way = way_of_next x; rows = [] ++ step.rows; lines = [] ++ step.lines })) is)

module _ {S : Type 0} (has_taken : S → S → List Written → List (List ℕ) → Type 0) where
  pub nothing_taken : (s : S) → SinkTakes has_taken s s [] []
  nothing_taken s from rows lines h =
      let P : List Written → Type 0 = λ r. has_taken from s r (lines ++ []) in
      let Q : List (List ℕ) → Type 0 = λ l. has_taken from s rows l in
      subst P (sym (append-nil rows)) (subst Q (sym (append-nil lines)) h)

  taken_more : (a b c : S) (rows more : List Written) (lines further_lines : List (List ℕ)) → SinkTakes has_taken a b rows lines → SinkTakes has_taken b c more further_lines → SinkTakes has_taken a c (rows ++ more) (lines ++ further_lines)
  taken_more a b c rows more lines further_lines first second from so_far said h =
      let P : List Written → Type 0 = λ r. has_taken from c r (said ++ (lines ++ further_lines)) in
      let Q : List (List ℕ) → Type 0 = λ l. has_taken from c ((so_far ++ rows) ++ more) l in
      subst P (append_assoc so_far rows more) (subst Q (append_assoc said lines further_lines) (second from (so_far ++ rows) (said ++ lines) (first from so_far said h)))

  -- what writes nothing leaves the sink as it is
  pub quiet : (sink : S) (step : UnitTold → NextState) (s : State) (h : Option Halt) → ((told : UnitTold) → IsQuietStep (step told) told s h) → IsSunkStep has_taken sink sink step s h
  quiet sink step s h q = record {
    rows = [];
    lines = [];
    taken = nothing_taken sink;
    next = λ told. q told ∙ ap (λ r. next_of_state h s (record { way = way_of_next (step told); rows = r; lines = told.lines })) (sym (append-nil told.rows))
        ∙ ap (λ l. next_of_state h s (record { way = way_of_next (step told); rows = told.rows ++ []; lines = l })) (sym (append-nil told.lines));
  }

  pub quiet_all : {E : Type 0} (sink : S) (step : UnitTold → NextState) (s : State) (r : Result (Option Halt) E) → IfOk r (λ h. (told : UnitTold) → IsQuietStep (step told) told s h) → IfOk r (λ h. IsSunkStep has_taken sink sink step s h)
  quiet_all sink step s (Ok h) q = quiet sink step s h q
  quiet_all sink step s (Err e) q = tt

  module _ (code : ProgramParts) where
    pub under_way_at_first : (sink : S) (s : State) → IsUnderWay has_taken sink sink code (machine_of_state s nothing_told) 0 s
    under_way_at_first sink s = record { told = nothing_told; run = refl; taken = nothing_taken sink }

    module _ (first before after : S) (n : ℕ) (m : MachineState) (i : Instr) (old new : State) (o : Option Halt) (so_far : IsUnderWay has_taken first before code m n old) (here : slice_get code.instrs old.at ≡ Some i) (step : IsSunkStep has_taken before after (λ told. perform code (kind_of i) (machine_of_state old told)) new o) where
      pub goes_on : o ≡ None → IsUnderWay has_taken first after code m (n + 1) new
      goes_on is = record {
        told = record { way = way_of_next (perform code (kind_of i) (machine_of_state old so_far.told)); rows = so_far.told.rows ++ step.rows; lines = so_far.told.lines ++ step.lines };
        run = ap (λ k. run_code code k m) (add-one n) ∙ further code n m (machine_of_state old so_far.told) _ so_far.run
            (ap (λ z. after_instruction code z (machine_of_state old so_far.told)) here ∙ step.next so_far.told ∙ ap (λ z. next_of_state z new (record { way = way_of_next (perform code (kind_of i) (machine_of_state old so_far.told)); rows = so_far.told.rows ++ step.rows; lines = so_far.told.lines ++ step.lines })) is);
        taken = taken_more first before after so_far.told.rows step.rows so_far.told.lines step.lines so_far.taken step.taken;
      }

      pub ends_so : (e : Halt) → o ≡ Some e → HasRunTo has_taken first after code m (n + 1) e new
      ends_so e is = record {
        told = record { way = way_of_next (perform code (kind_of i) (machine_of_state old so_far.told)); rows = so_far.told.rows ++ step.rows; lines = so_far.told.lines ++ step.lines };
        run = rw (add-one n) (finished code n m (machine_of_state old so_far.told) _ so_far.run
            (ap (λ z. after_instruction code z (machine_of_state old so_far.told)) here ∙ step.next so_far.told ∙ ap (λ z. next_of_state z new (record { way = way_of_next (perform code (kind_of i) (machine_of_state old so_far.told)); rows = so_far.told.rows ++ step.rows; lines = so_far.told.lines ++ step.lines })) is));
        taken = taken_more first before after so_far.told.rows step.rows so_far.told.lines step.lines so_far.taken step.taken;
      }

    pub stuck_so : (first now : S) (n : ℕ) (m : MachineState) (old : State) → IsUnderWay has_taken first now code m n old → slice_get code.instrs old.at ≡ None → HasRunTo has_taken first now code m (n + 1) halt.Stuck old
    stuck_so first now n m old so_far here = record {
      told = so_far.told;
      run = rw (add-one n) (finished code n m (machine_of_state old so_far.told) Stuck so_far.run (ap (λ z. after_instruction code z (machine_of_state old so_far.told)) here));
      taken = so_far.taken;
    }
