-- Rows are written: the slots of an output's columns hold the values of its variables.
use Rattle.std.proofs.Common.{◌≡◌, ℕ, ◌+◌, List, [], ◌∷◌, length, Some, refl, sym, ap, ◌∙◌, subst, arith}
use Rattle.std.specs.Prelude.{slice_get}
use Rattle.ds2_value.specs.Progress.{with_written}
use Rattle.ds2_value.specs.Row.{Row}
use Rattle.ds2_value.specs.Value.{or_null}
use Rattle.ds2_meaning.specs.declared.location.Global.TheVariants.{Named}
use Rattle.ds2_meaning.specs.declared.location.Reference.TheVariants.{At}
use Rattle.ds2_meaning.specs.Execution.{projected_row, write_one, write_each}
use Rattle.ds2_meaning.specs.RunState.{RunState, variable_value, write_row}
use Rattle.ds2_code.specs.declared.instr.Instr.TheVariants as instr
use Rattle.ds2_code.specs.declared.parts.ProgramParts.{ProgramParts}
use Rattle.ds2_code.specs.CodeRun.{CallFrame, GoesOn, on_output, column_slots}
use Rattle.ds2_code.specs.Desk.{values_of_slots}
use Rattle.ds2_gen.specs.CodeCells.{nameable_of, SlotCell, Cells, desk_of, HoldState}
use Rattle.ds2_gen.specs.CodePieces.{StandsAt, machine_at, ComesTo}
use Rattle.ds2_gen.specs.CoveredForms.{AreSourceSlots, HasOutput, HaveOutputs}
use Rattle.ds2_gen.specs.ExpressionCode.{CodeNumbers}
use Rattle.ds2_gen.specs.StatementCode.{outputs_code}
use Rattle.ds2_gen.proofs.PieceLemmas.{at_most, comes_on, comes_by, comes_at_once}
use Rattle.ds2_gen.proofs.WayLemmas.{idle}

module _ (numbers : CodeNumbers) (w : RunState) (cells : Cells) (holds : HoldState numbers.placement w cells) where
  -- the values of the slots are those of the variables
  row_is : (sources : List (List ℕ)) (slots : List ℕ) → AreSourceSlots numbers sources slots → values_of_slots slots cells.state.slots ≡ projected_row numbers.home sources w
  row_is [] [] are = refl
  row_is [] (n ∷ slots) are = absurd are
  row_is (name ∷ sources) [] are = absurd are
  row_is (name ∷ sources) (n ∷ slots) are =
      let first : or_null (slice_get cells.state.slots n) ≡ variable_value numbers.home (At (Named name)) w = ap or_null (holds.0 (nameable_of numbers.home (At (Named name))) (SlotCell n) are.0) in
      ap (λ v. v ∷ values_of_slots slots cells.state.slots) first ∙ ap (λ r. variable_value numbers.home (At (Named name)) w ∷ r) (row_is sources slots are.1)

module _ (code : ProgramParts) (numbers : CodeNumbers) (kept : ℕ) (frames : List CallFrame) where
  -- a row is written to one output
  write_comes : (n at : ℕ) (cells : Cells) (w : RunState) (h : HasOutput code numbers n) → slice_get code.instrs at ≡ Some (instr.Output n) → HoldState numbers.placement w cells
      → ComesTo code numbers.placement kept (idle frames at cells w) (at + 1) [] (write_row n (projected_row numbers.home h.sources w) w)
  write_comes n at cells w h here holds =
      let m = idle frames at cells w in
      let u = write_row n (projected_row numbers.home h.sources w) w in
      comes_by code numbers.placement kept (instr.Output n) at (at + 1) [] [] cells frames w u here refl
      (ap (λ o. on_output n o m) h.coded ∙ ap (λ (r : Row). GoesOn (machine_at (at + 1) (desk_of [] cells) frames (with_written n r w.progress))) (row_is numbers w cells holds h.sources (column_slots h.part) h.slots))
      holds (at_most w.progress.left)

  -- and to each of several
  pub writes_run : (ns : List ℕ) (at to : ℕ) (cells : Cells) (w : RunState) → at + length (outputs_code ns) ≡ to → HaveOutputs code numbers ns → StandsAt code.instrs at (outputs_code ns)
      → HoldState numbers.placement w cells → ComesTo code numbers.placement kept (idle frames at cells w) to [] (write_each numbers.home numbers.outputs ns w)
  writes_run [] at to cells w len have has holds = comes_at_once code numbers.placement kept at to [] cells frames w (omega arith) holds
  writes_run (n ∷ ns) at to cells w len have has holds =
      let u = write_row n (projected_row numbers.home have.0.sources w) w in
      let c = write_comes n at cells w have.0 has.0 holds in
      subst (λ o. ComesTo code numbers.placement kept (idle frames at cells w) to [] (write_each numbers.home numbers.outputs ns (write_one numbers.home o n w))) (sym have.0.meant)
      (comes_on code numbers.placement kept (idle frames at cells w) (at + 1) to [] [] u (write_each numbers.home numbers.outputs ns u) c
      (writes_run ns (at + 1) to c.cells u (omega arith) have.1 has.1 c.holds))
