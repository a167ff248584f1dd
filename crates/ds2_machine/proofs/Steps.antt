-- What one instruction leads to, by its kind.
use Rattle.std.proofs.Common.{◌≡◌, ℕ, ◌+◌, List, [], ◌∷◌, ◌++◌, Option, Some, None, drop, refl, sym, ap, ◌∙◌, subst, Result, Ok, Err, IfOk}
use Rattle.std.specs.Prelude.{slice_get, map}
use Rattle.std.specs.List.{join_with_byte}
use Rattle.std.proofs.lemmas.List.{append-nil}
use Rattle.ds2_value.specs.Row.{Row}
use Rattle.ds2_value.specs.Run.{Event, Did, Failed, Written}
use Rattle.ds2_value.specs.Progress.{Progress, with_line}
use Rattle.ds2_value.specs.declared.fault.Fault.{Fault}
use Rattle.ds2_value.specs.declared.value.Value.{Value}
use Rattle.ds2_code.specs.declared.parts.ProgramParts.{ProgramParts}
use Rattle.ds2_code.specs.CodeRun.{MachineState, CodeEnd, Stuck, NextState, GoesOn, Stops, perform, goes_to, on_desk, on_result, on_output, on_texts, operand_text, column_slots}
use Rattle.ds2_code.specs.Desk.{Taken, take_off, values_of_slots, with_stack, with_value_for, with_result_for, result_above}
use Rattle.ds2_code.specs.InstructionTable.{Kind, Pure, Partial, Loads, Stores, Drops, CallsHash, CallsIterator, Writes, Puts, Ticks, Jumps, Tests, Enters, GoesBack, Raises, Finishes}
use Rattle.ds2_machine.specs.MachineView.{UnitTold, desk_of_state, machine_of_state, progress_of_state, end_of_state, next_of_state, way_of_next, waiting_frames, IsQuietStep, IsSunkStep}
use Rattle.ds2_code.specs.declared.parts.OutputPart.{OutputPart}
use Rattle.ds2_machine.specs.Sink.{SinkTakes}
use Rattle.ds2_machine.proofs.Runs.{nothing_taken}
use Rattle.ds2_frames.specs.PileView.{PileView}
use Rattle.ds2_frames.specs.OperationKinds.{operation_operands, operation_result}
use Rattle.ds2_machine.specs.declared.state.Halt.{Halt}
use Rattle.ds2_machine.specs.declared.state.Halt.TheVariants as halt
use Rattle.ds2_machine.specs.declared.state.State.{State}

-- ---- by the kind of an instruction

pub quiet_of_kind : {E : Type 0} (code : ProgramParts) (kind k : Kind) (old new : State) (r : Result (Option Halt) E) → kind ≡ k
    → IfOk r (λ h. (told : UnitTold) → IsQuietStep (perform code k (machine_of_state old told)) told new h)
    → IfOk r (λ h. (told : UnitTold) → IsQuietStep (perform code kind (machine_of_state old told)) told new h)
quiet_of_kind code kind k old new r is q =
    let P : Kind → Type 0 = λ z. IfOk r (λ h. (told : UnitTold) → IsQuietStep (perform code z (machine_of_state old told)) told new h) in
    subst P (sym is) q

pub sunk_of_kind : {S E : Type 0} (has_taken : S → S → List Written → List (List ℕ) → Type 0) (before after : S) (code : ProgramParts) (kind k : Kind) (old new : State) (r : Result (Option Halt) E) → kind ≡ k
    → IfOk r (λ h. IsSunkStep has_taken before after (λ told. perform code k (machine_of_state old told)) new h)
    → IfOk r (λ h. IsSunkStep has_taken before after (λ told. perform code kind (machine_of_state old told)) new h)
sunk_of_kind has_taken before after code kind k old new r is q =
    let P : Kind → Type 0 = λ z. IfOk r (λ h. IsSunkStep has_taken before after (λ told. perform code z (machine_of_state old told)) new h) in
    subst P (sym is) q

-- ---- operations

pub quiet_goes : (x : NextState) (told : UnitTold) (new : State) (way : List Event) → x ≡ GoesOn (machine_of_state new (record { way = way; rows = told.rows; lines = told.lines })) → IsQuietStep x told new None
quiet_goes x told new way e = e ∙ ap (λ w. GoesOn (machine_of_state new (record { way = w; rows = told.rows; lines = told.lines }))) (sym (ap way_of_next e))

quiet_breaks : (x : NextState) (told : UnitTold) (new : State) (way : List Event) (fault : Fault) → x ≡ Stops (end_of_state (halt.Faulted fault) new (record { way = way; rows = told.rows; lines = told.lines })) → IsQuietStep x told new (Some (halt.Faulted fault))
quiet_breaks x told new way fault e = e ∙ ap (λ w. Stops (end_of_state (halt.Faulted fault) new (record { way = w; rows = told.rows; lines = told.lines }))) (sym (ap way_of_next e))

-- the machine on its next instruction with other operands
moved : (old : State) (operands : PileView) (stack : Row) (progress : Progress) → operands.stack ≡ stack → operands.below ≡ old.operands.below
    → GoesOn (record { at = old.at + 1; desk = with_stack stack (desk_of_state old); frames = waiting_frames old.operands.below old.locals.below old.frames; progress = progress })
    ≡ GoesOn (record { at = old.at + 1; desk = with_stack operands.stack (desk_of_state old); frames = waiting_frames operands.below old.locals.below old.frames; progress = progress })
moved old operands stack progress same below =
    ap (λ (z : Row). GoesOn (record { at = old.at + 1; desk = with_stack z (desk_of_state old); frames = waiting_frames old.operands.below old.locals.below old.frames; progress = progress })) (sym same)
    ∙ ap (λ (z : Row). GoesOn (record { at = old.at + 1; desk = with_stack operands.stack (desk_of_state old); frames = waiting_frames z old.locals.below old.frames; progress = progress })) (sym below)

module _ (code : ProgramParts) (n : ℕ) (old : State) (told : UnitTold) where
  counted : (k : ℕ) (o : Option Taken) → k ≡ n → take_off n [] old.operands.stack ≡ o → take_off k [] old.operands.stack ≡ o
  counted k o same is = ap (λ z. take_off z [] old.operands.stack) same ∙ is

  pub stuck_operation : (kind : Kind) → operation_operands kind ≡ Some n → take_off n [] old.operands.stack ≡ None → IsQuietStep (perform code kind (machine_of_state old told)) told old (Some halt.Stuck)
  stuck_operation (Pure k f) number none = ap (λ o. on_desk (with_value_for f o (desk_of_state old)) (machine_of_state old told)) (counted k None (cc) none)
  stuck_operation (Partial k f) number none = ap (λ o. on_result (with_result_for f o (desk_of_state old)) (machine_of_state old told)) (counted k None (cc) none)
  stuck_operation (Loads a) number none = absurd cc
  stuck_operation (Stores a) number none = absurd cc
  stuck_operation Drops number none = absurd cc
  stuck_operation (CallsHash a b) number none = absurd cc
  stuck_operation (CallsIterator a b) number none = absurd cc
  stuck_operation (Writes a) number none = absurd cc
  stuck_operation (Puts a) number none = absurd cc
  stuck_operation (Ticks a) number none = absurd cc
  stuck_operation (Jumps a) number none = absurd cc
  stuck_operation (Tests a b) number none = absurd cc
  stuck_operation (Enters a) number none = absurd cc
  stuck_operation (GoesBack a) number none = absurd cc
  stuck_operation (Raises a) number none = absurd cc
  stuck_operation Finishes number none = absurd cc

  module _ (values : Row) (taken : take_off n [] old.operands.stack ≡ Some (record { values = values; below = drop n old.operands.stack })) where
    pub faulted_operation : (fault : Fault) (kind : Kind) → operation_operands kind ≡ Some n → operation_result kind values ≡ Err fault → IsQuietStep (perform code kind (machine_of_state old told)) told old (Some (halt.Faulted fault))
    faulted_operation fault (Pure k f) number result = absurd cc
    faulted_operation fault (Partial k f) number result =
        quiet_breaks _ told old (told.way ++ Failed ∷ []) fault
        (ap (λ o. on_result (with_result_for f o (desk_of_state old)) (machine_of_state old told)) (counted k _ (cc) taken)
        ∙ ap (λ r. on_result (Some (result_above (drop n old.operands.stack) r (desk_of_state old))) (machine_of_state old told)) result)
    faulted_operation fault (Loads a) number result = absurd cc
    faulted_operation fault (Stores a) number result = absurd cc
    faulted_operation fault Drops number result = absurd cc
    faulted_operation fault (CallsHash a b) number result = absurd cc
    faulted_operation fault (CallsIterator a b) number result = absurd cc
    faulted_operation fault (Writes a) number result = absurd cc
    faulted_operation fault (Puts a) number result = absurd cc
    faulted_operation fault (Ticks a) number result = absurd cc
    faulted_operation fault (Jumps a) number result = absurd cc
    faulted_operation fault (Tests a b) number result = absurd cc
    faulted_operation fault (Enters a) number result = absurd cc
    faulted_operation fault (GoesBack a) number result = absurd cc
    faulted_operation fault (Raises a) number result = absurd cc
    faulted_operation fault Finishes number result = absurd cc

    pub operated : (operands : PileView) (v : Value) (kind : Kind) → operation_operands kind ≡ Some n → operation_result kind values ≡ Ok v → operands.stack ≡ v ∷ drop n old.operands.stack → operands.below ≡ old.operands.below
        → IsQuietStep (perform code kind (machine_of_state old told)) told (record old { at = old.at + 1; operands = operands }) None
    operated operands v (Pure k f) number result stack below =
        let is : f values ≡ v = cc in
        quiet_goes _ told (record old { at = old.at + 1; operands = operands }) told.way
        (ap (λ o. on_desk (with_value_for f o (desk_of_state old)) (machine_of_state old told)) (counted k _ (cc) taken)
        ∙ moved old operands (f values ∷ drop n old.operands.stack) (progress_of_state old told) (stack ∙ ap (λ z. z ∷ drop n old.operands.stack) (sym is)) below)
    operated operands v (Partial k f) number result stack below =
        quiet_goes _ told (record old { at = old.at + 1; operands = operands }) (told.way ++ Did ∷ [])
        (ap (λ o. on_result (with_result_for f o (desk_of_state old)) (machine_of_state old told)) (counted k _ (cc) taken)
        ∙ ap (λ r. on_result (Some (result_above (drop n old.operands.stack) r (desk_of_state old))) (machine_of_state old told)) result
        ∙ moved old operands (v ∷ drop n old.operands.stack) (progress_of_state old (record { way = told.way ++ Did ∷ []; rows = told.rows; lines = told.lines })) stack below)
    operated operands v (Loads a) number result stack below = absurd cc
    operated operands v (Stores a) number result stack below = absurd cc
    operated operands v Drops number result stack below = absurd cc
    operated operands v (CallsHash a b) number result stack below = absurd cc
    operated operands v (CallsIterator a b) number result stack below = absurd cc
    operated operands v (Writes a) number result stack below = absurd cc
    operated operands v (Puts a) number result stack below = absurd cc
    operated operands v (Ticks a) number result stack below = absurd cc
    operated operands v (Jumps a) number result stack below = absurd cc
    operated operands v (Tests a b) number result stack below = absurd cc
    operated operands v (Enters a) number result stack below = absurd cc
    operated operands v (GoesBack a) number result stack below = absurd cc
    operated operands v (Raises a) number result stack below = absurd cc
    operated operands v Finishes number result stack below = absurd cc

-- ---- rows of outputs

module _ {S : Type 0} (has_taken : S → S → List Written → List (List ℕ) → Type 0) (code : ProgramParts) (number : ℕ) (old : State) where
  -- an output is not there
  pub not_written : (sink : S) → slice_get code.outputs number ≡ None → IsSunkStep has_taken sink sink (λ told. perform code (Writes number) (machine_of_state old told)) old (Some halt.Stuck)
  not_written sink none = record {
    rows = [];
    lines = [];
    taken = nothing_taken has_taken sink;
    next = λ told. ap (λ o. on_output number o (machine_of_state old told)) none;
  }

  -- an output's row
  abbrev row_of_output : OutputPart → Written
  row_of_output output = record { output = number; row = values_of_slots (column_slots output) old.slots }

  abbrev written_told : OutputPart → UnitTold → UnitTold
  written_told output told = record { way = told.way; rows = told.rows ++ row_of_output output ∷ []; lines = told.lines }

  written_next : (output : OutputPart) (told : UnitTold) → slice_get code.outputs number ≡ Some output → perform code (Writes number) (machine_of_state old told) ≡ GoesOn (machine_of_state (record old { at = old.at + 1 }) (written_told output told))
  written_next output told here = ap (λ o. on_output number o (machine_of_state old told)) here

  pub written : (before after : S) (output : OutputPart) → slice_get code.outputs number ≡ Some output → SinkTakes has_taken before after (row_of_output output ∷ []) []
      → IsSunkStep has_taken before after (λ told. perform code (Writes number) (machine_of_state old told)) (record old { at = old.at + 1 }) None
  written before after output here took = record {
    rows = row_of_output output ∷ [];
    lines = [];
    taken = took;
    next = λ told.
        let e = written_next output told here in
        e ∙ ap (λ w. GoesOn (machine_of_state (record old { at = old.at + 1 }) (record { way = w; rows = told.rows ++ row_of_output output ∷ []; lines = told.lines }))) (sym (ap way_of_next e))
        ∙ ap (λ l. GoesOn (machine_of_state (record old { at = old.at + 1 }) (record { way = way_of_next (perform code (Writes number) (machine_of_state old told)); rows = told.rows ++ row_of_output output ∷ []; lines = l }))) (sym (append-nil told.lines));
  }

-- ---- lines

module _ {S : Type 0} (has_taken : S → S → List Written → List (List ℕ) → Type 0) (n : ℕ) (old : State) where
  -- there are fewer operands
  pub not_put : (sink : S) → take_off n [] old.operands.stack ≡ None → IsSunkStep has_taken sink sink (λ told. on_texts (take_off n [] old.operands.stack) (machine_of_state old told)) old (Some halt.Stuck)
  not_put sink none = record {
    rows = [];
    lines = [];
    taken = nothing_taken has_taken sink;
    next = λ told. ap (λ o. on_texts o (machine_of_state old told)) none;
  }

  module _ (values : Row) (line : List ℕ) (operands : PileView) (taken : take_off n [] old.operands.stack ≡ Some (record { values = values; below = drop n old.operands.stack })) (is : line ≡ join_with_byte 32 (map operand_text values)) (stack : operands.stack ≡ drop n old.operands.stack) (below : operands.below ≡ old.operands.below) where
    put_next : (told : UnitTold) → on_texts (take_off n [] old.operands.stack) (machine_of_state old told) ≡ GoesOn (machine_of_state (record old { at = old.at + 1; operands = operands }) (record { way = told.way; rows = told.rows; lines = told.lines ++ line ∷ [] }))
    put_next told =
        ap (λ o. on_texts o (machine_of_state old told)) taken
        ∙ ap (λ (l : List ℕ). goes_to (old.at + 1) (with_stack (drop n old.operands.stack) (desk_of_state old)) (with_line l (progress_of_state old told)) (machine_of_state old told)) (sym is)
        ∙ moved old operands (drop n old.operands.stack) (with_line line (progress_of_state old told)) stack below

    pub put_line : (before after : S) (new : State) → ((told : UnitTold) → machine_of_state (record old { at = old.at + 1; operands = operands }) told ≡ machine_of_state new told) → SinkTakes has_taken before after [] (line ∷ [])
        → IsSunkStep has_taken before after (λ told. on_texts (take_off n [] old.operands.stack) (machine_of_state old told)) new None
    put_line before after new same took = record {
      rows = [];
      lines = line ∷ [];
      taken = took;
      next = λ told.
          let e = put_next told in
          e ∙ ap (λ w. GoesOn (machine_of_state (record old { at = old.at + 1; operands = operands }) (record { way = w; rows = told.rows; lines = told.lines ++ line ∷ [] }))) (sym (ap way_of_next e))
          ∙ ap (λ r. GoesOn (machine_of_state (record old { at = old.at + 1; operands = operands }) (record { way = way_of_next (on_texts (take_off n [] old.operands.stack) (machine_of_state old told)); rows = r; lines = told.lines ++ line ∷ [] }))) (sym (append-nil told.rows))
          ∙ ap GoesOn (same (record { way = way_of_next (on_texts (take_off n [] old.operands.stack) (machine_of_state old told)); rows = told.rows ++ []; lines = told.lines ++ line ∷ [] }));
    }
