-- Calls of hash objects and iterators follow their meaning.
use Rattle.std.proofs.Common.{◌≡◌, ℕ, ◌+◌, ◌≤◌, List, [], ◌∷◌, Some, None, sym, ap, ◌∙◌, subst, arith}
use Rattle.std.specs.Prelude.{slice_get, unwrap_or}
use Rattle.ds2_value.specs.HashList.{hash_answer, iterator_answer}
use Rattle.ds2_value.specs.Progress.{Progress}
use Rattle.ds2_value.specs.Row.{Row}
use Rattle.ds2_value.specs.declared.hash_function.HashFunction.{HashFunction}
use Rattle.ds2_value.specs.declared.hash_function.IteratorFunction.{IteratorFunction}
use Rattle.ds2_value.specs.declared.value.Value.{Value}
use Rattle.ds2_meaning.specs.declared.hashes.DeclaredHash.{DeclaredHash}
use Rattle.ds2_meaning.specs.declared.hashes.DeclaredIterator.{DeclaredIterator}
use Rattle.ds2_meaning.specs.Evaluation.{Surroundings}
use Rattle.ds2_meaning.specs.HashObjects.{DeclaredObjects, hash_named, iterator_named, object_at, items_of, position_of, values_of_variables, with_data_copied, with_iterators_shifted, hash_answered, call_hash, iterator_answered, call_iterator_of, call_iterator}
use Rattle.ds2_meaning.specs.Location.{Items, Position}
use Rattle.ds2_meaning.specs.RunState.{RunState, keep_at}
use Rattle.ds2_code.specs.declared.instr.Instr.{Instr}
use Rattle.ds2_code.specs.declared.instr.Instr.TheVariants.{HCall, ICall}
use Rattle.ds2_code.specs.declared.parts.HashPart.{HashPart}
use Rattle.ds2_code.specs.declared.parts.ProgramParts.{ProgramParts}
use Rattle.ds2_code.specs.CodeRun.{CallFrame, GoesOn, on_desk, perform}
use Rattle.ds2_code.specs.Desk.{values_of_slots}
use Rattle.ds2_code.specs.HashCalls.{with_copied, answer_of_hash, hash_called, answer_of_iterator, iterator_moved, iterator_called}
use Rattle.ds2_code.specs.InstructionTable.{kind_of}
use Rattle.ds2_gen.specs.CallPieces.{IsAround}
use Rattle.ds2_gen.specs.CodeCells.{GlobalAt, HashCell, IteratorCell, Cells, desk_of, HoldState, LeaveReserved}
use Rattle.ds2_gen.specs.CodePieces.{LeadsOnTo, machine_at, ComesTo, EvaluatesTo}
use Rattle.ds2_gen.specs.CoveredObjects.{AreVariableSlots, IteratorsFit, HasHash, HasIterator}
use Rattle.ds2_gen.specs.ExpressionCode.{CodeNumbers, hash_instr, iterator_instr, object_cell}
use Rattle.ds2_gen.proofs.CellLemmas.{with_cell_content, same_cell_on, holds_put, reserved_put}
use Rattle.ds2_gen.proofs.ObjectLemmas.{hash_name, iterator_name, shifted_progress, with_walkers, walkers_hold, walkers_reserved, variables_are, with_cell_slots, data_copied, copied_progress}
use Rattle.ds2_gen.proofs.PieceLemmas.{one}
use Rattle.ds2_gen.proofs.StepLemmas.{from}

module _ (code : ProgramParts) (numbers : CodeNumbers) (s : Surroundings) (kept : ℕ) (frames : List CallFrame) (around : IsAround code numbers s frames) where
  -- an instruction that pushes a value and leaves other cells, as a state without more progress
  answer_comes : (i : Instr) (at to : ℕ) (v : Value) (stack : Row) (before cells : Cells) (w u : RunState) → slice_get code.instrs at ≡ Some i → at + 1 ≡ to
      → perform code (kind_of i) (from frames at stack before w) ≡ GoesOn (machine_at (at + 1) (desk_of (v ∷ stack) cells) frames w.progress)
      → HoldState numbers.placement u cells → LeaveReserved numbers.placement kept before cells → u.progress ≡ w.progress
      → ComesTo code numbers.placement kept (from frames at stack before w) to (v ∷ stack) u
  answer_comes i at to v stack before cells w u here e goes holds reserved same =
      let equal : u.progress.left ≡ w.progress.left = ap (λ (q : Progress). q.left) same in
      let less : u.progress.left ≤ w.progress.left = omega arith in
      record {
        cells = cells;
        holds = holds;
        reserved = reserved;
        left = less;
        leads = subst (λ (q : Progress). LeadsOnTo code (from frames at stack before w) (machine_at to (desk_of (v ∷ stack) cells) frames q)) (sym same)
            (subst (λ n. LeadsOnTo code (from frames at stack before w) (machine_at n (desk_of (v ∷ stack) cells) frames w.progress)) e
            (one code i (from frames at stack before w) (machine_at (at + 1) (desk_of (v ∷ stack) cells) frames w.progress) here goes));
      }

  -- ---- hash objects

  module _ (declared : DeclaredHash) (h : ℕ) (part : HashPart) (placed : object_cell numbers declared.name ≡ Some (HashCell h)) (coded : slice_get code.hashes h ≡ Some part)
      (keys : AreVariableSlots numbers declared.key_variables part.key_slots) (values : AreVariableSlots numbers declared.data_variables part.data_slots) (fit : IteratorsFit code numbers declared.name h) where
    -- what the hash object answers in the code and in the meaning
    hash_answers : (f : HashFunction) (cells : Cells) (w : RunState) → HoldState numbers.placement w cells
        → answer_of_hash f h part cells.state ≡ hash_answer f (values_of_variables numbers.home declared.key_variables w) (values_of_variables numbers.home declared.data_variables w) (items_of numbers.home declared.name w)
    hash_answers f cells w holds =
        let items = unwrap_or (slice_get cells.state.hashes h) [] in
        let key = values_of_variables numbers.home declared.key_variables w in
        let row = values_of_variables numbers.home declared.data_variables w in
        ap (λ r. hash_answer f r (values_of_slots part.data_slots cells.state.slots) items) (variables_are numbers w cells holds declared.key_variables part.key_slots keys)
        ∙ ap (λ r. hash_answer f key r items) (variables_are numbers w cells holds declared.data_variables part.data_slots values)
        ∙ ap (λ o. hash_answer f key row (unwrap_or o [])) (holds.0 (GlobalAt (object_at numbers.home declared.name)) (HashCell h) placed)

    hash_comes : (f : HashFunction) (at to : ℕ) (stack : Row) (cells : Cells) (w : RunState) → at + 1 ≡ to → slice_get code.instrs at ≡ Some (HCall h f) → HoldState numbers.placement w cells
        → EvaluatesTo code numbers.placement kept (from frames at stack cells w) to stack (hash_answered numbers.objects numbers.home declared (answer_of_hash f h part cells.state) w)
    hash_comes f at to stack cells w end here holds =
        let a = answer_of_hash f h part cells.state in
        let sound = around.placement in
        let spot = object_at numbers.home declared.name in
        let u = keep_at spot (Items a.items) w in
        let d = with_cell_content (HashCell h) (Items a.items) cells in
        let x = with_iterators_shifted a.shift numbers.home declared.name numbers.objects.iterators u in
        let e = with_walkers code a.shift h d in
        let put = holds_put numbers.placement sound spot (Items a.items) w (HashCell h) cells placed holds in
        let walked = walkers_hold code numbers a.shift declared.name h fit u d sound put in
        let copied = data_copied numbers sound declared part a.copied x e values walked in
        let last = with_cell_slots (with_copied part a.copied e.state.slots) e in
        let before = reserved_put numbers.placement sound spot (Items a.items) w (HashCell h) cells placed holds kept in
        let moved = walkers_reserved code numbers a.shift declared.name h fit kept d in
        answer_comes (HCall h f) at to a.code stack cells last w (with_data_copied numbers.home declared a.copied x) here end
        (ap (λ o. on_desk (hash_called code f h o (desk_of stack cells)) (from frames at stack cells w)) coded)
        copied.0
        (λ k is. same_cell_on k cells e last (same_cell_on k cells d e (before k is) (moved k is)) (copied.1 kept k is))
        (copied_progress numbers.home declared a.copied x ∙ shifted_progress a.shift numbers.home declared.name numbers.objects.iterators u)

    hash_evaluates : (f : HashFunction) (at to : ℕ) (stack : Row) (cells : Cells) (w : RunState) → at + 1 ≡ to → slice_get code.instrs at ≡ Some (HCall h f) → HoldState numbers.placement w cells
        → EvaluatesTo code numbers.placement kept (from frames at stack cells w) to stack (call_hash numbers.objects numbers.home f (Some declared) w)
    hash_evaluates f at to stack cells w end here holds =
        subst (λ answer. EvaluatesTo code numbers.placement kept (from frames at stack cells w) to stack (hash_answered numbers.objects numbers.home declared answer w)) (hash_answers f cells w holds)
        (hash_comes f at to stack cells w end here holds)

  pub hash_runs : (name : List ℕ) (f : HashFunction) → HasHash code numbers name → (at to : ℕ) (stack : Row) (cells : Cells) (w : RunState) → at + 1 ≡ to
      → slice_get code.instrs at ≡ Some (hash_instr (object_cell numbers name) f) → HoldState numbers.placement w cells
      → EvaluatesTo code numbers.placement kept (from frames at stack cells w) to stack (call_hash s.objects s.home f (hash_named s.objects.hashes name) w)
  hash_runs name f c at to stack cells w end here holds =
      let m = from frames at stack cells w in
      let named = sym (hash_name numbers.objects.hashes name c.declared c.meant) in
      subst (λ (o : DeclaredObjects). EvaluatesTo code numbers.placement kept m to stack (call_hash o s.home f (hash_named o.hashes name) w)) (sym around.objects)
      (subst (λ h. EvaluatesTo code numbers.placement kept m to stack (call_hash numbers.objects h f (hash_named numbers.objects.hashes name) w)) (sym around.home)
      (subst (λ x. EvaluatesTo code numbers.placement kept m to stack (call_hash numbers.objects numbers.home f x w)) (sym c.meant)
      (hash_evaluates c.declared c.number c.part (subst (λ n. object_cell numbers n ≡ Some (HashCell c.number)) named c.placed) c.coded c.key_slots c.data_slots (subst (λ n. IteratorsFit code numbers n c.number) named c.iterators)
      f at to stack cells w end (here ∙ ap (λ o. Some (hash_instr o f)) c.placed) holds)))

  -- ---- iterators

  module _ (declared : DeclaredIterator) (hash : DeclaredHash) (n h : ℕ) (part : HashPart) (placed : object_cell numbers declared.name ≡ Some (IteratorCell n)) (hash_placed : object_cell numbers hash.name ≡ Some (HashCell h))
      (coded : slice_get code.iterators n ≡ Some h) (hash_coded : slice_get code.hashes h ≡ Some part) (values : AreVariableSlots numbers hash.data_variables part.data_slots) where
    iterator_answers : (f : IteratorFunction) (cells : Cells) (w : RunState) → HoldState numbers.placement w cells
        → answer_of_iterator f n h cells.state ≡ iterator_answer f (items_of numbers.home hash.name w) (position_of numbers.home declared.name w)
    iterator_answers f cells w holds =
        ap (λ o. iterator_answer f (unwrap_or o []) (unwrap_or (slice_get cells.state.iterators n) None)) (holds.0 (GlobalAt (object_at numbers.home hash.name)) (HashCell h) hash_placed)
        ∙ ap (λ o. iterator_answer f (items_of numbers.home hash.name w) (unwrap_or o None)) (holds.0 (GlobalAt (object_at numbers.home declared.name)) (IteratorCell n) placed)

    iterator_comes : (f : IteratorFunction) (at to : ℕ) (stack : Row) (cells : Cells) (w : RunState) → at + 1 ≡ to → slice_get code.instrs at ≡ Some (ICall n f) → HoldState numbers.placement w cells
        → EvaluatesTo code numbers.placement kept (from frames at stack cells w) to stack (iterator_answered numbers.home declared hash (answer_of_iterator f n h cells.state) w)
    iterator_comes f at to stack cells w end here holds =
        let a = answer_of_iterator f n h cells.state in
        let sound = around.placement in
        let spot = object_at numbers.home declared.name in
        let u = keep_at spot (Position a.position) w in
        let d = with_cell_content (IteratorCell n) (Position a.position) cells in
        let m = from frames at stack cells w in
        let copied = data_copied numbers sound hash part a.copied u d values (holds_put numbers.placement sound spot (Position a.position) w (IteratorCell n) cells placed holds) in
        let last = with_cell_slots (with_copied part a.copied d.state.slots) d in
        let before = reserved_put numbers.placement sound spot (Position a.position) w (IteratorCell n) cells placed holds kept in
        answer_comes (ICall n f) at to a.code stack cells last w (with_data_copied numbers.home hash a.copied u) here end
        (ap (λ o. on_desk (iterator_called code f n o (desk_of stack cells)) m) coded ∙ ap (λ o. on_desk (iterator_moved f n h o (desk_of stack cells)) m) hash_coded)
        copied.0 (λ k is. same_cell_on k cells d last (before k is) (copied.1 kept k is)) (copied_progress numbers.home hash a.copied u)

    iterator_evaluates : (f : IteratorFunction) (at to : ℕ) (stack : Row) (cells : Cells) (w : RunState) → at + 1 ≡ to → slice_get code.instrs at ≡ Some (ICall n f) → HoldState numbers.placement w cells
        → EvaluatesTo code numbers.placement kept (from frames at stack cells w) to stack (call_iterator_of numbers.home f declared (Some hash) w)
    iterator_evaluates f at to stack cells w end here holds =
        subst (λ answer. EvaluatesTo code numbers.placement kept (from frames at stack cells w) to stack (iterator_answered numbers.home declared hash answer w)) (iterator_answers f cells w holds)
        (iterator_comes f at to stack cells w end here holds)

  pub iterator_runs : (name : List ℕ) (f : IteratorFunction) → HasIterator code numbers name → (at to : ℕ) (stack : Row) (cells : Cells) (w : RunState) → at + 1 ≡ to
      → slice_get code.instrs at ≡ Some (iterator_instr (object_cell numbers name) f) → HoldState numbers.placement w cells
      → EvaluatesTo code numbers.placement kept (from frames at stack cells w) to stack (call_iterator s.objects s.home f (iterator_named s.objects.iterators name) w)
  iterator_runs name f c at to stack cells w end here holds =
      let m = from frames at stack cells w in
      let named = sym (iterator_name numbers.objects.iterators name c.declared c.meant) in
      let hash_is = sym (hash_name numbers.objects.hashes c.declared.hash c.hash c.hash_meant) in
      subst (λ (o : DeclaredObjects). EvaluatesTo code numbers.placement kept m to stack (call_iterator o s.home f (iterator_named o.iterators name) w)) (sym around.objects)
      (subst (λ h. EvaluatesTo code numbers.placement kept m to stack (call_iterator numbers.objects h f (iterator_named numbers.objects.iterators name) w)) (sym around.home)
      (subst (λ x. EvaluatesTo code numbers.placement kept m to stack (call_iterator numbers.objects numbers.home f x w)) (sym c.meant)
      (subst (λ x. EvaluatesTo code numbers.placement kept m to stack (call_iterator_of numbers.home f c.declared x w)) (sym c.hash_meant)
      (iterator_evaluates c.declared c.hash c.number c.hash_number c.part (subst (λ n. object_cell numbers n ≡ Some (IteratorCell c.number)) named c.placed) (subst (λ n. object_cell numbers n ≡ Some (HashCell c.hash_number)) hash_is c.hash_placed)
      c.coded c.hash_coded c.data_slots f at to stack cells w end (here ∙ ap (λ o. Some (iterator_instr o f)) c.placed) holds))))
