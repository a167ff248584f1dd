-- Two runs of one code from one place with one way execute equally many instructions.
use Rattle.std.proofs.Common.{◌≡◌, IsTrue, ℕ, zero, suc, ◌+◌, Bool, true, false, List, [], ◌∷◌, ◌++◌, Option, Some, None, Result, Ok, Err, refl, sym, ap, ◌∙◌, subst, append_assoc, append-nil}
use Rattle.std.specs.Prelude.{length, nat_lt, slice_get}
use Rattle.std.proofs.lemmas.List.{append_cancel_left}
use Rattle.ds2_value.specs.Progress.{has_end}
use Rattle.ds2_value.specs.Run.{Event, Began, Did, Tested, Failed}
use Rattle.ds2_base.specs.declared.place.Place.{Place}
use Rattle.ds2_value.specs.Operations.{is_true}
use Rattle.ds2_value.specs.Row.{Row}
use Rattle.ds2_value.specs.declared.fault.Fault.{Fault}
use Rattle.ds2_value.specs.declared.fault.TheConstants.{CALL_DEPTH}
use Rattle.ds2_code.specs.declared.instr.Instr.{Instr}
use Rattle.ds2_code.specs.declared.parts.MethodPart.{MethodPart}
use Rattle.ds2_code.specs.declared.parts.OutputPart.{OutputPart}
use Rattle.ds2_code.specs.declared.parts.ProgramParts.{ProgramParts}
use Rattle.ds2_code.specs.Desk.{Desk, Taken, take_off, with_value_for, with_result_for, top_into, without_top}
use Rattle.ds2_code.specs.HashCalls.{hash_called, iterator_called}
use Rattle.ds2_code.specs.InstructionTable.{Kind, Pure, Partial, Loads, Stores, Drops, CallsHash, CallsIterator, Writes, Puts, Ticks, Jumps, Tests, Enters, GoesBack, Raises, Finishes, kind_of}
use Rattle.ds2_code.specs.CodeRun.{CallFrame, MachineState, CodeEnd, EndReached, Broken, Stuck, NextState, GoesOn, Stops, on_desk, on_result, on_step, on_outcome, on_condition, on_arguments, on_method, method_result, on_callee, on_return, on_output, on_texts, perform, after_instruction, CodeRun, UnderWay, Over, then_run, run_code}
use Rattle.ds2_code.specs.CodeLaws.{IsNotStuck, way_of_end, return_places, RunsCountAlike, unit_way, unit_executed, UnitsCountAlike}
use Rattle.ds2_code.specs.CodeUnit.{unit_begun, outcome_of_run, most_executed}
use Rattle.ds2_code.proofs.RunsEnd.{one_less}

-- where a after_instruction leads: an instruction with the return points, the end, or stuck
data Control : Type 0 where
  At : ℕ → List ℕ → Control
  Halt : Control
  Jam : Control

abbrev at_end : CodeEnd → Control
at_end (EndReached d r) = Halt
at_end (Broken f r) = Halt
at_end Stuck = Jam

abbrev control : NextState → Control
control (GoesOn m) = At m.at (return_places m.frames)
control (Stops e) = at_end e

abbrev after : NextState → List Event
after (GoesOn m) = m.progress.way
after (Stops e) = way_of_end e

-- what two steps of one instruction have in common
data Law (w : List Event) (x y : NextState) : Type 0 where
  jams_left : control x ≡ Jam → Law w x y
  jams_right : control y ≡ Jam → Law w x y
  quiet : after x ≡ w → after y ≡ w → control x ≡ control y → Law w x y
  marked : (a b : Event) → after x ≡ w ++ a ∷ [] → after y ≡ w ++ b ∷ [] → (a ≡ b → control x ≡ control y) → Law w x y

module _ (m u : MachineState) (same_at : m.at ≡ u.at) (same_calls : return_places m.frames ≡ return_places u.frames) (same_way : u.progress.way ≡ m.progress.way) where
  next : At (m.at + 1) (return_places m.frames) ≡ At (u.at + 1) (return_places u.frames)
  next = ap (λ n. At (n + 1) (return_places m.frames)) same_at ∙ ap (λ r. At (u.at + 1) r) same_calls

  there : (t : ℕ) → At t (return_places m.frames) ≡ At t (return_places u.frames)
  there t = ap (λ r. At t r) same_calls

  deeper : (t : ℕ) → At t ((m.at + 1) ∷ return_places m.frames) ≡ At t ((u.at + 1) ∷ return_places u.frames)
  deeper t = ap (λ n. At t ((n + 1) ∷ return_places m.frames)) same_at ∙ ap (λ r. At t ((u.at + 1) ∷ r)) same_calls

  mark : (a : Event) → u.progress.way ++ a ∷ [] ≡ m.progress.way ++ a ∷ []
  mark a = ap (λ w. w ++ a ∷ []) same_way

  desk_law : (o p : Option Desk) → Law m.progress.way (on_desk o m) (on_desk p u)
  desk_law None p = jams_left refl
  desk_law (Some d) None = jams_right refl
  desk_law (Some d) (Some c) = quiet refl same_way next

  result_law : (o p : Option (Result Desk Fault)) → Law m.progress.way (on_result o m) (on_result p u)
  result_law None p = jams_left refl
  result_law (Some (Ok d)) None = jams_right refl
  result_law (Some (Err f)) None = jams_right refl
  result_law (Some (Ok d)) (Some (Ok c)) = marked Did Did refl (mark Did) (λ e. next)
  result_law (Some (Ok d)) (Some (Err g)) = marked Did Failed refl (mark Failed) (λ e. cc)
  result_law (Some (Err f)) (Some (Ok c)) = marked Failed Did refl (mark Did) (λ e. cc)
  result_law (Some (Err f)) (Some (Err g)) = marked Failed Failed refl (mark Failed) (λ e. refl)

  output_law : (n : ℕ) (o : Option OutputPart) → Law m.progress.way (on_output n o m) (on_output n o u)
  output_law n None = jams_left refl
  output_law n (Some o) = quiet refl same_way next

  texts_law : (o p : Option Taken) → Law m.progress.way (on_texts o m) (on_texts p u)
  texts_law None p = jams_left refl
  texts_law (Some t) None = jams_right refl
  texts_law (Some t) (Some s) = quiet refl same_way next

  step_law : (n k : ℕ) (p : Place) → Law m.progress.way (on_step n p m) (on_step k p u)
  step_law zero zero p = marked Failed Failed refl (mark Failed) (λ e. refl)
  step_law zero (suc k) p = marked Failed (Began p) refl (mark (Began p)) (λ e. cc)
  step_law (suc n) zero p = marked (Began p) Failed refl (mark Failed) (λ e. cc)
  step_law (suc n) (suc k) p = marked (Began p) (Began p) refl (mark (Began p)) (λ e. next)

  outcome_law : (b a c : Bool) (t : ℕ) (r s : Row) → Law m.progress.way (on_outcome b a t r m) (on_outcome b c t s u)
  outcome_law true true true t r s = marked (Tested true) (Tested true) refl (mark (Tested true)) (λ e. there t)
  outcome_law true false false t r s = marked (Tested false) (Tested false) refl (mark (Tested false)) (λ e. next)
  outcome_law true true false t r s = marked (Tested true) (Tested false) refl (mark (Tested false)) (λ e. cc)
  outcome_law true false true t r s = marked (Tested false) (Tested true) refl (mark (Tested true)) (λ e. cc)
  outcome_law false true true t r s = marked (Tested true) (Tested true) refl (mark (Tested true)) (λ e. next)
  outcome_law false false false t r s = marked (Tested false) (Tested false) refl (mark (Tested false)) (λ e. there t)
  outcome_law false true false t r s = marked (Tested true) (Tested false) refl (mark (Tested false)) (λ e. cc)
  outcome_law false false true t r s = marked (Tested false) (Tested true) refl (mark (Tested true)) (λ e. cc)

  condition_law : (b : Bool) (t : ℕ) (r s : Row) → Law m.progress.way (on_condition b t r m) (on_condition b t s u)
  condition_law b t [] s = jams_left refl
  condition_law b t (v ∷ r) [] = jams_right refl
  condition_law b t (v ∷ r) (x ∷ s) = outcome_law b (is_true v) (is_true x) t r s

  arguments_law : (c : ℕ) (k : MethodPart) (o p : Option Taken) (n j : ℕ) (a b : Bool) → Law m.progress.way (on_arguments c k o n a m) (on_arguments c k p j b u)
  arguments_law c k None p n j a b = jams_left refl
  arguments_law c k (Some t) None zero j a b = jams_right refl
  arguments_law c k (Some t) None (suc n) j true b = jams_right refl
  arguments_law c k (Some t) None (suc n) j false b = jams_right refl
  arguments_law c k (Some t) (Some s) zero zero a b = marked Failed Failed refl (mark Failed) (λ e. refl)
  arguments_law c k (Some t) (Some s) zero (suc j) a false = marked Failed Failed refl (mark Failed) (λ e. refl)
  arguments_law c k (Some t) (Some s) zero (suc j) a true = marked Failed Did refl (mark Did) (λ e. cc)
  arguments_law c k (Some t) (Some s) (suc n) zero false b = marked Failed Failed refl (mark Failed) (λ e. refl)
  arguments_law c k (Some t) (Some s) (suc n) zero true b = marked Did Failed refl (mark Failed) (λ e. cc)
  arguments_law c k (Some t) (Some s) (suc n) (suc j) false false = marked Failed Failed refl (mark Failed) (λ e. refl)
  arguments_law c k (Some t) (Some s) (suc n) (suc j) false true = marked Failed Did refl (mark Did) (λ e. cc)
  arguments_law c k (Some t) (Some s) (suc n) (suc j) true false = marked Did Failed refl (mark Failed) (λ e. cc)
  arguments_law c k (Some t) (Some s) (suc n) (suc j) true true = marked Did Did refl (mark Did) (λ e. deeper k.entry)

  method_law : (c : ℕ) (o : Option MethodPart) → Law m.progress.way (on_method c o m) (on_method c o u)
  method_law c None = jams_left refl
  method_law c (Some k) =
      arguments_law c k (take_off (length k.parameters) [] m.desk.stack) (take_off (length k.parameters) [] u.desk.stack) m.progress.left u.progress.left (nat_lt (length m.frames) CALL_DEPTH) (nat_lt (length u.frames) CALL_DEPTH)

  callee_law : (r s : Row) (o p : Option MethodPart) (f g : CallFrame) (fs gs : List CallFrame) → return_places (f ∷ fs) ≡ return_places (g ∷ gs) → Law m.progress.way (on_callee r o f fs m) (on_callee s p g gs u)
  callee_law r s None p f g fs gs h = jams_left refl
  callee_law r s (Some k) None f g fs gs h = jams_right refl
  callee_law r s (Some k) (Some j) f g fs gs h = quiet refl same_way (cc h)

  return_law : (code : ProgramParts) (o p : Option Row) (fs gs : List CallFrame) → return_places fs ≡ return_places gs → Law m.progress.way (on_return code o fs m) (on_return code p gs u)
  return_law code None p fs gs h = jams_left refl
  return_law code (Some r) p [] gs h = jams_left refl
  return_law code (Some r) None (f ∷ fs) gs h = jams_right refl
  return_law code (Some r) (Some s) (f ∷ fs) [] h = jams_right refl
  return_law code (Some r) (Some s) (f ∷ fs) (g ∷ gs) h = callee_law r s (slice_get code.methods f.callee) (slice_get code.methods g.callee) f g fs gs h

  kind_law : (code : ProgramParts) (r : Kind) → Law m.progress.way (perform code r m) (perform code r u)
  kind_law code (Pure n f) = desk_law (with_value_for f (take_off n [] m.desk.stack) m.desk) (with_value_for f (take_off n [] u.desk.stack) u.desk)
  kind_law code (Partial n f) = result_law (with_result_for f (take_off n [] m.desk.stack) m.desk) (with_result_for f (take_off n [] u.desk.stack) u.desk)
  kind_law code (Loads s) = quiet refl same_way next
  kind_law code (Stores d) = desk_law (top_into d m.desk.stack m.desk) (top_into d u.desk.stack u.desk)
  kind_law code Drops = desk_law (without_top m.desk.stack m.desk) (without_top u.desk.stack u.desk)
  kind_law code (CallsHash f k) = desk_law (hash_called code f k (slice_get code.hashes k) m.desk) (hash_called code f k (slice_get code.hashes k) u.desk)
  kind_law code (CallsIterator f k) = desk_law (iterator_called code f k (slice_get code.iterators k) m.desk) (iterator_called code f k (slice_get code.iterators k) u.desk)
  kind_law code (Writes n) = output_law n (slice_get code.outputs n)
  kind_law code (Puts n) = texts_law (take_off n [] m.desk.stack) (take_off n [] u.desk.stack)
  kind_law code (Ticks p) = step_law m.progress.left u.progress.left p
  kind_law code (Jumps t) = quiet refl same_way (there t)
  kind_law code (Tests b t) = condition_law b t m.desk.stack u.desk.stack
  kind_law code (Enters k) = method_law k (slice_get code.methods k)
  kind_law code (GoesBack b) = return_law code (method_result b m.desk.stack) (method_result b u.desk.stack) m.frames u.frames same_calls
  kind_law code (Raises f) = marked Failed Failed refl (mark Failed) (λ e. refl)
  kind_law code Finishes = quiet refl same_way refl

  instruction_law : (code : ProgramParts) (o : Option Instr) → Law m.progress.way (after_instruction code o m) (after_instruction code o u)
  instruction_law code None = jams_left refl
  instruction_law code (Some i) = kind_law code (kind_of i)

-- what a run adds to the way
abbrev Grows : List Event → List Event → Type 0
Grows w v = (r : List Event) × (v ≡ w ++ r)

grows_on : (a b c : List Event) → Grows a b → Grows b c → Grows a c
grows_on a b c g h = (g.0 ++ h.0, h.1 ∙ ap (λ l. l ++ h.0) g.1 ∙ append_assoc a g.0 h.0)

-- a after_instruction does not jam
abbrev Moves : NextState → Type 0
Moves x = control x ≡ Jam → ⊥

law_grows : (w : List Event) (x : NextState) → Law w x x → Moves x → Grows w (after x)
law_grows w x (jams_left h) k = absurd (k h)
law_grows w x (jams_right h) k = absurd (k h)
law_grows w x (quiet a b c) k = ([], a ∙ sym (append-nil w))
law_grows w x (marked a b p q c) k = (a ∷ [], p)

step_grows : (code : ProgramParts) (o : Option Instr) (m : MachineState) → Moves (after_instruction code o m) → Grows m.progress.way (after (after_instruction code o m))
step_grows code o m k = law_grows m.progress.way (after_instruction code o m) (instruction_law m m refl refl refl code o) k

-- two steps with one way in the end lead to one place
agree : (w v u : List Event) (x y : NextState) → Law w x y → Moves x → Moves y → Grows (after x) v → Grows (after y) u → v ≡ u → (control x ≡ control y) × (after y ≡ after x)
agree w v u x y (jams_left h) p q g k e = absurd (p h)
agree w v u x y (jams_right h) p q g k e = absurd (q h)
agree w v u x y (quiet a b c) p q g k e = (c, b ∙ sym a)
agree w v u x y (marked a b ax ay c) p q g k e =
    let left : v ≡ w ++ (a ∷ g.0) = g.1 ∙ ap (λ l. l ++ g.0) ax ∙ append_assoc w (a ∷ []) g.0 in
    let right : u ≡ w ++ (b ∷ k.0) = k.1 ∙ ap (λ l. l ++ k.0) ay ∙ append_assoc w (b ∷ []) k.0 in
    let lists : a ∷ g.0 ≡ b ∷ k.0 = append_cancel_left w (a ∷ g.0) (b ∷ k.0) (sym left ∙ e ∙ right) in
    let same : a ≡ b = cc in
    (c same, ay ∙ ap (λ z. w ++ z ∷ []) (sym same) ∙ sym ax)

end_jams : (e : CodeEnd) → IsNotStuck e → at_end e ≡ Jam → ⊥
end_jams (EndReached d r) s j = cc
end_jams (Broken f r) s j = cc
end_jams Stuck s j = s

end_moves : (x : NextState) (run_on : MachineState → CodeRun) (k : ℕ) (e : CodeEnd) → then_run x run_on ≡ Over k e → IsNotStuck e → Moves x
end_moves (GoesOn m) run_on k e h s j = absurd cc
end_moves (Stops d) run_on k e h s j = let same : d ≡ e = cc in end_jams d (subst IsNotStuck (sym same) s) j

end_or_jam : (m : MachineState) (e : CodeEnd) → At m.at (return_places m.frames) ≡ at_end e → ⊥
end_or_jam m (EndReached d r) h = cc
end_or_jam m (Broken f r) h = cc
end_or_jam m Stuck h = cc

module _ (code : ProgramParts) where
  -- a run_code of so many instructions adds to the way
  abbrev RunGrows : ℕ → Type 0
  RunGrows n = (k : ℕ) (m : MachineState) (e : CodeEnd) → run_code code n m ≡ Over k e → IsNotStuck e → Grows m.progress.way (way_of_end e)

  rest_grows : (n k : ℕ) (x : NextState) (e : CodeEnd) → RunGrows n → then_run x (run_code code n) ≡ Over k e → IsNotStuck e → Grows (after x) (way_of_end e)
  rest_grows n k (GoesOn m) e ih h s = let b = one_less (run_code code n m) k e h in ih b.0 m e b.1 s
  rest_grows n k (Stops f) e ih h s = let same : f ≡ e = cc in ([], ap way_of_end (sym same) ∙ sym (append-nil (way_of_end f)))

  run_grows : (n : ℕ) → RunGrows n
  run_grows zero k m e h s = absurd cc
  run_grows (suc n) k m e h s =
      let o = slice_get code.instrs m.at in
      let x = after_instruction code o m in
      grows_on m.progress.way (after x) (way_of_end e) (step_grows code o m (end_moves x (run_code code n) k e h s)) (rest_grows n k x e (run_grows n) h s)

  -- runs from one place with one way, which end with one way
  abbrev Alike : ℕ → Type 0
  Alike n =
      (k i j : ℕ) (m u : MachineState) (e f : CodeEnd) → m.at ≡ u.at → return_places m.frames ≡ return_places u.frames → m.progress.way ≡ u.progress.way
      → run_code code n m ≡ Over i e → run_code code k u ≡ Over j f → IsNotStuck e → IsNotStuck f → way_of_end e ≡ way_of_end f → i ≡ j

  pair : (n : ℕ) → Alike n → (k i j : ℕ) (x y : NextState) (e f : CodeEnd) → (control x ≡ control y) × (after y ≡ after x) → then_run x (run_code code n) ≡ Over i e → then_run y (run_code code k) ≡ Over j f → IsNotStuck e → IsNotStuck f → way_of_end e ≡ way_of_end f → i ≡ j
  pair n ih k i j (GoesOn m) (GoesOn u) e f c g h s t w =
      let a = one_less (run_code code n m) i e g in
      let b = one_less (run_code code k u) j f h in
      let at : m.at ≡ u.at = cc (c.0) in
      let returns : return_places m.frames ≡ return_places u.frames = cc (c.0) in
      a.2 ∙ ap (λ z. suc z) (ih k a.0 b.0 m u e f at returns (sym (c.1)) a.1 b.1 s t w) ∙ sym b.2
  pair n ih k i j (Stops d) (Stops b) e f c g h s t w = cc
  pair n ih k i j (GoesOn m) (Stops d) e f c g h s t w = absurd (end_or_jam m d (c.0))
  pair n ih k i j (Stops d) (GoesOn u) e f c g h s t w = absurd (end_or_jam u d (sym (c.0)))

  lockstep : (n : ℕ) → Alike n
  lockstep zero k i j m u e f at returns way g h s t w = absurd cc
  lockstep (suc n) zero i j m u e f at returns way g h s t w = absurd cc
  lockstep (suc n) (suc k) i j m u e f at returns way g h s t w =
      let o = slice_get code.instrs m.at in
      let x = after_instruction code o m in
      let y = after_instruction code o u in
      let h' : then_run y (run_code code k) ≡ Over j f = ap (λ z. then_run (after_instruction code (slice_get code.instrs z) u) (run_code code k)) at ∙ h in
      let p = end_moves x (run_code code n) i e g s in
      let q = end_moves y (run_code code k) j f h' t in
      pair n (lockstep n) k i j x y e f (agree m.progress.way (way_of_end e) (way_of_end f) x y (instruction_law m u at returns (sym way) code o) p q (rest_grows n i x e (run_grows n) g s) (rest_grows k j y f (run_grows k) h' t) w) g h' s t w

pub runs_count_alike : RunsCountAlike
runs_count_alike code n k i j m u e f at returns way g h s t w = lockstep code n k i j m u e f at returns way g h s t w

-- the end of a unit that has one
abbrev EndOfRun : CodeRun → Type 0
EndOfRun s = (n : ℕ) × (e : CodeEnd) × (s ≡ Over n e) × (IsNotStuck e) × (unit_executed (outcome_of_run s) ≡ n) × (unit_way (outcome_of_run s) ≡ way_of_end e)

was_over : (s : CodeRun) → IsTrue (has_end (outcome_of_run s)) → EndOfRun s
was_over (Over n (EndReached state p)) h = (n, EndReached state p, refl, tt, refl, refl)
was_over (Over n (Broken fault p)) h = (n, Broken fault p, refl, tt, refl, refl)
was_over (Over n Stuck) h = absurd cc
was_over (UnderWay m) h = absurd cc

pub units_count_alike : UnitsCountAlike
units_count_alike code entry budget other state changed s t w =
    let a = was_over (run_code code (most_executed code budget) (unit_begun entry budget state)) s in
    let b = was_over (run_code code (most_executed code other) (unit_begun entry other changed)) t in
    a.4 ∙ runs_count_alike code (most_executed code budget) (most_executed code other) a.0 b.0 (unit_begun entry budget state) (unit_begun entry other changed) a.1 b.1 refl refl refl
    a.2 b.2 a.3 b.3 (sym a.5 ∙ w ∙ b.5) ∙ sym b.4
