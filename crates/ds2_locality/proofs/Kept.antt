-- What `run` can't change it leaves as it was: calls by their depth, and the statements of a system method.
use Rattle.std.proofs.Common.{◌≡◌, ℕ, zero, suc, false, List, [], ◌∷◌, slice_get, Option, Some, None}
use Rattle.std.specs.List.{AllByRecursion, list_any}
use Rattle.std.proofs.lemmas.Bool.{or_parts}
use Rattle.ds2_value.specs.declared.fault.TheConstants.{CALL_DEPTH}
use Rattle.ds2_value.specs.declared.value.Value.{Value}
use Rattle.ds2_meaning.specs.declared.methods.Parameter.{Parameter}
use Rattle.ds2_meaning.specs.Evaluation.{Calls, CallEnd, Answers, CallBreaks}
use Rattle.ds2_meaning.specs.Execution.{exec_all}
use Rattle.ds2_meaning.specs.Invocation.{method_state, returned, call_finding, carried_out, call_too_deep, invoke}
use Rattle.ds2_meaning.specs.Location.{Home, Location, is_same_location, Content}
use Rattle.ds2_meaning.specs.Method.{MethodTree}
use Rattle.ds2_meaning.specs.ProgramTree.{UnitTree, methods_of, objects_of, declarations_of, output_sources}
use Rattle.ds2_meaning.specs.RunState.{RunState, StatementOutcome, Proceeds, Leaves, Continues, Returns, Faults}
use Rattle.ds2_locality.specs.Deeds.{MethodAt, system_scope, Deed, Mention, MentionObject, Change, CallOf, WriteAt, body_deeds, deeds_of_method, with_callees, changes_location, run_can_change}
use Rattle.ds2_locality.specs.KeptLocations.{seen_at}
use Rattle.ds2_locality.proofs.Frame.{AreAllowed, Any, ObjectsSeen, body_keeps}
use Rattle.ds2_locality.proofs.Reached.{Single, Safe, deeds_allowed}

-- no deed of this kind changes x
abbrev pub Apart : Location → Location → Type 0
Apart x at = is_same_location x at ≡ false

-- deeds that do not change x
unchanged : (x : Location) (deeds : List Deed) (p : UnitTree) → list_any (changes_location x) deeds ≡ false → AllByRecursion (Single p Any Any (Apart x)) deeds
unchanged x [] p e = tt
unchanged x (Mention at ∷ deeds) p e = (tt, unchanged x deeds p (or_parts (changes_location x (Mention at)) (list_any (changes_location x) deeds) e).1)
unchanged x (MentionObject at ∷ deeds) p e = (tt, unchanged x deeds p (or_parts (changes_location x (MentionObject at)) (list_any (changes_location x) deeds) e).1)
unchanged x (Change at ∷ deeds) p e =
    let parts = or_parts (changes_location x (Change at)) (list_any (changes_location x) deeds) e in (parts.0, unchanged x deeds p parts.1)
unchanged x (CallOf m ∷ deeds) p e = (tt, unchanged x deeds p (or_parts (changes_location x (CallOf m)) (list_any (changes_location x) deeds) e).1)
unchanged x (WriteAt place ∷ deeds) p e = (tt, unchanged x deeds p (or_parts (changes_location x (WriteAt place)) (list_any (changes_location x) deeds) e).1)

-- the deeds of `run`, where it can't change x
pub run_allowed : (p : UnitTree) (x : Location) → run_can_change p x ≡ false → AreAllowed Any Any (Apart x) (Safe p Any Any (Apart x) CALL_DEPTH) (body_deeds (system_scope p) p.run.statements)
run_allowed p x e =
    deeds_allowed p Any Any (Apart x) (body_deeds (system_scope p) p.run.statements) (unchanged x (with_callees p (body_deeds (system_scope p) p.run.statements)) p e)

-- ---- calls by their depth

module _ (p : UnitTree) (objects_seen : ObjectsSeen p) (x : Location) (old : Content) where
  abbrev Kept : RunState → Type 0
  Kept w = seen_at p x (w.storage x) ≡ old

  abbrev KeptCall : CallEnd → Type 0
  KeptCall (Answers v vs w) = Kept w
  KeptCall (CallBreaks f w) = Kept w

  abbrev pub KeptBy : StatementOutcome → Type 0
  KeptBy (Proceeds w) = Kept w
  KeptBy (Leaves w) = Kept w
  KeptBy (Continues w) = Kept w
  KeptBy (Returns v w) = Kept w
  KeptBy (Faults f w) = Kept w

  returned_kept : (parameters : List Parameter) (caller : RunState) (o : StatementOutcome) → KeptBy o → KeptCall (returned parameters caller o)
  returned_kept parameters caller (Proceeds w) h = h
  returned_kept parameters caller (Leaves w) h = h
  returned_kept parameters caller (Continues w) h = h
  returned_kept parameters caller (Returns v w) h = h
  returned_kept parameters caller (Faults f w) h = h

  finding_kept : (n : ℕ) (w : RunState) (go : ℕ → CallEnd) → Kept w → ((left : ℕ) → KeptCall (go left)) → KeptCall (call_finding n w go)
  finding_kept zero w go h k = h
  finding_kept (suc left) w go h k = k left

  carried_kept : (depth : ℕ) (calls : Calls) → ((m : MethodAt) → Safe p Any Any (Apart x) depth m → (vs : List Value) (w : RunState) → Kept w → KeptCall (calls m.home m.number vs w))
      → (home : Home) (o : Option MethodTree) (vs : List Value) (left : ℕ) (w : RunState) → AreAllowed Any Any (Apart x) (Safe p Any Any (Apart x) depth) (deeds_of_method p home o) → Kept w
      → KeptCall (carried_out calls (objects_of p home) home o vs left w)
  carried_kept depth calls calls_kept home None vs left w q h = h
  carried_kept depth calls calls_kept home (Some method) vs left w q h =
      returned_kept method.parameters w
      (exec_all (record { calls = calls; objects = objects_of p home; outputs = []; home = home }) method.body (method_state method.parameters vs left w))
      (body_keeps p objects_seen x old (Safe p Any Any (Apart x) depth) home [] calls (λ m r vs u k. calls_kept m r vs u k) method.body q (method_state method.parameters vs left w) h)

  pub invoke_kept : (depth : ℕ) (m : MethodAt) → Safe p Any Any (Apart x) depth m → (vs : List Value) (w : RunState) → Kept w → KeptCall (invoke (declarations_of p) depth m.home m.number vs w)
  invoke_kept zero m q vs w h = finding_kept w.progress.left w (λ left. call_too_deep left w) h (λ left. h)
  invoke_kept (suc depth) m q vs w h =
      finding_kept w.progress.left w
      (λ left. carried_out (invoke (declarations_of p) depth) (objects_of p m.home) m.home (slice_get (methods_of p m.home) m.number) vs left w) h
      (λ left. carried_kept depth (invoke (declarations_of p) depth) (λ k r us u g. invoke_kept depth k r us u g) m.home (slice_get (methods_of p m.home) m.number) vs left w q h)

  -- the statements of a system method
  pub system_kept : (fine : AreAllowed Any Any (Apart x) (Safe p Any Any (Apart x) CALL_DEPTH) (body_deeds (system_scope p) p.run.statements)) (w : RunState) → Kept w
      → KeptBy (exec_all (record { calls = invoke (declarations_of p) CALL_DEPTH; objects = p.objects; outputs = output_sources p; home = None }) p.run.statements w)
  system_kept fine w h =
      body_keeps p objects_seen x old (Safe p Any Any (Apart x) CALL_DEPTH) None (output_sources p) (invoke (declarations_of p) CALL_DEPTH)
      (λ m r vs u k. invoke_kept CALL_DEPTH m r vs u k) p.run.statements fine w h
