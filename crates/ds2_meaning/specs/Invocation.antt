-- What a call of a declared method does.
use Rattle.std.specs.Prelude.{ℕ, zero, suc, List, [], slice_get, Option, Some, None}
use Rattle.ds2_value.specs.Progress.{with_call, without_call, with_place}
use Rattle.ds2_value.specs.declared.fault.Fault.{Fault}
use Rattle.ds2_value.specs.declared.fault.Fault.TheVariants.{BudgetSpent, DepthReached}
use Rattle.ds2_value.specs.declared.value.Value.{Value}
use Rattle.ds2_value.specs.declared.value.Value.TheVariants.{Null}
use Rattle.ds2_meaning.specs.declared.methods.Parameter.{Parameter}
use Rattle.ds2_meaning.specs.HashObjects.{DeclaredObjects}
use Rattle.ds2_meaning.specs.Location.{Home}
use Rattle.ds2_meaning.specs.RunState.{RunState, StatementOutcome, Proceeds, Leaves, Continues, Returns, Faults, noting_failure, with_progress}
use Rattle.ds2_meaning.specs.Evaluation.{Calls, CallEnd, Answers, CallBreaks}
use Rattle.ds2_meaning.specs.Execution.{exec_all}
use Rattle.ds2_meaning.specs.Method.{MethodTree, Declarations, locals_at_entry, last_values}

-- the state in which a method begins: a call is a step that keeps the place, and it leaves this much of the budget
abbrev pub method_state : List Parameter → List Value → ℕ → RunState → RunState
method_state parameters arguments left w =
    record { storage = w.storage; locals = locals_at_entry parameters arguments; progress = with_call left w.progress }

-- the state of the caller behind a call: its own locals and place again, and all else as the method leaves it
abbrev pub back_in : RunState → RunState → RunState
back_in caller w = record { storage = w.storage; locals = caller.locals; progress = with_place caller.progress.place w.progress }

-- how a call ends, by how the statements of the method end; a method that ends without `return` has no result. `leave` and `continue`
-- outside of loops, which no typed method has, end it likewise
abbrev pub returned : List Parameter → RunState → StatementOutcome → CallEnd
returned parameters caller (Proceeds w) = Answers Null (last_values parameters w.locals) (back_in caller w)
returned parameters caller (Leaves w) = Answers Null (last_values parameters w.locals) (back_in caller w)
returned parameters caller (Continues w) = Answers Null (last_values parameters w.locals) (back_in caller w)
returned parameters caller (Returns v w) = Answers v (last_values parameters w.locals) (back_in caller w)
returned parameters caller (Faults f w) = CallBreaks f w

-- a call faults: a call that finds no budget counts as an operation that fails
abbrev pub call_raises : Fault → RunState → CallEnd
call_raises fault w = CallBreaks fault (noting_failure w)

-- a call that finds this much of the budget; where none is left it is BudgetSpent at the place of the caller
abbrev pub call_finding : ℕ → RunState → (ℕ → CallEnd) → CallEnd
call_finding zero w go = call_raises BudgetSpent w
call_finding (suc left) w go = go left

-- a method is carried out with calls of one level less. A method that is not there is never called in a typed unit, and the
-- fault given for it means nothing
abbrev pub carried_out : Calls → DeclaredObjects → Home → Option MethodTree → List Value → ℕ → RunState → CallEnd
carried_out calls objects home None arguments left w = call_raises DepthReached w
carried_out calls objects home (Some method) arguments left w =
    returned method.parameters w
    (exec_all (record { calls = calls; objects = objects; outputs = []; home = home }) method.body (method_state method.parameters arguments left w))

-- one more call than there may be under way: DepthReached, after its step
abbrev pub call_too_deep : ℕ → RunState → CallEnd
call_too_deep left w = CallBreaks DepthReached (with_progress (without_call left w.progress) w)

-- calls where so many further methods may be under way
abbrev pub invoke : Declarations → ℕ → Calls
invoke declared zero home number arguments w = call_finding w.progress.left w (λ left. call_too_deep left w)
invoke declared (suc depth) home number arguments w =
    call_finding w.progress.left w
    (λ left. carried_out (invoke declared depth) (declared.objects home) home (slice_get (declared.methods home) number) arguments left w)
