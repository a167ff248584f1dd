-- What a statement does.
use Rattle.std.specs.List.{join_with_byte}
use Rattle.std.specs.Prelude.{ℕ, zero, suc, List, [], ◌∷◌, ◌++◌, map, slice_get, Option, Some, None, pos}
use Rattle.ds2_base.specs.declared.place.Place.{Place}
use Rattle.ds2_value.specs.Operations.{is_true, line_text}
use Rattle.ds2_value.specs.Row.{Row}
use Rattle.ds2_value.specs.Texts.{cut_to}
use Rattle.ds2_value.specs.Value.{sum_of, compared_of}
use Rattle.ds2_value.specs.declared.comparison.Comparison.TheVariants.{Equal, Less, LessOrEqual, GreaterOrEqual}
use Rattle.ds2_value.specs.declared.fault.Fault.TheVariants.{NoWhen}
use Rattle.ds2_value.specs.declared.ty.TheConstants.{TEXT_CHARACTERS}
use Rattle.ds2_value.specs.declared.value.Value.{Value}
use Rattle.ds2_value.specs.declared.value.Value.TheVariants.{Null, Int}
use Rattle.ds2_meaning.specs.declared.location.Global.TheVariants.{Named, Parameter}
use Rattle.ds2_meaning.specs.declared.location.Reference.{Reference}
use Rattle.ds2_meaning.specs.declared.location.Reference.TheVariants.{At}
use Rattle.ds2_meaning.specs.Location.{Home, Holds}
use Rattle.ds2_meaning.specs.RunState.{RunState, attempt, StatementOutcome, Proceeds, Leaves, Continues, Returns, Faults, raises, then_value, then_statement, then_round, step_fails, begin_step, after_test, variable_value, store, keep_at, write_row, put_line}
use Rattle.ds2_meaning.specs.TypedExpression.{TypedExpression, TypedExpressions, NoExpression, Then, TypedArguments}
use Rattle.ds2_meaning.specs.TypedStatement.{TypedStatement, Empty, Assign, Invoke, Evaluate, SetParameters, ParameterValue, Construct, Leave, Continue, Return, ReturnValue, Output, Put, If, IfElse, Select, SelectValue, Block, Count, While, Until, TypedStatements, Finish, Next, TypedWhens, NoOtherwise, Otherwise, When, Item, Text, Shown, Labelled}
use Rattle.ds2_meaning.specs.Evaluation.{Surroundings, CallEnd, Answers, CallBreaks, evaluate, call}

-- `name=` and the text of a value, together at most 1,024 characters
abbrev pub labelled : List ℕ → Value → List ℕ
labelled name v = cut_to TEXT_CHARACTERS (name ++ 61 ∷ line_text v)

-- a call as a statement drops the result
abbrev pub dropped : CallEnd → StatementOutcome
dropped (Answers result vs w) = Proceeds w
dropped (CallBreaks f w) = Faults f w

-- the step of a counted loop: 1 where none was given
abbrev pub step_or_one : Option Value → Value
step_or_one None = Int (pos 1)
step_or_one (Some c) = c

-- a counted loop upwards goes on while its variable is at most the end; null ends it
abbrev pub goes_up : Value → (end : Value) → RunState → (RunState → StatementOutcome) → (RunState → StatementOutcome) → StatementOutcome
goes_up i end w on off = after_test (is_true (compared_of LessOrEqual i end)) w on off

-- one downwards goes on while its variable is at least the end; null ends it
abbrev pub goes_down : Value → (end : Value) → RunState → (RunState → StatementOutcome) → (RunState → StatementOutcome) → StatementOutcome
goes_down i end w on off = after_test (is_true (compared_of GreaterOrEqual i end)) w on off

-- the test of a counted loop: upwards without a step and for one of at least 0, downwards for one below 0, and a step that is null
-- ends the loop. The sign of a step is tested first, so that the events tell which of the three it is
abbrev pub counts_on : Value → (end : Value) → Option Value → RunState → (RunState → StatementOutcome) → (RunState → StatementOutcome) → StatementOutcome
counts_on i end None w on off = goes_up i end w on off
counts_on i end (Some step) w on off =
    after_test (is_true (compared_of GreaterOrEqual step (Int (pos 0)))) w
    (λ u. goes_up i end u on off)
    (λ u. after_test (is_true (compared_of Less step (Int (pos 0)))) u (λ x. goes_down i end x on off) off)

-- at most so many rounds of a loop: a turn, and then the other rounds; behind them this comes
abbrev pub rounds : ℕ → (last : RunState → StatementOutcome) → (turn : (RunState → StatementOutcome) → RunState → StatementOutcome) → RunState → StatementOutcome
rounds zero last turn w = last w
rounds (suc n) last turn w = turn (rounds n last turn) w

-- a loop: its turns, one behind the other. Each of them begins a step, so as many rounds as steps are left of the budget are enough,
-- and this bound says nothing: a loop is one turn and then the loop (`LoopsAreTheirTurns`)
abbrev pub looped : (last : RunState → StatementOutcome) → (turn : (RunState → StatementOutcome) → RunState → StatementOutcome) → RunState → StatementOutcome
looped last turn w = rounds w.progress.left last turn w

-- the row of an output: the values of the variables of its columns
abbrev pub projected_row : Home → List (List ℕ) → RunState → Row
projected_row home sources w = map (λ name. variable_value home (At (Named name)) w) sources

-- a row is written to an output that is there
abbrev pub write_one : Home → Option (List (List ℕ)) → ℕ → RunState → RunState
write_one home None output w = w
write_one home (Some sources) output w = write_row output (projected_row home sources w) w

-- a row is written to each of these outputs, by their numbers
abbrev pub write_each : Home → List (List (List ℕ)) → List ℕ → RunState → RunState
write_each home outputs [] w = w
write_each home outputs (n ∷ ns) w = write_each home outputs ns (write_one home (slice_get outputs n) n w)

module _ (s : Surroundings) where
  -- the first of several conditions that holds decides; where none does, the second way is taken
  abbrev pub any_holds : TypedExpressions → RunState → (RunState → StatementOutcome) → (RunState → StatementOutcome) → StatementOutcome
  any_holds NoExpression w on off = off w
  any_holds (Then e rest) w on off = then_value (evaluate s e w) (λ v u. after_test (is_true v) u on (λ x. any_holds rest x on off))

  -- likewise the first of several values that is equal to one value; null is equal to nothing
  abbrev pub any_equals : Value → TypedExpressions → RunState → (RunState → StatementOutcome) → (RunState → StatementOutcome) → StatementOutcome
  any_equals value NoExpression w on off = off w
  any_equals value (Then e rest) w on off =
      then_value (evaluate s e w) (λ v u. after_test (is_true (compared_of Equal value v)) u on (λ x. any_equals value rest x on off))

  -- goes on with the texts of the items of a line, in order
  abbrev pub with_texts : List Item → RunState → (List (List ℕ) → RunState → StatementOutcome) → StatementOutcome
  with_texts [] w go = go [] w
  with_texts (Text t ∷ items) w go = with_texts items w (λ texts. go (t ∷ texts))
  with_texts (Shown e ∷ items) w go = then_value (evaluate s e w) (λ v u. with_texts items u (λ texts. go (line_text v ∷ texts)))
  with_texts (Labelled name e ∷ items) w go = then_value (evaluate s e w) (λ v u. with_texts items u (λ texts. go (labelled name v ∷ texts)))

  -- goes on with the step of a counted loop, where one was given
  abbrev pub with_step_value : Option TypedExpression → RunState → (Option Value → RunState → StatementOutcome) → StatementOutcome
  with_step_value None w go = go None w
  with_step_value (Some e) w go = then_value (evaluate s e w) (λ v u. go (Some v) u)

  -- ---- loops: each is its test, its body, and then the loop

  -- a counted loop from a test on: its body where the test holds, and then what comes behind the body
  abbrev pub count_test : Reference → (end : Value) → Option Value → (body behind : RunState → StatementOutcome) → RunState → StatementOutcome
  count_test variable end step body behind w = counts_on (variable_value s.home variable w) end step w (λ u. then_round (body u) behind) Proceeds

  -- behind the body of a counted loop: a step, which adds to its variable, and then the rest
  abbrev pub count_further : Place → Reference → Option Value → (rest : RunState → StatementOutcome) → RunState → StatementOutcome
  count_further place variable step rest w =
      begin_step place w (λ x. then_value (attempt (sum_of (variable_value s.home variable x) (step_or_one step)) x) (λ v y. rest (store s.home variable v y)))

  -- a turn of a counted loop: its test, its body, its step, and then the rest
  abbrev pub count_turn : Place → Reference → (end : Value) → Option Value → (body rest : RunState → StatementOutcome) → RunState → StatementOutcome
  count_turn place variable end step body rest w = count_test variable end step body (count_further place variable step rest) w

  -- a test of it, and at most so many further rounds
  abbrev pub rounds_counted : ℕ → Place → Reference → (end : Value) → Option Value → (body : RunState → StatementOutcome) → RunState → StatementOutcome
  rounds_counted n place variable end step body w =
      rounds n (count_test variable end step body (step_fails place)) (count_turn place variable end step body) w

  -- a counted loop from a test on
  abbrev pub count_loop : Place → Reference → (end : Value) → Option Value → (body : RunState → StatementOutcome) → RunState → StatementOutcome
  count_loop place variable end step body w = looped (count_test variable end step body (step_fails place)) (count_turn place variable end step body) w

  -- a turn of a loop that tests before its body: a step, its test, its body where that holds, and then the rest
  abbrev pub while_turn : Place → TypedExpression → (body rest : RunState → StatementOutcome) → RunState → StatementOutcome
  while_turn place condition body rest w =
      begin_step place w (λ u. then_value (evaluate s condition u) (λ v x. after_test (is_true v) x (λ y. then_round (body y) rest) Proceeds))

  -- at most so many rounds of it
  abbrev pub rounds_while : ℕ → Place → TypedExpression → (body : RunState → StatementOutcome) → RunState → StatementOutcome
  rounds_while n place condition body w = rounds n (step_fails place) (while_turn place condition body) w

  -- such a loop
  abbrev pub while_loop : Place → TypedExpression → (body : RunState → StatementOutcome) → RunState → StatementOutcome
  while_loop place condition body w = looped (step_fails place) (while_turn place condition body) w

  -- a turn of a loop that tests behind its body: its body, a step, its test, and the rest where that does not hold
  abbrev pub until_turn : Place → TypedExpression → (body rest : RunState → StatementOutcome) → RunState → StatementOutcome
  until_turn place condition body rest w =
      then_round (body w) (λ u. begin_step place u (λ x. then_value (evaluate s condition x) (λ v y. after_test (is_true v) y Proceeds rest)))

  -- its body, and at most so many further rounds of it
  abbrev pub rounds_until : ℕ → Place → TypedExpression → (body : RunState → StatementOutcome) → RunState → StatementOutcome
  rounds_until n place condition body w = rounds n (λ u. then_round (body u) (step_fails place)) (until_turn place condition body) w

  -- such a loop
  abbrev pub until_loop : Place → TypedExpression → (body : RunState → StatementOutcome) → RunState → StatementOutcome
  until_loop place condition body w = looped (λ u. then_round (body u) (step_fails place)) (until_turn place condition body) w

  -- the constructor of an instance is called, where its package has one
  abbrev pub constructed : List ℕ → Option ℕ → TypedArguments → RunState → StatementOutcome
  constructed instance None arguments w = Proceeds w
  constructed instance (Some method) arguments w = dropped (call s (Some instance) method arguments w)

  -- the parameters of an instance of a thread program get their values, one after the other
  abbrev pub with_parameters_set : List ℕ → List ParameterValue → RunState → StatementOutcome
  with_parameters_set instance [] w = Proceeds w
  with_parameters_set instance (p ∷ ps) w =
      then_value (evaluate s p.value w)
      (λ v u. with_parameters_set instance ps (keep_at (record { home = Some instance; global = Parameter p.parameter }) (Holds v) u))

  abbrev mutual
    -- what a statement does: it begins as a step, evaluates its parts in order, and ends in one of the five ways
    pub exec : TypedStatement → RunState → StatementOutcome
    exec (Empty place) w = begin_step place w Proceeds
    exec (Assign place variable e) w = begin_step place w (λ u. then_value (evaluate s e u) (λ v x. Proceeds (store s.home variable v x)))
    exec (Invoke place instance method arguments) w = begin_step place w (λ u. dropped (call s instance method arguments u))
    exec (Evaluate place e) w = begin_step place w (λ u. then_value (evaluate s e u) (λ v x. Proceeds x))
    exec (SetParameters place instance values) w = begin_step place w (with_parameters_set instance values)
    exec (Construct place instance method arguments) w = begin_step place w (constructed instance method arguments)
    exec (Leave place) w = begin_step place w Leaves
    exec (Continue place) w = begin_step place w Continues
    exec (Return place) w = begin_step place w (Returns Null)
    exec (ReturnValue place e) w = begin_step place w (λ u. then_value (evaluate s e u) Returns)
    exec (Output place numbers) w = begin_step place w (λ u. Proceeds (write_each s.home s.outputs numbers u))
    exec (Put place items) w = begin_step place w (λ u. with_texts items u (λ texts x. Proceeds (put_line (join_with_byte 32 texts) x)))
    exec (If place condition on) w = begin_step place w (λ u. then_value (evaluate s condition u) (λ v x. after_test (is_true v) x (exec on) Proceeds))
    exec (IfElse place condition on off) w =
        begin_step place w (λ u. then_value (evaluate s condition u) (λ v x. after_test (is_true v) x (exec on) (exec off)))
    exec (Select place whens) w = begin_step place w (select whens)
    exec (SelectValue place e whens) w = begin_step place w (λ u. then_value (evaluate s e u) (λ v x. select_value v whens x))
    exec (Block place body) w = begin_step place w (exec_all body)
    exec (Count place variable start end step body) w =
        begin_step place w (λ u. then_value (evaluate s start u) (λ a x. then_value (evaluate s end x) (λ b y. with_step_value step y (λ c z.
        begin_step place (store s.home variable a z) (count_loop place variable b c (exec_all body))))))
    exec (While place condition body) w = begin_step place w (while_loop place condition (exec_all body))
    exec (Until place condition body) w = begin_step place w (until_loop place condition (exec_all body))

    -- statements one after the other
    pub exec_all : TypedStatements → RunState → StatementOutcome
    exec_all Finish w = Proceeds w
    exec_all (Next first rest) w = then_statement (exec first w) (exec_all rest)

    -- the first `when` of which a condition holds is carried out, and else the `otherwise` part; without one the fault NoWhen comes
    pub select : TypedWhens → RunState → StatementOutcome
    select NoOtherwise w = raises NoWhen w
    select (Otherwise s') w = exec s' w
    select (When tests s' rest) w = any_holds tests w (exec s') (select rest)

    -- the first `when` of which a value is equal to this one is carried out, and else the `otherwise` part
    pub select_value : Value → TypedWhens → RunState → StatementOutcome
    select_value value NoOtherwise w = raises NoWhen w
    select_value value (Otherwise s') w = exec s' w
    select_value value (When tests s' rest) w = any_equals value tests w (exec s') (select_value value rest)
