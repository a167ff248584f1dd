-- A loop is one turn and then the loop: the bound by which it is written says nothing.
use Rattle.std.proofs.Common.{◌≡◌, ℕ, zero, suc, ◌≤◌, Bool, true, false, Option, Some, None, refl, sym, ap, ◌∙◌, arith}
use Rattle.std.specs.Prelude.{pos}
use Rattle.ds2_base.specs.declared.place.Place.{Place}
use Rattle.ds2_value.specs.Operations.{is_true}
use Rattle.ds2_value.specs.Progress.{with_step}
use Rattle.ds2_value.specs.Run.{Tested}
use Rattle.ds2_value.specs.Value.{sum_of, compared_of}
use Rattle.ds2_value.specs.declared.comparison.Comparison.TheVariants.{Less, LessOrEqual, GreaterOrEqual}
use Rattle.ds2_value.specs.declared.value.Value.{Value}
use Rattle.ds2_value.specs.declared.value.Value.TheVariants.{Int}
use Rattle.ds2_meaning.specs.declared.location.Reference.{Reference}
use Rattle.ds2_meaning.specs.BudgetLaws.{left_by_expression, left_by_statement, around, NoStatementRaisesTheBudget, LoopsAreTheirTurns}
use Rattle.ds2_meaning.specs.Evaluation.{Surroundings, evaluate}
use Rattle.ds2_meaning.specs.Execution.{step_or_one, counts_on, count_turn, rounds_counted, while_turn, rounds_while, until_turn, rounds_until, exec_all}
use Rattle.ds2_meaning.specs.RunState.{RunState, ExpressionEnd, Gives, Breaks, attempt, StatementOutcome, Proceeds, Leaves, Continues, Returns, Faults, then_value, then_round, step_fails, step_finding, begin_step, after_test, noting, with_progress, variable_value, store}
use Rattle.ds2_meaning.specs.TypedExpression.{TypedExpression}
use Rattle.ds2_meaning.proofs.Within.{CallsAreWithin, IsWithin, attempt_within, stored_within, value_within, statement_within, statements_within, invoke_within}

pub no_statement_raises_the_budget : NoStatementRaisesTheBudget
no_statement_raises_the_budget declared depth outputs home t w =
    statement_within (around declared depth outputs home) (invoke_within declared depth) t w.progress.left w (omega arith)

-- ---- two ways to go on that agree where so much is left

begin_spent : (place : Place) (w : RunState) (go : RunState → StatementOutcome) → w.progress.left ≤ 0 → begin_step place w go ≡ step_fails place w
begin_spent place w go h = let e : w.progress.left ≡ 0 = omega (arith, h) in ap (λ k. step_finding k place w go) e

round_same : (n : ℕ) (o : StatementOutcome) (f g : RunState → StatementOutcome) → left_by_statement o ≤ n → ((u : RunState) → u.progress.left ≤ n → f u ≡ g u)
    → then_round o f ≡ then_round o g
round_same n (Proceeds w) f g h k = k w h
round_same n (Leaves w) f g h k = refl
round_same n (Continues w) f g h k = k w h
round_same n (Returns v w) f g h k = refl
round_same n (Faults x w) f g h k = refl

step_same : (k : ℕ) (place : Place) (w : RunState) (f g : RunState → StatementOutcome) → ((u : RunState) → suc u.progress.left ≤ k → f u ≡ g u)
    → step_finding k place w f ≡ step_finding k place w g
step_same zero place w f g h = refl
step_same (suc j) place w f g h = h (with_progress (with_step place j w.progress) w) (omega arith)

value_same : (n : ℕ) (e : ExpressionEnd) (f g : Value → RunState → StatementOutcome) → left_by_expression e ≤ n
    → ((v : Value) (u : RunState) → u.progress.left ≤ n → f v u ≡ g v u) → then_value e f ≡ then_value e g
value_same n (Gives v w) f g h k = k v w h
value_same n (Breaks x w) f g h k = refl

test_same : (n : ℕ) (b : Bool) (w : RunState) (on off up down : RunState → StatementOutcome) → w.progress.left ≤ n
    → ((u : RunState) → u.progress.left ≤ n → on u ≡ up u) → ((u : RunState) → u.progress.left ≤ n → off u ≡ down u)
    → after_test b w on off ≡ after_test b w up down
test_same n true w on off up down h k l = k (noting (Tested true) w) h
test_same n false w on off up down h k l = l (noting (Tested false) w) h

counts_on_same : (n : ℕ) (i end : Value) (step : Option Value) (w : RunState) (on up off : RunState → StatementOutcome) → w.progress.left ≤ n
    → ((u : RunState) → u.progress.left ≤ n → on u ≡ up u) → counts_on i end step w on off ≡ counts_on i end step w up off
counts_on_same n i end None w on up off h k = test_same n (is_true (compared_of LessOrEqual i end)) w on off up off h k (λ u l. refl)
counts_on_same n i end (Some c) w on up off h k =
    test_same n (is_true (compared_of GreaterOrEqual c (Int (pos 0)))) w
    (λ u. after_test (is_true (compared_of LessOrEqual i end)) u on off)
    (λ u. after_test (is_true (compared_of Less c (Int (pos 0)))) u (λ x. after_test (is_true (compared_of GreaterOrEqual i end)) x on off) off)
    (λ u. after_test (is_true (compared_of LessOrEqual i end)) u up off)
    (λ u. after_test (is_true (compared_of Less c (Int (pos 0)))) u (λ x. after_test (is_true (compared_of GreaterOrEqual i end)) x up off) off)
    h
    (λ u l. test_same n (is_true (compared_of LessOrEqual i end)) u on off up off l k (λ x m. refl))
    (λ u l. test_same n (is_true (compared_of Less c (Int (pos 0)))) u
    (λ x. after_test (is_true (compared_of GreaterOrEqual i end)) x on off) off (λ x. after_test (is_true (compared_of GreaterOrEqual i end)) x up off) off l
    (λ x m. test_same n (is_true (compared_of GreaterOrEqual i end)) x on off up off m k (λ y q. refl)) (λ x m. refl))

-- ---- turns

module _ (s : Surroundings) (calls_within : CallsAreWithin s.calls) (body : RunState → StatementOutcome) (within : IsWithin body) where
  module _ (place : Place) (e : TypedExpression) where
    while_turn_same : (n : ℕ) (w : RunState) (f g : RunState → StatementOutcome) → w.progress.left ≤ n → ((y : RunState) → suc y.progress.left ≤ n → f y ≡ g y)
        → while_turn s place e body f w ≡ while_turn s place e body g w
    while_turn_same n w f g h same =
        step_same w.progress.left place w
        (λ u. then_value (evaluate s e u) (λ v x. after_test (is_true v) x (λ y. then_round (body y) f) Proceeds))
        (λ u. then_value (evaluate s e u) (λ v x. after_test (is_true v) x (λ y. then_round (body y) g) Proceeds))
        (λ u k. value_same u.progress.left (evaluate s e u)
        (λ v x. after_test (is_true v) x (λ y. then_round (body y) f) Proceeds) (λ v x. after_test (is_true v) x (λ y. then_round (body y) g) Proceeds)
        (value_within s calls_within e u.progress.left u (omega arith))
        (λ v x l. test_same u.progress.left (is_true v) x (λ y. then_round (body y) f) Proceeds (λ y. then_round (body y) g) Proceeds l
        (λ y m. round_same u.progress.left (body y) f g (within u.progress.left y m) (λ z q. same z (omega (arith, q, k, h))))
        (λ y m. refl)))

    while_bound : (k m : ℕ) (w : RunState) → w.progress.left ≤ k → w.progress.left ≤ m → rounds_while s k place e body w ≡ rounds_while s m place e body w
    while_bound zero zero w h l = refl
    while_bound zero (suc m) w h l =
        sym (begin_spent place w (λ u. then_value (evaluate s e u) (λ v x. after_test (is_true v) x (λ y. then_round (body y) (rounds_while s m place e body)) Proceeds)) h)
    while_bound (suc k) zero w h l =
        begin_spent place w (λ u. then_value (evaluate s e u) (λ v x. after_test (is_true v) x (λ y. then_round (body y) (rounds_while s k place e body)) Proceeds)) l
    while_bound (suc k) (suc m) w h l =
        while_turn_same w.progress.left w (rounds_while s k place e body) (rounds_while s m place e body) (omega arith)
        (λ y p. while_bound k m y (omega (arith, p, h)) (omega (arith, p, l)))

    pub while_turned : (w : RunState) → rounds_while s w.progress.left place e body w ≡ while_turn s place e body (λ y. rounds_while s y.progress.left place e body y) w
    while_turned w =
        while_bound w.progress.left (suc w.progress.left) w (omega arith) (omega arith)
        ∙ while_turn_same w.progress.left w (rounds_while s w.progress.left place e body) (λ y. rounds_while s y.progress.left place e body y) (omega arith)
        (λ y p. while_bound w.progress.left y.progress.left y (omega (arith, p)) (omega arith))

    until_turn_same : (n : ℕ) (w : RunState) (f g : RunState → StatementOutcome) → w.progress.left ≤ n → ((y : RunState) → suc y.progress.left ≤ n → f y ≡ g y)
        → until_turn s place e body f w ≡ until_turn s place e body g w
    until_turn_same n w f g h same =
        round_same w.progress.left (body w)
        (λ u. begin_step place u (λ x. then_value (evaluate s e x) (λ v y. after_test (is_true v) y Proceeds f)))
        (λ u. begin_step place u (λ x. then_value (evaluate s e x) (λ v y. after_test (is_true v) y Proceeds g)))
        (within w.progress.left w (omega arith))
        (λ u k. step_same u.progress.left place u
        (λ x. then_value (evaluate s e x) (λ v y. after_test (is_true v) y Proceeds f)) (λ x. then_value (evaluate s e x) (λ v y. after_test (is_true v) y Proceeds g))
        (λ x l. value_same x.progress.left (evaluate s e x) (λ v y. after_test (is_true v) y Proceeds f) (λ v y. after_test (is_true v) y Proceeds g)
        (value_within s calls_within e x.progress.left x (omega arith))
        (λ v y m. test_same x.progress.left (is_true v) y Proceeds f Proceeds g m (λ z q. refl) (λ z q. same z (omega (arith, q, l, k, h))))))

    spent_until : (m : ℕ) (w : RunState) → w.progress.left ≤ 0 → rounds_until s zero place e body w ≡ rounds_until s (suc m) place e body w
    spent_until m w h =
        round_same 0 (body w) (step_fails place)
        (λ u. begin_step place u (λ x. then_value (evaluate s e x) (λ v y. after_test (is_true v) y Proceeds (rounds_until s m place e body)))) (within 0 w h)
        (λ u k. sym (begin_spent place u (λ x. then_value (evaluate s e x) (λ v y. after_test (is_true v) y Proceeds (rounds_until s m place e body))) k))

    until_bound : (k m : ℕ) (w : RunState) → w.progress.left ≤ k → w.progress.left ≤ m → rounds_until s k place e body w ≡ rounds_until s m place e body w
    until_bound zero zero w h l = refl
    until_bound zero (suc m) w h l = spent_until m w h
    until_bound (suc k) zero w h l = sym (spent_until k w l)
    until_bound (suc k) (suc m) w h l =
        until_turn_same w.progress.left w (rounds_until s k place e body) (rounds_until s m place e body) (omega arith)
        (λ y p. until_bound k m y (omega (arith, p, h)) (omega (arith, p, l)))

    pub until_turned : (w : RunState) → rounds_until s w.progress.left place e body w ≡ until_turn s place e body (λ y. rounds_until s y.progress.left place e body y) w
    until_turned w =
        until_bound w.progress.left (suc w.progress.left) w (omega arith) (omega arith)
        ∙ until_turn_same w.progress.left w (rounds_until s w.progress.left place e body) (λ y. rounds_until s y.progress.left place e body y) (omega arith)
        (λ y p. until_bound w.progress.left y.progress.left y (omega (arith, p)) (omega arith))

  module _ (place : Place) (i : Reference) (end : Value) (step : Option Value) where
    -- what comes behind the body of a counted loop
    abbrev added : (RunState → StatementOutcome) → RunState → StatementOutcome
    added f x = begin_step place x (λ y. then_value (attempt (sum_of (variable_value s.home i y) (step_or_one step)) y) (λ v z. f (store s.home i v z)))

    added_same : (n : ℕ) (x : RunState) (f g : RunState → StatementOutcome) → x.progress.left ≤ n → ((y : RunState) → suc y.progress.left ≤ n → f y ≡ g y) → added f x ≡ added g x
    added_same n x f g h same =
        step_same x.progress.left place x
        (λ y. then_value (attempt (sum_of (variable_value s.home i y) (step_or_one step)) y) (λ v z. f (store s.home i v z)))
        (λ y. then_value (attempt (sum_of (variable_value s.home i y) (step_or_one step)) y) (λ v z. g (store s.home i v z)))
        (λ y k. value_same y.progress.left (attempt (sum_of (variable_value s.home i y) (step_or_one step)) y)
        (λ v z. f (store s.home i v z)) (λ v z. g (store s.home i v z))
        (attempt_within y.progress.left (sum_of (variable_value s.home i y) (step_or_one step)) y (omega arith))
        (λ v z l. same (store s.home i v z) (let q : (store s.home i v z).progress.left ≤ y.progress.left = stored_within y.progress.left s.home i v z l in omega (arith, q, k, h))))

    count_turn_same : (n : ℕ) (w : RunState) (f g : RunState → StatementOutcome) → w.progress.left ≤ n → ((y : RunState) → suc y.progress.left ≤ n → f y ≡ g y)
        → count_turn s place i end step body f w ≡ count_turn s place i end step body g w
    count_turn_same n w f g h same =
        counts_on_same n (variable_value s.home i w) end step w (λ u. then_round (body u) (added f)) (λ u. then_round (body u) (added g)) Proceeds h
        (λ u k. round_same n (body u) (added f) (added g) (within n u k) (λ x l. added_same n x f g l same))

    spent_count : (m : ℕ) (w : RunState) → w.progress.left ≤ 0 → rounds_counted s zero place i end step body w ≡ rounds_counted s (suc m) place i end step body w
    spent_count m w h =
        counts_on_same 0 (variable_value s.home i w) end step w (λ u. then_round (body u) (step_fails place)) (λ u. then_round (body u) (added (rounds_counted s m place i end step body))) Proceeds h
        (λ u k. round_same 0 (body u) (step_fails place) (added (rounds_counted s m place i end step body)) (within 0 u k)
        (λ x l. sym (begin_spent place x
        (λ y. then_value (attempt (sum_of (variable_value s.home i y) (step_or_one step)) y) (λ v z. rounds_counted s m place i end step body (store s.home i v z))) l)))

    count_bound : (k m : ℕ) (w : RunState) → w.progress.left ≤ k → w.progress.left ≤ m → rounds_counted s k place i end step body w ≡ rounds_counted s m place i end step body w
    count_bound zero zero w h l = refl
    count_bound zero (suc m) w h l = spent_count m w h
    count_bound (suc k) zero w h l = sym (spent_count k w l)
    count_bound (suc k) (suc m) w h l =
        count_turn_same w.progress.left w (rounds_counted s k place i end step body) (rounds_counted s m place i end step body) (omega arith)
        (λ y p. count_bound k m y (omega (arith, p, h)) (omega (arith, p, l)))

    pub count_turned : (w : RunState)
        → rounds_counted s w.progress.left place i end step body w ≡ count_turn s place i end step body (λ y. rounds_counted s y.progress.left place i end step body y) w
    count_turned w =
        count_bound w.progress.left (suc w.progress.left) w (omega arith) (omega arith)
        ∙ count_turn_same w.progress.left w (rounds_counted s w.progress.left place i end step body) (λ y. rounds_counted s y.progress.left place i end step body y) (omega arith)
        (λ y p. count_bound w.progress.left y.progress.left y (omega (arith, p)) (omega arith))

pub loops_are_their_turns : LoopsAreTheirTurns
loops_are_their_turns declared depth outputs home =
    let s = around declared depth outputs home in
    let calls_within = invoke_within declared depth in
    record {
      while_begins = λ place e body w. refl;
      while_turns = λ place e body w. while_turned s calls_within (exec_all s body) (statements_within s calls_within body) place e w;
      until_begins = λ place e body w. refl;
      until_turns = λ place e body w. until_turned s calls_within (exec_all s body) (statements_within s calls_within body) place e w;
      count_begins = λ place i a b step body w. refl;
      count_turns = λ place i end step body w. count_turned s calls_within (exec_all s body) (statements_within s calls_within body) place i end step w;
    }
