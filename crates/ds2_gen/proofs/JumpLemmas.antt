-- Jumps of code go forward, or to where a step of the budget begins, and stay in the list.
use Rattle.std.proofs.Common.{◌≡◌, ℕ, zero, suc, ◌+◌, ◌<◌, ◌≤◌, true, false, List, [], ◌∷◌, ◌++◌, length, Option, Some, None, inl, inr, is_some, refl, sym, ap, ◌∙◌, subst, arith, length-append, append-nil}
use Rattle.std.specs.Prelude.{◌⊎◌, slice_get, pos}
use Rattle.std.proofs.lemmas.Bool.{true≢false}
use Rattle.ds2_base.specs.declared.place.Place.{Place}
use Rattle.ds2_value.specs.declared.comparison.Comparison.TheVariants.{Equal, Less, LessOrEqual, GreaterOrEqual}
use Rattle.ds2_value.specs.declared.ty.Ty.{Ty}
use Rattle.ds2_value.specs.declared.ty.Ty.TheVariants.{BigInt}
use Rattle.ds2_value.specs.declared.value.Value.TheVariants.{Int}
use Rattle.ds2_meaning.specs.declared.location.Reference.{Reference}
use Rattle.ds2_meaning.specs.Evaluation.{callee_home}
use Rattle.ds2_meaning.specs.IsTyped.{class_of, expression_type}
use Rattle.ds2_meaning.specs.TypedExpression.{TypedExpression, TypedExpressions, NoExpression, Then}
use Rattle.ds2_meaning.specs.TypedStatement.{TypedStatement, Empty, Assign, Invoke, Evaluate, SetParameters, Construct, Leave, Continue, Return, ReturnValue, Output, Put, If, IfElse, Select, SelectValue, Block, Count, While, Until, TypedStatements, Finish, Next, TypedWhens, NoOtherwise, Otherwise, When}
use Rattle.ds2_code.specs.declared.instr.Instr.{Instr}
use Rattle.ds2_code.specs.declared.instr.Instr.TheVariants as instr
use Rattle.ds2_code.specs.CodeBound.{starts_step, jump_target, falls_through, IsBoundedJump}
use Rattle.ds2_code.specs.InstructionTable.{kind_of}
use Rattle.ds2_gen.specs.BodyCode.{CodeBody, OfSystem, OfMethod, code_of_body, bodies_code, BodiesStayInList}
use Rattle.ds2_gen.specs.CodePieces.{StandsAt, ReturnWay, JumpsToEnd, HandsBack, ExitPoints}
use Rattle.ds2_gen.specs.ExpressionCode.{CodeNumbers, cell_of, load_instr, store_instr, constant_instr, comparison_instr, expression_code, condition_code}
use Rattle.ds2_gen.specs.MethodCode.{method_ending, method_end, method_exits}
use Rattle.ds2_gen.specs.StatementCode.{return_instr, outputs_code, Subject, Conditions, EqualTo, compares, step_keeps, count_test_size, values_kept, items_code, invoke_code, construct_code, parameters_code, condition_size, load_kept, store_kept, test_code, test_size, tests_size, tests_code, end_number, step_instr, advance_code, count_test_code, count_values_code, count_begin_code, statement_size, statements_size, whens_size, statement_code, statements_code, whens_code}
use Rattle.ds2_gen.specs.UnitCode.{locals_code, body_start, body_end, unit_exits}
use Rattle.ds2_gen.proofs.PieceLemmas.{front_stands, back_stands}
use Rattle.ds2_gen.proofs.PlainCode.{IsPlain, plain_append, load_plain, store_plain, comparison_plain, expression_plain, condition_plain, invoke_plain, construct_plain, parameters_plain, items_plain, locals_plain, outputs_plain}
use Rattle.ds2_gen.proofs.SizeLemmas.{test_size_is, tests_size_is, begin_size_is, size_is, sizes_are}
use Rattle.ds2_gen.proofs.WayLemmas.{inside}

-- ---- targets

-- a place of the list from this number on, or where a step begins
abbrev IsGoodTarget : List Instr → ℕ → ℕ → Type 0
IsGoodTarget all from to = (to < length all) × ((from ≤ to) ⊎ (starts_step (slice_get all to) ≡ true))

abbrev IsGoodJump : List Instr → ℕ → Option ℕ → Type 0
IsGoodJump all from None = Unit {0}
IsGoodJump all from (Some to) = IsGoodTarget all from to

-- each jump of these instructions, which begin at a number
abbrev HaveGoodJumps : List Instr → ℕ → List Instr → Type 0
HaveGoodJumps all at [] = Unit {0}
HaveGoodJumps all at (i ∷ is) = IsGoodJump all (at + 1) (jump_target (kind_of i)) × HaveGoodJumps all (at + 1) is

plain_good : (all : List Instr) (at : ℕ) (is : List Instr) → IsPlain is → HaveGoodJumps all at is
plain_good all at [] plain = tt
plain_good all at (i ∷ is) plain = (subst (λ o. IsGoodJump all (at + 1) o) (sym plain.0) tt, plain_good all (at + 1) is plain.1)

good_append : (all : List Instr) (at mid : ℕ) (xs ys : List Instr) → at + length xs ≡ mid → HaveGoodJumps all at xs → HaveGoodJumps all mid ys → HaveGoodJumps all at (xs ++ ys)
good_append all at mid [] ys e a b = let same : mid ≡ at = omega arith in subst (λ n. HaveGoodJumps all n ys) same b
good_append all at mid (x ∷ xs) ys e a b = (a.0, good_append all (at + 1) mid xs ys (omega arith) a.1 b)

-- plain code in front
plain_front : (all : List Instr) (at mid : ℕ) (xs ys : List Instr) → at + length xs ≡ mid → IsPlain xs → HaveGoodJumps all mid ys → HaveGoodJumps all at (xs ++ ys)
plain_front all at mid xs ys e plain b = good_append all at mid xs ys e (plain_good all at xs plain) b

forward : (all : List Instr) (from to : ℕ) → from ≤ to → to < length all → IsGoodTarget all from to
forward all from to least less = (less, inl least)

earlier_by : (all : List Instr) (from more to : ℕ) → from ≤ more → ((more ≤ to) ⊎ (starts_step (slice_get all to) ≡ true)) → ((from ≤ to) ⊎ (starts_step (slice_get all to) ≡ true))
earlier_by all from more to least (inl h) = inl (omega arith)
earlier_by all from more to least (inr h) = inr h

earlier : (all : List Instr) (from more to : ℕ) → from ≤ more → IsGoodTarget all more to → IsGoodTarget all from to
earlier all from more to least h = (h.0, earlier_by all from more to least h.1)

-- ---- exits

abbrev IsGoodReturn : List Instr → ℕ → ReturnWay → Type 0
IsGoodReturn all from (JumpsToEnd end) = IsGoodTarget all from end
IsGoodReturn all from (HandsBack has_result) = Unit {0}

-- exits of code that ends before a number
abbrev AreGoodExits : List Instr → ℕ → ExitPoints → Type 0
AreGoodExits all from exits = IsGoodTarget all from exits.leave × IsGoodTarget all from exits.continue × IsGoodReturn all from exits.return

return_earlier : (all : List Instr) (from more : ℕ) (way : ReturnWay) → from ≤ more → IsGoodReturn all more way → IsGoodReturn all from way
return_earlier all from more (JumpsToEnd end) least h = earlier all from more end least h
return_earlier all from more (HandsBack has_result) least h = tt

exits_earlier : (all : List Instr) (from more : ℕ) (exits : ExitPoints) → from ≤ more → AreGoodExits all more exits → AreGoodExits all from exits
exits_earlier all from more exits least h = (earlier all from more exits.leave least h.0, earlier all from more exits.continue least h.1, return_earlier all from more exits.return least h.2)

return_good : (all : List Instr) (from : ℕ) (way : ReturnWay) → IsGoodReturn all from way → IsGoodJump all from (jump_target (kind_of (return_instr way)))
return_good all from (JumpsToEnd end) h = h
return_good all from (HandsBack true) h = tt
return_good all from (HandsBack false) h = tt

-- ---- where a statement begins, a step begins

step_here : (all : List Instr) (at : ℕ) (place : Place) → slice_get all at ≡ Some (instr.Tick place) → starts_step (slice_get all at) ≡ true
step_here all at place here = ap starts_step here

inside_list : (all : List Instr) (n : ℕ) (i : Instr) → slice_get all n ≡ Some i → n < length all
inside_list [] n i e = absurd cc
inside_list (x ∷ all) zero i e = omega arith
inside_list (x ∷ all) (suc n) i e = let less : n < length all = inside_list all n i e in omega arith

module _ (numbers : CodeNumbers) (all : List Instr) where
  statement_begins : (at kept : ℕ) (exits : ExitPoints) (t : TypedStatement) → StandsAt all at (statement_code numbers at kept exits t) → starts_step (slice_get all at) ≡ true
  statement_begins at kept exits (Empty place) has = step_here all at place has.0
  statement_begins at kept exits (Assign place r e) has = step_here all at place has.0
  statement_begins at kept exits (Invoke place instance method arguments) has = step_here all at place has.0
  statement_begins at kept exits (Evaluate place e) has = step_here all at place has.0
  statement_begins at kept exits (SetParameters place instance values) has = step_here all at place has.0
  statement_begins at kept exits (Construct place instance constructor arguments) has = step_here all at place has.0
  statement_begins at kept exits (Leave place) has = step_here all at place has.0
  statement_begins at kept exits (Continue place) has = step_here all at place has.0
  statement_begins at kept exits (Return place) has = step_here all at place has.0
  statement_begins at kept exits (ReturnValue place e) has = step_here all at place has.0
  statement_begins at kept exits (Output place outputs) has = step_here all at place has.0
  statement_begins at kept exits (Put place items) has = step_here all at place has.0
  statement_begins at kept exits (If place e on) has = step_here all at place has.0
  statement_begins at kept exits (IfElse place e on off) has = step_here all at place has.0
  statement_begins at kept exits (Select place whens) has = step_here all at place has.0
  statement_begins at kept exits (SelectValue place e whens) has = step_here all at place has.0
  statement_begins at kept exits (Block place body) has = step_here all at place has.0
  statement_begins at kept exits (Count place r start end step body) has = step_here all at place has.0
  statement_begins at kept exits (While place e body) has = step_here all at place has.0
  statement_begins at kept exits (Until place e body) has = step_here all at place has.0

  -- statements with a step behind them
  statements_begin : (at kept : ℕ) (exits : ExitPoints) (ts : TypedStatements) (place : Place) (rest : List Instr) → StandsAt all at (statements_code numbers at kept exits ts ++ instr.Tick place ∷ rest)
      → starts_step (slice_get all at) ≡ true
  statements_begin at kept exits Finish place rest has = step_here all at place has.0
  statements_begin at kept exits (Next t more) place rest has =
      let ct = statement_code numbers at kept exits t in
      let cm = statements_code numbers (at + statement_size numbers t) (kept + values_kept t) exits more in
      statement_begins at kept exits t (front_stands all at ct cm (front_stands all at (ct ++ cm) (instr.Tick place ∷ rest) has))

  -- ---- tests

  test_plain : (subject : Subject) (e : TypedExpression) → IsPlain (test_code numbers subject e)
  test_plain Conditions e = condition_plain numbers e
  test_plain (EqualTo n ty) e =
      (load_plain (Some (numbers.placement.kept_cell n)) ty, plain_append (expression_code numbers e) (comparison_instr (class_of ty) Equal ∷ []) (expression_plain numbers e) (comparison_plain (class_of ty) Equal, tt))

  tests_good : (subject : Subject) (on off at : ℕ) (tests : TypedExpressions) → at + tests_size numbers (compares subject) tests ≡ on → on ≤ off → off < length all
      → HaveGoodJumps all at (tests_code numbers subject on off tests)
  tests_good subject on off at NoExpression len least less = (forward all (at + 1) off (omega arith) less, tt)
  tests_good subject on off at (Then e NoExpression) len least less =
      let mid = at + length (test_code numbers subject e) in
      let size : length (test_code numbers subject e) ≡ test_size numbers (compares subject) e = test_size_is numbers subject e in
      plain_front all at mid (test_code numbers subject e) (instr.JFalse off ∷ []) refl (test_plain subject e) (forward all (mid + 1) off (omega arith) less, tt)
  tests_good subject on off at (Then e (Then f rest)) len least less =
      let mid = at + length (test_code numbers subject e) in
      let size : length (test_code numbers subject e) ≡ test_size numbers (compares subject) e = test_size_is numbers subject e in
      let inner : (mid + 1) + tests_size numbers (compares subject) (Then f rest) ≡ on = omega arith in
      plain_front all at mid (test_code numbers subject e) (instr.JTrue on ∷ tests_code numbers subject on off (Then f rest)) refl (test_plain subject e)
      (forward all (mid + 1) on (omega arith) (omega arith), tests_good subject on off (mid + 1) (Then f rest) inner least less)

  -- ---- counted loops

  values_plain : (start end : TypedExpression) (step : Option TypedExpression) → IsPlain (count_values_code numbers start end step)
  values_plain start end None =
      plain_append (expression_code numbers start) (expression_code numbers end ++ []) (expression_plain numbers start) (plain_append (expression_code numbers end) [] (expression_plain numbers end) tt)
  values_plain start end (Some step) =
      plain_append (expression_code numbers start) (expression_code numbers end ++ expression_code numbers step) (expression_plain numbers start)
      (plain_append (expression_code numbers end) (expression_code numbers step) (expression_plain numbers end) (expression_plain numbers step))

  begin_good : (place : Place) (r : Reference) (kept : ℕ) (step : Option TypedExpression) (test at first : ℕ) → at + (step_keeps step + 4) ≡ first → first ≤ test → test < length all
      → HaveGoodJumps all at (count_begin_code numbers place r kept step test)
  begin_good place r kept None test at first len least less =
      let e = end_number kept None in
      let stores : IsPlain (store_kept numbers e ∷ store_instr (cell_of numbers r) ∷ instr.Tick place ∷ []) = (store_plain (Some (numbers.placement.kept_cell e)), (store_plain (cell_of numbers r), (refl, tt))) in
      plain_front all at (at + 3) (store_kept numbers e ∷ store_instr (cell_of numbers r) ∷ instr.Tick place ∷ []) (instr.Jump test ∷ []) refl stores (forward all (at + 3 + 1) test (omega arith) less, tt)
  begin_good place r kept (Some x) test at first len least less =
      let e = end_number kept (Some x) in
      let stores : IsPlain (store_kept numbers kept ∷ store_kept numbers e ∷ store_instr (cell_of numbers r) ∷ instr.Tick place ∷ []) =
      (store_plain (Some (numbers.placement.kept_cell kept)), (store_plain (Some (numbers.placement.kept_cell e)), (store_plain (cell_of numbers r), (refl, tt)))) in
      plain_front all at (at + 4) (store_kept numbers kept ∷ store_kept numbers e ∷ store_instr (cell_of numbers r) ∷ instr.Tick place ∷ []) (instr.Jump test ∷ []) refl stores (forward all (at + 4 + 1) test (omega arith) less, tt)

  step_plain : (kept : ℕ) (step : Option TypedExpression) → jump_target (kind_of (step_instr numbers kept step)) ≡ None
  step_plain kept None = refl
  step_plain kept (Some e) = load_plain (Some (numbers.placement.kept_cell kept)) BigInt

  advance_plain : (place : Place) (r : Reference) (kept : ℕ) (step : Option TypedExpression) → IsPlain (advance_code numbers place r (step_instr numbers kept step))
  advance_plain place r kept step = (refl, (load_plain (cell_of numbers r) BigInt, (step_plain kept step, (refl, (store_plain (cell_of numbers r), tt)))))

  count_test_good : (at first : ℕ) (r : Reference) (kept : ℕ) (step : Option TypedExpression) → first < length all → starts_step (slice_get all first) ≡ true → at + count_test_size step < length all
      → HaveGoodJumps all at (count_test_code numbers at first r kept step)
  count_test_good at first r kept None less begins out =
      let e = end_number kept None in
      plain_front all at (at + 3) (load_instr (cell_of numbers r) BigInt ∷ load_kept numbers e BigInt ∷ instr.ICmp LessOrEqual ∷ []) (instr.JTrue first ∷ []) refl
      (load_plain (cell_of numbers r) BigInt, (load_plain (Some (numbers.placement.kept_cell e)) BigInt, (refl, tt))) ((less, inr begins), tt)
  count_test_good at first r kept (Some x) less begins out =
      let e = end_number kept (Some x) in
      let kept_loads = load_plain (Some (numbers.placement.kept_cell kept)) BigInt in
      let end_loads = load_plain (Some (numbers.placement.kept_cell e)) BigInt in
      let loads = load_plain (cell_of numbers r) BigInt in
      let sign : IsPlain (load_kept numbers kept BigInt ∷ constant_instr numbers (Int (pos 0)) BigInt ∷ instr.ICmp GreaterOrEqual ∷ []) = (kept_loads, (refl, (refl, tt))) in
      let other : IsPlain (load_kept numbers kept BigInt ∷ constant_instr numbers (Int (pos 0)) BigInt ∷ instr.ICmp Less ∷ []) = (kept_loads, (refl, (refl, tt))) in
      let up : IsPlain (load_instr (cell_of numbers r) BigInt ∷ load_kept numbers e BigInt ∷ instr.ICmp LessOrEqual ∷ []) = (loads, (end_loads, (refl, tt))) in
      let down : IsPlain (load_instr (cell_of numbers r) BigInt ∷ load_kept numbers e BigInt ∷ instr.ICmp GreaterOrEqual ∷ []) = (loads, (end_loads, (refl, tt))) in
      let to_falling : IsGoodTarget all (at + 3 + 1) (at + 9) = forward all (at + 3 + 1) (at + 9) (omega arith) (omega arith) in
      let past : IsGoodTarget all (at + 8 + 1) (at + 17) = forward all (at + 8 + 1) (at + 17) (omega arith) out in
      let leaves : IsGoodTarget all (at + 12 + 1) (at + 17) = forward all (at + 12 + 1) (at + 17) (omega arith) out in
      let last = instr.JTrue first ∷ [] in
      let compares_down = load_instr (cell_of numbers r) BigInt ∷ load_kept numbers e BigInt ∷ instr.ICmp GreaterOrEqual ∷ [] in
      let falling_rest = instr.JFalse (at + 17) ∷ (compares_down ++ last) in
      let falling_code = load_kept numbers kept BigInt ∷ constant_instr numbers (Int (pos 0)) BigInt ∷ instr.ICmp Less ∷ falling_rest in
      let falling : HaveGoodJumps all (at + 9) falling_code =
      plain_front all (at + 9) (at + 12) (load_kept numbers kept BigInt ∷ constant_instr numbers (Int (pos 0)) BigInt ∷ instr.ICmp Less ∷ []) falling_rest (omega arith) other
      (leaves, plain_front all (at + 12 + 1) (at + 16) compares_down last (omega arith) down ((less, inr begins), tt)) in
      let passes = instr.Jump (at + 17) ∷ falling_code in
      let rising_rest = instr.JTrue first ∷ passes in
      let passing : HaveGoodJumps all (at + 7 + 1) passes =
      good_append all (at + 7 + 1) (at + 9) (instr.Jump (at + 17) ∷ []) falling_code (omega arith) (earlier all (at + 7 + 1 + 1) (at + 8 + 1) (at + 17) (omega arith) past, tt) falling in
      let compares_up = load_instr (cell_of numbers r) BigInt ∷ load_kept numbers e BigInt ∷ instr.ICmp LessOrEqual ∷ [] in
      let rising : HaveGoodJumps all (at + 3 + 1) (compares_up ++ rising_rest) = plain_front all (at + 3 + 1) (at + 7) compares_up rising_rest (omega arith) up ((less, inr begins), passing) in
      let first_rest = instr.JFalse (at + 9) ∷ (compares_up ++ rising_rest) in
      plain_front all at (at + 3) (load_kept numbers kept BigInt ∷ constant_instr numbers (Int (pos 0)) BigInt ∷ instr.ICmp GreaterOrEqual ∷ []) first_rest refl sign (to_falling, rising)

  -- ---- statements

  mutual
    statement_good : (kept : ℕ) (t : TypedStatement) (at to : ℕ) (exits : ExitPoints) → at + statement_size numbers t ≡ to → to < length all → StandsAt all at (statement_code numbers at kept exits t) → AreGoodExits all to exits
        → HaveGoodJumps all at (statement_code numbers at kept exits t)
    statement_good kept (Empty place) at to exits len less has good = (tt, tt)
    statement_good kept (Assign place r e) at to exits len less has good =
        (tt, plain_good all (at + 1) (expression_code numbers e ++ store_instr (cell_of numbers r) ∷ []) (plain_append (expression_code numbers e) (store_instr (cell_of numbers r) ∷ []) (expression_plain numbers e) (store_plain (cell_of numbers r), tt)))
    statement_good kept (Invoke place instance method arguments) at to exits len less has good =
        (tt, plain_good all (at + 1) (invoke_code numbers (callee_home numbers.home instance) method arguments) (invoke_plain numbers (callee_home numbers.home instance) method arguments))
    statement_good kept (Evaluate place e) at to exits len less has good =
        (tt, plain_good all (at + 1) (expression_code numbers e ++ instr.DropTop ∷ []) (plain_append (expression_code numbers e) (instr.DropTop ∷ []) (expression_plain numbers e) (refl, tt)))
    statement_good kept (SetParameters place instance values) at to exits len less has good =
        (tt, plain_good all (at + 1) (parameters_code numbers instance values) (parameters_plain numbers instance values))
    statement_good kept (Construct place instance constructor arguments) at to exits len less has good =
        (tt, plain_good all (at + 1) (construct_code numbers instance constructor arguments) (construct_plain numbers instance constructor arguments))
    statement_good kept (Leave place) at to exits len less has good = (tt, (earlier all (at + 1 + 1) to exits.leave (omega arith) good.0, tt))
    statement_good kept (Continue place) at to exits len less has good = (tt, (earlier all (at + 1 + 1) to exits.continue (omega arith) good.1, tt))
    statement_good kept (Return place) at to exits len less has good =
        (tt, (return_good all (at + 1 + 1) exits.return (return_earlier all (at + 1 + 1) to exits.return (omega arith) good.2), tt))
    statement_good kept (ReturnValue place e) at to exits len less has good =
        (tt, plain_good all (at + 1) (expression_code numbers e ++ instr.RetV ∷ []) (plain_append (expression_code numbers e) (instr.RetV ∷ []) (expression_plain numbers e) (refl, tt)))
    statement_good kept (Output place outputs) at to exits len less has good = (tt, plain_good all (at + 1) (outputs_code outputs) (outputs_plain outputs))
    statement_good kept (Put place items) at to exits len less has good =
        (tt, plain_good all (at + 1) (items_code numbers items ++ instr.Put (length items) ∷ []) (plain_append (items_code numbers items) (instr.Put (length items) ∷ []) (items_plain numbers items) (refl, tt)))
    statement_good kept (If place e on) at to exits len less has good =
        let cc = condition_code numbers e in
        let mid = at + 1 + condition_size numbers e in
        let first = mid + 1 in
        let end = first + statement_size numbers on in
        let same : to ≡ end = omega arith in
        let tail = instr.JFalse end ∷ statement_code numbers first kept exits on in
        let behind = back_stands all (at + 1) mid cc tail refl has.1 in (
          tt,
          plain_front all (at + 1) mid cc tail refl (condition_plain numbers e)
              (forward all (mid + 1) end (omega arith) (omega arith), statement_good kept on first end exits refl (omega arith) behind.1 (subst (λ n. AreGoodExits all n exits) same good)),
        )
    statement_good kept (IfElse place e on off) at to exits len less has good =
        let cc = condition_code numbers e in
        let mid = at + 1 + condition_size numbers e in
        let first = mid + 1 in
        let back = first + statement_size numbers on in
        let other = back + 1 in
        let end = other + statement_size numbers off in
        let same : to ≡ end = omega arith in
        let con = statement_code numbers first kept exits on in
        let coff = statement_code numbers other (kept + values_kept on) exits off in
        let tail = instr.JFalse other ∷ (con ++ (instr.Jump end ∷ coff)) in
        let behind = back_stands all (at + 1) mid cc tail refl has.1 in
        let jump = back_stands all first back con (instr.Jump end ∷ coff) (ap (λ n. first + n) (size_is numbers first kept exits on)) behind.1 in
        let at_end = subst (λ n. AreGoodExits all n exits) same good in (
          tt,
          plain_front all (at + 1) mid cc tail refl (condition_plain numbers e) (
            forward all (mid + 1) other (omega arith) (omega arith),
            good_append all first back con (instr.Jump end ∷ coff) (ap (λ n. first + n) (size_is numbers first kept exits on))
                (statement_good kept on first back exits refl (omega arith) (front_stands all first con (instr.Jump end ∷ coff) behind.1) (exits_earlier all back end exits (omega arith) at_end))
                (forward all (back + 1) end (omega arith) (omega arith), statement_good (kept + values_kept on) off other end exits refl (omega arith) jump.1 at_end),
          ),
        )
    statement_good kept (Select place whens) at to exits len less has good =
        let end = at + 1 + whens_size numbers false whens in
        let same : to ≡ end = omega arith in
        (tt, whens_good kept Conditions whens (at + 1) end exits refl (omega arith) has.1 (subst (λ n. AreGoodExits all n exits) same good))
    statement_good kept (SelectValue place e whens) at to exits len less has good =
        let ce = expression_code numbers e in
        let subject = EqualTo kept (expression_type e) in
        let mid = at + 1 + length ce in
        let first = mid + 1 in
        let end = first + whens_size numbers true whens in
        let same : to ≡ end = omega arith in
        let tail = store_kept numbers kept ∷ whens_code numbers first (kept + 1) end exits subject whens in
        let behind = back_stands all (at + 1) mid ce tail refl has.1 in (
          tt,
          plain_front all (at + 1) mid ce tail refl (expression_plain numbers e) (
            subst (λ o. IsGoodJump all (mid + 1) o) (sym (store_plain (Some (numbers.placement.kept_cell kept)))) tt,
            whens_good (kept + 1) subject whens first end exits refl (omega arith) behind.1 (subst (λ n. AreGoodExits all n exits) same good),
          ),
        )
    statement_good kept (Block place body) at to exits len less has good = (tt, statements_good kept body (at + 1) to exits (omega arith) less has.1 good)
    statement_good kept (While place e body) at to exits len less has good =
        let cc = condition_code numbers e in
        let test = at + 1 in
        let mid = at + 2 + condition_size numbers e in
        let first = mid + 1 in
        let back = first + statements_size numbers body in
        let end = back + 1 in
        let same : to ≡ end = omega arith in
        let within = inside end test exits in
        let cb = statements_code numbers first kept within body in
        let tail = instr.JFalse end ∷ (cb ++ instr.Jump test ∷ []) in
        let behind = back_stands all (test + 1) mid cc tail (omega arith) has.1.1 in
        let again : IsGoodTarget all (back + 1) test = (omega arith, inr (step_here all test place has.1.0)) in
        let at_end = subst (λ n. AreGoodExits all n exits) same good in
        let good_within : AreGoodExits all back within = (forward all back end (omega arith) (omega arith), (omega arith, inr (step_here all test place has.1.0)), return_earlier all back end exits.return (omega arith) at_end.2) in (
          tt,
          (
            tt,
            plain_front all (test + 1) mid cc tail (omega arith) (condition_plain numbers e) (
              forward all (mid + 1) end (omega arith) (omega arith),
              good_append all first back cb (instr.Jump test ∷ []) (ap (λ n. first + n) (sizes_are numbers first kept within body))
                  (statements_good kept body first back within refl (omega arith) (front_stands all first cb (instr.Jump test ∷ []) behind.1) good_within) (again, tt),
            ),
          ),
        )
    statement_good kept (Until place e body) at to exits len less has good =
        let cc = condition_code numbers e in
        let first = at + 1 in
        let test = first + statements_size numbers body in
        let mid = test + 1 + condition_size numbers e in
        let end = mid + 1 in
        let same : to ≡ end = omega arith in
        let within = inside end test exits in
        let cb = statements_code numbers first kept within body in
        let tail = instr.Tick place ∷ (cc ++ instr.JFalse first ∷ []) in
        let at_end = subst (λ n. AreGoodExits all n exits) same good in
        let good_within : AreGoodExits all test within = (forward all test end (omega arith) (omega arith), forward all test test (omega arith) (omega arith), return_earlier all test end exits.return (omega arith) at_end.2) in
        let back : IsGoodTarget all (mid + 1) first = (omega arith, inr (statements_begin first kept within body place (cc ++ instr.JFalse first ∷ []) has.1)) in (
          tt,
          good_append all first test cb tail (ap (λ n. first + n) (sizes_are numbers first kept within body))
              (statements_good kept body first test within refl (omega arith) (front_stands all first cb tail has.1) good_within)
              (tt, plain_front all (test + 1) mid cc (instr.JFalse first ∷ []) refl (condition_plain numbers e) (back, tt)),
        )
    statement_good kept (Count place r start end step body) at to exits len less has good =
        let values = count_values_code numbers start end step in
        let begun = at + 1 + length values in
        let first = at + 1 + length values + (step_keeps step + 4) in
        let again = first + statements_size numbers body in
        let test = again + 5 in
        let out = test + count_test_size step in
        let same : to ≡ out = omega arith in
        let level = end_number kept step + 1 in
        let within = inside out again exits in
        let cb = statements_code numbers first level within body in
        let advance = advance_code numbers place r (step_instr numbers kept step) in
        let tests = count_test_code numbers test first r kept step in
        let beginning = count_begin_code numbers place r kept step test in
        let begin_size : length beginning ≡ step_keeps step + 4 = begin_size_is numbers place r kept step test in
        let body_size : length cb ≡ statements_size numbers body = sizes_are numbers first level within body in
        let from_begin = back_stands all (at + 1) begun values (beginning ++ (cb ++ (advance ++ tests))) refl has.1 in
        let to_first : begun + length beginning ≡ first = omega arith in
        let to_again : first + length cb ≡ again = omega arith in
        let from_first = back_stands all begun first beginning (cb ++ (advance ++ tests)) to_first from_begin in
        let begins = statements_begin first level within body place (load_instr (cell_of numbers r) BigInt ∷ step_instr numbers kept step ∷ instr.IAdd ∷ store_instr (cell_of numbers r) ∷ tests) from_first in
        let at_end = subst (λ n. AreGoodExits all n exits) same good in
        let in_list : out < length all = omega arith in
        let good_within : AreGoodExits all again within = (forward all again out (omega arith) in_list, forward all again again (omega arith) (omega arith), return_earlier all again out exits.return (omega arith) at_end.2) in (
          tt,
          plain_front all (at + 1) begun values (beginning ++ (cb ++ (advance ++ tests))) refl (values_plain start end step)
              (good_append all begun first beginning (cb ++ (advance ++ tests)) to_first (begin_good place r kept step test begun first refl (omega arith) (omega arith))
              (good_append all first again cb (advance ++ tests) to_again (statements_good level body first again within refl (omega arith) (front_stands all first cb (advance ++ tests) from_first) good_within)
              (plain_front all again test advance tests refl (advance_plain place r kept step) (count_test_good test first r kept step (omega arith) begins in_list)))),
        )

    statements_good : (kept : ℕ) (ts : TypedStatements) (at to : ℕ) (exits : ExitPoints) → at + statements_size numbers ts ≡ to → to < length all → StandsAt all at (statements_code numbers at kept exits ts) → AreGoodExits all to exits
        → HaveGoodJumps all at (statements_code numbers at kept exits ts)
    statements_good kept Finish at to exits len less has good = tt
    statements_good kept (Next t rest) at to exits len less has good =
        let mid = at + statement_size numbers t in
        let later = kept + values_kept t in
        let ct = statement_code numbers at kept exits t in
        let cr = statements_code numbers mid later exits rest in
        good_append all at mid ct cr (ap (λ n. at + n) (size_is numbers at kept exits t))
        (statement_good kept t at mid exits refl (omega arith) (front_stands all at ct cr has) (exits_earlier all mid to exits (omega arith) good))
        (statements_good later rest mid to exits (omega arith) less (back_stands all at mid ct cr (ap (λ n. at + n) (size_is numbers at kept exits t)) has) good)

    whens_good : (kept : ℕ) (subject : Subject) (whens : TypedWhens) (at to : ℕ) (exits : ExitPoints) → at + whens_size numbers (compares subject) whens ≡ to → to < length all
        → StandsAt all at (whens_code numbers at kept to exits subject whens) → AreGoodExits all to exits → HaveGoodJumps all at (whens_code numbers at kept to exits subject whens)
    whens_good kept subject NoOtherwise at to exits len less has good = (tt, tt)
    whens_good kept subject (Otherwise t) at to exits len less has good = statement_good kept t at to exits len less has good
    whens_good kept subject (When tests t rest) at to exits len less has good =
        let first = at + tests_size numbers (compares subject) tests in
        let back = first + statement_size numbers t in
        let next = back + 1 in
        let later = kept + values_kept t in
        let ct = tests_code numbers subject first next tests in
        let cs = statement_code numbers first kept exits t in
        let cr = whens_code numbers next later to exits subject rest in
        let to_first : at + length ct ≡ first = ap (λ n. at + n) (tests_size_is numbers subject first next tests) in
        let to_back : first + length cs ≡ back = ap (λ n. first + n) (size_is numbers first kept exits t) in
        let behind = back_stands all at first ct (cs ++ (instr.Jump to ∷ cr)) to_first has in
        let jump = back_stands all first back cs (instr.Jump to ∷ cr) to_back behind in
        good_append all at first ct (cs ++ (instr.Jump to ∷ cr)) to_first (tests_good subject first next at tests refl (omega arith) (omega arith))
        (good_append all first back cs (instr.Jump to ∷ cr) to_back
        (statement_good kept t first back exits refl (omega arith) (front_stands all first cs (instr.Jump to ∷ cr) behind) (exits_earlier all back to exits (omega arith) good))
        (forward all (back + 1) to (omega arith) less, whens_good later subject rest next to exits (omega arith) less jump.1 good))

-- ---- bodies

-- the last instruction of a list does not go on behind it
abbrev pub LastStays : List Instr → Type 0
LastStays [] = ⊥
LastStays (i ∷ []) = falls_through (kind_of i) ≡ false
LastStays (i ∷ j ∷ is) = LastStays (j ∷ is)

stays_behind : (xs ys : List Instr) → LastStays ys → LastStays (xs ++ ys)
stays_behind [] ys h = h
stays_behind (x ∷ []) [] h = absurd h
stays_behind (x ∷ []) (y ∷ ys) h = h
stays_behind (x ∷ z ∷ xs) ys h = stays_behind (z ∷ xs) ys h

pub next_inside : (is : List Instr) (at : ℕ) (i : Instr) → LastStays is → slice_get is at ≡ Some i → falls_through (kind_of i) ≡ true → at + 1 < length is
next_inside [] at i stays e f = absurd stays
next_inside (x ∷ []) zero i stays e f =
    let same : x ≡ i = cc in
    absurd (true≢false (sym f ∙ ap (λ j. falls_through (kind_of j)) (sym same) ∙ stays))
next_inside (x ∷ []) (suc at) i stays e f = absurd cc
next_inside (x ∷ y ∷ is) zero i stays e f = omega arith
next_inside (x ∷ y ∷ is) (suc at) i stays e f =
    let less : at + 1 < length (y ∷ is) = next_inside (y ∷ is) at i stays e f in
    omega arith

ending_stays : (r : Option Ty) → LastStays (method_ending r)
ending_stays None = refl
ending_stays (Some ty) = refl

ending_plain : (r : Option Ty) → IsPlain (method_ending r)
ending_plain None = (refl, tt)
ending_plain (Some ty) = (refl, (refl, tt))

body_stays : (at : ℕ) (b : CodeBody) → LastStays (code_of_body at b)
body_stays at (OfSystem numbers body written) =
    let start = body_start numbers at body in
    let cs = statements_code numbers start 0 (unit_exits (body_end numbers at body)) body.statements in
    stays_behind (locals_code numbers body.locals) (cs ++ (outputs_code written ++ instr.End ∷ []))
    (stays_behind cs (outputs_code written ++ instr.End ∷ []) (stays_behind (outputs_code written) (instr.End ∷ []) refl))
body_stays at (OfMethod numbers method) =
    stays_behind (statements_code numbers at 0 (method_exits (method_end numbers at method) (is_some method.returns)) method.body) (method_ending method.returns) (ending_stays method.returns)

-- what stands somewhere makes the place one of the list
ending_inside : (all : List Instr) (at : ℕ) (is : List Instr) → LastStays is → StandsAt all at is → at < length all
ending_inside all at [] stays has = absurd stays
ending_inside all at (i ∷ is) stays has = inside_list all at i has.0

body_good : (all : List Instr) (at : ℕ) (b : CodeBody) → StandsAt all at (code_of_body at b) → HaveGoodJumps all at (code_of_body at b)
body_good all at (OfSystem numbers body written) has =
    let start = body_start numbers at body in
    let end = body_end numbers at body in
    let exits = unit_exits end in
    let cl = locals_code numbers body.locals in
    let cs = statements_code numbers start 0 exits body.statements in
    let ending = outputs_code written ++ instr.End ∷ [] in
    let to_end : start + length cs ≡ end = ap (λ n. start + n) (sizes_are numbers start 0 exits body.statements) in
    let from_start = back_stands all at start cl (cs ++ ending) refl has in
    let less = ending_inside all end ending (stays_behind (outputs_code written) (instr.End ∷ []) refl) (back_stands all start end cs ending to_end from_start) in
    let out = forward all end end (omega arith) less in
    plain_front all at start cl (cs ++ ending) refl (locals_plain numbers body.locals)
    (good_append all start end cs ending to_end (statements_good numbers all 0 body.statements start end exits refl less (front_stands all start cs ending from_start) (out, out, out))
    (plain_good all end ending (plain_append (outputs_code written) (instr.End ∷ []) (outputs_plain written) (refl, tt))))
body_good all at (OfMethod numbers method) has =
    let end = method_end numbers at method in
    let exits = method_exits end (is_some method.returns) in
    let cs = statements_code numbers at 0 exits method.body in
    let ending = method_ending method.returns in
    let to_end : at + length cs ≡ end = ap (λ n. at + n) (sizes_are numbers at 0 exits method.body) in
    let less = ending_inside all end ending (ending_stays method.returns) (back_stands all at end cs ending to_end has) in
    let out = forward all end end (omega arith) less in
    good_append all at end cs ending to_end (statements_good numbers all 0 method.body at end exits refl less (front_stands all at cs ending has) (out, out, tt))
    (plain_good all end ending (ending_plain method.returns))

bodies_good : (all : List Instr) (at : ℕ) (bodies : List CodeBody) → StandsAt all at (bodies_code at bodies) → HaveGoodJumps all at (bodies_code at bodies)
bodies_good all at [] has = tt
bodies_good all at (b ∷ bodies) has =
    let cb = code_of_body at b in
    let next = at + length cb in
    let more = bodies_code next bodies in
    good_append all at next cb more refl (body_good all at b (front_stands all at cb more has)) (bodies_good all next bodies (back_stands all at next cb more refl has))

bodies_stay : (at : ℕ) (bodies : List CodeBody) (b : CodeBody) → LastStays (bodies_code at (b ∷ bodies))
bodies_stay at [] b = subst (λ is. LastStays is) (sym (append-nil (code_of_body at b))) (body_stays at b)
bodies_stay at (c ∷ bodies) b = stays_behind (code_of_body at b) (bodies_code (at + length (code_of_body at b)) (c ∷ bodies)) (bodies_stay (at + length (code_of_body at b)) bodies c)

here_is : (front : List Instr) (i : Instr) (is : List Instr) (at : ℕ) → length front ≡ at → slice_get (front ++ i ∷ is) at ≡ Some i
here_is [] i is zero e = refl
here_is [] i is (suc at) e = absurd (omega arith)
here_is (x ∷ front) i is zero e = absurd (omega arith)
here_is (x ∷ front) i is (suc at) e = here_is front i is at (omega arith)

shifted_one : (front : List Instr) (i : Instr) (is : List Instr) → (front ++ i ∷ []) ++ is ≡ front ++ i ∷ is
shifted_one [] i is = refl
shifted_one (x ∷ front) i is = ap (λ ys. x ∷ ys) (shifted_one front i is)

-- a list stands in itself
all_stand : (front is : List Instr) (at : ℕ) → length front ≡ at → StandsAt (front ++ is) at is
all_stand front [] at e = tt
all_stand front (i ∷ is) at e = (
  here_is front i is at e,
  subst (λ all. StandsAt all (at + 1) is) (shifted_one front i is) (all_stand (front ++ i ∷ []) is (at + 1) (omega (arith, length-append front (i ∷ [])))),
)

-- one of the instructions
good_at : (all : List Instr) (first : ℕ) (is : List Instr) (k at : ℕ) (i : Instr) → first + k ≡ at → HaveGoodJumps all first is → slice_get is k ≡ Some i → IsGoodJump all (at + 1) (jump_target (kind_of i))
good_at all first [] k at i e good here = absurd cc
good_at all first (x ∷ is) zero at i e good here =
    let same : x ≡ i = cc in
    let place : first ≡ at = omega arith in
    subst (λ j. IsGoodJump all (at + 1) (jump_target (kind_of j))) same (subst (λ n. IsGoodJump all (n + 1) (jump_target (kind_of x))) place good.0)
good_at all first (x ∷ is) (suc k) at i e good here = good_at all (first + 1) is k at i (omega arith) good.1 here

bounded_by : (all : List Instr) (at to : ℕ) → ((at + 1 ≤ to) ⊎ (starts_step (slice_get all to) ≡ true)) → IsBoundedJump all at to
bounded_by all at to (inl h) = inl (omega arith)
bounded_by all at to (inr h) = inr h

all_good : (all : List Instr) (bodies : List CodeBody) → all ≡ bodies_code 0 bodies → HaveGoodJumps all 0 all
all_good all bodies e =
    subst (λ is. HaveGoodJumps all 0 is) (sym e) (bodies_good all 0 bodies (subst (λ is. StandsAt all 0 is) e (all_stand [] all 0 refl)))

last_good : (all : List Instr) (at : ℕ) (i : Instr) (bodies : List CodeBody) → all ≡ bodies_code 0 bodies → slice_get all at ≡ Some i → falls_through (kind_of i) ≡ true → at + 1 < length all
last_good all at i [] e here falls = let none : None ≡ Some i = ap (λ is. slice_get is at) (sym e) ∙ here in absurd cc
last_good all at i (b ∷ bodies) e here falls = next_inside all at i (subst (λ is. LastStays is) (sym e) (bodies_stay 0 bodies b)) here falls

pub bodies_stay_in_list : BodiesStayInList
bodies_stay_in_list code bodies e entries =
    let good = all_good code.instrs bodies e in
    let target : (at to : ℕ) (i : Instr) → slice_get code.instrs at ≡ Some i → jump_target (kind_of i) ≡ Some to → IsGoodTarget code.instrs (at + 1) to =
    λ at to i here jumps. subst (λ o. IsGoodJump code.instrs (at + 1) o) jumps (good_at code.instrs 0 code.instrs at at i (omega arith) good here) in (
      (λ at to i here jumps. bounded_by code.instrs at to (target at to i here jumps).1),
      record {
        targets = λ at to i here jumps. (target at to i here jumps).0;
        nexts = λ at i here falls. last_good code.instrs at i bodies e here falls;
        entries = entries;
      },
    )
