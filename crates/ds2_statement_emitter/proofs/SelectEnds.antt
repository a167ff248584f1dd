-- The code of the tests of a `when`, and of the parts of a `select`.
use Rattle.std.proofs.Common.{◌≡◌, ◌≤◌, ◌<◌, ℕ, ◌+◌, true, false, Bool, List, [], ◌∷◌, ◌++◌, length, map, Some, refl, sym, ap, ◌∙◌, append_assoc, append-nil, length-append, subst, arith}
use Rattle.std.specs.Prelude.{nat_eq, slice_set}
use Rattle.ds2_base.specs.declared.place.Place.{Place}
use Rattle.ds2_meaning.specs.declared.expressions.Expression as code_expression
use Rattle.ds2_meaning.specs.IsTyped.{expression_type}
use Rattle.ds2_meaning.specs.TypedExpression.{TypedExpression, TypedExpressions, NoExpression, Then}
use Rattle.ds2_meaning.specs.TypedStatement.{TypedStatement, Select, SelectValue, TypedWhens, NoOtherwise, Otherwise, When}
use Rattle.ds2_meaning.specs.View.{all_expressions, typed_expression}
use Rattle.ds2_code.specs.declared.instr.Instr.{Instr}
use Rattle.ds2_code.specs.declared.instr.Instr.TheVariants as instr
use Rattle.ds2_gen.specs.CodePieces.{ExitPoints}
use Rattle.ds2_gen.specs.ExpressionCode.{CodeNumbers, expression_code}
use Rattle.ds2_gen.specs.StatementCode.{Subject, Conditions, EqualTo, compares, values_kept, store_kept, test_code, tests_size, tests_code, statement_size, whens_size, statement_code, whens_code}
use Rattle.ds2_gen.proofs.PlainCode.{expression_plain, store_plain}
use Rattle.ds2_gen.proofs.SizeLemmas.{tests_size_is, size_is}
use Rattle.ds2_emitter.specs.Emit.{with_instruction, with_expression}
use Rattle.ds2_emitter.specs.declared.returning.Returning.{Returning}
use Rattle.ds2_statement_emitter.specs.Appending.{with_statement, with_whens, off_instr, with_off, further_tests, open_tests, has_no_test, with_open_tests, open_tests_end}
use Rattle.ds2_statement_emitter.specs.Marks.{body_mark, end_mark, marked_exits, aim, moved, redirected, end_aims, when_aims}
use Rattle.ds2_statement_emitter.proofs.Moved.{behind_plain, open_tests_moved, whens_moved, aim_fixes, exits_stay}
use Rattle.ds2_statement_emitter.proofs.Redirected.{redirect_behind, set_open}

pub empty_tests : (es : List code_expression.Expression) → nat_eq (length es) 0 ≡ has_no_test (all_expressions (map typed_expression es))
empty_tests [] = refl
empty_tests (e ∷ es) = grind arith

module _ (n : CodeNumbers) (subject : Subject) where
  -- the tests, and the jump behind them
  tests_split : (on off : ℕ) (tests : TypedExpressions) → tests_code n subject on off tests ≡ open_tests n subject on tests ++ off_instr (has_no_test tests) off ∷ []
  tests_split on off NoExpression = refl
  tests_split on off (Then e NoExpression) = ap (λ x. x ++ instr.JFalse off ∷ []) (sym (append-nil (test_code n subject e)))
  tests_split on off (Then e (Then f rest)) =
      ap (λ x. test_code n subject e ++ instr.JTrue on ∷ x) (tests_split on off (Then f rest))
      ∙ sym (append_assoc (test_code n subject e) (instr.JTrue on ∷ open_tests n subject on (Then f rest)) (instr.JFalse off ∷ []))

  further_length : (a b : ℕ) (tests : TypedExpressions) → length (further_tests n subject a tests) ≡ length (further_tests n subject b tests)
  further_length a b NoExpression = refl
  further_length a b (Then e rest) =
      omega (arith, length-append (test_code n subject e) (further_tests n subject a rest), length-append (test_code n subject e) (further_tests n subject b rest), further_length a b rest)

  open_tests_length : (a b : ℕ) (tests : TypedExpressions) → length (open_tests n subject a tests) ≡ length (open_tests n subject b tests)
  open_tests_length a b NoExpression = refl
  open_tests_length a b (Then e rest) =
      omega (arith, length-append (test_code n subject e) (further_tests n subject a rest), length-append (test_code n subject e) (further_tests n subject b rest), further_length a b rest)

  open_tests_size : (on : ℕ) (tests : TypedExpressions) → length (open_tests n subject on tests) + 1 ≡ tests_size n (compares subject) tests
  open_tests_size on tests =
      omega (arith, tests_size_is n subject on 0 tests, ap length (tests_split on 0 tests), length-append (open_tests n subject on tests) (off_instr (has_no_test tests) 0 ∷ []))

  -- the tests of a `when` once the jumps between them lead to its statement
  pub tests_aimed : (tests : TypedExpressions) (to : ℕ) (c : List Instr) → redirected (length c) (when_aims to) (with_open_tests n subject body_mark tests c) ≡ with_open_tests n subject to tests c
  unfolding with_open_tests
  tests_aimed tests to c =
      redirect_behind c (open_tests n subject body_mark tests) (when_aims to) ∙ ap (λ x. c ++ x) (open_tests_moved n (aim (when_aims to)) subject body_mark tests)

  pub tests_whole : (tests : TypedExpressions) (c c1 c2 c3 : List Instr) (start body : ℕ) (always : Bool)
      → start ≡ length c → c1 ≡ with_open_tests n subject body_mark tests c → body ≡ length c1 + 1 → c2 ≡ redirected start (when_aims body) c1
      → always ≡ has_no_test tests → c3 ≡ with_instruction (off_instr always 0) c2
      → c3 ≡ with_instruction (off_instr (has_no_test tests) 0) (with_open_tests n subject (open_tests_end n subject tests c + 1) tests c)
  tests_whole tests c c1 c2 c3 start body always e0 e1 b1 e2 a2 e3 =
      let to : body ≡ open_tests_end n subject tests c + 1 = b1 ∙ ap (λ w. length w + 1) e1 in
      e3 ∙ ap (λ a. with_instruction (off_instr a 0) c2) a2
      ∙ ap (λ w. with_instruction (off_instr (has_no_test tests) 0) w)
      (e2 ∙ ap (λ k. redirected k (when_aims body) c1) e0 ∙ ap (λ w. redirected (length c) (when_aims body) w) e1 ∙ tests_aimed tests body c ∙ ap (λ k. with_open_tests n subject k tests c) to)

  -- a `when` and what follows it
  pub when_added : (end kept : ℕ) (exits : ExitPoints) (tests : TypedExpressions) (s : TypedStatement) (rest : TypedWhens) (c : List Instr)
      → with_whens n (kept + values_kept s) end exits subject rest (with_off (has_no_test tests) (open_tests_end n subject tests c)
      (with_instruction (instr.Jump end) (with_statement n kept exits s (with_instruction (off_instr (has_no_test tests) 0) (with_open_tests n subject (open_tests_end n subject tests c + 1) tests c)))))
      ≡ with_whens n kept end exits subject (When tests s rest) c
  unfolding with_whens with_off with_instruction with_statement with_open_tests
  when_added end kept exits tests s rest c =
      let always = has_no_test tests in
      let hole = length (c ++ open_tests n subject body_mark tests) in
      let first = length c + tests_size n (compares subject) tests in
      let next = first + statement_size n s + 1 in
      let more = kept + values_kept s in
      let hole_is : hole + 1 ≡ first = omega (arith, length-append c (open_tests n subject body_mark tests), open_tests_size body_mark tests) in
      let front = c ++ open_tests n subject first tests in
      let hole_there : hole ≡ length front = omega (arith, length-append c (open_tests n subject body_mark tests), length-append c (open_tests n subject first tests), open_tests_length body_mark first tests) in
      let off = off_instr always 0 in
      let opened = front ++ off ∷ [] in
      let opened_length : length opened ≡ first = omega (arith, length-append front (off ∷ []), hole_there, hole_is) in
      let con = statement_code n first kept exits s in
      let jump = instr.Jump end ∷ [] in
      let built : (((c ++ open_tests n subject (hole + 1) tests) ++ off ∷ []) ++ statement_code n (length ((c ++ open_tests n subject (hole + 1) tests) ++ off ∷ [])) kept exits s) ++ jump ≡ front ++ off ∷ (con ++ jump) =
      ap (λ k. (((c ++ open_tests n subject k tests) ++ off ∷ []) ++ statement_code n (length ((c ++ open_tests n subject k tests) ++ off ∷ [])) kept exits s) ++ jump) hole_is
      ∙ ap (λ k. (opened ++ statement_code n k kept exits s) ++ jump) opened_length
      ∙ append_assoc opened con jump ∙ append_assoc front (off ∷ []) (con ++ jump) in
      let run = front ++ off ∷ (con ++ jump) in
      let run_length : length run ≡ next = omega (arith, length-append front (off ∷ (con ++ jump)), length-append con jump, hole_there, hole_is, size_is n first kept exits s) in
      let test = off_instr always next in
      let aimed = front ++ test ∷ (con ++ jump) in
      let aimed_length : length aimed ≡ next = omega (arith, length-append front (test ∷ (con ++ jump)), length-append con jump, hole_there, hole_is, size_is n first kept exits s) in
      let others = whens_code n next more end exits subject rest in
      ap (λ x. slice_set x hole (off_instr always (length x)) ++ whens_code n (length (slice_set x hole (off_instr always (length x)))) more end exits subject rest) built
      ∙ ap (λ k. slice_set run hole (off_instr always k) ++ whens_code n (length (slice_set run hole (off_instr always k))) more end exits subject rest) run_length
      ∙ ap (λ k. slice_set run k test ++ whens_code n (length (slice_set run k test)) more end exits subject rest) hole_there
      ∙ ap (λ x. x ++ whens_code n (length x) more end exits subject rest) (set_open front off (con ++ jump) test)
      ∙ ap (λ k. aimed ++ whens_code n k more end exits subject rest) aimed_length
      ∙ append_assoc front (test ∷ (con ++ jump)) others
      ∙ ap (λ x. front ++ test ∷ x) (append_assoc con jump others)
      ∙ append_assoc c (open_tests n subject first tests) (test ∷ (con ++ (instr.Jump end ∷ others)))
      ∙ ap (λ x. c ++ x) (sym (append_assoc (open_tests n subject first tests) (test ∷ []) (con ++ (instr.Jump end ∷ others))))
      ∙ ap (λ x. c ++ (x ++ (con ++ (instr.Jump end ∷ others)))) (sym (tests_split first next tests))

  whens_size_is : (at kept end : ℕ) (exits : ExitPoints) (whens : TypedWhens) → length (whens_code n at kept end exits subject whens) ≡ whens_size n (compares subject) whens
  whens_size_is at kept end exits NoOtherwise = refl
  whens_size_is at kept end exits (Otherwise t) = size_is n at kept exits t
  whens_size_is at kept end exits (When tests t rest) =
      let first = at + tests_size n (compares subject) tests in
      let next = first + statement_size n t + 1 in
      let cs = statement_code n first kept exits t in
      let tail = instr.Jump end ∷ whens_code n next (kept + values_kept t) end exits subject rest in
      omega (arith, length-append (tests_code n subject first next tests) (cs ++ tail), length-append cs tail, tests_size_is n subject first next tests, size_is n first kept exits t, whens_size_is next (kept + values_kept t) end exits rest)

  -- the parts of a `select` behind other code, once their jumps to its end have their target
  whens_ended : (way : Returning) (kept at : ℕ) (whens : TypedWhens) (end : ℕ) → end ≡ at + whens_size n (compares subject) whens → end < body_mark
      → map (moved (aim (end_aims end))) (whens_code n at kept end_mark (marked_exits way) subject whens) ≡ whens_code n at kept end (marked_exits way) subject whens
  whens_ended way kept at whens end h small =
      let a = end_aims end in
      let most : at + whens_size n (compares subject) whens ≤ end = omega (arith, h) in
      whens_moved n (aim a) end (aim_fixes a end small) at kept end_mark (marked_exits way) subject whens most ∙ ap (λ x. whens_code n at kept end x subject whens) (exits_stay a way refl refl refl)

module _ (n : CodeNumbers) (way : Returning) (kept : ℕ) where
  pub select_ended : (place : Place) (whens : TypedWhens) (c whole : List Instr) → whole ≡ with_whens n kept end_mark (marked_exits way) Conditions whens (with_instruction (instr.Tick place) c)
      → length whole < body_mark → redirected (length c) (end_aims (length whole)) whole ≡ with_statement n kept (marked_exits way) (Select place whens) c
  unfolding with_whens with_instruction with_statement
  select_ended place whens c whole h small =
      let exits = marked_exits way in
      let c1 = c ++ instr.Tick place ∷ [] in
      let at : length c1 ≡ length c + 1 = omega (arith, length-append c (instr.Tick place ∷ [])) in
      let code = whens_code n (length c + 1) kept end_mark exits Conditions whens in
      let end = length c + 1 + whens_size n false whens in
      let size : length code ≡ whens_size n false whens = whens_size_is n Conditions (length c + 1) kept end_mark exits whens in
      let built : whole ≡ c ++ instr.Tick place ∷ code =
      h ∙ ap (λ k. c1 ++ whens_code n k kept end_mark exits Conditions whens) at ∙ append_assoc c (instr.Tick place ∷ []) code in
      let length_is : length whole ≡ end = omega (arith, ap length built, length-append c (instr.Tick place ∷ code), size) in
      let P : ℕ → Type 0 = λ k. k < body_mark in
      let low : end < body_mark = subst P length_is small in
      let moves : map (moved (aim (end_aims end))) code ≡ whens_code n (length c + 1) kept end exits Conditions whens = whens_ended n Conditions way kept (length c + 1) whens end refl low in
      ap (λ w. redirected (length c) (end_aims (length w)) w) built
      ∙ ap (λ k. redirected (length c) (end_aims k) (c ++ instr.Tick place ∷ code)) (sym (ap length built) ∙ length_is)
      ∙ redirect_behind c (instr.Tick place ∷ code) (end_aims end)
      ∙ ap (λ x. c ++ instr.Tick place ∷ x) moves

  pub select_value_ended : (place : Place) (value : TypedExpression) (whens : TypedWhens) (c whole : List Instr)
      → whole ≡ with_whens n (kept + 1) end_mark (marked_exits way) (EqualTo kept (expression_type value)) whens (with_instruction (store_kept n kept) (with_expression n value (with_instruction (instr.Tick place) c)))
      → length whole < body_mark → redirected (length c) (end_aims (length whole)) whole ≡ with_statement n kept (marked_exits way) (SelectValue place value whens) c
  unfolding with_whens with_instruction with_expression with_statement
  select_value_ended place value whens c whole h small =
      let exits = marked_exits way in
      let subject = EqualTo kept (expression_type value) in
      let cv = expression_code n value in
      let keep = store_kept n kept in
      let c1 = ((c ++ instr.Tick place ∷ []) ++ cv) ++ keep ∷ [] in
      let first = length c + 1 + length cv + 1 in
      let at : length c1 ≡ first =
      omega (arith, length-append ((c ++ instr.Tick place ∷ []) ++ cv) (keep ∷ []), length-append (c ++ instr.Tick place ∷ []) cv, length-append c (instr.Tick place ∷ [])) in
      let code = whens_code n first (kept + 1) end_mark exits subject whens in
      let end = first + whens_size n true whens in
      let size : length code ≡ whens_size n true whens = whens_size_is n subject first (kept + 1) end_mark exits whens in
      let tail = cv ++ keep ∷ code in
      let built : whole ≡ c ++ instr.Tick place ∷ tail =
      h ∙ ap (λ k. c1 ++ whens_code n k (kept + 1) end_mark exits subject whens) at
      ∙ append_assoc ((c ++ instr.Tick place ∷ []) ++ cv) (keep ∷ []) code ∙ append_assoc (c ++ instr.Tick place ∷ []) cv (keep ∷ code) ∙ append_assoc c (instr.Tick place ∷ []) tail in
      let length_is : length whole ≡ end = omega (arith, ap length built, length-append c (instr.Tick place ∷ tail), length-append cv (keep ∷ code), size) in
      let P : ℕ → Type 0 = λ k. k < body_mark in
      let low : end < body_mark = subst P length_is small in
      let a = end_aims end in
      let done = whens_code n first (kept + 1) end exits subject whens in
      let moves : map (moved (aim a)) code ≡ done = whens_ended n subject way (kept + 1) first whens end refl low in
      let behind : map (moved (aim a)) tail ≡ cv ++ keep ∷ done =
      behind_plain (aim a) cv (keep ∷ code) (keep ∷ done) (expression_plain n value) (behind_plain (aim a) (keep ∷ []) code done (store_plain (Some (n.placement.kept_cell kept)), tt) moves) in
      ap (λ w. redirected (length c) (end_aims (length w)) w) built
      ∙ ap (λ k. redirected (length c) (end_aims k) (c ++ instr.Tick place ∷ tail)) (sym (ap length built) ∙ length_is)
      ∙ redirect_behind c (instr.Tick place ∷ tail) a
      ∙ ap (λ x. c ++ instr.Tick place ∷ x) behind
