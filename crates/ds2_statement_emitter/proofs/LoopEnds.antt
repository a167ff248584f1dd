-- The code of loops.
use Rattle.std.proofs.Common.{◌≡◌, ◌≤◌, ◌<◌, ℕ, ◌+◌, true, false, List, [], ◌∷◌, ◌++◌, length, map, Option, Some, None, refl, sym, ap, ◌∙◌, append_assoc, length-append, subst, arith}
use Rattle.std.specs.Prelude.{slice_set, is_some}
use Rattle.ds2_base.specs.declared.place.Place.{Place}
use Rattle.ds2_value.specs.declared.ty.Ty.TheVariants.{BigInt}
use Rattle.ds2_meaning.specs.declared.location.Reference.{Reference}
use Rattle.ds2_meaning.specs.TypedExpression.{TypedExpression}
use Rattle.ds2_meaning.specs.TypedStatement.{TypedStatements, While, Until, Count}
use Rattle.ds2_code.specs.declared.instr.Instr.{Instr}
use Rattle.ds2_code.specs.declared.instr.Instr.TheVariants as instr
use Rattle.ds2_gen.specs.ExpressionCode.{CodeNumbers, cell_of, load_instr, store_instr, expression_code, condition_code}
use Rattle.ds2_gen.specs.StatementCode.{condition_size, one_way_code, step_keeps, count_test_size, store_kept, step_code, step_instr, keep_step_code, end_number, advance_code, count_test_code, count_values_code, count_begin_code, statements_size, statements_code}
use Rattle.ds2_gen.proofs.PlainCode.{condition_plain}
use Rattle.ds2_gen.proofs.SizeLemmas.{sizes_are, count_test_size_is}
use Rattle.ds2_emitter.specs.Emit.{with_instruction, with_run, with_expression}
use Rattle.ds2_emitter.specs.declared.returning.Returning.{Returning}
use Rattle.ds2_statement_emitter.specs.Appending.{with_statement, with_statements, with_condition, with_loop_step, with_open_test, open_test_jump, with_off}
use Rattle.ds2_statement_emitter.specs.Counting.{end_kept, step_pushed, step_kept, with_start_stored, with_begun, begun_jump, with_advanced, with_tested, with_round}
use Rattle.ds2_statement_emitter.specs.Marks.{body_mark, marked_way, marked_exits, aim, moved, redirected, loop_aims}
use Rattle.ds2_statement_emitter.proofs.Chains.{open_length, test_closed}
use Rattle.ds2_statement_emitter.proofs.Moved.{exits_at, behind_plain, piece_by_piece, statements_moved, step_test_moved, advance_plain, aim_fixes, exits_of_loop}
use Rattle.ds2_statement_emitter.proofs.Redirected.{redirect_behind, set_open}

module _ (n : CodeNumbers) (way : Returning) (kept : ℕ) where
  -- the statements of a loop get its exits
  body_moved : (at leave next : ℕ) (body : TypedStatements) (top : ℕ) → top < body_mark → at + statements_size n body ≤ top
      → map (moved (aim (loop_aims leave next))) (statements_code n at kept (marked_exits way) body) ≡ statements_code n at kept (exits_at leave next (marked_way way)) body
  body_moved at leave next body top small most =
      let a = loop_aims leave next in
      statements_moved n (aim a) top (aim_fixes a top small) at kept (marked_exits way) body most ∙ ap (λ x. statements_code n at kept x body) (exits_of_loop a way refl)

  -- ---- do while

  pub while_closed : (place : Place) (e : TypedExpression) (body : TypedStatements) (c whole : List Instr) (test hole first : ℕ)
      → test ≡ length (with_instruction (instr.Tick place) c)
      → hole ≡ open_test_jump n place e (with_instruction (instr.Tick place) c)
      → first ≡ length (with_open_test n place e (with_instruction (instr.Tick place) c))
      → whole ≡ with_off false hole (with_instruction (instr.Jump test) (with_statements n kept (marked_exits way) body (with_open_test n place e (with_instruction (instr.Tick place) c))))
      → length whole < body_mark
      → redirected first (loop_aims (length whole) test) whole ≡ with_statement n kept (marked_exits way) (While place e body) c
  unfolding with_statement with_statements with_instruction
  while_closed place e body c whole test hole first is_test is_hole is_first is_whole small =
      let exits = marked_exits way in
      let c1 = c ++ instr.Tick place ∷ [] in
      let cs = condition_code n e in
      let at1 : length c1 ≡ length c + 1 = omega (arith, length-append c (instr.Tick place ∷ [])) in
      let start = length c + 2 + condition_size n e + 1 in
      let same_test : test ≡ length c + 1 = omega (arith, is_test, at1) in
      let opened : length (with_open_test n place e c1) ≡ length c1 + 1 + condition_size n e + 1 = open_length n place e c1 in
      let same_first : first ≡ start = omega (arith, is_first, opened, at1) in
      let con = statements_code n start kept exits body in
      let back = instr.Jump (length c + 1) ∷ [] in
      let middle = con ++ back in
      let end = start + statements_size n body + 1 in
      let size : length middle ≡ statements_size n body + 1 = omega (arith, length-append con back, sizes_are n start kept exits body) in
      let ends : length c1 + 1 + condition_size n e + 1 + length middle ≡ end = omega (arith, at1, size) in
      let began : length (with_open_test n place e c1) ≡ start = omega (arith, opened, at1) in
      let built : whole ≡ c1 ++ one_way_code place cs end middle =
      is_whole
      ∙ ap (λ h. with_off false h ((with_open_test n place e c1 ++ statements_code n (length (with_open_test n place e c1)) kept exits body) ++ instr.Jump test ∷ [])) is_hole
      ∙ ap (λ t. with_off false (open_test_jump n place e c1) ((with_open_test n place e c1 ++ statements_code n (length (with_open_test n place e c1)) kept exits body) ++ instr.Jump t ∷ [])) same_test
      ∙ ap (λ k. with_off false (open_test_jump n place e c1) ((with_open_test n place e c1 ++ statements_code n k kept exits body) ++ back)) began
      ∙ ap (λ w. with_off false (open_test_jump n place e c1) w) (append_assoc (with_open_test n place e c1) con back)
      ∙ test_closed n place e middle c1
      ∙ ap (λ k. c1 ++ one_way_code place cs k middle) ends in
      let front = c1 ++ (instr.Tick place ∷ (cs ++ instr.JFalse end ∷ [])) in
      let split : c1 ++ one_way_code place cs end middle ≡ front ++ middle =
      sym (append_assoc c1 (instr.Tick place ∷ (cs ++ instr.JFalse end ∷ [])) middle ∙ ap (λ x. c1 ++ instr.Tick place ∷ x) (append_assoc cs (instr.JFalse end ∷ []) middle)) in
      let before : length front ≡ start =
      omega (arith, length-append c1 (instr.Tick place ∷ (cs ++ instr.JFalse end ∷ [])), length-append cs (instr.JFalse end ∷ []), at1) in
      let length_is : length whole ≡ end = omega (arith, ap length (built ∙ split), length-append front middle, before, size) in
      let P : ℕ → Type 0 = λ k. k < body_mark in
      let low : end < body_mark = subst P length_is small in
      let a = loop_aims end (length c + 1) in
      let most : start + statements_size n body ≤ end = omega arith in
      let inside : length c + 1 ≤ end = omega arith in
      let done = statements_code n start kept (exits_at end (length c + 1) (marked_way way)) body in
      let moves : map (moved (aim a)) middle ≡ done ++ back =
      piece_by_piece (aim a) con back done back (body_moved start end (length c + 1) body end low most) (ap (λ t. instr.Jump t ∷ []) (aim_fixes a end low (length c + 1) inside)) in
      ap (λ w. redirected first (loop_aims (length w) test) w) (built ∙ split)
      ∙ ap (λ k. redirected k (loop_aims (length (front ++ middle)) test) (front ++ middle)) (same_first ∙ sym before)
      ∙ ap (λ k. redirected (length front) (loop_aims k test) (front ++ middle)) (sym (ap length (built ∙ split)) ∙ length_is)
      ∙ ap (λ t. redirected (length front) (loop_aims end t) (front ++ middle)) same_test
      ∙ redirect_behind front middle a
      ∙ ap (λ m. front ++ m) moves
      ∙ append_assoc c1 (instr.Tick place ∷ (cs ++ instr.JFalse end ∷ [])) (done ++ back)
      ∙ ap (λ x. c1 ++ instr.Tick place ∷ x) (append_assoc cs (instr.JFalse end ∷ []) (done ++ back))
      ∙ append_assoc c (instr.Tick place ∷ []) (instr.Tick place ∷ (cs ++ instr.JFalse end ∷ (done ++ back)))

  -- ---- do until

  pub until_closed : (place : Place) (e : TypedExpression) (body : TypedStatements) (c inside whole : List Instr) (first : ℕ)
      → first ≡ length (with_instruction (instr.Tick place) c)
      → inside ≡ with_statements n kept (marked_exits way) body (with_instruction (instr.Tick place) c)
      → whole ≡ with_instruction (instr.JFalse first) (with_condition n e (with_instruction (instr.Tick place) inside))
      → length whole < body_mark
      → redirected first (loop_aims (length whole) (length inside)) whole ≡ with_statement n kept (marked_exits way) (Until place e body) c
  unfolding with_statement with_statements with_instruction with_condition
  until_closed place e body c inside whole first is_first is_inside is_whole small =
      let exits = marked_exits way in
      let c1 = c ++ instr.Tick place ∷ [] in
      let cs = condition_code n e in
      let at1 : length c1 ≡ length c + 1 = omega (arith, length-append c (instr.Tick place ∷ [])) in
      let same_first : first ≡ length c + 1 = omega (arith, is_first, at1) in
      let con = statements_code n (length c + 1) kept exits body in
      let test = length c + 1 + statements_size n body in
      let end = test + 1 + condition_size n e + 1 in
      let inner : inside ≡ c1 ++ con = is_inside ∙ ap (λ k. c1 ++ statements_code n k kept exits body) at1 in
      let test_is : length inside ≡ test = omega (arith, ap length inner, length-append c1 con, at1, sizes_are n (length c + 1) kept exits body) in
      let tail = cs ++ instr.JFalse (length c + 1) ∷ [] in
      let behind = instr.Tick place ∷ tail in
      let built : whole ≡ c1 ++ (con ++ behind) =
      is_whole ∙ ap (λ i. ((i ++ instr.Tick place ∷ []) ++ cs) ++ instr.JFalse first ∷ []) inner
      ∙ ap (λ t. (((c1 ++ con) ++ instr.Tick place ∷ []) ++ cs) ++ instr.JFalse t ∷ []) same_first
      ∙ append_assoc ((c1 ++ con) ++ instr.Tick place ∷ []) cs (instr.JFalse (length c + 1) ∷ [])
      ∙ append_assoc (c1 ++ con) (instr.Tick place ∷ []) tail
      ∙ append_assoc c1 con behind in
      let length_is : length whole ≡ end =
      omega (arith, ap length built, length-append c1 (con ++ behind), length-append con behind, length-append cs (instr.JFalse (length c + 1) ∷ []), at1, sizes_are n (length c + 1) kept exits body) in
      let P : ℕ → Type 0 = λ k. k < body_mark in
      let low : end < body_mark = subst P length_is small in
      let a = loop_aims end test in
      let most : length c + 1 + statements_size n body ≤ end = omega arith in
      let within : length c + 1 ≤ end = omega arith in
      let done = statements_code n (length c + 1) kept (exits_at end test (marked_way way)) body in
      let rest : map (moved (aim a)) tail ≡ tail =
      behind_plain (aim a) cs (instr.JFalse (length c + 1) ∷ []) (instr.JFalse (length c + 1) ∷ []) (condition_plain n e) (ap (λ t. instr.JFalse t ∷ []) (aim_fixes a end low (length c + 1) within)) in
      let moves : map (moved (aim a)) (con ++ behind) ≡ done ++ behind =
      piece_by_piece (aim a) con behind done behind (body_moved (length c + 1) end test body end low most) (ap (λ is. instr.Tick place ∷ is) rest) in
      ap (λ w. redirected first (loop_aims (length w) (length inside)) w) built
      ∙ ap (λ k. redirected k (loop_aims (length (c1 ++ (con ++ behind))) (length inside)) (c1 ++ (con ++ behind))) is_first
      ∙ ap (λ k. redirected (length c1) (loop_aims k (length inside)) (c1 ++ (con ++ behind))) (sym (ap length built) ∙ length_is)
      ∙ ap (λ k. redirected (length c1) (loop_aims end k) (c1 ++ (con ++ behind))) test_is
      ∙ redirect_behind c1 (con ++ behind) a
      ∙ ap (λ m. c1 ++ m) moves
      ∙ append_assoc c (instr.Tick place ∷ []) (done ++ behind)

-- ---- counted loops

module _ (n : CodeNumbers) (place : Place) (r : Reference) (kept : ℕ) where
  -- start, end and step are stored, up to the jump to the test
  abbrev stored_code : Option TypedExpression → List Instr
  stored_code step = keep_step_code n kept step ++ (store_kept n (end_number kept step) ∷ store_instr (cell_of n r) ∷ instr.Tick place ∷ [])

  step_kept_is : (step : Option TypedExpression) → step_kept n kept (is_some step) ≡ keep_step_code n kept step
  step_kept_is None = refl
  step_kept_is (Some e) = refl

  pub end_kept_is : (step : Option TypedExpression) → end_kept kept (is_some step) ≡ end_number kept step
  end_kept_is None = omega arith
  end_kept_is (Some e) = refl

  step_pushed_is : (step : Option TypedExpression) → step_pushed n kept (is_some step) ≡ step_instr n kept step
  step_pushed_is None = refl
  step_pushed_is (Some e) = refl

  stored_is : (step : Option TypedExpression) (v : List Instr) → with_start_stored n place r kept (is_some step) v ≡ v ++ stored_code step
  unfolding with_run with_instruction
  stored_is step v =
      let last = store_instr (cell_of n r) ∷ instr.Tick place ∷ [] in
      let ks = keep_step_code n kept step in
      ap (λ k. (((v ++ k) ++ store_kept n (end_kept kept (is_some step)) ∷ []) ++ store_instr (cell_of n r) ∷ []) ++ instr.Tick place ∷ []) (step_kept_is step)
      ∙ ap (λ k. (((v ++ ks) ++ store_kept n k ∷ []) ++ store_instr (cell_of n r) ∷ []) ++ instr.Tick place ∷ []) (end_kept_is step)
      ∙ append_assoc ((v ++ ks) ++ store_kept n (end_number kept step) ∷ []) (store_instr (cell_of n r) ∷ []) (instr.Tick place ∷ [])
      ∙ append_assoc (v ++ ks) (store_kept n (end_number kept step) ∷ []) last
      ∙ append_assoc v ks (store_kept n (end_number kept step) ∷ last)

  advanced_is : (step : Option TypedExpression) (code : List Instr) → with_advanced n place r (step_pushed n kept (is_some step)) code ≡ code ++ advance_code n place r (step_instr n kept step)
  unfolding with_instruction
  advanced_is step code =
      let k = step_instr n kept step in
      let s = store_instr (cell_of n r) in
      let l = load_instr (cell_of n r) BigInt in
      ap (λ x. ((((code ++ instr.Tick place ∷ []) ++ l ∷ []) ++ x ∷ []) ++ instr.IAdd ∷ []) ++ s ∷ []) (step_pushed_is step)
      ∙ append_assoc (((code ++ instr.Tick place ∷ []) ++ l ∷ []) ++ k ∷ []) (instr.IAdd ∷ []) (s ∷ [])
      ∙ append_assoc ((code ++ instr.Tick place ∷ []) ++ l ∷ []) (k ∷ []) (instr.IAdd ∷ s ∷ [])
      ∙ append_assoc (code ++ instr.Tick place ∷ []) (l ∷ []) (k ∷ instr.IAdd ∷ s ∷ [])
      ∙ append_assoc code (instr.Tick place ∷ []) (l ∷ k ∷ instr.IAdd ∷ s ∷ [])

  tested_at : (step : Option TypedExpression) (first : ℕ) (code : List Instr) → with_tested n kept r (is_some step) (end_number kept step) first code ≡ code ++ count_test_code n (length code) first r kept step
  unfolding with_instruction
  tested_at None first code = simp append_assoc
  tested_at (Some e) first code = simp append_assoc

  tested_is : (step : Option TypedExpression) (end first : ℕ) (code : List Instr) → end ≡ end_number kept step
      → with_tested n kept r (is_some step) end first code ≡ code ++ count_test_code n (length code) first r kept step
  tested_is step end first code h = ap (λ k. with_tested n kept r (is_some step) k first code) h ∙ tested_at step first code

  values_are : (a b : TypedExpression) (step : Option TypedExpression) (c : List Instr)
      → with_loop_step n step (with_expression n b (with_expression n a (with_instruction (instr.Tick place) c))) ≡ c ++ instr.Tick place ∷ count_values_code n a b step
  unfolding with_loop_step with_expression with_instruction
  values_are a b step c =
      append_assoc ((c ++ instr.Tick place ∷ []) ++ expression_code n a) (expression_code n b) (step_code n step)
      ∙ append_assoc (c ++ instr.Tick place ∷ []) (expression_code n a) (expression_code n b ++ step_code n step)
      ∙ append_assoc c (instr.Tick place ∷ []) (count_values_code n a b step)

  pub begin_splits : (step : Option TypedExpression) (test : ℕ) (rest : List Instr) → stored_code step ++ instr.Jump test ∷ rest ≡ count_begin_code n place r kept step test ++ rest
  begin_splits None test rest = refl
  begin_splits (Some e) test rest = refl

  stored_length : (step : Option TypedExpression) → length (stored_code step) ≡ step_keeps step + 3
  stored_length None = refl
  stored_length (Some e) = refl

  jumped : (x : List Instr) → with_instruction (instr.Jump 0) x ≡ x ++ instr.Jump 0 ∷ []
  unfolding with_instruction
  jumped x = refl

  pub count_closed : (way : Returning) (a b : TypedExpression) (step : Option TypedExpression) (body : TypedStatements) (c v begun inside whole : List Instr) (hole end first : ℕ)
      → v ≡ with_loop_step n step (with_expression n b (with_expression n a (with_instruction (instr.Tick place) c)))
      → begun ≡ with_begun n place r kept (is_some step) v
      → hole ≡ begun_jump n place r kept (is_some step) v
      → end ≡ end_kept kept (is_some step)
      → first ≡ length begun
      → inside ≡ with_statements n (end + 1) (marked_exits way) body begun
      → whole ≡ with_round n place r kept (is_some step) hole end first inside
      → length whole < body_mark
      → redirected first (loop_aims (length whole) (length inside)) whole ≡ with_statement n kept (marked_exits way) (Count place r a b step body) c
  unfolding with_statement with_statements with_off
  count_closed way a b step body c v begun inside whole hole end first is_v is_begun is_hole is_end is_first is_inside is_whole small =
      let values = count_values_code n a b step in
      let stored = stored_code step in
      let w = c ++ instr.Tick place ∷ values in
      let front0 = w ++ stored in
      let started : with_start_stored n place r kept (is_some step) v ≡ front0 =
      ap (λ x. with_start_stored n place r kept (is_some step) x) (is_v ∙ values_are a b step c) ∙ stored_is step w in
      let same_end : end ≡ end_number kept step = is_end ∙ end_kept_is step in
      let same_hole : hole ≡ length front0 = is_hole ∙ ap length started in
      let built0 : begun ≡ front0 ++ instr.Jump 0 ∷ [] = is_begun ∙ jumped (with_start_stored n place r kept (is_some step) v) ∙ ap (λ x. x ++ instr.Jump 0 ∷ []) started in
      let start = length c + 1 + length values + (step_keeps step + 4) in
      let front_length : length front0 ≡ length c + 1 + length values + (step_keeps step + 3) =
      omega (arith, length-append w stored, length-append c (instr.Tick place ∷ values), stored_length step) in
      let begun_length : length begun ≡ start = omega (arith, ap length built0, length-append front0 (instr.Jump 0 ∷ []), front_length) in
      let same_first : first ≡ start = is_first ∙ begun_length in
      let next = end_number kept step + 1 in
      let con = statements_code n start next (marked_exits way) body in
      let built1 : inside ≡ (front0 ++ instr.Jump 0 ∷ []) ++ con =
      is_inside ∙ ap (λ k. begun ++ statements_code n k (end + 1) (marked_exits way) body) begun_length
      ∙ ap (λ k. begun ++ statements_code n start (k + 1) (marked_exits way) body) same_end
      ∙ ap (λ x. x ++ con) built0 in
      let again = start + statements_size n body in
      let again_is : length inside ≡ again =
      omega (arith, ap length built1, length-append (front0 ++ instr.Jump 0 ∷ []) con, length-append front0 (instr.Jump 0 ∷ []), front_length, sizes_are n start next (marked_exits way) body) in
      let advance = advance_code n place r (step_instr n kept step) in
      let test = again + 5 in
      let run = front0 ++ instr.Jump 0 ∷ (con ++ advance) in
      let built2 : with_advanced n place r (step_pushed n kept (is_some step)) inside ≡ run =
      advanced_is step inside ∙ ap (λ x. x ++ advance) built1
      ∙ append_assoc (front0 ++ instr.Jump 0 ∷ []) con advance ∙ append_assoc front0 (instr.Jump 0 ∷ []) (con ++ advance) in
      let run_length : length run ≡ test =
      omega (arith, length-append front0 (instr.Jump 0 ∷ (con ++ advance)), length-append con advance, front_length, sizes_are n start next (marked_exits way) body) in
      let aimed = front0 ++ instr.Jump test ∷ (con ++ advance) in
      let built3 : with_off true hole (with_advanced n place r (step_pushed n kept (is_some step)) inside) ≡ aimed =
      ap (λ x. slice_set x hole (instr.Jump (length x))) built2
      ∙ ap (λ k. slice_set run k (instr.Jump (length run))) same_hole
      ∙ set_open front0 (instr.Jump 0) (con ++ advance) (instr.Jump (length run))
      ∙ ap (λ k. front0 ++ instr.Jump k ∷ (con ++ advance)) run_length in
      let aimed_length : length aimed ≡ test =
      omega (arith, length-append front0 (instr.Jump test ∷ (con ++ advance)), length-append con advance, front_length, sizes_are n start next (marked_exits way) body) in
      let tests = count_test_code n test start r kept step in
      let front = front0 ++ instr.Jump test ∷ [] in
      let middle = con ++ (advance ++ tests) in
      let built : whole ≡ front ++ middle =
      is_whole ∙ ap (λ x. with_tested n kept r (is_some step) end first x) built3
      ∙ tested_is step end first aimed same_end
      ∙ ap (λ k. aimed ++ count_test_code n k first r kept step) aimed_length
      ∙ ap (λ k. aimed ++ count_test_code n test k r kept step) same_first
      ∙ append_assoc front0 (instr.Jump test ∷ (con ++ advance)) tests
      ∙ ap (λ x. front0 ++ instr.Jump test ∷ x) (append_assoc con advance tests)
      ∙ sym (append_assoc front0 (instr.Jump test ∷ []) middle) in
      let out = test + count_test_size step in
      let before : length front ≡ start = omega (arith, length-append front0 (instr.Jump test ∷ []), front_length) in
      let length_is : length whole ≡ out =
      omega (arith, ap length built, length-append front middle, length-append con (advance ++ tests), length-append advance tests, before, count_test_size_is n test start r kept step, sizes_are n start next (marked_exits way) body) in
      let P : ℕ → Type 0 = λ k. k < body_mark in
      let low : out < body_mark = subst P length_is small in
      let aims = loop_aims out again in
      let most : start + statements_size n body ≤ out = omega arith in
      let early : start ≤ out = omega arith in
      let last : test + count_test_size step ≤ out = omega arith in
      let done = statements_code n start next (exits_at out again (marked_way way)) body in
      let t : map (moved (aim aims)) tests ≡ tests = step_test_moved n (aim aims) out (aim_fixes aims out low) test start r kept step early last in
      let u : map (moved (aim aims)) (advance ++ tests) ≡ advance ++ tests = behind_plain (aim aims) advance tests tests (advance_plain n place r kept step) t in
      let moves : map (moved (aim aims)) middle ≡ done ++ (advance ++ tests) =
      piece_by_piece (aim aims) con (advance ++ tests) done (advance ++ tests) (body_moved n way next start out again body out low most) u in
      ap (λ x. redirected first (loop_aims (length x) (length inside)) x) built
      ∙ ap (λ k. redirected k (loop_aims (length (front ++ middle)) (length inside)) (front ++ middle)) (same_first ∙ sym before)
      ∙ ap (λ k. redirected (length front) (loop_aims k (length inside)) (front ++ middle)) (sym (ap length built) ∙ length_is)
      ∙ ap (λ k. redirected (length front) (loop_aims out k) (front ++ middle)) again_is
      ∙ redirect_behind front middle aims
      ∙ ap (λ m. front ++ m) moves
      ∙ append_assoc front0 (instr.Jump test ∷ []) (done ++ (advance ++ tests))
      ∙ append_assoc w stored (instr.Jump test ∷ (done ++ (advance ++ tests)))
      ∙ ap (λ x. w ++ x) (begin_splits step test (done ++ (advance ++ tests)))
      ∙ append_assoc c (instr.Tick place ∷ values) (count_begin_code n place r kept step test ++ (done ++ (advance ++ tests)))
