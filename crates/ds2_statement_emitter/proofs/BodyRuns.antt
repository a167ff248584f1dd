-- How the code of bodies is put together.
use Rattle.std.proofs.Common.{◌≡◌, ◌≤◌, ◌<◌, ℕ, ◌+◌, List, [], ◌∷◌, ◌++◌, length, Option, Some, None, refl, sym, ap, ◌∙◌, append_assoc, append-nil, length-append, subst, arith}
use Rattle.std.specs.Prelude.{is_some}
use Rattle.ds2_base.specs.declared.place.Place.{Place}
use Rattle.ds2_value.specs.declared.ty.Ty.{Ty}
use Rattle.ds2_meaning.specs.declared.globals.Variable.{Variable}
use Rattle.ds2_meaning.specs.declared.location.Reference.TheVariants.{Local}
use Rattle.ds2_meaning.specs.Method.{MethodTree}
use Rattle.ds2_meaning.specs.TypedExpression.{TypedArguments}
use Rattle.ds2_meaning.specs.TypedStatement.{TypedStatements, Next, Construct}
use Rattle.ds2_code.specs.declared.instr.Instr.{Instr}
use Rattle.ds2_code.specs.declared.instr.Instr.TheVariants as instr
use Rattle.ds2_gen.specs.BodyCode.{OfSystem, code_of_body}
use Rattle.ds2_gen.specs.CodePieces.{ExitPoints}
use Rattle.ds2_gen.specs.ExpressionCode.{CodeNumbers, cell_of, store_instr, call_instr, arguments_code, back_code}
use Rattle.ds2_gen.specs.MethodCode.{method_exits, method_ending, method_code}
use Rattle.ds2_gen.specs.StatementCode.{drop_code, outputs_code, statements_size, statements_code}
use Rattle.ds2_gen.specs.UnitCode.{locals_code, unit_exits}
use Rattle.ds2_gen.proofs.SizeLemmas.{size_is, sizes_are}
use Rattle.ds2_emitter.specs.Emit.{with_instruction, with_run, with_arguments, with_back}
use Rattle.ds2_emitter.specs.declared.returning.Returning.{Returning}
use Rattle.ds2_emitter.specs.declared.returning.Returning.TheVariants.{ToEnd}
use Rattle.ds2_statement_emitter.specs.Appending.{with_statements, with_outputs}
use Rattle.ds2_statement_emitter.specs.BodyWords.{method_returning, with_locals}
use Rattle.ds2_statement_emitter.specs.Marks.{body_mark, marked_exits, aim, redirected, body_aims}
use Rattle.ds2_statement_emitter.proofs.Moved.{moved_exits, aim_fixes, statements_moved}
use Rattle.ds2_statement_emitter.proofs.Redirected.{redirect_behind}

pub one_behind : (i : Instr) (c : List Instr) → with_run (i ∷ []) c ≡ with_instruction i c
unfolding with_run with_instruction
one_behind i c = refl

pub two_behind : (i j : Instr) (c : List Instr) → with_run (i ∷ j ∷ []) c ≡ with_instruction j (with_instruction i c)
unfolding with_run with_instruction
two_behind i j c = sym (append_assoc c (i ∷ []) (j ∷ []))

module _ (n : CodeNumbers) where
  pub no_local_added : (c : List Instr) → with_locals n [] c ≡ c
  unfolding with_locals
  no_local_added c = append-nil c

  pub local_added : (v : Variable) (rest : List Variable) (c : List Instr) → with_locals n (v ∷ rest) c ≡ with_locals n rest (with_instruction (store_instr (cell_of n (Local v.name))) (with_instruction (instr.Null v.ty) c))
  unfolding with_locals with_instruction
  local_added v rest c = simp append_assoc

  -- a constructor before other statements
  pub not_constructed : (exits : ExitPoints) (p : Place) (instance : List ℕ) (arguments : TypedArguments) (rest : TypedStatements) (c : List Instr)
      → with_statements n 0 exits (Next (Construct p instance None arguments) rest) c ≡ with_statements n 0 exits rest (with_instruction (instr.Tick p) c)
  unfolding with_statements with_instruction
  not_constructed exits p instance arguments rest c =
      let at : length (c ++ instr.Tick p ∷ []) ≡ length c + 1 = omega (arith, length-append c (instr.Tick p ∷ [])) in
      sym (ap (λ k. (c ++ instr.Tick p ∷ []) ++ statements_code n k 0 exits rest) at ∙ append_assoc c (instr.Tick p ∷ []) (statements_code n (length c + 1) 0 exits rest))

  pub constructed : (exits : ExitPoints) (p : Place) (instance : List ℕ) (method : ℕ) (arguments : TypedArguments) (rest : TypedStatements) (c : List Instr)
      → with_statements n 0 exits (Next (Construct p instance (Some method) arguments) rest) c
      ≡ with_statements n 0 exits rest (with_run (drop_code (n.callee (Some instance) method)) (with_back n arguments (with_instruction (call_instr (n.callee (Some instance) method)) (with_arguments n arguments (with_instruction (instr.Tick p) c)))))
  unfolding with_statements with_instruction with_run with_back with_arguments
  constructed exits p instance method arguments rest c =
      let callee = n.callee (Some instance) method in
      let call = call_instr callee in
      let dropped = drop_code callee in
      let args = arguments_code n arguments in
      let back = back_code n arguments in
      let code = instr.Tick p ∷ ((args ++ (call ∷ back)) ++ dropped) in
      let whole = ((((c ++ instr.Tick p ∷ []) ++ args) ++ call ∷ []) ++ back) ++ dropped in
      let flat : whole ≡ c ++ code =
      ap (λ x. x ++ dropped) (append_assoc ((c ++ instr.Tick p ∷ []) ++ args) (call ∷ []) back ∙ append_assoc (c ++ instr.Tick p ∷ []) args (call ∷ back) ∙ append_assoc c (instr.Tick p ∷ []) (args ++ call ∷ back))
      ∙ append_assoc c (instr.Tick p ∷ (args ++ call ∷ back)) dropped in
      let at : length (c ++ code) ≡ length c + length code = length-append c code in
      sym (ap (λ x. x ++ statements_code n (length x) 0 exits rest) flat ∙ ap (λ k. (c ++ code) ++ statements_code n k 0 exits rest) at ∙ append_assoc c code (statements_code n (length c + length code) 0 exits rest)
      ∙ ap (λ k. c ++ (code ++ statements_code n k 0 exits rest)) (ap (λ k. length c + k) (size_is n (length c) 0 exits (Construct p instance (Some method) arguments))))

  -- the statements of a body once the jumps out of it have their targets
  body_ended : (way : Returning) (ss : TypedStatements) (c whole : List Instr) (exits : ExitPoints)
      → whole ≡ with_statements n 0 (marked_exits way) ss c → length whole < body_mark
      → moved_exits (aim (body_aims (length c + statements_size n ss))) (marked_exits way) ≡ exits
      → redirected (length c) (body_aims (length whole)) whole ≡ c ++ statements_code n (length c) 0 exits ss
  unfolding with_statements
  body_ended way ss c whole exits h small same =
      let code = statements_code n (length c) 0 (marked_exits way) ss in
      let end = length c + statements_size n ss in
      let length_is : length whole ≡ end = omega (arith, ap length h, length-append c code, sizes_are n (length c) 0 (marked_exits way) ss) in
      let P : ℕ → Type 0 = λ k. k < body_mark in
      let low : end < body_mark = subst P length_is small in
      let a = body_aims end in
      let most : length c + statements_size n ss ≤ end = omega arith in
      ap (λ w. redirected (length c) (body_aims (length w)) w) h
      ∙ ap (λ k. redirected (length c) (body_aims k) (c ++ code)) (sym (ap length h) ∙ length_is)
      ∙ redirect_behind c code a
      ∙ ap (λ x. c ++ x) (statements_moved n (aim a) end (aim_fixes a end low) (length c) 0 (marked_exits way) ss most ∙ ap (λ e. statements_code n (length c) 0 e ss) same)

  pub system_ended : (locals : List Variable) (ss : TypedStatements) (written : List ℕ) (c whole : List Instr)
      → whole ≡ with_statements n 0 (marked_exits ToEnd) ss (with_locals n locals c) → length whole < body_mark
      → with_instruction instr.End (with_outputs written (redirected (length (with_locals n locals c)) (body_aims (length whole)) whole))
      ≡ c ++ code_of_body (length c) (OfSystem n (record { locals = locals; statements = ss }) written)
  unfolding with_locals with_instruction with_outputs
  system_ended locals ss written c whole h small =
      let lc = locals_code n locals in
      let c1 = c ++ lc in
      let at : length c1 ≡ length c + length lc = length-append c lc in
      let ends = body_ended ToEnd ss c1 whole (unit_exits (length c1 + statements_size n ss)) h small refl in
      let tail = outputs_code written ++ instr.End ∷ [] in
      let start = length c + length lc in
      ap (λ x. (x ++ outputs_code written) ++ instr.End ∷ []) ends
      ∙ ap (λ k. ((c1 ++ statements_code n k 0 (unit_exits (k + statements_size n ss)) ss) ++ outputs_code written) ++ instr.End ∷ []) at
      ∙ append_assoc (c1 ++ statements_code n start 0 (unit_exits (start + statements_size n ss)) ss) (outputs_code written) (instr.End ∷ [])
      ∙ append_assoc c1 (statements_code n start 0 (unit_exits (start + statements_size n ss)) ss) tail
      ∙ append_assoc c lc (statements_code n start 0 (unit_exits (start + statements_size n ss)) ss ++ tail)

  method_exits_are : (o : Option Ty) (end : ℕ) → moved_exits (aim (body_aims end)) (marked_exits (method_returning o)) ≡ method_exits end (is_some o)
  method_exits_are None end = refl
  method_exits_are (Some ty) end = refl

  pub method_ended : (m : MethodTree) (c whole : List Instr)
      → whole ≡ with_statements n 0 (marked_exits (method_returning m.returns)) m.body c → length whole < body_mark
      → with_run (method_ending m.returns) (redirected (length c) (body_aims (length whole)) whole) ≡ c ++ method_code n (length c) m
  unfolding with_run
  method_ended m c whole h small =
      let end = length c + statements_size n m.body in
      ap (λ x. x ++ method_ending m.returns) (body_ended (method_returning m.returns) m.body c whole (method_exits end (is_some m.returns)) h small (method_exits_are m.returns end))
      ∙ append_assoc c (statements_code n (length c) 0 (method_exits end (is_some m.returns)) m.body) (method_ending m.returns)

  -- ---- from what each step of writing them gives

  pub method_whole : (m : MethodTree) (way : Returning) (c c1 c2 c3 : List Instr) (start : ℕ)
      → start ≡ length c → way ≡ method_returning m.returns
      → c1 ≡ with_statements n 0 (marked_exits way) m.body c
      → c2 ≡ redirected start (body_aims (length c1)) c1 → length c1 < body_mark
      → c3 ≡ with_run (method_ending m.returns) c2
      → c3 ≡ c ++ method_code n (length c) m
  method_whole m way c c1 c2 c3 start e0 w1 e1 e2 small e3 =
      e3 ∙ ap (λ x. with_run (method_ending m.returns) x) (e2 ∙ ap (λ k. redirected k (body_aims (length c1)) c1) e0)
      ∙ method_ended m c c1 (e1 ∙ ap (λ w. with_statements n 0 (marked_exits w) m.body c) w1) small

  pub system_whole : (locals : List Variable) (all body : TypedStatements) (written : List ℕ) (way : Returning) (c c0 c1 c2 c3 c4 c5 : List Instr) (start : ℕ)
      → way ≡ ToEnd
      → c0 ≡ with_locals n locals c → start ≡ length c0
      → with_statements n 0 (marked_exits way) body c1 ≡ with_statements n 0 (marked_exits way) all c0
      → c2 ≡ with_statements n 0 (marked_exits way) body c1
      → c3 ≡ redirected start (body_aims (length c2)) c2 → length c2 < body_mark
      → c4 ≡ with_outputs written c3 → c5 ≡ with_instruction instr.End c4
      → c5 ≡ c ++ code_of_body (length c) (OfSystem n (record { locals = locals; statements = all }) written)
  system_whole locals all body written way c c0 c1 c2 c3 c4 c5 start w0 e0 s0 e1 e2 e3 small e4 e5 =
      e5 ∙ ap (λ x. with_instruction instr.End x) (e4 ∙ ap (λ x. with_outputs written x) (e3 ∙ ap (λ k. redirected k (body_aims (length c2)) c2) (s0 ∙ ap length e0)))
      ∙ system_ended locals all written c c2 (e2 ∙ e1 ∙ ap (λ w. with_statements n 0 (marked_exits w) all c0) w0 ∙ ap (λ x. with_statements n 0 (marked_exits ToEnd) all x) e0) small
