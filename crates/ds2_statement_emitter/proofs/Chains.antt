-- The code of a chain of `if` and `else if`.
use Rattle.std.proofs.Common.{◌≡◌, ◌≤◌, ◌<◌, ℕ, ◌+◌, false, List, [], ◌∷◌, ◌++◌, length, map, Option, Some, None, refl, sym, ap, ◌∙◌, append_assoc, append-nil, length-append, subst, arith}
use Rattle.std.specs.Prelude.{slice_set}
use Rattle.ds2_base.specs.declared.place.Place.{Place}
use Rattle.ds2_meaning.specs.declared.statements.Arm as code_arm
use Rattle.ds2_meaning.specs.TypedExpression.{TypedExpression}
use Rattle.ds2_meaning.specs.TypedStatement.{TypedStatement, If}
use Rattle.ds2_meaning.specs.View.{in_a_row, if_tree}
use Rattle.ds2_code.specs.declared.instr.Instr.{Instr}
use Rattle.ds2_code.specs.declared.instr.Instr.TheVariants as instr
use Rattle.ds2_gen.specs.CodePieces.{ExitPoints}
use Rattle.ds2_gen.specs.ExpressionCode.{CodeNumbers, condition_code}
use Rattle.ds2_gen.specs.StatementCode.{condition_size, one_way_code, two_way_code, values_kept, statement_size, statement_code}
use Rattle.ds2_gen.proofs.PlainCode.{condition_plain}
use Rattle.ds2_gen.proofs.SizeLemmas.{size_is}
use Rattle.ds2_emitter.specs.Emit.{with_instruction, with_run}
use Rattle.ds2_emitter.proofs.Appended.{no_run, one_run}
use Rattle.ds2_emitter.specs.declared.returning.Returning.{Returning}
use Rattle.ds2_statement_emitter.specs.Appending.{with_statement, with_condition, with_open_test, open_test_jump, with_off, IfPart, with_rest, rest_keeps}
use Rattle.ds2_statement_emitter.specs.Arms.{arm_tree, arm_of_chain}
use Rattle.ds2_statement_emitter.specs.Marks.{body_mark, end_mark, marked_exits, aim, moved, redirected, end_aims}
use Rattle.ds2_statement_emitter.proofs.Moved.{moved_exits, Fixes, jump_front, behind_plain, piece_by_piece, statement_moved, aim_fixes, exits_stay}
use Rattle.ds2_statement_emitter.proofs.Redirected.{redirect_behind, set_open}
use Rattle.ds2_statement_emitter.proofs.StatementTrees.{arm_is}

-- the statement that a part makes with those behind it
abbrev pub chain_tree : IfPart → List IfPart → Option TypedStatement → TypedStatement
chain_tree p [] o = if_tree p.place p.condition p.on o
chain_tree p (q ∷ ps) o = if_tree p.place p.condition p.on (Some (chain_tree q ps o))

module _ (n : CodeNumbers) where
  -- the code of a chain whose statements jump to an end
  abbrev pub parts_code : (at kept : ℕ) → ExitPoints → (end : ℕ) → IfPart → List IfPart → Option TypedStatement → List Instr
  parts_code at kept exits end p [] None =
      let first = at + 1 + condition_size n p.condition + 1 in
      one_way_code p.place (condition_code n p.condition) (first + statement_size n p.on) (statement_code n first kept exits p.on)
  parts_code at kept exits end p [] (Some s) =
      let first = at + 1 + condition_size n p.condition + 1 in
      let other = first + statement_size n p.on + 1 in
      two_way_code p.place (condition_code n p.condition) other (statement_code n first kept exits p.on) end (statement_code n other (kept + values_kept p.on) exits s)
  parts_code at kept exits end p (q ∷ ps) o =
      let first = at + 1 + condition_size n p.condition + 1 in
      let other = first + statement_size n p.on + 1 in
      two_way_code p.place (condition_code n p.condition) other (statement_code n first kept exits p.on) end (parts_code other (kept + values_kept p.on) exits end q ps o)

  -- where the end is that of the chain, it is the code of its statement
  pub parts_are : (at kept : ℕ) (exits : ExitPoints) (end : ℕ) (p : IfPart) (ps : List IfPart) (o : Option TypedStatement) → end ≡ at + statement_size n (chain_tree p ps o)
      → parts_code at kept exits end p ps o ≡ statement_code n at kept exits (chain_tree p ps o)
  parts_are at kept exits end p [] None h = refl
  parts_are at kept exits end p [] (Some s) h =
      let first = at + 1 + condition_size n p.condition + 1 in
      let other = first + statement_size n p.on + 1 in
      let e : end ≡ other + statement_size n s = omega arith in
      ap (λ x. two_way_code p.place (condition_code n p.condition) other (statement_code n first kept exits p.on) x (statement_code n other (kept + values_kept p.on) exits s)) e
  parts_are at kept exits end p (q ∷ ps) o h =
      let first = at + 1 + condition_size n p.condition + 1 in
      let other = first + statement_size n p.on + 1 in
      let e : end ≡ other + statement_size n (chain_tree q ps o) = omega arith in
      let more = kept + values_kept p.on in
      ap (λ x. two_way_code p.place (condition_code n p.condition) other (statement_code n first kept exits p.on) end x) (parts_are other more exits end q ps o e)
      ∙ ap (λ x. two_way_code p.place (condition_code n p.condition) other (statement_code n first kept exits p.on) x (statement_code n other more exits (chain_tree q ps o))) e

  pub parts_size_is : (at kept : ℕ) (exits : ExitPoints) (end : ℕ) (p : IfPart) (ps : List IfPart) (o : Option TypedStatement)
      → length (parts_code at kept exits end p ps o) ≡ statement_size n (chain_tree p ps o)
  parts_size_is at kept exits end p [] None = size_is n at kept exits (If p.place p.condition p.on)
  parts_size_is at kept exits end p [] (Some s) =
      let first = at + 1 + condition_size n p.condition + 1 in
      let other = first + statement_size n p.on + 1 in
      let con = statement_code n first kept exits p.on in
      let tail = instr.Jump end ∷ statement_code n other (kept + values_kept p.on) exits s in
      omega (arith, length-append (condition_code n p.condition) (instr.JFalse other ∷ (con ++ tail)), length-append con tail, size_is n first kept exits p.on, size_is n other (kept + values_kept p.on) exits s)
  parts_size_is at kept exits end p (q ∷ ps) o =
      let first = at + 1 + condition_size n p.condition + 1 in
      let other = first + statement_size n p.on + 1 in
      let con = statement_code n first kept exits p.on in
      let tail = instr.Jump end ∷ parts_code other (kept + values_kept p.on) exits end q ps o in
      omega (arith, length-append (condition_code n p.condition) (instr.JFalse other ∷ (con ++ tail)), length-append con tail, size_is n first kept exits p.on, parts_size_is other (kept + values_kept p.on) exits end q ps o)

  module _ (f : ℕ → ℕ) (top : ℕ) (fix : Fixes f top) where
    two_way_moved : (place : Place) (e : TypedExpression) (other end : ℕ) (con don rest test : List Instr) → f other ≡ other → map (moved f) con ≡ don → map (moved f) rest ≡ test
        → map (moved f) (two_way_code place (condition_code n e) other con end rest) ≡ two_way_code place (condition_code n e) other don (f end) test
    two_way_moved place e other end con don rest test a b c =
        let z : map (moved f) (instr.Jump end ∷ rest) ≡ instr.Jump (f end) ∷ test = ap (λ is. instr.Jump (f end) ∷ is) c in
        let w = piece_by_piece f con (instr.Jump end ∷ rest) don (instr.Jump (f end) ∷ test) b z in
        let x : map (moved f) (instr.JFalse other ∷ (con ++ instr.Jump end ∷ rest)) ≡ instr.JFalse other ∷ (don ++ instr.Jump (f end) ∷ test) =
        jump_front (λ t. instr.JFalse t) (f other) other (map (moved f) (con ++ instr.Jump end ∷ rest)) (don ++ instr.Jump (f end) ∷ test) a w in
        ap (λ is. instr.Tick place ∷ is) (behind_plain f (condition_code n e) (instr.JFalse other ∷ (con ++ instr.Jump end ∷ rest)) (instr.JFalse other ∷ (don ++ instr.Jump (f end) ∷ test)) (condition_plain n e) x)

    pub parts_moved : (at kept : ℕ) (exits : ExitPoints) (end : ℕ) (p : IfPart) (ps : List IfPart) (o : Option TypedStatement) → at + statement_size n (chain_tree p ps o) ≤ top
        → map (moved f) (parts_code at kept exits end p ps o) ≡ parts_code at kept (moved_exits f exits) (f end) p ps o
    parts_moved at kept exits end p [] None h = statement_moved n f top fix at kept exits (If p.place p.condition p.on) h
    parts_moved at kept exits end p [] (Some s) h =
        let first = at + 1 + condition_size n p.condition + 1 in
        let other = first + statement_size n p.on + 1 in
        let more = kept + values_kept p.on in
        two_way_moved p.place p.condition other end (statement_code n first kept exits p.on) (statement_code n first kept (moved_exits f exits) p.on)
        (statement_code n other more exits s) (statement_code n other more (moved_exits f exits) s)
        (fix other (omega arith)) (statement_moved n f top fix first kept exits p.on (omega arith)) (statement_moved n f top fix other more exits s (omega arith))
    parts_moved at kept exits end p (q ∷ ps) o h =
        let first = at + 1 + condition_size n p.condition + 1 in
        let other = first + statement_size n p.on + 1 in
        let more = kept + values_kept p.on in
        two_way_moved p.place p.condition other end (statement_code n first kept exits p.on) (statement_code n first kept (moved_exits f exits) p.on)
        (parts_code other more exits end q ps o) (parts_code other more (moved_exits f exits) (f end) q ps o)
        (fix other (omega arith)) (statement_moved n f top fix first kept exits p.on (omega arith)) (parts_moved other more exits end q ps o (omega arith))

  -- ---- how it is put together

  -- the number behind a test that was left open
  pub open_length : (place : Place) (e : TypedExpression) (c : List Instr) → length (with_open_test n place e c) ≡ length c + 1 + condition_size n e + 1
  unfolding with_condition with_instruction
  open_length place e c =
      let before = (c ++ instr.Tick place ∷ []) ++ condition_code n e in
      omega (arith, length-append before (instr.JFalse 0 ∷ []), length-append (c ++ instr.Tick place ∷ []) (condition_code n e), length-append c (instr.Tick place ∷ []))

  -- a test and what stands behind it, once its jump leads behind them
  pub test_closed : (place : Place) (e : TypedExpression) (middle c : List Instr)
      → with_off false (open_test_jump n place e c) (with_open_test n place e c ++ middle) ≡ c ++ one_way_code place (condition_code n e) (length c + 1 + condition_size n e + 1 + length middle) middle
  unfolding with_off with_condition with_instruction
  test_closed place e middle c =
      let cs = condition_code n e in
      let before = (c ++ instr.Tick place ∷ []) ++ cs in
      let opened = before ++ instr.JFalse 0 ∷ [] in
      let end = length c + 1 + condition_size n e + 1 + length middle in
      let e2 : length (opened ++ middle) ≡ end =
      omega (arith, length-append opened middle, length-append before (instr.JFalse 0 ∷ []), length-append (c ++ instr.Tick place ∷ []) cs, length-append c (instr.Tick place ∷ [])) in
      ap (λ w. slice_set w (length before) (instr.JFalse (length (opened ++ middle)))) (append_assoc before (instr.JFalse 0 ∷ []) middle)
      ∙ set_open before (instr.JFalse 0) middle (instr.JFalse (length (opened ++ middle)))
      ∙ ap (λ x. before ++ instr.JFalse x ∷ middle) e2
      ∙ append_assoc (c ++ instr.Tick place ∷ []) cs (instr.JFalse end ∷ middle)
      ∙ append_assoc c (instr.Tick place ∷ []) (cs ++ instr.JFalse end ∷ middle)

  -- a part, and what stands behind its statement
  pub part_closed : (exits : ExitPoints) (kept : ℕ) (place : Place) (e : TypedExpression) (on : TypedStatement) (tail c : List Instr)
      → with_off false (open_test_jump n place e c) (with_run tail (with_statement n kept exits on (with_open_test n place e c)))
      ≡ c ++ one_way_code place (condition_code n e) (length c + 1 + condition_size n e + 1 + statement_size n on + length tail) (statement_code n (length c + 1 + condition_size n e + 1) kept exits on ++ tail)
  unfolding with_run with_statement
  part_closed exits kept place e on tail c =
      let opened = with_open_test n place e c in
      let first = length c + 1 + condition_size n e + 1 in
      let con = statement_code n first kept exits on in
      let size : first + length (con ++ tail) ≡ first + statement_size n on + length tail = omega (arith, length-append con tail, size_is n first kept exits on) in
      ap (λ x. with_off false (open_test_jump n place e c) ((opened ++ statement_code n x kept exits on) ++ tail)) (open_length place e c)
      ∙ ap (λ x. with_off false (open_test_jump n place e c) x) (append_assoc opened con tail)
      ∙ test_closed place e (con ++ tail) c
      ∙ ap (λ x. c ++ one_way_code place (condition_code n e) x (con ++ tail)) size

  -- the last part
  last_closed : (exits : ExitPoints) (kept : ℕ) (place : Place) (e : TypedExpression) (on : TypedStatement) (c : List Instr)
      → with_off false (open_test_jump n place e c) (with_statement n kept exits on (with_open_test n place e c))
      ≡ c ++ one_way_code place (condition_code n e) (length c + 1 + condition_size n e + 1 + statement_size n on) (statement_code n (length c + 1 + condition_size n e + 1) kept exits on)
  last_closed exits kept place e on c =
      let first = length c + 1 + condition_size n e + 1 in
      let con = statement_code n first kept exits on in
      let hole = open_test_jump n place e c in
      let code = with_statement n kept exits on (with_open_test n place e c) in
      let e0 : first + statement_size n on + 0 ≡ first + statement_size n on = omega arith in
      ap (λ w. with_off false hole w) (sym (no_run code)) ∙ part_closed exits kept place e on [] c
      ∙ ap (λ x. c ++ one_way_code place (condition_code n e) x (con ++ [])) e0 ∙ ap (λ x. c ++ one_way_code place (condition_code n e) (first + statement_size n on) x) (append-nil con)

  -- a part before another
  jump_closed : (exits : ExitPoints) (end kept : ℕ) (place : Place) (e : TypedExpression) (on : TypedStatement) (c : List Instr)
      → with_off false (open_test_jump n place e c) (with_instruction (instr.Jump end) (with_statement n kept exits on (with_open_test n place e c)))
      ≡ c ++ one_way_code place (condition_code n e) (length c + 1 + condition_size n e + 1 + statement_size n on + 1) (statement_code n (length c + 1 + condition_size n e + 1) kept exits on ++ instr.Jump end ∷ [])
  jump_closed exits end kept place e on c = ap (λ w. with_off false (open_test_jump n place e c) w) (sym (one_run (instr.Jump end) (with_statement n kept exits on (with_open_test n place e c)))) ∙ part_closed exits kept place e on (instr.Jump end ∷ []) c

  -- with the code of the rest behind it
  joined : (c cs con rest : List Instr) (place : Place) (other end : ℕ) → (c ++ one_way_code place cs other (con ++ instr.Jump end ∷ [])) ++ rest ≡ c ++ two_way_code place cs other con end rest
  joined c cs con rest place other end =
      append_assoc c (one_way_code place cs other (con ++ instr.Jump end ∷ [])) rest
      ∙ ap (λ x. c ++ instr.Tick place ∷ x) (append_assoc cs (instr.JFalse other ∷ (con ++ instr.Jump end ∷ [])) rest ∙ ap (λ x. cs ++ instr.JFalse other ∷ x) (append_assoc con (instr.Jump end ∷ []) rest))

  jumped_length : (exits : ExitPoints) (end kept : ℕ) (place : Place) (e : TypedExpression) (on : TypedStatement) (c : List Instr)
      → length (c ++ one_way_code place (condition_code n e) (length c + 1 + condition_size n e + 1 + statement_size n on + 1) (statement_code n (length c + 1 + condition_size n e + 1) kept exits on ++ instr.Jump end ∷ []))
      ≡ length c + 1 + condition_size n e + 1 + statement_size n on + 1
  jumped_length exits end kept place e on c =
      let first = length c + 1 + condition_size n e + 1 in
      let other = first + statement_size n on + 1 in
      let con = statement_code n first kept exits on in
      let inner = con ++ instr.Jump end ∷ [] in
      omega (arith, length-append c (one_way_code place (condition_code n e) other inner), length-append (condition_code n e) (instr.JFalse other ∷ inner), length-append con (instr.Jump end ∷ []), size_is n first kept exits on)

  stated : (w : List Instr) (k : ℕ) (s : TypedStatement) (exits : ExitPoints) → with_statement n k exits s w ≡ w ++ statement_code n (length w) k exits s
  unfolding with_statement
  stated w k s exits = refl

  -- the rest of a chain behind its first part is the code of the whole
  pub chain_built : (exits : ExitPoints) (end kept : ℕ) (ps : List IfPart) (o : Option TypedStatement) (p : IfPart) (c : List Instr)
      → with_rest n exits end (kept + values_kept p.on) (open_test_jump n p.place p.condition c) ps o (with_statement n kept exits p.on (with_open_test n p.place p.condition c))
      ≡ c ++ parts_code (length c) kept exits end p ps o
  chain_built exits end kept [] None p c = last_closed exits kept p.place p.condition p.on c
  chain_built exits end kept [] (Some s) p c =
      let first = length c + 1 + condition_size n p.condition + 1 in
      let other = first + statement_size n p.on + 1 in
      let more = kept + values_kept p.on in
      let cs = condition_code n p.condition in
      let con = statement_code n first kept exits p.on in
      let next = c ++ one_way_code p.place cs other (con ++ instr.Jump end ∷ []) in
      ap (λ w. with_statement n more exits s w) (jump_closed exits end kept p.place p.condition p.on c)
      ∙ stated next more s exits
      ∙ ap (λ x. next ++ statement_code n x more exits s) (jumped_length exits end kept p.place p.condition p.on c)
      ∙ joined c cs con (statement_code n other more exits s) p.place other end
  chain_built exits end kept (q ∷ ps) o p c =
      let first = length c + 1 + condition_size n p.condition + 1 in
      let other = first + statement_size n p.on + 1 in
      let more = kept + values_kept p.on in
      let cs = condition_code n p.condition in
      let con = statement_code n first kept exits p.on in
      let next = c ++ one_way_code p.place cs other (con ++ instr.Jump end ∷ []) in
      ap (λ w. with_rest n exits end (more + values_kept q.on) (open_test_jump n q.place q.condition w) ps o (with_statement n more exits q.on (with_open_test n q.place q.condition w))) (jump_closed exits end kept p.place p.condition p.on c)
      ∙ chain_built exits end more ps o q next
      ∙ ap (λ x. next ++ parts_code x more exits end q ps o) (jumped_length exits end kept p.place p.condition p.on c)
      ∙ joined c cs con (parts_code other more exits end q ps o) p.place other end

-- ---- the trees of the code

-- the parts behind the first one are its else part
pub chained : (others : List code_arm.Arm) (o : Option TypedStatement) (p : IfPart) → if_tree p.place p.condition p.on (in_a_row (map arm_tree others) o) ≡ chain_tree p (map arm_of_chain others) o
chained [] o p = refl
chained (a ∷ others) o p =
    ap (λ r. if_tree p.place p.condition p.on r) (arm_is a (in_a_row (map arm_tree others) o))
    ∙ ap (λ s. if_tree p.place p.condition p.on (Some s)) (chained others o (arm_of_chain a))

-- how many values a chain keeps
pub chain_keeps : (p : IfPart) (ps : List IfPart) (o : Option TypedStatement) → values_kept (chain_tree p ps o) ≡ values_kept p.on + rest_keeps ps o
chain_keeps p [] None = omega arith
chain_keeps p [] (Some s) = refl
chain_keeps p (q ∷ ps) o = ap (λ k. values_kept p.on + k) (chain_keeps q ps o)

-- a chain whose jumps to its end get their target is its statement
pub chain_ended : (n : CodeNumbers) (way : Returning) (kept : ℕ) (p : IfPart) (ps : List IfPart) (o : Option TypedStatement) (c : List Instr)
    → length (c ++ parts_code n (length c) kept (marked_exits way) end_mark p ps o) < body_mark
    → redirected (length c) (end_aims (length (c ++ parts_code n (length c) kept (marked_exits way) end_mark p ps o))) (c ++ parts_code n (length c) kept (marked_exits way) end_mark p ps o)
    ≡ with_statement n kept (marked_exits way) (chain_tree p ps o) c
unfolding with_statement
chain_ended n way kept p ps o c small =
    let exits = marked_exits way in
    let code = parts_code n (length c) kept exits end_mark p ps o in
    let end = length (c ++ code) in
    let a = end_aims end in
    let whole : end ≡ length c + statement_size n (chain_tree p ps o) = omega (arith, length-append c code, parts_size_is n (length c) kept exits end_mark p ps o) in
    let most : length c + statement_size n (chain_tree p ps o) ≤ end = omega (arith, whole) in
    redirect_behind c code a
    ∙ ap (λ x. c ++ x) (parts_moved n (aim a) end (aim_fixes a end small) (length c) kept exits end_mark p ps o most
    ∙ ap (λ x. parts_code n (length c) kept x end p ps o) (exits_stay a way refl refl refl)
    ∙ parts_are n (length c) kept exits end p ps o whole)

-- an `if` with the parts behind it
pub if_ended : (n : CodeNumbers) (way : Returning) (kept : ℕ) (p : IfPart) (others : List code_arm.Arm) (o : Option TypedStatement) (c whole : List Instr)
    → whole ≡ with_rest n (marked_exits way) end_mark (kept + values_kept p.on) (open_test_jump n p.place p.condition c) (map arm_of_chain others) o (with_statement n kept (marked_exits way) p.on (with_open_test n p.place p.condition c))
    → length whole < body_mark
    → redirected (length c) (end_aims (length whole)) whole ≡ with_statement n kept (marked_exits way) (if_tree p.place p.condition p.on (in_a_row (map arm_tree others) o)) c
if_ended n way kept p others o c whole h small =
    let ps = map arm_of_chain others in
    let is : whole ≡ c ++ parts_code n (length c) kept (marked_exits way) end_mark p ps o = h ∙ chain_built n (marked_exits way) end_mark kept ps o p c in
    let P : List Instr → Type 0 = λ w. length w < body_mark in
    ap (λ w. redirected (length c) (end_aims (length w)) w) is
    ∙ chain_ended n way kept p ps o c (subst P is small)
    ∙ ap (λ s. with_statement n kept (marked_exits way) s c) (sym (chained others o p))
