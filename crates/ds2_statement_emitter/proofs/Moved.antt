-- Code whose marks get their targets is the code of these targets.
use Rattle.std.proofs.Common.{◌≡◌, ℕ, ◌+◌, ◌≤◌, ◌<◌, true, false, Bool, List, [], ◌∷◌, ◌++◌, length, map, Option, Some, None, refl, ap, ◌∙◌, arith}
use Rattle.std.specs.Prelude.{nat_eq, if◌then◌else◌}
use Rattle.std.proofs.lemmas.Bool.Decides.{nat_tests}
use Rattle.std.proofs.lemmas.List.{map-append}
use Rattle.ds2_base.specs.declared.place.Place.{Place}
use Rattle.ds2_value.specs.declared.comparison.Comparison.TheVariants.{Equal, Less, LessOrEqual, GreaterOrEqual}
use Rattle.ds2_value.specs.declared.ty.Ty.TheVariants.{BigInt}
use Rattle.ds2_meaning.specs.declared.location.Reference.{Reference}
use Rattle.ds2_meaning.specs.Evaluation.{callee_home}
use Rattle.ds2_meaning.specs.IsTyped.{class_of, expression_type}
use Rattle.ds2_meaning.specs.TypedExpression.{TypedExpression, TypedExpressions, NoExpression, Then}
use Rattle.ds2_meaning.specs.TypedStatement.{TypedStatement, Empty, Assign, Invoke, Evaluate, SetParameters, Construct, Leave, Continue, Return, ReturnValue, Output, Put, If, IfElse, Select, SelectValue, Block, Count, While, Until, TypedStatements, Finish, Next, TypedWhens, NoOtherwise, Otherwise, When}
use Rattle.ds2_code.specs.declared.instr.Instr.{Instr}
use Rattle.ds2_code.specs.declared.instr.Instr.TheVariants as instr
use Rattle.ds2_code.specs.CodeBound.{jump_target}
use Rattle.ds2_code.specs.InstructionTable.{kind_of}
use Rattle.ds2_gen.specs.CodePieces.{ExitPoints, ReturnWay, JumpsToEnd, HandsBack}
use Rattle.ds2_gen.specs.ExpressionCode.{CodeNumbers, cell_of, store_instr, comparison_instr, expression_code, condition_code}
use Rattle.ds2_gen.specs.StatementCode.{return_instr, outputs_code, Subject, Conditions, EqualTo, compares, step_keeps, count_test_size, values_kept, items_code, invoke_code, construct_code, parameters_code, condition_size, store_kept, test_code, tests_size, tests_code, step_code, end_number, step_instr, advance_code, bound_code, step_sign_code, falling_test_code, count_test_code, count_values_code, count_begin_code, keep_step_code, statement_size, statements_size, whens_size, statement_code, statements_code, whens_code}
use Rattle.ds2_gen.proofs.PlainCode.{IsPlain, plain_append, load_plain, store_plain, comparison_plain, expression_plain, condition_plain, invoke_plain, construct_plain, parameters_plain, items_plain, outputs_plain}
use Rattle.ds2_emitter.specs.declared.returning.Returning.{Returning}
use Rattle.ds2_emitter.specs.declared.returning.Returning.TheVariants.{ToEnd, WithResult, WithoutResult}
use Rattle.ds2_statement_emitter.specs.declared.aims.Aims.{Aims}
use Rattle.ds2_statement_emitter.specs.Appending.{further_tests, open_tests}
use Rattle.ds2_statement_emitter.specs.Marks.{leave_mark, continue_mark, return_mark, end_mark, body_mark, marked_way, marked_exits, aim, moved}

-- ---- plain code

plain_stays : (f : ℕ → ℕ) (i : Instr) → jump_target (kind_of i) ≡ None → moved f i ≡ i
plain_stays f (instr.Jump t) h = cc h
plain_stays f (instr.JFalse t) h = cc h
plain_stays f (instr.JTrue t) h = cc h
plain_stays f _ h = refl

-- a jump in front
pub jump_front : (j : ℕ → Instr) (t u : ℕ) (xs ys : List Instr) → t ≡ u → xs ≡ ys → j t ∷ xs ≡ j u ∷ ys
jump_front j t u xs ys p q = ap (λ k. j k ∷ xs) p ∙ ap (λ zs. j u ∷ zs) q

module _ (f : ℕ → ℕ) where
  pub plain_moved : (is : List Instr) → IsPlain is → map (moved f) is ≡ is
  plain_moved [] p = refl
  plain_moved (i ∷ is) p = ap (λ x. x ∷ map (moved f) is) (plain_stays f i p.0) ∙ ap (λ xs. i ∷ xs) (plain_moved is p.1)

  -- plain code in front
  pub behind_plain : (xs ys zs : List Instr) → IsPlain xs → map (moved f) ys ≡ zs → map (moved f) (xs ++ ys) ≡ xs ++ zs
  behind_plain xs ys zs p h = map-append (moved f) xs ys ∙ ap (λ x. x ++ map (moved f) ys) (plain_moved xs p) ∙ ap (λ y. xs ++ y) h

  -- two pieces
  pub piece_by_piece : (xs ys us vs : List Instr) → map (moved f) xs ≡ us → map (moved f) ys ≡ vs → map (moved f) (xs ++ ys) ≡ us ++ vs
  piece_by_piece xs ys us vs a b = map-append (moved f) xs ys ∙ ap (λ x. x ++ map (moved f) ys) a ∙ ap (λ y. us ++ y) b

-- ---- exits

abbrev pub moved_way : (ℕ → ℕ) → ReturnWay → ReturnWay
moved_way f (JumpsToEnd to) = JumpsToEnd (f to)
moved_way f (HandsBack b) = HandsBack b

abbrev pub moved_exits : (ℕ → ℕ) → ExitPoints → ExitPoints
moved_exits f exits = record { leave = f exits.leave; continue = f exits.continue; return = moved_way f exits.return }

return_moved : (f : ℕ → ℕ) (way : ReturnWay) → moved f (return_instr way) ≡ return_instr (moved_way f way)
return_moved f (JumpsToEnd to) = refl
return_moved f (HandsBack true) = refl
return_moved f (HandsBack false) = refl

abbrev pub exits_at : ℕ → ℕ → ReturnWay → ExitPoints
exits_at leave continue way = record { leave = leave; continue = continue; return = way }

same_exits : (a b c d : ℕ) (way : ReturnWay) → a ≡ b → c ≡ d → exits_at a c way ≡ exits_at b d way
same_exits a b c d way p q = ap (λ x. exits_at x c way) p ∙ ap (λ y. exits_at b y way) q

-- numbers up to this one stay
abbrev pub Fixes : (ℕ → ℕ) → ℕ → Type 0
Fixes f top = (t : ℕ) → t ≤ top → f t ≡ t

pub test_plain : (n : CodeNumbers) (subject : Subject) (e : TypedExpression) → IsPlain (test_code n subject e)
test_plain n Conditions e = condition_plain n e
test_plain n (EqualTo kept ty) e =
    (load_plain (Some (n.placement.kept_cell kept)) ty, plain_append (expression_code n e) (comparison_instr (class_of ty) Equal ∷ []) (expression_plain n e) (comparison_plain (class_of ty) Equal, tt))

step_plain : (n : CodeNumbers) (step : Option TypedExpression) → IsPlain (step_code n step)
step_plain n None = tt
step_plain n (Some e) = expression_plain n e

values_plain : (n : CodeNumbers) (start end : TypedExpression) (step : Option TypedExpression) → IsPlain (count_values_code n start end step)
values_plain n start end step =
    plain_append (expression_code n start) (expression_code n end ++ step_code n step) (expression_plain n start)
    (plain_append (expression_code n end) (step_code n step) (expression_plain n end) (step_plain n step))

step_instr_plain : (n : CodeNumbers) (kept : ℕ) (step : Option TypedExpression) → jump_target (kind_of (step_instr n kept step)) ≡ None
step_instr_plain n kept None = refl
step_instr_plain n kept (Some e) = load_plain (Some (n.placement.kept_cell kept)) BigInt

pub advance_plain : (n : CodeNumbers) (place : Place) (r : Reference) (kept : ℕ) (step : Option TypedExpression) → IsPlain (advance_code n place r (step_instr n kept step))
advance_plain n place r kept step = (refl, (load_plain (cell_of n r) BigInt, (step_instr_plain n kept step, (refl, (store_plain (cell_of n r), tt)))))

keep_step_plain : (n : CodeNumbers) (kept : ℕ) (step : Option TypedExpression) → IsPlain (keep_step_code n kept step)
keep_step_plain n kept None = tt
keep_step_plain n kept (Some e) = (store_plain (Some (n.placement.kept_cell kept)), tt)

bound_plain : (n : CodeNumbers) (r : Reference) (end : ℕ) (less : Bool) → IsPlain (bound_code n r end (if less then LessOrEqual else GreaterOrEqual) [])
bound_plain n r end true = (load_plain (cell_of n r) BigInt, (load_plain (Some (n.placement.kept_cell end)) BigInt, (refl, tt)))
bound_plain n r end false = (load_plain (cell_of n r) BigInt, (load_plain (Some (n.placement.kept_cell end)) BigInt, (refl, tt)))

sign_plain : (n : CodeNumbers) (kept : ℕ) (less : Bool) → IsPlain (step_sign_code n kept (if less then Less else GreaterOrEqual) [])
sign_plain n kept true = (load_plain (Some (n.placement.kept_cell kept)) BigInt, (refl, (refl, tt)))
sign_plain n kept false = (load_plain (Some (n.placement.kept_cell kept)) BigInt, (refl, (refl, tt)))

-- ---- statements

module _ (n : CodeNumbers) (f : ℕ → ℕ) where
  tests_moved : (subject : Subject) (on off : ℕ) (tests : TypedExpressions) → map (moved f) (tests_code n subject on off tests) ≡ tests_code n subject (f on) (f off) tests
  tests_moved subject on off NoExpression = refl
  tests_moved subject on off (Then e NoExpression) = behind_plain f (test_code n subject e) (instr.JFalse off ∷ []) (instr.JFalse (f off) ∷ []) (test_plain n subject e) refl
  tests_moved subject on off (Then e (Then g rest)) =
      behind_plain f (test_code n subject e) (instr.JTrue on ∷ tests_code n subject on off (Then g rest)) (instr.JTrue (f on) ∷ tests_code n subject (f on) (f off) (Then g rest)) (test_plain n subject e)
      (ap (λ is. instr.JTrue (f on) ∷ is) (tests_moved subject on off (Then g rest)))

  further_moved : (subject : Subject) (on : ℕ) (tests : TypedExpressions) → map (moved f) (further_tests n subject on tests) ≡ further_tests n subject (f on) tests
  further_moved subject on NoExpression = refl
  further_moved subject on (Then e rest) =
      ap (λ is. instr.JTrue (f on) ∷ is) (behind_plain f (test_code n subject e) (further_tests n subject on rest) (further_tests n subject (f on) rest) (test_plain n subject e) (further_moved subject on rest))

  pub open_tests_moved : (subject : Subject) (on : ℕ) (tests : TypedExpressions) → map (moved f) (open_tests n subject on tests) ≡ open_tests n subject (f on) tests
  open_tests_moved subject on NoExpression = refl
  open_tests_moved subject on (Then e rest) = behind_plain f (test_code n subject e) (further_tests n subject on rest) (further_tests n subject (f on) rest) (test_plain n subject e) (further_moved subject on rest)

  begin_moved : (place : Place) (r : Reference) (kept : ℕ) (step : Option TypedExpression) (test : ℕ) → f test ≡ test
      → map (moved f) (count_begin_code n place r kept step test) ≡ count_begin_code n place r kept step test
  begin_moved place r kept step test h =
      let a = store_kept n (end_number kept step) in
      let b = store_instr (cell_of n r) in
      behind_plain f (keep_step_code n kept step) (a ∷ b ∷ instr.Tick place ∷ instr.Jump test ∷ []) (a ∷ b ∷ instr.Tick place ∷ instr.Jump test ∷ []) (keep_step_plain n kept step)
      (behind_plain f (a ∷ b ∷ instr.Tick place ∷ []) (instr.Jump test ∷ []) (instr.Jump test ∷ []) (store_plain (Some (n.placement.kept_cell (end_number kept step))), (store_plain (cell_of n r), (refl, tt)))
      (ap (λ t. instr.Jump t ∷ []) h))

  rising_moved : (first : ℕ) (r : Reference) (end : ℕ) (is js : List Instr) → f first ≡ first → map (moved f) is ≡ js
      → map (moved f) (bound_code n r end LessOrEqual (instr.JTrue first ∷ is)) ≡ bound_code n r end LessOrEqual (instr.JTrue first ∷ js)
  rising_moved first r end is js a b =
      behind_plain f (bound_code n r end LessOrEqual []) (instr.JTrue first ∷ is) (instr.JTrue first ∷ js) (bound_plain n r end true) (jump_front (λ t. instr.JTrue t) (f first) first (map (moved f) is) js a b)

  falling_moved : (out first : ℕ) (r : Reference) (step end : ℕ) → f out ≡ out → f first ≡ first → map (moved f) (falling_test_code n out first r step end) ≡ falling_test_code n out first r step end
  falling_moved out first r step end a b =
      let tail = bound_code n r end GreaterOrEqual (instr.JTrue first ∷ []) in
      let rest : map (moved f) tail ≡ tail = behind_plain f (bound_code n r end GreaterOrEqual []) (instr.JTrue first ∷ []) (instr.JTrue first ∷ []) (bound_plain n r end false) (ap (λ t. instr.JTrue t ∷ []) b) in
      behind_plain f (step_sign_code n step Less []) (instr.JFalse out ∷ tail) (instr.JFalse out ∷ tail) (sign_plain n step true) (jump_front (λ t. instr.JFalse t) (f out) out (map (moved f) tail) tail a rest)

  count_test_moved : (at first : ℕ) (r : Reference) (kept : ℕ) (step : Option TypedExpression) → f first ≡ first → f (at + 9) ≡ at + 9 → f (at + 17) ≡ at + 17
      → map (moved f) (count_test_code n at first r kept step) ≡ count_test_code n at first r kept step
  count_test_moved at first r kept None a b c = rising_moved first r (end_number kept None) [] [] a refl
  count_test_moved at first r kept (Some e) a b c =
      let end = end_number kept (Some e) in
      let last = falling_test_code n (at + 17) first r kept end in
      let out = instr.Jump (at + 17) ∷ last in
      let ends : map (moved f) out ≡ out = jump_front (λ t. instr.Jump t) (f (at + 17)) (at + 17) (map (moved f) last) last c (falling_moved (at + 17) first r kept end c a) in
      let rest = bound_code n r end LessOrEqual (instr.JTrue first ∷ out) in
      let rises : map (moved f) rest ≡ rest = rising_moved first r end out out a ends in
      behind_plain f (step_sign_code n kept GreaterOrEqual []) (instr.JFalse (at + 9) ∷ rest) (instr.JFalse (at + 9) ∷ rest) (sign_plain n kept false) (jump_front (λ t. instr.JFalse t) (f (at + 9)) (at + 9) (map (moved f) rest) rest b rises)

  module _ (top : ℕ) (fix : Fixes f top) where
    pub step_test_moved : (at first : ℕ) (r : Reference) (kept : ℕ) (step : Option TypedExpression) → first ≤ top → at + count_test_size step ≤ top
        → map (moved f) (count_test_code n at first r kept step) ≡ count_test_code n at first r kept step
    step_test_moved at first r kept None a b = rising_moved first r (end_number kept None) [] [] (fix first a) refl
    step_test_moved at first r kept (Some e) a b = count_test_moved at first r kept (Some e) (fix first a) (fix (at + 9) (omega arith)) (fix (at + 17) (omega arith))

    mutual
      pub statement_moved : (at kept : ℕ) (exits : ExitPoints) (s : TypedStatement) → at + statement_size n s ≤ top
          → map (moved f) (statement_code n at kept exits s) ≡ statement_code n at kept (moved_exits f exits) s
      statement_moved at kept exits (Empty place) h = refl
      statement_moved at kept exits (Assign place r e) h =
          plain_moved f (instr.Tick place ∷ (expression_code n e ++ store_instr (cell_of n r) ∷ []))
          (refl, plain_append (expression_code n e) (store_instr (cell_of n r) ∷ []) (expression_plain n e) (store_plain (cell_of n r), tt))
      statement_moved at kept exits (Evaluate place e) h =
          plain_moved f (instr.Tick place ∷ (expression_code n e ++ instr.DropTop ∷ [])) (refl, plain_append (expression_code n e) (instr.DropTop ∷ []) (expression_plain n e) (refl, tt))
      statement_moved at kept exits (Leave place) h = refl
      statement_moved at kept exits (Continue place) h = refl
      statement_moved at kept exits (Return place) h = ap (λ i. instr.Tick place ∷ i ∷ []) (return_moved f exits.return)
      statement_moved at kept exits (ReturnValue place e) h =
          plain_moved f (instr.Tick place ∷ (expression_code n e ++ instr.RetV ∷ [])) (refl, plain_append (expression_code n e) (instr.RetV ∷ []) (expression_plain n e) (refl, tt))
      statement_moved at kept exits (Output place outputs) h = plain_moved f (instr.Tick place ∷ outputs_code outputs) (refl, outputs_plain outputs)
      statement_moved at kept exits (Put place items) h =
          plain_moved f (instr.Tick place ∷ (items_code n items ++ instr.Put (length items) ∷ [])) (refl, plain_append (items_code n items) (instr.Put (length items) ∷ []) (items_plain n items) (refl, tt))
      statement_moved at kept exits (Invoke place instance method arguments) h =
          plain_moved f (instr.Tick place ∷ invoke_code n (callee_home n.home instance) method arguments) (refl, invoke_plain n (callee_home n.home instance) method arguments)
      statement_moved at kept exits (SetParameters place instance values) h = plain_moved f (instr.Tick place ∷ parameters_code n instance values) (refl, parameters_plain n instance values)
      statement_moved at kept exits (Construct place instance constructor arguments) h =
          plain_moved f (instr.Tick place ∷ construct_code n instance constructor arguments) (refl, construct_plain n instance constructor arguments)
      statement_moved at kept exits (If place condition on) h =
          let first = at + 1 + condition_size n condition + 1 in
          let end = first + statement_size n on in
          let a : f end ≡ end = fix end (omega arith) in
          let b = statement_moved first kept exits on (omega arith) in
          ap (λ is. instr.Tick place ∷ is)
          (behind_plain f (condition_code n condition) (instr.JFalse end ∷ statement_code n first kept exits on) (instr.JFalse end ∷ statement_code n first kept (moved_exits f exits) on) (condition_plain n condition)
          (jump_front (λ t. instr.JFalse t) (f end) end (map (moved f) (statement_code n first kept exits on)) (statement_code n first kept (moved_exits f exits) on) a b))
      statement_moved at kept exits (IfElse place condition on off) h =
          let first = at + 1 + condition_size n condition + 1 in
          let other = first + statement_size n on + 1 in
          let end = other + statement_size n off in
          let more = kept + values_kept on in
          let a : f end ≡ end = fix end (omega arith) in
          let b : f other ≡ other = fix other (omega arith) in
          let x = statement_moved first kept exits on (omega arith) in
          let y = statement_moved other more exits off (omega arith) in
          let c1 = statement_code n first kept exits on in
          let d1 = statement_code n first kept (moved_exits f exits) on in
          let c2 = instr.Jump end ∷ statement_code n other more exits off in
          let d2 = instr.Jump end ∷ statement_code n other more (moved_exits f exits) off in
          let z : map (moved f) c2 ≡ d2 = jump_front (λ t. instr.Jump t) (f end) end (map (moved f) (statement_code n other more exits off)) (statement_code n other more (moved_exits f exits) off) a y in
          let w : map (moved f) (c1 ++ c2) ≡ d1 ++ d2 = piece_by_piece f c1 c2 d1 d2 x z in
          ap (λ is. instr.Tick place ∷ is) (behind_plain f (condition_code n condition) (instr.JFalse other ∷ (c1 ++ c2)) (instr.JFalse other ∷ (d1 ++ d2)) (condition_plain n condition)
          (jump_front (λ t. instr.JFalse t) (f other) other (map (moved f) (c1 ++ c2)) (d1 ++ d2) b w))
      statement_moved at kept exits (Block place body) h = ap (λ is. instr.Tick place ∷ is) (statements_moved (at + 1) kept exits body (omega arith))
      statement_moved at kept exits (While place condition body) h =
          let first = at + 2 + condition_size n condition + 1 in
          let end = first + statements_size n body + 1 in
          let a : f end ≡ end = fix end (omega arith) in
          let b : f (at + 1) ≡ at + 1 = fix (at + 1) (omega arith) in
          let inner = exits_at end (at + 1) exits.return in
          let outer = exits_at end (at + 1) (moved_way f exits.return) in
          let same = same_exits (f end) end (f (at + 1)) (at + 1) (moved_way f exits.return) a b in
          let c1 = statements_code n first kept inner body in
          let d1 = statements_code n first kept outer body in
          let x : map (moved f) c1 ≡ d1 = statements_moved first kept inner body (omega arith) ∙ ap (λ e. statements_code n first kept e body) same in
          let c2 = instr.Jump (at + 1) ∷ [] in
          let z : map (moved f) c2 ≡ c2 = ap (λ t. instr.Jump t ∷ []) b in
          let w : map (moved f) (c1 ++ c2) ≡ d1 ++ c2 = piece_by_piece f c1 c2 d1 c2 x z in
          ap (λ is. instr.Tick place ∷ instr.Tick place ∷ is) (behind_plain f (condition_code n condition) (instr.JFalse end ∷ (c1 ++ c2)) (instr.JFalse end ∷ (d1 ++ c2)) (condition_plain n condition)
          (jump_front (λ t. instr.JFalse t) (f end) end (map (moved f) (c1 ++ c2)) (d1 ++ c2) a w))
      statement_moved at kept exits (Until place condition body) h =
          let test = at + 1 + statements_size n body in
          let end = test + 1 + condition_size n condition + 1 in
          let a : f end ≡ end = fix end (omega arith) in
          let b : f test ≡ test = fix test (omega arith) in
          let back : f (at + 1) ≡ at + 1 = fix (at + 1) (omega arith) in
          let inner = exits_at end test exits.return in
          let outer = exits_at end test (moved_way f exits.return) in
          let same = same_exits (f end) end (f test) test (moved_way f exits.return) a b in
          let c1 = statements_code n (at + 1) kept inner body in
          let d1 = statements_code n (at + 1) kept outer body in
          let x : map (moved f) c1 ≡ d1 = statements_moved (at + 1) kept inner body (omega arith) ∙ ap (λ e. statements_code n (at + 1) kept e body) same in
          let c2 = condition_code n condition ++ instr.JFalse (at + 1) ∷ [] in
          let z : map (moved f) c2 ≡ c2 = behind_plain f (condition_code n condition) (instr.JFalse (at + 1) ∷ []) (instr.JFalse (at + 1) ∷ []) (condition_plain n condition) (ap (λ t. instr.JFalse t ∷ []) back) in
          let w : map (moved f) (c1 ++ instr.Tick place ∷ c2) ≡ d1 ++ instr.Tick place ∷ c2 = piece_by_piece f c1 (instr.Tick place ∷ c2) d1 (instr.Tick place ∷ c2) x (ap (λ is. instr.Tick place ∷ is) z) in
          ap (λ is. instr.Tick place ∷ is) w
      statement_moved at kept exits (Select place whens) h =
          let end = at + 1 + whens_size n false whens in
          let a : f end ≡ end = fix end (omega arith) in
          let x = whens_moved (at + 1) kept end exits Conditions whens (omega arith) in
          let y : map (moved f) (whens_code n (at + 1) kept end exits Conditions whens) ≡ whens_code n (at + 1) kept end (moved_exits f exits) Conditions whens =
          x ∙ ap (λ e. whens_code n (at + 1) kept e (moved_exits f exits) Conditions whens) a in
          ap (λ is. instr.Tick place ∷ is) y
      statement_moved at kept exits (SelectValue place value whens) h =
          let first = at + 1 + length (expression_code n value) + 1 in
          let subject = EqualTo kept (expression_type value) in
          let end = first + whens_size n true whens in
          let a : f end ≡ end = fix end (omega arith) in
          let x = whens_moved first (kept + 1) end exits subject whens (omega arith) in
          let c1 = whens_code n first (kept + 1) end exits subject whens in
          let d1 = whens_code n first (kept + 1) end (moved_exits f exits) subject whens in
          let y : map (moved f) c1 ≡ d1 = x ∙ ap (λ e. whens_code n first (kept + 1) e (moved_exits f exits) subject whens) a in
          ap (λ is. instr.Tick place ∷ is)
          (behind_plain f (expression_code n value) (store_kept n kept ∷ c1) (store_kept n kept ∷ d1) (expression_plain n value)
          (behind_plain f (store_kept n kept ∷ []) c1 d1 (store_plain (Some (n.placement.kept_cell kept)), tt) y))
      statement_moved at kept exits (Count place r start end step body) h =
          let values = count_values_code n start end step in
          let first = at + 1 + length values + (step_keeps step + 4) in
          let again = first + statements_size n body in
          let test = again + 5 in
          let out = test + count_test_size step in
          let inner = exits_at out again exits.return in
          let outer = exits_at out again (moved_way f exits.return) in
          let a : f out ≡ out = fix out (omega arith) in
          let b : f again ≡ again = fix again (omega arith) in
          let same = same_exits (f out) out (f again) again (moved_way f exits.return) a b in
          let begun = count_begin_code n place r kept step test in
          let c1 = statements_code n first (end_number kept step + 1) inner body in
          let d1 = statements_code n first (end_number kept step + 1) outer body in
          let x : map (moved f) c1 ≡ d1 = statements_moved first (end_number kept step + 1) inner body (omega arith) ∙ ap (λ e. statements_code n first (end_number kept step + 1) e body) same in
          let advance = advance_code n place r (step_instr n kept step) in
          let tests = count_test_code n test first r kept step in
          let t : map (moved f) tests ≡ tests = step_test_moved test first r kept step (omega arith) (omega arith) in
          let u : map (moved f) (advance ++ tests) ≡ advance ++ tests = behind_plain f advance tests tests (advance_plain n place r kept step) t in
          let v : map (moved f) (c1 ++ (advance ++ tests)) ≡ d1 ++ (advance ++ tests) = piece_by_piece f c1 (advance ++ tests) d1 (advance ++ tests) x u in
          let w : map (moved f) (begun ++ (c1 ++ (advance ++ tests))) ≡ begun ++ (d1 ++ (advance ++ tests)) =
          piece_by_piece f begun (c1 ++ (advance ++ tests)) begun (d1 ++ (advance ++ tests)) (begin_moved place r kept step test (fix test (omega arith))) v in
          ap (λ is. instr.Tick place ∷ is) (behind_plain f values (begun ++ (c1 ++ (advance ++ tests))) (begun ++ (d1 ++ (advance ++ tests))) (values_plain n start end step) w)

      pub statements_moved : (at kept : ℕ) (exits : ExitPoints) (ss : TypedStatements) → at + statements_size n ss ≤ top
          → map (moved f) (statements_code n at kept exits ss) ≡ statements_code n at kept (moved_exits f exits) ss
      statements_moved at kept exits Finish h = refl
      statements_moved at kept exits (Next s rest) h =
          let next = at + statement_size n s in
          let more = kept + values_kept s in
          piece_by_piece f (statement_code n at kept exits s) (statements_code n next more exits rest) (statement_code n at kept (moved_exits f exits) s) (statements_code n next more (moved_exits f exits) rest)
          (statement_moved at kept exits s (omega arith)) (statements_moved next more exits rest (omega arith))

      pub whens_moved : (at kept end : ℕ) (exits : ExitPoints) (subject : Subject) (whens : TypedWhens) → at + whens_size n (compares subject) whens ≤ top
          → map (moved f) (whens_code n at kept end exits subject whens) ≡ whens_code n at kept (f end) (moved_exits f exits) subject whens
      whens_moved at kept end exits subject NoOtherwise h = refl
      whens_moved at kept end exits subject (Otherwise s) h = statement_moved at kept exits s h
      whens_moved at kept end exits subject (When tests s rest) h =
          let first = at + tests_size n (compares subject) tests in
          let next = first + statement_size n s + 1 in
          let more = kept + values_kept s in
          let a : f first ≡ first = fix first (omega arith) in
          let b : f next ≡ next = fix next (omega arith) in
          let c0 = tests_code n subject first next tests in
          let x : map (moved f) c0 ≡ c0 = tests_moved subject first next tests ∙ ap (λ t. tests_code n subject t (f next) tests) a ∙ ap (λ t. tests_code n subject first t tests) b in
          let c1 = statement_code n first kept exits s in
          let d1 = statement_code n first kept (moved_exits f exits) s in
          let y = statement_moved first kept exits s (omega arith) in
          let c2 = whens_code n next more end exits subject rest in
          let d2 = whens_code n next more (f end) (moved_exits f exits) subject rest in
          let z = whens_moved next more end exits subject rest (omega arith) in
          let w : map (moved f) (c1 ++ instr.Jump end ∷ c2) ≡ d1 ++ instr.Jump (f end) ∷ d2 = piece_by_piece f c1 (instr.Jump end ∷ c2) d1 (instr.Jump (f end) ∷ d2) y (ap (λ is. instr.Jump (f end) ∷ is) z) in
          piece_by_piece f c0 (c1 ++ instr.Jump end ∷ c2) c0 (d1 ++ instr.Jump (f end) ∷ d2) x w

-- ---- marks

if_false : (b : Bool) (x y : ℕ) → b ≡ false → (if b then x else y) ≡ y
if_false true x y h = cc h
if_false false x y h = refl

apart : (t m : ℕ) → t < m → nat_eq t m ≡ false
apart t m h = grind (arith, nat_tests)

-- a number below the marks stays
pub aim_fixes : (a : Aims) (top : ℕ) → top < body_mark → Fixes (aim a) top
aim_fixes a top h t less =
    let y4 = if nat_eq t body_mark then a.body else t in
    let y3 = if nat_eq t end_mark then a.end else y4 in
    let y2 = if nat_eq t return_mark then a.return_to else y3 in
    let y1 = if nat_eq t continue_mark then a.continue_to else y2 in
    if_false (nat_eq t leave_mark) a.leave y1 (apart t leave_mark (omega arith)) ∙ if_false (nat_eq t continue_mark) a.continue_to y2 (apart t continue_mark (omega arith))
    ∙ if_false (nat_eq t return_mark) a.return_to y3 (apart t return_mark (omega arith)) ∙ if_false (nat_eq t end_mark) a.end y4 (apart t end_mark (omega arith))
    ∙ if_false (nat_eq t body_mark) a.body t (apart t body_mark (omega arith))

-- exits by marks stay where no mark of theirs gets a target
pub exits_stay : (a : Aims) (way : Returning) → a.leave ≡ leave_mark → a.continue_to ≡ continue_mark → a.return_to ≡ return_mark → moved_exits (aim a) (marked_exits way) ≡ marked_exits way
exits_stay a ToEnd p q r = same_exits a.leave leave_mark a.continue_to continue_mark (JumpsToEnd a.return_to) p q ∙ ap (λ t. exits_at leave_mark continue_mark (JumpsToEnd t)) r
exits_stay a WithResult p q r = same_exits a.leave leave_mark a.continue_to continue_mark (HandsBack true) p q
exits_stay a WithoutResult p q r = same_exits a.leave leave_mark a.continue_to continue_mark (HandsBack false) p q

-- within a loop they become the loop's
pub exits_of_loop : (a : Aims) (way : Returning) → a.return_to ≡ return_mark → moved_exits (aim a) (marked_exits way) ≡ record { leave = a.leave; continue = a.continue_to; return = marked_way way }
exits_of_loop a ToEnd r = ap (λ t. exits_at a.leave a.continue_to (JumpsToEnd t)) r
exits_of_loop a WithResult r = refl
exits_of_loop a WithoutResult r = refl
