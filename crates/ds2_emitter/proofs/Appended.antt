-- How code is put together from the code of its parts.
use Rattle.std.proofs.Common.{◌≡◌, ℕ, suc, Bool, List, [], ◌∷◌, ◌++◌, length, map, drop, Result, Ok, Err, OnOk, refl, sym, ap, ◌∙◌, append_assoc, append-nil}
use Rattle.ds2_value.specs.declared.comparison.Comparison.{Comparison}
use Rattle.ds2_value.specs.declared.hash_function.HashFunction.{HashFunction}
use Rattle.ds2_value.specs.declared.hash_function.IteratorFunction.{IteratorFunction}
use Rattle.ds2_value.specs.declared.ty.Ty.{Ty}
use Rattle.ds2_value.specs.declared.ty.Ty.TheVariants.{BigInt}
use Rattle.ds2_value.specs.declared.value.Value.{Value}
use Rattle.ds2_meaning.specs.declared.expressions.Expression as code_expression
use Rattle.ds2_meaning.specs.declared.expressions.Function.{Function}
use Rattle.ds2_meaning.specs.declared.expressions.Operation.{Operation}
use Rattle.ds2_meaning.specs.declared.expressions.Prefix.{Prefix}
use Rattle.ds2_meaning.specs.declared.expressions.Prefix.TheVariants as prefix
use Rattle.ds2_meaning.specs.declared.location.Reference.{Reference}
use Rattle.ds2_meaning.specs.Evaluation.{callee_home}
use Rattle.ds2_meaning.specs.IsTyped.{class_of, expression_type}
use Rattle.ds2_meaning.specs.TypedExpression.{TypedExpression, Constant, Variable, Widen, Convert, Prefixed, Chain, Compared, Applied, Called, HashCalled, IteratorCalled, Links, NoLink, Link, TypedExpressions, NoExpression, Then, TypedArguments, NoArgument, ByValue, InOut}
use Rattle.ds2_meaning.specs.View.{CallTree, all_expressions, typed_expression}
use Rattle.ds2_code.specs.declared.instr.Instr.{Instr}
use Rattle.ds2_code.specs.declared.instr.Instr.TheVariants as instr
use Rattle.ds2_gen.specs.ExpressionCode.{CodeNumbers, constant_instr, load_instr, cell_of, store_instr, call_instr, object_cell, hash_instr, iterator_instr, conversion_code, truth_code, prefix_code, operation_instr, operand_code, widening_code, widened_type, left_operand_code, comparison_instr, function_code, expressions_count, back_code, expression_code, expressions_code, links_code, arguments_code}
use Rattle.ds2_emitter.specs.Emit.{with_instruction, with_run, with_expression, with_expressions, with_links, with_arguments, with_back, with_linked_operand, with_method_call}

-- ---- results and lists

pub on_ok : {T E P Q : Type 0} (r : Result T E) → OnOk r P → (P → Q) → OnOk r Q
on_ok (Ok x) h f = f h
on_ok (Err e) h f = h

pub drop_all : {X : Type 0} (xs : List X) → drop (length xs) xs ≡ []
drop_all [] = refl
drop_all (x ∷ xs) = drop_all xs

-- ---- runs

pub no_run : (c : List Instr) → with_run [] c ≡ c
unfolding with_run
no_run c = append-nil c

pub one_run : (i : Instr) (c : List Instr) → with_run (i ∷ []) c ≡ with_instruction i c
unfolding with_run with_instruction
one_run i c = refl

pub not_run : (ty : Ty) (c : List Instr) → with_run (prefix_code prefix.Not ty) c ≡ with_instruction instr.Not (with_run (truth_code ty) c)
unfolding with_run with_instruction
not_run ty c = sym (append_assoc c (truth_code ty) (instr.Not ∷ []))

pub left_run : (b : Bool) (o : Operation) (ty : Ty) (c : List Instr) → with_run (left_operand_code b o ty) c ≡ with_run (operand_code o (widened_type b ty)) (with_run (widening_code b) c)
unfolding with_run
left_run b o ty c = sym (append_assoc c (widening_code b) (operand_code o (widened_type b ty)))

-- ---- expressions

count_is : (es : List TypedExpression) → expressions_count (all_expressions es) ≡ length es
count_is [] = refl
count_is (e ∷ es) = ap suc (count_is es)

mapped_count : (es : List code_expression.Expression) → length (map typed_expression es) ≡ length es
mapped_count [] = refl
mapped_count (e ∷ es) = ap suc (mapped_count es)

module _ (n : CodeNumbers) where
  pub constant_emitted : (v : Value) (ty : Ty) (c : List Instr) → with_expression n (Constant v ty) c ≡ with_instruction (constant_instr n v ty) c
  unfolding with_expression with_instruction
  constant_emitted v ty c = refl

  pub variable_emitted : (r : Reference) (ty : Ty) (c : List Instr) → with_expression n (Variable r ty) c ≡ with_instruction (load_instr (cell_of n r) ty) c
  unfolding with_expression with_instruction
  variable_emitted r ty c = refl

  pub widen_emitted : (e : TypedExpression) (c : List Instr) → with_expression n (Widen e) c ≡ with_instruction instr.IToD (with_expression n e c)
  unfolding with_expression with_instruction
  widen_emitted e c = sym (append_assoc c (expression_code n e) (instr.IToD ∷ []))

  pub convert_emitted : (e : TypedExpression) (ty : Ty) (c : List Instr) → with_expression n (Convert e ty) c ≡ with_run (conversion_code ty) (with_expression n e c)
  unfolding with_expression with_run
  convert_emitted e ty c = sym (append_assoc c (expression_code n e) (conversion_code ty))

  pub prefixed_emitted : (x : Prefix) (e : TypedExpression) (ty : Ty) (c : List Instr) → with_expression n (Prefixed x e ty) c ≡ with_run (prefix_code x (expression_type e)) (with_expression n e c)
  unfolding with_expression with_run
  prefixed_emitted x e ty c = sym (append_assoc c (expression_code n e) (prefix_code x (expression_type e)))

  pub chain_emitted : (first : TypedExpression) (links : Links) (c : List Instr) → with_expression n (Chain first links) c ≡ with_links n (expression_type first) links (with_expression n first c)
  unfolding with_expression with_links
  chain_emitted first links c = sym (append_assoc c (expression_code n first) (links_code n (expression_type first) links))

  pub compared_emitted : (comparison : Comparison) (left right : TypedExpression) (c : List Instr)
      → with_expression n (Compared comparison left right) c ≡ with_instruction (comparison_instr (class_of (expression_type left)) comparison) (with_expression n right (with_expression n left c))
  unfolding with_expression with_instruction
  compared_emitted comparison left right c =
      let i = comparison_instr (class_of (expression_type left)) comparison in
      sym (append_assoc (c ++ expression_code n left) (expression_code n right) (i ∷ []) ∙ append_assoc c (expression_code n left) (expression_code n right ++ i ∷ []))

  pub applied_emitted : (f : Function) (arguments : List code_expression.Expression) (ty : Ty) (c : List Instr)
      → with_expression n (Applied f (all_expressions (map typed_expression arguments)) ty) c
      ≡ with_run (function_code f (length arguments)) (with_expressions n (all_expressions (map typed_expression arguments)) c)
  unfolding with_expression with_expressions with_run
  applied_emitted f arguments ty c =
      let es = all_expressions (map typed_expression arguments) in
      let count = count_is (map typed_expression arguments) ∙ mapped_count arguments in
      sym (append_assoc c (expressions_code n es) (function_code f (length arguments)) ∙ ap (λ k. c ++ (expressions_code n es ++ function_code f k)) (sym count))

  pub called_emitted : (t : CallTree) (ty : Ty) (c : List Instr) → with_expression n (Called t.instance t.method t.arguments ty) c ≡ with_method_call n t c
  unfolding with_expression with_arguments with_instruction with_back
  called_emitted t ty c =
      let i = call_instr (n.callee (callee_home n.home t.instance) t.method) in
      sym (append_assoc (c ++ arguments_code n t.arguments) (i ∷ []) (back_code n t.arguments) ∙ append_assoc c (arguments_code n t.arguments) (i ∷ back_code n t.arguments))

  pub hash_emitted : (hash : List ℕ) (f : HashFunction) (c : List Instr) → with_expression n (HashCalled hash f) c ≡ with_instruction (hash_instr (object_cell n hash) f) c
  unfolding with_expression with_instruction
  hash_emitted hash f c = refl

  pub iterator_emitted : (iterator : List ℕ) (f : IteratorFunction) (c : List Instr) → with_expression n (IteratorCalled iterator f) c ≡ with_instruction (iterator_instr (object_cell n iterator) f) c
  unfolding with_expression with_instruction
  iterator_emitted iterator f c = refl

  -- ---- lists

  pub no_expression_emitted : (c : List Instr) → with_expressions n NoExpression c ≡ c
  unfolding with_expressions
  no_expression_emitted c = append-nil c

  pub then_emitted : (e : TypedExpression) (rest : TypedExpressions) (c : List Instr) → with_expressions n (Then e rest) c ≡ with_expressions n rest (with_expression n e c)
  unfolding with_expression with_expressions
  then_emitted e rest c = sym (append_assoc c (expression_code n e) (expressions_code n rest))

  pub no_link_emitted : (ty : Ty) (c : List Instr) → with_links n ty NoLink c ≡ c
  unfolding with_links
  no_link_emitted ty c = append-nil c

  pub link_emitted : (ty : Ty) (widens : Bool) (o : Operation) (e : TypedExpression) (to : Ty) (rest : Links) (c : List Instr) → with_links n ty (Link widens o e to rest) c ≡ with_links n to rest (with_linked_operand n ty widens o e c)
  unfolding with_links with_expression with_run with_instruction
  link_emitted ty widens o e to rest c =
      let c1 = left_operand_code widens o ty in
      let c2 = expression_code n e in
      let c3 = operand_code o (expression_type e) in
      let c4 = operation_instr o ∷ [] in
      let c5 = links_code n to rest in
      sym (append_assoc (((c ++ c1) ++ c2) ++ c3) c4 c5 ∙ append_assoc ((c ++ c1) ++ c2) c3 (c4 ++ c5) ∙ append_assoc (c ++ c1) c2 (c3 ++ (c4 ++ c5)) ∙ append_assoc c c1 (c2 ++ (c3 ++ (c4 ++ c5))))

  pub no_argument_emitted : (c : List Instr) → with_arguments n NoArgument c ≡ c
  unfolding with_arguments
  no_argument_emitted c = append-nil c

  pub value_emitted : (e : TypedExpression) (rest : TypedArguments) (c : List Instr) → with_arguments n (ByValue e rest) c ≡ with_arguments n rest (with_expression n e c)
  unfolding with_arguments with_expression
  value_emitted e rest c = sym (append_assoc c (expression_code n e) (arguments_code n rest))

  pub in_out_emitted : (r : Reference) (rest : TypedArguments) (c : List Instr) → with_arguments n (InOut r rest) c ≡ with_arguments n rest (with_instruction (load_instr (cell_of n r) BigInt) c)
  unfolding with_arguments with_instruction
  in_out_emitted r rest c = sym (append_assoc c (load_instr (cell_of n r) BigInt ∷ []) (arguments_code n rest))

  pub no_argument_back : (c : List Instr) → with_back n NoArgument c ≡ c
  unfolding with_back
  no_argument_back c = append-nil c

  pub value_back : (e : TypedExpression) (rest : TypedArguments) (c : List Instr) → with_back n (ByValue e rest) c ≡ with_back n rest c
  unfolding with_back
  value_back e rest c = refl

  pub in_out_back : (r : Reference) (rest : TypedArguments) (c : List Instr) → with_back n (InOut r rest) c ≡ with_instruction (store_instr (cell_of n r)) (with_back n rest c)
  unfolding with_back with_instruction
  in_out_back r rest c = sym (append_assoc c (back_code n rest) (store_instr (cell_of n r) ∷ []))
