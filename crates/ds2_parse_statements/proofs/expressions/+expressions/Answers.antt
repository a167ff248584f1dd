use Rattle.std.proofs.Common.{◌++◌, [], ◌∷◌, length, map, codes, None, refl, sym, ap, ◌∙◌, subst, arith}
use Rattle.std.proofs.lemmas.List.{append-nil}
use Rattle.std.specs.Option.{option_map}
use Rattle.ds2_tree.specs.Parsers.{Read, first, and_then, pure, to, seq, many_of, optional}
use Rattle.ds2_tree.specs.Promise.{Gives}
use Rattle.ds2_tree.specs.declared.expressions.Argument as code_argument
use Rattle.ds2_tree.specs.declared.expressions.ChainKind.TheVariants.{Concatenation}
use Rattle.ds2_tree.specs.Expressions.{Parenthesis, is_operator}
use Rattle.ds2_tree.specs.ExpressionViews.{expression_tree, arguments_of}
use Rattle.ds2_parse_rules.specs.GrammarTokens.{mark_rule, is_open_mark, is_comma_mark}
use Rattle.ds2_parse_rules.specs.ExpressionGrammar.{named_of, name_tail, primary, operators, comparison_of, expression, argument_list}
use Rattle.ds2_parse_statements.specs.ExpressionParts.{compared_rule, unary_rule, negation_rule, operand_rule, link_rule, parenthesis_rule, operand_pair, argument_parts, and_further}
use Rattle.ds2_parse_rules.proofs.RuleSteps.{exit, loop_step, loop_fails, loop_ends, none_yet}
use Rattle.ds2_parse_rules.proofs.FrontSteps.{fronted_when, comma_is}
use Rattle.ds2_parse_statements.proofs.TreeSteps.{operands_grown, further_grown, further_all}
use Rattle.ds2_parse_statements.proofs.ExpressionSteps.{expression_at, expression_stops, chain_further_stops, chain_alone, link_stops, link_read, compared_is, right_stops, right_read, not_compared, unsigned, sign_deep, sign_stops, sign_read, affirmed, not_deep, not_stops, not_read, null_stops, null_read, name_read, paren_read, call_stops, call_read, word_stops, member_stops, member_read, there_stops, inner_stops, closing_stops, closed_read, inner_arguments, list_stops, list_read, value_list, first_stops, first_read, further_stops, further_read}
use Rattle.ds2_parse_statements.proofs.expressions.+expressions.Goals as goal

pub argument_list-returns-in_err-arguments-clause-exact : goal.argument_list-returns-in_err-arguments-clause-exact
argument_list-returns-in_err-arguments-clause-exact t c m lt =
    let end = c.args.end in let n = c.args.levels in let ts = c.args.tokens.now in
    let e = c.in_err-arguments.field-0.0 in
    exit end (λ x. (argument_parts x.0, x.1.now)) c.from_residual-in_err-arguments.result e (argument_list m n ts) c.from_residual-in_err-arguments.ensures.1
    (list_stops m n ts end e (inner_stops (λ x. x) (argument_list m) (inner_arguments m) (λ k. refl) n ts c.in_ok-opening.opening c.in_ok-opening.rest.now c.in_ok-opening.ensures.exact c.in_ok-inner.inner c.in_ok-inner.ensures.ok end e (c.in_err-arguments.ensures.exact m (omega (arith, lt, c.in_ok-opening.ensures.shorter)))))

pub argument_list-returns-in_err-closing-clause-exact : goal.argument_list-returns-in_err-closing-clause-exact
argument_list-returns-in_err-closing-clause-exact t c m lt =
    let end = c.args.end in let n = c.args.levels in let ts = c.args.tokens.now in
    let e = c.in_err-closing.field-0.0 in
    exit end (λ x. (argument_parts x.0, x.1.now)) c.from_residual-in_err-closing.result e (argument_list m n ts) c.from_residual-in_err-closing.ensures.1
    (list_stops m n ts end e (closing_stops (λ x. x) (argument_list m) (inner_arguments m) (λ k. refl) n ts c.in_ok-opening.opening c.in_ok-opening.rest.now c.in_ok-opening.ensures.exact c.in_ok-inner.inner c.in_ok-inner.ensures.ok (arguments_of c.in_ok-arguments.arguments) c.in_ok-arguments.rest.now (c.in_ok-arguments.ensures.exact m (omega (arith, lt, c.in_ok-opening.ensures.shorter))) end e c.in_err-closing.ensures.exact))

pub argument_list-returns-clause-exact : goal.argument_list-returns-clause-exact
argument_list-returns-clause-exact t c m lt =
    let end = c.args.end in let n = c.args.levels in let ts = c.args.tokens.now in
    list_read m n ts (c.in_ok-opening.opening, (arguments_of c.in_ok-arguments.arguments, c.in_ok-closing.closing)) c.in_ok-closing.rest.now
    (closed_read (λ x. x) (argument_list m) (inner_arguments m) (λ k. refl) n ts c.in_ok-opening.opening c.in_ok-opening.rest.now c.in_ok-opening.ensures.exact c.in_ok-inner.inner c.in_ok-inner.ensures.ok (arguments_of c.in_ok-arguments.arguments) c.in_ok-arguments.rest.now (c.in_ok-arguments.ensures.exact m (omega (arith, lt, c.in_ok-opening.ensures.shorter))) c.in_ok-closing.closing c.in_ok-closing.rest.now c.in_ok-closing.ensures.exact)

pub parenthesis-returns-in_err-value-clause-exact : goal.parenthesis-returns-in_err-value-clause-exact
parenthesis-returns-in_err-value-clause-exact t c m lt =
    let end = c.args.end in let n = c.args.levels in let ts = c.args.tokens.now in
    let e = c.in_err-value.field-0.0 in
    exit end (λ x. (expression_tree x.0, x.1.now)) c.from_residual-in_err-value.result e (to (λ x. Parenthesis x.0 x.1.0 x.1.1) (parenthesis_rule m n) ts) c.from_residual-in_err-value.ensures.1
    (inner_stops (λ x. Parenthesis x.0 x.1.0 x.1.1) (parenthesis_rule m) (expression m) (λ k. refl) n ts c.in_ok-opening.opening c.in_ok-opening.rest.now c.in_ok-opening.ensures.exact c.in_ok-inner.inner c.in_ok-inner.ensures.ok end e (expression_stops m c.in_ok-inner.inner c.in_ok-opening.rest.now end e (c.in_err-value.ensures.exact m (omega (arith, lt, c.in_ok-opening.ensures.shorter)))))

pub parenthesis-returns-in_err-closing-clause-exact : goal.parenthesis-returns-in_err-closing-clause-exact
parenthesis-returns-in_err-closing-clause-exact t c m lt =
    let end = c.args.end in let n = c.args.levels in let ts = c.args.tokens.now in
    let e = c.in_err-closing.field-0.0 in
    exit end (λ x. (expression_tree x.0, x.1.now)) c.from_residual-in_err-closing.result e (to (λ x. Parenthesis x.0 x.1.0 x.1.1) (parenthesis_rule m n) ts) c.from_residual-in_err-closing.ensures.1
    (closing_stops (λ x. Parenthesis x.0 x.1.0 x.1.1) (parenthesis_rule m) (expression m) (λ k. refl) n ts c.in_ok-opening.opening c.in_ok-opening.rest.now c.in_ok-opening.ensures.exact c.in_ok-inner.inner c.in_ok-inner.ensures.ok (expression_tree c.in_ok-value.value) c.in_ok-value.rest.now (expression_at m c.in_ok-inner.inner c.in_ok-opening.rest.now ∙ c.in_ok-value.ensures.exact m (omega (arith, lt, c.in_ok-opening.ensures.shorter))) end e c.in_err-closing.ensures.exact)

pub parenthesis-returns-clause-exact : goal.parenthesis-returns-clause-exact
parenthesis-returns-clause-exact t c m lt =
    let end = c.args.end in let n = c.args.levels in let ts = c.args.tokens.now in
    closed_read (λ x. Parenthesis x.0 x.1.0 x.1.1) (parenthesis_rule m) (expression m) (λ k. refl) n ts c.in_ok-opening.opening c.in_ok-opening.rest.now c.in_ok-opening.ensures.exact c.in_ok-inner.inner c.in_ok-inner.ensures.ok (expression_tree c.in_ok-value.value) c.in_ok-value.rest.now (expression_at m c.in_ok-inner.inner c.in_ok-opening.rest.now ∙ c.in_ok-value.ensures.exact m (omega (arith, lt, c.in_ok-opening.ensures.shorter))) c.in_ok-closing.closing c.in_ok-closing.rest.now c.in_ok-closing.ensures.exact
    ∙ ap (λ e. Read e c.in_ok-closing.rest.now) (sym c.in_ok-parenthesis.ensures)

pub chain-returns-in_err-further-clause-exact : goal.chain-returns-in_err-further-clause-exact
chain-returns-in_err-further-clause-exact t c m lt =
    let end = c.args.end in let n = c.args.levels in let ts = c.args.tokens.now in
    let p = operand_rule m n c.args.kind in
    let e = c.in_err-further.field-0.0 in
    exit end (λ x. (expression_tree x.0, x.1.now)) c.from_residual-in_err-further.result e (operators m c.args.kind p ts) c.from_residual-in_err-further.ensures.1
    (chain_further_stops m c.args.kind p ts end e (expression_tree c.in_ok-first.first) c.in_ok-first.rest.now (c.in_ok-first.ensures.exact m lt) (c.in_err-further.ensures.exact m (omega (arith, lt, c.in_ok-first.ensures.shorter))))

pub chain-returns-then-not-at_operator-clause-exact : goal.chain-returns-then-not-at_operator-clause-exact
chain-returns-then-not-at_operator-clause-exact t c m lt =
    let n = c.args.levels in let ts = c.args.tokens.now in let r = c.in_ok-first.rest.now in
    chain_alone m c.args.kind (operand_rule m n c.args.kind) ts (expression_tree c.in_ok-first.first) r (c.in_ok-first.ensures.exact m lt)
    (omega (arith, lt, c.in_ok-first.ensures.shorter)) (sym c.at_operator.ensures ∙ c.if-not-at_operator.true)

pub operands-loop-operator-init : goal.operands-loop-operator-init
operands-loop-operator-init t c = record {
  same = λ m lt. (m, lt, none_yet (many_of m (is_operator c.args.kind) (link_rule m c.args.levels c.args.kind) c.args.tokens.now) (map operand_pair c.new-found.result) (ap (map operand_pair) c.new-found.ensures));
  shorter = omega arith;
}

pub operands-returns-in_err-value-clause-exact : goal.operands-returns-in_err-value-clause-exact
operands-returns-in_err-value-clause-exact t c m lt =
    let end = c.args.end in let n = c.args.levels in let ts = c.args.tokens.now in
    let inv = c.loop-operator.invariant.same m lt in let kind = c.args.kind in let p = operand_rule m n kind in let rest = c.loop-operator.rest.now in
    let all = many_of m (is_operator kind) (link_rule m n kind) ts in
    let e = c.in_err-value.field-0.0 in
    exit end (λ x. (map operand_pair x.0, x.1.now)) c.from_residual-in_err-value.result e (all) c.from_residual-in_err-value.ensures.1
    (loop_fails (is_operator kind) (link_rule m n kind) all (λ l. map operand_pair c.loop-operator.found ++ l) rest inv.0 inv.2 inv.1 (fronted_when (is_operator kind) rest c.in-Some.operator.now c.in-Some.after.now c.in-Some.ensures) end e
    (link_stops (is_operator kind) p rest c.in-Some.operator.now c.in-Some.after.now c.in-Some.ensures end e (c.in_err-value.ensures.exact m (omega (arith, lt, c.loop-operator.invariant.shorter, ap length c.in-Some.ensures.0)))))

pub operands-loop-operator-preserved : goal.operands-loop-operator-preserved
operands-loop-operator-preserved t c =
    let end = c.args.end in let n = c.args.levels in let ts = c.args.tokens.now in let short = c.loop-operator.invariant.shorter in
    record {
      same = λ m lt.
          let inv = c.loop-operator.invariant.same m lt in let kind = c.args.kind in let p = operand_rule m n kind in let rest = c.loop-operator.rest.now in
          let all = many_of m (is_operator kind) (link_rule m n kind) ts in
          loop_step (is_operator kind) (link_rule m n kind) all (λ l. map operand_pair c.loop-operator.found ++ l) rest inv.0 inv.2 inv.1 (fronted_when (is_operator kind) rest c.in-Some.operator.now c.in-Some.after.now c.in-Some.ensures)
          (c.in_ok-operator.operator, expression_tree c.in_ok-value.value) c.in_ok-value.after.now
          (link_read (is_operator kind) p rest c.in-Some.operator.now c.in-Some.after.now c.in-Some.ensures c.in_ok-operator.operator c.in_ok-operator.ensures (expression_tree c.in_ok-value.value) c.in_ok-value.after.now
          (c.in_ok-value.ensures.exact m (omega (arith, lt, short, ap length c.in-Some.ensures.0))))
          (omega (arith, c.in_ok-value.ensures.shorter, ap length c.in-Some.ensures.0)) (λ l. map operand_pair c.push_sparing.new.self ++ l)
          (operands_grown c.loop-operator.found c.push_sparing.new.self (record { operator = c.in_ok-operator.operator; value = c.in_ok-value.value }) c.in_ok-push_sparing.ensures.ok);
      shorter = omega (arith, short, c.in_ok-value.ensures.shorter, ap length c.in-Some.ensures.0);
    }

pub operands-returns-clause-exact : goal.operands-returns-clause-exact
operands-returns-clause-exact t c m lt =
    let end = c.args.end in let n = c.args.levels in let ts = c.args.tokens.now in
    let inv = c.loop-operator.invariant.same m lt in let kind = c.args.kind in let p = operand_rule m n kind in let rest = c.loop-operator.rest.now in
    let all = many_of m (is_operator kind) (link_rule m n kind) ts in
    loop_ends (is_operator kind) (link_rule m n kind) all (λ l. map operand_pair c.loop-operator.found ++ l) rest inv.0 inv.2 inv.1 c.in_default.ensures ∙ ap (λ l. Read l rest) (append-nil (map operand_pair c.loop-operator.found))

pub comparison-returns-clause-exact : goal.comparison-returns-clause-exact
comparison-returns-clause-exact t c m lt =
    let n = c.args.levels in let ts = c.args.tokens.now in
    let p = operators m Concatenation (operand_rule m n Concatenation) in
    subst (Gives c.args.end (λ x. (expression_tree x.0, x.1.now)) c.compared.result)
    (sym (compared_is p ts (expression_tree c.in_ok-left.left) c.in_ok-left.rest.now (c.in_ok-left.ensures.exact m lt)))
    (c.compared.ensures.exact m (omega (arith, lt, c.in_ok-left.ensures.shorter)))

pub compared-returns-in_err-right-in-Some-clause-exact : goal.compared-returns-in_err-right-in-Some-clause-exact
compared-returns-in_err-right-in-Some-clause-exact t c m lt =
    let end = c.args.end in let n = c.args.levels in let ts = c.args.tokens.now in
    let p = operators m Concatenation (operand_rule m n Concatenation) in
    let e = c.in_err-right-in-Some.field-0.0 in
    exit end (λ x. (expression_tree x.0, x.1.now)) c.from_residual-in_err-right-in-Some.result e (to (λ o. comparison_of (expression_tree c.args.left) o) (compared_rule m n) ts) c.from_residual-in_err-right-in-Some.ensures.1
    (right_stops p ts (λ o. comparison_of (expression_tree c.args.left) o) c.in-Some.operator.now c.in-Some.rest.now c.in-Some.ensures end e (c.in_err-right-in-Some.ensures.exact m (omega (arith, lt, ap length c.in-Some.ensures.0))))

pub compared-returns-in_ok-comparison-in-Some-clause-exact : goal.compared-returns-in_ok-comparison-in-Some-clause-exact
compared-returns-in_ok-comparison-in-Some-clause-exact t c m lt =
    let n = c.args.levels in let ts = c.args.tokens.now in
    let p = operators m Concatenation (operand_rule m n Concatenation) in
    right_read p ts (λ o. comparison_of (expression_tree c.args.left) o) c.in-Some.operator.now c.in-Some.rest.now c.in-Some.ensures c.in_ok-operator-in-Some.operator c.in_ok-operator-in-Some.ensures (expression_tree c.in_ok-right-in-Some.right) c.in_ok-right-in-Some.rest.now (c.in_ok-right-in-Some.ensures.exact m (omega (arith, lt, ap length c.in-Some.ensures.0)))
    ∙ ap (λ e. Read e c.in_ok-right-in-Some.rest.now) (sym c.in_ok-comparison-in-Some.ensures)

pub compared-returns-in-None-clause-exact : goal.compared-returns-in-None-clause-exact
compared-returns-in-None-clause-exact t c m lt =
    not_compared (operators m Concatenation (operand_rule m c.args.levels Concatenation)) c.args.tokens.now (λ o. comparison_of (expression_tree c.args.left) o) c.in-None.ensures

pub negation-returns-in_err-inner-in-Some-clause-exact : goal.negation-returns-in_err-inner-in-Some-clause-exact
negation-returns-in_err-inner-in-Some-clause-exact t c m lt =
    let end = c.args.end in let n = c.args.levels in let ts = c.args.tokens.now in
    let e = c.in_err-inner-in-Some.field-0.0 in
    exit end (λ x. (expression_tree x.0, x.1.now)) c.from_residual.result e (negation_rule m n ts) c.from_residual.ensures.1
    (not_deep m n ts c.in-Some.operator.now c.in-Some.rest.now c.in-Some.ensures end e c.in_err-inner-in-Some.ensures.err.0 c.in_err-inner-in-Some.ensures.err.1)

pub negation-returns-in_err-operand-in-Some-clause-exact : goal.negation-returns-in_err-operand-in-Some-clause-exact
negation-returns-in_err-operand-in-Some-clause-exact t c m lt =
    let end = c.args.end in let n = c.args.levels in let ts = c.args.tokens.now in
    let e = c.in_err-operand-in-Some.field-0.0 in
    exit end (λ x. (expression_tree x.0, x.1.now)) c.from_residual-in_err-operand-in-Some.result e (negation_rule m n ts) c.from_residual-in_err-operand-in-Some.ensures.1
    (not_stops m n ts c.in-Some.operator.now c.in-Some.rest.now c.in-Some.ensures c.in_ok-inner-in-Some.inner c.in_ok-inner-in-Some.ensures.ok end e (c.in_err-operand-in-Some.ensures.exact m (omega (arith, lt, ap length c.in-Some.ensures.0))))

pub negation-returns-in_ok-negated-in-Some-clause-exact : goal.negation-returns-in_ok-negated-in-Some-clause-exact
negation-returns-in_ok-negated-in-Some-clause-exact t c m lt =
    let end = c.args.end in let n = c.args.levels in let ts = c.args.tokens.now in
    not_read m n ts c.in-Some.operator.now c.in-Some.rest.now c.in-Some.ensures c.in_ok-inner-in-Some.inner c.in_ok-inner-in-Some.ensures.ok c.in_ok-operator-in-Some.operator c.in_ok-operator-in-Some.ensures (expression_tree c.in_ok-operand-in-Some.operand) c.in_ok-operand-in-Some.rest.now (c.in_ok-operand-in-Some.ensures.exact m (omega (arith, lt, ap length c.in-Some.ensures.0)))
    ∙ ap (λ e. Read e c.in_ok-operand-in-Some.rest.now) (sym c.in_ok-negated-in-Some.ensures)

pub negation-returns-in-None-clause-exact : goal.negation-returns-in-None-clause-exact
negation-returns-in-None-clause-exact t c m lt =
    let end = c.args.end in let n = c.args.levels in let ts = c.args.tokens.now in
    subst (Gives end (λ x. (expression_tree x.0, x.1.now)) c.comparison.result) (sym (affirmed m n ts c.in-None.ensures)) (c.comparison.ensures.exact m lt)

pub unary-returns-in_err-inner-in-Some-clause-exact : goal.unary-returns-in_err-inner-in-Some-clause-exact
unary-returns-in_err-inner-in-Some-clause-exact t c m lt =
    let end = c.args.end in let n = c.args.levels in let ts = c.args.tokens.now in
    let e = c.in_err-inner-in-Some.field-0.0 in
    exit end (λ x. (expression_tree x.0, x.1.now)) c.from_residual.result e (unary_rule m n ts) c.from_residual.ensures.1
    (sign_deep m n ts c.in-Some.operator.now c.in-Some.rest.now c.in-Some.ensures end e c.in_err-inner-in-Some.ensures.err.0 c.in_err-inner-in-Some.ensures.err.1)

pub unary-returns-in_err-operand-in-Some-clause-exact : goal.unary-returns-in_err-operand-in-Some-clause-exact
unary-returns-in_err-operand-in-Some-clause-exact t c m lt =
    let end = c.args.end in let n = c.args.levels in let ts = c.args.tokens.now in
    let e = c.in_err-operand-in-Some.field-0.0 in
    exit end (λ x. (expression_tree x.0, x.1.now)) c.from_residual-in_err-operand-in-Some.result e (unary_rule m n ts) c.from_residual-in_err-operand-in-Some.ensures.1
    (sign_stops m n ts c.in-Some.operator.now c.in-Some.rest.now c.in-Some.ensures c.in_ok-inner-in-Some.inner c.in_ok-inner-in-Some.ensures.ok end e (c.in_err-operand-in-Some.ensures.exact m (omega (arith, lt, ap length c.in-Some.ensures.0))))

pub unary-returns-in_ok-signed-in-Some-clause-exact : goal.unary-returns-in_ok-signed-in-Some-clause-exact
unary-returns-in_ok-signed-in-Some-clause-exact t c m lt =
    let end = c.args.end in let n = c.args.levels in let ts = c.args.tokens.now in
    sign_read m n ts c.in-Some.operator.now c.in-Some.rest.now c.in-Some.ensures c.in_ok-inner-in-Some.inner c.in_ok-inner-in-Some.ensures.ok c.in_ok-operator-in-Some.operator c.in_ok-operator-in-Some.ensures (expression_tree c.in_ok-operand-in-Some.operand) c.in_ok-operand-in-Some.rest.now (c.in_ok-operand-in-Some.ensures.exact m (omega (arith, lt, ap length c.in-Some.ensures.0)))
    ∙ ap (λ e. Read e c.in_ok-operand-in-Some.rest.now) (sym c.in_ok-signed-in-Some.ensures)

pub unary-returns-in-None-clause-exact : goal.unary-returns-in-None-clause-exact
unary-returns-in-None-clause-exact t c m lt =
    let end = c.args.end in let n = c.args.levels in let ts = c.args.tokens.now in
    subst (Gives end (λ x. (expression_tree x.0, x.1.now)) c.primary.result) (sym (unsigned m n ts c.in-None.ensures)) (c.primary.ensures.exact m lt)

pub primary-returns-in_err-arguments-clause-exact : goal.primary-returns-in_err-arguments-clause-exact
primary-returns-in_err-arguments-clause-exact t c m lt =
    let end = c.args.end in let n = c.args.levels in let ts = c.args.tokens.now in
    let args = argument_list m n in let paren = parenthesis_rule m n in
    let e = c.in_err-arguments.field-0.0 in
    exit end (λ x. (expression_tree x.0, x.1.now)) c.from_residual-in_err-arguments.result e (primary args paren ts) c.from_residual-in_err-arguments.ensures.1
    (null_stops args paren ts c.in_default.ensures c.in-Some-null_at.keyword.now c.in-Some-null_at.rest.now c.in-Some-null_at.ensures end e (c.in_err-arguments.ensures.exact m (omega (arith, lt, ap length c.in-Some-null_at.ensures.0))))

pub primary-returns-in_ok-null-clause-exact : goal.primary-returns-in_ok-null-clause-exact
primary-returns-in_ok-null-clause-exact t c m lt =
    let end = c.args.end in let n = c.args.levels in let ts = c.args.tokens.now in
    let args = argument_list m n in let paren = parenthesis_rule m n in
    null_read args paren ts c.in_default.ensures c.in-Some-null_at.keyword.now c.in-Some-null_at.rest.now c.in-Some-null_at.ensures c.in_ok-keyword.keyword c.in_ok-keyword.ensures (option_map argument_parts c.in_ok-arguments.arguments) c.in_ok-arguments.rest.now (c.in_ok-arguments.ensures.exact m (omega (arith, lt, ap length c.in-Some-null_at.ensures.0)))
    ∙ ap (λ e. Read e c.in_ok-arguments.rest.now) (sym c.in_ok-null.ensures)

pub primary-returns-in_ok-copy-in-Some-name_at-clause-exact : goal.primary-returns-in_ok-copy-in-Some-name_at-clause-exact
primary-returns-in_ok-copy-in-Some-name_at-clause-exact t c m lt =
    let end = c.args.end in let n = c.args.levels in let ts = c.args.tokens.now in
    let args = argument_list m n in let paren = parenthesis_rule m n in
    subst (Gives end (λ x. (expression_tree x.0, x.1.now)) c.named.result) (sym (name_read args paren ts c.in_default.ensures c.in_default-null_at.ensures c.in-Some-name_at.name.now c.in-Some-name_at.rest.now c.in-Some-name_at.ensures c.in_ok-copy-in-Some-name_at.field-0 c.in_ok-copy-in-Some-name_at.ensures))
    (c.named.ensures.exact m (omega (arith, lt, ap length c.in-Some-name_at.ensures.0)))

pub primary-returns-in-None-clause-exact : goal.primary-returns-in-None-clause-exact
primary-returns-in-None-clause-exact t c m lt =
    let end = c.args.end in let n = c.args.levels in let ts = c.args.tokens.now in
    let args = argument_list m n in let paren = parenthesis_rule m n in
    subst (Gives end (λ x. (expression_tree x.0, x.1.now)) c.parenthesis.result) (sym (paren_read args paren ts c.in_default.ensures c.in_default-null_at.ensures c.in-None.ensures)) (c.parenthesis.ensures.exact m lt)

pub named-returns-in_err-arguments-clause-exact : goal.named-returns-in_err-arguments-clause-exact
named-returns-in_err-arguments-clause-exact t c m lt =
    let end = c.args.end in let n = c.args.levels in let ts = c.args.tokens.now in
    let args = argument_list m n in let name = c.args.name in
    let e = c.in_err-arguments.field-0.0 in
    exit end (λ x. (expression_tree x.0, x.1.now)) c.from_residual.result e (to (named_of name) (name_tail args) ts) c.from_residual.ensures.1
    (call_stops name args ts (sym c.at_mark.ensures ∙ c.if-at_mark.true) end e (c.in_err-arguments.ensures.exact m lt))

pub named-returns-in_ok-call-clause-exact : goal.named-returns-in_ok-call-clause-exact
named-returns-in_ok-call-clause-exact t c m lt =
    let end = c.args.end in let n = c.args.levels in let ts = c.args.tokens.now in
    let args = argument_list m n in let name = c.args.name in
    call_read name args ts (sym c.at_mark.ensures ∙ c.if-at_mark.true) (argument_parts c.in_ok-arguments.arguments) c.in_ok-arguments.rest.now (c.in_ok-arguments.ensures.exact m lt)
    ∙ ap (λ e. Read e c.in_ok-arguments.rest.now) (sym c.in_ok-call.ensures)

pub named-returns-in_err-word-in-Some-clause-exact : goal.named-returns-in_err-word-in-Some-clause-exact
named-returns-in_err-word-in-Some-clause-exact t c m lt =
    let end = c.args.end in let n = c.args.levels in let ts = c.args.tokens.now in
    let args = argument_list m n in let name = c.args.name in
    let e = c.in_err-word-in-Some.field-0.0 in
    exit end (λ x. (expression_tree x.0, x.1.now)) c.from_residual-in_err-word-in-Some.result e (to (named_of name) (name_tail args) ts) c.from_residual-in_err-word-in-Some.ensures.1
    (word_stops name args ts (sym c.at_mark.ensures ∙ c.if-at_mark.false) c.in-Some.dot c.in-Some.rest.now c.in-Some.ensures.exact end e c.in_err-word-in-Some.ensures.exact)

pub named-returns-in_err-arguments-in-Some-clause-exact : goal.named-returns-in_err-arguments-in-Some-clause-exact
named-returns-in_err-arguments-in-Some-clause-exact t c m lt =
    let end = c.args.end in let n = c.args.levels in let ts = c.args.tokens.now in
    let args = argument_list m n in let name = c.args.name in
    let e = c.in_err-arguments-in-Some.field-0.0 in
    exit end (λ x. (expression_tree x.0, x.1.now)) c.from_residual-in_err-arguments-in-Some.result e (to (named_of name) (name_tail args) ts) c.from_residual-in_err-arguments-in-Some.ensures.1
    (member_stops name args ts (sym c.at_mark.ensures ∙ c.if-at_mark.false) c.in-Some.dot c.in-Some.rest.now c.in-Some.ensures.exact c.in_ok-word-in-Some.word c.in_ok-word-in-Some.rest.now c.in_ok-word-in-Some.ensures.exact end e (c.in_err-arguments-in-Some.ensures.exact m (omega (arith, lt, c.in-Some.ensures.shorter, c.in_ok-word-in-Some.ensures.shorter))))

pub named-returns-in_ok-member-in-Some-clause-exact : goal.named-returns-in_ok-member-in-Some-clause-exact
named-returns-in_ok-member-in-Some-clause-exact t c m lt =
    let end = c.args.end in let n = c.args.levels in let ts = c.args.tokens.now in
    let args = argument_list m n in let name = c.args.name in
    member_read name args ts (sym c.at_mark.ensures ∙ c.if-at_mark.false) c.in-Some.dot c.in-Some.rest.now c.in-Some.ensures.exact c.in_ok-word-in-Some.word c.in_ok-word-in-Some.rest.now c.in_ok-word-in-Some.ensures.exact (option_map argument_parts c.in_ok-arguments-in-Some.arguments) c.in_ok-arguments-in-Some.rest.now (c.in_ok-arguments-in-Some.ensures.exact m (omega (arith, lt, c.in-Some.ensures.shorter, c.in_ok-word-in-Some.ensures.shorter)))
    ∙ ap (λ e. Read e c.in_ok-arguments-in-Some.rest.now) (sym c.in_ok-member-in-Some.ensures)

pub optional_arguments-returns-in_err-arguments-clause-exact : goal.optional_arguments-returns-in_err-arguments-clause-exact
optional_arguments-returns-in_err-arguments-clause-exact t c m lt =
    let end = c.args.end in let n = c.args.levels in let ts = c.args.tokens.now in
    let e = c.in_err-arguments.field-0.0 in
    exit end (λ x. (option_map argument_parts x.0, x.1.now)) c.from_residual.result e (optional is_open_mark (argument_list m n) ts) c.from_residual.ensures.1
    (there_stops (argument_list m n) ts (sym c.at_mark.ensures ∙ c.if-at_mark.true) end e (c.in_err-arguments.ensures.exact m lt))

pub values-returns-in_err-value-clause-exact : goal.values-returns-in_err-value-clause-exact
values-returns-in_err-value-clause-exact t c m lt =
    let end = c.args.end in let n = c.args.levels in let ts = c.args.tokens.now in
    let E = expression m n in
    let e = c.in_err-value.field-0.0 in
    exit end (λ x. (arguments_of x.0, x.1.now)) c.from_residual.result e (value_list m E ts) c.from_residual.ensures.1
    (first_stops m E ts end e (expression_stops m n ts end e (c.in_err-value.ensures.exact m lt)))

pub values-returns-clause-exact : goal.values-returns-clause-exact
values-returns-clause-exact t c m lt =
    let end = c.args.end in let n = c.args.levels in let ts = c.args.tokens.now in
    let E = expression m n in let r = c.in_ok-value.rest.now in let item : code_argument.Argument = record { comma = None; value = c.in_ok-value.value } in
    subst (Gives end (λ x. (arguments_of x.0, x.1.now)) c.further_values.result)
    (ap (λ xs. and_then (many_of m is_comma_mark (seq (mark_rule (codes ",")) E) r) (λ l. pure (and_further (arguments_of xs) l))) (c.in_ok-push_sparing.ensures.ok ∙ ap (λ xs. xs ++ item ∷ []) c.new-found.ensures)
    ∙ sym (first_read m E ts (expression_tree c.in_ok-value.value) r (expression_at m n ts ∙ c.in_ok-value.ensures.exact m lt)))
    (c.further_values.ensures.exact m (omega (arith, lt, c.in_ok-value.ensures.shorter)))

pub further_values-returns-in_err-value-clause-exact : goal.further_values-returns-in_err-value-clause-exact
further_values-returns-in_err-value-clause-exact t c m lt =
    let end = c.args.end in let n = c.args.levels in let ts = c.args.tokens.now in
    let inv = c.loop-comma.invariant.same m lt in let E = expression m n in let item = seq (mark_rule (codes ",")) E in let rest = c.loop-comma.rest.now in
    let all = and_then (many_of m is_comma_mark item ts) (λ l. pure (and_further (arguments_of c.args.found) l)) in
    let e = c.in_err-value.field-0.0 in
    exit end (λ x. (arguments_of x.0, x.1.now)) c.from_residual.result e (all) c.from_residual.ensures.1
    (loop_fails is_comma_mark item all (λ l. and_further (arguments_of c.loop-comma.found) l) rest inv.0 inv.2 inv.1 (comma_is (first rest) ∙ c.in-Some.ensures.test) end e (further_stops E rest c.in-Some.comma c.in-Some.after.now c.in-Some.ensures.exact end e (expression_stops m n c.in-Some.after.now end e (c.in_err-value.ensures.exact m (omega (arith, lt, c.loop-comma.invariant.shorter, c.in-Some.ensures.shorter))))))

pub further_values-loop-comma-preserved : goal.further_values-loop-comma-preserved
further_values-loop-comma-preserved t c =
    let n = c.args.levels in let ts = c.args.tokens.now in let short = c.loop-comma.invariant.shorter in
    record {
      same = λ m lt.
          let inv = c.loop-comma.invariant.same m lt in let E = expression m n in let item = seq (mark_rule (codes ",")) E in let rest = c.loop-comma.rest.now in
          let all = and_then (many_of m is_comma_mark item ts) (λ l. pure (and_further (arguments_of c.args.found) l)) in
          loop_step is_comma_mark item all (λ l. and_further (arguments_of c.loop-comma.found) l) rest inv.0 inv.2 inv.1 (comma_is (first rest) ∙ c.in-Some.ensures.test) (c.in-Some.comma, expression_tree c.in_ok-value.value) c.in_ok-value.after.now
          (further_read E rest c.in-Some.comma c.in-Some.after.now c.in-Some.ensures.exact (expression_tree c.in_ok-value.value) c.in_ok-value.after.now
          (expression_at m n c.in-Some.after.now ∙ c.in_ok-value.ensures.exact m (omega (arith, lt, c.loop-comma.invariant.shorter, c.in-Some.ensures.shorter))))
          (omega (arith, c.in_ok-value.ensures.shorter, c.in-Some.ensures.shorter)) (λ l. and_further (arguments_of c.push.new.self) l)
          (further_grown c.loop-comma.found c.push.new.self c.in-Some.comma c.in_ok-value.value c.in_ok-push.ensures.ok);
      shorter = omega (arith, short, c.in_ok-value.ensures.shorter, c.in-Some.ensures.shorter);
    }

pub further_values-returns-clause-exact : goal.further_values-returns-clause-exact
further_values-returns-clause-exact t c m lt =
    let end = c.args.end in let n = c.args.levels in let ts = c.args.tokens.now in
    let inv = c.loop-comma.invariant.same m lt in let E = expression m n in let item = seq (mark_rule (codes ",")) E in let rest = c.loop-comma.rest.now in
    let all = and_then (many_of m is_comma_mark item ts) (λ l. pure (and_further (arguments_of c.args.found) l)) in
    loop_ends is_comma_mark item all (λ l. and_further (arguments_of c.loop-comma.found) l) rest inv.0 inv.2 inv.1 (comma_is (first rest) ∙ c.in_default.ensures.test) ∙ ap (λ a. Read a rest) (further_all (arguments_of c.loop-comma.found))
