use Rattle.std.proofs.Common.{◌++◌, [], ◌∷◌, length, codes, None, Some, sym, ap, ◌∙◌, subst, arith, map}
use Rattle.std.proofs.lemmas.List.{append-nil}
use Rattle.std.specs.Option.{option_map}
use Rattle.ds2_tree.specs.Parsers.{Read, and_then, pure, to, seq, many_of, optional}
use Rattle.ds2_tree.specs.Promise.{Gives}
use Rattle.ds2_tree.specs.Statements.{Select, When, NoWhen}
use Rattle.ds2_tree.specs.ExpressionViews.{expression_tree, arguments_of}
use Rattle.ds2_tree.specs.StatementViews.{statement_tree, if_else, control_tree, whens_of, others_of, otherwise_tree}
use Rattle.ds2_parse_rules.specs.GrammarTokens.{mark_rule, word_rule, starts, is_open_mark, is_comma_mark, enclosed}
use Rattle.ds2_parse_rules.specs.ExpressionGrammar.{expression, argument_list, listed_further}
use Rattle.ds2_parse_rules.specs.StatementGrammar.{begins_statement, control_rule, when_rule, select_rule, do_rule, if_rule, listed_whens, otherwise_of, selector_of, statement_rule}
use Rattle.ds2_parse_rules.proofs.RuleSteps.{exit, loop_step, loop_fails, loop_ends, none_yet}
use Rattle.ds2_parse_statements.proofs.SimpleSteps.{front_stops, second_stops, two_read}
use Rattle.ds2_parse_statements.specs.StatementParts.{within_rule, arm_rule, else_rule, otherwise_rule, selector_parts, last_parts, arm_parts, selection_body_rule, selection_of, ListedBody, listed_body, selection_body_tree, do_of, and_whens}
use Rattle.ds2_parse_statements.proofs.ControlSteps.{optional_stops, optional_read}
use Rattle.ds2_parse_statements.proofs.StraightSteps.{stops_2_of_4, stops_3_of_4, stops_4_of_4, stops_2_of_5, stops_3_of_5, stops_4_of_5, stops_5_of_5, stops_2_of_6, stops_3_of_6, stops_4_of_6, stops_5_of_6, stops_6_of_6, read_4, read_5, read_6}
use Rattle.ds2_parse_statements.proofs.StatementSteps.{starts_is, statement_is, if_begins, if_stops, others_and, whens_grown, whens_all, was_read, stopped_under, with_semicolon, with_name, with_null, with_leave, with_continue, with_later, with_return, with_output, with_put, with_if, with_select, with_do}
use Rattle.ds2_tree.specs.Parsers.{chain}
use Rattle.ds2_tree.specs.Expressions.{Argument}
use Rattle.ds2_parse_statements.specs.StatementParts.{ArmTree}
use Rattle.ds2_parse_rules.specs.StatementGrammar.{WhenTree}
use Rattle.ds2_parse_rules.proofs.RuleSteps.{plain_outcome}
use Rattle.ds2_parse_statements.proofs.StatementSteps.{conditional_stops, conditional_read, mapped_grown}
use Rattle.ds2_tree.specs.Promise.{Fails}
use Rattle.ds2_tree.specs.Parsers.{Parser}
use Rattle.ds2_tree.specs.Statements.{Statement, Otherwise'}
use Rattle.ds2_tree.specs.declared.statements.ElseIf as code_else_if
use Rattle.ds2_token.specs.declared.token.Token.{Token}
use Rattle.ds2_parse_statements.proofs.StatementSteps.{no_else, else_stops, last_stops, last_read, arm_stops, arm_read}
use Rattle.ds2_parse_statements.proofs.StatementPromises.{statement_promise}
use Rattle.ds2_parse_statements.proofs.statements.+statements.Goals as goal

pub arm-returns-in_err-condition-clause-exact : goal.arm-returns-in_err-condition-clause-exact
arm-returns-in_err-condition-clause-exact t c m lt =
    let end = c.args.end in let n = c.args.levels in let ts = c.args.tokens.now in
    let e = c.in_err-condition.field-0.0 in
    exit end (λ x. (arm_parts x.0, x.1.now)) c.from_residual-in_err-condition.result e (arm_rule (expression m n) (within_rule m n) ts) c.from_residual-in_err-condition.ensures.1
    (subst (Fails end e) (plain_outcome (arm_rule (expression m n) (within_rule m n) ts)) (stops_2_of_4 (λ (x : ArmTree). x) (word_rule (codes "if")) (expression m n) (word_rule (codes "then")) (within_rule m n) ts c.in_ok-keyword.keyword c.in_ok-keyword.rest.now c.in_ok-keyword.ensures.exact end e (c.in_err-condition.ensures.exact m (omega (arith, lt, c.in_ok-keyword.ensures.shorter)))))

pub arm-returns-in_err-then_keyword-clause-exact : goal.arm-returns-in_err-then_keyword-clause-exact
arm-returns-in_err-then_keyword-clause-exact t c m lt =
    let end = c.args.end in let n = c.args.levels in let ts = c.args.tokens.now in
    let e = c.in_err-then_keyword.field-0.0 in
    exit end (λ x. (arm_parts x.0, x.1.now)) c.from_residual-in_err-then_keyword.result e (arm_rule (expression m n) (within_rule m n) ts) c.from_residual-in_err-then_keyword.ensures.1
    (subst (Fails end e) (plain_outcome (arm_rule (expression m n) (within_rule m n) ts)) (stops_3_of_4 (λ (x : ArmTree). x) (word_rule (codes "if")) (expression m n) (word_rule (codes "then")) (within_rule m n) ts c.in_ok-keyword.keyword c.in_ok-keyword.rest.now c.in_ok-keyword.ensures.exact (expression_tree c.in_ok-condition.condition) c.in_ok-condition.rest.now (c.in_ok-condition.ensures.exact m (omega (arith, lt, c.in_ok-keyword.ensures.shorter))) end e c.in_err-then_keyword.ensures.exact))

pub arm-returns-in_err-then-clause-exact : goal.arm-returns-in_err-then-clause-exact
arm-returns-in_err-then-clause-exact t c m lt =
    let end = c.args.end in let n = c.args.levels in let ts = c.args.tokens.now in
    let e = c.in_err-then.field-0.0 in
    exit end (λ x. (arm_parts x.0, x.1.now)) c.from_residual-in_err-then.result e (arm_rule (expression m n) (within_rule m n) ts) c.from_residual-in_err-then.ensures.1
    (subst (Fails end e) (plain_outcome (arm_rule (expression m n) (within_rule m n) ts)) (stops_4_of_4 (λ (x : ArmTree). x) (word_rule (codes "if")) (expression m n) (word_rule (codes "then")) (within_rule m n) ts c.in_ok-keyword.keyword c.in_ok-keyword.rest.now c.in_ok-keyword.ensures.exact (expression_tree c.in_ok-condition.condition) c.in_ok-condition.rest.now (c.in_ok-condition.ensures.exact m (omega (arith, lt, c.in_ok-keyword.ensures.shorter))) c.in_ok-then_keyword.then_keyword c.in_ok-then_keyword.rest.now c.in_ok-then_keyword.ensures.exact end e (c.in_err-then.ensures.exact m (omega (arith, lt, c.in_ok-keyword.ensures.shorter, c.in_ok-condition.ensures.shorter, c.in_ok-then_keyword.ensures.shorter)))))

pub arm-returns-clause-exact : goal.arm-returns-clause-exact
arm-returns-clause-exact t c m lt =
    let end = c.args.end in let n = c.args.levels in let ts = c.args.tokens.now in
    sym (plain_outcome (arm_rule (expression m n) (within_rule m n) ts)) ∙ read_4 (λ (x : ArmTree). x) (word_rule (codes "if")) (expression m n) (word_rule (codes "then")) (within_rule m n) ts c.in_ok-keyword.keyword c.in_ok-keyword.rest.now c.in_ok-keyword.ensures.exact (expression_tree c.in_ok-condition.condition) c.in_ok-condition.rest.now (c.in_ok-condition.ensures.exact m (omega (arith, lt, c.in_ok-keyword.ensures.shorter))) c.in_ok-then_keyword.then_keyword c.in_ok-then_keyword.rest.now c.in_ok-then_keyword.ensures.exact (statement_tree c.in_ok-then.then) c.in_ok-then.rest.now (c.in_ok-then.ensures.exact m (omega (arith, lt, c.in_ok-keyword.ensures.shorter, c.in_ok-condition.ensures.shorter, c.in_ok-then_keyword.ensures.shorter)))

pub block_or_loop-returns-in_err-control-clause-exact : goal.block_or_loop-returns-in_err-control-clause-exact
block_or_loop-returns-in_err-control-clause-exact t c m lt =
    let end = c.args.end in let n = c.args.levels in let ts = c.args.tokens.now in
    let e = c.in_err-control.field-0.0 in
    exit end (λ x. (statement_tree x.0, x.1.now)) c.from_residual-in_err-control.result e (to do_of (do_rule m (expression m n) (within_rule m n)) ts) c.from_residual-in_err-control.ensures.1
    (stops_2_of_6 do_of (word_rule (codes "do")) (control_rule (expression m n)) (mark_rule (codes ";")) (many_of m begins_statement (within_rule m n)) (word_rule (codes "end")) (mark_rule (codes ";")) ts c.in_ok-keyword.keyword c.in_ok-keyword.rest.now c.in_ok-keyword.ensures.exact end e (c.in_err-control.ensures.exact m (omega (arith, lt, c.in_ok-keyword.ensures.shorter))))

pub block_or_loop-returns-in_err-semicolon-clause-exact : goal.block_or_loop-returns-in_err-semicolon-clause-exact
block_or_loop-returns-in_err-semicolon-clause-exact t c m lt =
    let end = c.args.end in let n = c.args.levels in let ts = c.args.tokens.now in
    let e = c.in_err-semicolon.field-0.0 in
    exit end (λ x. (statement_tree x.0, x.1.now)) c.from_residual-in_err-semicolon.result e (to do_of (do_rule m (expression m n) (within_rule m n)) ts) c.from_residual-in_err-semicolon.ensures.1
    (stops_3_of_6 do_of (word_rule (codes "do")) (control_rule (expression m n)) (mark_rule (codes ";")) (many_of m begins_statement (within_rule m n)) (word_rule (codes "end")) (mark_rule (codes ";")) ts c.in_ok-keyword.keyword c.in_ok-keyword.rest.now c.in_ok-keyword.ensures.exact (control_tree c.in_ok-control.control) c.in_ok-control.rest.now (c.in_ok-control.ensures.exact m (omega (arith, lt, c.in_ok-keyword.ensures.shorter))) end e c.in_err-semicolon.ensures.exact)

pub block_or_loop-returns-in_err-body-clause-exact : goal.block_or_loop-returns-in_err-body-clause-exact
block_or_loop-returns-in_err-body-clause-exact t c m lt =
    let end = c.args.end in let n = c.args.levels in let ts = c.args.tokens.now in
    let e = c.in_err-body.field-0.0 in
    exit end (λ x. (statement_tree x.0, x.1.now)) c.from_residual-in_err-body.result e (to do_of (do_rule m (expression m n) (within_rule m n)) ts) c.from_residual-in_err-body.ensures.1
    (stops_4_of_6 do_of (word_rule (codes "do")) (control_rule (expression m n)) (mark_rule (codes ";")) (many_of m begins_statement (within_rule m n)) (word_rule (codes "end")) (mark_rule (codes ";")) ts c.in_ok-keyword.keyword c.in_ok-keyword.rest.now c.in_ok-keyword.ensures.exact (control_tree c.in_ok-control.control) c.in_ok-control.rest.now (c.in_ok-control.ensures.exact m (omega (arith, lt, c.in_ok-keyword.ensures.shorter))) c.in_ok-semicolon.semicolon c.in_ok-semicolon.rest.now c.in_ok-semicolon.ensures.exact end e (c.in_err-body.ensures.exact m (omega (arith, lt, c.in_ok-keyword.ensures.shorter, c.in_ok-control.ensures.shorter, c.in_ok-semicolon.ensures.shorter))))

pub block_or_loop-returns-in_err-end_keyword-clause-exact : goal.block_or_loop-returns-in_err-end_keyword-clause-exact
block_or_loop-returns-in_err-end_keyword-clause-exact t c m lt =
    let end = c.args.end in let n = c.args.levels in let ts = c.args.tokens.now in
    let e = c.in_err-end_keyword.field-0.0 in
    exit end (λ x. (statement_tree x.0, x.1.now)) c.from_residual-in_err-end_keyword.result e (to do_of (do_rule m (expression m n) (within_rule m n)) ts) c.from_residual-in_err-end_keyword.ensures.1
    (stops_5_of_6 do_of (word_rule (codes "do")) (control_rule (expression m n)) (mark_rule (codes ";")) (many_of m begins_statement (within_rule m n)) (word_rule (codes "end")) (mark_rule (codes ";")) ts c.in_ok-keyword.keyword c.in_ok-keyword.rest.now c.in_ok-keyword.ensures.exact (control_tree c.in_ok-control.control) c.in_ok-control.rest.now (c.in_ok-control.ensures.exact m (omega (arith, lt, c.in_ok-keyword.ensures.shorter))) c.in_ok-semicolon.semicolon c.in_ok-semicolon.rest.now c.in_ok-semicolon.ensures.exact (map statement_tree c.in_ok-body.body) c.in_ok-body.rest.now (c.in_ok-body.ensures.exact m (omega (arith, lt, c.in_ok-keyword.ensures.shorter, c.in_ok-control.ensures.shorter, c.in_ok-semicolon.ensures.shorter))) end e c.in_err-end_keyword.ensures.exact)

pub block_or_loop-returns-in_err-last-clause-exact : goal.block_or_loop-returns-in_err-last-clause-exact
block_or_loop-returns-in_err-last-clause-exact t c m lt =
    let end = c.args.end in let n = c.args.levels in let ts = c.args.tokens.now in
    let e = c.in_err-last.field-0.0 in
    exit end (λ x. (statement_tree x.0, x.1.now)) c.from_residual-in_err-last.result e (to do_of (do_rule m (expression m n) (within_rule m n)) ts) c.from_residual-in_err-last.ensures.1
    (stops_6_of_6 do_of (word_rule (codes "do")) (control_rule (expression m n)) (mark_rule (codes ";")) (many_of m begins_statement (within_rule m n)) (word_rule (codes "end")) (mark_rule (codes ";")) ts c.in_ok-keyword.keyword c.in_ok-keyword.rest.now c.in_ok-keyword.ensures.exact (control_tree c.in_ok-control.control) c.in_ok-control.rest.now (c.in_ok-control.ensures.exact m (omega (arith, lt, c.in_ok-keyword.ensures.shorter))) c.in_ok-semicolon.semicolon c.in_ok-semicolon.rest.now c.in_ok-semicolon.ensures.exact (map statement_tree c.in_ok-body.body) c.in_ok-body.rest.now (c.in_ok-body.ensures.exact m (omega (arith, lt, c.in_ok-keyword.ensures.shorter, c.in_ok-control.ensures.shorter, c.in_ok-semicolon.ensures.shorter))) c.in_ok-end_keyword.end_keyword c.in_ok-end_keyword.rest.now c.in_ok-end_keyword.ensures.exact end e c.in_err-last.ensures.exact)

pub block_or_loop-returns-clause-exact : goal.block_or_loop-returns-clause-exact
block_or_loop-returns-clause-exact t c m lt =
    let end = c.args.end in let n = c.args.levels in let ts = c.args.tokens.now in
    read_6 do_of (word_rule (codes "do")) (control_rule (expression m n)) (mark_rule (codes ";")) (many_of m begins_statement (within_rule m n)) (word_rule (codes "end")) (mark_rule (codes ";")) ts c.in_ok-keyword.keyword c.in_ok-keyword.rest.now c.in_ok-keyword.ensures.exact (control_tree c.in_ok-control.control) c.in_ok-control.rest.now (c.in_ok-control.ensures.exact m (omega (arith, lt, c.in_ok-keyword.ensures.shorter))) c.in_ok-semicolon.semicolon c.in_ok-semicolon.rest.now c.in_ok-semicolon.ensures.exact (map statement_tree c.in_ok-body.body) c.in_ok-body.rest.now (c.in_ok-body.ensures.exact m (omega (arith, lt, c.in_ok-keyword.ensures.shorter, c.in_ok-control.ensures.shorter, c.in_ok-semicolon.ensures.shorter))) c.in_ok-end_keyword.end_keyword c.in_ok-end_keyword.rest.now c.in_ok-end_keyword.ensures.exact c.in_ok-last.last c.in_ok-last.rest.now c.in_ok-last.ensures.exact
    ∙ ap (λ s. Read s c.in_ok-last.rest.now) (sym c.block_or_loop.ensures)

pub selection-returns-in_err-selector-clause-exact : goal.selection-returns-in_err-selector-clause-exact
selection-returns-in_err-selector-clause-exact t c m lt =
    let end = c.args.end in let n = c.args.levels in let ts = c.args.tokens.now in
    let e = c.in_err-selector.field-0.0 in
    exit end (λ x. (statement_tree x.0, x.1.now)) c.from_residual-in_err-selector.result e (to selection_of (select_rule m (expression m n) (within_rule m n)) ts) c.from_residual-in_err-selector.ensures.1
    (stops_2_of_4 selection_of (word_rule (codes "select")) (optional is_open_mark (enclosed (expression m n))) (mark_rule (codes ";")) (selection_body_rule m (expression m n) (within_rule m n)) ts c.in_ok-keyword.keyword c.in_ok-keyword.rest.now c.in_ok-keyword.ensures.exact end e (c.in_err-selector.ensures.exact m (omega (arith, lt, c.in_ok-keyword.ensures.shorter))))

pub selection-returns-in_err-semicolon-clause-exact : goal.selection-returns-in_err-semicolon-clause-exact
selection-returns-in_err-semicolon-clause-exact t c m lt =
    let end = c.args.end in let n = c.args.levels in let ts = c.args.tokens.now in
    let e = c.in_err-semicolon.field-0.0 in
    exit end (λ x. (statement_tree x.0, x.1.now)) c.from_residual-in_err-semicolon.result e (to selection_of (select_rule m (expression m n) (within_rule m n)) ts) c.from_residual-in_err-semicolon.ensures.1
    (stops_3_of_4 selection_of (word_rule (codes "select")) (optional is_open_mark (enclosed (expression m n))) (mark_rule (codes ";")) (selection_body_rule m (expression m n) (within_rule m n)) ts c.in_ok-keyword.keyword c.in_ok-keyword.rest.now c.in_ok-keyword.ensures.exact (option_map selector_parts c.in_ok-selector.selector) c.in_ok-selector.rest.now (c.in_ok-selector.ensures.exact m (omega (arith, lt, c.in_ok-keyword.ensures.shorter))) end e c.in_err-semicolon.ensures.exact)

pub selection-returns-in_err-body-clause-exact : goal.selection-returns-in_err-body-clause-exact
selection-returns-in_err-body-clause-exact t c m lt =
    let end = c.args.end in let n = c.args.levels in let ts = c.args.tokens.now in
    let e = c.in_err-body.field-0.0 in
    exit end (λ x. (statement_tree x.0, x.1.now)) c.from_residual-in_err-body.result e (to selection_of (select_rule m (expression m n) (within_rule m n)) ts) c.from_residual-in_err-body.ensures.1
    (stops_4_of_4 selection_of (word_rule (codes "select")) (optional is_open_mark (enclosed (expression m n))) (mark_rule (codes ";")) (selection_body_rule m (expression m n) (within_rule m n)) ts c.in_ok-keyword.keyword c.in_ok-keyword.rest.now c.in_ok-keyword.ensures.exact (option_map selector_parts c.in_ok-selector.selector) c.in_ok-selector.rest.now (c.in_ok-selector.ensures.exact m (omega (arith, lt, c.in_ok-keyword.ensures.shorter))) c.in_ok-semicolon.semicolon c.in_ok-semicolon.rest.now c.in_ok-semicolon.ensures.exact end e (stopped_under listed_body (selection_body_rule m (expression m n) (within_rule m n)) c.in_ok-semicolon.rest.now end e (c.in_err-body.ensures.exact m (omega (arith, lt, c.in_ok-keyword.ensures.shorter, c.in_ok-selector.ensures.shorter, c.in_ok-semicolon.ensures.shorter)))))

pub selection-returns-clause-exact : goal.selection-returns-clause-exact
selection-returns-clause-exact t c m lt =
    let n = c.args.levels in let ts = c.args.tokens.now in
    let b = was_read listed_body (selection_body_rule m (expression m n) (within_rule m n)) c.in_ok-semicolon.rest.now (selection_body_tree c.in_ok-body.body) c.in_ok-body.rest.now (c.in_ok-body.ensures.exact m (omega (arith, lt, c.in_ok-keyword.ensures.shorter, c.in_ok-selector.ensures.shorter, c.in_ok-semicolon.ensures.shorter))) in
    read_4 selection_of (word_rule (codes "select")) (optional is_open_mark (enclosed (expression m n))) (mark_rule (codes ";")) (selection_body_rule m (expression m n) (within_rule m n)) ts c.in_ok-keyword.keyword c.in_ok-keyword.rest.now c.in_ok-keyword.ensures.exact (option_map selector_parts c.in_ok-selector.selector) c.in_ok-selector.rest.now (c.in_ok-selector.ensures.exact m (omega (arith, lt, c.in_ok-keyword.ensures.shorter))) c.in_ok-semicolon.semicolon c.in_ok-semicolon.rest.now c.in_ok-semicolon.ensures.exact b.0 c.in_ok-body.rest.now b.1
    ∙ ap (λ (l : ListedBody). Read (Select c.in_ok-keyword.keyword (selector_of (option_map selector_parts c.in_ok-selector.selector)) c.in_ok-semicolon.semicolon l.0 (otherwise_of l.1.0) l.1.1.0 l.1.1.1) c.in_ok-body.rest.now) b.2
    ∙ ap (λ s. Read s c.in_ok-body.rest.now) (sym c.selection.ensures)

pub selection_body-returns-in_err-whens-clause-exact : goal.selection_body-returns-in_err-whens-clause-exact
selection_body-returns-in_err-whens-clause-exact t c m lt =
    let end = c.args.end in let n = c.args.levels in let ts = c.args.tokens.now in
    let e = c.in_err-whens.field-0.0 in
    exit end (λ x. (selection_body_tree x.0, x.1.now)) c.from_residual.result e (to listed_body (selection_body_rule m (expression m n) (within_rule m n)) ts) c.from_residual.ensures.1
    (front_stops listed_body (many_of m (starts (codes "when")) (when_rule m (expression m n) (within_rule m n))) (seq (otherwise_rule (within_rule m n)) (seq (word_rule (codes "end")) (mark_rule (codes ";")))) ts end e (stopped_under listed_whens (many_of m (starts (codes "when")) (when_rule m (expression m n) (within_rule m n))) ts end e (c.in_err-whens.ensures.exact m lt)))

pub selection_body-returns-in_err-last-clause-exact : goal.selection_body-returns-in_err-last-clause-exact
selection_body-returns-in_err-last-clause-exact t c m lt =
    let end = c.args.end in let n = c.args.levels in let ts = c.args.tokens.now in
    let e = c.in_err-last.field-0.0 in
    let ws = was_read listed_whens (many_of m (starts (codes "when")) (when_rule m (expression m n) (within_rule m n))) ts (whens_of c.in_ok-whens.whens) c.in_ok-whens.rest.now (c.in_ok-whens.ensures.exact m lt) in
    exit end (λ x. (selection_body_tree x.0, x.1.now)) c.from_residual-in_err-last.result e (to listed_body (selection_body_rule m (expression m n) (within_rule m n)) ts) c.from_residual-in_err-last.ensures.1
    (stops_2_of_4 listed_body (many_of m (starts (codes "when")) (when_rule m (expression m n) (within_rule m n))) (otherwise_rule (within_rule m n)) (word_rule (codes "end")) (mark_rule (codes ";")) ts ws.0 c.in_ok-whens.rest.now ws.1 end e (c.in_err-last.ensures.exact m (omega (arith, lt, c.in_ok-whens.ensures.shorter))))

pub selection_body-returns-in_err-end_keyword-clause-exact : goal.selection_body-returns-in_err-end_keyword-clause-exact
selection_body-returns-in_err-end_keyword-clause-exact t c m lt =
    let end = c.args.end in let n = c.args.levels in let ts = c.args.tokens.now in
    let e = c.in_err-end_keyword.field-0.0 in
    let ws = was_read listed_whens (many_of m (starts (codes "when")) (when_rule m (expression m n) (within_rule m n))) ts (whens_of c.in_ok-whens.whens) c.in_ok-whens.rest.now (c.in_ok-whens.ensures.exact m lt) in
    exit end (λ x. (selection_body_tree x.0, x.1.now)) c.from_residual-in_err-end_keyword.result e (to listed_body (selection_body_rule m (expression m n) (within_rule m n)) ts) c.from_residual-in_err-end_keyword.ensures.1
    (stops_3_of_4 listed_body (many_of m (starts (codes "when")) (when_rule m (expression m n) (within_rule m n))) (otherwise_rule (within_rule m n)) (word_rule (codes "end")) (mark_rule (codes ";")) ts ws.0 c.in_ok-whens.rest.now ws.1 (option_map last_parts c.in_ok-last.last) c.in_ok-last.rest.now (c.in_ok-last.ensures.exact m (omega (arith, lt, c.in_ok-whens.ensures.shorter))) end e c.in_err-end_keyword.ensures.exact)

pub selection_body-returns-in_err-close-clause-exact : goal.selection_body-returns-in_err-close-clause-exact
selection_body-returns-in_err-close-clause-exact t c m lt =
    let end = c.args.end in let n = c.args.levels in let ts = c.args.tokens.now in
    let e = c.in_err-close.field-0.0 in
    let ws = was_read listed_whens (many_of m (starts (codes "when")) (when_rule m (expression m n) (within_rule m n))) ts (whens_of c.in_ok-whens.whens) c.in_ok-whens.rest.now (c.in_ok-whens.ensures.exact m lt) in
    exit end (λ x. (selection_body_tree x.0, x.1.now)) c.from_residual-in_err-close.result e (to listed_body (selection_body_rule m (expression m n) (within_rule m n)) ts) c.from_residual-in_err-close.ensures.1
    (stops_4_of_4 listed_body (many_of m (starts (codes "when")) (when_rule m (expression m n) (within_rule m n))) (otherwise_rule (within_rule m n)) (word_rule (codes "end")) (mark_rule (codes ";")) ts ws.0 c.in_ok-whens.rest.now ws.1 (option_map last_parts c.in_ok-last.last) c.in_ok-last.rest.now (c.in_ok-last.ensures.exact m (omega (arith, lt, c.in_ok-whens.ensures.shorter))) c.in_ok-end_keyword.end_keyword c.in_ok-end_keyword.rest.now c.in_ok-end_keyword.ensures.exact end e c.in_err-close.ensures.exact)

pub selection_body-returns-clause-exact : goal.selection_body-returns-clause-exact
selection_body-returns-clause-exact t c m lt =
    let n = c.args.levels in let ts = c.args.tokens.now in
    let ws = was_read listed_whens (many_of m (starts (codes "when")) (when_rule m (expression m n) (within_rule m n))) ts (whens_of c.in_ok-whens.whens) c.in_ok-whens.rest.now (c.in_ok-whens.ensures.exact m lt) in
    read_4 listed_body (many_of m (starts (codes "when")) (when_rule m (expression m n) (within_rule m n))) (otherwise_rule (within_rule m n)) (word_rule (codes "end")) (mark_rule (codes ";")) ts ws.0 c.in_ok-whens.rest.now ws.1 (option_map last_parts c.in_ok-last.last) c.in_ok-last.rest.now (c.in_ok-last.ensures.exact m (omega (arith, lt, c.in_ok-whens.ensures.shorter))) c.in_ok-end_keyword.end_keyword c.in_ok-end_keyword.rest.now c.in_ok-end_keyword.ensures.exact c.in_ok-close.close c.in_ok-close.rest.now c.in_ok-close.ensures.exact
    ∙ ap (λ l. Read (l, (option_map last_parts c.in_ok-last.last, (c.in_ok-end_keyword.end_keyword, c.in_ok-close.close))) c.in_ok-close.rest.now) ws.2

pub when-returns-in_err-opening-clause-exact : goal.when-returns-in_err-opening-clause-exact
when-returns-in_err-opening-clause-exact t c m lt =
    let end = c.args.end in let n = c.args.levels in let ts = c.args.tokens.now in
    let e = c.in_err-opening.field-0.0 in
    exit end (λ x. (whens_of (x.0 ∷ []), x.1.now)) c.from_residual-in_err-opening.result e (to (λ (y : WhenTree). listed_whens (y ∷ [])) (when_rule m (expression m n) (within_rule m n)) ts) c.from_residual-in_err-opening.ensures.1
    (stops_2_of_5 (λ (y : WhenTree). listed_whens (y ∷ [])) (word_rule (codes "when")) (mark_rule (codes "(")) (chain m is_comma_mark (mark_rule (codes ",")) (expression m n)) (mark_rule (codes ")")) (within_rule m n) ts c.in_ok-keyword.keyword c.in_ok-keyword.rest.now c.in_ok-keyword.ensures.exact end e c.in_err-opening.ensures.exact)

pub when-returns-in_err-values-clause-exact : goal.when-returns-in_err-values-clause-exact
when-returns-in_err-values-clause-exact t c m lt =
    let end = c.args.end in let n = c.args.levels in let ts = c.args.tokens.now in
    let e = c.in_err-values.field-0.0 in
    exit end (λ x. (whens_of (x.0 ∷ []), x.1.now)) c.from_residual-in_err-values.result e (to (λ (y : WhenTree). listed_whens (y ∷ [])) (when_rule m (expression m n) (within_rule m n)) ts) c.from_residual-in_err-values.ensures.1
    (stops_3_of_5 (λ (y : WhenTree). listed_whens (y ∷ [])) (word_rule (codes "when")) (mark_rule (codes "(")) (chain m is_comma_mark (mark_rule (codes ",")) (expression m n)) (mark_rule (codes ")")) (within_rule m n) ts c.in_ok-keyword.keyword c.in_ok-keyword.rest.now c.in_ok-keyword.ensures.exact c.in_ok-opening.opening c.in_ok-opening.rest.now c.in_ok-opening.ensures.exact end e (stopped_under (λ x. Argument None x.0 (listed_further x.1)) (chain m is_comma_mark (mark_rule (codes ",")) (expression m n)) c.in_ok-opening.rest.now end e (c.in_err-values.ensures.exact m (omega (arith, lt, c.in_ok-keyword.ensures.shorter, c.in_ok-opening.ensures.shorter)))))

pub when-returns-in_err-closing-clause-exact : goal.when-returns-in_err-closing-clause-exact
when-returns-in_err-closing-clause-exact t c m lt =
    let end = c.args.end in let n = c.args.levels in let ts = c.args.tokens.now in
    let vs = was_read (λ x. Argument None x.0 (listed_further x.1)) (chain m is_comma_mark (mark_rule (codes ",")) (expression m n)) c.in_ok-opening.rest.now (arguments_of c.in_ok-values.values) c.in_ok-values.rest.now (c.in_ok-values.ensures.exact m (omega (arith, lt, c.in_ok-keyword.ensures.shorter, c.in_ok-opening.ensures.shorter))) in
    let e = c.in_err-closing.field-0.0 in
    exit end (λ x. (whens_of (x.0 ∷ []), x.1.now)) c.from_residual-in_err-closing.result e (to (λ (y : WhenTree). listed_whens (y ∷ [])) (when_rule m (expression m n) (within_rule m n)) ts) c.from_residual-in_err-closing.ensures.1
    (stops_4_of_5 (λ (y : WhenTree). listed_whens (y ∷ [])) (word_rule (codes "when")) (mark_rule (codes "(")) (chain m is_comma_mark (mark_rule (codes ",")) (expression m n)) (mark_rule (codes ")")) (within_rule m n) ts c.in_ok-keyword.keyword c.in_ok-keyword.rest.now c.in_ok-keyword.ensures.exact c.in_ok-opening.opening c.in_ok-opening.rest.now c.in_ok-opening.ensures.exact vs.0 c.in_ok-values.rest.now vs.1 end e c.in_err-closing.ensures.exact)

pub when-returns-in_err-statement-clause-exact : goal.when-returns-in_err-statement-clause-exact
when-returns-in_err-statement-clause-exact t c m lt =
    let end = c.args.end in let n = c.args.levels in let ts = c.args.tokens.now in
    let vs = was_read (λ x. Argument None x.0 (listed_further x.1)) (chain m is_comma_mark (mark_rule (codes ",")) (expression m n)) c.in_ok-opening.rest.now (arguments_of c.in_ok-values.values) c.in_ok-values.rest.now (c.in_ok-values.ensures.exact m (omega (arith, lt, c.in_ok-keyword.ensures.shorter, c.in_ok-opening.ensures.shorter))) in
    let e = c.in_err-statement.field-0.0 in
    exit end (λ x. (whens_of (x.0 ∷ []), x.1.now)) c.from_residual-in_err-statement.result e (to (λ (y : WhenTree). listed_whens (y ∷ [])) (when_rule m (expression m n) (within_rule m n)) ts) c.from_residual-in_err-statement.ensures.1
    (stops_5_of_5 (λ (y : WhenTree). listed_whens (y ∷ [])) (word_rule (codes "when")) (mark_rule (codes "(")) (chain m is_comma_mark (mark_rule (codes ",")) (expression m n)) (mark_rule (codes ")")) (within_rule m n) ts c.in_ok-keyword.keyword c.in_ok-keyword.rest.now c.in_ok-keyword.ensures.exact c.in_ok-opening.opening c.in_ok-opening.rest.now c.in_ok-opening.ensures.exact vs.0 c.in_ok-values.rest.now vs.1 c.in_ok-closing.closing c.in_ok-closing.rest.now c.in_ok-closing.ensures.exact end e (c.in_err-statement.ensures.exact m (omega (arith, lt, c.in_ok-keyword.ensures.shorter, c.in_ok-opening.ensures.shorter, c.in_ok-values.ensures.shorter, c.in_ok-closing.ensures.shorter))))

pub when-returns-clause-exact : goal.when-returns-clause-exact
when-returns-clause-exact t c m lt =
    let end = c.args.end in let n = c.args.levels in let ts = c.args.tokens.now in
    let vs = was_read (λ x. Argument None x.0 (listed_further x.1)) (chain m is_comma_mark (mark_rule (codes ",")) (expression m n)) c.in_ok-opening.rest.now (arguments_of c.in_ok-values.values) c.in_ok-values.rest.now (c.in_ok-values.ensures.exact m (omega (arith, lt, c.in_ok-keyword.ensures.shorter, c.in_ok-opening.ensures.shorter))) in
    read_5 (λ (y : WhenTree). listed_whens (y ∷ [])) (word_rule (codes "when")) (mark_rule (codes "(")) (chain m is_comma_mark (mark_rule (codes ",")) (expression m n)) (mark_rule (codes ")")) (within_rule m n) ts c.in_ok-keyword.keyword c.in_ok-keyword.rest.now c.in_ok-keyword.ensures.exact c.in_ok-opening.opening c.in_ok-opening.rest.now c.in_ok-opening.ensures.exact vs.0 c.in_ok-values.rest.now vs.1 c.in_ok-closing.closing c.in_ok-closing.rest.now c.in_ok-closing.ensures.exact (statement_tree c.in_ok-statement.statement) c.in_ok-statement.rest.now (c.in_ok-statement.ensures.exact m (omega (arith, lt, c.in_ok-keyword.ensures.shorter, c.in_ok-opening.ensures.shorter, c.in_ok-values.ensures.shorter, c.in_ok-closing.ensures.shorter)))
    ∙ ap (λ l. Read (When c.in_ok-keyword.keyword c.in_ok-opening.opening l c.in_ok-closing.closing (statement_tree c.in_ok-statement.statement) NoWhen) c.in_ok-statement.rest.now) vs.2

pub otherwise-returns-in_err-keyword-clause-exact : goal.otherwise-returns-in_err-keyword-clause-exact
otherwise-returns-in_err-keyword-clause-exact t c m lt =
    let end = c.args.end in let n = c.args.levels in let ts = c.args.tokens.now in
    let e = c.in_err-keyword.field-0.0 in
    exit end (λ x. (option_map last_parts x.0, x.1.now)) c.from_residual.result e (otherwise_rule (within_rule m n) ts) c.from_residual.ensures.1
    (optional_stops (starts (codes "otherwise")) (seq (word_rule (codes "otherwise")) (within_rule m n)) ts (starts_is (codes "otherwise") ts ∙ (sym c.at_word.ensures ∙ c.if-at_word.true)) end e (front_stops Some (word_rule (codes "otherwise")) (within_rule m n) ts end e c.in_err-keyword.ensures.exact))

pub otherwise-returns-in_err-statement-clause-exact : goal.otherwise-returns-in_err-statement-clause-exact
otherwise-returns-in_err-statement-clause-exact t c m lt =
    let end = c.args.end in let n = c.args.levels in let ts = c.args.tokens.now in
    let e = c.in_err-statement.field-0.0 in
    exit end (λ x. (option_map last_parts x.0, x.1.now)) c.from_residual-in_err-statement.result e (otherwise_rule (within_rule m n) ts) c.from_residual-in_err-statement.ensures.1
    (optional_stops (starts (codes "otherwise")) (seq (word_rule (codes "otherwise")) (within_rule m n)) ts (starts_is (codes "otherwise") ts ∙ (sym c.at_word.ensures ∙ c.if-at_word.true)) end e (second_stops Some (word_rule (codes "otherwise")) (within_rule m n) ts c.in_ok-keyword.keyword c.in_ok-keyword.rest.now c.in_ok-keyword.ensures.exact end e (c.in_err-statement.ensures.exact m (omega (arith, lt, c.in_ok-keyword.ensures.shorter)))))

pub otherwise-returns-then-at_word-clause-exact : goal.otherwise-returns-then-at_word-clause-exact
otherwise-returns-then-at_word-clause-exact t c m lt =
    let n = c.args.levels in let ts = c.args.tokens.now in
    optional_read (starts (codes "otherwise")) (seq (word_rule (codes "otherwise")) (within_rule m n)) ts (starts_is (codes "otherwise") ts ∙ (sym c.at_word.ensures ∙ c.if-at_word.true)) (Some (c.in_ok-keyword.keyword, statement_tree c.in_ok-statement.statement)) c.in_ok-statement.rest.now
    (two_read Some (word_rule (codes "otherwise")) (within_rule m n) ts c.in_ok-keyword.keyword c.in_ok-keyword.rest.now c.in_ok-keyword.ensures.exact (statement_tree c.in_ok-statement.statement) c.in_ok-statement.rest.now (c.in_ok-statement.ensures.exact m (omega (arith, lt, c.in_ok-keyword.ensures.shorter))))
    ∙ ap (λ (x : Token × Statement). Read (Some x) c.in_ok-statement.rest.now) (sym c.in_ok-otherwise.ensures)

pub conditional-returns-in_err-arm-clause-exact : goal.conditional-returns-in_err-arm-clause-exact
conditional-returns-in_err-arm-clause-exact t c m lt =
    let end = c.args.end in let n = c.args.levels in let ts = c.args.tokens.now in
    let e = c.in_err-arm.field-0.0 in
    exit end (λ x. (statement_tree x.0, x.1.now)) c.from_residual.result e (if_rule m (expression m n) (within_rule m n) ts) c.from_residual.ensures.1
    (if_stops (expression m n) (within_rule m n) ts m lt end e (c.in_err-arm.ensures.exact m lt))

pub conditional-returns-in_err-parts-clause-exact : goal.conditional-returns-in_err-parts-clause-exact
conditional-returns-in_err-parts-clause-exact t c m lt =
    let end = c.args.end in let n = c.args.levels in let ts = c.args.tokens.now in
    let b = (if_begins (expression m n) (within_rule m n) ts m lt (arm_parts c.in_ok-arm.arm) c.in_ok-arm.rest.now (c.in_ok-arm.ensures.exact m lt) c.in_ok-arm.ensures.shorter) in let a = c.in_ok-arm.arm in
    let e = c.in_err-parts.field-0.0 in
    exit end (λ x. (statement_tree x.0, x.1.now)) c.from_residual-in_err-parts.result e (if_rule m (expression m n) (within_rule m n) ts) c.from_residual-in_err-parts.ensures.1
    (conditional_stops a.keyword (expression_tree a.condition) a.then_keyword (statement_tree a.then) (else_rule b.0 (expression m n) (within_rule m n)) c.in_ok-arm.rest.now (if_rule m (expression m n) (within_rule m n) ts) b.2 end e (c.in_err-parts.ensures.exact m (omega (arith, lt, c.in_ok-arm.ensures.shorter)) b.0 b.1))

pub conditional-returns-clause-exact : goal.conditional-returns-clause-exact
conditional-returns-clause-exact t c m lt =
    let end = c.args.end in let n = c.args.levels in let ts = c.args.tokens.now in
    let b = (if_begins (expression m n) (within_rule m n) ts m lt (arm_parts c.in_ok-arm.arm) c.in_ok-arm.rest.now (c.in_ok-arm.ensures.exact m lt) c.in_ok-arm.ensures.shorter) in let a = c.in_ok-arm.arm in
    conditional_read a.keyword (expression_tree a.condition) a.then_keyword (statement_tree a.then) (else_rule b.0 (expression m n) (within_rule m n)) c.in_ok-arm.rest.now (if_rule m (expression m n) (within_rule m n) ts) b.2 (others_of c.in_ok-parts.parts.others (otherwise_tree c.in_ok-parts.parts.last)) c.in_ok-parts.rest.now (c.in_ok-parts.ensures.exact m (omega (arith, lt, c.in_ok-arm.ensures.shorter)) b.0 b.1)
    ∙ ap (λ s. Read s c.in_ok-parts.rest.now) (sym (c.conditional.ensures ∙ ap (λ (x : ArmTree). if_else x.0 x.1.0 x.1.1.0 x.1.1.1 (others_of c.in_ok-parts.parts.others (otherwise_tree c.in_ok-parts.parts.last))) c.in_ok-first.ensures))

pub statements-loop-alloc-init : goal.statements-loop-alloc-init
statements-loop-alloc-init t c = record {
  same = λ m lt. (m, lt, none_yet (many_of m begins_statement (statement_rule m c.args.levels) c.args.tokens.now) (map statement_tree c.new-found.result) (ap (map statement_tree) c.new-found.ensures));
  shorter = omega arith;
}

pub statements-returns-in_err-next-clause-exact : goal.statements-returns-in_err-next-clause-exact
statements-returns-in_err-next-clause-exact t c m lt =
    let end = c.args.end in let n = c.args.levels in let ts = c.args.tokens.now in
    let inv = c.loop-alloc.invariant.same m lt in let rest = c.loop-alloc.rest.now in
    let e = c.in_err-next.field-0.0 in
    exit end (λ x. (map statement_tree x.0, x.1.now)) c.from_residual.result e (many_of m begins_statement (statement_rule m n) ts) c.from_residual.ensures.1
    (loop_fails begins_statement (statement_rule m n) (many_of m begins_statement (statement_rule m n) ts) (λ l. map statement_tree c.loop-alloc.found ++ l) rest inv.0 inv.2 inv.1 (sym c.begins_statement.ensures ∙ c.loop-alloc-test.true) end e (c.in_err-next.ensures.exact m (omega (arith, lt, c.loop-alloc.invariant.shorter))))

pub statements-loop-alloc-preserved : goal.statements-loop-alloc-preserved
statements-loop-alloc-preserved t c =
    let n = c.args.levels in let ts = c.args.tokens.now in let short = c.loop-alloc.invariant.shorter in
    record {
      same = λ m lt.
          let inv = c.loop-alloc.invariant.same m lt in let rest = c.loop-alloc.rest.now in
          loop_step begins_statement (statement_rule m n) (many_of m begins_statement (statement_rule m n) ts) (λ l. map statement_tree c.loop-alloc.found ++ l) rest inv.0 inv.2 inv.1 (sym c.begins_statement.ensures ∙ c.loop-alloc-test.true) (statement_tree c.in_ok-next.next) c.in_ok-next.after.now (c.in_ok-next.ensures.exact m (omega (arith, lt, short))) c.in_ok-next.ensures.shorter
          (λ l. map statement_tree c.push.new.self ++ l) (mapped_grown statement_tree c.loop-alloc.found c.push.new.self c.in_ok-next.next c.in_ok-push.ensures.ok);
      shorter = omega (arith, short, c.in_ok-next.ensures.shorter);
    }

pub statements-returns-clause-exact : goal.statements-returns-clause-exact
statements-returns-clause-exact t c m lt =
    let end = c.args.end in let n = c.args.levels in let ts = c.args.tokens.now in
    let inv = c.loop-alloc.invariant.same m lt in let rest = c.loop-alloc.rest.now in
    loop_ends begins_statement (statement_rule m n) (many_of m begins_statement (statement_rule m n) ts) (λ l. map statement_tree c.loop-alloc.found ++ l) rest inv.0 inv.2 inv.1 (sym c.begins_statement.ensures ∙ c.loop-alloc-test.false) ∙ ap (λ l. Read l rest) (append-nil (map statement_tree c.loop-alloc.found))

pub whens-returns-in_err-next-clause-exact : goal.whens-returns-in_err-next-clause-exact
whens-returns-in_err-next-clause-exact t c m lt =
    let end = c.args.end in let n = c.args.levels in let ts = c.args.tokens.now in
    let inv = c.loop-alloc.invariant.same m lt in let rest = c.loop-alloc.rest.now in
    let e = c.in_err-next.field-0.0 in
    exit end (λ x. (whens_of x.0, x.1.now)) c.from_residual.result e (to listed_whens (many_of m (starts (codes "when")) (when_rule m (expression m n) (within_rule m n))) ts) c.from_residual.ensures.1
    (loop_fails (starts (codes "when")) (when_rule m (expression m n) (within_rule m n)) (to listed_whens (many_of m (starts (codes "when")) (when_rule m (expression m n) (within_rule m n))) ts) (λ l. and_whens (whens_of c.loop-alloc.found) l) rest inv.0 inv.2 inv.1 (starts_is (codes "when") rest ∙ (sym c.at_word.ensures ∙ c.loop-alloc-test.true)) end e (stopped_under (λ (y : WhenTree). listed_whens (y ∷ [])) (when_rule m (expression m n) (within_rule m n)) rest end e (c.in_err-next.ensures.exact m (omega (arith, lt, c.loop-alloc.invariant.shorter)))))

pub whens-loop-alloc-preserved : goal.whens-loop-alloc-preserved
whens-loop-alloc-preserved t c =
    let n = c.args.levels in let ts = c.args.tokens.now in let short = c.loop-alloc.invariant.shorter in
    record {
      same = λ m lt.
          let inv = c.loop-alloc.invariant.same m lt in let rest = c.loop-alloc.rest.now in
          let w = was_read (λ (y : WhenTree). listed_whens (y ∷ [])) (when_rule m (expression m n) (within_rule m n)) rest (whens_of (c.in_ok-next.next ∷ [])) c.in_ok-next.after.now (c.in_ok-next.ensures.exact m (omega (arith, lt, short))) in
          loop_step (starts (codes "when")) (when_rule m (expression m n) (within_rule m n)) (to listed_whens (many_of m (starts (codes "when")) (when_rule m (expression m n) (within_rule m n))) ts) (λ l. and_whens (whens_of c.loop-alloc.found) l) rest inv.0 inv.2 inv.1 (starts_is (codes "when") rest ∙ (sym c.at_word.ensures ∙ c.loop-alloc-test.true)) w.0 c.in_ok-next.after.now w.1 c.in_ok-next.ensures.shorter
          (λ l. and_whens (whens_of c.push.new.self) l) (whens_grown c.loop-alloc.found c.push.new.self c.in_ok-next.next w.0 c.in_ok-push.ensures.ok w.2);
      shorter = omega (arith, short, c.in_ok-next.ensures.shorter);
    }

pub whens-returns-clause-exact : goal.whens-returns-clause-exact
whens-returns-clause-exact t c m lt =
    let end = c.args.end in let n = c.args.levels in let ts = c.args.tokens.now in
    let inv = c.loop-alloc.invariant.same m lt in let rest = c.loop-alloc.rest.now in
    loop_ends (starts (codes "when")) (when_rule m (expression m n) (within_rule m n)) (to listed_whens (many_of m (starts (codes "when")) (when_rule m (expression m n) (within_rule m n))) ts) (λ l. and_whens (whens_of c.loop-alloc.found) l) rest inv.0 inv.2 inv.1 (starts_is (codes "when") rest ∙ (sym c.at_word.ensures ∙ c.loop-alloc-test.false)) ∙ ap (λ l. Read l rest) (whens_all (whens_of c.loop-alloc.found))

pub whens-loop-alloc-init : goal.whens-loop-alloc-init
whens-loop-alloc-init t c =
    let n = c.args.levels in let ts = c.args.tokens.now in
    record {
      same = λ m lt. (m, lt, ap (λ xs. and_then (many_of m (starts (codes "when")) (when_rule m (expression m n) (within_rule m n)) ts) (λ l. pure (and_whens (whens_of xs) l))) (sym c.new-found.ensures));
      shorter = omega arith;
    }

pub else_parts-loop-alloc-init : goal.else_parts-loop-alloc-init
else_parts-loop-alloc-init t c =
    let n = c.args.levels in let ts = c.args.tokens.now in
    record {
      same = λ m lt k lk. (k, lk, ap (λ xs. to (others_and xs) (else_rule k (expression m n) (within_rule m n)) ts) (sym c.new-others.ensures));
      shorter = omega arith;
    }

pub any_statement-returns-in-Some-clause-exact : goal.any_statement-returns-in-Some-clause-exact
any_statement-returns-in-Some-clause-exact t c m lt =
    let end = c.args.end in let n = c.args.levels in let ts = c.args.tokens.now in
    ap (λ (p : Parser Statement). p ts) (statement_is m n) ∙ with_semicolon m (expression m n) (argument_list m n) (within_rule m n) ts c.in-Some.semicolon c.in-Some.rest.now c.in-Some.ensures.exact

pub any_statement-returns-in-Some-name_at-clause-exact : goal.any_statement-returns-in-Some-name_at-clause-exact
any_statement-returns-in-Some-name_at-clause-exact t c m lt =
    let end = c.args.end in let n = c.args.levels in let ts = c.args.tokens.now in
    subst (Gives end (λ x. (statement_tree x.0, x.1.now)) c.named.result) (sym (ap (λ (p : Parser Statement). p ts) (statement_is m n) ∙ with_name m (expression m n) (argument_list m n) (within_rule m n) ts c.in_default.ensures.test c.in-Some-name_at.name.now c.in-Some-name_at.rest.now c.in-Some-name_at.ensures c.in_ok-copy.field-0 c.in_ok-copy.ensures)) (c.named.ensures.exact m (omega (arith, lt, ap length c.in-Some-name_at.ensures.0)))

pub any_statement-returns-then-at_word-clause-exact : goal.any_statement-returns-then-at_word-clause-exact
any_statement-returns-then-at_word-clause-exact t c m lt =
    let end = c.args.end in let n = c.args.levels in let ts = c.args.tokens.now in
    subst (Gives end (λ x. (statement_tree x.0, x.1.now)) c.null_call.result) (sym (ap (λ (p : Parser Statement). p ts) (statement_is m n) ∙ with_null m (expression m n) (argument_list m n) (within_rule m n) ts c.in_default.ensures.test c.in_default-name_at.ensures (sym c.at_word.ensures ∙ c.if-at_word.true))) (c.null_call.ensures.exact m lt)

pub any_statement-returns-then-at_word-2-clause-exact : goal.any_statement-returns-then-at_word-2-clause-exact
any_statement-returns-then-at_word-2-clause-exact t c m lt =
    let end = c.args.end in let n = c.args.levels in let ts = c.args.tokens.now in
    subst (Gives end (λ x. (statement_tree x.0, x.1.now)) c.leave.result) (sym (ap (λ (p : Parser Statement). p ts) (statement_is m n) ∙ with_leave m (expression m n) (argument_list m n) (within_rule m n) ts c.in_default.ensures.test c.in_default-name_at.ensures (sym c.at_word.ensures ∙ c.if-at_word.false) (sym c.at_word-2.ensures ∙ c.if-at_word-2.true))) (c.leave.ensures.exact)

pub any_statement-returns-then-at_word-3-clause-exact : goal.any_statement-returns-then-at_word-3-clause-exact
any_statement-returns-then-at_word-3-clause-exact t c m lt =
    let end = c.args.end in let n = c.args.levels in let ts = c.args.tokens.now in
    subst (Gives end (λ x. (statement_tree x.0, x.1.now)) c.continued.result) (sym (ap (λ (p : Parser Statement). p ts) (statement_is m n) ∙ with_continue m (expression m n) (argument_list m n) (within_rule m n) ts c.in_default.ensures.test c.in_default-name_at.ensures (sym c.at_word.ensures ∙ c.if-at_word.false) (sym c.at_word-2.ensures ∙ c.if-at_word-2.false) (sym c.at_word-3.ensures ∙ c.if-at_word-3.true))) (c.continued.ensures.exact)

pub any_statement-returns-clause-exact : goal.any_statement-returns-clause-exact
any_statement-returns-clause-exact t c m lt =
    let end = c.args.end in let n = c.args.levels in let ts = c.args.tokens.now in
    subst (Gives end (λ x. (statement_tree x.0, x.1.now)) c.keyword_statement.result) (sym (ap (λ (p : Parser Statement). p ts) (statement_is m n) ∙ with_later m (expression m n) (argument_list m n) (within_rule m n) ts c.in_default.ensures.test c.in_default-name_at.ensures (sym c.at_word.ensures ∙ c.if-at_word.false) (sym c.at_word-2.ensures ∙ c.if-at_word-2.false) (sym c.at_word-3.ensures ∙ c.if-at_word-3.false))) (c.keyword_statement.ensures.exact m lt)

pub keyword_statement-returns-then-at_word-clause-exact : goal.keyword_statement-returns-then-at_word-clause-exact
keyword_statement-returns-then-at_word-clause-exact t c m lt =
    let end = c.args.end in let n = c.args.levels in let ts = c.args.tokens.now in
    subst (Gives end (λ x. (statement_tree x.0, x.1.now)) c.returned.result) (sym (with_return m (expression m n) (within_rule m n) ts (sym c.at_word.ensures ∙ c.if-at_word.true))) (c.returned.ensures.exact m lt)

pub keyword_statement-returns-then-at_word-2-clause-exact : goal.keyword_statement-returns-then-at_word-2-clause-exact
keyword_statement-returns-then-at_word-2-clause-exact t c m lt =
    let end = c.args.end in let n = c.args.levels in let ts = c.args.tokens.now in
    subst (Gives end (λ x. (statement_tree x.0, x.1.now)) c.output.result) (sym (with_output m (expression m n) (within_rule m n) ts (sym c.at_word.ensures ∙ c.if-at_word.false) (sym c.at_word-2.ensures ∙ c.if-at_word-2.true))) (c.output.ensures.exact m lt)

pub keyword_statement-returns-then-at_word-3-clause-exact : goal.keyword_statement-returns-then-at_word-3-clause-exact
keyword_statement-returns-then-at_word-3-clause-exact t c m lt =
    let end = c.args.end in let n = c.args.levels in let ts = c.args.tokens.now in
    subst (Gives end (λ x. (statement_tree x.0, x.1.now)) c.put.result) (sym (with_put m (expression m n) (within_rule m n) ts (sym c.at_word.ensures ∙ c.if-at_word.false) (sym c.at_word-2.ensures ∙ c.if-at_word-2.false) (sym c.at_word-3.ensures ∙ c.if-at_word-3.true))) (c.put.ensures.exact m lt)

pub keyword_statement-returns-then-at_word-4-clause-exact : goal.keyword_statement-returns-then-at_word-4-clause-exact
keyword_statement-returns-then-at_word-4-clause-exact t c m lt =
    let end = c.args.end in let n = c.args.levels in let ts = c.args.tokens.now in
    subst (Gives end (λ x. (statement_tree x.0, x.1.now)) c.conditional.result) (sym (with_if m (expression m n) (within_rule m n) ts (sym c.at_word.ensures ∙ c.if-at_word.false) (sym c.at_word-2.ensures ∙ c.if-at_word-2.false) (sym c.at_word-3.ensures ∙ c.if-at_word-3.false) (sym c.at_word-4.ensures ∙ c.if-at_word-4.true))) (c.conditional.ensures.exact m lt)

pub keyword_statement-returns-then-at_word-5-clause-exact : goal.keyword_statement-returns-then-at_word-5-clause-exact
keyword_statement-returns-then-at_word-5-clause-exact t c m lt =
    let end = c.args.end in let n = c.args.levels in let ts = c.args.tokens.now in
    subst (Gives end (λ x. (statement_tree x.0, x.1.now)) c.selection.result) (sym (with_select m (expression m n) (within_rule m n) ts (sym c.at_word.ensures ∙ c.if-at_word.false) (sym c.at_word-2.ensures ∙ c.if-at_word-2.false) (sym c.at_word-3.ensures ∙ c.if-at_word-3.false) (sym c.at_word-4.ensures ∙ c.if-at_word-4.false) (sym c.at_word-5.ensures ∙ c.if-at_word-5.true))) (c.selection.ensures.exact m lt)

pub keyword_statement-returns-clause-exact : goal.keyword_statement-returns-clause-exact
keyword_statement-returns-clause-exact t c m lt =
    let end = c.args.end in let n = c.args.levels in let ts = c.args.tokens.now in
    subst (Gives end (λ x. (statement_tree x.0, x.1.now)) c.block_or_loop.result) (sym (with_do m (expression m n) (within_rule m n) ts (sym c.at_word.ensures ∙ c.if-at_word.false) (sym c.at_word-2.ensures ∙ c.if-at_word-2.false) (sym c.at_word-3.ensures ∙ c.if-at_word-3.false) (sym c.at_word-4.ensures ∙ c.if-at_word-4.false) (sym c.at_word-5.ensures ∙ c.if-at_word-5.false))) (c.block_or_loop.ensures.exact m lt)

pub statement-returns-clause-promise : goal.statement-returns-clause-promise
statement-returns-clause-promise t c =
    statement_promise (λ x. (statement_tree x.0, x.1.now)) c.args.levels c.args.end c.args.tokens.now c.any_statement.result (λ m lt. c.any_statement.ensures.exact m lt)

pub else_parts-returns-in_err-else_keyword-clause-exact : goal.else_parts-returns-in_err-else_keyword-clause-exact
else_parts-returns-in_err-else_keyword-clause-exact t c m lt k lk =
    let end = c.args.end in let n = c.args.levels in let ts = c.args.tokens.now in
    let inv = c.loop-alloc.invariant.same m lt k lk in let rest = c.loop-alloc.rest.now in
    let e = c.in_err-else_keyword.field-0.0 in
    exit end (λ x. (others_of x.0.others (otherwise_tree x.0.last), x.1.now)) c.from_residual.result e (to otherwise_of (else_rule k (expression m n) (within_rule m n)) ts) c.from_residual.ensures.1
    (else_stops (expression m n) (within_rule m n) (to otherwise_of (else_rule k (expression m n) (within_rule m n)) ts) c.loop-alloc.others rest inv.0 inv.2 (sym c.at_word.ensures ∙ c.loop-alloc-test.true) end e c.in_err-else_keyword.ensures.exact)

pub else_parts-returns-in_err-statement-clause-exact : goal.else_parts-returns-in_err-statement-clause-exact
else_parts-returns-in_err-statement-clause-exact t c m lt k lk =
    let end = c.args.end in let n = c.args.levels in let ts = c.args.tokens.now in
    let inv = c.loop-alloc.invariant.same m lt k lk in let rest = c.loop-alloc.rest.now in
    let e = c.in_err-statement.field-0.0 in
    exit end (λ x. (others_of x.0.others (otherwise_tree x.0.last), x.1.now)) c.from_residual-in_err-statement.result e (to otherwise_of (else_rule k (expression m n) (within_rule m n)) ts) c.from_residual-in_err-statement.ensures.1
    (last_stops (expression m n) (within_rule m n) (to otherwise_of (else_rule k (expression m n) (within_rule m n)) ts) c.loop-alloc.others rest inv.0 inv.2 (sym c.at_word.ensures ∙ c.loop-alloc-test.true) c.in_ok-else_keyword.else_keyword c.in_ok-else_keyword.after.now c.in_ok-else_keyword.ensures.exact (sym c.at_word-in-loop-alloc.ensures ∙ c.if-not-at_word.true) end e (c.in_err-statement.ensures.exact m (omega (arith, lt, c.loop-alloc.invariant.shorter, c.in_ok-else_keyword.ensures.shorter))))

pub else_parts-returns-then-not-at_word-clause-exact : goal.else_parts-returns-then-not-at_word-clause-exact
else_parts-returns-then-not-at_word-clause-exact t c m lt k lk =
    let end = c.args.end in let n = c.args.levels in let ts = c.args.tokens.now in
    let inv = c.loop-alloc.invariant.same m lt k lk in let rest = c.loop-alloc.rest.now in
    last_read (expression m n) (within_rule m n) (to otherwise_of (else_rule k (expression m n) (within_rule m n)) ts) c.loop-alloc.others rest inv.0 inv.2 (sym c.at_word.ensures ∙ c.loop-alloc-test.true) c.in_ok-else_keyword.else_keyword c.in_ok-else_keyword.after.now c.in_ok-else_keyword.ensures.exact (sym c.at_word-in-loop-alloc.ensures ∙ c.if-not-at_word.true) (statement_tree c.in_ok-statement.statement) c.in_ok-statement.after.now (c.in_ok-statement.ensures.exact m (omega (arith, lt, c.loop-alloc.invariant.shorter, c.in_ok-else_keyword.ensures.shorter)))
    ∙ ap (λ (x : Token × Statement). Read (others_of c.loop-alloc.others (Otherwise' x.0 x.1)) c.in_ok-statement.after.now) (sym c.in_ok-last.ensures)

pub else_parts-returns-in_err-next-clause-exact : goal.else_parts-returns-in_err-next-clause-exact
else_parts-returns-in_err-next-clause-exact t c m lt k lk =
    let end = c.args.end in let n = c.args.levels in let ts = c.args.tokens.now in
    let inv = c.loop-alloc.invariant.same m lt k lk in let rest = c.loop-alloc.rest.now in
    let e = c.in_err-next.field-0.0 in
    exit end (λ x. (others_of x.0.others (otherwise_tree x.0.last), x.1.now)) c.from_residual-in_err-next.result e (to otherwise_of (else_rule k (expression m n) (within_rule m n)) ts) c.from_residual-in_err-next.ensures.1
    (arm_stops (expression m n) (within_rule m n) (to otherwise_of (else_rule k (expression m n) (within_rule m n)) ts) c.loop-alloc.others rest inv.0 inv.2 (sym c.at_word.ensures ∙ c.loop-alloc-test.true) c.in_ok-else_keyword.else_keyword c.in_ok-else_keyword.after.now c.in_ok-else_keyword.ensures.exact (sym c.at_word-in-loop-alloc.ensures ∙ c.if-not-at_word.false) (omega (arith, inv.1, c.in_ok-else_keyword.ensures.shorter)) end e (c.in_err-next.ensures.exact m (omega (arith, lt, c.loop-alloc.invariant.shorter, c.in_ok-else_keyword.ensures.shorter))))

pub else_parts-loop-alloc-preserved : goal.else_parts-loop-alloc-preserved
else_parts-loop-alloc-preserved t c =
    let n = c.args.levels in let ts = c.args.tokens.now in let short = c.loop-alloc.invariant.shorter in let part = c.else_if.result in
    record {
      same = λ m lt k lk.
          let inv = c.loop-alloc.invariant.same m lt k lk in let rest = c.loop-alloc.rest.now in
          arm_read (expression m n) (within_rule m n) (to otherwise_of (else_rule k (expression m n) (within_rule m n)) ts) c.loop-alloc.others rest inv.0 inv.2 (sym c.at_word.ensures ∙ c.loop-alloc-test.true) c.in_ok-else_keyword.else_keyword c.in_ok-else_keyword.after.now c.in_ok-else_keyword.ensures.exact (sym c.at_word-in-loop-alloc.ensures ∙ c.if-not-at_word.false) (omega (arith, inv.1, c.in_ok-else_keyword.ensures.shorter)) part c.push_sparing.new.self (ap (λ (x : code_else_if.ElseIf). x.else_keyword) c.else_if.ensures) c.in_ok-push_sparing.ensures.ok c.in_ok-next.after.now
          (c.in_ok-next.ensures.exact m (omega (arith, lt, short, c.in_ok-else_keyword.ensures.shorter))
          ∙ ap (λ (x : code_else_if.ElseIf). Read (x.keyword, (expression_tree x.condition, (x.then_keyword, statement_tree x.then))) c.in_ok-next.after.now) (sym c.else_if.ensures))
          c.in_ok-next.ensures.shorter;
      shorter = omega (arith, short, c.in_ok-else_keyword.ensures.shorter, c.in_ok-next.ensures.shorter);
    }

pub else_parts-returns-clause-exact : goal.else_parts-returns-clause-exact
else_parts-returns-clause-exact t c m lt k lk =
    let end = c.args.end in let n = c.args.levels in let ts = c.args.tokens.now in
    let inv = c.loop-alloc.invariant.same m lt k lk in let rest = c.loop-alloc.rest.now in
    no_else (expression m n) (within_rule m n) (to otherwise_of (else_rule k (expression m n) (within_rule m n)) ts) c.loop-alloc.others rest inv.0 inv.2 (sym c.at_word.ensures ∙ c.loop-alloc-test.false)
