use Rattle.std.proofs.Common.{length, suc, arith}
use Rattle.ds2_parse_rules.specs.GlobalGrammar.{text_type_rule, type_of_kind}
use Rattle.ds2_tree.specs.Parsers.{Two}
use Rattle.ds2_parse_rules.proofs.RuleSteps.{read_whole, read_stops}
use Rattle.ds2_parse_declarations.proofs.types.text_type.Goals as goal

pub returns-in_err-parts-clause-exact : goal.returns-in_err-parts-clause-exact
returns-in_err-parts-clause-exact c = read_stops c.args.end (λ x. (x.0, x.1.now)) c.from_residual.result c.in_err-parts.field-0.0 (λ x. type_of_kind (Two (Two x))) text_type_rule c.args.tokens.now c.from_residual.ensures.1 (c.in_err-parts.ensures.exact (suc (length c.args.tokens.now)) (omega arith))

pub returns-clause-exact : goal.returns-clause-exact
returns-clause-exact c = read_whole (λ x. type_of_kind (Two (Two x))) text_type_rule c.args.tokens.now c.in_ok-parts.parts c.in_ok-parts.rest.now (c.in_ok-parts.ensures.exact (suc (length c.args.tokens.now)) (omega arith))
