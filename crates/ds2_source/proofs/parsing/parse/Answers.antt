use Rattle.std.proofs.Common.{◌≡◌, suc, length, List, [], map, Err, sym, ap, subst, arith}
use Rattle.ds2_tree.specs.Parsers.{Read}
use Rattle.ds2_tree.specs.Promise.{Fails}
use Rattle.ds2_tree.specs.Units.{SourcePart}
use Rattle.ds2_tree.specs.UnitViews.{part_tree, source_tree}
use Rattle.ds2_parse_rules.specs.UnitGrammar.{parts_rule, parse_source}
use Rattle.ds2_parse_rules.proofs.RuleSteps.{exit, fails_unexpected}
use Rattle.ds2_source.proofs.SymbolPromises.{source_said, source_fails, source_accepted, source_trails}
use Rattle.ds2_source.proofs.parsing.parse.Goals as goal

pub returns-in_err-parts : goal.returns-in_err-parts
returns-in_err-parts c =
    let end = c.args.end in let ts = c.args.tokens.now in let e = c.in_err-parts.field-0.0 in
    source_said source_tree 64 end ts c.from_residual.result
    (exit end (λ x. (source_tree x, [])) c.from_residual.result e (parse_source 64 ts) c.from_residual.ensures.1
    (source_fails 64 end ts e (subst (λ l. Fails end e (parts_rule (suc (length l)) 64 l)) c.as_slice.ensures (c.in_err-parts.ensures.exact (suc (length c.as_slice.result.now)) (omega arith)))))

pub returns-in-empty : goal.returns-in-empty
returns-in-empty c =
    let ts = c.args.tokens.now in let parts = map part_tree c.in_ok-parts.parts in let rest = c.in_ok-parts.rest.now in
    source_accepted 64 ts parts rest (subst (λ l. parts_rule (suc (length l)) 64 l ≡ Read parts rest) c.as_slice.ensures (c.in_ok-parts.ensures.exact (suc (length c.as_slice.result.now)) (omega arith))) (omega (arith, c.in-empty.len_below))

pub invariant_of-result : goal.invariant_of-result
invariant_of-result c =
    let ts = c.args.tokens.now in let parts = map part_tree c.in_ok-parts.parts in let rest = c.in_ok-parts.rest.now in
    let accepted = source_accepted 64 ts parts rest (subst (λ l. parts_rule (suc (length l)) 64 l ≡ Read parts rest) c.as_slice.ensures (c.in_ok-parts.ensures.exact (suc (length c.as_slice.result.now)) (omega arith))) (omega (arith, c.in-empty.len_below)) in
    let counted = ap length accepted.2 in omega (arith, counted)

pub returns-in_default : goal.returns-in_default
returns-in_default c =
    let end = c.args.end in let ts = c.args.tokens.now in let parts = map part_tree c.in_ok-parts.parts in let rest = c.in_ok-parts.rest.now in let e = c.unexpected.result in
    source_said source_tree 64 end ts (Err e)
    (subst (Fails end e)
    (sym (source_trails 64 ts parts rest (subst (λ l. parts_rule (suc (length l)) 64 l ≡ Read parts rest) c.as_slice.ensures (c.in_ok-parts.ensures.exact (suc (length c.as_slice.result.now)) (omega arith))) (omega (arith, c.in_default.len_at_least))))
    (fails_unexpected (Unit {0}) (List SourcePart) end e rest c.unexpected.ensures))
