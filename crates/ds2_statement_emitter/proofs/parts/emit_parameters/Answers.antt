use Rattle.std.proofs.Common.{◌+◌, map, drop, arith}
use Rattle.std.proofs.lemmas.Grind.{common_steps}
use Rattle.ds2_meaning.specs.View.{parameter_tree}
use Rattle.ds2_statement_emitter.proofs.PartRuns.{no_parameter_added, parameter_added}
use Rattle.ds2_statement_emitter.proofs.parts.emit_parameters.Goals as goal

pub values-preserved : goal.values-preserved
values-preserved g c =
    let k = parameter_added (g.N.Numbering.numbers c.args.names.now) c.args.instance.now (parameter_tree c.setting-item.result) (map parameter_tree (drop (c.values.setting-index + 1) c.args.values.now)) c.values.code in
    grind (arith, common_steps, k, c.in_ok-emit_expression.ensures.code, c.in_ok-emit.ensures, c.in_ok-store_parameter.ensures, c.values.invariant)

pub returns : goal.returns
returns g c = grind (arith, common_steps, no_parameter_added (g.N.Numbering.numbers c.args.names.now) c.args.instance.now c.values.code, c.values.invariant)
