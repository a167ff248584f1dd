use Rattle.std.proofs.Common.{◌≡◌, map, drop}
use Rattle.ds2_meaning.specs.View.{parameter_tree}
use Rattle.ds2_statement_emitter.specs.Appending.{with_parameter_values}
use Rattle.ds2_statement_emitter.proofs.parts.emit_parameters.Given as goal

abbrev pub invariant-values : goal.invariant-values
invariant-values g l =
    with_parameter_values (g.N.Numbering.numbers l.names) l.instance (map parameter_tree (drop l.setting-index l.values)) l.code
    ≡ with_parameter_values (g.N.Numbering.numbers l.names) l.instance (map parameter_tree l.values) l.fn.code
