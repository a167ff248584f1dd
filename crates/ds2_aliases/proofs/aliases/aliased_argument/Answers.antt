use Rattle.std.proofs.Common.{ap, ◌∙◌}
use Rattle.std.proofs.lemmas.Result.{IfOk-weaker}
use Rattle.ds2_calls.specs.UnitsCalls.{calls_by_tables}
use Rattle.ds2_names.specs.SourceUnit.{source_methods, names_of_unit}
use Rattle.ds2_scope.specs.CodeUnits.{unit_source}
use Rattle.ds2_aliases.specs.PartsOfMethods.{unit_parts}
use Rattle.ds2_aliases.specs.HandedGlobals.{aliased_by_parts}
use Rattle.ds2_aliases.proofs.AliasLemmas.{unit_aliased}
use Rattle.ds2_aliases.proofs.aliases.aliased_argument.Goals as goal

pub returns : goal.returns
returns c =
    let u = unit_source c.args.unit in
    let parts = c.in_ok-parts.ensures ∙ ap (λ ns. unit_parts (calls_by_tables c.args.calls.now) (source_methods u.globals) ns) c.as_slice.ensures in
    IfOk-weaker c.aliased_in_unit.result _ _
    (λ place h tables known are has. h ∙ ap aliased_by_parts parts ∙ unit_aliased c.args.calls.now (names_of_unit tables known u) c.args.names.now.instances has are.instances) c.aliased_in_unit.ensures
