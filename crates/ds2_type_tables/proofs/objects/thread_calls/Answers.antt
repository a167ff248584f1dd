use Rattle.std.proofs.Common.{refl, ap, ◌∙◌}
use Rattle.std.specs.Prelude.{map}
use Rattle.ds2_names.specs.SourceUnit.{spelled_name}
use Rattle.ds2_reference_types.specs.Scopes.{value_parameter}
use Rattle.ds2_declared_types.specs.TypesKnown.{parameters_named}
use Rattle.ds2_type_tables.proofs.objects.thread_calls.Goals as goal

pub returns : goal.returns
returns c = λ before t.
    let told = c.parameters_named-variables.ensures before t ∙ ap (parameters_named before.threads) (c.as_slice.ensures ∙ c.in_ok-spelled.ensures) in
    record {
      variables = parameters_named before.threads (spelled_name c.args.name.now);
      same = refl;
      parameters = c.in_ok-parameters.ensures ∙ ap (map value_parameter) told;
    }
