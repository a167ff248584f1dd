use Rattle.std.proofs.Common.{Option, ap, ◌∙◌}
use Rattle.ds2_names.specs.NameRules.{name_if_renamed}
use Rattle.ds2_names.specs.SourceUnit.{PlacedName}
use Rattle.ds2_unit_parts.proofs.outputs.column.Goals as goal

pub returns : goal.returns
returns c = λ variables renamings h k. λ i. record {
  name = (c.in_ok-name.ensures ∙ ap (λ (x : Option PlacedName). (name_if_renamed c.args.source.now x).name) (k c.args.source.now)) i;
  source = (c.in_ok-own.ensures ∙ c.as_slice.ensures) i;
  ty = c.column_type-ty.ensures variables h renamings i;
}
