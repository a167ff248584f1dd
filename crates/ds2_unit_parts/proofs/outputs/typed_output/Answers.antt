use Rattle.std.proofs.Common.{List, ap, ◌∙◌}
use Rattle.std.specs.List.{list_any}
use Rattle.ds2_elaboration.specs.ProgramTypes.{says_overwrite}
use Rattle.ds2_names.specs.SourceUnit.{names_alone}
use Rattle.ds2_tree.specs.declared.units.OutputOption.{OutputOption}
use Rattle.ds2_unit_parts.specs.TypedOutputs.{columns_with}
use Rattle.ds2_unit_parts.proofs.outputs.typed_output.Goals as goal

pub returns : goal.returns
returns c = λ all u h s.
    let options = c.option_list-options.ensures in
    λ i. record {
      name = c.in_ok-name.ensures i;
      overwrites = (c.any_overwrites.ensures ∙ ap (list_any says_overwrite) options) i;
      columns = (c.in_ok-columns.ensures all u h s ∙ ap (λ (l : List OutputOption). columns_with all u (names_alone c.args.variables.now) l) options) i;
    }
