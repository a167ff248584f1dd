use Rattle.std.proofs.Common.{◌++◌, not, sym, ap, ◌∙◌}
use Rattle.ds2_meaning.specs.ProgramTree.{is_listed}
use Rattle.ds2_names.specs.SourceUnit.{is_package, names_alone, is_named}
use Rattle.ds2_name_uses.proofs.unit_tables.tables_of_unit.Goals as goal

pub returns : goal.returns
returns c = λ all h kind. record {
  settable = λ name. c.in_ok-settable.ensures name ∙ (λ i. is_named ((c.as_slice.ensures ∙ h.variables) i ++ (c.as_slice-2.ensures ∙ h.parameters) i) name);
  flags = λ name. c.in_ok-flags.ensures name ∙ ap (λ ns. is_listed (names_alone ns) name) (c.as_slice-3.ensures ∙ h.flags);
  bys = λ name. c.in_ok-bys.ensures name ∙ ap (λ ns. is_listed (names_alone ns) name) (c.as_slice-4.ensures ∙ h.bys);
  outputs = λ name. c.in_ok-outputs.ensures name ∙ ap (λ ns. is_listed (names_alone ns) name) (c.as_slice-5.ensures ∙ h.outputs);
  is_open = h.is_open;
  is_program = c.is_program.ensures ∙ ap (λ k. not (is_package k)) (sym kind);
}
