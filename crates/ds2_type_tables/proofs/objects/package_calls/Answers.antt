use Rattle.std.proofs.Common.{List, refl, ap, ◌∙◌, subst}
use Rattle.ds2_tree.specs.Globals.{Method}
use Rattle.ds2_names.specs.SourceUnit.{spelled_name}
use Rattle.ds2_declared_types.specs.TypesKnown.{sources_named}
use Rattle.ds2_type_tables.specs.Callables.{HasCallables}
use Rattle.ds2_type_tables.proofs.CallableLemmas.{methods_of_table}
use Rattle.ds2_type_tables.proofs.objects.package_calls.Goals as goal

pub returns : goal.returns
returns c = λ before t.
    let sources = sources_named before.packages (spelled_name c.args.name.now) in
    let told = c.source_named-globals.ensures before t ∙ ap (sources_named before.packages) (c.as_slice.ensures ∙ c.in_ok-spelled.ensures) in
    record {
      sources = sources;
      same = refl;
      methods = methods_of_table sources c.in_ok-table.table (subst (λ (l : List Method). HasCallables c.in_ok-table.table l) told c.in_ok-table.ensures);
    }
