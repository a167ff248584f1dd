use Rattle.std.proofs.Common.{ap, ◌∙◌}
use Rattle.std.specs.Option.{option_copied}
use Rattle.ds2_names.specs.SourceUnit.{spelled_name}
use Rattle.ds2_elaboration.specs.SourceTypes.{type_of_column}
use Rattle.ds2_instance_types.proofs.HashForms.{known_loaded, none_loaded}
use Rattle.ds2_instance_types.proofs.hashes.clash_of_variable.Goals as goal

pub returns-in-None : goal.returns-in-None
returns-in-None c = λ scope h.
    none_loaded scope c.in_ok-spelled.spelled (spelled_name c.args.listed.now) (option_copied c.global_named.result) c.in_ok-spelled.ensures (c.global_named.ensures scope h) c.args.columns.now c.args.text
    (ap option_copied c.in-None.is)

pub returns : goal.returns
returns c = λ scope h.
    known_loaded scope c.in_ok-spelled.spelled (spelled_name c.args.listed.now) (option_copied c.global_named.result) c.in_ok-spelled.ensures (c.global_named.ensures scope h) c.args.columns.now c.args.text
    c.in-Some.known.now c.type_of_column-column.result c.clash_of_load.result (ap option_copied c.in-Some.is)
    (c.type_of_column-column.ensures ∙ ap (λ n. type_of_column n c.args.columns.now) (c.as_slice.ensures ∙ c.in_ok-spelled.ensures)) (λ v cs k. c.clash_of_load.ensures v cs k)
