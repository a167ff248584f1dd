use Rattle.ds2_meaning.specs.View.{typed_data_program}
use Rattle.ds2_generate.proofs.GeneratedLemmas.{verified, meant_if_made, there_if_made}
use Rattle.ds2_generate.proofs.staged.generate.Goals as goal

pub returns-clause-code : goal.returns-clause-code
returns-clause-code c = verified (typed_data_program c.args.program.now) _ c.verify.result c.in_ok-parts.ensures c.verify.ensures

pub returns-clause-meant : goal.returns-clause-meant
returns-clause-meant c =
    meant_if_made c.typed_units_run_as_meant.ensures c.typed_programs_open_alike.ensures c.typed_units_count_by_way.ensures (typed_data_program c.args.program.now) c.verify.result
    (verified (typed_data_program c.args.program.now) _ c.verify.result c.in_ok-parts.ensures c.verify.ensures)

pub returns-clause-within : goal.returns-clause-within
returns-clause-within c =
    there_if_made c.typed_stages_are_valid.ensures (typed_data_program c.args.program.now) c.verify.result
    (verified (typed_data_program c.args.program.now) _ c.verify.result c.in_ok-parts.ensures c.verify.ensures)
