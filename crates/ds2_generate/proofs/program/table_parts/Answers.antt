use Rattle.ds2_generate.proofs.PartLemmas.{tables_made}
use Rattle.ds2_generate.proofs.program.table_parts.Goals as goal

pub returns : goal.returns
returns c =
    tables_made c.args.unit.now c.args.projections.now c.as_slice.result.now _ c.requires.laid_out.slots c.requires.outputs c.as_slice.ensures
    c.in_ok-hashes.ensures c.in_ok-iterators.ensures c.in_ok-parameters.ensures c.in_ok-reading.ensures c.in_ok-outputs.ensures
