use Rattle.ds2_source.proofs.SourceLaws.{sources_exactly}
use Rattle.ds2_source.proofs.grammar_laws.grammar_reads_sources.Goals as goal

pub returns : goal.returns
returns c = sources_exactly
