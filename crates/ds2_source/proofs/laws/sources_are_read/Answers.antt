use Rattle.ds2_source.proofs.SourceAnswers.{all_read}
use Rattle.ds2_source.proofs.laws.sources_are_read.Goals as goal

pub returns : goal.returns
returns c = all_read c.every_text_is_read.ensures c.grammar_reads_sources.ensures
