use Rattle.ds2_source.proofs.SourceAnswers.{one_answer}
use Rattle.ds2_source.proofs.laws.one_source_answer.Goals as goal

pub returns : goal.returns
returns c = one_answer c.one_list_stands.ensures c.one_refusal_is_first.ensures c.no_refusal_beside_tokens.ensures c.grammar_reads_sources.ensures
