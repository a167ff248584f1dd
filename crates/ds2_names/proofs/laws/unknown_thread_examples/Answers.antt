use Rattle.ds2_names.proofs.RuleExamples.{unknown_thread_examples}
use Rattle.ds2_names.proofs.laws.unknown_thread_examples.Goals as goal

pub returns : goal.returns
returns c = unknown_thread_examples
