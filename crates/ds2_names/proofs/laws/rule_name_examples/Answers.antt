use Rattle.ds2_names.proofs.RuleExamples.{rule_name_examples}
use Rattle.ds2_names.proofs.laws.rule_name_examples.Goals as goal

pub returns : goal.returns
returns c = rule_name_examples
