use Rattle.std.proofs.Common.{ap, ◌∙◌}
use Rattle.ds2_reading.specs.KeyHeads.{head_with_digits}
use Rattle.ds2_reading.proofs.Digits.{same_digits}
use Rattle.ds2_reading.proofs.heads.text_head.Goals as goal

pub returns-clause-value : goal.returns-clause-value
returns-clause-value c = c.bytes_head.ensures.value ∙ ap (head_with_digits 12 1) c.as_bytes.ensures.value ∙ same_digits 12 1 c.args.text.now c.utf8.text
