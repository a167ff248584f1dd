use Rattle.ds2_answer.proofs.OptionSteps.{one_option_more}
use Rattle.ds2_answer.proofs.command_line.options_of.Goals as goal

pub options-preserved : goal.options-preserved
options-preserved c = record {
  same = one_option_more c.options.given c.in-Some.more c.options.rest.now _ _ c.as_str.result.now c.as_str-in-len2-up.result.now c.with_option.result _ c.in-len2-up.len_at_least c.option-item.is c.number-item.is c.as_str.ensures
      c.as_str-in-len2-up.ensures c.with_option.ensures.options c.in-Some.is c.options.invariant.same;
  within = c.in-Some.ensures.within;
}
