use Rattle.std.proofs.Common.{◌∙◌, sym}
use Rattle.ds2_value.proofs.LowestLemmas.{lowest-less, lowest-stop, lowest-none}
use Rattle.ds2_value.proofs.hashing.lowest_in_words.Goals as goal

pub zeros-preserved : goal.zeros-preserved
zeros-preserved c = lowest-less c.zeros.m c.zeros.s c.zeros-test.true c.if-m-eq0.true ∙ c.zeros.invariant

pub returns-else-m-eq0 : goal.returns-else-m-eq0
returns-else-m-eq0 c = sym (lowest-stop c.zeros.m c.zeros.s c.if-m-eq0.false) ∙ c.zeros.invariant

pub returns-after-zeros : goal.returns-after-zeros
returns-after-zeros c = sym (lowest-none c.zeros.m c.zeros.s c.zeros-test.false) ∙ c.zeros.invariant
