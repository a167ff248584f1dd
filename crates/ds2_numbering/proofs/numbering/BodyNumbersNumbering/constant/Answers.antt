use Rattle.ds2_numbering.specs.BodyTrees.{numbers_of_body}
use Rattle.ds2_numbering.proofs.BodyLemmas.{pushed_is, if_same}
use Rattle.ds2_numbering.proofs.numbering.BodyNumbersNumbering.constant.Goals as goal

pub returns : goal.returns
returns c = if_same _ _ c.constant_of.result (pushed_is (numbers_of_body c.args.self.now) c.args.value.now c.args.ty) c.constant_of.ensures
