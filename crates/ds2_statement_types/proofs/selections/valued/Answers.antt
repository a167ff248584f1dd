use Rattle.std.proofs.Common.{refl}
use Rattle.ds2_elaboration.specs.Typings.{null_clash}
use Rattle.ds2_types.proofs.Outcomes.{after_one}
use Rattle.ds2_statement_types.proofs.selections.valued.Goals as goal

pub returns : goal.returns
returns c = λ e h. after_one null_clash e c.args.x c.null_clash-clash.result c.ruled.result h c.null_clash-clash.ensures c.ruled.ensures c.ruled.result refl
