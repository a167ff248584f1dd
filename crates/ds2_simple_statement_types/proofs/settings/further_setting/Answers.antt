use Rattle.std.proofs.Common.{sym}
use Rattle.ds2_reference_types.specs.ArgumentTrees.{argument_in}
use Rattle.ds2_simple_statement_types.proofs.SettingForms.{one_more}
use Rattle.ds2_simple_statement_types.proofs.settings.further_setting.Goals as goal

pub returns : goal.returns
returns c = λ types refusals values s h.
    let x = argument_in types c.args.argument.now in
    one_more c.args.p.now x refusals values c.args.before c.in_ok-one.one c.with_one.result h (c.in_ok-one.ensures x (sym c.first_place.ensures) (c.in_ok-x.ensures types s)) c.with_one.ensures
