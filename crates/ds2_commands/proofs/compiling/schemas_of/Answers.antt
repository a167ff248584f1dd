use Rattle.std.proofs.Common.{ap, ◌∙◌}
use Rattle.ds2_compile.specs.SourceUnit.{columns_stored}
use Rattle.ds2_commands.proofs.LoadSteps.{columns_are_held}
use Rattle.ds2_commands.proofs.compiling.schemas_of.Goals as goal

pub returns : goal.returns
returns c = ap columns_stored c.in_ok-tables.ensures ∙ columns_are_held c.args.stored.now
