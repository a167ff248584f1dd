use Rattle.ds2_commands.proofs.StoreSteps.{encoded_readable}
use Rattle.ds2_commands.proofs.storing.object_bytes.Goals as goal

pub returns-clause-readable : goal.returns-clause-readable
returns-clause-readable c = encoded_readable c.spelling_is_read.ensures c.args.object.now c.encode.result c.encode.ensures
