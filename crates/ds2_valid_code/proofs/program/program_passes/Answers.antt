use Rattle.std.proofs.Common.{sym}
use Rattle.ds2_valid_code.proofs.OwnerLemmas.{few_methods}
use Rattle.ds2_valid_code.proofs.program.program_passes.Goals as goal

pub types_suffice-requires : goal.types_suffice-requires
types_suffice-requires c = few_methods c.args.code.now (sym c.if-not-parts_are_allowed.ensures)
