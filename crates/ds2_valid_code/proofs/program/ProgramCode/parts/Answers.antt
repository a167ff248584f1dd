use Rattle.std.proofs.Common.{◌≡◌, subst}
use Rattle.ds2_code.specs.ValidCode.{IsValidStaged}
use Rattle.ds2_valid_code.proofs.ProgramExact.{parts_valid}
use Rattle.ds2_valid_code.proofs.program.ProgramCode.parts.Goals as goal

pub returns-clause-valid : goal.returns-clause-valid
returns-clause-valid c = let seen : c.self.inside.parts ≡ c.args.self.now = cc in subst IsValidStaged seen (parts_valid c.self.inside.parts c.self.invariant)
