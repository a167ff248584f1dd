use Rattle.std.proofs.Common.{ℕ, ◌<◌, subst}
use Rattle.ds2_loads.proofs.CursorSteps.{as_many_groups}
use Rattle.ds2_loads.proofs.program_loads.ProgramLoadsLoadSource.enter.Goals as goal

pub enter-loads-requires : goal.enter-loads-requires
enter-loads-requires c = let P : ℕ → Type 0 = λ n. c.args.g < n in subst P (as_many_groups c.args.self.now.at c.args.self.now.cursor) c.requires
