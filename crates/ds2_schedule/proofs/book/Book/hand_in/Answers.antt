use Rattle.std.proofs.Common.{◌+◌, ◌++◌, [], ◌∷◌, subst, sym}
use Rattle.ds2_schedule.specs.Sums.{handed, AreSums}
use Rattle.ds2_schedule.proofs.Sums.{sums_more}
use Rattle.ds2_schedule.proofs.book.Book.hand_in.Goals as goal

pub returns-clause-all : goal.returns-clause-all
returns-clause-all c = λ before party h.
    let b = c.args.self.now in
    let e = handed party c.args.g c.args.rows c.args.faulted in
    subst (AreSums (before ++ e ∷ []) (b.hand_ins + 1) (b.rows + c.args.rows)) (sym c.lesser-self.ensures) (sums_more before e b.hand_ins b.rows b.fault h)
