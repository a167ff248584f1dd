use Rattle.std.proofs.Common.{◌≡◌, ◌-◌, length}
use Rattle.ds2_statement_emitter.specs.Marks.{redirected}
use Rattle.ds2_statement_emitter.proofs.redirect.redirect.Given as goal

abbrev pub invariant-instrs : goal.invariant-instrs
invariant-instrs l = record {
  same : redirected l.at l.aims l.code ≡ redirected l.from l.aims l.fn.code;
  size : length l.code ≡ l.end;
}

abbrev pub decreases-instrs : goal.decreases-instrs
decreases-instrs l = l.end - l.at
