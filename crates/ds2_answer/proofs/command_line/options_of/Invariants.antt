use Rattle.std.proofs.Common.{◌≡◌, length}
use Rattle.ds2_answer.specs.CommandLines.{IsBudgetWithin, no_options, options_behind}
use Rattle.ds2_answer.proofs.command_line.options_of.Given as goal

abbrev pub invariant-options : goal.invariant-options
invariant-options l = record {
  same : options_behind l.given l.rest ≡ options_behind no_options l.words;
  within : IsBudgetWithin l.given;
}

abbrev pub decreases-options : goal.decreases-options
decreases-options l = length l.rest
