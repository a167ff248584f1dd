use denote.Text.{Utf8}
use denote.Shadow.{shadow}
use Rattle.ds2_cases.proofs.telling.add_body.Given as goal

abbrev pub invariant-loop-line : goal.invariant-loop-line
invariant-loop-line l = shadow (Utf8 l.last)
