use Rattle.std.proofs.Common.{length}
use denote.Text.{Utf8}
use denote.Shadow.{shadow}
use Rattle.ds2_base.specs.Place.{start_place}
use Rattle.ds2_token.specs.Standing.{LeadsTo, without_mark}
use Rattle.ds2_token.proofs.lexer.read.Given as goal

abbrev pub invariant-loop-tokens : goal.invariant-loop-tokens
invariant-loop-tokens l = shadow (Utf8 l.rest) × LeadsTo start_place (without_mark l.text) l.tokens l.place l.rest

abbrev pub decreases-loop-tokens : goal.decreases-loop-tokens
decreases-loop-tokens l = length l.rest
