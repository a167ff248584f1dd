-- The tree that was read of a text stands in it.
use Rattle.std.proofs.Common.{◌<◌, ◌+◌, ◌^◌, subst, List, length, Result, Ok, Err}
use Rattle.std.specs.Prelude.{IfOk}
use Rattle.ds2_base.specs.Bytes.{Bytes}
use Rattle.ds2_base.specs.declared.place.Place.{Place}
use Rattle.ds2_base.specs.declared.stop.Stop.{Stop}
use Rattle.ds2_token.specs.Standing.{StandsFor}
use Rattle.ds2_token.specs.declared.token.Token.{Token}
use Rattle.ds2_tree.specs.declared.source.Source.{Source}
use Rattle.ds2_tree.specs.UnitViews.{source_tree}
use Rattle.ds2_source.specs.SourceAnswer.{GivesAnswerForTokens}
use Rattle.ds2_source.specs.SourceTexts.{StandsInText}
use Rattle.ds2_source.specs.declared.kinds.SourceRefusal.{SourceRefusal}

pub tree_in_text : (text : Bytes) (tokens : List Token) (end : Place) (r : Result Source (Stop SourceRefusal)) → StandsFor text tokens → GivesAnswerForTokens end tokens r
    → length text + 1 < 2 ^ 32 → IfOk r (λ (source : Source). StandsInText (source_tree source))
tree_in_text text tokens end (Ok source) stand (fine, levels, spelled, none) short =
    record { text = text; short = short; stands = subst (λ (ts : List Token). StandsFor text ts) spelled stand; grammar = fine }
tree_in_text text tokens end (Err stop) stand is short = tt
