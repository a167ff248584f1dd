use Rattle.std.proofs.Common.{◌≡◌, [], ◌∷◌, ◌++◌, sym, subst}
use Rattle.std.specs.Str.{IsUtf8}
use Rattle.std.proofs.lemmas.Str.{IsUtf8-drop}
use Rattle.ds2_base.specs.Place.{start_place}
use Rattle.ds2_token.specs.Reading.{IsNextToken}
use Rattle.ds2_token.specs.Standing.{without_mark}
use Rattle.ds2_token.proofs.LexerSteps.{read_step}
use Rattle.ds2_token.proofs.lexer.read.Goals as goal

pub loop-tokens-preserved : goal.loop-tokens-preserved
loop-tokens-preserved c =
    let is : IsNextToken c.loop-tokens.place c.loop-tokens.rest.now c.in-Some.next = rw c.in-Some.is at c.in_ok-next.ensures in
    let grown : c.push.new.self ≡ c.loop-tokens.tokens ++ c.in-Some.next.token ∷ [] = c.in_ok-push.ensures.ok in (
      subst IsUtf8 (sym c.split_at.ensures.back) (IsUtf8-drop c.loop-tokens.rest.now c.in-Some.next.size c.loop-tokens.invariant.0 is.edge),
      read_step c.loop-tokens.tokens c.push.new.self start_place c.loop-tokens.place c.place_behind-place.result (without_mark c.args.text.now) c.loop-tokens.rest.now
          c.split_at.result.1.now c.in-Some.next.token c.in-Some.next.size c.loop-tokens.invariant.1 is grown c.place_behind-place.ensures c.split_at.ensures.back,
    )
