use Rattle.std.proofs.Common.{◌≡◌, ◌∙◌, refl, sym}
use Rattle.std.specs.Prelude.{unwrap_or, true, false}
use Rattle.std.specs.Ordering.{nat_cmp, is_ne}
use Rattle.ds2_value.proofs.TextLemmas.{both-step, both-ended, utf8-after, first-decides, second-decides}
use Rattle.ds2_value.proofs.order.character_order.Goals as goal

pub characters-init : goal.characters-init
characters-init c =
    let a = c.chars-first.ensures.rest in
    let b = c.chars-second.ensures.rest in
    (rw a c.utf8.a, rw b c.utf8.b, rw (a, b) refl)

pub returns-then-is_none-2 : goal.returns-then-is_none-2
returns-then-is_none-2 c =
    sym (both-ended c.characters.first c.next-x.new.self c.characters.second c.next-y.new.self c.next-x.result c.next-y.result c.if-is_none.ensures c.if-is_none-2.ensures c.next-x.ensures.steps c.next-y.ensures.steps)
    ∙ c.characters.invariant.2

pub returns-then-is_ne : goal.returns-then-is_ne
returns-then-is_ne c =
    let order : c.cmp-order.result ≡ nat_cmp (unwrap_or c.next-x.result 32) (unwrap_or c.next-y.result 32) = c.cmp-order.ensures ∙ rw (c.unwrap_or.ensures, c.unwrap_or-in-characters.ensures) refl in
    let unequal : is_ne (nat_cmp (unwrap_or c.next-x.result 32) (unwrap_or c.next-y.result 32)) ≡ true = rw (← order) (sym c.is_ne.ensures ∙ c.if-is_ne.true) in
    order
    ∙ first-decides _ _ _ (both-step c.characters.first c.next-x.new.self c.characters.second c.next-y.new.self c.next-x.result c.next-y.result c.characters.invariant.0 c.characters.invariant.1 c.next-x.ensures.steps c.next-y.ensures.steps) unequal
    ∙ c.characters.invariant.2

pub characters-preserved : goal.characters-preserved
characters-preserved c =
    let order : c.cmp-order.result ≡ nat_cmp (unwrap_or c.next-x.result 32) (unwrap_or c.next-y.result 32) = c.cmp-order.ensures ∙ rw (c.unwrap_or.ensures, c.unwrap_or-in-characters.ensures) refl in
    let equal : is_ne (nat_cmp (unwrap_or c.next-x.result 32) (unwrap_or c.next-y.result 32)) ≡ false = rw (← order) (sym c.is_ne.ensures ∙ c.if-is_ne.false) in (
      utf8-after c.characters.first c.next-x.new.self c.next-x.result c.characters.invariant.0 c.next-x.ensures.steps,
      utf8-after c.characters.second c.next-y.new.self c.next-y.result c.characters.invariant.1 c.next-y.ensures.steps,
      second-decides _ _ _ (both-step c.characters.first c.next-x.new.self c.characters.second c.next-y.new.self c.next-x.result c.next-y.result c.characters.invariant.0 c.characters.invariant.1 c.next-x.ensures.steps c.next-y.ensures.steps) equal
          ∙ c.characters.invariant.2,
    )
