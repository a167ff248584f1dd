use Rattle.std.proofs.Common.{◌||◌, drop, length, nat_eq, ap, ◌∙◌, arith}
use Rattle.std.specs.Cmp.Lexicographic.{pointwise}
use Rattle.std.specs.HashSet.{contains}
use Rattle.ds2_meaning.specs.ProgramTree.{is_listed}
use Rattle.ds2_names.specs.SourceUnit.{names_alone}
use Rattle.ds2_names.specs.UnitRules.{places_of}
use Rattle.ds2_scope.specs.Earliest.{earliest}
use Rattle.ds2_resolve.specs.StoreMentions.{first_by}
use Rattle.ds2_resolve.proofs.before.enter_tables.Goals as goal

pub returns-clause-mentioned : goal.returns-clause-mentioned
returns-clause-mentioned c = λ name.
    let before = contains (pointwise nat_eq) c.args.before.now.mentioned in
    let f = c.in_ok-first.ensures.first ∙ ap (first_by before) (c.as_slice.ensures ∙ c.in_ok-stored.ensures) in
    c.in_ok-first.ensures.set name ∙ ap (λ ts. is_listed (names_alone ts) name || before name) f

pub returns-clause-room : goal.returns-clause-room
returns-clause-room c =
    let before = contains (pointwise nat_eq) c.args.before.now.mentioned in
    let f = c.in_ok-first.ensures.first ∙ ap (first_by before) (c.as_slice.ensures ∙ c.in_ok-stored.ensures) in
    let n = c.len.ensures ∙ ap length f in
    omega (arith, n)

pub returns-clause-place : goal.returns-clause-place
returns-clause-place c =
    let before = contains (pointwise nat_eq) c.args.before.now.mentioned in
    let f = c.in_ok-first.ensures.first ∙ ap (first_by before) (c.as_slice.ensures ∙ c.in_ok-stored.ensures) in
    c.beyond_room-beyond.ensures ∙ ap (λ ts. earliest (places_of (drop c.args.before.now.room ts))) (c.as_slice-2.ensures ∙ f)
