use Rattle.std.proofs.Common.{◌<◌, ◌^◌, ◌∙◌, ℤ, inl, inr, ap, sym, length, arith}
use Rattle.std.specs.Int.{w128}
use Rattle.std.proofs.lemmas.Int.{to_z_pos}
use Rattle.ds2_decimal.specs.Arithmetic.{new}
use Rattle.ds2_csv_cells.proofs.ShortLemmas.{few-digits, room-more, some-behind, parts-short, parts-are, decimal-is, no-decimal, not-digits-behind}
use Rattle.ds2_csv_cells.proofs.decimal.short_decimal.Goals as goal

pub number_behind-requires : goal.number_behind-requires
number_behind-requires c =
    few-digits (length c.cut.result.0.now) (parts-short c.args.text.now c.cut.result.0.now c.cut.result.1.now c.cut.ensures.part c.cut.ensures.rest c.requires).0

pub number_behind-requires-2 : goal.number_behind-requires-2
number_behind-requires-2 c =
    room-more c.in_ok-n.n (length c.cut.result.0.now) (length c.cut.result.1.now) c.in_ok-n.ensures.room
    (parts-short c.args.text.now c.cut.result.0.now c.cut.result.1.now c.cut.ensures.part c.cut.ensures.rest c.requires).1

pub returns-in_err-n : goal.returns-in_err-n
returns-in_err-n c =
    let parts = parts-are c.args.text.now c.cut.result.0.now c.cut.result.1.now c.cut.ensures.part c.cut.ensures.rest (some-behind (length c.cut.result.1.now) _ _ c.is_empty.result c.is_empty.ensures c.if-whole-text.either) in
    c.from_residual.ensures ∙ no-decimal c.cut.result.0.now c.cut.result.1.now (sym c.if-not-begins_well.ensures) (inl (not-digits-behind 0 c.cut.result.0.now c.in_err-n.ensures.value)) ∙ sym parts

pub returns-in_err-units : goal.returns-in_err-units
returns-in_err-units c =
    let parts = parts-are c.args.text.now c.cut.result.0.now c.cut.result.1.now c.cut.ensures.part c.cut.ensures.rest (some-behind (length c.cut.result.1.now) _ _ c.is_empty.result c.is_empty.ensures c.if-whole-text.either) in
    c.from_residual-in_err-units.ensures ∙ no-decimal c.cut.result.0.now c.cut.result.1.now (sym c.if-not-begins_well.ensures) (inr (not-digits-behind c.in_ok-n.n c.cut.result.1.now c.in_err-units.ensures.value)) ∙ sym parts

pub returns : goal.returns
returns c =
    let parts = parts-are c.args.text.now c.cut.result.0.now c.cut.result.1.now c.cut.ensures.part c.cut.ensures.rest (some-behind (length c.cut.result.1.now) _ _ c.is_empty.result c.is_empty.ensures c.if-whole-text.either) in
    let short = (parts-short c.args.text.now c.cut.result.0.now c.cut.result.1.now c.cut.ensures.part c.cut.ensures.rest c.requires).1 in
    let room = room-more c.in_ok-n.n (length c.cut.result.0.now) (length c.cut.result.1.now) c.in_ok-n.ensures.room short in
    let small : c.in_ok-units.units < 2 ^ 127 = let e = c.in_ok-units.ensures.room in omega (arith, e, room) in
    c.new.ensures ∙ ap (λ (z : ℤ). new z (length c.cut.result.1.now)) (to_z_pos w128 c.in_ok-units.units small)
    ∙ decimal-is c.cut.result.0.now c.cut.result.1.now c.in_ok-n.n c.in_ok-units.units (sym c.if-not-begins_well.ensures) c.in_ok-n.ensures.value c.in_ok-units.ensures.value ∙ sym parts
