use Rattle.std.proofs.Common.{◌∙◌, List, drop, length, take, sym, ap, arith}
use Rattle.std.specs.Prelude.{slice_get}
use Rattle.ds2_code.specs.declared.parts.StagedParts.{StagedParts}
use Rattle.ds2_code.specs.declared.parts.TableReference.{TableReference}
use Rattle.ds2_exec.proofs.GatheredCodes.{cut_at, has_place, place_within}
use Rattle.ds2_exec.proofs.run_codes.RunCodes.references_at.Goals as goal

pub returns-in-None : goal.returns-in-None
returns-in-None c code here =
    absurd (has_place c.self.inside.codes.now c.self.inside.places c.args.number code c.self.invariant.placed (ap (λ (cs : List StagedParts). slice_get cs c.args.number) c.self.view_is ∙ here) (sym c.in-None.ensures))

pub split_at-requires : goal.split_at-requires
split_at-requires c =
    let within = place_within c.self.inside.codes.now c.self.inside.references c.self.inside.places c.args.number c.in-Some.place.now c.self.invariant (sym c.in-Some.ensures) in
    omega (arith, within, ap length c.as_slice.ensures)

pub split_at-requires-in-Some : goal.split_at-requires-in-Some
split_at-requires-in-Some c =
    let within = place_within c.self.inside.codes.now c.self.inside.references c.self.inside.places c.args.number c.in-Some.place.now c.self.invariant (sym c.in-Some.ensures) in
    omega (arith, within, ap length c.as_slice.ensures, c.split_at.ensures.back_len)

pub returns-in-Some : goal.returns-in-Some
returns-in-Some c code here =
    let place = c.in-Some.place.now in
    c.split_at-in-Some.ensures.front
    ∙ ap (λ (rs : List TableReference). take place.count rs) c.split_at.ensures.back
    ∙ ap (λ (rs : List TableReference). take place.count (drop place.start rs)) c.as_slice.ensures
    ∙ cut_at c.self.inside.codes.now c.self.inside.references c.self.inside.places c.args.number code place c.self.invariant (ap (λ (cs : List StagedParts). slice_get cs c.args.number) c.self.view_is ∙ here) (sym c.in-Some.ensures)
