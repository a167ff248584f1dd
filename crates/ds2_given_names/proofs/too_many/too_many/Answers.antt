use Rattle.std.proofs.Common.{sym, ap, ◌∙◌}
use Rattle.ds2_names.specs.NameRules.{from_each}
use Rattle.std.specs.Prelude.{map}
use Rattle.ds2_names.specs.SourceUnit.{names_of_unit, tables_of_reading}
use Rattle.ds2_names.specs.UnitRules.{beyond, places_of}
use Rattle.ds2_scope.specs.CodeUnits.{unit_source}
use Rattle.ds2_scope.specs.Earliest.{earlier_of, earliest}
use Rattle.ds2_given_names.specs.TooMany.{input_place, too_many_in_instance}
use Rattle.ds2_scope.proofs.UnitNameLemmas.{reading_is}
use Rattle.ds2_given_names.proofs.TooManyLemmas.{limits_are}
use Rattle.ds2_given_names.proofs.too_many.too_many.Goals as goal

pub returns : goal.returns
returns c = λ tables known are.
    let bys = c.in_ok-bys.ensures ∙ ap (λ ns. earliest (beyond 16 (places_of ns))) c.as_slice.ensures in
    let inputs = c.in_ok-inputs.ensures ∙ ap (λ r. earliest (beyond 16 (map input_place (tables_of_reading r)))) (reading_is tables known (unit_source c.args.unit)) in
    let variables = c.in_ok-variables.ensures ∙ ap (λ is. earliest (from_each too_many_in_instance is)) c.requires in
    c.earlier_of-4.ensures
    ∙ (λ i. earlier_of (c.earlier_of-2.ensures i) (c.earlier_of-3.ensures i))
    ∙ (λ i. earlier_of (earlier_of (c.earlier_of-first.ensures i) (c.earlier_of-second.ensures i)) (earlier_of c.in_ok-objects.objects c.in_ok-variables.variables))
    ∙ (λ i. earlier_of (earlier_of (earlier_of c.in_ok-globals.globals c.in_ok-locals.locals) (earlier_of c.in_ok-outputs.outputs (c.earlier_of.ensures i))) (earlier_of c.in_ok-objects.objects c.in_ok-variables.variables))
    ∙ limits_are (names_of_unit tables known (unit_source c.args.unit)) c.args.names.now are _ _ _ _ _ _ _
    c.in_ok-globals.ensures c.in_ok-locals.ensures c.in_ok-outputs.ensures inputs bys c.in_ok-objects.ensures variables
