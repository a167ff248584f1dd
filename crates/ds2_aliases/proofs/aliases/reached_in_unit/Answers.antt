use Rattle.std.proofs.Common.{length, sym, ap, ◌∙◌}
use Rattle.std.proofs.lemmas.List.{nil_from_length}
use Rattle.std.proofs.lemmas.Bool.{eqb-true}
use Rattle.std.proofs.lemmas.Result.{IfOk-weaker}
use Rattle.ds2_names.specs.NameRules.{from_each}
use Rattle.ds2_scope.specs.Earliest.{earliest}
use Rattle.ds2_aliases.specs.HandedGlobals.{reached_place, handings_of_method}
use Rattle.ds2_aliases.proofs.aliases.reached_in_unit.Goals as goal

pub returns-then-is_empty : goal.returns-then-is_empty
returns-then-is_empty c =
    let unit = c.args.parts.now in
    let handed = c.in_ok-handings.ensures ∙ ap (from_each handings_of_method) c.as_slice.ensures in
    let empty = nil_from_length c.in_ok-handings.handings (eqb-true (length c.in_ok-handings.handings) 0 (sym c.is_empty.ensures ∙ c.if-is_empty.true)) in
    sym (ap (λ hs. earliest (from_each (reached_place unit) hs)) (sym handed ∙ empty))

pub returns : goal.returns
returns c =
    let unit = c.args.parts.now in
    let handed = c.in_ok-handings.ensures ∙ ap (from_each handings_of_method) c.as_slice.ensures in
    IfOk-weaker c.reached_handing.result _ _
    (λ place h. h unit c.in_ok-links.ensures ∙ ap (λ hs. earliest (from_each (reached_place unit) hs)) (c.as_slice-else-is_empty.ensures ∙ handed)) c.reached_handing.ensures
