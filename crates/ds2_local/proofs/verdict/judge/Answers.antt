use Rattle.std.proofs.Common.{◌≡◌, ◌++◌, map, sym, ap, ◌∙◌}
use Rattle.std.proofs.lemmas.Result.{IfOk-weaker}
use Rattle.ds2_meaning.specs.declared.units.TypedThread.{out-TypedThread}
use Rattle.ds2_deeds.specs.CodeTrees.{nameless_tree}
use Rattle.ds2_deeds.specs.NamedLocations.{locations_named}
use Rattle.ds2_deeds.specs.NamedMethods.{methods_named}
use Rattle.ds2_layout.specs.declared.slot.Layout.{Layout}
use Rattle.ds2_layout.specs.Layout.{location_of_slot}
use Rattle.ds2_locality.specs.Verdict.{verdict_of, objects_in_order}
use Rattle.ds2_local.specs.JudgedTrees.{judged_thread}
use Rattle.ds2_local.specs.Verdicts.{IsSoundAt}
use Rattle.ds2_local.proofs.JudgedLemmas.{numbered_thread, own_first, told_distinct}
use Rattle.ds2_local.proofs.ToldLemmas.{cells_are_told}
use Rattle.ds2_local.proofs.verdict.judge.Goals as goal

pub invariant_of-numbers-clause-distinct : goal.invariant_of-numbers-clause-distinct
invariant_of-numbers-clause-distinct c =
    let told = map location_of_slot c.as_slice.result.now ++ objects_in_order c.args.names.now (nameless_tree (out-TypedThread c.args.thread.now).program) in
    told_distinct c.once_told_are_distinct.ensures c.as_slice-3.result.now told (ap (λ l. locations_named l) c.as_slice-3.ensures ∙ c.in_ok-locations.ensures)

pub invariant_of-numbers-clause-own_first : goal.invariant_of-numbers-clause-own_first
invariant_of-numbers-clause-own_first c =
    own_first c.own_methods_are_first.ensures (out-TypedThread c.args.thread.now).program c.len.result c.as_slice-5.result.now c.len.ensures
    (ap (λ l. methods_named l) c.as_slice-5.ensures ∙ c.in_ok-methods.ensures)

pub returns-clause-verdict : goal.returns-clause-verdict
returns-clause-verdict c =
    let names = c.args.names.now in
    let t = judged_thread names c.args.thread.now in
    let numbered =
    numbered_thread names c.args.thread.now _ c.as_slice.result.now (c.as_slice.ensures ∙ ap (λ (l : Layout). l.slots) c.in_ok-layout.ensures)
    (ap (λ l. locations_named l) c.as_slice-3.ensures ∙ c.in_ok-locations.ensures) (ap (λ l. methods_named l) c.as_slice-5.ensures ∙ c.in_ok-methods.ensures) in
    c.verdict_by_numbers.ensures t numbered (cells_are_told t c.requires (c.all_objects_are_told.ensures t.program t.run_place t.term_place names))

pub returns-clause-independent : goal.returns-clause-independent
returns-clause-independent c =
    let names = c.args.names.now in
    let t = judged_thread names c.args.thread.now in
    let numbered =
    numbered_thread names c.args.thread.now _ c.as_slice.result.now (c.as_slice.ensures ∙ ap (λ (l : Layout). l.slots) c.in_ok-layout.ensures)
    (ap (λ l. locations_named l) c.as_slice-3.ensures ∙ c.in_ok-locations.ensures) (ap (λ l. methods_named l) c.as_slice-5.ensures ∙ c.in_ok-methods.ensures) in
    let told = c.all_objects_are_told.ensures t.program t.run_place t.term_place names in
    IfOk-weaker c.verdict_by_numbers.result (λ verdict. verdict ≡ verdict_of t) (λ verdict. IsSoundAt t.program verdict)
    (λ verdict e grain is. c.local_is_independent.ensures t c.requires told grain (sym e ∙ is)) (c.verdict_by_numbers.ensures t numbered (cells_are_told t c.requires told))
