use Rattle.std.proofs.Common.{[], sym, ap, ◌∙◌}
use Rattle.std.specs.Prelude.{if◌then◌else◌}
use Rattle.ds2_names.specs.NameRules.{from_each}
use Rattle.ds2_names.specs.SourceUnit.{UnitSource, is_thread}
use Rattle.ds2_names.specs.UnitRules.{without_columns}
use Rattle.ds2_scope.specs.CodeUnits.{unit_kind}
use Rattle.ds2_scope.specs.Earliest.{earliest}
use Rattle.ds2_given_names.specs.OutputRules.{name_place}
use Rattle.ds2_given_names.proofs.output_rules.in_thread.Goals as goal

pub returns-in-Package : goal.returns-in-Package
returns-in-Package c = λ all are statements same.
    let kind = ap (λ (u : UnitSource). u.kind) same ∙ ap unit_kind c.in-Package.is in
    sym (λ i. earliest (from_each (without_columns all []) (if is_thread (kind i) then name_place (same i).name else [])))

pub returns-in_ok-place-in-Thread : goal.returns-in_ok-place-in-Thread
returns-in_ok-place-in-Thread c = λ all are statements same.
    let kind = ap (λ (u : UnitSource). u.kind) same ∙ ap unit_kind c.in-Thread.is in
    c.in_ok-place-in-Thread.ensures all are statements
    ∙ sym (λ i. earliest (from_each (without_columns all []) (if is_thread (kind i) then name_place (same i).name else [])))

pub returns-in-Data : goal.returns-in-Data
returns-in-Data c = λ all are statements same.
    let kind = ap (λ (u : UnitSource). u.kind) same ∙ ap unit_kind c.in-Data.is in
    sym (λ i. earliest (from_each (without_columns all []) (if is_thread (kind i) then name_place (same i).name else [])))
