use Rattle.std.proofs.Common.{◌≡◌, ◌∙◌, ◌++◌, ◌∷◌, [], List, take, ap, arith, refl, subst, Some, slice_get, map}
use Rattle.std.proofs.lemmas.List.{take_all}
use Rattle.ds2_columns.specs.Columns.{ColumnContents}
use Rattle.ds2_value.specs.declared.schema.Column.{Column}
use Rattle.ds2_csv.proofs.TypedLemmas.{empty-columns, empty-more, empty-types, empty-values, reading-none, some-here}
use Rattle.ds2_csv.proofs.typed.Typed.new.Goals as goal

pub columns-init : goal.columns-init
columns-init c = c.in_ok-values.ensures.items

pub columns-preserved : goal.columns-preserved
columns-preserved c =
    c.in_ok-push.ensures.items ∙ ap (λ (t : List ColumnContents). t ++ (c.reserve.new.self ∷ [])) c.columns.invariant
    ∙ ap (λ (v : ColumnContents). empty-columns (take c.columns.column-index c.args.columns.now) ++ (v ∷ [])) (c.in_ok-reserve.ensures ∙ c.new-empty.ensures)
    ∙ empty-more c.args.columns.now c.columns.column-index _ c.column-item.result (some-here c.args.columns.now c.columns.column-index c.column-item.result c.columns-test.true c.column-item.is) (omega arith)

pub returns-clause-types : goal.returns-clause-types
returns-clause-types c =
    let whole = c.columns.invariant ∙ ap (λ (t : List Column). empty-columns t) (take_all c.columns.column-index c.args.columns.now (omega (arith, c.columns-test.false))) in
    record { types = ap (λ (t : List ColumnContents). map (λ (v : ColumnContents). v.ty) t) whole ∙ empty-types c.args.columns.now; known = refl; few = c.requires.count }

pub returns-clause-read : goal.returns-clause-read
returns-clause-read c =
    let whole = c.columns.invariant ∙ ap (λ (t : List Column). empty-columns t) (take_all c.columns.column-index c.args.columns.now (omega (arith, c.columns-test.false))) in
    reading-none _ c.args.columns.now (λ k v e. empty-values c.args.columns.now k v (subst (λ (t : List ColumnContents). slice_get t k ≡ Some v) whole e)) refl c.requires.known
