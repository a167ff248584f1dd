use Rattle.std.proofs.Common.{◌∙◌, List, map, refl, sym, subst}
use Rattle.std.specs.List.{AllByRecursion}
use Rattle.ds2_tree.specs.Units as tree
use Rattle.ds2_tree.specs.UnitViews.{part_tree, source_tree}
use Rattle.ds2_tree.specs.declared.units.SourcePart.{SourcePart}
use Rattle.ds2_names.specs.SourceUnit.{columns_stored}
use Rattle.ds2_elaboration.specs.Elaboration.{before_source}
use Rattle.ds2_elaboration.specs.TypedPrograms.{StandsInSource}
use Rattle.ds2_compile.specs.TypedSoFar.{BecomesWithRest}
use Rattle.ds2_compile.proofs.SourceSteps.{all_threads, all_typed, no_parts_left, parts_left, source_begins, source_begins_behind, source_ended, text_stands}
use Rattle.ds2_compile.proofs.programs.typed_source.Goals as goal

pub parts-init : goal.parts-init
parts-init c =
    let stored = c.args.schemas.now.tables in
    let parts = source_tree c.args.source.now in
    let t = c.in_ok-so_far.so_far in
    let kept = c.in_ok-so_far.ensures in
    let tables_are = kept.tables ∙ c.as_slice.ensures in
    let types = kept.known (before_source parts) refl refl in
    record {
      leads =
          subst (λ (ps : List SourcePart). BecomesWithRest (columns_stored stored) parts t (map part_tree ps)) (sym c.as_slice-rest.ensures)
          (source_begins stored parts t kept.none kept.made tables_are kept.before types kept.threads);
      stands =
          subst (λ (ps : List SourcePart). AllByRecursion StandsInSource (map part_tree ps)) (sym c.as_slice-rest.ensures)
          (text_stands c.tokens_stand_in_order.ensures parts c.requires.text);
      behind = source_begins_behind stored parts t kept.made tables_are kept.before types c.requires.schemas;
    }

pub with_part-requires-clause-stands : goal.with_part-requires-clause-stands
with_part-requires-clause-stands c =
    (subst (λ (ps : List tree.SourcePart). AllByRecursion StandsInSource ps) (parts_left c.parts.rest.now c.part-item.result c.in-len1-up.len_at_least c.part-item.is) c.parts.invariant.stands).0

pub parts-preserved : goal.parts-preserved
parts-preserved c =
    let tables = columns_stored c.args.schemas.now.tables in
    let parts = source_tree c.args.source.now in
    let left = parts_left c.parts.rest.now c.part-item.result c.in-len1-up.len_at_least c.part-item.is in
    record {
      leads =
          c.in_ok-so_far-2.ensures.leads tables parts _
          (subst (λ (ps : List tree.SourcePart). BecomesWithRest tables parts c.parts.so_far ps) left c.parts.invariant.leads);
      stands = (subst (λ (ps : List tree.SourcePart). AllByRecursion StandsInSource ps) left c.parts.invariant.stands).1;
      behind = c.in_ok-so_far-2.ensures.behind;
    }

pub returns-in_err-so_far-2-clause-programs : goal.returns-in_err-so_far-2-clause-programs
returns-in_err-so_far-2-clause-programs c =
    let tables = columns_stored c.args.schemas.now.tables in
    let parts = source_tree c.args.source.now in
    let left = parts_left c.parts.rest.now c.part-item.result c.in-len1-up.len_at_least c.part-item.is in
    source_ended tables parts c.in_err-so_far-2.field-0.0 c.from_residual-in_err-so_far-2.result c.from_residual-in_err-so_far-2.ensures.1
    (c.in_err-so_far-2.ensures.leads tables parts _ (subst (λ (ps : List tree.SourcePart). BecomesWithRest tables parts c.parts.so_far ps) left c.parts.invariant.leads))

pub returns-clause-programs : goal.returns-clause-programs
returns-clause-programs c =
    let tables = columns_stored c.args.schemas.now.tables in
    let parts = source_tree c.args.source.now in
    let lead =
    subst (λ (ps : List tree.SourcePart). BecomesWithRest tables parts c.parts.so_far ps) (no_parts_left c.parts.rest.now c.in_default.len_below) c.parts.invariant.leads in
    all_typed tables parts c.parts.so_far c.ended.result.programs lead c.ended.ensures.programs

pub returns-clause-threads : goal.returns-clause-threads
returns-clause-threads c =
    let tables = columns_stored c.args.schemas.now.tables in
    let parts = source_tree c.args.source.now in
    let lead =
    subst (λ (ps : List tree.SourcePart). BecomesWithRest tables parts c.parts.so_far ps) (no_parts_left c.parts.rest.now c.in_default.len_below) c.parts.invariant.leads in
    all_threads tables parts c.parts.so_far c.ended.result.threads lead c.ended.ensures.threads
