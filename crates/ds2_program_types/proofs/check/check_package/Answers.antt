use Rattle.std.proofs.Common.{List, sym, ◌∙◌, subst}
use Rattle.ds2_elaboration.specs.ProgramTypes.{broken_type_rules}
use Rattle.ds2_elaboration.specs.SourceTypes.{unit_names}
use Rattle.ds2_names.specs.SourceUnit.{UnitSource, columns_stored, unit_of_package}
use Rattle.ds2_names.specs.declared.schemas.NamedSchema.{NamedSchema}
use Rattle.ds2_scope.specs.UnitNames.{NamesAre}
use Rattle.ds2_tree.specs.UnitViews.{package_tree}
use Rattle.ds2_types.specs.Judgements.{IsOutcome}
use Rattle.ds2_program_types.specs.TypedPrograms.{IsTypedPackage}
use Rattle.ds2_program_types.proofs.check.check_package.Goals as goal

pub returns : goal.returns
returns c = λ before m t n.
    let u = unit_of_package (package_tree c.args.unit.now) in
    let tables = columns_stored c.args.tables.now in
    let own = c.unit_of_package-own.ensures in
    let hand = c.at_hand-hand.ensures in
    let named = subst (λ (w : UnitSource). NamesAre c.args.names.now (unit_names tables before w)) (sym own) n in
    subst (λ (l : List NamedSchema). IsOutcome (IsTypedPackage (columns_stored l) before c.args.unit.now) (broken_type_rules (columns_stored l) before u) c.in_ok-typed.typed) hand.tables
    (c.in_ok-typed.ensures before t m (hand.hand before (c.in_ok-read.ensures before t) named) (hand.unit ∙ own))
