use Rattle.std.proofs.Common.{Ok, Err, ap, subst}
use Rattle.ds2_elaboration.specs.ProgramTypes.{broken_type_rules}
use Rattle.ds2_names.specs.SourceUnit.{UnitSource, unit_of_package}
use Rattle.ds2_tree.specs.UnitViews.{package_tree}
use Rattle.ds2_types.specs.Judgements.{IsOutcome}
use Rattle.ds2_simple_statement_types.proofs.PartOutcomes.{stands_of}
use Rattle.ds2_program_types.specs.PackageMethods.{AreInstancesAndCalled}
use Rattle.ds2_program_types.specs.UnitsAtHand.{columns_at_hand}
use Rattle.ds2_program_types.proofs.packages.typed_package.Goals as goal

pub returns-in-Err : goal.returns-in-Err
returns-in-Err c = λ before t m h e.
    let u = unit_of_package (package_tree c.args.source.now) in
    let tables = columns_at_hand c.args.unit in
    let told = subst (λ (x : UnitSource). IsOutcome (AreInstancesAndCalled tables before x) (broken_type_rules tables before x) c.in_ok-typed.typed) e (c.in_ok-typed.ensures before t m h) in
    stands_of (AreInstancesAndCalled tables before u) (broken_type_rules tables before u) c.in_ok-typed.typed (Err c.in-Err.refusal) told c.in-Err.is

pub returns-in_ok-own-in-Ok : goal.returns-in_ok-own-in-Ok
returns-in_ok-own-in-Ok c = λ before t m h e.
    let u = unit_of_package (package_tree c.args.source.now) in
    let tables = columns_at_hand c.args.unit in
    let told = subst (λ (x : UnitSource). IsOutcome (AreInstancesAndCalled tables before x) (broken_type_rules tables before x) c.in_ok-typed.typed) e (c.in_ok-typed.ensures before t m h) in
    let so = stands_of (AreInstancesAndCalled tables before u) (broken_type_rules tables before u) c.in_ok-typed.typed (Ok c.in-Ok.both) told c.in-Ok.is in
    (so.0, c.in_ok-own-in-Ok.ensures tables before so.1.0 so.1.1)
