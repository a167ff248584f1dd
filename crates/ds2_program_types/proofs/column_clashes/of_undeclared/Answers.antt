use Rattle.std.proofs.Common.{refl, arith}
use Rattle.ds2_names.specs.SourceUnit.{columns_stored}
use Rattle.ds2_program_types.proofs.RuleLists.{one_more_ruled, all_ruled}
use Rattle.ds2_program_types.specs.MethodRules.{column_rules}
use Rattle.ds2_program_types.proofs.column_clashes.of_undeclared.Goals as goal

pub columns-init : goal.columns-init
columns-init c = λ before u all r h. refl

pub columns-preserved : goal.columns-preserved
columns-preserved c = λ before u all r h.
    one_more_ruled (λ n. column_rules (columns_stored c.args.from.tables.now) before u all n.name) c.args.columns.now c.columns.n-index c.n-item.result c.columns.found c.clash_of-own.result
    c.lesser-found.result (omega arith) c.n-item.is (c.columns.invariant before u all r h) (c.clash_of-own.ensures before u all r h) c.lesser-found.ensures

pub returns : goal.returns
returns c = λ before u all r h.
    all_ruled (λ n. column_rules (columns_stored c.args.from.tables.now) before u all n.name) c.args.columns.now c.columns.n-index c.columns.found (omega arith) (c.columns.invariant before u all r h)
