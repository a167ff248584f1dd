use Rattle.std.proofs.Common.{◌∷◌, [], ap, List, length, arith, length-append}
use Rattle.ds2_csv_cells.specs.declared.inference.Inference.{Inference}
use Rattle.ds2_csv.proofs.Knowing.{none-counted, known-more}
use Rattle.ds2_csv.proofs.column.nothing_known.Goals as goal

pub columns-init : goal.columns-init
columns-init c = let none = none-counted c.new-known.result c.new-known.ensures in record { count = none.0; known = none.1 }

pub columns-preserved : goal.columns-preserved
columns-preserved c = record {
  count = let e = ap (λ (t : List Inference). length t) c.in_ok-push.ensures.ok in let n = c.columns.invariant.count in omega (arith, e, n, length-append c.columns.known (c.new.result ∷ []));
  known = known-more c.columns.known c.push.new.self c.new.result c.in_ok-push.ensures.ok c.new.ensures c.columns.invariant.known;
}

pub returns : goal.returns
returns c = record {
  count = let n = c.columns.invariant.count in let e = c.columns.auto.i-end in omega (arith, n, e, c.columns-test.false);
  known = c.columns.invariant.known;
}
