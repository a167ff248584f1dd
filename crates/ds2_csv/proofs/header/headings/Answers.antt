use Rattle.std.proofs.Common.{◌≡◌, ◌≤◌, ◌+◌, ◌∷◌, [], ◌++◌, List, ℕ, length, map, ap, sym, arith, length-append}
use Rattle.std.specs.Prelude.{Ok, Err}
use Rattle.std.proofs.lemmas.List.{length-map}
use Rattle.ds2_base.specs.Says.{Says}
use Rattle.ds2_csv_records.specs.Cells.{spelled}
use Rattle.ds2_csv.specs.Header.{distinct_heading, heading_of, headings_of}
use Rattle.ds2_csv.specs.declared.heading.Heading.{Heading}
use Rattle.ds2_csv.proofs.HeaderLemmas.{headings-took, headings-stopped, headings-ended, handed_on}
use Rattle.ds2_csv.proofs.Spelled.{field-spelled}
use Rattle.ds2_csv.proofs.header.headings.Goals as goal

-- one more is counted
counted : (before new : List Heading) (h : Heading) (i : ℕ) → new ≡ before ++ (h ∷ []) → length before ≡ i → length new ≡ i + 1
counted before new h i is count = rw is (omega (arith, length-append before (h ∷ [])))

pub cells-preserved : goal.cells-preserved
cells-preserved c =
    let inv = c.cells.invariant in
    let cells : List (List ℕ) = map spelled c.args.header.now in
    let column : c.cells.i + 1 ≡ length c.cells.headings + 1 = ap (λ n. n + 1) (sym inv.count) in
    let read : distinct_heading c.cells.headings (c.cells.i + 1) (heading_of (spelled c.item-cell.result)) ≡ Ok c.in_ok-heading.heading = rw c.as_slice.ensures at c.in_ok-heading.ensures in
    record {
      headings = headings-took c.cells.headings c.push.new.self c.in_ok-heading.heading cells c.cells.i (c.cells.i + 1) (spelled c.item-cell.result) (headings_of cells)
          (field-spelled c.args.header.now c.cells.i c.item-cell.result c.item-cell.ensures) column read c.in_ok-push.ensures.ok inv.headings;
      count = counted c.cells.headings c.push.new.self c.in_ok-heading.heading c.cells.i c.in_ok-push.ensures.ok inv.count;
    }

pub returns-in_err-heading : goal.returns-in_err-heading
returns-in_err-heading c =
    let inv = c.cells.invariant in
    let cells : List (List ℕ) = map spelled c.args.header.now in
    let column : c.cells.i + 1 ≡ length c.cells.headings + 1 = ap (λ n. n + 1) (sym inv.count) in
    let read : Says {T = Heading} (Err c.in_err-heading.field-0.0) (distinct_heading c.cells.headings (c.cells.i + 1) (heading_of (spelled c.item-cell.result))) = rw c.as_slice.ensures at c.in_err-heading.ensures in
    handed_on c.from_residual-in_err-heading.result c.in_err-heading.field-0.0 (headings_of cells) c.from_residual-in_err-heading.ensures.1
    (headings-stopped c.cells.headings c.in_err-heading.field-0.0 cells c.cells.i (c.cells.i + 1) (spelled c.item-cell.result) (headings_of cells)
    (field-spelled c.args.header.now c.cells.i c.item-cell.result c.item-cell.ensures) column read inv.headings)

pub returns : goal.returns
returns c =
    let cells : List (List ℕ) = map spelled c.args.header.now in
    let few : length cells ≤ c.cells.i = let e = length-map c.args.header.now spelled in omega (arith, e, c.cells-test.false) in
    headings-ended c.cells.headings cells c.cells.i _ few c.cells.invariant.headings
