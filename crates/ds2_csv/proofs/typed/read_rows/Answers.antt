use Rattle.std.proofs.Common.{◌≡◌, ◌+◌, ◌++◌, ◌∷◌, ◌∙◌, [], None, Some, Option, List, ℕ, ap, arith, length, length-append, subst, sym, rules}
use Rattle.std.specs.Borrow.{Bor}
use Rattle.std.specs.Prelude.{Err}
use Rattle.ds2_csv.specs.Refusals.{of_row}
use Rattle.ds2_csv.specs.Typed.{HasColumnTypes, IsRowRead}
use Rattle.ds2_csv.specs.declared.refusal.CsvKind.TheVariants.{BadRecord}
use Rattle.ds2_csv.specs.declared.refusal.CsvRefusal.{CsvRefusal}
use Rattle.ds2_csv.proofs.Reading.{left-all, left-more, sheet-odd}
use Rattle.ds2_csv.proofs.TypedLemmas.{rows-ended}
use Rattle.ds2_csv.proofs.typed.read_rows.Goals as goal

pub returns-in_default-clause-read : goal.returns-in_default-clause-read
returns-in_default-clause-read c =
    let left = c.rows.invariant.read in
    rows-ended c.end.result c.rows.typed c.args.columns.now c.args.text.now left.0 c.rows.count left.1
    (left-all c.args.text.now c.rows.rest.now left.0 left.2 c.in_default.ensures) left.3 c.end.ensures

pub returns-in-None-clause-read : goal.returns-in-None-clause-read
returns-in-None-clause-read c =
    let left = c.rows.invariant.read in
    let number : c.rows.count + 1 ≡ 1 + length left.0 = let n = left.1 in omega (arith, n) in
    let row : IsRowRead None c.rows.rest.now c.add_row.new.self c.args.columns.now left.0 =
    subst (λ (o : Option (Bor (List ℕ))). IsRowRead o c.rows.rest.now c.add_row.new.self c.args.columns.now left.0) c.in-None.is
    (c.in_ok-behind.ensures.read left.0 c.rows.rest.now number left.3 c.in-Some.ensures) in
    sheet-odd (length c.args.columns.now) c.args.text.now c.rows.rest.now left.0 row.1 row.0 left.3.even left.2 row.2 row.3
    ∙ ap (λ (n : ℕ). Err (of_row BadRecord (n + 1))) (sym left.1) ∙ ap (λ (r : CsvRefusal). Err r) (sym c.of_row.ensures)

pub rows-preserved : goal.rows-preserved
rows-preserved c =
    let inv = c.rows.invariant in
    let left = inv.read in
    let number : c.rows.count + 1 ≡ 1 + length left.0 = let n = left.1 in omega (arith, n) in
    let row : IsRowRead (Some c.in-Some-2.behind) c.rows.rest.now c.add_row.new.self c.args.columns.now left.0 =
    subst (λ (o : Option (Bor (List ℕ))). IsRowRead o c.rows.rest.now c.add_row.new.self c.args.columns.now left.0) c.in-Some-2.is
    (c.in_ok-behind.ensures.read left.0 c.rows.rest.now number left.3 c.in-Some.ensures) in record {
      types = subst (HasColumnTypes c.add_row.new.self c.args.columns.now) inv.types.known c.in_ok-behind.ensures.types;
      read = (
        left.0 ++ (row.0 ∷ []),
        (let n = length-append left.0 (row.0 ∷ []) in omega (arith, n, number)),
        left-more c.args.text.now c.rows.rest.now c.in-Some-2.behind.now left.0 row.0 left.2 row.1,
        row.3,
      );
      utf8 = search rules;
    }

pub returns-clause-read : goal.returns-clause-read
returns-clause-read c = let left = c.rows.invariant.read in (left.0, record { even = left.3.even; known = left.3.known; read = left.3.read }, λ e. cc e)
