use Rattle.std.proofs.Common.{◌≡◌, ◌+◌, ◌++◌, ◌∷◌, [], List, ℕ, arith, length, length-append, refl, subst, sym}
use Rattle.std.proofs.lemmas.Bool.{eqb-false, eqb-true}
use Rattle.ds2_csv_records.specs.Cells.{spelled}
use Rattle.ds2_csv.specs.Typed.{HasColumnTypes}
use Rattle.ds2_csv.proofs.TypedLemmas.{bound-types, reading-begun, reading-ended}
use Rattle.ds2_csv.proofs.typed.Typed.add_row.Goals as goal

pub cells-init : goal.cells-init
cells-init c = record {
  types = bound-types c.args.self.now c.bound.new.self c.args.columns.now c.bound.ensures.known c.bound.ensures.values c.requires.types;
  read = λ rows text numbered is within. (
    [],
    refl,
    reading-begun c.args.self.now c.bound.new.self c.args.columns.now rows c.args.number numbered c.bound.ensures.few c.bound.ensures.known is,
    within,
  );
}

pub cells-preserved : goal.cells-preserved
cells-preserved c = let inv = c.cells.invariant in record {
  types = subst (HasColumnTypes c.add_cell.new.self c.args.columns.now) inv.types.known c.in_ok-add_cell.ensures.types;
  read = λ rows text numbered is within. let seen = inv.read rows text numbered is within in (
    seen.0 ++ (spelled c.cells.taken.cell ∷ []),
    (let n = length-append seen.0 (spelled c.cells.taken.cell ∷ []) in let k = seen.1 in omega (arith, n, k)),
    c.in_ok-add_cell.ensures.read rows seen.0 numbered seen.1 seen.2,
    c.next-taken.ensures.within text seen.0 seen.3,
  );
}

pub returns-then-is_last-clause-read : goal.returns-then-is_last-clause-read
returns-then-is_last-clause-read c rows text numbered is within =
    let seen = c.cells.invariant.read rows text numbered is within in
    let row : List (List ℕ) = seen.0 ++ (spelled c.cells.taken.cell ∷ []) in
    let last : 1 + c.cells.count ≡ length c.args.columns.now = eqb-true (1 + c.cells.count) (length c.args.columns.now) (sym c.if-is_last.ensures) in
    let wide : length row ≡ length c.args.columns.now = let n = length-append seen.0 (spelled c.cells.taken.cell ∷ []) in let k = seen.1 in omega (arith, n, k, last) in (
      row,
      c.behind-behind.ensures text seen.0 seen.3,
      wide,
      reading-ended c.add_cell-2.new.self c.args.columns.now rows row (length c.cells.self.known) c.in_ok-add_cell-2.ensures.types wide
          (c.in_ok-add_cell-2.ensures.read rows seen.0 numbered seen.1 seen.2),
    )

pub returns-else-is_last-clause-read : goal.returns-else-is_last-clause-read
returns-else-is_last-clause-read c rows text numbered is within =
    let seen = c.cells.invariant.read rows text numbered is within in
    let row : List (List ℕ) = seen.0 ++ (spelled c.cells.taken.cell ∷ []) in (
      row,
      _,
      c.behind-behind.ensures text seen.0 seen.3,
      λ e. eqb-false (1 + c.cells.count) (length c.args.columns.now) (sym c.if-is_last.ensures)
          (let n = length-append seen.0 (spelled c.cells.taken.cell ∷ []) in let k = seen.1 in omega (arith, n, k, e)),
    )
