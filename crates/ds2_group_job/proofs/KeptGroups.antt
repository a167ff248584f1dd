-- What groups gave, kept one after the other.
use Rattle.std.proofs.Common.{◌≡◌, ◌+◌, List, [], ◌∷◌, ◌++◌, refl, sym, ap, ◌∙◌, append_assoc, arith}
use Rattle.std.specs.List.{flat_map}
use Rattle.std.proofs.lemmas.List.{append-nil, map-append}
use Rattle.ds2_value.specs.Row.{Row}
use Rattle.ds2_value.specs.declared.fault.Ending.{Ending}
use Rattle.ds2_value.specs.declared.fault.Ending.TheVariants.{Normal}
use Rattle.ds2_bags.specs.declared.group_end.GroupEnd.{GroupEnd}
use Rattle.ds2_machine.specs.declared.record.OutRow.{OutRow}
use Rattle.ds2_machine.specs.declared.record.UnitRecord.{UnitRecord}
use Rattle.ds2_unit.specs.Threads.{rows_kept}
use Rattle.ds2_unit.specs.declared.units_end.UnitsEnd.{UnitsEnd}
use Rattle.ds2_group_job.specs.GroupRuns.{last_ending, executed_together, given_together}
use Rattle.ds2_group_job.specs.StageJobs.{HasKeptGroups}

-- one more row behind those that were kept
pub row_kept : (before : List Row) (rows : List OutRow) (done : List Row) (row : OutRow) → rows_kept rows ≡ before ++ done → rows_kept (rows ++ row ∷ []) ≡ before ++ (done ++ row.row ∷ [])
row_kept before rows done row so_far =
    map-append (λ (r : OutRow). r.row) rows (row ∷ []) ∙ ap (λ rs. rs ++ row.row ∷ []) so_far ∙ append_assoc before done (row.row ∷ [])

-- the rows alone, one more
pub row_alone : (rows : List OutRow) (row : OutRow) (done : List Row) → done ≡ rows_kept rows → done ++ row.row ∷ [] ≡ rows_kept (rows ++ row ∷ [])
row_alone rows row done so_far = ap (λ rs. rs ++ row.row ∷ []) so_far ∙ sym (map-append (λ (r : OutRow). r.row) rows (row ∷ []))

flat_more : {A : Type 0} (f : GroupEnd → List A) (ends : List GroupEnd) (e : GroupEnd) → flat_map f (ends ++ e ∷ []) ≡ flat_map f ends ++ f e
flat_more f [] e = append-nil (f e)
flat_more f (x ∷ ends) e = ap (λ xs. f x ++ xs) (flat_more f ends e) ∙ sym (append_assoc (f x) (flat_map f ends) (f e))

last_more : (before : Ending) (ends : List GroupEnd) (e : GroupEnd) → last_ending before (ends ++ e ∷ []) ≡ e.ending
last_more before [] e = refl
last_more before (x ∷ ends) e = last_more x.ending ends e

executed_more : (ends : List GroupEnd) (e : GroupEnd) → executed_together (ends ++ e ∷ []) ≡ executed_together ends + e.executed
executed_more [] e = let same : e.executed + 0 ≡ 0 + e.executed = omega arith in same
executed_more (x ∷ ends) e =
    let more = executed_more ends e in
    let all : x.executed + executed_together (ends ++ e ∷ []) ≡ (x.executed + executed_together ends) + e.executed = omega (arith, more) in
    all

-- nothing yet
pub kept_none : (written : UnitRecord) (end : UnitsEnd) → end.ending ≡ Normal → end.executed ≡ 0 → HasKeptGroups written written (given_together []) end
kept_none written end ending executed = record { rows = sym (append-nil (rows_kept written.rows)); lines = sym (append-nil written.lines); ending = ending; executed = executed }

-- what one more group gave
pub kept_more : (before so_far now : UnitRecord) (ends : List GroupEnd) (e : GroupEnd) (all one end : UnitsEnd) → HasKeptGroups before so_far (given_together ends) all → HasKeptGroups so_far now e one
    → end.ending ≡ one.ending → end.executed ≡ all.executed + one.executed → HasKeptGroups before now (given_together (ends ++ e ∷ [])) end
kept_more before so_far now ends e all one end kept more ending executed = record {
  rows = more.rows ∙ ap (λ rs. rs ++ e.rows) kept.rows ∙ append_assoc (rows_kept before.rows) (flat_map (λ (x : GroupEnd). x.rows) ends) e.rows ∙ ap (λ rs. rows_kept before.rows ++ rs) (sym (flat_more (λ (x : GroupEnd). x.rows) ends e));
  lines = more.lines ∙ ap (λ ls. ls ++ e.lines) kept.lines ∙ append_assoc before.lines (flat_map (λ (x : GroupEnd). x.lines) ends) e.lines ∙ ap (λ ls. before.lines ++ ls) (sym (flat_more (λ (x : GroupEnd). x.lines) ends e));
  ending = ending ∙ more.ending ∙ sym (last_more Normal ends e);
  executed = executed ∙ (λ i. kept.executed i + more.executed i) ∙ sym (executed_more ends e);
}
