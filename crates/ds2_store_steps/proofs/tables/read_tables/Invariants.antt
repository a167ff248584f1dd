use Rattle.std.proofs.Common.{◌≡◌, ◌≤◌, ℕ, Bool, List, [], Option, Result, length}
use Rattle.ds2_outside.specs.Files.{Files}
use Rattle.ds2_answer.specs.HeldTables.{NamedTable}
use Rattle.ds2_store_steps.specs.declared.halt.Halt.{Halt}
use Rattle.ds2_store_steps.specs.TableReads.{DifferFrom, ReadsTables}
use Rattle.ds2_store_steps.proofs.TableSteps.{AreReadSoFar}
use Rattle.ds2_store_steps.proofs.tables.read_tables.Given as goal

abbrev pub invariant-names : goal.invariant-names
invariant-names g l = record {
  all : (result : Result (List NamedTable) Halt) (log : List ℕ) (now : Option Files) → ReadsTables l.references l.rest l.read l.session.log (g.S.Store.files l.session.store.now) result log now
      → ReadsTables l.references l.names [] l.initial.session.log (g.S.Store.files l.initial.session.store.now) result log now;
  apart : (seen : List ℕ → Bool) × DifferFrom seen l.rest;
  same : g.S.Store.files l.session.store.now ≡ g.S.Store.files l.initial.session.store.now;
  so_far : AreReadSoFar l.references l.names l.rest l.read;
  same_store : l.session.store.ghost_name ≡ l.initial.session.store.ghost_name;
  reads : g.S.Store.read_faults l.initial.session.store.now ≤ g.S.Store.read_faults l.session.store.now;
  writes : g.S.Store.write_faults l.initial.session.store.now ≤ g.S.Store.write_faults l.session.store.now;
}

abbrev pub decreases-names : goal.decreases-names
decreases-names g l = length l.rest
