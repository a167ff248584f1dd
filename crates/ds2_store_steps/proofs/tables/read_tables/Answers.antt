use Rattle.std.proofs.Common.{List, Ok, false, arith, refl, subst, ◌∙◌}
use Rattle.ds2_answer.specs.HeldTables.{NamedTable}
use Rattle.ds2_store_steps.specs.TableReads.{ReadsTables}
use Rattle.ds2_store_steps.proofs.Leading.{item_is, none_is_left}
use Rattle.ds2_store_steps.proofs.TableSteps.{apart_after, read_all, read_begins, read_more, tables_done, tables_halt, tables_more, tables_unkept}
use Rattle.ds2_store_steps.proofs.tables.read_tables.Goals as goal

pub names-init : goal.names-init
names-init g c = record {
  all = λ result log now loads. subst (λ (read : List NamedTable). ReadsTables c.args.references.now c.args.names.now read c.args.session.now.log (g.S.Store.files c.args.session.now.store.now) result log now) c.new-read.ensures loads;
  apart = (λ name. false, c.requires.apart);
  same = refl;
  so_far = read_begins c.args.references.now c.args.names.now c.new-read.result c.new-read.ensures;
  same_store = refl;
  reads = omega arith;
  writes = omega arith;
}

pub names-preserved : goal.names-preserved
names-preserved g c = record {
  all = λ result log now loads.
      c.names.invariant.all result log now
      (tables_more c.args.references.now _ _ _ _ _ _ _ _ _ _ (item_is _ _ c.in-len1-up.len_at_least c.name-item.is) c.names.invariant.apart c.in_ok-table.ensures.loads c.in_ok-push.ensures.ok result log now loads);
  apart = apart_after c.args.references.now _ _ _ (item_is _ _ c.in-len1-up.len_at_least c.name-item.is) c.names.invariant.apart;
  same = c.in_ok-table.ensures.loads.2 ∙ c.names.invariant.same;
  so_far = read_more c.args.references.now _ _ _ _ _ _ _ _ (item_is _ _ c.in-len1-up.len_at_least c.name-item.is) c.in_ok-push.ensures.ok c.in_ok-table.ensures.loads.0 c.names.invariant.so_far;
  same_store = c.in_ok-table.ensures.cause.same_store ∙ c.names.invariant.same_store;
  reads = omega (arith, c.in_ok-table.ensures.cause.read);
  writes = omega (arith, c.in_ok-table.ensures.cause.write);
}

pub returns-clause-loads : goal.returns-clause-loads
returns-clause-loads g c =
    c.names.invariant.all (Ok c.names.read) c.names.session.log (g.S.Store.files c.names.session.store.now) (tables_done c.args.references.now _ c.names.read c.names.session.log (g.S.Store.files c.names.session.store.now) (none_is_left _ c.in_default.len_below))

pub returns-clause-kept : goal.returns-clause-kept
returns-clause-kept g c = (read_all c.args.references.now c.args.names.now _ c.names.read (none_is_left _ c.in_default.len_below) c.names.invariant.so_far, c.names.invariant.same)

pub returns-in_err-table-clause-loads : goal.returns-in_err-table-clause-loads
returns-in_err-table-clause-loads g c =
    c.names.invariant.all c.from_residual.result c.read_one.new.session.log (g.S.Store.files c.read_one.new.session.store.now)
    (tables_halt c.args.references.now _ _ _ _ _ _ _ _ _ _ (item_is _ _ c.in-len1-up.len_at_least c.name-item.is) c.from_residual.ensures.1 c.in_err-table.ensures.loads)

pub returns-in_err-push-clause-loads : goal.returns-in_err-push-clause-loads
returns-in_err-push-clause-loads g c =
    c.names.invariant.all c.from_residual-in_err-push.result c.read_one.new.session.log (g.S.Store.files c.read_one.new.session.store.now) (tables_unkept c.args.references.now _ _ _ _ _ _ _ c.from_residual-in_err-push.ensures.1 c.in_ok-table.ensures.loads.2)
