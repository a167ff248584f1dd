use Rattle.std.proofs.Common.{◌≡◌, ℕ, List, [], refl, sym, ap, ◌∙◌}
use Rattle.ds2_table.specs.Table.{Contents}
use Rattle.ds2_code.specs.declared.parts.ProgramParts.{ProgramParts}
use Rattle.ds2_code_answer.specs.CodeTables.{tables_of_stage}
use Rattle.ds2_unit.specs.ProgramRun.{grain_asked}
use Rattle.ds2_unit.specs.Threads.{chain_answer}
use Rattle.ds2_unit.proofs.StagedCode.{ready_thread}
use Rattle.ds2_group_job.specs.StageRuns.{RunnableStage, answer_of_thread}
use Rattle.ds2_group_job.proofs.StagesReady.{last_grain, last_independent, own_tables}
use Rattle.ds2_group_job.proofs.reader.last_stage.Goals as goal

pub new-requires : goal.new-requires
new-requires c =
    let p = c.args.program.now in
    let r = c.args.reader.now in
    let own = c.args.tables.now in
    let ready = c.requires.ready in
    let same : c.first_grain.result ≡ grain_asked p.grains.now = c.first_grain.ensures ∙ ap grain_asked c.as_slice-asked.ensures in
    record {
      thread = ready_thread r.place.code.now r.place.number r.stage.now c.parts-valid.ensures.valid ready.stage c.requires.last c.readings_fit_tables.ensures own (own_tables p r ready own c.requires.tables)
          (grain_asked p.grains.now) (last_grain p r ready c.requires.last) _ refl refl refl c.requires.statement refl same ready.ready.budget;
      workers = ready.ready.workers;
      independent = last_independent p r ready c.requires.last own c.requires.tables c.first_grain.result same;
    }

pub returns : goal.returns
returns c given =
    let p = c.args.program.now in
    let r = c.args.reader.now in
    let stage = r.stage.now in
    let own = tables_of_stage r.place.program.now r.place.tables.now in
    ap (λ (s : RunnableStage). answer_of_thread s given) c.new.ensures
    ∙ ap (λ (ts : List Contents). chain_answer stage [] ts p.budget c.first_grain.result given) c.requires.tables
    ∙ ap (λ (g : ℕ). chain_answer stage [] own p.budget g given) (c.first_grain.ensures ∙ ap grain_asked c.as_slice-asked.ensures)
    ∙ ap (λ (ss : List ProgramParts). chain_answer stage ss own p.budget (grain_asked p.grains.now) given) (sym c.requires.last)
