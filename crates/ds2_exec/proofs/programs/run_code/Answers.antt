use Rattle.std.proofs.Common.{◌≡◌, IfOk, List, None, map, sym, ap, ◌∙◌, subst}
use Rattle.std.specs.Option.{option_copied}
use Rattle.std.specs.Prelude.{nat_eq}
use Rattle.std.specs.Cmp.Lexicographic.{pointwise}
use Rattle.std.specs.HashSet.{contains}
use Rattle.ds2_code.specs.declared.parts.StagedParts.{StagedParts}
use Rattle.ds2_code_answer.specs.CodeAnswer.{code_answer}
use Rattle.ds2_code_answer.specs.CodeTables.{AreTablesOfCode}
use Rattle.ds2_table.specs.Table.{Contents}
use Rattle.ds2_answer.specs.HeldTables.{table_held, tables_held}
use Rattle.ds2_answer.specs.ObjectPlans.{stages_of_code}
use Rattle.ds2_answer.specs.StagesLeft.{grain_of_stages}
use Rattle.ds2_unit.specs.ProgramRun.{grain_asked}
use Rattle.ds2_unit.specs.Threads.{AreGrainsOf}
use Rattle.ds2_verdicts.specs.ThreadVerdicts.{verdict_named}
use Rattle.ds2_exec.specs.OutputSinks.{IsCodeEnd}
use Rattle.ds2_exec.specs.StageEnds.{grains_told, judged_stages, last_verdict}
use Rattle.ds2_exec.proofs.CodeEnds.{run_left}
use Rattle.ds2_exec.proofs.LocalSteps.{independent_given, independent_held}
use Rattle.ds2_exec.proofs.RunSteps.{held_with}
use Rattle.ds2_exec.proofs.StageSteps.{grains_asked, grains_fit}
use Rattle.ds2_exec.proofs.programs.run_code.Goals as goal

pub run_into-requires-clause-ready : goal.run_into-requires-clause-ready
run_into-requires-clause-ready g c =
    let told = verdict_named c.args.running.now.verdicts.now in
    let stages = c.args.code.now.stages in
    let held = held_with c.args.running.now.stored.now c.args.made.now in
    let tables_are : c.in_ok-tables.tables ≡ tables_held held c.args.code.now = c.in_ok-tables.ensures.held ∙ ap (map (table_held held)) c.requires.references in
    let judged_are : c.as_slice-judged.result.now ≡ judged_stages told stages =
    c.as_slice-judged.ensures ∙ c.in_ok-stages.ensures ∙ ap (judged_stages told) (c.as_slice.ensures ∙ ap (λ (x : StagedParts). x.stages) c.parts-parts.ensures.value) in
    let grains_are : c.in_ok-grains.grains ≡ grains_told (judged_stages told stages) = c.in_ok-grains.ensures ∙ ap grains_told judged_are in
    record {
      tables = subst (λ (ts : List Contents). AreTablesOfCode c.args.code.now ts) (sym tables_are) c.requires.tables;
      budget = c.requires.budget;
      grains = subst (AreGrainsOf stages) (sym grains_are) (grains_fit told stages c.requires.fit);
      workers = c.workers_of.ensures.within;
      independent = independent_given told c.args.code.now c.in_ok-tables.tables c.args.running.now.budget (grain_asked c.in_ok-grains.grains) (option_copied c.last_verdict-verdict.result) c.parts-parts.ensures.valid.depth
          (c.last_verdict-verdict.ensures ∙ ap (last_verdict None) judged_are) (ap grain_asked grains_are ∙ grains_asked told stages)
          (independent_held told c.args.code.now held c.in_ok-tables.tables c.args.running.now.budget tables_are c.in_ok-tables.ensures.whole c.requires.tables c.requires.independent)
          c.workers_of.result c.workers_of.ensures.local;
    }

pub returns : goal.returns
returns g c =
    let told = verdict_named c.args.running.now.verdicts.now in
    let stages = c.args.code.now.stages in
    let held = held_with c.args.running.now.stored.now c.args.made.now in
    let tables_are : c.in_ok-tables.tables ≡ tables_held held c.args.code.now = c.in_ok-tables.ensures.held ∙ ap (map (table_held held)) c.requires.references in
    let judged_are : c.in_ok-stages.stages ≡ judged_stages told stages = c.in_ok-stages.ensures ∙ ap (judged_stages told) (c.as_slice.ensures ∙ ap (λ (x : StagedParts). x.stages) c.parts-parts.ensures.value) in
    let keeps = contains (pointwise nat_eq) c.args.running.now.kept.now in
    subst (λ (ts : List Contents). IfOk c.code_end.result (λ left. IsCodeEnd keeps told c.args.code.now (code_answer c.args.code.now ts c.args.running.now.budget (grain_of_stages told (stages_of_code c.args.code.now))) left)) tables_are
    (run_left keeps told c.args.code.now c.in_ok-tables.tables c.args.running.now.budget c.in_ok-stages.stages judged_are c.in_ok-grains.grains
    c.in_ok-sink.sink c.run_into.new.sink c.in_ok-end.end (ap grain_asked (c.in_ok-grains.ensures ∙ ap grains_told (c.as_slice-judged.ensures ∙ judged_are)) ∙ grains_asked told stages)
    c.in_ok-sink.ensures.outputs c.in_ok-sink.ensures.lines c.in_ok-end.ensures c.code_end.result c.code_end.ensures)
