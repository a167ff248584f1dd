use Rattle.std.proofs.Common.{◌≤◌, ◌∙◌, IfSome, Option, Some, ap, refl, sym, subst}
use Rattle.ds2_answer.specs.declared.command_line.CommandLine.{CommandLine}
use Rattle.ds2_answer.specs.declared.words.TheConstants.{MOST_BUDGET}
use Rattle.ds2_answer.specs.CommandLines.{HasRowsWithin, budget_on_line, command_line_of}
use Rattle.ds2_commands.specs.CommandOutcomes.{DoesCommand, NamesFile}
use Rattle.ds2_commands.proofs.CommandSteps.{checks_line, compiles_line, execs_line, runs_line, shows_line}
use Rattle.ds2_commands.proofs.NamedLines.{line_names}
use Rattle.ds2_commands.proofs.WordSteps.{no_line, no_words}
use Rattle.ds2_commands.proofs.commands.do_command.Goals as goal

pub returns-in_err-read-clause-does : goal.returns-in_err-read-clause-does
returns-in_err-read-clause-does g c sources =
    no_words sources (command_line_of c.args.words.now) c.args.session.now.log c.args.session.now.log (g.S.Store.files c.args.session.now.store.now) c.from_residual.result c.from_residual.ensures.1

pub returns-in_default-clause-does : goal.returns-in_default-clause-does
returns-in_default-clause-does g c sources =
    no_line sources (command_line_of c.args.words.now) c.args.session.now.log c.refuse_words.new.log (g.S.Store.files c.args.session.now.store.now) (g.S.Store.files c.args.session.now.store.now) c.refuse_words.result
    (sym c.in_ok-read.ensures.command ∙ c.in_default.is) c.refuse_words.ensures refl

pub run_source-requires-clause-named : goal.run_source-requires-clause-named
run_source-requires-clause-named g c = subst NamesFile c.in-Run.is (line_names c.args.words.now c.in-Some.line (sym c.in_ok-read.ensures.command ∙ c.in-Some.is) (subst (λ (o : Option CommandLine). IfSome o HasRowsWithin) c.in-Some.is c.in_ok-read.ensures.rows))

pub run_source-requires-clause-budget : goal.run_source-requires-clause-budget
run_source-requires-clause-budget g c = subst (λ (line : CommandLine). budget_on_line line ≤ MOST_BUDGET) c.in-Run.is (subst (λ (o : Option CommandLine). IfSome o (λ line. budget_on_line line ≤ MOST_BUDGET)) c.in-Some.is c.in_ok-read.ensures.within)

pub returns-in-Run-clause-does : goal.returns-in-Run-clause-does
returns-in-Run-clause-does g c sources =
    let now = g.S.Store.files c.run_source.new.session.store.now in
    subst (λ (line : Option CommandLine). DoesCommand sources line c.args.session.now.log (g.S.Store.files c.args.session.now.store.now) c.run_source.result c.run_source.new.session.log now) (ap Some (sym c.in-Run.is) ∙ sym c.in-Some.is ∙ c.in_ok-read.ensures.command)
    (runs_line sources c.args.session.now.log c.run_source.new.session.log (g.S.Store.files c.args.session.now.store.now) now c.run_source.result c.in-Run.source c.in-Run.threads c.in-Run.budget (c.run_source.ensures.does sources))

pub compile_source-requires : goal.compile_source-requires
compile_source-requires g c = subst NamesFile c.in-Compile.is (line_names c.args.words.now c.in-Some.line (sym c.in_ok-read.ensures.command ∙ c.in-Some.is) (subst (λ (o : Option CommandLine). IfSome o HasRowsWithin) c.in-Some.is c.in_ok-read.ensures.rows))

pub returns-in-Compile-clause-does : goal.returns-in-Compile-clause-does
returns-in-Compile-clause-does g c sources =
    let now = g.S.Store.files c.compile_source.new.session.store.now in
    subst (λ (line : Option CommandLine). DoesCommand sources line c.args.session.now.log (g.S.Store.files c.args.session.now.store.now) c.compile_source.result c.compile_source.new.session.log now) (ap Some (sym c.in-Compile.is) ∙ sym c.in-Some.is ∙ c.in_ok-read.ensures.command)
    (compiles_line sources c.args.session.now.log c.compile_source.new.session.log (g.S.Store.files c.args.session.now.store.now) now c.compile_source.result c.in-Compile.source (c.compile_source.ensures.does sources))

pub exec_object-requires-clause-named : goal.exec_object-requires-clause-named
exec_object-requires-clause-named g c = subst NamesFile c.in-Exec.is (line_names c.args.words.now c.in-Some.line (sym c.in_ok-read.ensures.command ∙ c.in-Some.is) (subst (λ (o : Option CommandLine). IfSome o HasRowsWithin) c.in-Some.is c.in_ok-read.ensures.rows))

pub exec_object-requires-clause-budget : goal.exec_object-requires-clause-budget
exec_object-requires-clause-budget g c = subst (λ (line : CommandLine). budget_on_line line ≤ MOST_BUDGET) c.in-Exec.is (subst (λ (o : Option CommandLine). IfSome o (λ line. budget_on_line line ≤ MOST_BUDGET)) c.in-Some.is c.in_ok-read.ensures.within)

pub returns-in-Exec-clause-does : goal.returns-in-Exec-clause-does
returns-in-Exec-clause-does g c sources =
    let now = g.S.Store.files c.exec_object.new.session.store.now in
    subst (λ (line : Option CommandLine). DoesCommand sources line c.args.session.now.log (g.S.Store.files c.args.session.now.store.now) c.exec_object.result c.exec_object.new.session.log now) (ap Some (sym c.in-Exec.is) ∙ sym c.in-Some.is ∙ c.in_ok-read.ensures.command)
    (execs_line sources c.args.session.now.log c.exec_object.new.session.log (g.S.Store.files c.args.session.now.store.now) now c.exec_object.result c.in-Exec.object c.in-Exec.budget c.exec_object.ensures.does)

pub check_source-requires : goal.check_source-requires
check_source-requires g c = subst NamesFile c.in-Check.is (line_names c.args.words.now c.in-Some.line (sym c.in_ok-read.ensures.command ∙ c.in-Some.is) (subst (λ (o : Option CommandLine). IfSome o HasRowsWithin) c.in-Some.is c.in_ok-read.ensures.rows))

pub returns-in-Check-clause-does : goal.returns-in-Check-clause-does
returns-in-Check-clause-does g c sources =
    let now = g.S.Store.files c.check_source.new.session.store.now in
    subst (λ (line : Option CommandLine). DoesCommand sources line c.args.session.now.log (g.S.Store.files c.args.session.now.store.now) c.check_source.result c.check_source.new.session.log now) (ap Some (sym c.in-Check.is) ∙ sym c.in-Some.is ∙ c.in_ok-read.ensures.command)
    (checks_line sources c.args.session.now.log c.check_source.new.session.log (g.S.Store.files c.args.session.now.store.now) now c.check_source.result c.in-Check.source (c.check_source.ensures.does sources))

pub show_demo-requires-clause-rows : goal.show_demo-requires-clause-rows
show_demo-requires-clause-rows g c = subst HasRowsWithin c.in-Demo.is (subst (λ (o : Option CommandLine). IfSome o HasRowsWithin) c.in-Some.is c.in_ok-read.ensures.rows)

pub returns-clause-does : goal.returns-clause-does
returns-clause-does g c sources =
    let now = g.S.Store.files c.args.session.now.store.now in
    subst (λ (line : Option CommandLine). DoesCommand sources line c.args.session.now.log (g.S.Store.files c.args.session.now.store.now) c.show_demo.result c.show_demo.new.log now) (ap Some (sym c.in-Demo.is) ∙ sym c.in-Some.is ∙ c.in_ok-read.ensures.command)
    (shows_line sources c.in-Demo.n c.args.session.now.log c.show_demo.new.log (g.S.Store.files c.args.session.now.store.now) c.show_demo.result (c.show_demo.ensures.does sources))
