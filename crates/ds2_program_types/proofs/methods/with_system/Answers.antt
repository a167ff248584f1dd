use Rattle.std.proofs.Common.{◌≡◌, true, false, bytes_eq, codes, arith}
use Rattle.std.proofs.lemmas.Grind.{common_steps}
use Rattle.ds2_names.specs.SourceUnit.{spelled_name}
use Rattle.ds2_program_types.proofs.SystemForms.{init_added, run_added, term_added}
use Rattle.ds2_program_types.proofs.methods.with_system.Goals as goal

pub returns-then-is_init : goal.returns-then-is_init
returns-then-is_init c = λ tables before u methods own h s n g.
    let e : bytes_eq (spelled_name own.name) (codes "init") ≡ true = grind (arith, common_steps, n) in
    init_added tables before u methods own c.args.so_far c.first_system-init.result c.args.m h s e g c.first_system-init.ensures

pub returns-then-is_run : goal.returns-then-is_run
returns-then-is_run c = λ tables before u methods own h s n g.
    let e : bytes_eq (spelled_name own.name) (codes "run") ≡ true = grind (arith, common_steps, n) in
    run_added tables before u methods own c.args.so_far c.first_system-run.result c.args.m h s e g c.first_system-run.ensures

pub returns : goal.returns
returns c = λ tables before u methods own h s n g.
    let e : bytes_eq (spelled_name own.name) (codes "init") ≡ false = grind (arith, common_steps, n) in
    let f : bytes_eq (spelled_name own.name) (codes "run") ≡ false = grind (arith, common_steps, n) in
    term_added tables before u methods own c.args.so_far c.first_system-term.result c.args.m h s e f g c.first_system-term.ensures
