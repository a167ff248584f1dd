use Rattle.ds2_stage.proofs.stage.run_stage.Given as goal

abbrev pub ghosts-over-C-Ledger : goal.ghosts-over-C-Ledger
ghosts-over-C-Ledger g a = record { name = a.blanks.count.name; parts = a.blanks.count.parts }

abbrev pub ghosts-over-R-Ledger : goal.ghosts-over-R-Ledger
ghosts-over-R-Ledger g a = record { name = a.blanks.rows.name; parts = a.blanks.rows.parts }
