use Rattle.std.proofs.Common.{Option, sym, ap, ◌∙◌}
use Rattle.std.specs.Option.{option_map}
use Rattle.ds2_meaning.specs.declared.location.Reference.{Reference}
use Rattle.ds2_meaning.specs.Location.{Home, Location}
use Rattle.ds2_gen.specs.ExpressionCode.{cell_of}
use Rattle.ds2_numbering.specs.BodyTrees.{numbers_of_body}
use Rattle.ds2_numbering.specs.CellNumbers.{cell_among, code_cell, tree_of}
use Rattle.ds2_numbering.specs.declared.cell.Cell.{Cell}
use Rattle.ds2_numbering.proofs.BodyLemmas.{if_seen}
use Rattle.ds2_numbering.proofs.body_numbers.BodyNumbers.named.Goals as goal

pub returns-in-At : goal.returns-in-At
returns-in-At c =
    let b = c.args.self.now in
    let at = c.global.ensures ∙ ap (λ (h : Home). let l : Location = record { home = h; global = c.in-At.global } in l) c.home.ensures in
    let found = ap (λ (x : Location). cell_among b.slots.now (tree_of b.program.now) x) at in
    if_seen (λ (cell : Option Cell). option_map code_cell cell) _ _ c.cell.result (found ∙ ap (λ (r : Reference). cell_of (numbers_of_body b) r) (sym c.in-At.is)) c.cell.ensures

pub returns-in-Local : goal.returns-in-Local
returns-in-Local c =
    if_seen (λ (cell : Option Cell). option_map code_cell cell) _ _ c.local.result (ap (λ (r : Reference). cell_of (numbers_of_body c.args.self.now) r) (sym c.in-Local.is)) c.local.ensures
