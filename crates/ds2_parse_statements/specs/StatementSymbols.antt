-- The symbols of the grammar in which levels open.
use Rattle.ds2_tree.specs.Acceptance.{Symbol}
use Rattle.ds2_tree.specs.Expressions.{Expression, expression_spelling, IsExpression, expression_opens}
use Rattle.ds2_tree.specs.Statements.{Statement, statement_spelling, IsStatement, statement_opens}

-- expressions: their spellings, those of the grammar, and the levels that they open
abbrev pub expression_symbol : Symbol Expression
expression_symbol = record { spelling = expression_spelling; Fine = IsExpression; opens = expression_opens }

-- statements: their spellings, those of the grammar, and the levels that they open
abbrev pub statement_symbol : Symbol Statement
statement_symbol = record { spelling = statement_spelling; Fine = IsStatement; opens = statement_opens }
