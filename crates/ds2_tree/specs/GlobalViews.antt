-- The trees of the methods, declarations and lists that the code holds.
use Rattle.ds2_tree.specs.declared.globals.Method as code_method
use Rattle.ds2_tree.specs.declared.globals.GlobalItem as code_global
use Rattle.ds2_tree.specs.declared.globals.GlobalItem.TheVariants as global
use Rattle.ds2_tree.specs.Globals.{Method, GlobalItem, Declared, Listed, Defined}
use Rattle.ds2_tree.specs.StatementViews.{statements_of}

-- the tree of a method
abbrev pub method_tree : code_method.Method → Method
method_tree m = record {
  keyword = m.keyword;
  name = m.name;
  parameters = m.parameters;
  returns = m.returns;
  semicolon = m.semicolon;
  locals = m.locals;
  reading = m.reading;
  body = statements_of m.body;
  end_keyword = m.end_keyword;
  end = m.end;
}

-- the tree of a declaration, a list of names, or a method
abbrev pub global_tree : code_global.GlobalItem → GlobalItem
global_tree (global.Declaration d) = Declared d
global_tree (global.Listed keyword names end) = Listed keyword names end
global_tree (global.Method m) = Defined (method_tree m)
