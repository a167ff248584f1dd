use Rattle.std.proofs.Common.{◌≡◌, true, [], ◌∷◌, take, rules}
use Rattle.std.specs.Str.{bytes_eq}
use Rattle.ds2_token.proofs.MarkLemmas.{behind_mark}
use Rattle.ds2_token.proofs.lexer.without_mark.Goals as goal

pub split_at-requires : goal.split_at-requires
split_at-requires c =
    let test : bytes_eq (take 3 c.args.text.now) (239 ∷ 187 ∷ 191 ∷ []) ≡ true = search rules in
    behind_mark c.args.text.now (search rules) test
