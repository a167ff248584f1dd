use Rattle.std.proofs.Common.{◌≡◌, Ok, Err, Some, None, refl, rules}
use Rattle.ds2_token.specs.Scan.{found}
use Rattle.ds2_token.proofs.Fronts.{There}
use Rattle.ds2_token.proofs.LexerSteps.{there_at, there_edge, quoted_at, text_at, none_at, refused_at, front_of}
use Rattle.ds2_token.proofs.lexer.token_at.Goals as goal

pub split_at-requires : goal.split_at-requires
split_at-requires c =
    let is : Some c.in-Some-Ok.field-0 ≡ found c.as_bytes.result.now = search rules in
    let form : c.in-Some-Ok.field-0.form ≡ Ok c.in-Some-Ok.kind = search rules in
    let there : There c.args.text.now c.in-Some-Ok.field-0 = there_at _ _ c.in-Some-Ok.field-0 c.as_bytes.ensures.value c.requires.none is in
    there_edge c.args.text.now c.in-Some-Ok.field-0 c.in-Some-Ok.kind c.utf8.text there form

pub spelled_token-requires-clause-quoted : goal.spelled_token-requires-clause-quoted
spelled_token-requires-clause-quoted c =
    let is : Some c.in-Some-Ok.field-0 ≡ found c.as_bytes.result.now = search rules in
    let form : c.in-Some-Ok.field-0.form ≡ Ok c.in-Some-Ok.kind = search rules in
    let there : There c.args.text.now c.in-Some-Ok.field-0 = there_at _ _ c.in-Some-Ok.field-0 c.as_bytes.ensures.value c.requires.none is in
    quoted_at c.args.text.now c.split_at.result.0.now c.in-Some-Ok.field-0 c.in-Some-Ok.kind there form (search rules)

pub spelled_token-requires-clause-text_form : goal.spelled_token-requires-clause-text_form
spelled_token-requires-clause-text_form c =
    let is : Some c.in-Some-Ok.field-0 ≡ found c.as_bytes.result.now = search rules in
    let form : c.in-Some-Ok.field-0.form ≡ Ok c.in-Some-Ok.kind = search rules in
    let there : There c.args.text.now c.in-Some-Ok.field-0 = there_at _ _ c.in-Some-Ok.field-0 c.as_bytes.ensures.value c.requires.none is in
    text_at c.args.text.now c.split_at.result.0.now c.in-Some-Ok.field-0 c.in-Some-Ok.kind there form (search rules)

pub returns-in-None : goal.returns-in-None
returns-in-None c =
    let is : None ≡ found c.as_bytes.result.now = search rules in
    (none_at c.args.text.now c.as_bytes.result.now c.as_bytes.ensures.value c.requires.some is, refl)

pub returns-in-Some-Err : goal.returns-in-Some-Err
returns-in-Some-Err c =
    let is : Some c.in-Some-Err.field-0 ≡ found c.as_bytes.result.now = search rules in
    let form : c.in-Some-Err.field-0.form ≡ Err c.in-Some-Err.kind = search rules in
    let there : There c.args.text.now c.in-Some-Err.field-0 = there_at _ _ c.in-Some-Err.field-0 c.as_bytes.ensures.value c.requires.none is in
    (refused_at c.args.text.now c.in-Some-Err.field-0 c.in-Some-Err.kind there form, refl)

pub returns-in-Some-Ok : goal.returns-in-Some-Ok
returns-in-Some-Ok c =
    let is : Some c.in-Some-Ok.field-0 ≡ found c.as_bytes.result.now = search rules in
    let form : c.in-Some-Ok.field-0.form ≡ Ok c.in-Some-Ok.kind = search rules in
    let there : There c.args.text.now c.in-Some-Ok.field-0 = there_at _ _ c.in-Some-Ok.field-0 c.as_bytes.ensures.value c.requires.none is in
    front_of c.args.text.now c.split_at.result.0.now c.in-Some-Ok.field-0 c.in-Some-Ok.kind c.args.place c.spelled_token.result c.utf8.text there form (search rules) c.spelled_token.ensures
