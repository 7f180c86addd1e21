use Rattle.std.proofs.Common.{sym}
use Rattle.tff_lexer.proofs.WordPrefixes.{dollar_dollar_is, dollar_is}
use Rattle.tff_lexer.proofs.words.dollar_length.Goals as goal

pub returns-then-starts_with : goal.returns-then-starts_with
returns-then-starts_with c =
    let a = c.in-Some-eq36-default in
    rw c.joined_length.ensures (dollar_dollar_is c.args.text.now a.rest.now a.field-0-0.now _ a.ensures.cases.0 a.field-0-0-test (sym c.if-starts_with.ensures.value) c.lower_length.ensures)

pub returns-else-starts_with : goal.returns-else-starts_with
returns-else-starts_with c =
    let a = c.in-Some-eq36-default in
    rw c.joined_length-else-starts_with.ensures (dollar_is c.args.text.now a.rest.now a.field-0-0.now _ a.ensures.cases.0 a.field-0-0-test (sym c.if-starts_with.ensures.value) c.lower_length-else-starts_with.ensures)
