use Rattle.tff_lexer.proofs.QuotePrefixes.{distinct_prefix}
use Rattle.tff_lexer.proofs.quotes.distinct_length.Goals as goal

pub returns-in-Some-eq34-default : goal.returns-in-Some-eq34-default
returns-in-Some-eq34-default c =
    let a = c.in-Some-eq34-default in
    rw (c.joined_length.ensures, a.ensures.cases.0, a.field-0-0-test) (distinct_prefix a.rest.now _ c.content_and_quote_length.ensures)
