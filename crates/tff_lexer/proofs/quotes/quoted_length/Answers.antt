use Rattle.std.proofs.Common.{arith}
use Rattle.tff_lexer.proofs.QuotePrefixes.{quoted_prefix}
use Rattle.tff_lexer.proofs.quotes.quoted_length.Goals as goal

pub returns-in_default-content_and_quote_length : goal.returns-in_default-content_and_quote_length
returns-in_default-content_and_quote_length c =
    let a = c.in-Some-eq39-default in
    rw (c.joined_length.ensures, a.ensures.cases.0, a.field-0-0-test) (quoted_prefix a.rest.now _ (λ e. omega arith) c.content_and_quote_length.ensures)
