use Rattle.std.proofs.Common.{arith}
use Rattle.tff_lexer.proofs.QuotePrefixes.{close_found, close_on}
use Rattle.tff_lexer.proofs.quotes.content_and_quote_length.Goals as goal

pub returns-then-first-quote : goal.returns-then-first-quote
returns-then-first-quote c =
    close_found c.args.quote c.in-Some.first.now c.args.text.now c.loop-first.rest.now c.in-Some.more.now c.in-Some.ensures.cases.0 c.loop-first.invariant.within c.loop-first.invariant.goes c.requires c.if-first-quote.true

pub loop-first-preserved : goal.loop-first-preserved
loop-first-preserved c =
    let a = c.in-Some-after_character in
    record {
      within = omega (arith, a.ensures.shorter, c.in-Some.ensures.cases.1);
      goes = λ n f. close_on c.args.quote c.in-Some.first.now c.args.text.now c.loop-first.rest.now c.in-Some.more.now c.in-Some.ensures.cases.0 c.loop-first.invariant.within c.loop-first.invariant.goes a.after.now n a.ensures.shorter (a.ensures.next n) f;
    }
