use Rattle.std.proofs.Common.{sym}
use Rattle.tff_lexer.proofs.QuotePrefixes.{escape_is, bare_is, unescaped_is}
use Rattle.tff_lexer.proofs.quotes.after_character.Goals as goal

pub returns-then-may_be_escaped-clause-next : goal.returns-then-may_be_escaped-clause-next
returns-then-may_be_escaped-clause-next c =
    let a = c.in_ok-escaped in
    λ n f. escape_is c.args.quote c.args.first a.escaped.now c.args.rest.now a.after.now n c.if-first-eq92.true (a.ensures).cases.0 c.requires.no_backslash (sym (c.if-may_be_escaped.ensures)) f

pub returns-else-may_be_escaped-clause-none : goal.returns-else-may_be_escaped-clause-none
returns-else-may_be_escaped-clause-none c =
    let a = c.in_ok-escaped in
    bare_is c.args.quote c.args.first a.escaped.now c.args.rest.now a.after.now c.if-first-eq92.true (a.ensures).cases.0 c.requires.no_backslash (sym (c.if-may_be_escaped.ensures))

pub returns-then-is_unescaped-clause-next : goal.returns-then-is_unescaped-clause-next
returns-then-is_unescaped-clause-next c =
    λ n f. unescaped_is c.args.quote c.args.first c.args.rest.now n (sym (c.if-is_unescaped.ensures)) c.if-first-eq92.false c.requires.no_quote f
