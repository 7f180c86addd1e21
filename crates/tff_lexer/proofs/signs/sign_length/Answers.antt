use Rattle.std.proofs.Common.{arith, cond, ap}
use Rattle.tff_lexer.proofs.SignPrefixes.{sign_at, sign_else}
use Rattle.tff_lexer.proofs.signs.sign_length.Goals as goal

pub returns-in-60 : goal.returns-in-60
returns-in-60 c = sign_at c.args.text.now c.in-Some.rest.now c.in-Some.first.now _ (c.in-Some.ensures).cases.0 60 c.in-60.is c.less_sign_length.ensures

pub returns-in-61 : goal.returns-in-61
returns-in-61 c = sign_at c.args.text.now c.in-Some.rest.now c.in-Some.first.now _ (c.in-Some.ensures).cases.0 61 c.in-61.is c.one_or_two.ensures

pub returns-in-126 : goal.returns-in-126
returns-in-126 c = sign_at c.args.text.now c.in-Some.rest.now c.in-Some.first.now _ (c.in-Some.ensures).cases.0 126 c.in-126.is c.one_or_two-in-126.ensures

pub returns-in-33 : goal.returns-in-33
returns-in-33 c = sign_at c.args.text.now c.in-Some.rest.now c.in-Some.first.now _ (c.in-Some.ensures).cases.0 33 c.in-33.is c.one_or_two-in-33.ensures

pub returns-in_default-first : goal.returns-in_default-first
returns-in_default-first c =
    sign_else c.args.text.now c.in-Some.rest.now c.in-Some.first.now 1 (c.in-Some.ensures).cases.0 (λ e. omega arith) (λ e. omega arith) (λ e. omega arith) (λ e. omega arith)
    (ap (λ v. cond v 1 0) (c.if-is_one_byte_sign.ensures))
