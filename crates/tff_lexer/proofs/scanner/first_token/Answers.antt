use Rattle.tff_lexer.specs.declared.spans.TokenKind.TheVariants.{Lower, Upper, Dollar, Quoted, Distinct, Sign}
use Rattle.tff_lexer.proofs.FirstBytes.{first_is, sign_otherwise}
use Rattle.tff_lexer.proofs.scanner.first_token.Goals as goal

pub returns-in-Lower : goal.returns-in-Lower
returns-in-Lower c = first_is Lower c.args.text.now _ _ _ (λ e. cc) c.kind_by_first_byte.ensures c.in-Lower.is c.lower_length.ensures c.token_of_length.ensures

pub returns-in-Upper : goal.returns-in-Upper
returns-in-Upper c = first_is Upper c.args.text.now _ _ _ (λ e. cc) c.kind_by_first_byte.ensures c.in-Upper.is c.upper_length.ensures c.token_of_length-in-Upper.ensures

pub returns-in-Dollar : goal.returns-in-Dollar
returns-in-Dollar c = first_is Dollar c.args.text.now _ _ _ (λ e. cc) c.kind_by_first_byte.ensures c.in-Dollar.is c.dollar_length.ensures c.token_of_length-in-Dollar.ensures

pub returns-in-Quoted : goal.returns-in-Quoted
returns-in-Quoted c = first_is Quoted c.args.text.now _ _ _ (λ e. cc) c.kind_by_first_byte.ensures c.in-Quoted.is c.quoted_length.ensures c.token_of_length-in-Quoted.ensures

pub returns-in-Distinct : goal.returns-in-Distinct
returns-in-Distinct c = first_is Distinct c.args.text.now _ _ _ (λ e. cc) c.kind_by_first_byte.ensures c.in-Distinct.is c.distinct_length.ensures c.token_of_length-in-Distinct.ensures

pub returns-in_default : goal.returns-in_default
returns-in_default c =
    let d = c.in_default in
    first_is Sign c.args.text.now _ _ _ (λ e. cc) c.kind_by_first_byte.ensures (sign_otherwise c.args.text.now _ c.kind_by_first_byte.ensures d.not-Lower d.not-Upper d.not-Dollar d.not-Quoted d.not-Distinct d.not-Numeral) c.sign_length.ensures c.token_of_length-in_default.ensures
