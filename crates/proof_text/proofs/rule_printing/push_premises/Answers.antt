use Rattle.std.proofs.Common.{subst, length, ◌-◌, take, drop}
use Rattle.std.proofs.lemmas.Result.{MatchResult-weaker}
use Rattle.text_pieces.specs.Numbers.{Number, Word32}
use Rattle.proof_text.proofs.RulePrinted.{adds-premises, sliced, adds-none, all_true}
use Rattle.text_pieces.specs.Printing.{Adds}
use Rattle.text_pieces.specs.Separated.{Separated}
use Rattle.proof_text.proofs.rule_printing.push_premises.Goals as goal

pub push_separated-requires-clause-more : goal.push_separated-requires-clause-more
push_separated-requires-clause-more c = all_true (take (length c.args.of.now - 1) (drop 1 c.args.of.now))

pub returns-in-empty : goal.returns-in-empty
returns-in-empty c =
    MatchResult-weaker c.push.result c.push.ensures (λ d e. adds-none c.args.of.now c.args.text.now.items c.push.new.text.items c.in-empty.len_below e) (λ d e. tt)

pub returns-in_ok-push-in-len1-up : goal.returns-in_ok-push-in-len1-up
returns-in_ok-push-in-len1-up c =
    MatchResult-weaker c.push_separated.result c.push_separated.ensures (λ d e. adds-premises c.args.of.now c.args.text.now.items c.push-in-len1-up.new.text.items c.push_separated.new.text.items c.in_ok-push-in-len1-up.ensures (subst (λ z. Adds (Separated (Number Word32) 44 32) z c.push-in-len1-up.new.text.items c.push_separated.new.text.items) (sliced c.args.of.now 0 c.in-len1-up.len_at_least) e)) (λ d e. tt)
