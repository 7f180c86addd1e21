use Rattle.std.proofs.lemmas.Result.{MatchResult-weaker}
use Rattle.proof_text.specs.Rules.{Index}
use Rattle.text_pieces.proofs.Putting.{adds-front}
use Rattle.proof_text.proofs.rule_printing.push_of.Goals as goal

pub returns : goal.returns
returns c =
    MatchResult-weaker c.push_index.result c.push_index.ensures (λ d e. adds-front c.args.word.now Index c.args.of c.args.text.now.items c.push.new.text.items c.push_index.new.text.items c.in_ok-push.ensures e) (λ d e. tt)
