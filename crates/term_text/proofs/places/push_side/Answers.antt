use Rattle.std.proofs.Common.{◌++◌, ◌∙◌, ap}
use Rattle.std.proofs.lemmas.Result.{MatchResult-weaker}
use Rattle.term_text.specs.Places.{side_word}
use Rattle.text_pieces.proofs.Putting.{adds-as}
use Rattle.text_pieces.proofs.Keeping.{as_it_was}
use Rattle.term_text.proofs.places.push_side.Goals as goal

pub returns : goal.returns
returns c =
    MatchResult-weaker c.push.result c.push.ensures (λ d e. adds-as side_word c.args.side c.args.text.now.items c.push.new.text.items (e ∙ ap (λ w. c.args.text.now.items ++ w) c.side_word.ensures)) (λ d k. as_it_was k)
