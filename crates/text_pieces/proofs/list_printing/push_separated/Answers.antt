use Rattle.std.proofs.lemmas.Result.{MatchResult-weaker}
use Rattle.text_pieces.proofs.Adding.{adds-separated}
use Rattle.text_pieces.proofs.Keeping.{as_it_was, by_added, then_kept, then_added}
use Rattle.text_pieces.proofs.list_printing.push_separated.Goals as goal

pub returns : goal.returns
returns g c =
    MatchResult-weaker c.push-2.result c.push-2.ensures
    (λ d e. adds-separated g.P.Printer.spells c.args.between c.args.end c.args.first.now c.args.more.now c.args.text.now.items c.push.new.text.items c.push_behind.new.text.items c.push-2.new.text.items c.in_ok-push.ensures c.in_ok-push_behind.ensures e)
    (λ d e. then_kept (then_added (by_added c.in_ok-push.ensures) c.in_ok-push_behind.ensures) (as_it_was e))
