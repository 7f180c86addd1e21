use Rattle.std.proofs.Common.{◌∙◌, sym, ap}
use Rattle.cooper.specs.Sharing.{put_back}
use Rattle.cooper.proofs.Changes.{put_back-last}
use Rattle.cooper.proofs.sharing.put_each.Goals as goal

pub loop-at-preserved : goal.loop-at-preserved
loop-at-preserved c =
    let facts = c.loop-at.facts in
    let new = c.pop.new.self in
    ap (put_back new) c.put_at.ensures ∙ sym (put_back-last new (c.in-Some.at, c.in-Some.fact) facts) ∙ ap (λ es. put_back es facts) (sym c.in-Some.ensures) ∙ c.loop-at.invariant
