use Rattle.std.proofs.Common.{◌≡◌, sym, ◌∙◌, ap, drop, length}
use Rattle.cooper.specs.Sharing.{put_back}
use Rattle.cooper.proofs.Changes.{length-put_back, lent}
use Rattle.cooper.proofs.sharing.put_all.Goals as goal

pub returns : goal.returns
returns c =
    let facts = c.args.facts.now.items in
    let new = c.put_each.new.facts in
    let told : new ≡ put_back c.args.places facts = c.put_each.ensures ∙ ap (put_back c.args.places) c.as_mut_slice.ensures.value in
    let count : c.args.facts.now.len ≡ length new = sym c.as_mut_slice.ensures.len ∙ ap length c.as_mut_slice.ensures.value ∙ sym (ap length told ∙ length-put_back c.args.places facts) in
    lent new (drop (length new) facts) c.args.facts.now.len count ∙ told
