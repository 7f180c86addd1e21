use Rattle.std.proofs.Common.{◌++◌, get_or, take, drop, suc, drop-cons, sym, ap, refl, ◌∙◌}
use Rattle.std.proofs.lemmas.List.{take-append-drop}
use Rattle.text_pieces.proofs.fronts.front.Goals as goal

pub returns-in_default-clause-err : goal.returns-in_default-clause-err
returns-in_default-clause-err c =
    let word = c.args.word.now in
    let i = c.loop-byte.byte-index in
    record {
      done = take i word;
      next = get_or word i 0;
      todo = drop (suc i) word;
      rest = c.loop-byte.rest.now;
      split = sym (take-append-drop i word) ∙ ap (λ t. take i word ++ t) (drop-cons word i 0 c.loop-byte-test.true);
      whole = c.loop-byte.invariant;
      left_is = refl;
      missing = c.in_default.ensures.none;
    }
