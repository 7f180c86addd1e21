use Rattle.std.proofs.Common.{◌≡◌, ◌&&◌, ◌+◌, sym, ◌∙◌, ap, true, false, map, drop}
use Rattle.term_base.specs.Lits.{lit, put_lit, put_clause}
use Rattle.step_rules.specs.Literals.{same_lit, same_lits}
use Rattle.step_rules.specs.Abstraction.{put_back}
use Rattle.step_rules.proofs.Aside.{literals_on, left-over}
use Rattle.step_rules.proofs.abstractions.is_body.Goals as goal

pub returns-then-not-is_literal_put_back : goal.returns-then-not-is_literal_put_back
returns-then-not-is_literal_put_back c =
    let back = put_back (map lit c.args.definitions.now) in
    let body = c.args.body.now in
    let i = c.loop-l.l-index in
    let rest = c.loop-l.rest.now in
    let l = c.l-item.result in
    let m = c.m-item.result in
    let fell : same_lit (put_lit back (lit l)) (lit m) ≡ false = sym c.is_literal_put_back.ensures ∙ c.if-not-is_literal_put_back.true in
    sym (c.loop-l.invariant
    ∙ literals_on back body rest i l m c.loop-l-test.true c.in-len1-up.len_at_least c.l-item.is c.m-item.is
    ∙ ap (λ b. b && same_lits (put_clause back (map lit (drop (i + 1) body))) (map lit (drop 1 rest))) fell)

pub loop-l-preserved : goal.loop-l-preserved
loop-l-preserved c =
    let back = put_back (map lit c.args.definitions.now) in
    let body = c.args.body.now in
    let i = c.loop-l.l-index in
    let rest = c.loop-l.rest.now in
    let l = c.l-item.result in
    let m = c.m-item.result in
    let stood : same_lit (put_lit back (lit l)) (lit m) ≡ true = sym c.is_literal_put_back.ensures ∙ c.if-not-is_literal_put_back.false in
    c.loop-l.invariant
    ∙ literals_on back body rest i l m c.loop-l-test.true c.in-len1-up.len_at_least c.l-item.is c.m-item.is
    ∙ ap (λ b. b && same_lits (put_clause back (map lit (drop (i + 1) body))) (map lit (drop 1 rest))) stood
    ∙ ap (λ ks. same_lits (put_clause back (map lit (drop (i + 1) body))) (map lit ks)) (sym (left-over rest))
