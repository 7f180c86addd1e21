use Rattle.std.proofs.Common.{◌≡◌, ◌∙◌, ap, sym, ◌+◌, drop, get_or, pos, arith}
use Rattle.std.specs.Prelude.{unsigned_abs}
use Rattle.std.proofs.lemmas.List.{at_drop_more}
use Rattle.lin_base.specs.Whole.{gcd_of}
use Rattle.lin_base.specs.Change.{common_divisor}
use Rattle.lin_base.proofs.Divisors.{gcd_of_assoc}
use Rattle.lin_base.proofs.replacing.divisor_of.Goals as goal

pub loop-term-preserved : goal.loop-term-preserved
loop-term-preserved c =
    let ts = c.args.terms.now in
    let i = c.loop-term.term-index in
    let k = (get_or ts i (0, pos 0)).1 in
    let rest = common_divisor (drop (i + 1) ts) in
    let told : c.common_divisor-divisor.result ≡ gcd_of c.loop-term.divisor (unsigned_abs k) = grind arith in
    c.loop-term.invariant
    ∙ ap (gcd_of c.loop-term.divisor) (at_drop_more common_divisor ts i (0, pos 0) c.loop-term-test.true)
    ∙ gcd_of_assoc c.loop-term.divisor (unsigned_abs k) rest
    ∙ ap (λ g. gcd_of g rest) (sym told)
