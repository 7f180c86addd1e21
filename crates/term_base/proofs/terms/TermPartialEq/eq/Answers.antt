use Rattle.std.proofs.Common.{◌∙◌, sym, ap, ◌≡◌}
use Rattle.term_base.specs.SameTerm.{same_term, either, same_term-true, same_term-refl}
use Rattle.term_base.proofs.terms.TermPartialEq.eq.Goals as goal

pub returns : goal.returns
returns c =
    let a = c.args.self.now in
    let b = c.args.other.now in
    either c.same.result (same_term a b)
    (λ h. let e : a ≡ b = c.same.ensures.0 h in ap (same_term a) (sym e) ∙ same_term-refl a)
    (λ h. c.same.ensures.1 (same_term-true a b h))
