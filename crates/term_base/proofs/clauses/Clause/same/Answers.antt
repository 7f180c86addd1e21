use Rattle.std.proofs.Common.{◌∙◌, ap, map}
use Rattle.term_base.specs.Lits.{lit, lits}
use Rattle.term_base.specs.LitTests.{same_lits}
use Rattle.term_base.specs.SameLiteral.{clauses_equal}
use Rattle.term_base.proofs.clauses.Clause.same.Goals as goal

pub returns : goal.returns
returns c =
    clauses_equal c.same_literals.result c.args.self.now c.args.other.now
    (c.same_literals.ensures
    ∙ ap (λ ls. same_lits (map lit ls) (map lit c.as_slice-2.result.now)) c.as_slice.ensures
    ∙ ap (λ ms. same_lits (lits c.args.self.now) (map lit ms)) c.as_slice-2.ensures)
