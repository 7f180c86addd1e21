use Rattle.term_base.specs.SameLiteral.{literals_equal}
use Rattle.term_base.proofs.clauses.Literal.same.Goals as goal

pub returns : goal.returns
returns c = literals_equal c.eq.result c.args.self.now c.args.other.now c.eq.ensures
