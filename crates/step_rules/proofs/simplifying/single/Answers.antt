use Rattle.std.proofs.Common.{sym, subst}
use Rattle.term_base.specs.Substitution.{IsSubstitution}
use Rattle.step_rules.proofs.Single.{is_single}
use Rattle.step_rules.proofs.simplifying.single.Goals as goal

pub from_pairs-requires : goal.from_pairs-requires
from_pairs-requires c = subst IsSubstitution (sym c.in_ok-pairs.ensures) (is_single c.args.v _)
