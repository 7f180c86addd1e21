use Rattle.step_rules.proofs.Written.{simple_test}
use Rattle.step_rules.proofs.symbols.has_simple_pairs.Goals as goal

pub returns : goal.returns
returns c = simple_test c.args.signature.now c.args.s.now c.is_simple.result c.pairs-ascending.ensures.ascending c.is_simple.ensures
