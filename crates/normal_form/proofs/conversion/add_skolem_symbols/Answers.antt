use Rattle.std.proofs.Common.{rules, arith}
use Rattle.normal_form.specs.Cnf.{skolem}
use Rattle.normal_form.proofs.Steps.{push_more}
use Rattle.normal_form.proofs.conversion.add_skolem_symbols.Goals as goal

pub loop-v-preserved : goal.loop-v-preserved
loop-v-preserved c =
    push_more (skolem c.args.scope.now.universal) c.args.variables.now c.loop-v.v-index c.v-item.result c.args.symbols.now c.loop-v.symbols c.push.new.self c.in_ok-symbol.symbol (omega arith) c.v-item.is
    c.loop-v.invariant c.in_ok-symbol.ensures (search rules)
