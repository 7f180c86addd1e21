use Rattle.std.proofs.Common.{rules}
use Rattle.normal_form.proofs.SymbolsEqual.{skolem_equal}
use Rattle.normal_form.proofs.scopes.Scope.skolem_symbol.Goals as goal

pub returns : goal.returns
returns c = skolem_equal c.new.result c.args.self.now.universal c.args.v (search rules) (search rules) c.new.ensures.sort
