use Rattle.std.proofs.Common.{◌≡◌, map, take}
use Rattle.term_base.specs.declared.terms.Term.TheVariants.{Var}
use Rattle.normal_form.proofs.scopes.Scope.skolem_term.Given as goal

abbrev pub invariant-loop-v : goal.invariant-loop-v
invariant-loop-v l = l.args ≡ map Var (take l.v-index l.v-items)
