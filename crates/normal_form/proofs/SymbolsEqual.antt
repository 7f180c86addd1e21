-- Symbols with one name, one list of argument sorts and one result are one.
use Rattle.std.proofs.Common.{◌≡◌, ℕ, List, [], map, refl, sym, ap, ◌∙◌}
use Rattle.std.proofs.Math.Path.{Cosingl, contract'}
use Rattle.term_base.specs.declared.symbols.Sort.{Sort}
use Rattle.term_base.specs.declared.symbols.Class.{Class}
use Rattle.term_base.specs.declared.symbols.Symbol.{Symbol}
use Rattle.term_base.specs.declared.variables.Variable.{Variable}
use Rattle.term_base.specs.Classes.{class_of}
use Rattle.normal_form.specs.Cnf.{skolem}

abbrev classified_symbol : (n : List ℕ) (a : List Sort) (r : Sort) (k : Class) → k ≡ class_of a r → Symbol
classified_symbol n a r k p = record { name = n; args = a; result = r; class = k; classified = p }

abbrev symbol_of : List ℕ → List Sort → Sort → Symbol
symbol_of n a r = classified_symbol n a r (class_of a r) refl

canonical : (s : Symbol) → s ≡ symbol_of s.name s.args s.result
canonical s = ap (λ (z : Cosingl (class_of s.args s.result)). classified_symbol s.name s.args s.result z.0 z.1) (sym (contract' s.classified))

pub skolem_equal : (s : Symbol) (universal : List Variable) (v : Variable) → s.name ≡ [] → s.args ≡ map (λ u. u.sort) universal → s.result ≡ v.sort → s ≡ skolem universal v
skolem_equal s universal v n a r =
    canonical s ∙ ap (λ x. symbol_of x s.args s.result) n ∙ ap (λ x. symbol_of [] x s.result) a ∙ ap (symbol_of [] (map (λ u. u.sort) universal)) r
