use Rattle.std.proofs.Common.{◌≡◌, ◌++◌, [], ◌∷◌, map, length, drop, true, false}
use Rattle.std.specs.Option.{option_map_or}
use Rattle.normal_form.specs.Cnf.{appended, all_symbols}
use Rattle.normal_form.specs.Clauses.{made, made_from, nothing_bound, with_sign}
use Rattle.normal_form.proofs.preparing.convert.Given as goal

abbrev pub invariant-loop-premise : goal.invariant-loop-premise
invariant-loop-premise l =
    let rest = made_from (with_sign true (drop l.premise-index l.premise-items) ++ with_sign false (option_map_or (λ g. g ∷ []) l.problem.conjecture [])) (length l.conversion.symbols) in
    record {
      clauses : l.clauses.items ++ appended (map (λ m. m.clauses) rest) ≡ (made l.problem).clauses;
      symbols : l.conversion.symbols ++ all_symbols rest ≡ l.problem.symbols ++ (made l.problem).symbols;
      scope : l.conversion.scope ≡ nothing_bound;
    }
