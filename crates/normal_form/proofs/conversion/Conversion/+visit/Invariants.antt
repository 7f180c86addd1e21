use Rattle.std.proofs.Common.{◌≡◌, ◌++◌, length, map, drop, fold}
use Rattle.normal_form.specs.Cnf.{cnf, visit, all_symbols, appended, joined, join}
use Rattle.normal_form.proofs.conversion.Conversion.+visit.Given as goal

abbrev pub invariant-appended-loop-i : goal.invariant-appended-loop-i
invariant-appended-loop-i l =
    let rest = visit (map cnf (drop l.i l.members)) l.sign l.initial.self.scope (length l.self.symbols) in
    let whole = visit (map cnf l.members) l.sign l.initial.self.scope (length l.initial.self.symbols) in
    record {
      clauses : l.all.items ++ appended (map (λ m. m.clauses) rest) ≡ appended (map (λ m. m.clauses) whole);
      symbols : l.self.symbols ++ all_symbols rest ≡ l.initial.self.symbols ++ all_symbols whole;
      scope : l.self.scope ≡ l.initial.self.scope;
    }

abbrev pub invariant-joined-loop-i : goal.invariant-joined-loop-i
invariant-joined-loop-i l =
    let rest = visit (map cnf (drop l.i l.members)) l.sign l.initial.self.scope (length l.self.symbols) in
    let whole = visit (map cnf l.members) l.sign l.initial.self.scope (length l.initial.self.symbols) in
    record {
      clauses : fold join l.all.items (map (λ m. m.clauses) rest) ≡ joined (map (λ m. m.clauses) whole);
      symbols : l.self.symbols ++ all_symbols rest ≡ l.initial.self.symbols ++ all_symbols whole;
      scope : l.self.scope ≡ l.initial.self.scope;
    }
