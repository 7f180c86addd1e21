use Rattle.std.proofs.Common.{◌≡◌, ◌++◌, length, map, drop}
use Rattle.normal_form.specs.Cnf.{cnf, visit, all_symbols}
use Rattle.normal_form.proofs.conversion.Conversion.+note.Given as goal

abbrev pub invariant-note_members-loop-i : goal.invariant-note_members-loop-i
invariant-note_members-loop-i l = record {
  symbols : l.self.symbols ++ all_symbols (visit (map cnf (drop l.i l.members)) l.sign l.initial.self.scope (length l.self.symbols))
      ≡ l.initial.self.symbols ++ all_symbols (visit (map cnf l.members) l.sign l.initial.self.scope (length l.initial.self.symbols));
  scope : l.self.scope ≡ l.initial.self.scope;
}
