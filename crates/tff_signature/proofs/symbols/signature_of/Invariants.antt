use Rattle.std.proofs.Common.{◌≡◌, List, [], drop, fold}
use Rattle.tff_signature.specs.Declarations.{Declaration}
use Rattle.tff_signature.specs.Symbols.{uses}
use Rattle.tff_signature.specs.Tables.{Declares, IsNamed, add_symbol}
use Rattle.tff_signature.proofs.symbols.signature_of.Given as goal

abbrev pub invariant-loop-statement : goal.invariant-loop-statement
invariant-loop-statement l = record {
  named : IsNamed l.signature;
  symbols : (ds : List Declaration) → Declares l.text l.declared ds
      → fold (add_symbol l.text ds) [] (uses l.text l.statements) ≡ fold (add_symbol l.text ds) l.signature.symbols (uses l.text (drop l.statement-index l.statements));
}
