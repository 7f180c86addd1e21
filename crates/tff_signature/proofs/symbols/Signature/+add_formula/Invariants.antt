use Rattle.std.proofs.Common.{◌≡◌, List, map, drop, fold}
use Rattle.std.specs.List.{flat_map}
use Rattle.tff_signature.specs.Declarations.{Declaration}
use Rattle.tff_signature.specs.Symbols.{formula_uses}
use Rattle.tff_signature.specs.Tables.{Declares, IsNamed, add_symbol}
use Rattle.tff_signature.proofs.symbols.Signature.+add_formula.Given as goal

abbrev pub invariant-loop-member : goal.invariant-loop-member
invariant-loop-member l = record {
  named : IsNamed l.self;
  symbols : (ds : List Declaration) → Declares l.source.text.now l.source.declared.now ds
      → fold (add_symbol l.source.text.now ds) l.self.symbols (flat_map (λ g. g) (map (formula_uses l.source.text.now) (drop l.member-index l.member-items)))
      ≡ fold (add_symbol l.source.text.now ds) l.fn.self.symbols (formula_uses l.source.text.now l.formula);
}
