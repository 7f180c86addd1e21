use Rattle.std.proofs.Common.{◌≡◌, false, List, map, drop, fold}
use Rattle.std.specs.List.{flat_map}
use Rattle.tff_signature.specs.Declarations.{Declaration}
use Rattle.tff_signature.specs.Symbols.{term_uses}
use Rattle.tff_signature.specs.Tables.{Declares, IsNamed, add_symbol}
use Rattle.tff_signature.proofs.symbols.Signature.+add_term.Given as goal

abbrev pub invariant-loop-arg : goal.invariant-loop-arg
invariant-loop-arg l = record {
  named : IsNamed l.self;
  symbols : (ds : List Declaration) → Declares l.source.text.now l.source.declared.now ds
      → fold (add_symbol l.source.text.now ds) l.self.symbols (flat_map (λ a. a false) (map (term_uses l.source.text.now) (drop l.arg-index l.arg-items)))
      ≡ fold (add_symbol l.source.text.now ds) l.fn.self.symbols (term_uses l.source.text.now l.term l.whole);
}
