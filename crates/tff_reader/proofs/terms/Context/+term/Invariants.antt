use Rattle.std.proofs.Common.{◌≡◌, map, drop}
use Rattle.tff_reader.specs.Scopes.{Scope}
use Rattle.tff_reader.specs.Bindings.{Binds}
use Rattle.tff_reader.specs.Typing.{term_faults}
use Rattle.tff_reader.specs.Meaning.{term_meaning}
use Rattle.tff_reader.specs.Arguments.{AreOnWay, head_faults}
use Rattle.tff_reader.proofs.terms.Context.+term.Given as goal

abbrev pub invariant-arguments-loop-arg : goal.invariant-arguments-loop-arg
invariant-arguments-loop-arg l = (sc : Scope) → Binds l.scope sc
    → AreOnWay l.numbers l.terms (head_faults l.self.text.now l.self.signature.now.symbols sc l.fn.wanted l.fn.head l.args) l.rest
    (map (term_meaning l.self.text.now l.self.signature.now.symbols sc) l.args)
    (map (term_meaning l.self.text.now l.self.signature.now.symbols sc) (drop l.arg-index l.args))
    (map (term_faults l.self.text.now l.self.signature.now.symbols sc) (drop l.arg-index l.args))
