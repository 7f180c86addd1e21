use Rattle.tff_reader.proofs.TermLemmas.{all_terms}
use Rattle.tff_reader.proofs.terms.Context.compared.Goals as goal

pub returns : goal.returns
returns c = λ sc b.
    let self = c.args.self.now in
    let read = c.in_ok-arguments.ensures sc b in
    (read.0, all_terms self.text.now self.signature.now.symbols sc c.args.args.now c.in_ok-arguments.arguments read.1)
