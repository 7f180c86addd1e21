use Rattle.std.proofs.Common.{drop}
use Rattle.cert_text.proofs.Ascending.{TermsLeft}
use Rattle.cert_text.proofs.printing.push_terms.Given as goal

abbrev pub invariant-loop-term : goal.invariant-loop-term
invariant-loop-term l = TermsLeft l.terms (drop l.term-index l.terms) l.initial.text.items l.text.items
