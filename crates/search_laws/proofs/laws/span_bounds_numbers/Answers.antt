use Rattle.cert_tree.specs.Measures.{numbers}
use Rattle.search_laws.proofs.Ranges.{all_in_range}
use Rattle.search_laws.proofs.laws.span_bounds_numbers.Goals as goal

pub returns : goal.returns
returns c = λ pool h. all_in_range (numbers pool) h
