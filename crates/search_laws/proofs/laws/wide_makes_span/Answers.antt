use Rattle.std.specs.List.{list_all}
use Rattle.lin_base.specs.Whole.{is_in_range}
use Rattle.lin_base.specs.Steps.{is_narrow}
use Rattle.cert_tree.specs.Ground.{grounding}
use Rattle.cert_tree.specs.Measures.{visit_of, numbers_found}
use Rattle.search_laws.proofs.Right.{parts_in_range, wide_span}
use Rattle.search_laws.proofs.laws.wide_makes_span.Goals as goal

pub returns : goal.returns
returns c = λ pool. (
  wide_span pool (is_narrow (grounding pool).steps) (λ all. (parts_in_range pool all).0),
  wide_span pool (list_all is_in_range (visit_of pool).formed) (λ all. (parts_in_range pool all).1),
  wide_span pool (list_all is_in_range (numbers_found pool (visit_of pool).found)) (λ all. (parts_in_range pool all).2),
)
