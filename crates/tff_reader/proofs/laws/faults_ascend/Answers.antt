use Rattle.tff_reader.proofs.PlaceLemmas.{types_ascend, products_ascend, least_type, least_product}
use Rattle.tff_reader.proofs.laws.faults_ascend.Goals as goal

pub returns-clause-types : goal.returns-clause-types
returns-clause-types c = types_ascend

pub returns-clause-products : goal.returns-clause-products
returns-clause-products c = products_ascend

pub returns-clause-least_type : goal.returns-clause-least_type
returns-clause-least_type c = least_type

pub returns-clause-least_product : goal.returns-clause-least_product
returns-clause-least_product c = least_product
