use Rattle.std.proofs.Common.{◌≡◌, [], ◌∷◌, rules, arith}
use Rattle.std.proofs.lemmas.Grind.{common_steps}
use Rattle.normal_form.proofs.OneEmpty.{joined_with_nothing}
use Rattle.normal_form.proofs.joins.join.Goals as goal

pub returns-then-is_one_empty : goal.returns-then-is_one_empty
returns-then-is_one_empty c =
    let empty : c.args.right.items ≡ [] ∷ [] = first_of (search rules, cc, grind (arith, common_steps)) in
    joined_with_nothing c.args.left.items c.args.right.items empty
