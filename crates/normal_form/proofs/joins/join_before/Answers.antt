use Rattle.std.proofs.Common.{◌≡◌, ◌++◌, [], map, subst, sym, rules, arith}
use Rattle.std.proofs.lemmas.Grind.{common_steps}
use Rattle.normal_form.specs.Cnf.{Literals}
use Rattle.normal_form.proofs.OneEmpty.{as_they_are}
use Rattle.normal_form.proofs.joins.join_before.Goals as goal

pub returns-then-is_empty : goal.returns-then-is_empty
returns-then-is_empty c =
    let empty : c.args.clause ≡ [] = first_of (search rules, cc, grind (arith, common_steps)) in
    subst (λ (l : Literals). c.args.right.items ≡ map (λ (more : Literals). l ++ more) c.args.right.items) (sym empty) (as_they_are c.args.right.items)
