use Rattle.std.proofs.Common.{◌≡◌, ◌∙◌, ◌++◌, ◌∷◌, take, drop, ap, map}
use Rattle.term_base.specs.Lits.{lit}
use Rattle.hier_rules.proofs.LiteralLemmas.{as_many, parted, on_ok}
use Rattle.hier_rules.proofs.literals.put_back.Goals as goal

pub insert-requires : goal.insert-requires
insert-requires c = as_many c.args.number c.args.c.now.literals c.requires

pub returns : goal.returns
returns c =
    let n = c.args.number in
    let ls = c.args.c.now.literals in
    on_ok c.insert.result (c.insert.new.literals ≡ take n ls ++ c.args.l ∷ drop n ls)
    (map lit c.insert.new.literals ≡ take n (map lit ls) ++ lit c.args.l ∷ drop n (map lit ls))
    (λ e. ap (map lit) e ∙ parted n ls c.args.l) c.insert.ensures
