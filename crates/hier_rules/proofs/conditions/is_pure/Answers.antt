use Rattle.term_base.specs.Trees.{tree}
use Rattle.hier_rules.proofs.ConditionLemmas.{pure_told, impure_told, foreground_told}
use Rattle.hier_rules.proofs.conditions.is_pure.Goals as goal

pub returns-in-Pure : goal.returns-in-Pure
returns-in-Pure c =
    let S = c.args.signature.now in
    let t = tree c.args.t.now in
    pure_told S t c.purity.result c.purity.ensures (c.purity_says_what_is_in.ensures.pure S t) c.in-Pure.is

pub returns-in-Impure : goal.returns-in-Impure
returns-in-Impure c =
    let S = c.args.signature.now in
    let t = tree c.args.t.now in
    impure_told S t c.purity.result c.purity.ensures (c.purity_says_what_is_in.ensures.pure S t) c.in-Impure.is

pub returns-in-Foreground : goal.returns-in-Foreground
returns-in-Foreground c =
    let S = c.args.signature.now in
    let t = tree c.args.t.now in
    foreground_told S t c.purity.result c.purity.ensures (c.purity_says_what_is_in.ensures.pure S t) c.in-Foreground.is
