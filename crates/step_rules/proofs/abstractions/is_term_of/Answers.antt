use Rattle.std.proofs.Common.{◌≡◌, ◌+◌, sym, ◌∙◌, ap, true, false, map, drop, if◌then◌else◌}
use Rattle.std.proofs.lemmas.List.{drop_all}
use Rattle.term_base.specs.Trees.{var, tree, same_tree}
use Rattle.term_base.specs.Lits.{lit}
use Rattle.step_rules.specs.Abstraction.{put_back}
use Rattle.step_rules.proofs.Aside.{back-next}
use Rattle.step_rules.proofs.abstractions.is_term_of.Goals as goal

pub returns-then-is_name : goal.returns-then-is_name
returns-then-is_name c =
    let ds = c.args.definitions.now in
    let i = c.loop-d.d-index in
    let d = c.d-item.result in
    let v = c.args.v in
    let yes : same_tree (lit d).left (var v) ≡ true = sym c.is_name.ensures ∙ c.if-is_name.true in
    c.is_replaced.ensures
    ∙ sym
    (c.loop-d.invariant
    ∙ ap (λ t. same_tree t (tree c.args.u.now))
    (back-next ds i d v c.loop-d-test.true c.d-item.is ∙ ap (λ b. if b then (lit d).right else put_back (map lit (drop (i + 1) ds)) v) yes))

pub loop-d-preserved : goal.loop-d-preserved
loop-d-preserved c =
    let ds = c.args.definitions.now in
    let i = c.loop-d.d-index in
    let d = c.d-item.result in
    let v = c.args.v in
    let no : same_tree (lit d).left (var v) ≡ false = sym c.is_name.ensures ∙ c.if-is_name.false in
    c.loop-d.invariant
    ∙ ap (λ t. same_tree t (tree c.args.u.now))
    (back-next ds i d v c.loop-d-test.true c.d-item.is ∙ ap (λ b. if b then (lit d).right else put_back (map lit (drop (i + 1) ds)) v) no)

pub returns : goal.returns
returns c =
    let ds = c.args.definitions.now in
    c.is_variable.ensures
    ∙ sym (c.loop-d.invariant ∙ ap (λ ks. same_tree (put_back (map lit ks) c.args.v) (tree c.args.u.now)) (drop_all c.loop-d.d-index ds c.loop-d-test.false))
