use Rattle.std.proofs.Common.{◌≡◌, ◌∙◌, ap, sym}
use Rattle.std.specs.Prelude.{is_some, option_map}
use Rattle.std.specs.Option.{option_copied}
use Rattle.term_base.specs.Lits.{lit, lits, disequation}
use Rattle.term_base.specs.Places.{changed, other}
use Rattle.term_base.specs.Trees.{tree}
use Rattle.hier_rules.proofs.AdmitLemmas.{no_first, no_second, not_factored, factoring_admitted}
use Rattle.hier_rules.proofs.TestLemmas.{true_of, false_of}
use Rattle.hier_rules.proofs.factoring.factored.Goals as goal

pub replaces_by-requires : goal.replaces_by-requires
replaces_by-requires c = sym c.literal_at.ensures ∙ ap (λ o. option_map lit (option_copied o)) c.in-Some.is

pub put_literal-requires : goal.put_literal-requires
put_literal-requires c = ap is_some (sym c.literal_at-2.ensures ∙ ap (λ o. option_map lit (option_copied o)) c.in-Some-literal_at.is)

pub returns-in-None : goal.returns-in-None
returns-in-None c =
    no_first c.args.signature.now (lits c.args.c) c.args.first c.args.first_side c.args.second c.args.second_side
    (sym c.literal_at.ensures ∙ ap (λ o. option_map lit (option_copied o)) c.in-None.is)

pub returns-in-None-literal_at : goal.returns-in-None-literal_at
returns-in-None-literal_at c =
    no_second c.args.signature.now (lits c.args.c) c.args.first c.args.first_side c.args.second c.args.second_side
    (sym c.literal_at-2.ensures ∙ ap (λ o. option_map lit (option_copied o)) c.in-None-literal_at.is)

pub returns-then-not-replaces_by : goal.returns-then-not-replaces_by
returns-then-not-replaces_by c =
    not_factored c.args.signature.now (lits c.args.c) c.args.first c.args.first_side c.args.second c.args.second_side (lit c.in-Some.l.now) (sym c.literal_at.ensures ∙ ap (λ o. option_map lit (option_copied o)) c.in-Some.is)
    (false_of c.replaces_by.result c.replaces_by.ensures c.if-not-replaces_by.true)

pub returns : goal.returns
returns c =
    let ls = lits c.args.c in
    let l = lit c.in-Some.l.now in
    let m = lit c.in-Some-literal_at.m.now in
    let r_is : tree c.in_ok-r.r ≡ other c.args.first_side l = ap tree c.in_ok-r.ensures ∙ c.other_side.ensures in
    let t_is : tree c.in_ok-t.t ≡ other c.args.second_side m = ap tree c.in_ok-t.ensures ∙ c.other_side-2.ensures in
    factoring_admitted c.args.signature.now ls c.args.first c.args.first_side c.args.second c.args.second_side l m (sym c.literal_at.ensures ∙ ap (λ o. option_map lit (option_copied o)) c.in-Some.is) (sym c.literal_at-2.ensures ∙ ap (λ o. option_map lit (option_copied o)) c.in-Some-literal_at.is)
    (true_of c.replaces_by.result c.replaces_by.ensures c.if-not-replaces_by.false) (lits c.put_literal.new.c)
    (c.put_literal.ensures
    ∙ ap (λ z. changed c.args.second (disequation z (tree c.in_ok-t.t)) ls) r_is
    ∙ ap (λ z. changed c.args.second (disequation (other c.args.first_side l) z) ls) t_is)
