use Rattle.std.proofs.Common.{◌≡◌, ◌≤◌, List, ◌++◌, ◌∷◌, ◌∙◌, length, take, drop, ap, sym, subst}
use Rattle.std.specs.Prelude.{Some, is_some, option_map}
use Rattle.std.specs.Option.{option_copied}
use Rattle.term_base.specs.Lits.{Lit, lit, lits}
use Rattle.term_base.specs.Places.{item, other, left_out, changed, put_place}
use Rattle.term_base.specs.Trees.{tree}
use Rattle.hier_rules.proofs.AdmitLemmas.{no_equation, no_literal, not_replacing, not_replaced, superposition_admitted}
use Rattle.hier_rules.proofs.LiteralLemmas.{back_in, reaches}
use Rattle.hier_rules.proofs.OptionLemmas.{some_same}
use Rattle.hier_rules.proofs.TestLemmas.{true_of, false_of}
use Rattle.hier_rules.proofs.superposing.superposed.Goals as goal

pub replaces_by-requires : goal.replaces_by-requires
replaces_by-requires c = sym c.literal_at.ensures ∙ ap (λ o. option_map lit (option_copied o)) c.in-Some.is

pub is_replaced_in-requires : goal.is_replaced_in-requires
is_replaced_in-requires c = sym c.literal_at-2.ensures ∙ ap (λ o. option_map lit (option_copied o)) c.in-Some-literal_at.is

pub take_out-requires : goal.take_out-requires
take_out-requires c = ap is_some (sym c.literal_at.ensures ∙ ap (λ o. option_map lit (option_copied o)) c.in-Some.is)

pub take_out-old-requires : goal.take_out-old-requires
take_out-old-requires c = ap is_some (sym c.literal_at-2.ensures ∙ ap (λ o. option_map lit (option_copied o)) c.in-Some-literal_at.is)

pub put_back-requires : goal.put_back-requires
put_back-requires c =
    let place = c.args.place.now in
    let m = lit c.in-Some-literal_at.m.now in
    subst (λ (ls : List Lit). place.literal ≤ length ls) (sym c.take_out-old.ensures.rest)
    (reaches place.literal (lits c.args.d) m (sym c.literal_at-2.ensures ∙ ap (λ o. option_map lit (option_copied o)) c.in-Some-literal_at.is))

pub returns-in-None : goal.returns-in-None
returns-in-None c =
    no_equation c.args.signature.now (lits c.args.c) (lits c.args.d) c.args.literal c.args.side c.args.place.now
    (sym c.literal_at.ensures ∙ ap (λ o. option_map lit (option_copied o)) c.in-None.is)

pub returns-in-None-literal_at : goal.returns-in-None-literal_at
returns-in-None-literal_at c =
    no_literal c.args.signature.now (lits c.args.c) (lits c.args.d) c.args.literal c.args.side c.args.place.now
    (sym c.literal_at-2.ensures ∙ ap (λ o. option_map lit (option_copied o)) c.in-None-literal_at.is)

pub returns-then-not-replaces_by : goal.returns-then-not-replaces_by
returns-then-not-replaces_by c =
    not_replacing c.args.signature.now (lits c.args.c) (lits c.args.d) c.args.literal c.args.side c.args.place.now (lit c.in-Some.l.now) (sym c.literal_at.ensures ∙ ap (λ o. option_map lit (option_copied o)) c.in-Some.is)
    (false_of c.replaces_by.result c.replaces_by.ensures c.if-not-replaces_by.true)

pub returns-then-not-is_replaced_in : goal.returns-then-not-is_replaced_in
returns-then-not-is_replaced_in c =
    not_replaced c.args.signature.now (lits c.args.c) (lits c.args.d) c.args.literal c.args.side c.args.place.now (lit c.in-Some-literal_at.m.now) (sym c.literal_at-2.ensures ∙ ap (λ o. option_map lit (option_copied o)) c.in-Some-literal_at.is)
    (false_of c.is_replaced_in.result c.is_replaced_in.ensures c.if-not-is_replaced_in.true)

pub returns : goal.returns
returns c =
    let place = c.args.place.now in
    let side = c.args.side in
    let ls = lits c.args.c in
    let ms = lits c.args.d in
    let l = lit c.in-Some.l.now in
    let m = lit c.in-Some-literal_at.m.now in
    let from_there : item c.args.literal ls ≡ Some l = sym c.literal_at.ensures ∙ ap (λ o. option_map lit (option_copied o)) c.in-Some.is in
    let into_there : item place.literal ms ≡ Some m = sym c.literal_at-2.ensures ∙ ap (λ o. option_map lit (option_copied o)) c.in-Some-literal_at.is in
    let old = lit c.take_out-old.result in
    let same_l : lit c.take_out.result ≡ l = some_same (item c.args.literal ls) (lit c.take_out.result) l c.take_out.ensures.literal from_there in
    let same_m : old ≡ m = some_same (item place.literal ms) old m c.take_out-old.ensures.literal into_there in
    let put : lit c.in_ok-new.new ≡ put_place place (tree c.into_other_side-t.result) old = rw (← c.as_slice.ensures) c.in_ok-new.ensures in
    let new_is : lit c.in_ok-new.new ≡ put_place place (other side l) m =
    put ∙ ap (λ t. put_place place t old) (c.into_other_side-t.ensures ∙ ap (other side) same_l) ∙ ap (put_place place (other side l)) same_m in
    let back_is : lits c.put_back.new.c ≡ changed place.literal (put_place place (other side l) m) ms =
    c.in_ok-put_back.ensures
    ∙ ap (λ (r : List Lit). take place.literal r ++ lit c.in_ok-new.new ∷ drop place.literal r) c.take_out-old.ensures.rest
    ∙ back_in place.literal ms m (lit c.in_ok-new.new) into_there
    ∙ ap (λ z. changed place.literal z ms) new_is in
    superposition_admitted c.args.signature.now ls ms c.args.literal side place l m from_there into_there
    (true_of c.replaces_by.result c.replaces_by.ensures c.if-not-replaces_by.false)
    (true_of c.is_replaced_in.result c.is_replaced_in.ensures c.if-not-is_replaced_in.false)
    (lits c.in_ok-joined.field-0)
    (c.in_ok-joined.ensures
    ∙ ap (λ r. r ++ lits c.put_back.new.c) c.take_out.ensures.rest
    ∙ ap (λ r. left_out c.args.literal ls ++ r) back_is)
