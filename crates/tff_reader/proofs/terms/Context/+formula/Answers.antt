use Rattle.std.proofs.Common.{◌≡◌, ◌∙◌, List, Err, length, drop, ap, sym, subst, arith, rules}
use Rattle.tff_grammar.specs.declared.trees.Variable.{Variable}
use Rattle.tff_reader.specs.Bindings.{Binds}
use Rattle.tff_grammar.specs.declared.trees.Formula.{Formula}
use Rattle.tff_reader.specs.Meaning.{meaning, relation_of}
use Rattle.tff_reader.specs.Scopes.{bind}
use Rattle.tff_reader.specs.Contexts.{signature}
use Rattle.tff_reader.proofs.FormulaLemmas.{constant_reads, atom_reads, atom_stops, relation_reads, relation_stops, not_reads, not_stops, quantified_reads, quantified_stops, linked_reads, linked_stops_first, linked_stops_second, joined_reads, joined_stops}
use Rattle.tff_reader.proofs.WayLemmas.{way_begin, way_step_stop, way_step_next, way_all}
use Rattle.tff_reader.proofs.terms.Context.+formula.Goals as goal

pub formula-returns-in-Constant : goal.formula-returns-in-Constant
formula-returns-in-Constant t c = λ sc b.
    rw c.in-Constant.is (constant_reads c.args.self.now.text.now (signature c.args.self.now) sc c.args.next c.in-Constant.value c.args.scope.now _ c.constant.ensures b)

pub formula-returns-in_err-atom-in-Atom : goal.formula-returns-in_err-atom-in-Atom
formula-returns-in_err-atom-in-Atom t c = λ sc b.
    let e = c.in_err-atom-in-Atom.field-0.0 in
    let r : c.from_residual.result ≡ Err e = search rules in
    rw (r, c.in-Atom.is) (atom_stops c.args.self.now.text.now (signature c.args.self.now) sc c.args.next c.in-Atom.term e (c.in_err-atom-in-Atom.ensures sc b))

pub formula-returns-in_ok-atom-in-Atom : goal.formula-returns-in_ok-atom-in-Atom
formula-returns-in_ok-atom-in-Atom t c = λ sc b.
    let h = c.in_ok-atom-in-Atom.ensures sc b in
    rw c.in-Atom.is (atom_reads c.args.self.now.text.now (signature c.args.self.now) sc c.args.next c.in-Atom.term c.args.scope.now _ h.0 h.1 b)

pub formula-returns-in_err-first-in-Relation : goal.formula-returns-in_err-first-in-Relation
formula-returns-in_err-first-in-Relation t c = λ sc b.
    let e = c.in_err-first-in-Relation.field-0.0 in
    let r : c.from_residual-in_err-first-in-Relation.result ≡ Err e = search rules in
    rw (r, c.in-Relation.is) (relation_stops c.args.self.now.text.now (signature c.args.self.now) sc c.args.next c.in-Relation.sign c.in-Relation.left c.in-Relation.right e (c.in_err-first-in-Relation.ensures sc b))

pub formula-returns-in_ok-relation-in-Relation : goal.formula-returns-in_ok-relation-in-Relation
formula-returns-in_ok-relation-in-Relation t c = λ sc b.
    let h = c.in_ok-first-in-Relation.ensures sc b in
    let is = c.in_ok-relation-in-Relation.ensures ∙ ap (λ s. relation_of c.in-Relation.sign s c.in_ok-first-in-Relation.second) h.1.0 ∙ ap (relation_of c.in-Relation.sign _) h.1.1 in
    rw c.in-Relation.is
    (relation_reads c.args.self.now.text.now (signature c.args.self.now) sc c.args.next c.in-Relation.sign c.in-Relation.left c.in-Relation.right c.args.scope.now _ h.0 is b)

pub formula-returns-in_err-denied-in-Not : goal.formula-returns-in_err-denied-in-Not
formula-returns-in_err-denied-in-Not t c = λ sc b.
    let e = c.in_err-denied-in-Not.field-0.0 in
    let r : c.from_residual-in_err-denied-in-Not.result ≡ Err e = search rules in
    rw (r, c.in-Not.is, ← c.get.ensures) (not_stops c.args.self.now.text.now (signature c.args.self.now) sc c.args.next c.get.result.now e (c.in_err-denied-in-Not.ensures sc b))

pub formula-returns-in_ok-negation-in-Not : goal.formula-returns-in_ok-negation-in-Not
formula-returns-in_ok-negation-in-Not t c = λ sc b.
    rw (c.in-Not.is, ← c.get.ensures)
    (not_reads c.args.self.now.text.now (signature c.args.self.now) sc c.args.next c.get.result.now _ c.in_ok-denied-in-Not.denied _ c.in_ok-denied-in-Not.behind (c.in_ok-denied-in-Not.ensures sc b) c.in_ok-negation-in-Not.ensures)

pub formula-returns-in_err-body-in-Quantified : goal.formula-returns-in_err-body-in-Quantified
formula-returns-in_err-body-in-Quantified t c = λ sc b.
    let self = c.args.self.now in
    let e = c.in_err-body-in-Quantified.field-0.0 in
    let vs = c.as_slice.result.now in
    let r : c.from_residual-in_err-body-in-Quantified.result ≡ Err e = search rules in
    rw (r, c.in-Quantified.is, ← c.as_slice.ensures, ← c.get-in-Quantified.ensures)
    (quantified_stops self.text.now (signature self) sc c.args.next c.in-Quantified.quantifier vs c.get-in-Quantified.result.now c.in_ok-bound-in-Quantified.inside e c.in_ok-bound-in-Quantified.ensures.number
    (c.in_err-body-in-Quantified.ensures (bind self.text.now self.sorts.now c.args.next vs sc) (c.in_ok-bound-in-Quantified.ensures.scope sc b)))

pub formula-returns-in_ok-quantified-in-Quantified : goal.formula-returns-in_ok-quantified-in-Quantified
formula-returns-in_ok-quantified-in-Quantified t c = λ sc b.
    let self = c.args.self.now in
    let vs : List Variable = c.as_slice.result.now in
    let inner = bind self.text.now self.sorts.now c.args.next vs sc in
    let many : c.len.result ≡ length vs = c.len.ensures ∙ ap length (sym c.as_slice.ensures) in
    let body = c.in_ok-body-in-Quantified.ensures inner (c.in_ok-bound-in-Quantified.ensures.scope sc b) in
    rw (c.in-Quantified.is, ← c.as_slice.ensures, ← c.get-in-Quantified.ensures)
    (quantified_reads self.text.now (signature self) sc c.args.next c.in-Quantified.quantifier vs c.get-in-Quantified.result.now _ _ c.in_ok-bound-in-Quantified.bound c.in_ok-body-in-Quantified.body _
    c.in_ok-bound-in-Quantified.inside c.in_ok-body-in-Quantified.behind c.in_ok-bound-in-Quantified.ensures.number c.in_ok-bound-in-Quantified.ensures.bound body
    (subst (λ n. Binds c.leave.new.self (drop n inner)) many (c.in_ok-leave-in-Quantified.ensures inner body.3)) c.in_ok-quantified-in-Quantified.ensures)

pub formula-returns-in_err-first-in-Linked : goal.formula-returns-in_err-first-in-Linked
formula-returns-in_err-first-in-Linked t c = λ sc b.
    let e = c.in_err-first-in-Linked.field-0.0 in
    let r : c.from_residual-in_err-first-in-Linked.result ≡ Err e = search rules in
    rw (r, c.in-Linked.is, ← c.get-in-Linked.ensures)
    (linked_stops_first c.args.self.now.text.now (signature c.args.self.now) sc c.args.next c.in-Linked.link c.get-in-Linked.result.now _ e (c.in_err-first-in-Linked.ensures sc b))

pub formula-returns-in_err-second-in-Linked : goal.formula-returns-in_err-second-in-Linked
formula-returns-in_err-second-in-Linked t c = λ sc b.
    let e = c.in_err-second-in-Linked.field-0.0 in
    let r : c.from_residual-in_err-second-in-Linked.result ≡ Err e = search rules in
    let first = c.in_ok-first-in-Linked.ensures sc b in
    rw (r, c.in-Linked.is, ← c.get-in-Linked.ensures, ← c.get-in-Linked-2.ensures)
    (linked_stops_second c.args.self.now.text.now (signature c.args.self.now) sc c.args.next c.in-Linked.link c.get-in-Linked.result.now c.get-in-Linked-2.result.now _ c.in_ok-first-in-Linked.first
    c.in_ok-first-in-Linked.between e first (c.in_err-second-in-Linked.ensures sc first.3))

pub formula-returns-in_ok-linked-in-Linked : goal.formula-returns-in_ok-linked-in-Linked
formula-returns-in_ok-linked-in-Linked t c = λ sc b.
    let first = c.in_ok-first-in-Linked.ensures sc b in
    rw (c.in-Linked.is, ← c.get-in-Linked.ensures, ← c.get-in-Linked-2.ensures)
    (linked_reads c.args.self.now.text.now (signature c.args.self.now) sc c.args.next c.in-Linked.link c.get-in-Linked.result.now c.get-in-Linked-2.result.now _ _ c.in_ok-first-in-Linked.first
    c.in_ok-second-in-Linked.second _ c.in_ok-first-in-Linked.between c.in_ok-second-in-Linked.behind first (c.in_ok-second-in-Linked.ensures sc first.3) c.in_ok-linked-in-Linked.ensures)

pub formula-returns-in_err-all-in-Joined : goal.formula-returns-in_err-all-in-Joined
formula-returns-in_err-all-in-Joined t c = λ sc b.
    let e = c.in_err-all-in-Joined.field-0.0 in
    let r : c.from_residual-in_err-all-in-Joined.result ≡ Err e = search rules in
    rw (r, c.in-Joined.is, ← c.as_slice-in-Joined.ensures)
    (joined_stops c.args.self.now.text.now (signature c.args.self.now) sc c.args.next c.in-Joined.junction c.as_slice-in-Joined.result.now e (c.in_err-all-in-Joined.ensures sc b))

pub formula-returns-in_ok-all-in-Joined : goal.formula-returns-in_ok-all-in-Joined
formula-returns-in_ok-all-in-Joined t c = λ sc b.
    rw (c.in-Joined.is, ← c.as_slice-in-Joined.ensures)
    (joined_reads c.args.self.now.text.now (signature c.args.self.now) sc c.args.next c.in-Joined.junction c.as_slice-in-Joined.result.now _ c.in_ok-all-in-Joined.all _ c.in_ok-all-in-Joined.behind
    (c.in_ok-all-in-Joined.ensures sc b) c.joined.ensures)

pub members-loop-member-init : goal.members-loop-member-init
members-loop-member-init t c = λ sc b. way_begin c.new-all.result c.args.next c.args.scope.now sc _ c.new-all.ensures b

pub members-returns-in_err-formula : goal.members-returns-in_err-formula
members-returns-in_err-formula t c = λ sc b.
    let self = c.args.self.now in
    let gs : List Formula = c.args.members.now in
    let way = c.loop-member.invariant sc b in
    let e = c.in_err-formula.field-0.0 in
    let r : c.from_residual.result ≡ Err e = search rules in
    rw r (way_step_stop (meaning self.text.now (signature self)) gs c.loop-member.member-index sc _ c.args.next c.loop-member.all c.loop-member.number c.loop-member.scope c.member-item.result way (omega arith)
    c.member-item.is e (c.in_err-formula.ensures sc way.binds))

pub members-loop-member-preserved : goal.members-loop-member-preserved
members-loop-member-preserved t c = λ sc b.
    let self = c.args.self.now in
    let gs : List Formula = c.args.members.now in
    let way = c.loop-member.invariant sc b in
    way_step_next (meaning self.text.now (signature self)) gs c.loop-member.member-index sc _ c.args.next c.loop-member.all c.loop-member.number c.loop-member.scope c.member-item.result way (omega arith)
    c.member-item.is c.push.new.self c.formula.new.scope (c.in_ok-formula.formula, c.in_ok-formula.behind) (c.in_ok-formula.ensures sc way.binds) c.in_ok-push.ensures.ok

pub members-returns : goal.members-returns
members-returns t c = λ sc b.
    let self = c.args.self.now in
    let gs : List Formula = c.args.members.now in
    way_all (meaning self.text.now (signature self)) gs c.loop-member.member-index sc _ c.args.next c.loop-member.all c.loop-member.number c.loop-member.scope (c.loop-member.invariant sc b) (omega arith)
