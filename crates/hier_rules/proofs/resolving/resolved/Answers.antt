use Rattle.std.proofs.Common.{◌∙◌, ap, sym}
use Rattle.std.specs.Prelude.{is_some, option_map}
use Rattle.std.specs.Option.{option_copied}
use Rattle.term_base.specs.Lits.{lit, lits}
use Rattle.hier_rules.proofs.AdmitLemmas.{nothing_to_resolve, not_resolved, resolution_admitted}
use Rattle.hier_rules.proofs.TestLemmas.{true_of, false_of}
use Rattle.hier_rules.proofs.resolving.resolved.Goals as goal

pub resolves_by-requires : goal.resolves_by-requires
resolves_by-requires c = sym c.literal_at.ensures ∙ ap (λ o. option_map lit (option_copied o)) c.in-Some.is

pub take_out-requires : goal.take_out-requires
take_out-requires c = ap is_some (sym c.literal_at.ensures ∙ ap (λ o. option_map lit (option_copied o)) c.in-Some.is)

pub returns-in-None : goal.returns-in-None
returns-in-None c = nothing_to_resolve c.args.signature.now (lits c.args.c) c.args.literal (sym c.literal_at.ensures ∙ ap (λ o. option_map lit (option_copied o)) c.in-None.is)

pub returns-then-not-resolves_by : goal.returns-then-not-resolves_by
returns-then-not-resolves_by c =
    not_resolved c.args.signature.now (lits c.args.c) c.args.literal (lit c.in-Some.l.now) (sym c.literal_at.ensures ∙ ap (λ o. option_map lit (option_copied o)) c.in-Some.is)
    (false_of c.resolves_by.result c.resolves_by.ensures c.if-not-resolves_by.true)

pub returns : goal.returns
returns c =
    resolution_admitted c.args.signature.now (lits c.args.c) c.args.literal (lit c.in-Some.l.now) (sym c.literal_at.ensures ∙ ap (λ o. option_map lit (option_copied o)) c.in-Some.is)
    (true_of c.resolves_by.result c.resolves_by.ensures c.if-not-resolves_by.false) (lits c.take_out.new.c) c.take_out.ensures.rest
