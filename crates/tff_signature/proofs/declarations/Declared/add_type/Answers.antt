use Rattle.std.proofs.Common.{sym, ◌∙◌}
use Rattle.tff_signature.proofs.TableLemmas.{type_kept, is_none}
use Rattle.tff_signature.proofs.declarations.Declared.add_type.Goals as goal

pub returns-clause-types : goal.returns-clause-types
returns-clause-types c = λ n.
    type_kept (λ v. v.items) (λ t. t.now) c.args.self.now.types.entries c.insert.new.self.entries c.in_ok-from_slice.field-0 c.args.given c.args.name.now n
    c.in_ok-from_slice.ensures.items (is_none _ (sym c.contains_key.ensures ∙ c.if-contains_key.false)) c.in_ok-insert.ensures.entries
