-- Each stack can be completed without a further level.
use Rattle.std.proofs.Common.{ℕ, ◌≤◌, true, [], ◌∷◌, None, refl, arith}
use Rattle.std.specs.List.{AllByRecursion}
use Rattle.tff_grammar.specs.declared.pieces.Span.{Span}
use Rattle.tff_grammar.specs.declared.pieces.BasicSort.TheVariants.{Int}
use Rattle.tff_grammar.specs.Grammar.{quoted, named, basic, truth, of_types, typing, variable, no_arguments, no_terms, no_second, VariableTree, truth_value, formula, alone, no_units, no_notes, bare, premise, no_statements, next_statement}
use Rattle.tff_grammar.specs.Text.{Leveleds}
use Rattle.tff_grammar.specs.Machine.{Symbol, Stack, levels}
use Rattle.tff_grammar.specs.Machine as m
use Rattle.tff_grammar.proofs.Completes.{Rest, Rests, text, type_in, closes}

abbrev pub nowhere : Span
nowhere = record { start = 0; «end» = 0 }

abbrev some_variable : VariableTree
some_variable = record { name = nowhere; sort = None }

abbrev pub canonical : (s : Symbol) → Rest s
canonical (m.statements again) = (next_statement (record { word = nowhere; name = named (quoted nowhere); body = premise nowhere (formula (truth_value true) alone); ending = bare }) no_statements, refl)
canonical (m.sign s) = tt
canonical m.a_name = named (quoted nowhere)
canonical (m.role again) = (premise nowhere (formula (truth_value true) alone), bare, no_statements, refl)
canonical m.ending = bare
canonical m.notes = no_notes
canonical m.close = tt
canonical m.typing = typing (quoted nowhere) of_types
canonical m.type = of_types
canonical m.result = None
canonical m.result_sort = truth
canonical m.in_type = type_in of_types
canonical m.in_args = closes None
canonical m.argument = (basic Int, [], truth)
canonical m.more_args = ([], truth)
canonical m.arrow_result = truth
canonical m.no_arrow = tt
canonical m.unit = truth_value true
canonical m.ended = tt
canonical (m.bound q) = tt
canonical m.tail = alone
canonical (m.chain j) = no_units
canonical (m.after_link l) = tt
canonical m.binder = (some_variable, [])
canonical m.after_binder = (None, [])
canonical m.binder_sort = (basic Int, [])
canonical m.more_binders = []
canonical m.term = variable nowhere
canonical m.arguments = no_arguments
canonical m.more_terms = no_terms
canonical m.second = no_second
canonical (m.after_relation r) = tt

abbrev pub complete : (k : Stack) → Rests k
complete [] = tt
complete (s ∷ k) = (canonical s, complete k)

abbrev pub IsWithin : ℕ → Leveleds → Type 0
IsWithin most = AllByRecursion (λ t. t.1 ≤ most)

pub within : (k : Stack) (most : ℕ) → levels k ≤ most → IsWithin most (text k (complete k))
within [] most h = tt
within (m.statements again ∷ k) most h = (h, (h, (h, (h, (h, (h, (h, (h, (h, tt)))))))))
within (m.sign s ∷ k) most h = (h, within k most h)
within (m.a_name ∷ k) most h = (h, within k most h)
within (m.role again ∷ k) most h = (h, (h, (h, (h, (h, tt)))))
within (m.ending ∷ k) most h = (h, (h, within k most h))
within (m.notes ∷ k) most h = within k most h
within (m.close ∷ k) most h = (h, within k most (omega (arith, h)))
within (m.typing ∷ k) most h = (h, (h, (h, within k most h)))
within (m.type ∷ k) most h = (h, within k most h)
within (m.result ∷ k) most h = within k most h
within (m.result_sort ∷ k) most h = (h, within k most h)
within (m.in_type ∷ k) most h = (h, (h, within k most (omega (arith, h))))
within (m.in_args ∷ k) most h = (h, within k most (omega (arith, h)))
within (m.argument ∷ k) most h = let l : levels k ≤ most = omega (arith, h) in (h, (h, (l, (l, within k most l))))
within (m.more_args ∷ k) most h = let l : levels k ≤ most = omega (arith, h) in (h, (l, (l, within k most l)))
within (m.arrow_result ∷ k) most h = (h, (h, within k most h))
within (m.no_arrow ∷ k) most h = within k most h
within (m.unit ∷ k) most h = (h, within k most h)
within (m.ended ∷ k) most h = within k most (omega (arith, h))
within (m.bound q ∷ k) most h = within k most (omega (arith, h))
within (m.tail ∷ k) most h = within k most h
within (m.chain j ∷ k) most h = within k most h
within (m.after_link l ∷ k) most h = within k most h
within (m.binder ∷ k) most h = (h, (h, within k most h))
within (m.after_binder ∷ k) most h = (h, within k most h)
within (m.binder_sort ∷ k) most h = (h, (h, within k most h))
within (m.more_binders ∷ k) most h = (h, within k most h)
within (m.term ∷ k) most h = (h, within k most h)
within (m.arguments ∷ k) most h = within k most h
within (m.more_terms ∷ k) most h = (h, within k most (omega (arith, h)))
within (m.second ∷ k) most h = within k most h
within (m.after_relation r ∷ k) most h = within k most h
