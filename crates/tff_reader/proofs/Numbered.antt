-- The binders of what is read are numbered in reading order.
use Rattle.std.proofs.Common.{◌≡◌, ℕ, suc, ◌+◌, Bool, true, false, List, [], ◌∷◌, ◌++◌, map, length, refl, sym, ◌∙◌, ap, subst, arith, length-append, append-nil}
use Rattle.std.specs.Prelude.{Option, Some, None, filter_map, flat_map}
use Rattle.std.specs.Option.{option_map_or}
use Rattle.std.specs.List.{All, cons_option}
use Rattle.std.proofs.lemmas.List.Elements.{All-nil, All-cons, All-head, All-tail}
use Rattle.term_base.specs.declared.symbols.Symbol.{Symbol}
use Rattle.term_base.specs.declared.terms.Term.{Term}
use Rattle.term_base.specs.declared.variables.Variable.{Variable}
use Rattle.formula_base.specs.declared.formulas.Formula.{Formula}
use Rattle.formula_base.specs.declared.formulas.Formula.TheVariants as g
use Rattle.formula_base.specs.Binders.{binders, binders_step, AreNumbered, IsNumbered}
use Rattle.formula_base.specs.FormulaFolds as folds
use Rattle.formula_base.specs.Typing.{formulas}
use Rattle.tff_grammar.specs.declared.pieces.Operation.{Operation}
use Rattle.tff_grammar.specs.declared.pieces.Operation.TheVariants as o
use Rattle.tff_grammar.specs.declared.pieces.Junction.{Junction}
use Rattle.tff_grammar.specs.declared.pieces.Junction.TheVariants as junction
use Rattle.tff_grammar.specs.declared.pieces.Link.{Link}
use Rattle.tff_grammar.specs.declared.pieces.Link.TheVariants as link
use Rattle.tff_grammar.specs.declared.pieces.Quantifier.{Quantifier}
use Rattle.tff_grammar.specs.declared.pieces.Quantifier.TheVariants.{ForAll, Exists}
use Rattle.tff_grammar.specs.declared.pieces.Relation.{Relation}
use Rattle.tff_grammar.specs.declared.pieces.Relation.TheVariants.{Equal, Differ}
use Rattle.tff_grammar.specs.declared.trees.Head.TheVariants as head
use Rattle.tff_grammar.specs.declared.trees.Term.{Term as WrittenTerm}
use Rattle.tff_grammar.specs.declared.trees.Term.TheOpen as t
use Rattle.tff_grammar.specs.declared.trees.Term.TheOpen.{Term-F}
use Rattle.tff_grammar.specs.declared.trees.Term.TheViews.{out-Term}
use Rattle.tff_grammar.specs.declared.trees.Variable.{Variable as WrittenVariable}
use Rattle.tff_grammar.specs.declared.trees.Sort.{Sort as WrittenSort}
use Rattle.tff_grammar.specs.declared.trees.Sort.TheVariants as sort
use Rattle.tff_grammar.specs.declared.pieces.BasicSort.TheVariants as basic
use Rattle.tff_grammar.specs.declared.trees.Formula.{Formula as WrittenFormula}
use Rattle.tff_grammar.specs.declared.trees.Content.{Content}
use Rattle.tff_grammar.specs.declared.trees.Content.TheVariants as content
use Rattle.tff_grammar.specs.declared.trees.Statement.{Statement}
use Rattle.tff_signature.specs.Names.{Name}
use Rattle.tff_signature.specs.Symbols.{Signature, signature_of}
use Rattle.tff_reader.specs.Scopes.{Scope, variable_of_sort, variables_from, bind}
use Rattle.tff_reader.specs.Meaning.{Meaning, FormulaMeaning, members, behind, formulas_of, comparison, atom_step, relation_of, constant_of, quantified, linked, joined, meaning_step, meaning, formula_meaning, premise_of, conjecture_of, premises_of, conjectures_of, first, problem_of, term_of}
use Rattle.tff_grammar.specs.TreeFolds.{fold-Constant, fold-Atom, fold-Relation, fold-Not, fold-Quantified, fold-Linked, fold-Joined}
use Rattle.tff_reader.proofs.TreeInduction.{Each, formula_induction}

-- ---- numbers of lists of variables

-- the variables are numbered from n on, and k is the number behind them
pub record Counts (n : ℕ) (vs : List Variable) (k : ℕ) : Type 0 where
  pub numbered : AreNumbered n vs
  pub behind : k ≡ n + length vs

numbered_append : (vs ws : List Variable) (n m : ℕ) → AreNumbered n vs → m ≡ n + length vs → AreNumbered m ws → AreNumbered n (vs ++ ws)
numbered_append [] ws n m h e k = let same : m ≡ n = omega arith in subst (λ (i : ℕ). AreNumbered i ws) same k
numbered_append (v ∷ vs) ws n m h e k = (h.0, numbered_append vs ws (suc n) m h.1 (omega arith) k)

counts_append : (vs ws : List Variable) (n m k : ℕ) → Counts n vs m → Counts m ws k → Counts n (vs ++ ws) k
counts_append vs ws n m k a b = record {
  numbered = numbered_append vs ws n m a.numbered a.behind b.numbered;
  behind = omega (arith, a.behind, b.behind, length-append vs ws);
}

counts_none : (n : ℕ) → Counts n [] n
counts_none n = record { numbered = tt; behind = omega arith }

counts_same : (vs ws : List Variable) (n k : ℕ) → vs ≡ ws → Counts n ws k → Counts n vs k
counts_same vs ws n k e h = subst (λ (us : List Variable). Counts n us k) (sym e) h

-- ---- the binders of each form

no_comparison : (op : Operation) (ts : List Term) → binders (comparison op ts) ≡ []
no_comparison o.Less (s ∷ u ∷ []) = folds.fold-Less (List Variable) binders_step s u
no_comparison o.LessEq (s ∷ u ∷ []) = folds.fold-LessEq (List Variable) binders_step s u
no_comparison o.Greater (s ∷ u ∷ []) = folds.fold-Less (List Variable) binders_step u s
no_comparison o.GreaterEq (s ∷ u ∷ []) = folds.fold-LessEq (List Variable) binders_step u s
no_comparison op ts = folds.fold-True (List Variable) binders_step

no_atom : (text : List ℕ) (symbols : List Symbol) (scope : Scope) (u : WrittenTerm) (d : Term-F WrittenTerm) → binders (atom_step text symbols scope u d) ≡ []
no_atom text symbols scope u (t.Apply (head.Operation op s) args) = no_comparison op (map (term_of text symbols scope) args)
no_atom text symbols scope u (t.Apply (head.Word w) args) = folds.fold-Atom (List Variable) binders_step (term_of text symbols scope u)
no_atom text symbols scope u (t.Variable s) = folds.fold-Atom (List Variable) binders_step (term_of text symbols scope u)
no_atom text symbols scope u (t.Numeral m) = folds.fold-Atom (List Variable) binders_step (term_of text symbols scope u)

no_relation : (r : Relation) (s u : Term) → binders (relation_of r s u) ≡ []
no_relation Equal s u = folds.fold-Same (List Variable) binders_step s u
no_relation Differ s u = folds.fold-Not (List Variable) binders_step (g.Same s u) ∙ folds.fold-Same (List Variable) binders_step s u

no_constant : (b : Bool) → binders (constant_of b) ≡ []
no_constant true = folds.fold-True (List Variable) binders_step
no_constant false = folds.fold-False (List Variable) binders_step

of_quantified : (q : Quantifier) (vs : List Variable) (a : Formula) → binders (quantified q vs a) ≡ vs ++ binders a
of_quantified ForAll vs a = folds.fold-All (List Variable) binders_step vs a
of_quantified Exists vs a = folds.fold-Some (List Variable) binders_step vs a

of_not : (a : Formula) → binders (g.Not a) ≡ binders a
of_not a = folds.fold-Not (List Variable) binders_step a

of_pair : (a b : Formula) → flat_map (λ (vs : List Variable). vs) (map binders (a ∷ b ∷ [])) ≡ binders a ++ binders b
of_pair a b = ap (λ (vs : List Variable). binders a ++ vs) (append-nil (binders b))

of_linked : (l : Link) (a b : Formula) → binders (linked l a b) ≡ binders a ++ binders b
of_linked link.Implies a b = folds.fold-Implies (List Variable) binders_step a b
of_linked link.Implied a b = folds.fold-Or (List Variable) binders_step (a ∷ g.Not b ∷ []) ∙ of_pair a (g.Not b) ∙ ap (λ (vs : List Variable). binders a ++ vs) (of_not b)
of_linked link.Iff a b = folds.fold-Iff (List Variable) binders_step a b
of_linked link.Xor a b = of_not (g.Iff a b) ∙ folds.fold-Iff (List Variable) binders_step a b
of_linked link.Nand a b = of_not (g.And (a ∷ b ∷ [])) ∙ folds.fold-And (List Variable) binders_step (a ∷ b ∷ []) ∙ of_pair a b
of_linked link.Nor a b = of_not (g.Or (a ∷ b ∷ [])) ∙ folds.fold-Or (List Variable) binders_step (a ∷ b ∷ []) ∙ of_pair a b

of_joined : (j : Junction) (gs : List Formula) → binders (joined j gs) ≡ flat_map (λ (vs : List Variable). vs) (map binders gs)
of_joined junction.And gs = folds.fold-And (List Variable) binders_step gs
of_joined junction.Or gs = folds.fold-Or (List Variable) binders_step gs

-- ---- the variables of a quantifier

module _ (text : List ℕ) (sorts : List Name) where
  pub id_of : (id : ℕ) (s : Option WrittenSort) → (variable_of_sort text sorts id s).id ≡ id
  id_of id None = refl
  id_of id (Some (sort.Word w)) = refl
  id_of id (Some (sort.Basic basic.Individual)) = refl
  id_of id (Some (sort.Basic basic.Int)) = refl
  id_of id (Some sort.Truth) = refl

  variables_numbered : (id : ℕ) (vs : List WrittenVariable) → AreNumbered id (variables_from text sorts id vs)
  variables_numbered id [] = tt
  variables_numbered id (v ∷ vs) =
      let next : id + 1 ≡ suc id = omega arith in
      (id_of id v.sort, subst (λ (i : ℕ). AreNumbered i (variables_from text sorts (id + 1) vs)) next (variables_numbered (id + 1) vs))

  pub many_variables : (id : ℕ) (vs : List WrittenVariable) → length (variables_from text sorts id vs) ≡ length vs
  many_variables id [] = refl
  many_variables id (v ∷ vs) = ap suc (many_variables (id + 1) vs)

-- ---- what is read

-- the binders of a formula, where it stands, are numbered from the number there on
abbrev Good : Meaning → Type 0
Good m = (scope : Scope) (n : ℕ) → Counts n (binders (m scope n).formula) (m scope n).next

good_members : (ms : List Meaning) → Each Good ms → (scope : Scope) (n : ℕ)
    → Counts n (flat_map (λ (vs : List Variable). vs) (map binders (formulas_of (members ms scope n)))) (behind ms scope n)
good_members [] h scope n = counts_none n
good_members (m ∷ ms) h scope n =
    counts_append (binders (m scope n).formula) (flat_map (λ (vs : List Variable). vs) (map binders (formulas_of (members ms scope (m scope n).next))))
    n (m scope n).next (behind ms scope (m scope n).next) (h.0 scope n) (good_members ms h.1 scope (m scope n).next)

each_map : {A B : Type 0} (P : B → Type 0) (f : A → B) (xs : List A) → Each (λ x. P (f x)) xs → Each P (map f xs)
each_map P f [] h = tt
each_map P f (x ∷ xs) h = (h.0, each_map P f xs h.1)

module _ (text : List ℕ) (sig : Signature) where
  good_quantified : (q : Quantifier) (vs : List WrittenVariable) (m : Meaning) → Good m → (scope : Scope) (n : ℕ)
      → Counts n (binders (quantified q (variables_from text sig.sorts n vs) (m (bind text sig.sorts n vs scope) (n + length vs)).formula)) (m (bind text sig.sorts n vs scope) (n + length vs)).next
  good_quantified q vs m h scope n =
      let body = m (bind text sig.sorts n vs scope) (n + length vs) in
      let own = variables_from text sig.sorts n vs in
      let many : length own ≡ length vs = many_variables text sig.sorts n vs in
      let counted : Counts n own (n + length vs) = record { numbered = variables_numbered text sig.sorts n vs; behind = omega (arith, many) } in
      counts_same (binders (quantified q own body.formula)) (own ++ binders body.formula) n body.next (of_quantified q own body.formula)
      (counts_append own (binders body.formula) n (n + length vs) body.next counted (h (bind text sig.sorts n vs scope) (n + length vs)))

  good_linked : (l : Link) (m m' : Meaning) → Good m → Good m' → (scope : Scope) (n : ℕ)
      → Counts n (binders (linked l (m scope n).formula (m' scope (m scope n).next).formula)) (m' scope (m scope n).next).next
  good_linked l m m' h h' scope n =
      let a = m scope n in
      let b = m' scope a.next in
      counts_same (binders (linked l a.formula b.formula)) (binders a.formula ++ binders b.formula) n b.next (of_linked l a.formula b.formula)
      (counts_append (binders a.formula) (binders b.formula) n a.next b.next (h scope n) (h' scope a.next))

  pub all_good : (a : WrittenFormula) → Good (meaning text sig a)
  all_good = formula_induction (λ a. Good (meaning text sig a))
      (λ b. subst Good (sym (fold-Constant Meaning (meaning_step text sig) b)) (λ scope n. counts_same (binders (constant_of b)) [] n n (no_constant b) (counts_none n)))
      (λ u. subst Good (sym (fold-Atom Meaning (meaning_step text sig) u))
      (λ scope n. counts_same (binders (atom_step text sig.symbols scope u (out-Term u))) [] n n (no_atom text sig.symbols scope u (out-Term u)) (counts_none n)))
      (λ r s u. subst Good (sym (fold-Relation Meaning (meaning_step text sig) r s u))
      (λ scope n. counts_same (binders (relation_of r (term_of text sig.symbols scope s) (term_of text sig.symbols scope u))) [] n n
      (no_relation r (term_of text sig.symbols scope s) (term_of text sig.symbols scope u)) (counts_none n)))
      (λ a h. subst Good (sym (fold-Not Meaning (meaning_step text sig) a))
      (λ scope n. counts_same (binders (g.Not (meaning text sig a scope n).formula)) (binders (meaning text sig a scope n).formula) n (meaning text sig a scope n).next
      (of_not (meaning text sig a scope n).formula) (h scope n)))
      (λ q vs a h. subst Good (sym (fold-Quantified Meaning (meaning_step text sig) q vs a)) (good_quantified q vs (meaning text sig a) h))
      (λ l a b h h'. subst Good (sym (fold-Linked Meaning (meaning_step text sig) l a b)) (good_linked l (meaning text sig a) (meaning text sig b) h h'))
      (λ j gs h. subst Good (sym (fold-Joined Meaning (meaning_step text sig) j gs))
      (λ scope n. counts_same (binders (joined j (formulas_of (members (map (meaning text sig) gs) scope n)))) (flat_map (λ (vs : List Variable). vs) (map binders (formulas_of (members (map (meaning text sig) gs) scope n))))
      n (behind (map (meaning text sig) gs) scope n) (of_joined j (formulas_of (members (map (meaning text sig) gs) scope n)))
      (good_members (map (meaning text sig) gs) (each_map Good (meaning text sig) gs h) scope n)))

  pub counted_next : (a : WrittenFormula) (scope : Scope) (n : ℕ) → (meaning text sig a scope n).next ≡ n + length (binders (meaning text sig a scope n).formula)
  counted_next a scope n = (all_good a scope n).behind

  numbered_formula : (a : WrittenFormula) → IsNumbered (formula_meaning text sig a).formula
  numbered_formula a = (all_good a [] 0).numbered

  numbered_premise : (c : Content) (gs : List Formula) → All IsNumbered gs → All IsNumbered (cons_option (premise_of text sig c) gs)
  numbered_premise (content.Declaration w ty) gs h = h
  numbered_premise (content.Premise a) gs h = All-cons IsNumbered (formula_meaning text sig a).formula gs (numbered_formula a) h
  numbered_premise (content.Conjecture a) gs h = h

  numbered_conjecture : (c : Content) (gs : List Formula) → All IsNumbered gs → All IsNumbered (cons_option (conjecture_of text sig c) gs)
  numbered_conjecture (content.Declaration w ty) gs h = h
  numbered_conjecture (content.Premise a) gs h = h
  numbered_conjecture (content.Conjecture a) gs h = All-cons IsNumbered (formula_meaning text sig a).formula gs (numbered_formula a) h

  numbered_premises : (ss : List Statement) → All IsNumbered (premises_of text sig ss)
  numbered_premises [] = All-nil IsNumbered
  numbered_premises (s ∷ ss) = numbered_premise s.content (premises_of text sig ss) (numbered_premises ss)

  numbered_conjectures : (ss : List Statement) → All IsNumbered (conjectures_of text sig ss)
  numbered_conjectures [] = All-nil IsNumbered
  numbered_conjectures (s ∷ ss) = numbered_conjecture s.content (conjectures_of text sig ss) (numbered_conjectures ss)

-- the first item of a list, as a list
first_holds : (gs : List Formula) → All IsNumbered gs → All IsNumbered (option_map_or (λ (h : Formula). h ∷ []) (first gs) [])
first_holds [] h = All-nil IsNumbered
first_holds (f ∷ gs) h = All-cons IsNumbered f [] (All-head IsNumbered f gs h) (All-nil IsNumbered)

all_append : (fs gs : List Formula) → All IsNumbered fs → All IsNumbered gs → All IsNumbered (fs ++ gs)
all_append [] gs h k = k
all_append (f ∷ fs) gs h k = All-cons IsNumbered f (fs ++ gs) (All-head IsNumbered f fs h) (all_append fs gs (All-tail IsNumbered f fs h) k)

pub problem_numbered : (text : List ℕ) (ss : List Statement) → All IsNumbered (formulas (problem_of text ss))
problem_numbered text ss =
    let sig = signature_of text ss in
    all_append (premises_of text sig ss) (option_map_or (λ (h : Formula). h ∷ []) (first (conjectures_of text sig ss)) [])
    (numbered_premises text sig ss) (first_holds (conjectures_of text sig ss) (numbered_conjectures text sig ss))
