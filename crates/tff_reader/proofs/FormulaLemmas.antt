-- What is read of each form of a formula, by what is read of its parts.
use Rattle.std.proofs.Common.{◌≡◌, ℕ, ◌+◌, Bool, List, [], ◌∷◌, ◌++◌, map, length, drop, refl, sym, ◌∙◌, ap, subst}
use Rattle.std.specs.Prelude.{Ok, Err}
use Rattle.formula_base.specs.declared.formulas.Formula.{Formula}
use Rattle.formula_base.specs.declared.formulas.Formula.TheVariants as g
use Rattle.term_base.specs.declared.variables.Variable.{Variable}
use Rattle.tff_grammar.specs.declared.pieces.Junction.{Junction}
use Rattle.tff_grammar.specs.declared.pieces.Link.{Link}
use Rattle.tff_grammar.specs.declared.pieces.Quantifier.{Quantifier}
use Rattle.tff_grammar.specs.declared.pieces.Relation.{Relation}
use Rattle.tff_grammar.specs.declared.trees.Term.{Term}
use Rattle.tff_grammar.specs.declared.trees.Variable.{Variable as WrittenVariable}
use Rattle.tff_grammar.specs.declared.trees.Formula.{Formula as WrittenFormula}
use Rattle.tff_grammar.specs.declared.trees.Formula.TheVariants as written
use Rattle.tff_signature.specs.Faults.{Faults}
use Rattle.tff_signature.specs.Symbols.{Signature}
use Rattle.tff_reader.specs.declared.stops.Stop.{Stop}
use Rattle.tff_reader.specs.declared.heads.Wanted.TheVariants.{Predicate}
use Rattle.tff_reader.specs.declared.scopes.Scope.{Scope as KeptScope}
use Rattle.tff_reader.specs.Stops.{Stops}
use Rattle.tff_reader.specs.Scopes.{Scope, bind, variables_from}
use Rattle.tff_reader.specs.Bindings.{Binds}
use Rattle.tff_reader.specs.Typing.{term_faults, relation_faults}
use Rattle.tff_reader.specs.Meaning.{Meaning, FormulaMeaning, meaning, members, behind, faults_of, formulas_of, constant_of, atom_of, relation_of, term_of, quantified, linked, joined}
use Rattle.tff_reader.specs.Contexts.{OnRead, OnReadAll}
use Rattle.tff_reader.proofs.StopLemmas.{stops_same, stops_sooner, stops_later}
use Rattle.tff_reader.proofs.BindingLemmas.{drop_bind}
use Rattle.tff_reader.proofs.MeaningLemmas.{meaning-Constant, meaning-Atom, meaning-Relation, meaning-Not, meaning-Quantified, meaning-Linked, meaning-Joined}

read_as : (m m' : FormulaMeaning) (kept : KeptScope) (scope : Scope) (x : Formula) (k : ℕ) → m ≡ m' → m'.faults ≡ [] → x ≡ m'.formula → k ≡ m'.next → Binds kept scope → OnRead (Ok (x, k)) kept scope m
read_as m m' kept scope x k e none is next binds = subst (λ (n : FormulaMeaning). OnRead (Ok (x, k)) kept scope n) (sym e) (none, is, next, binds)

stop_as : (e : Stop) (m m' : FormulaMeaning) → m ≡ m' → Stops e m'.faults → Stops e m.faults
stop_as e m m' same h = stops_same e m.faults m'.faults (ap (λ (n : FormulaMeaning). n.faults) same) h

module _ (text : List ℕ) (sig : Signature) (scope : Scope) (n : ℕ) where
  abbrev at : WrittenFormula → FormulaMeaning
  at a = meaning text sig a scope n

  pub constant_reads : (b : Bool) (kept : KeptScope) (x : Formula) → x ≡ constant_of b → Binds kept scope → OnRead (Ok (x, n)) kept scope (at (written.Constant b))
  constant_reads b kept x is binds = read_as (at (written.Constant b)) _ kept scope x n (meaning-Constant text sig scope n b) refl is refl binds

  pub atom_reads : (u : Term) (kept : KeptScope) (x : Formula) → term_faults text sig.symbols scope u Predicate ≡ [] → x ≡ atom_of text sig.symbols scope u → Binds kept scope
      → OnRead (Ok (x, n)) kept scope (at (written.Atom u))
  atom_reads u kept x none is binds = read_as (at (written.Atom u)) _ kept scope x n (meaning-Atom text sig scope n u) none is refl binds

  pub atom_stops : (u : Term) (e : Stop) → Stops e (term_faults text sig.symbols scope u Predicate) → Stops e (at (written.Atom u)).faults
  atom_stops u e h = stop_as e (at (written.Atom u)) _ (meaning-Atom text sig scope n u) h

  pub relation_reads : (r : Relation) (s u : Term) (kept : KeptScope) (x : Formula) → relation_faults text sig.symbols scope s u ≡ []
      → x ≡ relation_of r (term_of text sig.symbols scope s) (term_of text sig.symbols scope u) → Binds kept scope → OnRead (Ok (x, n)) kept scope (at (written.Relation r s u))
  relation_reads r s u kept x none is binds = read_as (at (written.Relation r s u)) _ kept scope x n (meaning-Relation text sig scope n r s u) none is refl binds

  pub relation_stops : (r : Relation) (s u : Term) (e : Stop) → Stops e (relation_faults text sig.symbols scope s u) → Stops e (at (written.Relation r s u)).faults
  relation_stops r s u e h = stop_as e (at (written.Relation r s u)) _ (meaning-Relation text sig scope n r s u) h

  pub not_reads : (a : WrittenFormula) (kept : KeptScope) (y x : Formula) (k : ℕ) → OnRead (Ok (y, k)) kept scope (at a) → x ≡ g.Not y → OnRead (Ok (x, k)) kept scope (at (written.Not a))
  not_reads a kept y x k h is = read_as (at (written.Not a)) _ kept scope x k (meaning-Not text sig scope n a) h.0 (is ∙ ap (λ (z : Formula). g.Not z) h.1) h.2 h.3

  pub not_stops : (a : WrittenFormula) (e : Stop) → Stops e (at a).faults → Stops e (at (written.Not a)).faults
  not_stops a e h = stop_as e (at (written.Not a)) _ (meaning-Not text sig scope n a) h

  pub quantified_reads : (q : Quantifier) (vs : List WrittenVariable) (a : WrittenFormula) (kept kept' : KeptScope) (bound : List Variable) (y x : Formula) (i k : ℕ)
      → i ≡ n + length vs → bound ≡ variables_from text sig.sorts n vs → OnRead (Ok (y, k)) kept (bind text sig.sorts n vs scope) (meaning text sig a (bind text sig.sorts n vs scope) i)
      → Binds kept' (drop (length vs) (bind text sig.sorts n vs scope)) → x ≡ quantified q bound y → OnRead (Ok (x, k)) kept' scope (at (written.Quantified q vs a))
  quantified_reads q vs a kept kept' bound y x i k number own h left is =
      let inner : Scope = bind text sig.sorts n vs scope in
      let body = subst (λ (j : ℕ). OnRead (Ok (y, k)) kept inner (meaning text sig a inner j)) number h in
      read_as (at (written.Quantified q vs a)) _ kept' scope x k (meaning-Quantified text sig scope n q vs a) body.0
      (is ∙ ap (λ (bs : List Variable). quantified q bs y) own ∙ ap (λ (z : Formula). quantified q (variables_from text sig.sorts n vs) z) body.1) body.2
      (subst (λ (sc : Scope). Binds kept' sc) (drop_bind text sig.sorts n vs scope) left)

  pub quantified_stops : (q : Quantifier) (vs : List WrittenVariable) (a : WrittenFormula) (i : ℕ) (e : Stop) → i ≡ n + length vs
      → Stops e (meaning text sig a (bind text sig.sorts n vs scope) i).faults → Stops e (at (written.Quantified q vs a)).faults
  quantified_stops q vs a i e number h =
      stop_as e (at (written.Quantified q vs a)) _ (meaning-Quantified text sig scope n q vs a)
      (subst (λ (j : ℕ). Stops e (meaning text sig a (bind text sig.sorts n vs scope) j).faults) number h)

  pub linked_reads : (l : Link) (a b : WrittenFormula) (kept kept' : KeptScope) (y z x : Formula) (i k : ℕ) → OnRead (Ok (y, i)) kept scope (at a) → OnRead (Ok (z, k)) kept' scope (meaning text sig b scope i)
      → x ≡ linked l y z → OnRead (Ok (x, k)) kept' scope (at (written.Linked l a b))
  linked_reads l a b kept kept' y z x i k h h' is =
      let second = subst (λ (j : ℕ). OnRead (Ok (z, k)) kept' scope (meaning text sig b scope j)) h.2 h' in
      read_as (at (written.Linked l a b)) _ kept' scope x k (meaning-Linked text sig scope n l a b)
      (ap (λ (fs : Faults). fs ++ (meaning text sig b scope (at a).next).faults) h.0 ∙ second.0)
      (is ∙ ap (λ (w : Formula). linked l w z) h.1 ∙ ap (λ (w : Formula). linked l (at a).formula w) second.1) second.2 second.3

  pub linked_stops_first : (l : Link) (a b : WrittenFormula) (e : Stop) → Stops e (at a).faults → Stops e (at (written.Linked l a b)).faults
  linked_stops_first l a b e h =
      stop_as e (at (written.Linked l a b)) _ (meaning-Linked text sig scope n l a b) (stops_sooner e (at a).faults (meaning text sig b scope (at a).next).faults h)

  pub linked_stops_second : (l : Link) (a b : WrittenFormula) (kept : KeptScope) (y : Formula) (i : ℕ) (e : Stop) → OnRead (Ok (y, i)) kept scope (at a) → Stops e (meaning text sig b scope i).faults
      → Stops e (at (written.Linked l a b)).faults
  linked_stops_second l a b kept y i e h k =
      stop_as e (at (written.Linked l a b)) _ (meaning-Linked text sig scope n l a b)
      (stops_later e (at a).faults (meaning text sig b scope (at a).next).faults h.0 (subst (λ (j : ℕ). Stops e (meaning text sig b scope j).faults) h.2 k))

  pub joined_reads : (j : Junction) (gs : List WrittenFormula) (kept : KeptScope) (all : List Formula) (x : Formula) (k : ℕ) → OnReadAll (Ok (all, k)) kept scope (map (meaning text sig) gs) n
      → x ≡ joined j all → OnRead (Ok (x, k)) kept scope (at (written.Joined j gs))
  joined_reads j gs kept all x k h is =
      read_as (at (written.Joined j gs)) _ kept scope x k (meaning-Joined text sig scope n j gs) h.0 (is ∙ ap (joined j) h.1) h.2 h.3

  pub joined_stops : (j : Junction) (gs : List WrittenFormula) (e : Stop) → Stops e (faults_of (members (map (meaning text sig) gs) scope n)) → Stops e (at (written.Joined j gs)).faults
  joined_stops j gs e h = stop_as e (at (written.Joined j gs)) _ (meaning-Joined text sig scope n j gs) h
