-- What each form of a formula means.
use Rattle.std.proofs.Common.{◌≡◌, ℕ, ◌+◌, Bool, List, [], ◌∷◌, ◌++◌, map, length, drop, refl, sym, ◌∙◌, ap, subst}
use Rattle.formula_base.specs.declared.formulas.Formula.{Formula}
use Rattle.formula_base.specs.declared.formulas.Formula.TheVariants as g
use Rattle.tff_grammar.specs.declared.pieces.Junction.{Junction}
use Rattle.tff_grammar.specs.declared.pieces.Link.{Link}
use Rattle.tff_grammar.specs.declared.pieces.Quantifier.{Quantifier}
use Rattle.tff_grammar.specs.declared.pieces.Relation.{Relation}
use Rattle.tff_grammar.specs.declared.trees.Term.{Term}
use Rattle.tff_grammar.specs.declared.trees.Variable.{Variable as WrittenVariable}
use Rattle.tff_grammar.specs.declared.trees.Formula.{Formula as WrittenFormula}
use Rattle.tff_grammar.specs.declared.trees.Formula.TheOpen as f
use Rattle.tff_grammar.specs.declared.trees.Formula.TheVariants as written
use Rattle.tff_signature.specs.Symbols.{Signature}
use Rattle.tff_reader.specs.declared.heads.Wanted.TheVariants.{Predicate}
use Rattle.tff_reader.specs.Scopes.{Scope, bind, variables_from}
use Rattle.tff_reader.specs.Typing.{term_faults, relation_faults}
use Rattle.tff_reader.specs.Meaning.{Meaning, FormulaMeaning, meaning, meaning_step, members, behind, faults_of, formulas_of, constant_of, atom_of, relation_of, term_of, quantified, linked, joined}
use Rattle.tff_grammar.specs.TreeFolds as folds

module _ (text : List ℕ) (sig : Signature) (scope : Scope) (n : ℕ) where
  abbrev here : Meaning → FormulaMeaning
  here m = m scope n

  pub meaning-Constant : (b : Bool) → meaning text sig (written.Constant b) scope n ≡ record { faults = []; formula = constant_of b; next = n }
  meaning-Constant b = ap here (folds.fold-Constant Meaning (meaning_step text sig) b)

  pub meaning-Atom : (u : Term) → meaning text sig (written.Atom u) scope n ≡ record { faults = term_faults text sig.symbols scope u Predicate; formula = atom_of text sig.symbols scope u; next = n }
  meaning-Atom u = ap here (folds.fold-Atom Meaning (meaning_step text sig) u)

  pub meaning-Relation : (r : Relation) (s u : Term) → meaning text sig (written.Relation r s u) scope n
      ≡ record { faults = relation_faults text sig.symbols scope s u; formula = relation_of r (term_of text sig.symbols scope s) (term_of text sig.symbols scope u); next = n }
  meaning-Relation r s u = ap here (folds.fold-Relation Meaning (meaning_step text sig) r s u)

  pub meaning-Not : (a : WrittenFormula) → meaning text sig (written.Not a) scope n
      ≡ record { faults = (meaning text sig a scope n).faults; formula = g.Not (meaning text sig a scope n).formula; next = (meaning text sig a scope n).next }
  meaning-Not a = ap here (folds.fold-Not Meaning (meaning_step text sig) a)

  pub meaning-Quantified : (q : Quantifier) (vs : List WrittenVariable) (a : WrittenFormula) → meaning text sig (written.Quantified q vs a) scope n
      ≡ record {
        faults = (meaning text sig a (bind text sig.sorts n vs scope) (n + length vs)).faults;
        formula = quantified q (variables_from text sig.sorts n vs) (meaning text sig a (bind text sig.sorts n vs scope) (n + length vs)).formula;
        next = (meaning text sig a (bind text sig.sorts n vs scope) (n + length vs)).next;
      }
  meaning-Quantified q vs a = ap here (folds.fold-Quantified Meaning (meaning_step text sig) q vs a)

  pub meaning-Linked : (l : Link) (a b : WrittenFormula) → meaning text sig (written.Linked l a b) scope n
      ≡ record {
        faults = (meaning text sig a scope n).faults ++ (meaning text sig b scope (meaning text sig a scope n).next).faults;
        formula = linked l (meaning text sig a scope n).formula (meaning text sig b scope (meaning text sig a scope n).next).formula;
        next = (meaning text sig b scope (meaning text sig a scope n).next).next;
      }
  meaning-Linked l a b = ap here (folds.fold-Linked Meaning (meaning_step text sig) l a b)

  pub meaning-Joined : (j : Junction) (gs : List WrittenFormula) → meaning text sig (written.Joined j gs) scope n
      ≡ record {
        faults = faults_of (members (map (meaning text sig) gs) scope n);
        formula = joined j (formulas_of (members (map (meaning text sig) gs) scope n));
        next = behind (map (meaning text sig) gs) scope n;
      }
  meaning-Joined j gs = ap here (folds.fold-Joined Meaning (meaning_step text sig) j gs)
