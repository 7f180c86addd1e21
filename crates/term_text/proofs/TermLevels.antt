-- Terms by their levels.
use Rattle.std.proofs.Common.{ℕ, zero, suc, Bool, List, [], ◌∷◌}
use Rattle.std.specs.Prelude.{codes}
use Rattle.term_base.specs.declared.terms.Term.{Term}
use Rattle.text_pieces.specs.Languages.{Cat}
use Rattle.text_pieces.specs.Numbers.{Number, Word32}
use Rattle.text_pieces.specs.Fronts.{Front, Word}
use Rattle.text_pieces.proofs.Ends.{same_fails, same_reads}
use Rattle.text_pieces.proofs.Lifts.{Lift}
use Rattle.text_pieces.proofs.Limits.{Limit, limit-same, limit-cat, limit-front, limit-image, limit-kinds, limit-run, two, limit-two}
use Rattle.term_text.specs.declared.kinds.TermKind.{TermKind}
use Rattle.term_text.specs.declared.kinds.TermKind.TheVariants.{Variable as VariableTerm, Number as NumberTerm, Truth, Bracket, Symbol}
use Rattle.term_text.specs.Terms.{Sign, number_of, Second, BehindFirst, MoreArguments, ListedArguments, Arguments, TermParts, Layer, TermWithin, SpellsTerm}

module _ (F : ℕ → Term → List ℕ → Type 0) (G : Term → List ℕ → Type 0) (l : Limit F G) where
  more_arguments : Limit (λ k. MoreArguments (F k)) (MoreArguments G)
  more_arguments = limit-run (λ k. Front (codes ",") (F k)) (Front (codes ",") G) (codes ")") (limit-front (codes ",") F G l)

  listed_arguments : Limit (λ k. ListedArguments (F k)) (ListedArguments G)
  listed_arguments =
      limit-image _ _ _ (limit-front (codes "(") (λ k. Cat (F k) (λ first. MoreArguments (F k))) (Cat G (λ first. MoreArguments G))
      (limit-cat F G (λ k first. MoreArguments (F k)) (λ first. MoreArguments G) l (λ first. more_arguments)))

  some_arguments : Limit (λ k. Arguments (F k)) (Arguments G)
  some_arguments = record { more = more; into = into; out = out }
    where
      more : (k : ℕ) (a : List Term) (t : List ℕ) → Arguments (F k) a t → Arguments (F (suc k)) a t
      more k [] t s = s
      more k (x ∷ xs) t s = listed_arguments.more k (x ∷ xs) t s

      into : (k : ℕ) (a : List Term) (t : List ℕ) → Arguments (F k) a t → Arguments G a t
      into k [] t s = s
      into k (x ∷ xs) t s = listed_arguments.into k (x ∷ xs) t s

      out : (a : List Term) (t : List ℕ) → Arguments G a t → (k : ℕ) × Arguments (F k) a t
      out [] t s = (0, s)
      out (x ∷ xs) t s = listed_arguments.out (x ∷ xs) t s

  second : Limit (λ k. Second (F k)) (Second G)
  second = limit-front (codes " ") _ _ (limit-cat F G (λ k b. Word (codes ")")) (λ b. Word (codes ")")) l (λ b. limit-same (Word (codes ")"))))

  behind_first : (a : Term) → Limit (λ k. BehindFirst (F k) a) (BehindFirst G a)
  behind_first a =
      limit-front (codes " ") _ _ (limit-cat (λ k. Sign (number_of a)) (Sign (number_of a)) (λ k sign. Second (F k)) (λ sign. Second G) (limit-same (Sign (number_of a))) (λ sign. second))

  limit-parts : (kind : TermKind) → Limit (λ k. TermParts (F k) kind) (TermParts G kind)
  limit-parts VariableTerm = limit-same (TermParts G VariableTerm)
  limit-parts NumberTerm = limit-same (TermParts G NumberTerm)
  limit-parts Truth = limit-same (TermParts G Truth)
  limit-parts Bracket = limit-image _ _ _ (limit-front (codes "(") _ _ (limit-cat F G (λ k a. BehindFirst (F k) a) (BehindFirst G) l behind_first))
  limit-parts Symbol =
      limit-image _ _ _ (limit-front (codes "s") _ _
      (limit-cat (λ k. Number Word32) (Number Word32) (λ k f. Arguments (F k)) (λ f. Arguments G) (limit-same (Number Word32)) (λ f. some_arguments)))

  pub limit-layer : Limit (λ k. Layer (F k)) (Layer G)
  limit-layer = limit-kinds (λ k. TermParts (F k)) (TermParts G) limit-parts

one_level_more : (k : ℕ) (a : Term) (t : List ℕ) → TermWithin k a t → TermWithin (suc k) a t
one_level_more zero a t s = absurd s
one_level_more (suc k) a t s = (limit-layer (two (TermWithin k) (TermWithin (suc k))) (TermWithin (suc k)) (limit-two (TermWithin k) (TermWithin (suc k)) (one_level_more k))).more 0 a t s

pub limit-term : Limit TermWithin SpellsTerm
limit-term = record { more = one_level_more; into = λ k a t s. record { levels = k; within = s }; out = λ a t s. (s.levels, s.within) }

-- a term's text is a layer's
pub from_layer : (a : Term) (t : List ℕ) → Layer SpellsTerm a t → SpellsTerm a t
from_layer a t s = let o = (limit-layer TermWithin SpellsTerm limit-term).out a t s in record { levels = suc o.0; within = o.1 }

pub to_layer : (a : Term) (t : List ℕ) → SpellsTerm a t → Layer SpellsTerm a t
to_layer a t s = by s.levels s.within
  where
    by : (k : ℕ) → TermWithin k a t → Layer SpellsTerm a t
    by zero w = absurd w
    by (suc k) w = (limit-layer TermWithin SpellsTerm limit-term).into k a t w

pub term_layer : (q : ℕ → Bool) (bytes : List ℕ) → Lift q SpellsTerm bytes (Layer SpellsTerm) bytes (λ (a : Term). a)
term_layer q bytes = record {
  fails = λ left f. same_fails q (Layer SpellsTerm) SpellsTerm (λ a t s. (a, from_layer a t s)) (λ a t s. (a, to_layer a t s)) bytes left f;
  reads = λ a rest r. same_reads q (Layer SpellsTerm) SpellsTerm a a (from_layer a) bytes rest r;
}
