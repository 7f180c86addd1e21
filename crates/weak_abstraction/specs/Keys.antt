-- Terms as keys of a hash table: two keys are one where their terms are, and a term is hashed by what stands at its places.
use Rattle.std.specs.Prelude.{◌≡◌, Bool, List, [], ◌∷◌, ◌++◌, IsTrue, map}
use Rattle.std.specs.Cmp.{IsEquivalence}
use Rattle.std.specs.Hash as feed
use Rattle.std.specs.Hash.{HashWrites}
use Rattle.std.proofs.Common.{ap}
use Rattle.term_base.specs.declared.terms.Term.{Term}
use Rattle.term_base.specs.declared.terms.Term.TheOpen.{Term-F, Var, Num, True, Sum, Scale, App}
use Rattle.term_base.specs.declared.terms.Term.TheFolds.{fold-Term}
use Rattle.term_base.specs.SameTerm.{same_term, same_term-true, same_term_equiv}
use Rattle.term_base.specs.Trees.{Tree, tree}
use Rattle.weak_abstraction.specs.declared.keys.Key.{Key}

-- whether two keys have one term
abbrev pub same_key : Key → Key → Bool
same_key k l = same_term k.term.now l.term.now

pub same_key_equiv : IsEquivalence same_key
same_key_equiv = record {
  refl = λ k. same_term_equiv.refl k.term.now;
  symm = λ k l. same_term_equiv.symm k.term.now l.term.now;
  congr = λ k l m. same_term_equiv.congr k.term.now l.term.now m.term.now;
}

-- the trees of keys
abbrev pub terms : List Key → List Tree
terms ks = map (λ k. tree k.term.now) ks

-- what several parts feed, one after the other
abbrev pub fed_in_turn : List HashWrites → HashWrites
fed_in_turn [] = []
fed_in_turn (w ∷ ws) = w ++ fed_in_turn ws

-- what one layer of a term feeds, from what its parts feed
abbrev pub fed_step : Term-F HashWrites → HashWrites
fed_step (Var v) = feed.u8 0 ++ feed.u32 v.id
fed_step (Num n) = feed.u8 1 ++ feed.i128 n
fed_step True = feed.u8 2
fed_step (Sum a b) = feed.u8 3 ++ (a ++ b)
fed_step (Scale k a) = feed.u8 4 ++ (feed.i128 k ++ a)
fed_step (App f args) = feed.u8 5 ++ (feed.u32 f ++ fed_in_turn args)

-- what a term feeds to a hasher
abbrev pub fed : Term → HashWrites
fed = fold-Term HashWrites fed_step

-- what a key feeds
abbrev pub fed_by : Key → HashWrites
fed_by k = fed k.term.now

pub same_keys_feed_alike : (k l : Key) → IsTrue (same_key k l) → fed_by k ≡ fed_by l
same_keys_feed_alike k l h = ap fed (same_term-true k.term.now l.term.now h)
