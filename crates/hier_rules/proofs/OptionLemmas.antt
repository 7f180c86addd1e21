-- What is there, and what isn't.
use Rattle.std.proofs.Common.{◌≡◌, sym, ◌∙◌, subst}
use Rattle.std.specs.Prelude.{Option, Some, None, IfSome, IfNone, MatchOption}

pub some_same : {A : Type 0} (o : Option A) (a b : A) → o ≡ Some a → o ≡ Some b → a ≡ b
some_same o a b h k = let e : Some a ≡ Some b = sym h ∙ k in cc

pub not_both : {A : Type 0} (o : Option A) (a : A) → o ≡ None → o ≡ Some a → ⊥
not_both None a h k = cc
not_both (Some b) a h k = cc

pub match_some : {A : Type 0} (o : Option A) (a : A) (N : Type 0) (P : A → Type 0) → o ≡ Some a → MatchOption o N P → P a
match_some None a N P is h = cc
match_some (Some b) a N P is h = let e : b ≡ a = cc in subst P e h

pub match_none : {A : Type 0} (o : Option A) (N : Type 0) (P : A → Type 0) → o ≡ None → MatchOption o N P → N
match_none None N P is h = h
match_none (Some b) N P is h = cc

pub if_some : {A : Type 0} (o : Option A) (a : A) (P : A → Type 0) → o ≡ Some a → IfSome o P → P a
if_some None a P is h = cc
if_some (Some b) a P is h = let e : b ≡ a = cc in subst P e h

pub if_none : {A : Type 0} (o : Option A) (N : Type 0) → o ≡ None → IfNone o N → N
if_none None N is h = h
if_none (Some b) N is h = cc
