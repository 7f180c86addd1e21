-- Declarations one after the other.
use Rattle.std.proofs.Common.{◌≡◌, ℕ, ◌+◌, ◌<◌, Bool, true, false, cond, List, [], ◌∷◌, ◌++◌, length, take, get_or, refl, sym, ◌∙◌, ap, subst, fold}
use Rattle.std.specs.Prelude.{Option, Some, None, is_some, Result, Ok, Err, OnOk, filter_map, option_map, if◌then◌else◌}
use Rattle.std.specs.declared.alloc.AllocError.{AllocError}
use Rattle.std.specs.Cmp.Lexicographic.{bytes_decides}
use Rattle.std.specs.Map.{lookup}
use Rattle.std.specs.List.{cons_option}
use Rattle.std.proofs.lemmas.List.{take_more}
use Rattle.std.proofs.lemmas.List.Elements.{filter_map-append}
use Rattle.std.proofs.lemmas.Grind.{fold-append}
use Rattle.tff_grammar.specs.declared.trees.DeclaredType.{DeclaredType}
use Rattle.tff_grammar.specs.declared.trees.DeclaredType.TheVariants as type
use Rattle.tff_grammar.specs.declared.trees.Word.{Word}
use Rattle.tff_grammar.specs.declared.trees.Content.{Content}
use Rattle.tff_grammar.specs.declared.trees.Content.TheVariants as content
use Rattle.tff_grammar.specs.declared.trees.Statement.{Statement}
use Rattle.tff_signature.specs.declared.declarations.Declared.{Declared}
use Rattle.tff_signature.specs.Names.{Name, same_name, name_of, add_name, by_first_place}
use Rattle.tff_signature.specs.Declarations.{Declaration, declarations, declared_in, declared_type, made_sort, sort_declared, sort_names}
use Rattle.tff_signature.specs.Tables.{type_at, or_else, given_to, with_sort, listed, Declares}
use Rattle.tff_signature.proofs.EntryLemmas.{inserted, lookup_inserted}

first_at : (b : Bool) (t : DeclaredType) (o u : Option DeclaredType) → (if b then Some t else or_else o u) ≡ or_else (if b then Some t else o) u
first_at true t o u = refl
first_at false t o u = refl

-- the first declaration counts
pub declared_behind : (text : List ℕ) (ds : List Declaration) (d : Declaration) (n : Name)
    → declared_type text (ds ++ d ∷ []) n ≡ or_else (declared_type text ds n) (given_to (name_of text d.word) d.type n)
declared_behind text [] d n = refl
declared_behind text (e ∷ ds) d n =
    ap (λ o. if same_name n (name_of text e.word) then Some e.type else o) (declared_behind text ds d n)
    ∙ first_at (same_name n (name_of text e.word)) e.type (declared_type text ds n) (given_to (name_of text d.word) d.type n)

sort_at : (ty : DeclaredType) (n : Name) (sorts : List Name) (o : Option Name) → o ≡ made_sort ty n → fold add_name sorts (cons_option o []) ≡ with_sort ty n sorts
sort_at type.OfTypes n sorts o h = rw h refl
sort_at (type.Function args s) n sorts o h = rw h refl

-- the sorts behind a further declaration
pub sorts_behind : (text : List ℕ) (ds : List Declaration) (d : Declaration)
    → sort_names text (ds ++ d ∷ []) ≡ with_sort d.type (name_of text d.word) (sort_names text ds)
sorts_behind text ds d =
    ap by_first_place (filter_map-append (sort_declared text) ds (d ∷ []))
    ∙ fold-append add_name [] (filter_map (sort_declared text) ds) (cons_option (sort_declared text d) [])
    ∙ sort_at d.type (name_of text d.word) (sort_names text ds) (sort_declared text d) refl

one : {A : Type 0} (o : Option A) → cons_option o [] ≡ listed o
one None = refl
one (Some x) = refl

-- what the statements declare, with one more
pub declarations_next : (ss : List Statement) (i : ℕ) (s : Statement) → i < length ss → s ≡ get_or ss i s
    → declarations (take i ss) ++ listed (declared_in s.content) ≡ declarations (take (i + 1) ss)
declarations_next ss i s below is =
    sym (ap declarations (take_more ss i s below) ∙ ap (λ r. declarations (take i ss ++ r ∷ [])) (sym is)
    ∙ filter_map-append (λ r. declared_in r.content) (take i ss) (s ∷ []) ∙ ap (λ l. declarations (take i ss) ++ l) (one (declared_in s.content)))

-- what is kept with one more declaration
pub declares_added : (r : Result (Unit {0}) AllocError) (text : List ℕ) (old new : Declared) (ds : List Declaration) (w : Word) (n : Name) (ty : DeclaredType) (c : Content)
    → c ≡ content.Declaration w ty → n ≡ name_of text w → Declares text old ds
    → OnOk r ((m : Name) → type_at new m ≡ or_else (type_at old m) (given_to n ty m)) → OnOk r (new.sorts ≡ with_sort ty n old.sorts)
    → OnOk r (Declares text new (ds ++ listed (declared_in c)))
declares_added (Err e) text old new ds w n ty c says named h types sorts = tt
declares_added (Ok u) text old new ds w n ty c says named h types sorts =
    let d : Declaration = record { word = w; type = ty } in
    rw says (record {
      sorts = sorts ∙ ap (λ k. with_sort ty k old.sorts) named ∙ ap (with_sort ty (name_of text w)) h.sorts ∙ sym (sorts_behind text ds d);
      types = λ m. types m ∙ ap (λ k. or_else (type_at old m) (given_to k ty m)) named ∙ ap (λ o. or_else o (given_to (name_of text w) ty m)) (h.types m)
          ∙ sym (declared_behind text ds d m);
    })

type_found : {R : Type 0} (g : R → DeclaredType) (b : Bool) (t : R) (o : Option R) (named : Option DeclaredType)
    → (b ≡ true → o ≡ None) → named ≡ (if b then Some (g t) else None)
    → option_map g (cond b (Some t) o) ≡ or_else (option_map g o) named
type_found g true t o named unkept h = rw (unkept refl, h) refl
type_found g false t None named unkept h = rw h refl
type_found g false t (Some r) named unkept h = refl

-- what is kept where a name had no type
pub type_added : {V R : Type 0} (f : V → List ℕ) (g : R → DeclaredType) (es : List (V × R)) (k : V) (t : R) (n : Name)
    → lookup (λ v. same_name (f k) (f v)) es ≡ None
    → option_map g (lookup (λ v. same_name n (f v)) (inserted f es k t)) ≡ or_else (option_map g (lookup (λ v. same_name n (f v)) es)) (given_to (f k) (g t) n)
type_added f g es k t n none =
    ap (option_map g) (lookup_inserted f es k t n)
    ∙ type_found g (same_name n (f k)) t (lookup (λ v. same_name n (f v)) es) (given_to (f k) (g t) n)
    (λ h. subst (λ m. lookup (λ v. same_name m (f v)) es ≡ None) (sym ((bytes_decides n (f k)).0 h)) none) refl

-- what is kept where a map had no such name
pub type_kept : {V R : Type 0} (f : V → List ℕ) (g : R → DeclaredType) (es new : List (V × R)) (k : V) (t : R) (m n : Name)
    → f k ≡ m → lookup (λ v. same_name m (f v)) es ≡ None → new ≡ inserted f es k t
    → option_map g (lookup (λ v. same_name n (f v)) new) ≡ or_else (option_map g (lookup (λ v. same_name n (f v)) es)) (given_to m (g t) n)
type_kept f g es new k t m n named none is =
    ap (λ l. option_map g (lookup (λ v. same_name n (f v)) l)) is
    ∙ type_added f g es k t n (subst (λ x. lookup (λ v. same_name x (f v)) es ≡ None) (sym named) none)
    ∙ ap (λ x. or_else (option_map g (lookup (λ v. same_name n (f v)) es)) (given_to x (g t) n)) named

pub is_none : {A : Type 0} (o : Option A) → is_some o ≡ false → o ≡ None
is_none None h = refl
is_none (Some x) h = absurd (cc)
