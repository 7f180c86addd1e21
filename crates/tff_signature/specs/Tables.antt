-- How declarations and symbols are kept.
use Rattle.std.specs.Prelude.{◌≡◌, ℕ, List, [], ◌∷◌, ◌++◌, map, Option, Some, None, option_map, if◌then◌else◌}
use Rattle.std.specs.Map.{lookup}
use Rattle.term_base.specs.declared.symbols.Symbol.{Symbol}
use Rattle.tff_grammar.specs.declared.trees.DeclaredType.{DeclaredType}
use Rattle.tff_grammar.specs.declared.trees.DeclaredType.TheVariants as type
use Rattle.tff_signature.specs.declared.declarations.Declared.{Declared}
use Rattle.tff_signature.specs.declared.symbols.Signature.{Signature}
use Rattle.tff_signature.specs.Names.{Name, same_name, is_among, add_name}
use Rattle.tff_signature.specs.Declarations.{Declaration, declared_type, sort_names}
use Rattle.tff_signature.specs.Symbols.{Use, symbol_at}

-- ---- declarations

-- the type that is kept for a name
abbrev pub type_at : Declared → Name → Option DeclaredType
type_at d name = option_map (λ t. t.now) (lookup (λ v. same_name name v.items) d.types.entries)

-- a first type, else a second
abbrev pub or_else : Option DeclaredType → Option DeclaredType → Option DeclaredType
or_else (Some t) other = Some t
or_else None other = other

-- the type that is given to a name
abbrev pub given_to : Name → DeclaredType → Name → Option DeclaredType
given_to name t other = if same_name other name then Some t else None

-- the sorts behind a declaration
abbrev pub with_sort : DeclaredType → Name → List Name → List Name
with_sort type.OfTypes name sorts = add_name sorts name
with_sort (type.Function args s) name sorts = sorts

-- what there is, as a list
abbrev pub listed : {A : Type 0} → Option A → List A
listed None = []
listed (Some x) = x ∷ []

-- what is kept is what these declarations say
pub record Declares (text : List ℕ) (d : Declared) (ds : List Declaration) : Type 0 where
  pub sorts : d.sorts ≡ sort_names text ds
  pub types : (name : Name) → type_at d name ≡ declared_type text ds name

-- ---- symbols

-- each symbol is kept by its name
abbrev pub IsNamed : Signature → Type 0
IsNamed s = s.names ≡ map (λ f. f.name) s.symbols

-- the symbols behind those before them, at a use of a name that has none yet
abbrev pub add_symbol : List ℕ → List Declaration → List Symbol → Use → List Symbol
add_symbol text ds symbols u =
    if is_among (map (λ f. f.name) symbols) u.name then symbols else symbols ++ listed (symbol_at text (sort_names text ds) u (declared_type text ds u.name))
