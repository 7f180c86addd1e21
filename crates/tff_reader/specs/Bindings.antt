-- How the binders in force are kept. Private contracts alone cite this file.
use Rattle.std.specs.Prelude.{◌≡◌, ℕ, List, [], ◌∷◌, reverse, Option, Some, None}
use Rattle.std.specs.Map.{lookup}
use Rattle.term_base.specs.declared.variables.Variable.{Variable}
use Rattle.tff_reader.specs.declared.scopes.Binding.{Binding}
use Rattle.tff_reader.specs.declared.scopes.Scope.{Scope as KeptScope}
use Rattle.tff_signature.specs.Names.{Name, same_name}
use Rattle.tff_reader.specs.Scopes.{Scope, bound_by}

-- what is inside both, where there is something
abbrev pub flat : {A : Type 0} → Option (Option A) → Option A
flat None = None
flat (Some o) = o

-- the variable that is kept for a name
abbrev pub kept : {V : Type 0} → (V → List ℕ) → List (V × Option Variable) → Name → Option Variable
kept name_of es name = flat (lookup (λ v. same_name name (name_of v)) es)

-- each binder, the inner ones first, keeps what its name is bound to outside of it
abbrev pub AreHidden : List Binding → Scope → Type 0
AreHidden [] [] = Unit {0}
AreHidden [] (c ∷ scope) = ⊥
AreHidden (b ∷ bs) [] = ⊥
AreHidden (b ∷ bs) (c ∷ scope) = (b.name.items ≡ c.name) × (b.hidden ≡ bound_by scope c.name) × AreHidden bs scope

-- the table keeps what is bound, and each binder what it hides
pub record Binds (s : KeptScope) (scope : Scope) : Type 0 where
  pub variables : (name : Name) → kept (λ v. v.items) s.variables.entries name ≡ bound_by scope name
  pub hidden : AreHidden (reverse s.bindings.items) scope
