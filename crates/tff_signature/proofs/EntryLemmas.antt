-- What a map finds by a name after an insertion.
use Rattle.std.proofs.Common.{◌≡◌, Bool, true, false, cond, List, [], ◌∷◌, refl, sym, ◌∙◌}
use Rattle.std.specs.Prelude.{Some, if◌then◌else◌}
use Rattle.std.specs.Cmp.Lexicographic.{bytes_decides}
use Rattle.std.specs.Map.{lookup}
use Rattle.indexmap.specs.IndexMap.{insert_entry}
use Rattle.tff_signature.specs.Names.{Name, same_name}

-- the entries of a map, by the names of their keys
abbrev pub inserted : {V W : Type 0} → (V → Name) → List (V × W) → V → W → List (V × W)
inserted f es k w = insert_entry (λ x y. same_name (f x) (f y)) es k w

twice : {W : Type 0} (b : Bool) (w x r : W) → cond b w r ≡ cond b w (cond b x r)
twice true w x r = refl
twice false w x r = refl

by_key : {W : Type 0} (n k e : Name) (w x r : W) → k ≡ e → cond (same_name n e) w r ≡ cond (same_name n k) w (cond (same_name n e) x r)
by_key n k e w x r same = rw same (twice (same_name n e) w x r)

-- two names that aren't one aren't both a third
apart : {W : Type 0} (c d : Bool) (w x r r' : W) → (c ≡ true → d ≡ true → ⊥) → r' ≡ cond c w r → cond d x r' ≡ cond c w (cond d x r)
apart true true w x r r' differ h = absurd (differ refl refl)
apart true false w x r r' differ h = h
apart false true w x r r' differ h = refl
apart false false w x r r' differ h = h

both : (n k e : Name) → same_name k e ≡ false → same_name n k ≡ true → same_name n e ≡ true → ⊥
both n k e differ h h' =
    let p : n ≡ k = (bytes_decides n k).0 h in
    let q : n ≡ e = (bytes_decides n e).0 h' in
    let r : same_name k e ≡ true = (bytes_decides k e).1 (sym p ∙ q) in
    cc

found_at : {V W : Type 0} (f : V → Name) (b : Bool) (e : V × W) (es : List (V × W)) (k : V) (w : W) (n : Name)
    → same_name (f k) (f e.0) ≡ b
    → lookup (λ v. same_name n (f v)) (inserted f es k w) ≡ cond (same_name n (f k)) (Some w) (lookup (λ v. same_name n (f v)) es)
    → lookup (λ v. same_name n (f v)) (if b then (e.0, w) ∷ es else e ∷ inserted f es k w)
    ≡ cond (same_name n (f k)) (Some w) (lookup (λ v. same_name n (f v)) (e ∷ es))
found_at f true e es k w n h rest = by_key n (f k) (f e.0) (Some w) (Some e.1) (lookup (λ v. same_name n (f v)) es) ((bytes_decides (f k) (f e.0)).0 h)
found_at f false e es k w n h rest =
    apart (same_name n (f k)) (same_name n (f e.0)) (Some w) (Some e.1) (lookup (λ v. same_name n (f v)) es) (lookup (λ v. same_name n (f v)) (inserted f es k w)) (both n (f k) (f e.0) h) rest

-- what is found after an insertion
pub lookup_inserted : {V W : Type 0} (f : V → Name) (es : List (V × W)) (k : V) (w : W) (n : Name)
    → lookup (λ v. same_name n (f v)) (inserted f es k w) ≡ cond (same_name n (f k)) (Some w) (lookup (λ v. same_name n (f v)) es)
lookup_inserted f [] k w n = refl
lookup_inserted f (e ∷ es) k w n = found_at f (same_name (f k) (f e.0)) e es k w n refl (lookup_inserted f es k w n)
