-- The tokens of a text, one after the other.
use Rattle.std.proofs.Common.{◌≡◌, ℕ, ◌<◌, ◌≤◌, List, [], ◌∷◌, arith}
use Rattle.tff_lexer.specs.declared.spans.Token.{Token}
use Rattle.tff_lexer.specs.Scans.{HaveForms, SpansAscend}

spans_lower : (total a b : ℕ) (ts : List Token) → b ≤ a → SpansAscend total a ts → SpansAscend total b ts
spans_lower total a b [] l h = omega (arith, l, h)
spans_lower total a b (t ∷ ts) l h = let x = h.0 in (omega (arith, l, x), h.1, h.2)

spans_within : (total a : ℕ) (ts : List Token) → SpansAscend total a ts → a ≤ total
spans_within total a [] h = h
spans_within total a (t ∷ ts) h =
    let r = spans_within total t.end ts h.2 in
    let x = h.0 in
    let y = h.1 in
    omega (arith, x, y, r)

pub first_span : (total : ℕ) (rest more : List Token) (t : Token) → rest ≡ t ∷ more → SpansAscend total 0 rest → (t.start < t.end) × (t.end ≤ total)
first_span total rest more t e h = let g = rw e at h in (g.1, spans_within total t.end more g.2)

pub next_spans : (total : ℕ) (rest more : List Token) (t : Token) → rest ≡ t ∷ more → SpansAscend total 0 rest → SpansAscend total 0 more
next_spans total rest more t e h = let g = rw e at h in spans_lower total t.end 0 more (omega arith) g.2

pub next_forms : (bytes : List ℕ) (rest more : List Token) (t : Token) → rest ≡ t ∷ more → HaveForms bytes rest → HaveForms bytes more
next_forms bytes rest more t e h = let g = rw e at h in g.1
