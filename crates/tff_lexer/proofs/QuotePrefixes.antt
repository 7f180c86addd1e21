-- The longest prefixes that are quoted words and distinct objects.
use Rattle.std.proofs.Common.{◌≡◌, ◌≢◌, ℕ, zero, suc, ◌+◌, ◌-◌, ◌<◌, ◌≤◌, Bool, true, false, not, ◌&&◌, ◌||◌, ◌==◌, nat_lt, nat_le, List, [], ◌∷◌, length, take, refl, sym, ap, ◌∙◌, subst, arith, length-take, length-take-le}
use Rattle.std.proofs.lemmas.Bool.{false≢true, and_parts, and_left, ne_eqb, eq-eqb, cond-false, ltb-true, lt-ltb, and_from}
use Rattle.tff_lexer.specs.Forms.{is_content_and_quote, is_unescaped, is_quoted, is_distinct}
use Rattle.tff_lexer.specs.Prefixes.{IsLongestPrefix, joined_length}
use Rattle.tff_lexer.proofs.LongestPrefixes.{no_prefix, none_passes, joined_one, joined_length-joined_length}

quote_unescaped : (x y z w : Bool) → z ≡ true → (x && y && not z && w) ≡ false
quote_unescaped false y z w h = refl
quote_unescaped true false z w h = refl
quote_unescaped true true true w h = refl
quote_unescaped true true false w h = absurd (false≢true h)

and_true : (x y : Bool) → x ≡ true → (x && y) ≡ y
and_true true y h = refl
and_true false y h = absurd (false≢true (h))

module _ (quote b c : ℕ) (t : List ℕ) (bare : b ≢ 92) where
  -- a byte other than `\`, with something behind it
  inside : is_content_and_quote quote (b ∷ c ∷ t) ≡ (is_unescaped quote b && is_content_and_quote quote (c ∷ t))
  inside = cond-false (b == 92) ((c == quote || c == 92) && is_content_and_quote quote t) (is_unescaped quote b && is_content_and_quote quote (c ∷ t)) (ne_eqb b 92 bare)

-- the quote itself
pub close_here : (quote : ℕ) (bs : List ℕ) → quote ≢ 92 → IsLongestPrefix (is_content_and_quote quote) (quote ∷ bs) 1
close_here quote bs bare = record {
  within = omega arith;
  passes = λ h. eq-eqb quote quote refl;
  longest = longest bs;
}
  where
    past : (c : ℕ) (cs : List ℕ) → is_content_and_quote quote (quote ∷ c ∷ cs) ≡ false
    past c cs = inside quote quote c cs bare ∙ and_left (is_unescaped quote quote) (is_content_and_quote quote (c ∷ cs)) (quote_unescaped (nat_le 32 quote) (nat_le quote 126) (quote == quote) (not (quote == 92)) (eq-eqb quote quote refl))

    longest : (cs : List ℕ) (m : ℕ) → m ≤ length (quote ∷ cs) → is_content_and_quote quote (take m (quote ∷ cs)) ≡ true → m ≤ 1
    longest cs zero h t = omega arith
    longest cs (suc zero) h t = omega arith
    longest [] (suc (suc m)) h t = absurd (omega arith)
    longest (c ∷ cs) (suc (suc m)) h t = absurd (false≢true (sym (past c (take m cs)) ∙ t))

-- a byte that stands for itself
pub close_unescaped : (quote b : ℕ) (bs : List ℕ) (n : ℕ) → is_unescaped quote b ≡ true → b ≢ 92 → b ≢ quote → IsLongestPrefix (is_content_and_quote quote) bs n → IsLongestPrefix (is_content_and_quote quote) (b ∷ bs) (joined_length 1 n)
close_unescaped quote b bs n plain bare other f = joined_one (is_content_and_quote quote) (is_content_and_quote quote) b bs n refl refl (same bs) f
  where
    same : (cs : List ℕ) (m : ℕ) → is_content_and_quote quote (b ∷ take m cs) ≡ is_content_and_quote quote (take m cs)
    same cs zero = ne_eqb b quote other
    same [] (suc m) = ne_eqb b quote other
    same (c ∷ cs) (suc m) = inside quote b c (take m cs) bare ∙ and_true (is_unescaped quote b) (is_content_and_quote quote (c ∷ take m cs)) plain

-- what follows a `\`
abbrev escaped : ℕ → List ℕ → Bool
escaped quote [] = false
escaped quote (c ∷ bs) = (c == quote || c == 92) && is_content_and_quote quote bs

escape : (quote : ℕ) (t : List ℕ) → quote ≢ 92 → is_content_and_quote quote (92 ∷ t) ≡ escaped quote t
escape quote [] bare = ne_eqb 92 quote (λ e. bare (sym e))
escape quote (c ∷ t) bare = refl

-- an escape
pub close_escape : (quote c : ℕ) (bs : List ℕ) (n : ℕ) → quote ≢ 92 → (c == quote || c == 92) ≡ true → IsLongestPrefix (is_content_and_quote quote) bs n → IsLongestPrefix (is_content_and_quote quote) (92 ∷ c ∷ bs) (joined_length 2 n)
close_escape quote c bs n bare may f =
    let once : IsLongestPrefix (escaped quote) (c ∷ bs) (joined_length 1 n) = joined_one (is_content_and_quote quote) (escaped quote) c bs n refl refl (λ m. and_true (c == quote || c == 92) (is_content_and_quote quote (take m bs)) may) f in
    let twice = joined_one (escaped quote) (is_content_and_quote quote) 92 (c ∷ bs) (joined_length 1 n) refl refl (λ m. escape quote (take m (c ∷ bs)) bare) once in
    rw joined_length-joined_length at twice

-- `\` at the end
pub close_end : (quote : ℕ) → quote ≢ 92 → IsLongestPrefix (is_content_and_quote quote) (92 ∷ []) 0
close_end quote bare = no_prefix (is_content_and_quote quote) (92 ∷ []) each
  where
    each : (m : ℕ) → is_content_and_quote quote (take m (92 ∷ [])) ≡ false
    each zero = refl
    each (suc zero) = escape quote [] bare
    each (suc (suc m)) = escape quote [] bare

-- `\` before nothing that it escapes
pub close_bare : (quote c : ℕ) (cs : List ℕ) → quote ≢ 92 → (c == quote || c == 92) ≡ false → IsLongestPrefix (is_content_and_quote quote) (92 ∷ c ∷ cs) 0
close_bare quote c cs bare may = no_prefix (is_content_and_quote quote) (92 ∷ c ∷ cs) each
  where
    each : (m : ℕ) → is_content_and_quote quote (take m (92 ∷ c ∷ cs)) ≡ false
    each zero = refl
    each (suc zero) = escape quote [] bare
    each (suc (suc m)) = and_left (c == quote || c == 92) (is_content_and_quote quote (take m cs)) may

-- a byte that may not stand inside
pub close_none : (quote b : ℕ) (bs : List ℕ) → is_unescaped quote b ≡ false → b ≢ 92 → b ≢ quote → IsLongestPrefix (is_content_and_quote quote) (b ∷ bs) 0
close_none quote b bs plain bare other = no_prefix (is_content_and_quote quote) (b ∷ bs) (each bs)
  where
    each : (cs : List ℕ) (m : ℕ) → is_content_and_quote quote (take m (b ∷ cs)) ≡ false
    each cs zero = refl
    each cs (suc zero) = ne_eqb b quote other
    each [] (suc (suc m)) = ne_eqb b quote other
    each (c ∷ cs) (suc (suc m)) = inside quote b c (take m cs) bare ∙ and_left (is_unescaped quote b) (is_content_and_quote quote (c ∷ take m cs)) plain

pub distinct_prefix : (bs : List ℕ) (n : ℕ) → IsLongestPrefix (is_content_and_quote 34) bs n → IsLongestPrefix is_distinct (34 ∷ bs) (joined_length 1 n)
distinct_prefix bs n f = joined_one (is_content_and_quote 34) is_distinct 34 bs n refl refl (λ m. refl) f

-- the parts of a quoted word
quoted_parts : (t : List ℕ) → is_quoted (39 ∷ t) ≡ true → (1 < length t) × (is_content_and_quote 39 t ≡ true)
quoted_parts t h =
    let parts = and_parts (nat_lt 2 (length (39 ∷ t))) (is_content_and_quote 39 t) h in
    let long = ltb-true 2 (suc (length t)) parts.0 in
    (omega (arith, long), parts.1)

-- with something inside
pub quoted_prefix : (bs : List ℕ) (n : ℕ) → n ≢ 1 → IsLongestPrefix (is_content_and_quote 39) bs n → IsLongestPrefix is_quoted (39 ∷ bs) (joined_length 1 n)
quoted_prefix bs zero more f = record {
  within = omega arith;
  passes = λ h. absurd (omega arith);
  longest = longest;
}
  where
    longest : (m : ℕ) → m ≤ length (39 ∷ bs) → is_quoted (take m (39 ∷ bs)) ≡ true → m ≤ 0
    longest zero h t = omega arith
    longest (suc m) h t = absurd (none_passes (is_content_and_quote 39) bs m refl f (omega arith) (quoted_parts (take m bs) t).1)
quoted_prefix bs (suc zero) more f = absurd (more refl)
quoted_prefix bs (suc (suc n)) more f = record {
  within = let h = f.within in omega arith;
  passes = λ h. let e : 1 + suc (suc n) ≡ suc (suc (suc n)) = omega arith in rw e (and_from (nat_lt 2 (length (39 ∷ take (suc (suc n)) bs))) (is_content_and_quote 39 (take (suc (suc n)) bs)) (lt-ltb 2 (suc (length (take (suc (suc n)) bs))) (omega (arith, length-take-le (suc (suc n)) bs f.within))) (f.passes (omega arith)));
  longest = longest;
}
  where
    longest : (m : ℕ) → m ≤ length (39 ∷ bs) → is_quoted (take m (39 ∷ bs)) ≡ true → m ≤ 1 + suc (suc n)
    longest zero h t = omega arith
    longest (suc m) h t = let g : m ≤ suc (suc n) = f.longest m (omega arith) (quoted_parts (take m bs) t).1 in omega arith

-- with nothing inside
pub quoted_none : (bs : List ℕ) → IsLongestPrefix (is_content_and_quote 39) bs 1 → IsLongestPrefix is_quoted (39 ∷ bs) 0
quoted_none bs f = record {
  within = omega arith;
  passes = λ h. absurd (omega arith);
  longest = longest;
}
  where
    longest : (m : ℕ) → m ≤ length (39 ∷ bs) → is_quoted (take m (39 ∷ bs)) ≡ true → m ≤ 0
    longest zero h t = omega arith
    longest (suc m) h t =
        let parts = quoted_parts (take m bs) t in
        let g : m ≤ 1 = f.longest m (omega arith) parts.1 in
        absurd (omega (arith, parts.0, length-take m bs))

-- the same, as the code meets them
pub escape_is : (quote first c : ℕ) (rest after : List ℕ) (n : ℕ) → first ≡ 92 → rest ≡ c ∷ after → quote ≢ 92 → (c == quote || c == 92) ≡ true → IsLongestPrefix (is_content_and_quote quote) after n → IsLongestPrefix (is_content_and_quote quote) (first ∷ rest) (joined_length (length rest + 1 - length after) n)
escape_is quote first c rest after n is split bare may f =
    let e : suc (length after) + 1 - length after ≡ 2 = omega arith in
    rw (is, split, e) (close_escape quote c after n bare may f)

pub bare_is : (quote first c : ℕ) (rest after : List ℕ) → first ≡ 92 → rest ≡ c ∷ after → quote ≢ 92 → (c == quote || c == 92) ≡ false → IsLongestPrefix (is_content_and_quote quote) (first ∷ rest) 0
bare_is quote first c rest after is split bare may = rw (is, split) (close_bare quote c after bare may)

pub unescaped_is : (quote first : ℕ) (rest : List ℕ) (n : ℕ) → is_unescaped quote first ≡ true → first ≢ 92 → first ≢ quote → IsLongestPrefix (is_content_and_quote quote) rest n → IsLongestPrefix (is_content_and_quote quote) (first ∷ rest) (joined_length (length rest + 1 - length rest) n)
unescaped_is quote first rest n plain bare other f =
    let e : length rest + 1 - length rest ≡ 1 = omega arith in
    rw e (close_unescaped quote first rest n plain bare other f)

module _ (quote first : ℕ) (text rest more : List ℕ) (split : rest ≡ first ∷ more) (within : length rest ≤ length text) (goes : (n : ℕ) → IsLongestPrefix (is_content_and_quote quote) rest n → IsLongestPrefix (is_content_and_quote quote) text (joined_length (length text - length rest) n)) where
  pub close_found : quote ≢ 92 → first ≡ quote → IsLongestPrefix (is_content_and_quote quote) text (length text - length more)
  close_found bare is =
      let here : IsLongestPrefix (is_content_and_quote quote) rest 1 = rw (split, is) (close_here quote more bare) in
      let e : length text - length rest + 1 ≡ length text - length more = omega (arith, ap length split) in
      subst (IsLongestPrefix (is_content_and_quote quote) text) e (goes 1 here)

  pub close_on : (after : List ℕ) (n : ℕ) → length after ≤ length more → (IsLongestPrefix (is_content_and_quote quote) after n → IsLongestPrefix (is_content_and_quote quote) (first ∷ more) (joined_length (length more + 1 - length after) n)) → IsLongestPrefix (is_content_and_quote quote) after n → IsLongestPrefix (is_content_and_quote quote) text (joined_length (length text - length after) n)
  close_on after n shorter next f =
      let g : IsLongestPrefix (is_content_and_quote quote) rest (joined_length (length more + 1 - length after) n) = rw split (next f) in
      let e : length text - length rest + (length more + 1 - length after) ≡ length text - length after = omega (arith, ap length split) in
      let h : joined_length (length text - length rest) (joined_length (length more + 1 - length after) n) ≡ joined_length (length text - length after) n = joined_length-joined_length (length text - length rest) (length more + 1 - length after) n ∙ ap (λ k. joined_length k n) e in
      subst (IsLongestPrefix (is_content_and_quote quote) text) h (goes (joined_length (length more + 1 - length after) n) g)

  pub close_never : IsLongestPrefix (is_content_and_quote quote) (first ∷ more) 0 → IsLongestPrefix (is_content_and_quote quote) text 0
  close_never f = goes 0 (rw split f)
