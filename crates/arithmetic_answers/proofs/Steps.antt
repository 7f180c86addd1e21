-- The steps of the derivations that answers are given by.
use Rattle.std.specs.Prelude.{◌≡◌, ◌-◌, ◌+◌, ◌<◌, ℕ, suc, true, List, [], ◌∷◌, ◌++◌, length, reverse, IsTrue}
use Rattle.std.specs.List.{list_all}
use Rattle.std.proofs.Common.{◌∙◌, ap, refl, arith, append_assoc, sym}
use Rattle.std.proofs.lemmas.Bool.{and_from}
use Rattle.std.proofs.lemmas.List.{reverse-append}
use Rattle.term_base.specs.declared.clauses.Clause.{Clause}
use Rattle.cert_tree.specs.declared.certs.Cert.{Cert}
use Rattle.proof_steps.specs.declared.steps.Step.{Step}
use Rattle.cert_text.specs.Spelled.{is_spelled}
use Rattle.proof_text.specs.Derivations.{step_is_spelled}
use Rattle.arithmetic_answers.specs.Derivations.{input_step, input_steps, numbers, close_step, refutation_steps}

one_later : (n : ℕ) (cs : List Clause) (c : Clause) → input_steps n (cs ++ c ∷ []) ≡ input_steps n cs ++ input_step (n + length cs) c ∷ []
one_later n [] c = let none : n ≡ n + 0 = omega arith in ap (λ (k : ℕ). input_step k c ∷ []) none
one_later n (d ∷ cs) c =
    let next : suc n + length cs ≡ n + length (d ∷ cs) = omega arith in
    ap (λ (steps : List Step). input_step n d ∷ steps)
    (one_later (suc n) cs c ∙ ap (λ (k : ℕ). input_steps (suc n) cs ++ input_step k c ∷ []) next)

-- one clause more is taken by one step more
one_step_more : (cs : List Clause) (c : Clause) → input_steps 0 (cs ++ c ∷ []) ≡ input_steps 0 cs ++ input_step (length cs) c ∷ []
one_step_more cs c =
    let zeros : 0 + length cs ≡ length cs = omega arith in
    one_later 0 cs c ∙ ap (λ (k : ℕ). input_steps 0 cs ++ input_step k c ∷ []) zeros

-- the last clause becomes the next step behind those that were made, the last one first
pub next_step : (all cs : List Clause) (c : Clause) (steps new : List Step) (made : Step) (n : ℕ) (whole : List Step) → all ≡ cs ++ c ∷ []
    → n ≡ length cs → made ≡ input_step n c → new ≡ steps ++ made ∷ [] → input_steps 0 all ++ reverse steps ≡ whole
    → input_steps 0 cs ++ reverse new ≡ whole
next_step all cs c steps new made n whole is e f g h =
    ap (λ (t : List Step). input_steps 0 cs ++ reverse t) g
    ∙ ap (λ (t : List Step). input_steps 0 cs ++ t) (reverse-append steps (made ∷ []) ∙ ap (λ (s : Step). s ∷ reverse steps) (f ∙ ap (λ (k : ℕ). input_step k c) e))
    ∙ sym (append_assoc (input_steps 0 cs) (input_step (length cs) c ∷ []) (reverse steps))
    ∙ ap (λ (t : List Step). t ++ reverse steps) (sym (one_step_more cs c))
    ∙ ap (λ (t : List Clause). input_steps 0 t ++ reverse steps) (sym is)
    ∙ h

-- steps that take clauses have a spelling
inputs_spelled : (k : ℕ) (cs : List Clause) (cert : Cert) (count : ℕ) → IsTrue (is_spelled cert)
    → list_all step_is_spelled (input_steps k cs ++ close_step count cert ∷ []) ≡ true
inputs_spelled k [] cert count h = and_from _ _ h refl
inputs_spelled k (c ∷ cs) cert count h = inputs_spelled (suc k) cs cert count h

-- where the certificate has a spelling, all steps have one
pub steps_spelled : (cs : List Clause) (cert : Cert) → IsTrue (is_spelled cert) → list_all step_is_spelled (refutation_steps cs cert) ≡ true
steps_spelled cs cert h = inputs_spelled 0 cs cert (length cs) h

-- one number more
pub next_number : (all made : List ℕ) (n count : ℕ) (whole : List ℕ) → made ≡ all ++ n ∷ [] → n < count → all ++ numbers n (count - n) ≡ whole
    → made ++ numbers (n + 1) (count - (n + 1)) ≡ whole
next_number all made n count whole e within h =
    let more : count - n ≡ suc (count - (n + 1)) = omega (arith, within) in
    let next : suc n ≡ n + 1 = omega arith in
    let rest = numbers (n + 1) (count - (n + 1)) in
    let front : n ∷ rest ≡ numbers n (count - n) =
    sym (ap (numbers n) more ∙ ap (λ (m : ℕ). n ∷ numbers m (count - (n + 1))) next) in
    ap (λ (t : List ℕ). t ++ rest) e ∙ append_assoc all (n ∷ []) rest ∙ ap (λ (t : List ℕ). all ++ t) front ∙ h
