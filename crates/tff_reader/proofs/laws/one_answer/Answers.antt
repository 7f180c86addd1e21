use Rattle.std.proofs.Common.{◌≡◌, ◌∙◌, ℕ, List, [], ◌∷◌, sym, ap, refl}
use Rattle.tff_grammar.specs.declared.faults.Fault.{Fault}
use Rattle.tff_grammar.specs.declared.trees.Statement.{Statement}
use Rattle.tff_grammar.specs.Answer.{IsFirstFault, IsText}
use Rattle.tff_signature.specs.declared.faults.Later.{Later}
use Rattle.tff_signature.specs.Faults.{Faults}
use Rattle.tff_reader.specs.declared.refusals.Refused.{Refused}
use Rattle.tff_reader.specs.Answer.{IsProblem, IsRefused, by_grammar, behind_grammar, later_faults, refused_early, refused_later}
use Rattle.tff_reader.specs.Meaning.{problem_of}
use Rattle.tff_reader.proofs.laws.one_answer.Goals as goal

abbrev OneText : Type 0
OneText = (bytes : List ℕ) (first second : List Statement) → IsText bytes first → IsText bytes second → first ≡ second

abbrev OneFault : Type 0
OneFault = (bytes : List ℕ) (first second : Fault) → IsFirstFault bytes first → IsFirstFault bytes second → first ≡ second

abbrev Apart : Type 0
Apart = (bytes : List ℕ) (statements : List Statement) (fault : Fault) → IsText bytes statements → IsFirstFault bytes fault → ⊥

same_head : (f g : Later) (fs gs : Faults) → ◌≡◌ {A = Faults} (f ∷ fs) (g ∷ gs) → f ≡ g
same_head f g fs gs e = cc

pub returns-clause-problem : goal.returns-clause-problem
returns-clause-problem c =
    λ bytes p q first second. first.meant ∙ ap (problem_of bytes) (c.one_text.ensures bytes first.statements second.statements first.text second.text) ∙ sym second.meant

same_fault : OneText → OneFault → Apart → (bytes : List ℕ) (r s : Refused) → IsRefused bytes r → IsRefused bytes s → r ≡ s
same_fault texts faults apart bytes r s (by_grammar f is e) (by_grammar g also d) = e ∙ ap (refused_early bytes) (faults bytes f g is also) ∙ sym d
same_fault texts faults apart bytes r s (by_grammar f is e) (behind_grammar ts g gs text these d) = absurd (apart bytes ts f text is)
same_fault texts faults apart bytes r s (behind_grammar ss f fs text these e) (by_grammar g also d) = absurd (apart bytes ss g text also)
same_fault texts faults apart bytes r s (behind_grammar ss f fs text these e) (behind_grammar ts g gs other those d) =
    let same : ss ≡ ts = texts bytes ss ts text other in
    let lists : ◌≡◌ {A = Faults} (f ∷ fs) (g ∷ gs) = sym these ∙ ap (later_faults bytes) same ∙ those in
    e ∙ ap refused_later (same_head f g fs gs lists) ∙ sym d

pub returns-clause-fault : goal.returns-clause-fault
returns-clause-fault c = same_fault c.one_text.ensures c.one_fault.ensures c.no_fault_of_text.ensures

-- a problem and a refusal can't both be
never_both : OneText → Apart → (bytes : List ℕ) (ss : List Statement) (r : Refused) → IsText bytes ss → later_faults bytes ss ≡ [] → IsRefused bytes r → ⊥
never_both texts apart bytes ss r text none (by_grammar f is e) = apart bytes ss f text is
never_both texts apart bytes ss r text none (behind_grammar ts g gs other those d) =
    let same : ss ≡ ts = texts bytes ss ts text other in
    let bad : ◌≡◌ {A = Faults} [] (g ∷ gs) = sym none ∙ ap (later_faults bytes) same ∙ those in
    cc

pub returns-clause-apart : goal.returns-clause-apart
returns-clause-apart c = λ bytes p r is refused. never_both c.one_text.ensures c.no_fault_of_text.ensures bytes is.statements r is.text is.faultless refused
