use Rattle.std.specs.Prelude.{IsTrue, true, List, [], ◌∷◌, refl}
use Rattle.std.specs.List.{list_all}
use Rattle.cert_text.proofs.printing.push_multiples.Goals as goal

-- a test that is always true is true of each member
all_true : {A : Type 0} (xs : List A) → IsTrue (list_all (λ (x : A). true) xs)
all_true [] = refl
all_true (x ∷ xs) = all_true xs

pub push_counted-requires : goal.push_counted-requires
push_counted-requires c = all_true c.args.list.now
