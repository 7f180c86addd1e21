-- What is put behind a text piece by piece.
use Rattle.std.specs.Prelude.{◌≡◌, ℕ, List, ◌++◌}
use Rattle.std.proofs.Common.{◌∙◌, ap, append_assoc}

-- a piece, and what is put behind it
pub joined : (o p q a b : List ℕ) → p ≡ o ++ a → q ≡ p ++ b → q ≡ o ++ (a ++ b)
joined o p q a b e f = f ∙ ap (λ t. t ++ b) e ∙ append_assoc o a b
