-- Equal stamps, and the test for them.
use Rattle.std.specs.Prelude.{◌≡◌, ℕ, true, ◌==◌}
use Rattle.std.proofs.Common.{refl, ap, ◌∙◌}
use Rattle.std.proofs.lemmas.Bool.{and_parts, and_from, eqb-true, eq-eqb}
use Rattle.query_board.specs.declared.queries.Stamp.{Stamp}
use Rattle.query_board.specs.Stamps.{same_stamp}

-- the stamp of a clause's number and a version
abbrev pub stamp : ℕ → ℕ → Stamp
stamp c v = record { clause = c; version = v }

pub same_parts : (c d v w : ℕ) → c ≡ d → v ≡ w → stamp c v ≡ stamp d w
same_parts c d v w e f = ap (λ x. stamp x v) e ∙ ap (stamp d) f

pub same_stamp-true : (s t : Stamp) → same_stamp s t ≡ true → s ≡ t
same_stamp-true s t h =
    let two = and_parts (s.clause == t.clause) (s.version == t.version) h in
    let c : s.clause ≡ t.clause = eqb-true s.clause t.clause two.0 in
    let v : s.version ≡ t.version = eqb-true s.version t.version two.1 in
    same_parts s.clause t.clause s.version t.version c v

pub same_stamp-refl : (s : Stamp) → same_stamp s s ≡ true
same_stamp-refl s = and_from (s.clause == s.clause) (s.version == s.version) (eq-eqb s.clause s.clause refl)
    (eq-eqb s.version s.version refl)
