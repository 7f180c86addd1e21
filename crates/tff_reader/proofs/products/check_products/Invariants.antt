use Rattle.std.proofs.Common.{◌≡◌, drop}
use Rattle.tff_reader.specs.NumberTerms.{phase_4}
use Rattle.tff_reader.proofs.products.check_products.Given as goal

abbrev pub invariant-loop-statement : goal.invariant-loop-statement
invariant-loop-statement l = phase_4 l.statements ≡ phase_4 (drop l.statement-index l.statements)
