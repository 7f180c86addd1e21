-- Worked rows: the tokens of some texts.
use Rattle.std.proofs.Common.{◌≡◌, true, false, [], ◌∷◌, refl}
use Rattle.std.specs.Prelude.{codes, pos, negsuc}
use Rattle.tff_lexer.specs.Forms.{is_dollar, is_quoted, is_distinct, is_numeral, is_rational, is_real, is_sign}
use Rattle.tff_lexer.specs.Blanks.{skip}
use Rattle.tff_lexer.specs.Values.{value}

comment : skip (codes " % x\n/* y **/ z") ≡ codes "z"
comment = refl

open_comment : skip (codes " /*/ z") ≡ codes "/*/ z"
open_comment = refl

last_comment : skip (codes " % z") ≡ []
last_comment = refl

words : (is_dollar (codes "$$ab") ≡ true) × (is_dollar (codes "$$") ≡ false) × (is_quoted (codes "'a\\'b'") ≡ true) × (is_quoted (codes "''") ≡ false) × (is_distinct (codes "\"\"") ≡ true)
words = (refl, refl, refl, refl, refl)

numbers : (is_numeral (codes "-007") ≡ true) × (is_rational (codes "1/2") ≡ true) × (is_rational (codes "1/-2") ≡ false) × (is_real (codes "1.5E+3") ≡ true) × (is_real (codes "1e5") ≡ true) × (is_real (codes "1.") ≡ false) × (is_real (codes "1.e5") ≡ false)
numbers = (refl, refl, refl, refl, refl, refl, refl)

signs : (is_sign (codes "<~>") ≡ true) × (is_sign (codes "<") ≡ false) × (is_sign (codes "!>") ≡ true)
signs = (refl, refl, refl)

values : (value (codes "-0042") ≡ negsuc 41) × (value (codes "+7") ≡ pos 7)
values = (refl, refl)

-- at the corners
corner_words : (is_quoted (codes "'''") ≡ false) × (is_quoted (codes "'\\''") ≡ true) × (is_quoted (codes "'\\'") ≡ false) × (is_quoted (codes "'a\nb'") ≡ false) × (is_distinct (codes "\"a") ≡ false) × (is_dollar (codes "$$$a") ≡ false) × (is_dollar (codes "$A") ≡ false) × (is_quoted (39 ∷ 126 ∷ 39 ∷ []) ≡ true) × (is_quoted (39 ∷ 127 ∷ 39 ∷ []) ≡ false) × (is_quoted (39 ∷ 31 ∷ 39 ∷ []) ≡ false) × (is_quoted (39 ∷ 32 ∷ 39 ∷ []) ≡ true)
corner_words = (refl, refl, refl, refl, refl, refl, refl, refl, refl, refl, refl)

corner_numbers : (is_real (codes "1.e") ≡ false) × (is_rational (codes "1/") ≡ false) × (is_numeral (codes "+") ≡ false) × (is_numeral (codes "- 1") ≡ false) × (is_numeral (codes "+-1") ≡ false) × (is_real (codes "-1E5") ≡ true) × (is_real (codes "1.5e") ≡ false) × (is_rational (codes "+1/007") ≡ true) × (is_real (codes "1/2e3") ≡ false) × (is_real (codes "12") ≡ false) × (is_real (codes "0.0e-0") ≡ true)
corner_numbers = (refl, refl, refl, refl, refl, refl, refl, refl, refl, refl, refl)

corner_signs : (is_sign (codes "<==>") ≡ false) × (is_sign (codes "((") ≡ false) × (is_sign [] ≡ false) × (is_sign (codes "<~") ≡ false) × (is_sign (codes "=>") ≡ true) × (is_sign (codes "==") ≡ false) × (is_sign (codes "!!") ≡ false)
corner_signs = (refl, refl, refl, refl, refl, refl, refl)

corner_blanks : (skip (codes "/*/ a") ≡ codes "/*/ a") × (skip (codes "%a\r b\nc") ≡ codes "c") × (skip (codes "/**/ /***/ x") ≡ codes "x") × (skip (codes "/ a") ≡ codes "/ a") × (skip (11 ∷ []) ≡ 11 ∷ []) × (skip (9 ∷ 10 ∷ 13 ∷ 32 ∷ 12 ∷ []) ≡ 12 ∷ [])
corner_blanks = (refl, refl, refl, refl, refl, refl)

corner_values : (value (codes "-170141183460469231731687303715884105728") ≡ negsuc 170141183460469231731687303715884105727) × (value (codes "-0") ≡ pos 0) × (value (codes "+0010") ≡ pos 10)
corner_values = (refl, refl, refl)
