-- The parts of rows and nodes are read in one way alone.
use Rattle.std.proofs.Common.{◌-◌, ◌^◌, arith}
use Rattle.cert_tree.specs.declared.certs.Row.{Row}
use Rattle.cert_text.specs.declared.kinds.RowKind.{RowKind}
use Rattle.cert_text.specs.declared.kinds.RowKind.TheVariants.{Inst, Low}
use Rattle.text_pieces.specs.Languages.{Cat, Blank}
use Rattle.text_pieces.specs.Numbers.{Number, Within, Word32, Signed, Signed128, Counted}
use Rattle.cert_text.specs.Sums.{SpellsLin}
use Rattle.cert_text.specs.Grammar.{Index, Whole, Modulus, Sum, Multiple, RowWord, RowParts, SpellsRow}
use Rattle.text_pieces.proofs.Reaching.{one_front-number, has_one-number}
use Rattle.text_pieces.proofs.Negatives.{one_front-signed, has_one-signed}
use Rattle.cert_text.proofs.Rooms.{one_front-lin, has_one-lin}
use Rattle.text_pieces.proofs.Lifting.{unambiguous-blank, unambiguous-image}
use Rattle.text_pieces.proofs.Repeated.{unambiguous-counted}
use Rattle.cert_text.proofs.Kinded.{unambiguous-row_word}
use Rattle.text_pieces.proofs.Chains.{both}
use Rattle.text_pieces.specs.Unambiguous.{Unambiguous}

pub unambiguous-index : Unambiguous Index
unambiguous-index = unambiguous-blank (Number Word32) (one_front-number Word32) (has_one-number Word32 0 (record { from_low = omega arith; to_high = omega arith }))

pub unambiguous-whole : Unambiguous Whole
unambiguous-whole = unambiguous-blank (Signed (Signed128 0)) (one_front-signed 0) (has_one-signed 0 (omega arith))

pub unambiguous-modulus : Unambiguous Modulus
unambiguous-modulus = unambiguous-blank (Number (Within 0 (2 ^ 127 - 1))) (one_front-number (Within 0 (2 ^ 127 - 1))) (has_one-number (Within 0 (2 ^ 127 - 1)) 0 (record { from_low = omega arith; to_high = omega arith }))

pub unambiguous-sum : Unambiguous Sum
unambiguous-sum = unambiguous-blank SpellsLin one_front-lin has_one-lin

pub unambiguous-multiple : Unambiguous Multiple
unambiguous-multiple = both unambiguous-index (λ n. unambiguous-whole)

pub unambiguous-multiples : Unambiguous (Counted Multiple)
unambiguous-multiples = unambiguous-counted Multiple unambiguous-multiple

pub unambiguous-row_parts : (kind : RowKind) → Unambiguous (RowParts kind)
unambiguous-row_parts Inst = unambiguous-image _ _ (both unambiguous-index (λ c. both unambiguous-index (λ x. both unambiguous-whole (λ a. unambiguous-sum))))
unambiguous-row_parts Low = unambiguous-image _ _ (both unambiguous-index (λ c. both unambiguous-index (λ x. unambiguous-whole)))

pub unambiguous-row : Unambiguous SpellsRow
unambiguous-row = unambiguous-image (λ (p : RowKind × Row). p.1) (Cat RowWord RowParts) (both unambiguous-row_word unambiguous-row_parts)

pub unambiguous-blank_row : Unambiguous (Blank SpellsRow)
unambiguous-blank_row = unambiguous-blank SpellsRow unambiguous-row.one unambiguous-row.some
