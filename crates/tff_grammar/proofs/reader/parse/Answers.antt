use Rattle.std.proofs.Common.{◌∙◌, sym, arith}
use Rattle.tff_grammar.specs.Pieces.{pieces_at}
use Rattle.tff_grammar.proofs.Classified.{pieces_are}
use Rattle.tff_grammar.proofs.Answering.{is_text, text_gives, fault_text, stop_text, found_within, pieces_length, whole_same, not_whole}
use Rattle.tff_grammar.proofs.reader.parse.Goals as goal

pub returns-in-None-clause-ok : goal.returns-in-None-clause-ok
returns-in-None-clause-ok c =
    let ts = c.in_ok-scan.scan.tokens.items in
    let scan = rw c.in-None.is at c.in_ok-scan.ensures.scan in
    let read = rw (c.new-pieces.ensures, c.deref.ensures.value) at c.in-Ok.ensures.ok in
    is_text c.args.bytes.now ts (pieces_at c.args.bytes.now ts) c.in-Ok.statements scan (pieces_are c.args.bytes.now ts) read

pub returns-in-None-clause-only : goal.returns-in-None-clause-only
returns-in-None-clause-only c ss x =
    let ts = c.in_ok-scan.scan.tokens.items in
    let read = rw (c.new-pieces.ensures, c.deref.ensures.value) at c.in-Ok.ensures.ok in
    let gives = text_gives c.one_scan.ensures c.args.bytes.now ts c.in_ok-scan.scan.stop (pieces_at c.args.bytes.now ts) ss c.in_ok-scan.ensures.scan (pieces_are c.args.bytes.now ts) x in
    whole_same c.in-Ok.statements ss (sym read ∙ gives.1)

pub returns-in-Ok-clause-fault : goal.returns-in-Ok-clause-fault
returns-in-Ok-clause-fault c =
    let ts = c.in_ok-scan.scan.tokens.items in
    let scan = rw c.in-Some.is at c.in_ok-scan.ensures.scan in
    let read = rw (c.new-pieces.ensures, c.deref.ensures.value) at c.in-Ok.ensures.ok in
    stop_text c.args.bytes.now ts c.in-Some.at (pieces_at c.args.bytes.now ts) _ scan (pieces_are c.args.bytes.now ts) read

pub located-requires : goal.located-requires
located-requires c =
    let ts = c.in_ok-scan.scan.tokens.items in
    let read = rw (c.new-pieces.ensures, c.deref.ensures.value, c.in-Err-Fault.field-0-is) at c.in-Err-Fault.ensures.err in
    let within = found_within (pieces_at c.args.bytes.now ts) c.in-Err-Fault.found read in
    let same = pieces_length c.args.bytes.now ts (pieces_at c.args.bytes.now ts) (pieces_are c.args.bytes.now ts) in
    omega (arith, within, same)

pub returns-clause-fault : goal.returns-clause-fault
returns-clause-fault c =
    let ts = c.in_ok-scan.scan.tokens.items in
    let read = rw (c.new-pieces.ensures, c.deref.ensures.value, c.in-Err-Fault.field-0-is) at c.in-Err-Fault.ensures.err in
    fault_text c.args.bytes.now ts c.in_ok-scan.scan.stop (pieces_at c.args.bytes.now ts) c.in-Err-Fault.found c.located.result c.in_ok-scan.ensures.scan (pieces_are c.args.bytes.now ts) read c.located.ensures

pub returns-clause-only : goal.returns-clause-only
returns-clause-only c ss x =
    let ts = c.in_ok-scan.scan.tokens.items in
    let read = rw (c.new-pieces.ensures, c.deref.ensures.value, c.in-Err-Fault.field-0-is) at c.in-Err-Fault.ensures.err in
    let gives = text_gives c.one_scan.ensures c.args.bytes.now ts c.in_ok-scan.scan.stop (pieces_at c.args.bytes.now ts) ss c.in_ok-scan.ensures.scan (pieces_are c.args.bytes.now ts) x in
    absurd (not_whole c.in-Err-Fault.found _ (sym read ∙ gives.1))
