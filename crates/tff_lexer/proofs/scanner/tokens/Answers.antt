use Rattle.std.proofs.Common.{ap, ◌∙◌}
use Rattle.std.proofs.lemmas.List.{take_rest}
use Rattle.tff_lexer.specs.Blanks.{skip}
use Rattle.tff_lexer.proofs.Scanning.{scans_first, scans_next, scans_end}
use Rattle.tff_lexer.proofs.TokenTexts.{ascending_spans}
use Rattle.tff_lexer.proofs.scanner.tokens.Goals as goal

pub loop-kind-init : goal.loop-kind-init
loop-kind-init c = scans_first c.args.bytes.now c.skip_blanks-rest.result.now c.new-tokens.result.items c.skip_blanks-rest.ensures.rest c.skip_blanks-rest.ensures.within c.new-tokens.ensures.items

pub loop-kind-preserved : goal.loop-kind-preserved
loop-kind-preserved c =
    let rest = c.loop-kind.rest.now in
    let next = c.skip_blanks-rest-in-Some in
    let left = take_rest rest c.in-Some.length in
    let within = rw left at next.ensures.within in
    scans_next c.args.bytes.now rest next.result.now c.loop-kind.tokens.items c.push.new.self.items c.in-Some.kind c.in-Some.length c.loop-kind.invariant c.in-Some.ensures (next.ensures.rest ∙ ap skip left) within c.in_ok-push.ensures.items

pub returns-clause-scan : goal.returns-clause-scan
returns-clause-scan c = scans_end c.args.bytes.now c.loop-kind.rest.now c.loop-kind.tokens.items c.stop_at-stop.result c.loop-kind.invariant c.stop_at-stop.ensures.stops

pub returns-clause-spans : goal.returns-clause-spans
returns-clause-spans c =
    ascending_spans c.args.bytes.now c.loop-kind.tokens.items c.stop_at-stop.result (scans_end c.args.bytes.now c.loop-kind.rest.now c.loop-kind.tokens.items c.stop_at-stop.result c.loop-kind.invariant c.stop_at-stop.ensures.stops)
