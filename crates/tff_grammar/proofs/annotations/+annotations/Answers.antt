use Rattle.std.proofs.Common.{rules, arith, ap, sym, length}
use Rattle.tff_grammar.proofs.Squares.{note_goes, square_opens, square_closes, round_goes, round_stops, round_refused, end_refused, wide_refused}
use Rattle.tff_grammar.proofs.annotations.+annotations.Goals as goal

pub annotations-returns-in_err-rest-in-OpenRound-clause-err : goal.annotations-returns-in_err-rest-in-OpenRound-clause-err
annotations-returns-in_err-rest-in-OpenRound-clause-err t c =
    let e = c.in_err-rest-in-OpenRound in
    let h = round_stops c.loop-piece.squares c.args.level c.args.pieces.now c.loop-piece.rest e.field-0.0 c.loop-piece.invariant.read e.ensures.err in
    search (rules, h)

pub annotations-loop-piece-preserved-in-OpenRound : goal.annotations-loop-piece-preserved-in-OpenRound
annotations-loop-piece-preserved-in-OpenRound t c =
    let b = c.in_ok-rest-in-OpenRound in
    record {
      read = round_goes c.loop-piece.squares c.args.level c.args.pieces.now c.loop-piece.rest b.rest c.loop-piece.invariant.read b.ensures.ok;
      rest = omega (arith, c.loop-piece.invariant.rest, b.ensures.rest);
    }

pub annotations-loop-piece-preserved-in-OpenSquare : goal.annotations-loop-piece-preserved-in-OpenSquare
annotations-loop-piece-preserved-in-OpenSquare t c = record {
  read = square_opens c.loop-piece.squares c.args.level c.args.pieces.now c.loop-piece.rest c.in-Some.after c.in-Some.piece c.loop-piece.invariant.read c.in-Some.ensures (sym c.in-OpenSquare.ensures);
  rest = omega (arith, c.loop-piece.invariant.rest, ap length c.in-Some.ensures);
}

pub annotations-loop-piece-preserved-in-CloseSquare : goal.annotations-loop-piece-preserved-in-CloseSquare
annotations-loop-piece-preserved-in-CloseSquare t c = record {
  read = square_closes c.loop-piece.squares c.args.level c.args.pieces.now c.loop-piece.rest c.in-Some.after c.in-Some.piece c.if-squares-eq0.false c.loop-piece.invariant.read c.in-Some.ensures (sym c.in-CloseSquare.ensures);
  rest = omega (arith, c.loop-piece.invariant.rest, ap length c.in-Some.ensures);
}

pub annotations-returns-in-CloseRound-clause-err : goal.annotations-returns-in-CloseRound-clause-err
annotations-returns-in-CloseRound-clause-err t c = round_refused c.loop-piece.squares c.args.level c.args.pieces.now c.loop-piece.rest c.in-Some.after c.in-Some.piece c.syntax.result c.if-squares-eq0-2.false
    c.loop-piece.invariant.read c.in-Some.ensures (sym c.in-CloseRound.ensures) c.syntax.ensures

pub annotations-returns-in-Wide-clause-err : goal.annotations-returns-in-Wide-clause-err
annotations-returns-in-Wide-clause-err t c = wide_refused c.loop-piece.squares c.args.level c.args.pieces.now c.loop-piece.rest c.in-Some.after c.in-Some.piece c.syntax-in-Wide.result
    c.loop-piece.invariant.read c.in-Some.ensures (sym c.in-Wide.ensures) c.syntax-in-Wide.ensures

pub annotations-loop-piece-preserved : goal.annotations-loop-piece-preserved
annotations-loop-piece-preserved t c = record {
  read = note_goes c.loop-piece.squares c.args.level c.args.pieces.now c.loop-piece.rest c.in-Some.after c.in-Some.piece c.loop-piece.invariant.read c.in-Some.ensures (sym c.in-Other.ensures);
  rest = omega (arith, c.loop-piece.invariant.rest, ap length c.in-Some.ensures);
}

pub annotations-returns-clause-err : goal.annotations-returns-clause-err
annotations-returns-clause-err t c = end_refused c.loop-piece.squares c.args.level c.args.pieces.now c.loop-piece.rest c.syntax-2.result c.if-squares-eq0-3.false c.loop-piece.invariant.read c.in_default.ensures c.syntax-2.ensures
