use Rattle.std.proofs.Common.{◌-◌, length, length-append, ap, arith}
use Rattle.cert_text.specs.Grammar.{Spells}
use Rattle.text_pieces.proofs.Repeated.{reads_le}
use Rattle.cert_text.proofs.Wholes.{begins, none_begins}
use Rattle.cert_text.proofs.certs.parse_cert.Goals as goal

pub returns-in-Ok : goal.returns-in-Ok
returns-in-Ok c =
    let r = c.in-Ok.ensures in
    begins c.args.bytes.now c.in-Ok.cert c.in-Ok.rest.now (length c.args.bytes.now - length c.in-Ok.rest.now) (omega (arith, reads_le Spells c.args.bytes.now c.in-Ok.cert c.in-Ok.rest.now r)) r

pub returns-in-Err-Bad : goal.returns-in-Err-Bad
returns-in-Err-Bad c =
    let f = rw c.in-Err-Bad.field-0-is at c.in-Err-Bad.ensures in
    none_begins c.args.bytes.now c.in-Err-Bad.bad.left (length c.args.bytes.now - c.in-Err-Bad.bad.left) (omega (arith, ap length f.whole, length-append f.front f.rest, f.left_is)) f
