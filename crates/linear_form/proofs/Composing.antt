-- The rules by which calls that form sums are composed.
use Rattle.lin_base.proofs.Forming as below

pub ruleset composing = (below.forming, below.Forms-err, below.Forms-after, below.IsErrorAt-append_some, below.IsErrorAt-append_none)
