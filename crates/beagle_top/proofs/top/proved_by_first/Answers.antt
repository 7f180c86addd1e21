use Rattle.std.proofs.Common.{ℕ, List}
use Rattle.std.specs.Prelude.{IfSome}
use Rattle.beagle_top.specs.Answer.{EndsBy, IsSilent, Proves}
use Rattle.beagle_top.proofs.Judges.{asks_first, asks_none, of_first}
use Rattle.beagle_top.proofs.top.proved_by_first.Goals as goal

pub returns-clause-answer : goal.returns-clause-answer
returns-clause-answer w c =
    of_first _
    (λ (m n : List ℕ). (IsSilent c.proved_by.result → ⊥) → IfSome (w.S.Source.left c.args.source.now)
    (λ (bytes : List ℕ). EndsBy (Proves c.args.options.now bytes) (w.K.Sink.holds c.args.sink.now) (w.K.Sink.holds c.proved_by.new.sink) m n
    c.proved_by.result))
    c.args.judges.now.items c.index_mut.result.now c.proved_by.new.judge c.requires c.index_mut.ensures.value c.proved_by.ensures.answer

pub returns-clause-asked : goal.returns-clause-asked
returns-clause-asked w c =
    asks_first _ c.args.judges.now.items c.index_mut.result.now c.proved_by.new.judge c.requires c.index_mut.ensures.value c.proved_by.ensures.asked

pub returns-clause-refused : goal.returns-clause-refused
returns-clause-refused w c = λ which.
    asks_none _ c.args.judges.now.items c.index_mut.result.now c.proved_by.new.judge c.requires c.index_mut.ensures.value (c.proved_by.ensures.refused which)
