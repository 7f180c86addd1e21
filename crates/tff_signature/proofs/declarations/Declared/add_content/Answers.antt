use Rattle.tff_signature.proofs.TableLemmas.{declares_added}
use Rattle.tff_signature.proofs.declarations.Declared.add_content.Goals as goal

pub returns-in-Declaration : goal.returns-in-Declaration
returns-in-Declaration c = λ ds d.
    declares_added c.add.result c.args.text.now c.args.self.now c.add.new.self ds c.in-Declaration.word c.name.result.now c.in-Declaration.given c.args.content.now
    c.in-Declaration.is c.name.ensures d c.add.ensures.types c.add.ensures.sorts
