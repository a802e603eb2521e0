-- There is room for the event of the word, or none (Pushing). Assumes nothing.
use mathlib.Core.Path.{refl, sym, ◌∙◌}
use Rattle.parser.proofs.Pushing.{pushed-fits, pushed-full}
use Rattle.parser.proofs.Parsers.{fits, full}
use Rattle.parser.proofs.Parser.push_or_stop.Goals as goal

pub append-requires : goal.append-requires
append-requires c = fits c.args.self.now c.if-self.true

pub returns-then-self : goal.returns-then-self
returns-then-self c = λ e w.
    let x = c.append.ensures e w in
    record { did = record { ran = x.did.ran ∙ sym (pushed-fits e _ (fits c.args.self.now c.if-self.true)) }; same = x.same }

pub returns-else-self : goal.returns-else-self
returns-else-self c = λ e w. record {
  did = record { ran = sym (pushed-full e _ (full c.args.self.now c.if-self.false)) };
  same = record { text = refl; words = refl; events = refl };
}
