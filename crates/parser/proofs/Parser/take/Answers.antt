-- The cases of taking a token: the parser stopped, there is room, there is none (Pushing, Parsers). Assumes nothing.
use native.Mathlib.Omega.{arith}
use mathlib.Core.Path.{refl, sym, ap, ◌∙◌}
use Rattle.predictive.specs.Events.{token}
use Rattle.parser.specs.State.{enter, pass}
use Rattle.parser.specs.Parsers.{source}
use Rattle.parser.proofs.Pushing.{push-stopped, push-full, pass-stopped}
use Rattle.parser.proofs.Parsers.{same, fits, full, takes-one}
use Rattle.parser.proofs.Parser.take.Goals as goal

pub append-requires : goal.append-requires
append-requires c = fits c.args.self.now c.if-self.true

pub returns-then-self-ne0 : goal.returns-then-self-ne0
unfolding enter
returns-then-self-ne0 c =
    let inp = source c.args.self.now.tokens in
    let e = token c.args.kind in
    let h = c.if-self-ne0.true in
    record { did = record { ran = sym (ap (pass inp) (push-stopped e _ h) ∙ pass-stopped inp _ h) }; same = same }

pub returns-then-self : goal.returns-then-self
returns-then-self c =
    takes-one c.args.self.now c.append.new.self c.args.kind c.if-self-ne0.false (fits c.args.self.now c.if-self.true)
    (c.append.ensures (token c.args.kind) c.token_event.ensures) c.next-next.ensures c.one_more-taken.ensures

pub returns-else-self : goal.returns-else-self
unfolding enter
returns-else-self c =
    let inp = source c.args.self.now.tokens in
    let e = token c.args.kind in
    record {
      did = record {
        ran =
            sym (ap (pass inp) (push-full e _ c.if-self-ne0.false (full c.args.self.now c.if-self.false))
            ∙ pass-stopped inp _ (λ z. omega (arith, z)));
      };
      same = record { text = refl; words = refl; events = refl };
    }
