-- The cases of `halt` (Pushing); the number is not 0. Assumes nothing.
use Prim.Native.Nat.{ℕ}
use native.Mathlib.Omega.{arith}
use mathlib.Core.Path.{refl, sym, ap, ◌∙◌}
use Rattle.parser.specs.State.{state, with_stop}
use Rattle.parser.specs.Parsers.{counters}
use Rattle.parser.proofs.Pushing.{halt-stopped, halt-goes}
use Rattle.parser.proofs.Parsers.{same}
use Rattle.parser.proofs.Parser.stop.Goals as goal

pub returns-then-self-eq0 : goal.returns-then-self-eq0
returns-then-self-eq0 c =
    let p = c.args.self.now in
    record {
      did = record { ran = ap (λ (n : ℕ). state (with_stop n (counters p)) p.events.now) (omega (arith, c.requires)) ∙ sym (halt-goes _ _ c.if-self-eq0.true) };
      same = record { text = refl; words = refl; events = refl };
    }

pub returns-else-self-eq0 : goal.returns-else-self-eq0
returns-else-self-eq0 c = record { did = record { ran = sym (halt-stopped _ _ c.if-self-eq0.false) }; same = same }
