-- Nothing at the end, else the token ahead is taken (Taking). Assumes nothing.
use Prim.Native.Nat.{ℕ}
use native.Mathlib.Omega.{arith}
use mathlib.Core.Path.{sym, subst, ◌∙◌}
use Rattle.predictive.specs.Events.{token}
use Rattle.parser.specs.State.{enter}
use Rattle.parser.specs.Reads.{Ran}
use Rattle.parser.specs.Parsers.{source, counters}
use Rattle.parser.proofs.Tests.{shown-small}
use Rattle.parser.proofs.Taking.{r-any_end, r-any}
use Rattle.parser.proofs.Parsers.{same}
use Rattle.parser.proofs.Parser.bump_any.Goals as goal

pub take-requires : goal.take-requires
take-requires c =
    let p = c.args.self.now in
    omega (arith, shown-small (source p.tokens) (counters p) c.current-symbol.ensures c.shown.ensures)

pub returns-then-symbol-ne-END : goal.returns-then-symbol-ne-END
returns-then-symbol-ne-END c = λ d.
    let p = c.args.self.now in
    let q = c.take.new.self in
    record {
      did =
          r-any c.current-symbol.ensures c.if-symbol-ne-END.true
          (subst (λ (k : ℕ). Ran (enter (source p.tokens) (token k)) (counters p) p.events.now (counters q) q.events.now) c.shown.ensures c.take.ensures.did);
      same = c.take.ensures.same;
    }

pub returns-else-symbol-ne-END : goal.returns-else-symbol-ne-END
returns-else-symbol-ne-END c = λ d. record { did = r-any_end (sym c.current-symbol.ensures ∙ c.if-symbol-ne-END.false); same = same }
