-- The Start gets its kind, then Finish is pushed (Marks). Assumes nothing.
use Prim.Native.Nat.{ℕ}
use mathlib.Core.Path.{refl, sym, ap, ◌∙◌}
use mathlib.Core.List.{List}
use Rattle.predictive.specs.Events.{finish}
use Rattle.parser.specs.State.{state, push}
use Rattle.parser.specs.Parsers.{counters}
use Rattle.parser.proofs.Pushing.{push-goes}
use Rattle.parser.proofs.Marks.{complete-stopped, complete-goes}
use Rattle.parser.proofs.Parsers.{same}
use Rattle.parser.proofs.Marker.complete.Goals as goal

pub returns-then-p-eq0 : goal.returns-then-p-eq0
returns-then-p-eq0 c =
    let x = c.push_or_stop.ensures finish c.finish_event.ensures in
    record {
      did = record {
        ran =
            x.did.ran ∙ sym (push-goes finish _ c.if-p-eq0.true) ∙ ap (λ (ws : List ℕ). push finish (state (counters c.args.p.now) ws)) c.name_start.ensures
            ∙ sym (complete-goes _ _ _ c.if-p-eq0.true);
        mark = refl;
      };
      same = record { text = x.same.text; words = x.same.words; events = x.same.events };
    }

pub returns-else-p-eq0 : goal.returns-else-p-eq0
returns-else-p-eq0 c = record { did = record { ran = sym (complete-stopped _ _ _ c.if-p-eq0.false); mark = refl }; same = same }
