-- The Start that was pushed had room, so its distance from any Start before it fits; it is stored there (Marks). Assumes nothing.
use Prim.Native.Nat.{ℕ, ◌-◌}
use native.Mathlib.Omega.{arith}
use mathlib.Core.Path.{sym, ap, ◌∙◌}
use Rattle.parser.specs.Buffer.{linked}
use Rattle.parser.specs.State.{state}
use Rattle.parser.specs.Parsers.{counters}
use Rattle.parser.proofs.Buffer.{room_most}
use Rattle.parser.proofs.Marks.{started-fits, precede-stopped, precede-links, precede-stays}
use Rattle.parser.proofs.CompletedMarker.precede.Goals as goal
use Rattle.parser.proofs.CompletedMarker.precede.Goals.{else-p-eq0-via-then-p-eq0+else-self-m, else-p-eq0-via-else-p-eq0}

pub link_start-requires : goal.link_start-requires
link_start-requires c =
    omega (arith, started-fits c.start-m.ensures.did c.if-p-eq0.true, room_most c.start-m.new.self.events.now, c.start-m.ensures.did.mark)

pub returns-then-self-m : goal.returns-then-self-m
returns-then-self-m c =
    let x = c.start-m.ensures in
    let q = c.start-m.new.self in
    let m = c.args.self.0 in
    record {
      did = record {
        ran =
            ap (state (counters q)) c.link_start.ensures
            ∙ ap (λ (n : ℕ). state (counters q) (linked m (n - m) q.events.now)) x.did.mark
            ∙ sym (precede-links _ _ _ x.did.ran c.if-p-eq0.true (omega (arith, x.did.mark, c.if-self-m.true)));
        mark = x.did.mark;
      };
      same = record { text = x.same.text; words = x.same.words; events = x.same.events };
    }

pub returns-else-p-eq0 : goal.returns-else-p-eq0
returns-else-p-eq0 c =
    let x = c.start-m.ensures in
    record {
      did = record {
        ran = elim c.else-p-eq0.branch [
          | else-p-eq0-via-then-p-eq0+else-self-m u ↦ sym (precede-stays _ _ _ x.did.ran u.if-p-eq0.true (omega (arith, x.did.mark, u.if-self-m.false)))
          | else-p-eq0-via-else-p-eq0 u ↦ sym (precede-stopped _ _ _ x.did.ran u.if-p-eq0.false)
        ];
        mark = x.did.mark;
      };
      same = x.same;
    }
