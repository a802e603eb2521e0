-- The laws for readers whose contracts go by the openers left where they are called: outside an opener by their number, inside by one
-- more, as `level` says. The number is the same after every reading, so the pieces are at one level. Assumes nothing.
use Rattle.std.specs.Prelude.{Some}
use Prim.Native.Nat.{ℕ}
use mathlib.Core.Path.{◌≡◌, ap, ◌∙◌}
use mathlib.Core.Bool.{true}
use Rattle.predictive.specs.Grammar.{Choice, Part, seq, inside, suffix}
use Rattle.predictive.specs.Events.{start}
use Rattle.predictive.proofs.Lookahead.{single}
use Rattle.predictive.proofs.Takes.{takes}
use Rattle.aadl.specs.Section.{Rule}
use Rattle.parser.specs.declared.Parser.{Parser}
use Rattle.parser.specs.declared.Marker.{Marker}
use Rattle.parser.specs.declared.CompletedMarker.{CompletedMarker}
use Rattle.parser.specs.State.{push, precede}
use Rattle.parser.specs.Reads.{heads_of}
use Rattle.parser.specs.Parsers.{stand, Opens, Closes, ReadsWithin, ReadsNodeWithin, ReadsOperandWithin}
use Rattle.parser.proofs.Emitted as E
use Rattle.parser.proofs.Parsers.{at_level, read_left, r-seq, r-inside, n_inside, o-reads, Turning, w-left, w-again, x-turn, Chaining, c-left, c-again}

-- the level outside an opener
abbrev pub same : ℕ → ℕ
same n = n

module _ {p q : Parser} {m : Marker} where
  pub started-left : Opens (push (start 0 0)) p m q → q.left ≡ p.left
  started-left x = E.started-left x.did

  pub preceded_left : (n : ℕ) → Opens (precede n) p m q → q.left ≡ p.left
  preceded_left n x = E.preceded_left n x.did

pub completed-left : {m : Marker} {k : ℕ} {p r : Parser} {c : CompletedMarker} → Closes m k p c r → r.left ≡ p.left
completed-left x = E.completed-left x.did

module _ (level : ℕ → ℕ) {p : Parser} where
  pub seq-at : {P Q : Part Rule} {q r : Parser} → ReadsWithin (level p.left) P p q → ReadsWithin (level q.left) Q q r → ReadsWithin (level p.left) (seq P Q) p r
  seq-at x y = r-seq x (at_level (ap level (read_left x)) y)

  module _ {k : ℕ} {P : Part Rule} {q r t : Parser} {m : Marker} {c : CompletedMarker} where
    pub inside-at : Opens (push (start 0 0)) p m q → ReadsWithin (level q.left) P q r → Closes m k r c t → ReadsWithin (level p.left) (inside k P) p t
    inside-at x y z = r-inside x (at_level (ap level (started-left x)) y) z

    pub node_at : Opens (push (start 0 0)) p m q → ReadsWithin (level q.left) P q r → Closes m k r c t → ReadsNodeWithin (level p.left) (inside k P) p c t
    node_at x y z = n_inside x (at_level (ap level (started-left x)) y) z

  pub again_at : {P : Part Rule} {p₀ q : Parser} → takes P ≡ true → Turning (level p₀.left) P p₀ p → stand (heads_of P) p ≡ true →
      ReadsWithin (level p.left) P p q → Turning (level p₀.left) P p₀ q
  again_at t w s x = w-again t w s (at_level (ap level (w-left w)) x)

module _ {k : ℕ} {P Q : Part Rule} {p₀ p q r t : Parser} {i : Marker} {j : CompletedMarker} where
  pub link_at : (m : ℕ) → takes Q ≡ true → Chaining p₀.left k P Q p₀ p m → stand (heads_of Q) p ≡ true → Opens (precede m) p i q →
      ReadsWithin q.left Q q r → Closes i k r j t → Chaining p₀.left k P Q p₀ t j.0
  link_at m t x s y z u = c-again m t x s y (at_level (preceded_left m y ∙ c-left x) z) u

  pub turn_at : {o : Choice} {m : CompletedMarker} → single P ≡ true → ReadsOperandWithin p₀.left P p₀ (Some m) p → stand (heads_of Q) p ≡ true →
      Opens (precede m.0) p i q → ReadsWithin q.left Q q r → Closes i k r j t → ReadsWithin p₀.left (suffix o k P Q) p₀ t
  turn_at {o} {m} one x s y z u = x-turn one x s y (at_level (preceded_left m.0 y ∙ read_left (o-reads x)) z) u
