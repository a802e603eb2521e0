-- What an event of first words does to a walk, by its word's class; and the walk from an event on, turn by turn. Assumes nothing.
use Prim.Native.Nat.{ℕ, zero, suc, ◌<◌}
use native.Mathlib.Omega.{arith}
use mathlib.Core.Path.{◌≡◌, refl, sym, ap, ap₂, ◌∙◌}
use mathlib.Core.List.{List, ◌∷◌, map}
use lib.ListN.{length, get_or, drop}
use Rattle.predictive.specs.Events.{Event}
use Rattle.aadl.specs.Tokens.{kind_in}
use Rattle.aadl.specs.Encoding.{event_in, event_by, class_in, last_in}
use Rattle.tree.specs.Walk.{Walk, begun, counted, closed, turn, walk}
use Rattle.tree.proofs.Chains.{drop_events, from-here, events-from_here}

abbrev pub from : (ws : List ℕ) → (i : ℕ) → List Event
from ws i = drop i (map event_in ws)

-- the first event is one of a class
by-start : (i c k l : ℕ) (es : List Event) (w : Walk) → c ≡ 0 → turn i (event_by c k l ∷ es) w ≡ begun i (event_by c k l ∷ es) w
unfolding turn
by-start i zero k l es w e = refl
by-start i (suc c) k l es w e = absurd (omega (arith, e))

by_token : (i c k l : ℕ) (es : List Event) (w : Walk) → c ≡ 1 → turn i (event_by c k l ∷ es) w ≡ counted w
unfolding turn
by_token i zero k l es w e = absurd (omega (arith, e))
by_token i (suc zero) k l es w e = refl
by_token i (suc (suc c)) k l es w e = absurd (omega (arith, e))

by-finish : (i c k l : ℕ) (es : List Event) (w : Walk) → c ≡ 2 → turn i (event_by c k l ∷ es) w ≡ closed w
unfolding turn
by-finish i zero k l es w e = absurd (omega (arith, e))
by-finish i (suc zero) k l es w e = absurd (omega (arith, e))
by-finish i (suc (suc zero)) k l es w e = refl
by-finish i (suc (suc (suc c))) k l es w e = absurd (omega (arith, e))

by-error : (i c k l : ℕ) (es : List Event) (w : Walk) → (c ≡ 0 → ⊥) → (c ≡ 1 → ⊥) → (c ≡ 2 → ⊥) → turn i (event_by c k l ∷ es) w ≡ w
unfolding turn
by-error i zero k l es w f g h = absurd (f refl)
by-error i (suc zero) k l es w f g h = absurd (g refl)
by-error i (suc (suc zero)) k l es w f g h = absurd (h refl)
by-error i (suc (suc (suc c))) k l es w f g h = refl

module _ (ws : List ℕ) (i : ℕ) (inside : i < length ws) (w : Walk) where
  abbrev rest : List Event
  rest = map event_in (drop (suc i) ws)

  abbrev word : ℕ
  word = get_or ws i 0

  here : turn i (from ws i) w ≡ turn i (from-here ws i inside) w
  here = ap (λ (es : List Event). turn i es w) (events-from_here ws i inside)

  pub turn-start : class_in (get_or ws i 0) ≡ 0 → turn i (from ws i) w ≡ begun i (from ws i) w
  unfolding event_in
  turn-start e =
      here ∙ by-start i (class_in word) (kind_in word) (last_in word) rest w e
      ∙ ap (λ (es : List Event). begun i es w) (sym (events-from_here ws i inside))

  pub turn-token : class_in (get_or ws i 0) ≡ 1 → turn i (from ws i) w ≡ counted w
  unfolding event_in
  turn-token e = here ∙ by_token i (class_in word) (kind_in word) (last_in word) rest w e

  pub turn-finish : class_in (get_or ws i 0) ≡ 2 → turn i (from ws i) w ≡ closed w
  unfolding event_in
  turn-finish e = here ∙ by-finish i (class_in word) (kind_in word) (last_in word) rest w e

  pub turn-error : (class_in (get_or ws i 0) ≡ 0 → ⊥) → (class_in (get_or ws i 0) ≡ 1 → ⊥) → (class_in (get_or ws i 0) ≡ 2 → ⊥) → turn i (from ws i) w ≡ w
  unfolding event_in
  turn-error f g h = here ∙ by-error i (class_in word) (kind_in word) (last_in word) rest w f g h

  -- The walk from an event on is that from the next on, after a turn.
  pub walk_turn : walk i (from ws i) w ≡ walk (suc i) (from ws (suc i)) (turn i (from ws i) w)
  unfolding walk
  walk_turn =
      ap (λ (es : List Event). walk i es w) (events-from_here ws i inside)
      ∙ sym (ap₂ (λ (es fs : List Event). walk (suc i) es (turn i fs w)) (drop_events (suc i) ws) (events-from_here ws i inside))
