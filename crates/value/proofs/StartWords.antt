-- Where a section's associations start, by the first words of its events: as many start as there are words of their Starts, and each behind as
-- many tokens as the events before its own take. By induction over the words. Assumes nothing.
use Prim.Native.Nat.{ℕ, zero, suc, ◌+◌, ◌<◌}
use native.Mathlib.Omega.{arith}
use mathlib.Core.Path.{◌≡◌, refl, sym, ap, ◌∙◌}
use mathlib.Core.Bool.{Bool, true, false, cond}
use mathlib.Core.List.{List, [], ◌∷◌, map}
use lib.ListN.{length, get_or, take}
use Rattle.predictive.specs.Events.{Event, taken}
use Rattle.predictive.proofs.EventLaws.{taken-append}
use Rattle.aadl.specs.Tokens.{kind_in}
use Rattle.aadl.specs.Encoding.{class_in, last_in, event_by, event_in}
use Rattle.bands.specs.Bands.{within_band, tally, nth_within}
use Rattle.value.specs.Words.{starting}
use Rattle.value.specs.Starts.{starts_in}
use Rattle.value.proofs.WordBands.{starts-by_kind, starts-not}

-- the starts behind an event that comes after i tokens
abbrev later : (i : ℕ) → Event → List Event → List ℕ
later i e es = starts_in (i + taken (e ∷ [])) es

-- One word: the starts of its event and those that follow.
starts-word : (w i : ℕ) (es : List Event) →
    starts_in i (event_in w ∷ es) ≡ cond (within_band starting w) (i ∷ later i (event_in w) es) (later i (event_in w) es)
unfolding event_in starts_in taken
starts-word w i es = go (class_in w) refl
  where
    same : i + 0 ≡ i
    same = omega arith

    one_on : i + 1 ≡ suc i
    one_on = omega arith

    go : (c : ℕ) → class_in w ≡ c →
        let e = event_by c (kind_in w) (last_in w) in
        starts_in i (e ∷ es) ≡ cond (within_band starting w) (i ∷ later i e es) (later i e es)
    go zero c = rw (starts-by_kind w c, same) refl
    go (suc zero) c = rw (starts-not w (omega (arith, c)), one_on) refl
    go (suc (suc zero)) c = rw (starts-not w (omega (arith, c)), same) refl
    go (suc (suc (suc n))) c = rw (starts-not w (omega (arith, c)), same) refl

pub starts-counted : (ws : List ℕ) (i : ℕ) → length (starts_in i (map event_in ws)) ≡ tally starting ws
unfolding tally starts_in
starts-counted [] i = refl
starts-counted (w ∷ ws) i = ap length (starts-word w i es) ∙ go (within_band starting w) (starts-counted ws (i + taken (event_in w ∷ [])))
  where
    es : List Event
    es = map event_in ws

    rest : List ℕ
    rest = later i (event_in w) es

    go : (t : Bool) → length rest ≡ tally starting ws → length (cond t (i ∷ rest) rest) ≡ cond t (suc (tally starting ws)) (tally starting ws)
    go true h = ap suc h
    go false h = h

pub start-found : (ws : List ℕ) (n i d : ℕ) → nth_within starting n ws < length ws →
    get_or (starts_in i (map event_in ws)) n d ≡ i + taken (take (nth_within starting n ws) (map event_in ws))
unfolding nth_within taken
start-found [] n i d h = absurd (omega (arith, h))
start-found (w ∷ ws) n i d h =
    ap (λ (l : List ℕ). get_or l n d) (starts-word w i es) ∙ go (within_band starting w) refl n (λ m l. start-found ws m (i + taken (event_in w ∷ [])) d l) h
  where
    es : List Event
    es = map event_in ws

    rest : List ℕ
    rest = later i (event_in w) es

    -- the tokens taken before event m of all events, and before event m of the others
    before : (m : ℕ) → ℕ
    before m = i + taken (take m (event_in w ∷ es))

    behind : (m : ℕ) → ℕ
    behind m = i + taken (event_in w ∷ []) + taken (take m es)

    one_on : (m j : ℕ) → j ≡ suc m → behind m ≡ before j
    one_on m j e = let sum : behind m ≡ before (suc m) = omega (arith, taken-append (event_in w ∷ []) (take m es)) in sum ∙ ap before (sym e)

    go : (t : Bool) → within_band starting w ≡ t → (m : ℕ) →
        ((j : ℕ) → nth_within starting j ws < length ws → get_or rest j d ≡ behind (nth_within starting j ws)) →
        nth_within starting m (w ∷ ws) < suc (length ws) → get_or (cond t (i ∷ rest) rest) m d ≡ before (nth_within starting m (w ∷ ws))
    go true e zero ih l =
        let z : nth_within starting 0 (w ∷ ws) ≡ 0 = rw e refl in
        let sum : i ≡ i + 0 = omega arith in
        sum ∙ ap before (sym z)
    go true e (suc m) ih l =
        let z : nth_within starting (suc m) (w ∷ ws) ≡ suc (nth_within starting m ws) = rw e refl in
        ih m (omega (arith, l, z)) ∙ one_on (nth_within starting m ws) _ z
    go false e zero ih l =
        let z : nth_within starting 0 (w ∷ ws) ≡ suc (nth_within starting 0 ws) = rw e refl in
        ih 0 (omega (arith, l, z)) ∙ one_on (nth_within starting 0 ws) _ z
    go false e (suc m) ih l =
        let z : nth_within starting (suc m) (w ∷ ws) ≡ suc (nth_within starting (suc m) ws) = rw e refl in
        ih (suc m) (omega (arith, l, z)) ∙ one_on (nth_within starting (suc m) ws) _ z
