-- Laws of Boolean tests: what a conjunction or a disjunction says of its sides, and the other way round. Each is by cases on the
-- first side. Assumes nothing.
use mathlib.Core.Path.{◌≡◌, refl, sym}
use mathlib.Core.Logic.{◌⊎◌, inl, inr}
use mathlib.Core.Bool.{Bool, true, false, ◌&&◌, ◌||◌, false≢true}

pub never : {A : Type 0} → false ≡ true → A
never e = absurd (false≢true e)

pub and_l : (a b : Bool) → (a && b) ≡ true → a ≡ true
and_l true b e = refl
and_l false b e = e

pub and_r : (a b : Bool) → (a && b) ≡ true → b ≡ true
and_r true b e = e
and_r false b e = never e

pub and_both : (a b : Bool) → a ≡ true → b ≡ true → (a && b) ≡ true
and_both a b d e = rw d e

pub and_false_l : (a b : Bool) → a ≡ false → (a && b) ≡ false
and_false_l a b e = rw e refl

pub and_false_r : (a b : Bool) → b ≡ false → (a && b) ≡ false
and_false_r true b e = e
and_false_r false b e = refl

pub or_l : (a b : Bool) → (a || b) ≡ false → a ≡ false
or_l true b e = e
or_l false b e = refl

pub or_r : (a b : Bool) → (a || b) ≡ false → b ≡ false
or_r true b e = never (sym e)
or_r false b e = e

pub or_neither : (a b : Bool) → a ≡ false → b ≡ false → (a || b) ≡ false
or_neither a b d e = rw d e

pub or_true_l : (a b : Bool) → a ≡ true → (a || b) ≡ true
or_true_l a b e = rw e refl

pub or_true_r : (a b : Bool) → b ≡ true → (a || b) ≡ true
or_true_r true b e = refl
or_true_r false b e = e

pub or_cases : (a b : Bool) → (a || b) ≡ true → (a ≡ true) ⊎ (b ≡ true)
or_cases true b e = inl refl
or_cases false b e = inr e

-- `&&` that stays shut, so that what it joins can be read off it
infixr 60 ◌and◌
unfoldable pub ◌and◌ : Bool → Bool → Bool
◌and◌ a b = a && b

pub left : (a b : Bool) → (a and b) ≡ true → a ≡ true
unfolding ◌and◌
left a b e = and_l a b e

pub right : (a b : Bool) → (a and b) ≡ true → b ≡ true
unfolding ◌and◌
right a b e = and_r a b e
