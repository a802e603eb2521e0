-- Laws of the events of a forest, and of a reading: which faults and how many tokens they hold, that forests side by side give their
-- events one after another, and that a forward parent adds none. Each law goes down the forest; the events of a node are two appends,
-- so `erring`, `taken` and `length` of an append are all that they need. Assumes nothing.
use Prim.Native.Nat.{ℕ, suc, ◌+◌}
use mathlib.Core.Path.{◌≡◌, refl, sym, ap, ◌∙◌}
use mathlib.Core.Bool.{Bool, ◌||◌, or_assoc, or-false}
use mathlib.Core.List.{List, [], ◌∷◌, ◌++◌, append_assoc}
use native.Mathlib.Omega.{arith}
use lib.ListN.{length, length-append}
use Rattle.predictive.specs.Forest.{Forest, nil, leaf, err, node, wrap, ◌then◌, Fault, leaves}
use Rattle.predictive.specs.Reader.{Result, miss, done}
use Rattle.predictive.specs.Events.{Event, start, token, finish, error, events, behind_start, events_of, taken, erring}
use Rattle.predictive.proofs.Faults.{faulty, amiss}

-- FAULTS AND TOKENS ----------------------------------------------------------------------------------------------------

pub erring-append : (q : Fault → Bool) (xs ys : List Event) → erring q (xs ++ ys) ≡ (erring q xs || erring q ys)
unfolding erring
erring-append q [] ys = refl
erring-append q (start k up ∷ xs) ys = erring-append q xs ys
erring-append q (token k ∷ xs) ys = erring-append q xs ys
erring-append q (finish ∷ xs) ys = erring-append q xs ys
erring-append q (error m ∷ xs) ys = ap (λ (b : Bool). q m || b) (erring-append q xs ys) ∙ sym (or_assoc (q m) (erring q xs) (erring q ys))

pub erring-events : (q : Fault → Bool) (f : Forest) (up : ℕ) → erring q (events f up) ≡ faulty q f
unfolding erring events faulty
erring-events q nil up = refl
erring-events q (leaf k f) up = erring-events q f 0
erring-events q (err m f) up = ap (λ (b : Bool). q m || b) (erring-events q f 0)
erring-events q (node k i f) up =
    erring-append q (events i 0) (finish ∷ events f 0)
    ∙ rw (erring-events q i 0, erring-events q f 0)
erring-events q (wrap k a b f) up =
    erring-append q (events a (behind_start a) ++ (start k up ∷ events b 0)) (finish ∷ events f 0)
    ∙ rw (erring-append q (events a (behind_start a)) (start k up ∷ events b 0), erring-events q a (behind_start a), erring-events q b 0, erring-events q f 0)

-- An Error with a fault that passes the test is among the events just if the reading is amiss by that test.
pub erring-reading : (q : Fault → Bool) (r : Result) → erring q (events_of r) ≡ amiss q r
unfolding events_of erring amiss
erring-reading q (miss m ys) = or-false (q m)
erring-reading q (done f ys) = erring-events q f 0

pub taken-append : (xs ys : List Event) → taken (xs ++ ys) ≡ taken xs + taken ys
unfolding taken
taken-append [] ys = omega arith
taken-append (start k up ∷ xs) ys = taken-append xs ys
taken-append (token k ∷ xs) ys = omega (arith, taken-append xs ys)
taken-append (finish ∷ xs) ys = taken-append xs ys
taken-append (error m ∷ xs) ys = taken-append xs ys

pub taken-events : (f : Forest) (up : ℕ) → taken (events f up) ≡ length (leaves f)
unfolding taken events leaves
taken-events nil up = refl
taken-events (leaf k f) up = ap suc (taken-events f 0)
taken-events (err m f) up = taken-events f 0
taken-events (node k i f) up =
    omega (arith, taken-append (events i 0) (finish ∷ events f 0), length-append (leaves i) (leaves f), taken-events i 0, taken-events f 0)
taken-events (wrap k a b f) up =
    omega (
      arith,
      taken-append (events a (behind_start a) ++ (start k up ∷ events b 0)) (finish ∷ events f 0),
      taken-append (events a (behind_start a)) (start k up ∷ events b 0),
      length-append (leaves a ++ leaves b) (leaves f),
      length-append (leaves a) (leaves b),
      taken-events a (behind_start a),
      taken-events b 0,
      taken-events f 0,
    )

-- SIDE BY SIDE ---------------------------------------------------------------------------------------------------------

pub events-then : (f g : Forest) → events (f then g) 0 ≡ events f 0 ++ events g 0
unfolding events
events-then nil g = refl
events-then (leaf k f) g = rw (events-then f g)
events-then (err m f) g = rw (events-then f g)
events-then (node k i f) g = rw (events-then f g) (sym (append_assoc (start k 0 ∷ events i 0) (finish ∷ events f 0) (events g 0)))
events-then (wrap k a b f) g =
    rw (events-then f g)
    (sym (append_assoc (events a (behind_start a) ++ (start k 0 ∷ events b 0)) (finish ∷ events f 0) (events g 0)))

-- A forward parent adds no event.
pub length_events : (f : Forest) (up vp : ℕ) → length (events f up) ≡ length (events f vp)
unfolding events
length_events nil up vp = refl
length_events (leaf k f) up vp = refl
length_events (err m f) up vp = refl
length_events (node k i f) up vp = refl
length_events (wrap k a b f) up vp = simp length-append
