-- Laws of heads: which cannot stand together, which stand wherever others do, and which of the listed forms' heads stand where
-- a form does. All by induction over the lists of heads. Assumes nothing.
use Prim.Native.Nat.{ℕ, ◌<◌}
use native.Mathlib.Omega.{arith}
use mathlib.Core.Path.{◌≡◌, refl, sym, ap, ap₂, subst, ◌∙◌}
use mathlib.Core.Logic.{⊎_elim}
use mathlib.Core.Bool.{Bool, true, false, cond, not, ◌&&◌, ◌||◌}
use mathlib.Core.List.{List, [], ◌∷◌, ◌++◌}
use mathlib.Core.Option.{Option, none, some, some-injective, none-ne-some}
use lib.Dec.{eqb, ltb}
use lib.ListN.{length, drop}
use borrow.Author.Tests.{eqb-true, not-true}
use Rattle.predictive.specs.Grammar.{Head, one, two, all, is, starts, at, has, Form, kinds_of, stand, longer, best}
use Rattle.predictive.specs.Reader.{ones, twos, head_of, heads_of}
use Rattle.predictive.proofs.Tests.{never, and_l, and_r, and_false_l, and_false_r, or_l, or_r, or_neither, or_true_l, or_true_r, or_cases}

-- HEADS THAT EXCLUDE EACH OTHER ----------------------------------------------------------------------------------------

-- two heads that cannot both stand
unfoldable pub apart : Head → Head → Bool
apart (one k) (one l) = not (eqb k l)
apart (one k) (two l m) = not (eqb k l)
apart (two k l) (one m) = not (eqb k m)
apart (two k l) (two m o) = not (eqb k m) || not (eqb l o)
apart (one k) all = false
apart (two k l) all = false
apart all g = false

unfoldable pub clear : Head → List Head → Bool
unfolding apart
clear h [] = true
clear h (g ∷ gs) = apart h g && clear h gs

unfoldable pub disjoint : List Head → List Head → Bool
unfolding clear
disjoint [] gs = true
disjoint (h ∷ hs) gs = clear h gs && disjoint hs gs

eqb_excludes : (x k l : ℕ) → not (eqb k l) ≡ true → eqb x k ≡ true → eqb x l ≡ false
eqb_excludes x k l n e = ap (λ (m : ℕ). eqb m l) (eqb-true x k e) ∙ not-true (eqb k l) n

is-excludes : (k l : ℕ) (xs : List ℕ) → not (eqb k l) ≡ true → is k xs ≡ true → is l xs ≡ false
is-excludes k l [] n e = refl
is-excludes k l (x ∷ xs) n e = eqb_excludes x k l n e

apart-excludes : (h g : Head) (xs : List ℕ) → apart h g ≡ true → starts h xs ≡ true → starts g xs ≡ false
unfolding apart
apart-excludes all g xs n e = never n
apart-excludes (one k) all xs n e = never n
apart-excludes (two k l) all xs n e = never n
apart-excludes (one k) (one l) xs n e = is-excludes k l xs n e
apart-excludes (one k) (two l m) [] n e = refl
apart-excludes (one k) (two l m) (x ∷ xs) n e = and_false_l _ _ (eqb_excludes x k l n e)
apart-excludes (two k l) (one m) [] n e = refl
apart-excludes (two k l) (one m) (x ∷ xs) n e = eqb_excludes x k m n (and_l _ _ e)
apart-excludes (two k l) (two m o) [] n e = refl
apart-excludes (two k l) (two m o) (x ∷ xs) n e =
    ⊎_elim
    (λ a. and_false_l _ _ (eqb_excludes x k m a (and_l _ _ e)))
    (λ a. and_false_r (eqb x m) _ (is-excludes l o xs a (and_r (eqb x k) _ e)))
    (or_cases (not (eqb k m)) (not (eqb l o)) n)

clear-excludes : (h : Head) (gs : List Head) (xs : List ℕ) → clear h gs ≡ true → starts h xs ≡ true → at gs xs ≡ false
unfolding clear
clear-excludes h [] xs n e = refl
clear-excludes h (g ∷ gs) xs n e = rw (apart-excludes h g xs (and_l _ _ n) e) (clear-excludes h gs xs (and_r (apart h g) _ n) e)

pub disjoint-excludes : (hs gs : List Head) (xs : List ℕ) → disjoint hs gs ≡ true → at hs xs ≡ true → at gs xs ≡ false
unfolding disjoint
disjoint-excludes [] gs xs n e = never e
disjoint-excludes (h ∷ hs) gs xs n e =
    ⊎_elim
    (λ a. clear-excludes h gs xs (and_l _ _ n) a)
    (λ a. disjoint-excludes hs gs xs (and_r (clear h gs) _ n) a)
    (or_cases (starts h xs) (at hs xs) e)

-- LISTS OF HEADS -------------------------------------------------------------------------------------------------------

pub at-append : (hs gs : List Head) (xs : List ℕ) → at (hs ++ gs) xs ≡ (at hs xs || at gs xs)
at-append [] gs xs = refl
at-append (h ∷ hs) gs xs = regroup (starts h xs) (at-append hs gs xs)
  where
    regroup : (b : Bool) → at (hs ++ gs) xs ≡ (at hs xs || at gs xs) → (b || at (hs ++ gs) xs) ≡ ((b || at hs xs) || at gs xs)
    regroup true e = refl
    regroup false e = e

pub at-l : (hs gs : List Head) (xs : List ℕ) → at (hs ++ gs) xs ≡ false → at hs xs ≡ false
at-l hs gs xs e = or_l _ (at gs xs) (sym (at-append hs gs xs) ∙ e)

pub at-r : (hs gs : List Head) (xs : List ℕ) → at (hs ++ gs) xs ≡ false → at gs xs ≡ false
at-r hs gs xs e = or_r (at hs xs) _ (sym (at-append hs gs xs) ∙ e)

pub at-neither : (hs gs : List Head) (xs : List ℕ) → at hs xs ≡ false → at gs xs ≡ false → at (hs ++ gs) xs ≡ false
at-neither hs gs xs a b = at-append hs gs xs ∙ or_neither (at hs xs) (at gs xs) a b

pub in_l : (hs gs : List Head) (xs : List ℕ) → at hs xs ≡ true → at (hs ++ gs) xs ≡ true
in_l hs gs xs e = at-append hs gs xs ∙ or_true_l (at hs xs) (at gs xs) e

pub in_r : (hs gs : List Head) (xs : List ℕ) → at gs xs ≡ true → at (hs ++ gs) xs ≡ true
in_r hs gs xs e = at-append hs gs xs ∙ or_true_r (at hs xs) (at gs xs) e

-- nothing stands at the end
pub at_end : (hs : List Head) → at hs [] ≡ false
at_end [] = refl
at_end (one k ∷ hs) = at_end hs
at_end (two k l ∷ hs) = at_end hs
at_end (all ∷ hs) = at_end hs

pub at_ones : (ks : List ℕ) (x : ℕ) (xs : List ℕ) → at (ones ks) (x ∷ xs) ≡ has ks x
unfolding ones
at_ones [] x xs = refl
at_ones (k ∷ ks) x xs = ap (λ (b : Bool). eqb x k || b) (at_ones ks x xs)

pub at-twos : (ks : List ℕ) (l x : ℕ) (xs : List ℕ) → (has ks x && is l xs) ≡ true → at (twos ks l) (x ∷ xs) ≡ true
unfolding twos
at-twos [] l x xs e = e
at-twos (k ∷ ks) l x xs e = by_kind (eqb x k) (is l xs) (has ks x) e (λ q. at-twos ks l x xs q)
  where
    by_kind : (b i h : Bool) → ((b || h) && i) ≡ true → ((h && i) ≡ true → at (twos ks l) (x ∷ xs) ≡ true) →
        ((b && i) || at (twos ks l) (x ∷ xs)) ≡ true
    by_kind true true h e ih = refl
    by_kind true false h e ih = never e
    by_kind false i h e ih = ih e

-- HEADS THAT ARE AMONG OTHERS ------------------------------------------------------------------------------------------

unfoldable pub same : Head → Head → Bool
same (one k) (one l) = eqb k l
same (one k) (two l m) = false
same (two k l) (one m) = false
same (two k l) (two m o) = eqb k m && eqb l o
same (one k) all = false
same (two k l) all = false
same all (one k) = false
same all (two k l) = false
same all all = true

pub same-equal : (h g : Head) → same h g ≡ true → h ≡ g
unfolding same
same-equal (one k) (one l) e = ap one (eqb-true k l e)
same-equal (one k) (two l m) e = never e
same-equal (one k) all e = never e
same-equal (two k l) all e = never e
same-equal all (one k) e = never e
same-equal all (two k l) e = never e
same-equal all all e = refl
same-equal (two k l) (one m) e = never e
same-equal (two k l) (two m o) e = ap₂ two (eqb-true k m (and_l _ _ e)) (eqb-true l o (and_r (eqb k m) _ e))

unfoldable pub among : List Head → Head → Bool
unfolding same
among [] h = false
among (g ∷ gs) h = same h g || among gs h

-- a head that is among gs does not stand where none of gs does
pub among-absent : (gs : List Head) (h : Head) (xs : List ℕ) → among gs h ≡ true → at gs xs ≡ false → starts h xs ≡ false
unfolding among
among-absent [] h xs e n = never e
among-absent (g ∷ gs) h xs e n =
    ⊎_elim
    (λ a. subst (λ (x : Head). starts x xs ≡ false) (sym (same-equal h g a)) (or_l _ _ n))
    (λ a. among-absent gs h xs a (or_r (starts g xs) _ n))
    (or_cases (same h g) (among gs h) e)

unfoldable pub within-heads : List Head → List Head → Bool
unfolding among
within-heads [] gs = true
within-heads (h ∷ hs) gs = among gs h && within-heads hs gs

pub within-absent : (hs gs : List Head) (xs : List ℕ) → within-heads hs gs ≡ true → at gs xs ≡ false → at hs xs ≡ false
unfolding within-heads
within-absent [] gs xs e n = refl
within-absent (h ∷ hs) gs xs e n = rw (among-absent gs h xs (and_l _ _ e) n) (within-absent hs gs xs (and_r (among gs h) _ e) n)

pub within-stands : (hs gs : List Head) (xs : List ℕ) → within-heads hs gs ≡ true → at hs xs ≡ true → at gs xs ≡ true
within-stands hs gs xs e a = by-test (at gs xs) refl
  where
    by-test : (b : Bool) → at gs xs ≡ b → b ≡ true
    by-test true q = refl
    by-test false q = never (sym (within-absent hs gs xs e q) ∙ a)

abbrev keep : Bool → Head → List Head → List Head
keep true h hs = hs
keep false h hs = h ∷ hs

-- hs without those that are among gs
unfoldable pub minus : List Head → List Head → List Head
unfolding among
minus [] gs = []
minus (h ∷ hs) gs = keep (among gs h) h (minus hs gs)

pub minus-absent : (hs gs : List Head) (xs : List ℕ) → at (minus hs gs) xs ≡ false → at gs xs ≡ false → at hs xs ≡ false
unfolding minus
minus-absent [] gs xs e n = refl
minus-absent (h ∷ hs) gs xs e n = by-test (among gs h) refl e (λ q. minus-absent hs gs xs q n)
  where
    by-test : (b : Bool) → among gs h ≡ b → at (keep b h (minus hs gs)) xs ≡ false → (at (minus hs gs) xs ≡ false → at hs xs ≡ false) →
        (starts h xs || at hs xs) ≡ false
    by-test true q a ih = rw (among-absent gs h xs q n) (ih a)
    by-test false q a ih = rw (or_l (starts h xs) (at (minus hs gs) xs) a) (ih (or_r (starts h xs) _ a))

-- FORMS ----------------------------------------------------------------------------------------------------------------

-- What stands is the beginning of the symbols.
pub stand-splits : (ks xs : List ℕ) → stand ks xs ≡ true → xs ≡ ks ++ drop (length ks) xs
stand-splits [] xs e = refl
stand-splits (k ∷ ks) [] e = never e
stand-splits (k ∷ ks) (x ∷ xs) e = ap₂ ◌∷◌ (eqb-true x k (and_l _ _ e)) (stand-splits ks xs (and_r (eqb x k) _ e))

pub drop_append : (ks ys : List ℕ) → drop (length ks) (ks ++ ys) ≡ ys
drop_append [] ys = refl
drop_append (k ∷ ks) ys = drop_append ks ys

head-stands : (ks xs : List ℕ) → stand ks xs ≡ true → 0 < length ks → at (head_of ks) xs ≡ true
head-stands [] xs e l = absurd (omega arith)
head-stands (k ∷ ks) [] e l = never e
head-stands (k ∷ ks) (x ∷ xs) e l = or_true_l (eqb x k) false (and_l _ _ e)

-- What is known of the longest form that stands: it stands, and so does its head, which is one of the list's.
pub record Chosen (cs : List Form) (xs : List ℕ) (c : Form) : Type 0 where
  pub stands : stand (kinds_of c) xs ≡ true
  pub heads : 0 < length (kinds_of c) → at (heads_of cs) xs ≡ true

pub best-chosen : (cs : List Form) (xs : List ℕ) (c : Form) → best cs xs ≡ some c → Chosen cs xs c
unfolding best heads_of
best-chosen [] xs c e = absurd (none-ne-some c e)
best-chosen (b ∷ cs) xs c e = by-test (stand (kinds_of b) xs) refl (best cs xs) (λ q. best-chosen cs xs c q) e
  where
    of_rest : Chosen cs xs c → Chosen (b ∷ cs) xs c
    of_rest h = record { stands = h.stands; heads = λ l. in_r (head_of (kinds_of b)) (heads_of cs) xs (h.heads l) }

    of_first : stand (kinds_of b) xs ≡ true → b ≡ c → Chosen (b ∷ cs) xs c
    of_first s q =
        subst (Chosen (b ∷ cs) xs) q
        (record { stands = s; heads = λ l. in_l (head_of (kinds_of b)) (heads_of cs) xs (head-stands (kinds_of b) xs s l) })

    by_length : (t : Bool) (d : Form) → stand (kinds_of b) xs ≡ true → (some d ≡ some c → Chosen cs xs c) →
        cond t (some d) (some b) ≡ some c → Chosen (b ∷ cs) xs c
    by_length true d s ih q = of_rest (ih q)
    by_length false d s ih q = of_first s (some-injective b c q)

    by-rest : (o : Option Form) → stand (kinds_of b) xs ≡ true → (o ≡ some c → Chosen cs xs c) → longer b o ≡ some c → Chosen (b ∷ cs) xs c
    by-rest none s ih q = of_first s (some-injective b c q)
    by-rest (some d) s ih q = by_length (ltb (length (kinds_of b)) (length (kinds_of d))) d s ih q

    by-test : (t : Bool) → stand (kinds_of b) xs ≡ t → (o : Option Form) → (o ≡ some c → Chosen cs xs c) → cond t (longer b o) o ≡ some c →
        Chosen (b ∷ cs) xs c
    by-test true s o ih q = by-rest o s ih q
    by-test false s o ih q = of_rest (ih q)

pub best-splits : (cs : List Form) (xs : List ℕ) (c : Form) → best cs xs ≡ some c → xs ≡ kinds_of c ++ drop (length (kinds_of c)) xs
best-splits cs xs c e = stand-splits (kinds_of c) xs (best-chosen cs xs c e).stands
