-- The events of a reading that is put together of readings; and that a part which begins with a token, begun where one of its heads
-- stands, takes a token: a loop over such a part ends. Assumes nothing.
use Prim.Native.Nat.{ℕ, ◌≤◌}
use native.Mathlib.Omega.{arith}
use mathlib.Core.Path.{◌≡◌, refl, sym, subst, ◌∙◌}
use mathlib.Core.Bool.{Bool, true, false, ◌&&◌}
use mathlib.Core.Logic.{⊎_elim}
use mathlib.Core.List.{List, [], ◌∷◌, ◌++◌, append-nil}
use lib.Dec.{eqb}
use Rattle.predictive.specs.Forest.{Forest, nil, err, node, wrap}
use Rattle.predictive.specs.Grammar.{is, at, has, Part, tok, pair, look, any, longest, wrong, fail, seq, either, opt, many, until, inside, suffix, leaning, before, opens, rule, Grammar}
use Rattle.predictive.specs.Reader.{Result, miss, done, pick, after, beside, take_one, take_two, take_look, ones, twos, null, first, step}
use Rattle.predictive.specs.Events.{Event, start, finish, events, behind_start, events_of, left_over, taken}
use Rattle.predictive.proofs.Tests.{never, and_l, and_r, and_both, or_cases, or_true_l, or_true_r, ◌and◌, left, right}
use Rattle.predictive.proofs.Heads.{at-append, at_end, at_ones}
use Rattle.predictive.proofs.EventLaws.{events-then, taken-append}

-- READINGS PUT TOGETHER ------------------------------------------------------------------------------------------------

-- Reading on by k, and both beside each other.
abbrev pub both : Result → (List ℕ → Result) → Result
both o k = after o (λ f ys. beside f (k ys))

beside-events : (f : Forest) (o : Result) → events_of (beside f o) ≡ events f 0 ++ events_of o
unfolding events_of
beside-events f (miss m ys) = events-then f (err m nil)
beside-events f (done g ys) = events-then f g

pub both-events : (o : Result) (k : List ℕ → Result) → events_of (both o k) ≡ events_of o ++ events_of (k (left_over o))
unfolding events_of left_over
both-events (miss m ys) k = beside-events (err m nil) (k ys)
both-events (done f ys) k = beside-events f (k ys)

beside-left : (f : Forest) (o : Result) → left_over (beside f o) ≡ left_over o
unfolding left_over
beside-left f (miss m ys) = refl
beside-left f (done g ys) = refl

pub both_left : (o : Result) (k : List ℕ → Result) → left_over (both o k) ≡ left_over (k (left_over o))
unfolding left_over
both_left (miss m ys) k = beside-left (err m nil) (k ys)
both_left (done f ys) k = beside-left f (k ys)

-- What was read, below a node.
abbrev pub boxed : ℕ → Result → Result
boxed k o = after o (λ f ys. done (node k f nil) ys)

pub boxed-events : (k : ℕ) (o : Result) → events_of (boxed k o) ≡ start k 0 ∷ (events_of o ++ finish ∷ [])
unfolding events_of events
boxed-events k (miss m ys) = refl
boxed-events k (done f ys) = refl

pub boxed-left : (k : ℕ) (o : Result) → left_over (boxed k o) ≡ left_over o
unfolding left_over
boxed-left k (miss m ys) = refl
boxed-left k (done f ys) = refl

-- What was read, below a node that was begun after f.
abbrev pub wrapped : ℕ → Forest → Result → Result
wrapped k f o = after o (λ g ys. done (wrap k f g nil) ys)

pub wrapped-events : (k : ℕ) (f : Forest) (o : Result) → events_of (wrapped k f o) ≡ (events f (behind_start f) ++ start k 0 ∷ events_of o) ++ finish ∷ []
unfolding events_of events
wrapped-events k f (miss m ys) = refl
wrapped-events k f (done g ys) = refl

pub wrapped-left : (k : ℕ) (f : Forest) (o : Result) → left_over (wrapped k f o) ≡ left_over o
unfolding left_over
wrapped-left k f (miss m ys) = refl
wrapped-left k f (done g ys) = refl

-- A TOKEN IS TAKEN -----------------------------------------------------------------------------------------------------

-- The part begins with a token.
unfoldable pub takes : {R : Type 0} → Part R → Bool
takes (tok m ks) = true
takes (pair k l) = false
takes (look m ks l) = true
takes any = false
takes (longest cs) = false
takes (wrong x k m) = false
takes (fail m) = false
takes (seq p q) = takes p
takes (either c p q) = takes p and takes q
takes (opt c p) = false
takes (many p) = false
takes (until k p) = false
takes (inside k p) = takes p
takes (suffix c k p q) = false
takes (leaning k p q) = false
takes (before hs p) = false
takes (opens p) = false
takes (rule r) = false

takes-not_null : {R : Type 0} (p : Part R) → takes p ≡ true → null p ≡ false
unfolding takes null
takes-not_null (tok m ks) t = refl
takes-not_null (pair k l) t = never t
takes-not_null (look m ks l) t = refl
takes-not_null any t = never t
takes-not_null (longest cs) t = never t
takes-not_null (wrong x k m) t = never t
takes-not_null (fail m) t = never t
takes-not_null (seq p q) t = rw (takes-not_null p t) refl
takes-not_null (either c p q) t = rw (takes-not_null p (left _ _ t), takes-not_null q (right _ _ t)) refl
takes-not_null (opt c p) t = never t
takes-not_null (many p) t = never t
takes-not_null (until k p) t = never t
takes-not_null (inside k p) t = takes-not_null p t
takes-not_null (suffix c k p q) t = never t
takes-not_null (leaning k p q) t = never t
takes-not_null (before hs p) t = never t
takes-not_null (opens p) t = never t
takes-not_null (rule r) t = never t

abbrev Some : Result → Type 0
Some o = 1 ≤ taken (events_of o)

some-both : (o : Result) (k : List ℕ → Result) → Some o → Some (both o k)
some-both o k h = subst (λ (es : List Event). 1 ≤ taken es) (sym (both-events o k)) (omega (arith, h, taken-append (events_of o) (events_of (k (left_over o)))))

some-boxed : (k : ℕ) (o : Result) → Some o → Some (boxed k o)
unfolding taken
some-boxed k o h = subst (λ (es : List Event). 1 ≤ taken es) (sym (boxed-events k o)) (omega (arith, h, taken-append (events_of o) (finish ∷ [])))

pub at-twos_both : (ks : List ℕ) (l x : ℕ) (xs : List ℕ) → at (twos ks l) (x ∷ xs) ≡ true → (has ks x && is l xs) ≡ true
unfolding twos
at-twos_both [] l x xs e = e
at-twos_both (k ∷ ks) l x xs e =
    ⊎_elim
    (λ (q : (eqb x k && is l xs) ≡ true). and_both (has (k ∷ ks) x) (is l xs) (or_true_l (eqb x k) (has ks x) (and_l (eqb x k) (is l xs) q)) (and_r (eqb x k) (is l xs) q))
    (λ q. let i = at-twos_both ks l x xs q in and_both (has (k ∷ ks) x) (is l xs) (or_true_r (eqb x k) (has ks x) (and_l (has ks x) (is l xs) i)) (and_r (has ks x) (is l xs) i))
    (or_cases (eqb x k && is l xs) (at (twos ks l) (x ∷ xs)) e)

module _ (G : Grammar) (bound d : ℕ) (inner : G.Rule → List ℕ → Result) where
  first_alone : (p q : Part G.Rule) (xs : List ℕ) → takes p ≡ true → at (first G (seq p q)) xs ≡ true → at (first G p) xs ≡ true
  unfolding first
  first_alone p q xs t a = rw (takes-not_null p t, append-nil (first G p)) at a

  some-pick : (b : Bool) (r s : Result) → (b ≡ true → Some r) → (b ≡ false → Some s) → Some (pick b r s)
  some-pick true r s f g = f refl
  some-pick false r s f g = g refl

  -- Begun where one of its heads stands, it takes a token.
  pub takes_one : (p : Part G.Rule) (xs : List ℕ) → takes p ≡ true → at (first G p) xs ≡ true → Some (step G bound d inner p xs)
  unfolding takes first step take_one take_two take_look events_of events taken
  takes_one (tok m ks) [] t a = never (sym (at_end (ones ks)) ∙ a)
  takes_one (tok m ks) (x ∷ xs) t a = rw (sym (at_ones ks x xs) ∙ a) (omega arith)
  takes_one (pair k l) xs t a = never t
  takes_one (look m ks l) [] t a = never (sym (at_end (twos ks l)) ∙ a)
  takes_one (look m ks l) (x ∷ xs) t a = rw (at-twos_both ks l x xs a) (omega arith)
  takes_one any xs t a = never t
  takes_one (longest cs) xs t a = never t
  takes_one (wrong x k m) xs t a = never t
  takes_one (fail m) xs t a = never t
  takes_one (seq p q) xs t a = some-both (step G bound d inner p xs) (step G bound d inner q) (takes_one p xs t (first_alone p q xs t a))
  takes_one (either c p q) xs t a =
      some-pick (at (first G p) xs) (step G bound d inner p xs) (step G bound d inner q xs)
      (λ e. takes_one p xs (left _ _ t) e)
      (λ e. takes_one q xs (right _ _ t) (rw e at (sym (at-append (first G p) (first G q) xs) ∙ a)))
  takes_one (opt c p) xs t a = never t
  takes_one (many p) xs t a = never t
  takes_one (until k p) xs t a = never t
  takes_one (inside k p) xs t a = some-boxed k (step G bound d inner p xs) (takes_one p xs t a)
  takes_one (suffix c k p q) xs t a = never t
  takes_one (leaning k p q) xs t a = never t
  takes_one (before hs p) xs t a = never t
  takes_one (opens p) xs t a = never t
  takes_one (rule r) xs t a = never t
