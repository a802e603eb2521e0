-- What holds of every reading, with faults or without. A property of a forest and of the symbols before and after it that is
-- closed under the ways in which forests are made holds of all that a good part reads: one induction over the parts. A node is
-- begun after its first child only over a part that reads to one node. Two instances: the leaves of what is read are the symbols
-- taken, in order; and what is read is proper. Assumes nothing.
use Prim.Native.Nat.{ℕ, zero, suc}
use mathlib.Core.Path.{◌≡◌, refl, sym, ap, subst, ◌∙◌}
use mathlib.Core.Bool.{Bool, true, false, ◌&&◌}
use mathlib.Core.List.{List, [], ◌∷◌, ◌++◌, map, append_assoc, append-nil}
use mathlib.Core.Option.{Option, none, some}
use lib.ListN.{length, drop}
use Rattle.predictive.specs.Forest.{Forest, nil, leaf, err, node, wrap, ◌then◌, Fault, message, leaves}
use Rattle.predictive.specs.Grammar.{Head, is, at, has, Form, row, row_in, broken, kinds_of, best, row_of, shape, Part, tok, pair, look, any, longest, wrong, fail, seq, either, opt, many, until, inside, suffix, leaning, before, opens, rule, Grammar}
use Rattle.predictive.specs.Reader.{Result, miss, done, pick, after, firstly, beside, expected, unmet, take_one, take_two, take_look, take_any, take_form, take_wrong, unfinished, repeat, lean, within, first, step, below, read}
use Rattle.predictive.proofs.Tests.{never, left, right}
use Rattle.predictive.proofs.Heads.{best-splits}
use Rattle.predictive.proofs.Lookahead.{single, good, Tables, Fine, good-before, good-either, good-leaning, good-many, good-opt, good-seq, good-suffix, good-until, Good, good-inside, good-opens, good-rule}
use Rattle.predictive.proofs.Forests.{leaves-then}
use Rattle.predictive.proofs.Proper.{Whole, whole-node, whole-wrap, Proper, proper-then}

-- ONE NODE -------------------------------------------------------------------------------------------------------------

-- What is read, if anything is, is one node.
abbrev pub Lone : Result → Type 0
Lone (miss m ys) = Unit {0}
Lone (done f ys) = Whole f

lone-firstly : (k : Forest → List ℕ → Result) → ((f : Forest) (ys : List ℕ) → Whole f → Lone (k f ys)) → (r : Result) → Lone r →
    Lone (firstly r k)
lone-firstly k h (miss m ys) l = tt
lone-firstly k h (done f ys) l = h f ys l

lone-after : (k : Forest → List ℕ → Result) → ((f : Forest) (ys : List ℕ) → Lone (k f ys)) → (r : Result) → Lone (after r k)
lone-after k h (miss m ys) = h (err m nil) ys
lone-after k h (done f ys) = h f ys

lone-pick : (b : Bool) (r s : Result) → Lone r → Lone s → Lone (pick b r s)
lone-pick true r s h i = h
lone-pick false r s h i = i

lone-within : (n d : ℕ) (xs : List ℕ) (r : Result) → Lone r → Lone (within n d xs r)
lone-within n zero xs r h = tt
lone-within n (suc d) xs r h = h

lone-wrong : (shown : ℕ → ℕ) (k m : ℕ) (xs : List ℕ) → Lone (take_wrong shown k m xs)
unfolding take_wrong
lone-wrong shown k m [] = tt
lone-wrong shown k m (x ∷ xs) = whole-node

lone-lean : (body : List ℕ → Result) (hs : List Head) (k n : ℕ) (f : Forest) (ys : List ℕ) → Whole f → Lone (lean body hs k n f ys)
unfolding lean
lone-lean body hs k zero f ys h = whole-wrap
lone-lean body hs k (suc n) f ys h =
    lone-pick (at hs ys) _ _ (lone-after _ (λ g zs. lone-lean body hs k n (wrap k f g nil) zs whole-wrap) (body ys)) h

module _ (G : Grammar) (bound d : ℕ) (inner : G.Rule → List ℕ → Result) where
  single-lone : (p : Part G.Rule) (xs : List ℕ) → single p ≡ true → Lone (step G bound d inner p xs)
  unfolding single step
  single-lone (tok m ks) xs s = never s
  single-lone (pair k l) xs s = never s
  single-lone (look m ks l) xs s = never s
  single-lone any xs s = never s
  single-lone (longest cs) xs s = never s
  single-lone (wrong x k m) xs s = lone-wrong G.shown k m xs
  single-lone (fail m) xs s = tt
  single-lone (seq p q) xs s = never s
  single-lone (either c p q) xs s = lone-pick (at (first G p) xs) _ _ (single-lone p xs (left _ _ s)) (single-lone q xs (right _ _ s))
  single-lone (opt c p) xs s = never s
  single-lone (many p) xs s = never s
  single-lone (until k p) xs s = never s
  single-lone (inside k p) xs s = lone-after _ (λ f ys. whole-node) (step G bound d inner p xs)
  single-lone (suffix c k p q) xs s =
      lone-firstly _
      (λ f ys l. lone-pick (at (first G q) ys) _ _ (lone-after _ (λ g zs. whole-wrap) (step G bound d inner q ys)) l)
      (step G bound d inner p xs) (single-lone p xs s)
  single-lone (leaning k p q) xs s = lone-firstly _ (λ f ys l. lone-lean _ (first G q) k bound f ys l) (step G bound d inner p xs) (single-lone p xs s)
  single-lone (before hs p) xs s = single-lone p xs s
  single-lone (opens p) xs s = lone-within G.deep d xs _ (single-lone p xs s)
  single-lone (rule r) xs s = never s

-- What a part of one node reads is one node.
pub reading-whole : (G : Grammar) (bound d : ℕ) (p : Part G.Rule) (xs : List ℕ) (f : Forest) (ys : List ℕ) → single p ≡ true →
    read G bound d p xs ≡ done f ys → Whole f
unfolding read
reading-whole G bound d p xs f ys s e = subst Lone e (single-lone G bound d (below G bound d) p xs s)

-- WHAT IS CLOSED -------------------------------------------------------------------------------------------------------

-- Q f xs ys: f was read from xs down to ys. It is closed under the ways in which forests are made.
pub record Closed (G : Grammar) (Q : Forest → List ℕ → List ℕ → Type 0) : Type 0 where
  pub on-nil : (xs : List ℕ) → Q nil xs xs
  pub on-err : (m : Fault) (xs : List ℕ) → Q (err m nil) xs xs
  pub on-leaf : (x : ℕ) (xs : List ℕ) → Q (leaf (G.shown x) nil) (x ∷ xs) xs
  pub on_then : (f g : Forest) (xs ys zs : List ℕ) → Q f xs ys → Q g ys zs → Q (f then g) xs zs
  pub on-node : (k : ℕ) (f : Forest) (xs ys : List ℕ) → Q f xs ys → Q (node k f nil) xs ys
  pub on-wrap : (k : ℕ) (f g : Forest) (xs ys zs : List ℕ) → Whole f → Q f xs ys → Q g ys zs → Q (wrap k f g nil) xs zs

module _ (G : Grammar) (Q : Forest → List ℕ → List ℕ → Type 0) (closed : Closed G Q) where
  -- what was read from xs has the property; where nothing was, nothing is taken
  abbrev Has : List ℕ → Result → Type 0
  Has xs (miss m ys) = ys ≡ xs
  Has xs (done f ys) = Q f xs ys

  missed : (m : Fault) (xs ys : List ℕ) → ys ≡ xs → Q (err m nil) xs ys
  missed m xs ys e = subst (Q (err m nil) xs) (sym e) (closed.on-err m xs)

  -- reading on from ys, for what was begun at xs
  has-after : (xs ys : List ℕ) (k : Forest → List ℕ → Result) → ((g : Forest) (zs : List ℕ) → Q g ys zs → Has xs (k g zs)) → (r : Result) →
      Has ys r → Has xs (after r k)
  has-after xs ys k t (miss m zs) h = t (err m nil) zs (missed m ys zs h)
  has-after xs ys k t (done g zs) h = t g zs h

  -- the same over a part that reads to one node
  has-firstly : (xs : List ℕ) (k : Forest → List ℕ → Result) → ((f : Forest) (ys : List ℕ) → Whole f → Q f xs ys → Has xs (k f ys)) →
      (r : Result) → Lone r → Has xs r → Has xs (firstly r k)
  has-firstly xs k t (miss m ys) l h = h
  has-firstly xs k t (done f ys) l h = t f ys l h

  has-beside : (xs ys : List ℕ) (f : Forest) → Q f xs ys → (r : Result) → Has ys r → Has xs (beside f r)
  has-beside xs ys f q r h = has-after xs ys _ (λ g zs i. closed.on_then f g xs ys zs q i) r h

  has-pick : (xs : List ℕ) (b : Bool) (r s : Result) → (b ≡ true → Has xs r) → (b ≡ false → Has xs s) → Has xs (pick b r s)
  has-pick xs true r s t u = t refl
  has-pick xs false r s t u = u refl

  has_within : (n d : ℕ) (xs : List ℕ) (r : Result) → Has xs r → Has xs (within n d xs r)
  has_within n zero xs r h = refl
  has_within n (suc d) xs r h = h

  has_one : (m : ℕ) (ks xs : List ℕ) → Has xs (take_one G.shown m ks xs)
  unfolding take_one
  has_one m ks [] = closed.on-err (message m) []
  has_one m ks (x ∷ xs) = has-pick (x ∷ xs) (has ks x) _ _ (λ e. closed.on-leaf x xs) (λ e. closed.on-err (message m) (x ∷ xs))

  has-two : (k l : ℕ) (xs : List ℕ) → Has xs (take_two G.shown k l xs)
  unfolding take_two
  has-two k l xs =
      has-after xs xs _ (λ f ys q. has-beside xs ys f q (take_one G.shown unmet (l ∷ []) ys) (has_one unmet (l ∷ []) ys))
      (take_one G.shown unmet (k ∷ []) xs) (has_one unmet (k ∷ []) xs)

  has-look : (m : ℕ) (ks : List ℕ) (l : ℕ) (xs : List ℕ) → Has xs (take_look G.shown m ks l xs)
  unfolding take_look
  has-look m ks l [] = closed.on-err (message m) []
  has-look m ks l (x ∷ xs) = has-pick (x ∷ xs) (has ks x && is l xs) _ _ (λ e. closed.on-leaf x xs) (λ e. closed.on-err (message m) (x ∷ xs))

  has-any : (xs : List ℕ) → Has xs (take_any G.shown xs)
  unfolding take_any
  has-any [] = closed.on-nil []
  has-any (x ∷ xs) = closed.on-leaf x xs

  has-row : (ks : List ℕ) (f : Forest) (ys : List ℕ) → Q f ys ys → Q (row_of G.shown ks f) (ks ++ ys) ys
  has-row [] f ys q = q
  has-row (k ∷ ks) f ys q =
      closed.on_then (leaf (G.shown k) nil) (row_of G.shown ks f) (k ∷ ks ++ ys) (ks ++ ys) ys (closed.on-leaf k (ks ++ ys)) (has-row ks f ys q)

  has-shape : (c : Form) (ys : List ℕ) → Q (shape G.shown c) (kinds_of c ++ ys) ys
  has-shape (row ks) ys = has-row ks nil ys (closed.on-nil ys)
  has-shape (row_in k ks) ys = closed.on-node k _ (ks ++ ys) ys (has-row ks nil ys (closed.on-nil ys))
  has-shape (broken k ks m) ys = closed.on-node k _ (ks ++ ys) ys (has-row ks (err (message m) nil) ys (closed.on-err (message m) ys))

  has-form : (cs : List Form) (xs : List ℕ) (o : Option Form) → best cs xs ≡ o → Has xs (take_form G.shown o xs)
  unfolding take_form
  has-form cs xs none e = closed.on-nil xs
  has-form cs xs (some c) e =
      let ys = drop (length (kinds_of c)) xs in
      subst (λ (t : List ℕ). Q (shape G.shown c) t ys) (sym (best-splits cs xs c e)) (has-shape c ys)

  has-wrong : (k m : ℕ) (xs : List ℕ) → Has xs (take_wrong G.shown k m xs)
  unfolding take_wrong
  has-wrong k m [] = refl
  has-wrong k m (x ∷ xs) =
      closed.on-node k _ (x ∷ xs) xs
      (closed.on_then (err (message m) nil) (leaf (G.shown x) nil) (x ∷ xs) (x ∷ xs) xs (closed.on-err (message m) (x ∷ xs)) (closed.on-leaf x xs))

  module _ (body : List ℕ → Result) (Body-has : (xs : List ℕ) → Has xs (body xs)) (hs : List Head) where
    has-repeat : (n : ℕ) (xs : List ℕ) → Has xs (repeat body hs n xs)
    unfolding repeat
    has-repeat zero xs = closed.on-err (message unmet) xs
    has-repeat (suc n) xs =
        has-pick xs (at hs xs) _ _
        (λ a. has-after xs xs _ (λ f ys q. has-beside xs ys f q (repeat body hs n ys) (has-repeat n ys)) (body xs) (Body-has xs))
        (λ a. closed.on-nil xs)

    -- f was read from xs, and the loop is at ys
    has-lean : (xs : List ℕ) (k n : ℕ) (f : Forest) (ys : List ℕ) → Whole f → Q f xs ys → Has xs (lean body hs k n f ys)
    unfolding lean
    has-lean xs k zero f ys w q = closed.on-wrap k f unfinished xs ys ys w q (closed.on-err (message unmet) ys)
    has-lean xs k (suc n) f ys w q =
        has-pick xs (at hs ys) _ _
        (λ a. has-after xs ys _ (λ g zs i. has-lean xs k n (wrap k f g nil) zs whole-wrap (closed.on-wrap k f g xs ys zs w q i)) (body ys) (Body-has ys))
        (λ a. q)

  module _ (T : Tables G) (fine : Fine G T) (bound : ℕ) where
    module _ (d : ℕ) (inner : G.Rule → List ℕ → Result) (inner-has : (r : G.Rule) (xs : List ℕ) → Has xs (inner r xs)) where
      abbrev stepped : Part G.Rule → List ℕ → Result
      stepped p xs = step G bound d inner p xs

      step-has : (p : Part G.Rule) → Good G T p → (xs : List ℕ) → Has xs (stepped p xs)
      unfolding step
      step-has (tok m ks) g xs = has_one m ks xs
      step-has (pair k l) g xs = has-two k l xs
      step-has (look m ks l) g xs = has-look m ks l xs
      step-has any g xs = has-any xs
      step-has (longest cs) g xs = has-form cs xs (best cs xs) refl
      step-has (wrong x k m) g xs = has-wrong k m xs
      step-has (fail m) g xs = refl
      step-has (seq p q) g xs =
          has-after xs xs _
          (λ f ys i. has-beside xs ys f i (stepped q ys) (step-has q (good-seq g).latter ys))
          (stepped p xs) (step-has p (good-seq g).former xs)
      step-has (either c p q) g xs =
          has-pick xs (at (first G p) xs) _ _ (λ a. step-has p (good-either g).former xs) (λ a. step-has q (good-either g).latter xs)
      step-has (opt c p) g xs = has-pick xs (at (first G p) xs) _ _ (λ a. step-has p (good-opt g).part xs) (λ a. closed.on-nil xs)
      step-has (many p) g xs = has-repeat (λ ys. stepped p ys) (λ ys. step-has p (good-many g).part ys) (first G p) bound xs
      step-has (until k p) g xs =
          has-pick xs (is k xs) _ _
          (λ a. has_one unmet (k ∷ []) xs)
          (λ a. has-after xs xs _
          (λ f ys i. has-beside xs ys f i (take_one G.shown (expected k) (k ∷ []) ys) (has_one (expected k) (k ∷ []) ys))
          (stepped p xs) (step-has p (good-until g).part xs))
      step-has (inside k p) g xs = has-after xs xs _ (λ f ys i. closed.on-node k f xs ys i) (stepped p xs) (step-has p (good-inside g) xs)
      step-has (suffix c k p q) g xs =
          has-firstly xs _
          (λ f ys l i. has-pick xs (at (first G q) ys) _ _
          (λ a. has-after xs ys _ (λ h zs j. closed.on-wrap k f h xs ys zs l i j) (stepped q ys) (step-has q (good-suffix g).latter ys))
          (λ a. i))
          (stepped p xs) (single-lone G bound d inner p xs (good-suffix g).lone) (step-has p (good-suffix g).former xs)
      step-has (leaning k p q) g xs =
          has-firstly xs _
          (λ f ys l i. has-lean (λ zs. stepped q zs) (λ zs. step-has q (good-leaning g).latter zs) (first G q) xs k bound f ys l i)
          (stepped p xs) (single-lone G bound d inner p xs (good-leaning g).lone) (step-has p (good-leaning g).former xs)
      step-has (before hs p) g xs = step-has p (good-before g).part xs
      step-has (opens p) g xs = has_within G.deep d xs (stepped p xs) (step-has p (good-opens g) xs)
      step-has (rule r) g xs = inner-has r xs

    below-has : (d : ℕ) (r : G.Rule) (xs : List ℕ) → Has xs (below G bound d r xs)
    unfolding below
    below-has zero r xs = refl
    below-has (suc d) r xs = step-has d (below G bound d) (below-has d) (G.rules r) (good-rule fine r) xs

    -- Every reading of a good part has the property.
    pub reading-has : (d : ℕ) (p : Part G.Rule) → good G T p ≡ true → (xs : List ℕ) (f : Forest) (ys : List ℕ) →
        read G bound d p xs ≡ done f ys → Q f xs ys
    unfolding read
    reading-has d p g xs f ys e = subst (Has xs) e (step-has d (below G bound d) (below-has d) p (record { tested = g }) xs)

-- LEAVES ---------------------------------------------------------------------------------------------------------------

-- the leaves of f, then what is left, show the symbols
abbrev Shows : (ℕ → ℕ) → Forest → List ℕ → List ℕ → Type 0
Shows shown f xs ys = map shown xs ≡ leaves f ++ map shown ys

shows-both : (js ks xs ys zs : List ℕ) → xs ≡ js ++ ys → ys ≡ ks ++ zs → xs ≡ (js ++ ks) ++ zs
shows-both js ks xs ys zs d e = d ∙ ap (λ (l : List ℕ). js ++ l) e ∙ sym (append_assoc js ks zs)

leaves-closed : (G : Grammar) → Closed G (Shows G.shown)
unfolding leaves
leaves-closed G =
    record {
      on-nil = λ xs. refl;
      on-err = λ m xs. refl;
      on-leaf = λ x xs. refl;
      on_then = λ f g xs ys zs d e. rw (leaves-then f g) (shows-both (leaves f) (leaves g) _ _ _ d e);
      on-node = λ k f xs ys d. rw (append-nil (leaves f)) d;
      on-wrap = λ k f g xs ys zs w d e. rw (append-nil (leaves f ++ leaves g)) (shows-both (leaves f) (leaves g) _ _ _ d e);
    }

proper-closed : (G : Grammar) → Closed G (λ f xs ys. Proper f)
proper-closed G =
    record {
      on-nil = λ xs. tt;
      on-err = λ m xs. tt;
      on-leaf = λ x xs. tt;
      on_then = λ f g xs ys zs d e. proper-then f g d e;
      on-node = λ k f xs ys d. (d, tt);
      on-wrap = λ k f g xs ys zs w d e. (w, d, e, tt);
    }

module _ (G : Grammar) (T : Tables G) (fine : Fine G T) (bound : ℕ) (d : ℕ) where
  -- The leaves of what is read show the symbols taken, in order.
  pub reading-leaves : (p : Part G.Rule) → good G T p ≡ true → (xs : List ℕ) (f : Forest) (ys : List ℕ) → read G bound d p xs ≡ done f ys →
      map G.shown xs ≡ leaves f ++ map G.shown ys
  reading-leaves p g xs f ys e = reading-has G (Shows G.shown) (leaves-closed G) T fine bound d p g xs f ys e

  -- What is read is proper: its events spell its tree.
  pub reading-proper : (p : Part G.Rule) → good G T p ≡ true → (xs : List ℕ) (f : Forest) (ys : List ℕ) → read G bound d p xs ≡ done f ys → Proper f
  reading-proper p g xs f ys e = reading-has G (λ h us vs. Proper h) (proper-closed G) T fine bound d p g xs f ys e
