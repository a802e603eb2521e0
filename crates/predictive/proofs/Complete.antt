-- What a good grammar derives, its reader gives, unless (with an excuse E) an opener too many is met. By induction over the
-- derivation: it begins with one of the part's first heads (`begins`), so the reader takes the same choices, and what follows
-- begins with none of the part's `ends`, so the reader ends where the derivation does. The excuse is needed only where a
-- derivation nests as deep as openers are left, so with enough of them there is none. Assumes nothing.
use Prim.Native.Nat.{ℕ, zero, suc, ◌+◌, ◌≤◌, ◌<◌}
use native.Mathlib.Omega.{arith}
use mathlib.Core.Path.{◌≡◌, refl, ap, ◌∙◌}
use mathlib.Core.Bool.{true, false}
use mathlib.Core.List.{List, [], ◌∷◌, ◌++◌}
use lib.ListN.{length, drop}
use lib.Dec.{eqb}
use borrow.Author.Tests.{eq-eqb}
use Rattle.predictive.specs.Forest.{Forest, nil, leaf, wrap}
use Rattle.predictive.specs.Grammar.{Head, one, is, at, has, Form, kinds_of, shape, Part, many, leaning, Grammar}
use Rattle.predictive.specs.Grammar.{Derives, Many, Leaning, d_tok, d_pair, d_look, d_any, d_any_end, d_longest, d_no_form, d_seq, d_left, d_right, d_some, d_none, d_many, d_until, d_at_once, d_inside, d_alone, d_with, d_leaning, d_before, d_opens, d_rule, m_nil, m_cons, l_one, l_more}
use Rattle.predictive.specs.Reader.{Result, done, firstly, expected, unmet, take_one, take_two, take_look, take_any, take_form, repeat, lean, within, null, first, step, below, read}
use Rattle.predictive.specs.Events.{stops}
use Rattle.predictive.proofs.Tests.{and_both, or_l, or_true_l}
use Rattle.predictive.proofs.Faults.{amiss, amiss-after, amiss-firstly, keeps_beside, keeps_then, keeps_node, keeps_wrap, keeps_suffix, keeps_lean, keeps_lean_on, Agrees, excused, agree, agrees_after, agrees-firstly, agrees_first, agrees-second, agrees-done}
use Rattle.predictive.proofs.Begins.{shrinks, stands, falls, begins, begins-many, begins-leaning, follows, absent, passed}
use Rattle.predictive.proofs.Heads.{disjoint-excludes, at-l, at-r, at-neither, within-absent, minus-absent, drop_append}
use Rattle.predictive.proofs.Lookahead.{ends, good, Tables, Fine, good-before, good-either, good-leaning, good-many, good-opt, good-seq, good-suffix, good-until, Good, good-inside, good-opens, good-rule}

-- WHAT THE READER GIVES ------------------------------------------------------------------------------------------------

-- r is the reading done f ys, unless (with the excuse E) an opener too many was met
abbrev pub Gives : Type 0 → Result → Forest → List ℕ → Type 0
Gives E r f ys = Agrees stops E r (done f ys)

gives-within : {E : Type 0} (n d : ℕ) (xs : List ℕ) {r : Result} {f : Forest} {ys : List ℕ} → (d ≡ zero → E) → Gives E r f ys →
    Gives E (within n d xs r) f ys
unfolding amiss
gives-within n zero xs w h = excused (w refl) refl
gives-within n (suc d) xs w h = h

has_one : (k : ℕ) → has (k ∷ []) k ≡ true
has_one k = or_true_l (eqb k k) false (eq-eqb k k refl)

gives_one : {E : Type 0} (shown : ℕ → ℕ) (m k : ℕ) (ys : List ℕ) → Gives E (take_one shown m (k ∷ []) (k ∷ ys)) (leaf (shown k) nil) ys
unfolding take_one
gives_one shown m k ys = agrees_first _ (has_one k) (agree refl)

gives-form : {E : Type 0} (shown : ℕ → ℕ) (c : Form) (xs ys : List ℕ) → xs ≡ kinds_of c ++ ys →
    Gives E (done (shape shown c) (drop (length (kinds_of c)) xs)) (shape shown c) ys
gives-form shown c xs ys e =
    agree (ap (λ (t : List ℕ). done (shape shown c) t) (ap (λ (l : List ℕ). drop (length (kinds_of c)) l) e ∙ drop_append (kinds_of c) ys))

-- The state of a left-leaning loop that was begun for r: it has f, and n turns are left for the symbols ys.
data Reach (E : Type 0) (body : List ℕ → Result) (hs : List Head) (k : ℕ) (r : Result) (f : Forest) (ys : List ℕ) : Type 0 where
  r-fault : E → amiss stops r ≡ true → Reach E body hs k r f ys
  r-at : (n : ℕ) → length ys < n → r ≡ lean body hs k n f ys → Reach E body hs k r f ys

reach-one : {E : Type 0} (body : List ℕ → Result) (hs : List Head) (k n : ℕ) {r : Result} {f : Forest} {ys : List ℕ} → length ys < n →
    Gives E r f ys → Reach E body hs k (firstly r (λ f ys. lean body hs k n f ys)) f ys
reach-one body hs k n {r} l (excused o e) = r-fault o (amiss-firstly stops _ (keeps_lean stops body hs k n) r e)
reach-one body hs k n l (agree e) = r-at n l (ap (λ (x : Result). firstly x (λ f ys. lean body hs k n f ys)) e)

reach-more : {E : Type 0} {body : List ℕ → Result} {hs : List Head} {k : ℕ} {r : Result} {f g : Forest} {ys zs : List ℕ} →
    Reach E body hs k r f ys → at hs ys ≡ true → length zs < length ys → Gives E (body ys) g zs → Reach E body hs k r (wrap k f g nil) zs
unfolding lean
reach-more (r-fault o e) a l w = r-fault o e
reach-more (r-at zero m e) a l w = absurd (omega arith)
reach-more {E} {body} {hs} {k} {r} {f} {g} {ys} {zs} (r-at (suc n) m e) a l (excused o w) =
    r-fault o (rw (e, a) (amiss-after stops _ (keeps_lean_on stops body hs k n f) (body ys) w))
reach-more {E} {body} {hs} {k} {r} {f} {g} {ys} {zs} (r-at (suc n) m e) a l (agree w) = r-at n (omega arith) (e ∙ rw (a, w) refl)

reach-end : {E : Type 0} {body : List ℕ → Result} {hs : List Head} {k : ℕ} {r : Result} {f : Forest} {ys : List ℕ} →
    Reach E body hs k r f ys → at hs ys ≡ false → Gives E r f ys
unfolding lean
reach-end (r-fault o e) a = excused o e
reach-end (r-at zero m e) a = absurd (omega arith)
reach-end (r-at (suc n) m e) a = agree (e ∙ rw a refl)

-- how deep the rules of a derivation are nested, or more
module _ (G : Grammar) where
  mutual
    pub nest : {p : Part G.Rule} {f : Forest} {xs ys : List ℕ} → Derives G p f xs ys → ℕ
    nest (d_tok h i) = 0
    nest (d_pair h) = 0
    nest (d_look h i) = 0
    nest (d_any h) = 0
    nest d_any_end = 0
    nest (d_longest a b h i) = 0
    nest (d_no_form h) = 0
    nest (d_seq a b h) = nest a + nest b
    nest (d_left a) = nest a
    nest (d_right a m) = nest a
    nest (d_some a) = nest a
    nest (d_none m) = 0
    nest (d_many a) = nest-many a
    nest (d_until a h) = nest a
    nest (d_at_once h) = 0
    nest (d_inside a) = nest a
    nest (d_alone a m) = nest a
    nest (d_with a b) = nest a + nest b
    nest (d_leaning a) = nest-leaning a
    nest (d_before a n) = nest a
    nest (d_opens a) = nest a
    nest (d_rule a) = suc (nest a)

    nest-many : {p : Part G.Rule} {f : Forest} {xs ys : List ℕ} → Many G p f xs ys → ℕ
    nest-many m_nil = 0
    nest-many (m_cons a b h) = nest a + nest-many b

    nest-leaning : {k : ℕ} {p q : Part G.Rule} {f : Forest} {xs ys : List ℕ} → Leaning G k p q f xs ys → ℕ
    nest-leaning (l_one a) = nest a
    nest-leaning (l_more a b) = nest-leaning a + nest b

module _ (G : Grammar) (T : Tables G) (fine : Fine G T) where
  module _ (bound : ℕ) (E : Type 0) where
    abbrev stepped : ℕ → Part G.Rule → List ℕ → Result
    stepped d p xs = step G bound d (below G bound d) p xs

    abbrev end : Part G.Rule → List Head
    end p = ends G T p

    gives-rule : (d : ℕ) (r : G.Rule) (xs : List ℕ) {f : Forest} {ys : List ℕ} → (d ≡ zero → E) →
        ((e : ℕ) → d ≡ suc e → Gives E (stepped e (G.rules r) xs) f ys) → Gives E (below G bound d r xs) f ys
    unfolding below amiss
    gives-rule zero r xs w h = excused (w refl) refl
    gives-rule (suc d) r xs w h = h d refl

    mutual
      unfolding nest step below first null ends repeat lean take_one take_look take_any take_two take_form

      complete-step : {p : Part G.Rule} {f : Forest} {xs ys : List ℕ} → (a : Derives G p f xs ys) → Good G T p → at (end p) ys ≡ false →
          length xs < bound → (d : ℕ) → (d ≤ nest G a → E) → Gives E (stepped d p xs) f ys
      complete-step (d_tok {xs = xs} h i) g n l d w = agrees_first _ h (agrees-done xs i)
      complete-step (d_pair {k = k} {l = j} {ys = ys} i) g n l d w =
          agrees_after _ (keeps_beside stops (take_one G.shown unmet (j ∷ []))) (gives_one G.shown unmet k (j ∷ ys))
          (agrees_after _ (keeps_then stops (leaf (G.shown k) nil)) (gives_one G.shown unmet j ys) (agrees-done ys i))
      complete-step (d_look {l = j} {xs = xs} h i) g n l d w = agrees_first _ (and_both _ _ h (eq-eqb j j refl)) (agrees-done (j ∷ xs) i)
      complete-step (d_any {xs = xs} i) g n l d w = agrees-done xs i
      complete-step d_any_end g n l d w = agree refl
      complete-step (d_longest {cs = cs} {c = c} {xs = xs} {ys = ys} {h = t} e v h i) g n l d w = rw (e, i) (gives-form G.shown c xs ys h)
      complete-step (d_no_form h) g n l d w = rw h (agree refl)
      complete-step (d_seq {p = p} {q = q} {f = f} {zs = zs} a b h) g n l d w =
          agrees_after _ (keeps_beside stops (stepped d q))
          (complete-step a (good-seq g).former (follows (end p) (begins G T fine b) (good-seq g).apart (at-r (end q) _ zs n)) l d (λ o. w (omega arith)))
          (agrees_after _ (keeps_then stops f)
          (complete-step b (good-seq g).latter (at-l (end q) _ zs n) (omega (arith, shrinks (begins G T fine a))) d (λ o. w (omega arith))) (agrees-done zs h))
      complete-step (d_left {p = p} {ys = ys} a) g n l d w =
          agrees_first _
          (stands (begins G T fine a) (good-either g).begun)
          (complete-step a (good-either g).former (at-l (end p) _ ys n) l d (λ o. w (omega arith)))
      complete-step (d_right {c = c} {p = p} {q = q} {xs = xs} {ys = ys} a m) g n l d w =
          agrees-second _
          (passed c (first G p) (begins G T fine a) (good-either g).told m (at-r (end q) _ ys (at-r (end p) _ ys n)))
          (complete-step a (good-either g).latter (at-l (end q) _ ys (at-r (end p) _ ys n)) l d (λ o. w (omega arith)))
      complete-step (d_some {p = p} {ys = ys} a) g n l d w =
          agrees_first _ (stands (begins G T fine a) (good-opt g).begun) (complete-step a (good-opt g).part (at-l (end p) _ ys n) l d (λ o. w (omega arith)))
      complete-step (d_none {c = c} {p = p} {xs = xs} m) g n l d w =
          agrees-second _ (absent c (first G p) xs (good-opt g).told m (at-r (end p) _ xs n)) (agree refl)
      complete-step (d_many a) g n l d w = complete-many a g n l d w bound l
      complete-step (d_until {k = k} {p = p} {f = f} {xs = xs} {ys = ys} a h) g n l d w =
          let s = stands (begins G T fine a) (good-until g).begun in
          agrees-second (take_one G.shown unmet (k ∷ []) xs)
          (or_l (is k xs) false (disjoint-excludes (first G p) (one k ∷ []) xs (good-until g).told s))
          (agrees_after _ (keeps_beside stops (take_one G.shown (expected k) (k ∷ [])))
          (complete-step a (good-until g).part
          (disjoint-excludes (one k ∷ []) (end p) (k ∷ ys) (good-until g).apart (has_one k)) l d (λ o. w (omega arith)))
          (agrees_after _ (keeps_then stops f) (gives_one G.shown (expected k) k ys) (agrees-done ys h)))
      complete-step (d_at_once {k = k} {ys = ys} i) g n l d w = agrees_first _ (eq-eqb k k refl) (rw i (gives_one G.shown unmet k ys))
      complete-step (d_inside {k = k} a) g n l d w =
          agrees_after _ (keeps_node stops k) (complete-step a (good-inside g) n l d (λ o. w (omega arith))) (agree refl)
      complete-step (d_alone {c = c} {k = k} {p = p} {q = q} {ys = ys} a m) g n l d w =
          agrees-firstly _ (keeps_suffix stops (stepped d q) (first G q) k)
          (complete-step a (good-suffix g).former (at-l (end p) _ ys n) l d (λ o. w (omega arith)))
          (agrees-second _
          (absent c (first G q) ys (good-suffix g).told m (at-r (end q) _ ys (at-r (end p) _ ys n))) (agree refl))
      complete-step (d_with {k = k} {p = p} {q = q} {f = f} {ys = ys} {zs = zs} a b) g n l d w =
          let s = stands (begins G T fine b) (good-suffix g).begun in
          agrees-firstly _ (keeps_suffix stops (stepped d q) (first G q) k)
          (complete-step a (good-suffix g).former
          (disjoint-excludes (first G q) (end p) ys (good-suffix g).apart s) l d (λ o. w (omega arith)))
          (agrees_first _ s
          (agrees_after _ (keeps_wrap stops k f)
          (complete-step b (good-suffix g).latter (at-l (end q) _ zs (at-r (end p) _ zs n)) (omega (arith, shrinks (begins G T fine a))) d (λ o. w (omega arith)))
          (agree refl)))
      complete-step (d_leaning {p = p} {q = q} {ys = ys} a) g n l d w =
          reach-end
          (reach a g (at-neither (end p) (end q) ys (at-l (end p) _ ys n) (at-l (end q) _ ys (at-r (end p) _ ys n))) l d (λ o. w (omega arith)))
          (at-r (end q) _ ys (at-r (end p) _ ys n))
      complete-step (d_before {hs = hs} {p = p} {ys = ys} a m) g n l d w = complete-step a (good-before g).part (minus-absent (end p) hs ys n m) l d w
      complete-step (d_opens {xs = xs} a) g n l d w = gives-within G.deep d xs (λ o. w (omega arith)) (complete-step a (good-opens g) n l d w)
      complete-step (d_rule {r = r} {xs = xs} {ys = ys} a) g n l d w =
          gives-rule d r xs (λ o. w (omega arith))
          (λ e q. complete-step a (good-rule fine r) (within-absent (end (G.rules r)) (T.ends_of r) ys (fine.ends-in r) n) l e (λ o. w (omega arith)))

      complete-many : {p : Part G.Rule} {f : Forest} {xs ys : List ℕ} → (a : Many G p f xs ys) → Good G T (many p) →
          at (end (many p)) ys ≡ false → length xs < bound → (d : ℕ) → (d ≤ nest-many G a → E) → (m : ℕ) → length xs < m →
          Gives E (repeat (λ zs. stepped d p zs) (first G p) m xs) f ys
      complete-many m_nil g n l d w zero o = absurd (omega arith)
      complete-many (m_cons a b h) g n l d w zero o = absurd (omega arith)
      complete-many (m_nil {p = p} {xs = xs}) g n l d w (suc m) o = agrees-second _ (at-r (end p) _ xs n) (agree refl)
      complete-many (m_cons {p = p} {f = f} {zs = zs} a b h) g n l d w (suc m) o =
          let s = falls (begins G T fine a) (good-many g).begun in
          agrees_first _ (stands (begins G T fine a) (good-many g).begun)
          (agrees_after _ (keeps_beside stops (repeat (λ zs. stepped d p zs) (first G p) m))
          (complete-step a (good-many g).part (follows (end p) (begins-many G T fine b) (good-many g).apart (at-l (end p) _ zs n)) l d (λ o. w (omega arith)))
          (agrees_after _ (keeps_then stops f) (complete-many b g n (omega arith) d (λ o. w (omega arith)) m (omega arith)) (agrees-done zs h)))

      reach : {k : ℕ} {p q : Part G.Rule} {f : Forest} {xs ys : List ℕ} → (a : Leaning G k p q f xs ys) → Good G T (leaning k p q) →
          at (end p ++ end q) ys ≡ false → length xs < bound → (d : ℕ) → (d ≤ nest-leaning G a → E) →
          Reach E (λ zs. stepped d q zs) (first G q) k (stepped d (leaning k p q) xs) f ys
      reach (l_one {k = k} {p = p} {q = q} {ys = ys} a) g n l d w =
          reach-one (λ zs. stepped d q zs) (first G q) k bound (omega (arith, shrinks (begins G T fine a)))
          (complete-step a (good-leaning g).former (at-l (end p) (end q) ys n) l d (λ o. w (omega arith)))
      reach (l_more {p = p} {q = q} {ys = ys} {zs = zs} a b) g n l d w =
          let s = stands (begins G T fine b) (good-leaning g).begun in
          reach-more
          (reach a g (disjoint-excludes (first G q) (end p ++ end q) ys (good-leaning g).apart s) l d (λ o. w (omega arith)))
          s
          (falls (begins G T fine b) (good-leaning g).begun)
          (complete-step b (good-leaning g).latter (at-r (end p) (end q) zs n) (omega (arith, shrinks (begins-leaning G T fine a))) d (λ o. w (omega arith)))

    -- What is derived is read, unless openers run out: then the excuse must hold where the derivation nests that deep.
    pub complete : (d : ℕ) (p : Part G.Rule) → good G T p ≡ true → (xs : List ℕ) (f : Forest) (ys : List ℕ) (a : Derives G p f xs ys) →
        at (ends G T p) ys ≡ false → length xs < bound → (d ≤ nest G a → E) → Gives E (read G bound d p xs) f ys
    unfolding read
    complete d p g xs f ys a n l w = complete-step a (record { tested = g }) n l d w
