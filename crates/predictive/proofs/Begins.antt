-- How a derivation begins: with one of its part's first heads, and it takes a symbol; or the part may be empty, and it takes none. So
-- what follows a part, or is left out or passed over, is known by its heads. By induction over the derivation. Assumes nothing.
use Prim.Native.Nat.{ℕ, ◌≤◌, ◌<◌}
use native.Mathlib.Omega.{arith}
use mathlib.Core.Path.{◌≡◌, refl, sym, subst, ◌∙◌}
use mathlib.Core.Bool.{Bool, true, false, not, ◌&&◌, ◌||◌}
use mathlib.Core.List.{List, [], ◌∷◌, ◌++◌}
use lib.ListN.{length, length-append}
use borrow.Author.Tests.{not-true, eq-eqb}
use Rattle.predictive.specs.Forest.{Forest}
use Rattle.predictive.specs.Grammar.{Head, one, is, at, kinds_of, Choice, free, unless, May, Part, Grammar}
use Rattle.predictive.specs.Grammar.{Derives, Many, Leaning, d_tok, d_pair, d_look, d_any, d_any_end, d_longest, d_no_form, d_seq, d_left, d_right, d_some, d_none, d_many, d_until, d_at_once, d_inside, d_alone, d_with, d_leaning, d_before, d_opens, d_rule, m_nil, m_cons, l_one, l_more}
use Rattle.predictive.specs.Reader.{null, only, heads_of, first}
use Rattle.predictive.proofs.Tests.{never, and_both, or_true_l, or_true_r, left}
use Rattle.predictive.proofs.Heads.{disjoint, disjoint-excludes, in_l, in_r, at_ones, at-twos, within-absent, within-stands, best-chosen}
use Rattle.predictive.proofs.Lookahead.{open_heads, fits, sides, Tables, Fine}

-- HOW A DERIVATION BEGINS ----------------------------------------------------------------------------------------------

-- From xs to ys one of the heads stands and a symbol is taken, or (if b) nothing is taken.
pub data Starts (hs : List Head) (b : Bool) (xs ys : List ℕ) : Type 0 where
  s-some : at hs xs ≡ true → length ys < length xs → Starts hs b xs ys
  s-none : b ≡ true → xs ≡ ys → Starts hs b xs ys

shorter : (xs : List ℕ) {ys zs : List ℕ} → ys ≡ zs → length ys < length xs → length zs < length xs
shorter xs e l = subst (λ (t : List ℕ). length t < length xs) e l

starts-l : {hs : List Head} {b : Bool} {xs ys : List ℕ} (gs : List Head) (c : Bool) → Starts hs b xs ys → (b ≡ true → c ≡ true) →
    Starts (hs ++ gs) c xs ys
starts-l {hs} {b} {xs} {ys} gs c (s-some a l) m = s-some (in_l hs gs xs a) l
starts-l gs c (s-none n e) m = s-none (m n) e

starts-r : {gs : List Head} {b : Bool} {xs ys : List ℕ} (hs : List Head) (c : Bool) → Starts gs b xs ys → (b ≡ true → c ≡ true) →
    Starts (hs ++ gs) c xs ys
starts-r {gs} {b} {xs} {ys} hs c (s-some a l) m = s-some (in_r hs gs xs a) l
starts-r hs c (s-none n e) m = s-none (m n) e

only-stands : (b : Bool) (gs : List Head) (xs : List ℕ) → b ≡ true → at gs xs ≡ true → at (only b gs) xs ≡ true
only-stands true gs xs e a = a
only-stands false gs xs e a = never e

starts-lean : (hs : List Head) {gs : List Head} {b c : Bool} {xs ys zs : List ℕ} → Starts (hs ++ only b gs) b xs ys → Starts gs c ys zs →
    Starts (hs ++ only b gs) b xs zs
starts-lean hs (s-some a l) (s-some a' l') = s-some a (omega arith)
starts-lean hs {xs = xs} (s-some a l) (s-none n' e') = s-some a (shorter xs e' l)
starts-lean hs {gs} {b} {c} {xs} {ys} {zs} (s-none n e) (s-some a' l') =
    s-some (in_r hs (only b gs) xs (only-stands b gs xs n (rw e a'))) (rw e l')
starts-lean hs (s-none n e) (s-none n' e') = s-none n (e ∙ e')

starts-seq : {hs gs : List Head} {b c : Bool} {xs ys zs : List ℕ} → Starts hs b xs ys → Starts gs c ys zs → Starts (hs ++ only b gs) (b && c) xs zs
starts-seq {hs} {gs} {b} {c} {xs} (s-some a l) (s-some a' l') = s-some (in_l hs (only b gs) xs a) (omega arith)
starts-seq {hs} {gs} {b} {c} {xs} (s-some a l) (s-none n' e') = s-some (in_l hs (only b gs) xs a) (shorter xs e' l)
starts-seq {hs} {gs} {b} {c} {xs} {ys} {zs} (s-none n e) (s-some a' l') =
    s-some (in_r hs (only b gs) xs (only-stands b gs xs n (rw e a'))) (rw e l')
starts-seq {b = b} {c = c} (s-none n e) (s-none n' e') = s-none (and_both b c n n') (e ∙ e')

starts-many : {hs : List Head} {b : Bool} {xs ys zs : List ℕ} → Starts hs b xs ys → Starts hs true ys zs → Starts hs true xs zs
starts-many (s-some a l) (s-some a' l') = s-some a (omega arith)
starts-many {xs = xs} (s-some a l) (s-none n' e') = s-some a (shorter xs e' l)
starts-many (s-none n e) (s-some a' l') = s-some (rw e a') (rw e l')
starts-many (s-none n e) (s-none n' e') = s-none refl (e ∙ e')

starts-opt : {hs : List Head} {b : Bool} {xs ys : List ℕ} → Starts hs b xs ys → Starts hs true xs ys
starts-opt (s-some a l) = s-some a l
starts-opt (s-none n e) = s-none refl e

starts-until : {hs : List Head} {b : Bool} {k : ℕ} {xs ys : List ℕ} → Starts hs b xs (k ∷ ys) → Starts (one k ∷ hs) false xs ys
starts-until {hs} {b} {k} {xs} {ys} (s-some a l) = s-some (or_true_r (is k xs) (at hs xs) a) (omega arith)
starts-until {hs} {b} {k} {xs} {ys} (s-none n e) =
    s-some (or_true_l (is k xs) (at hs xs) (rw e (eq-eqb k k refl))) (subst (λ (l : List ℕ). length ys < length l) (sym e) (omega arith))

-- a listed form begins with its first kind, and takes nothing if it has none
starts-form : (hs : List Head) (ks xs ys : List ℕ) → (0 < length ks → at hs xs ≡ true) → xs ≡ ks ++ ys → Starts hs true xs ys
starts-form hs [] xs ys h e = s-none refl e
starts-form hs (k ∷ ks) xs ys h e =
    s-some (h (omega arith)) (subst (λ (l : List ℕ). length ys < length l) (sym e) (omega (arith, length-append ks ys)))

pub shrinks : {hs : List Head} {b : Bool} {xs ys : List ℕ} → Starts hs b xs ys → length ys ≤ length xs
shrinks (s-some a l) = omega arith
shrinks (s-none n e) = rw e (omega arith)

pub stands : {hs : List Head} {b : Bool} {xs ys : List ℕ} → Starts hs b xs ys → not b ≡ true → at hs xs ≡ true
stands (s-some a l) n = a
stands {b = b} (s-none n e) m = never (sym (not-true b m) ∙ n)

pub falls : {hs : List Head} {b : Bool} {xs ys : List ℕ} → Starts hs b xs ys → not b ≡ true → length ys < length xs
falls (s-some a l) n = l
falls {b = b} (s-none n e) m = never (sym (not-true b m) ∙ n)

-- FIRST HEADS ------------------------------------------------------------------------------------------------

module _ (G : Grammar) (T : Tables G) (fine : Fine G T) where
  begins-rule : (r : G.Rule) (xs ys : List ℕ) → Starts (first G (G.rules r)) (null (G.rules r)) xs ys → Starts (G.firsts r) false xs ys
  begins-rule r xs ys (s-some a l) = s-some (within-stands (first G (G.rules r)) (G.firsts r) xs (fine.first-in r) a) l
  begins-rule r xs ys (s-none n e) = never (sym (fine.not_null r) ∙ n)

  -- A derivation begins with one of the part's first heads and takes a symbol, or the part may be empty and it takes none.
  mutual
    unfolding first null

    pub begins : {p : Part G.Rule} {f : Forest} {xs ys : List ℕ} → Derives G p f xs ys → Starts (first G p) (null p) xs ys
    begins (d_tok {ks = ks} {x = x} {xs = xs} h i) = s-some (at_ones ks x xs ∙ h) (omega arith)
    begins (d_pair {k = k} {l = l} h) = s-some (or_true_l _ _ (and_both _ _ (eq-eqb k k refl) (eq-eqb l l refl))) (omega arith)
    begins (d_look {l = l} {x = x} {ks = ks} {xs = xs} h i) = s-some (at-twos ks l x (l ∷ xs) (and_both _ _ h (eq-eqb l l refl))) (omega arith)
    begins (d_any h) = s-some refl (omega arith)
    begins d_any_end = s-none refl refl
    begins (d_longest {cs = cs} {c = c} {xs = xs} {ys = ys} e w h i) = starts-form (heads_of cs) (kinds_of c) xs ys (best-chosen cs xs c e).heads h
    begins (d_no_form h) = s-none refl refl
    begins (d_seq d e h) = starts-seq (begins d) (begins e)
    begins (d_left {p = p} {q = q} d) = starts-l (first G q) (null p || null q) (begins d) (or_true_l (null p) (null q))
    begins (d_right {p = p} {q = q} d m) = starts-r (first G p) (null p || null q) (begins d) (or_true_r (null p) (null q))
    begins (d_some d) = starts-opt (begins d)
    begins (d_none m) = s-none refl refl
    begins (d_many d) = begins-many d
    begins (d_until d h) = starts-until (begins d)
    begins (d_at_once {k = k} h) = s-some (or_true_l _ _ (eq-eqb k k refl)) (omega arith)
    begins (d_inside d) = begins d
    begins (d_alone {p = p} {q = q} d m) = starts-l (only (null p) (first G q)) (null p) (begins d) (λ e. e)
    begins (d_with {p = p} {q = q} d e) = starts-lean (first G p) (starts-l (only (null p) (first G q)) (null p) (begins d) (λ e. e)) (begins e)
    begins (d_leaning d) = begins-leaning d
    begins (d_before d n) = begins d
    begins (d_opens d) = begins d
    begins (d_rule {r = r} {xs = xs} {ys = ys} d) = begins-rule r xs ys (begins d)

    pub begins-many : {p : Part G.Rule} {f : Forest} {xs ys : List ℕ} → Many G p f xs ys → Starts (first G p) true xs ys
    begins-many m_nil = s-none refl refl
    begins-many (m_cons d e h) = starts-many (begins d) (begins-many e)

    pub begins-leaning : {k : ℕ} {p q : Part G.Rule} {f : Forest} {xs ys : List ℕ} → Leaning G k p q f xs ys →
        Starts (first G p ++ only (null p) (first G q)) (null p) xs ys
    begins-leaning (l_one {p = p} {q = q} d) = starts-l (only (null p) (first G q)) (null p) (begins d) (λ e. e)
    begins-leaning (l_more {p = p} d e) = starts-lean (first G p) (begins-leaning d) (begins e)

  -- A part that takes a token stands nowhere where a head stands that its own heads are apart from.
  pub begins-apart : (hs : List Head) {p : Part G.Rule} {f : Forest} {xs ys : List ℕ} → Derives G p f xs ys → not (null p) ≡ true →
      disjoint (first G p) hs ≡ true → at hs xs ≡ false
  begins-apart hs {p} {f} {xs} {ys} d n e = disjoint-excludes (first G p) hs xs e (stands (begins d) n)

-- WHAT FOLLOWS ---------------------------------------------------------------------------------------------------------

only-absent : (b : Bool) (hs : List Head) (xs : List ℕ) → b ≡ true → at (only b hs) xs ≡ false → at hs xs ≡ false
only-absent true hs xs e n = n
only-absent false hs xs e n = never e

-- what follows a part: another that begins with heads which the reader does not go on with, or what follows both
pub follows : {hs : List Head} {b : Bool} {ys zs : List ℕ} (es : List Head) → Starts hs b ys zs → disjoint hs es ≡ true →
    at (only b es) zs ≡ false → at es ys ≡ false
follows {hs} {b} {ys} {zs} es (s-some a l) n o = disjoint-excludes hs es ys n a
follows {hs} {b} {ys} {zs} es (s-none n e) m o = rw e (only-absent b es zs n o)

-- an absent optional part does not stand
pub absent : (c : Choice) (hs : List Head) (xs : List ℕ) → fits c hs ≡ true → May c xs → at (open_heads c hs) xs ≡ false → at hs xs ≡ false
unfolding fits
absent free hs xs e m n = n
absent (unless gs) hs xs e m n = within-absent hs gs xs (left _ _ e) m

-- the first of two parts does not stand where the second is derived
pub passed : (c : Choice) (hs : List Head) {gs : List Head} {b : Bool} {xs ys : List ℕ} → Starts gs b xs ys → sides c hs gs ≡ true → May c xs →
    at (only b (open_heads c hs)) ys ≡ false → at hs xs ≡ false
unfolding sides
passed free hs a e m n = follows hs a e n
passed (unless ds) hs {xs = xs} a e m n = within-absent hs ds xs (left _ _ e) m
