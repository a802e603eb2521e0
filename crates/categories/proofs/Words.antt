-- What a test of words says of what remains, and how the longest of some listed forms is read there: no table of AADL is in this
-- file. By cases on what remains, and by induction over the kinds or the forms. Assumes nothing.
use Prim.Native.Nat.{ℕ}
use mathlib.Core.Path.{◌≡◌, refl, sym, ap, subst, ◌∙◌}
use mathlib.Core.Logic.{⊎_elim}
use mathlib.Core.Bool.{Bool, true, false, cond, ◌&&◌, ◌||◌, or-false}
use mathlib.Core.List.{List, [], ◌∷◌, ◌++◌}
use mathlib.Core.Option.{Option, none, some, none-ne-some}
use lib.Dec.{eqb, ltb}
use lib.ListN.{length}
use borrow.Author.Tests.{eqb-true, eq-eqb}
use Rattle.predictive.specs.Grammar.{Head, one, two, is, starts, at, has, Form, row, kinds_of, stand as form-stands, longer, best, free, Part, tok, longest, seq, opt}
use Rattle.predictive.specs.Reader.{ones, first, unmet, take_one, take_form, step, read}
use Rattle.predictive.proofs.Tests.{never, and_l, and_r, or_true_l, or_cases}
use Rattle.predictive.proofs.Heads.{at_end, at_ones, at-neither, among, among-absent}
use Rattle.syntax_kind.proofs.KindSets.{joined, joined-has}
use Rattle.aadl.specs.Section.{Rule, grammar}
use Rattle.parser.specs.declared.Counters.{Counters}
use Rattle.parser.specs.Input.{Input, rest, END, ahead, nth}
use Rattle.parser.specs.declared.Parser.{Parser}
use Rattle.parser.specs.Reads.{stands}
use Rattle.parser.specs.Parsers.{source, counters, stand, ReadsWithin}
use Rattle.parser.proofs.Join.{stands_at, became_nothing, became_same}
use Rattle.parser.proofs.Parsers.{same, r-same, r-seq}

-- WHAT SYMBOLS BEGIN WITH ----------------------------------------------------------------------------------------------

pub begins-one : (k : ℕ) (F : List ℕ → Type 0) → ((ys : List ℕ) → F (k ∷ ys)) → (xs : List ℕ) → at (one k ∷ []) xs ≡ true → F xs
begins-one k F f [] e = never e
begins-one k F f (x ∷ xs) e = subst (λ (y : ℕ). F (y ∷ xs)) (sym (eqb-true x k (sym (or-false (eqb x k)) ∙ e))) (f xs)

pub begins-two : (k l : ℕ) (F : List ℕ → Type 0) → ((ys : List ℕ) → F (k ∷ l ∷ ys)) → (xs : List ℕ) → at (two k l ∷ []) xs ≡ true → F xs
begins-two k l F f [] e = never e
begins-two k l F f (x ∷ xs) e =
    let h = sym (or-false (eqb x k && is l xs)) ∙ e in
    subst (λ (y : ℕ). F (y ∷ xs)) (sym (eqb-true x k (and_l (eqb x k) (is l xs) h)))
    (begins-one l (λ (ys : List ℕ). F (k ∷ ys)) f xs (or-false (is l xs) ∙ and_r (eqb x k) (is l xs) h))

-- F holds of what begins with any of the kinds.
infixr 60 ◌also◌
pub data Each (F : List ℕ → Type 0) : List ℕ → Type 0 where
  no_more : Each F []
  ◌also◌ : {k : ℕ} {ks : List ℕ} → ((ys : List ℕ) → F (k ∷ ys)) → Each F ks → Each F (k ∷ ks)

pub begins-any : (F : List ℕ → Type 0) {ks : List ℕ} → Each F ks → (xs : List ℕ) → at (ones ks) xs ≡ true → F xs
unfolding ones
begins-any F no_more xs e = never e
begins-any F (◌also◌ {k} {ks} f fs) xs e =
    ⊎_elim
    (λ a. begins-one k F f xs (or_true_l (is k xs) false a))
    (λ a. begins-any F fs xs a)
    (or_cases (is k xs) (at (ones ks) xs) e)

-- The word l is next, another one is, or none.
pub follows : (l : ℕ) (F : List ℕ → Type 0) → F [] → ((ys : List ℕ) → F (l ∷ ys)) → ((y : ℕ) (ys : List ℕ) → eqb y l ≡ false → F (y ∷ ys)) →
    (xs : List ℕ) → F xs
follows l F ended next other [] = ended
follows l F ended next other (y ∷ ys) = go (eqb y l) refl
  where
    go : (t : Bool) → eqb y l ≡ t → F (y ∷ ys)
    go true e = subst (λ (z : ℕ). F (z ∷ ys)) (sym (eqb-true y l e)) (next ys)
    go false e = other y ys e

-- TESTS ----------------------------------------------------------------------------------------------------------------

pub kinds-are : (inp : Input) (p : Counters) (ks : List ℕ) {x : ℕ} → has ks END ≡ false → x ≡ nth inp p 0 → has ks x ≡ stands inp (ones ks) p
unfolding nth stands
kinds-are inp p ks h e = ap (has ks) e ∙ go (eqb p.stop 0) (rest inp p)
  where
    go : (t : Bool) (xs : List ℕ) → has ks (cond t (ahead xs) END) ≡ cond t (at (ones ks) xs) false
    go true [] = h ∙ sym (at_end (ones ks))
    go true (x ∷ xs) = sym (at_ones ks x xs)
    go false xs = h

-- the same where the tests are joined from the left, as code joins them
pub joined-are : (inp : Input) (p : Counters) (k : ℕ) (ks : List ℕ) {x : ℕ} {t : Bool} → has (k ∷ ks) END ≡ false → x ≡ nth inp p 0 → joined (eqb x k) ks x ≡ t →
    stands inp (ones (k ∷ ks)) p ≡ t
joined-are inp p k ks {x} h e f = sym (kinds-are inp p (k ∷ ks) h e) ∙ sym (joined-has (eqb x k) ks x) ∙ f

pub stands-neither : (inp : Input) (hs gs : List Head) (p : Counters) → stands inp hs p ≡ false → stands inp gs p ≡ false → stands inp (hs ++ gs) p ≡ false
unfolding stands
stands-neither inp hs gs p = go (eqb p.stop 0)
  where
    go : (t : Bool) → cond t (at hs (rest inp p)) false ≡ false → cond t (at gs (rest inp p)) false ≡ false → cond t (at (hs ++ gs) (rest inp p)) false ≡ false
    go true d e = at-neither hs gs (rest inp p) d e
    go false d e = refl

no_heads : (inp : Input) (p : Counters) → stands inp [] p ≡ false
unfolding stands
no_heads inp p = go (eqb p.stop 0)
  where
    go : (t : Bool) → cond t false false ≡ false
    go true = refl
    go false = refl

-- Heads that were tested one by one, and none stands.
infixr 60 ◌nor◌
pub data Absent (inp : Input) (p : Counters) : List Head → Type 0 where
  nothing-else : Absent inp p []
  ◌nor◌ : {h : Head} {hs : List Head} → stands inp (h ∷ []) p ≡ false → Absent inp p hs → Absent inp p (h ∷ hs)

pub absent : {inp : Input} {p : Counters} {hs : List Head} → Absent inp p hs → stands inp hs p ≡ false
absent {inp} {p} nothing-else = no_heads inp p
absent {inp} {p} (◌nor◌ {h} {hs} e es) = stands-neither inp (h ∷ []) hs p e (absent es)

-- WHICH FORM STANDS ----------------------------------------------------------------------------------------------------

-- Where none of the heads stands, the kinds do not form-stands in a row: their first or their first two are among the heads.
abbrev barred : List Head → List ℕ → Bool
barred hs [] = false
barred hs (k ∷ []) = among hs (one k)
barred hs (k ∷ l ∷ ls) = among hs (one k) || among hs (two k l)

abbrev pub all-barred : List Head → List Form → Bool
all-barred hs [] = true
all-barred hs (c ∷ cs) = barred hs (kinds_of c) && all-barred hs cs

form-stands-one : (k : ℕ) (ks xs : List ℕ) → starts (one k) xs ≡ false → form-stands (k ∷ ks) xs ≡ false
form-stands-one k ks [] e = refl
form-stands-one k ks (x ∷ xs) e = rw e refl

form-stands-two : (k l : ℕ) (ks xs : List ℕ) → starts (two k l) xs ≡ false → form-stands (k ∷ l ∷ ks) xs ≡ false
form-stands-two k l ks [] e = refl
form-stands-two k l ks (x ∷ xs) e = go (eqb x k) e
  where
    go : (t : Bool) → (t && is l xs) ≡ false → (t && form-stands (l ∷ ks) xs) ≡ false
    go true d = form-stands-one l ks xs d
    go false d = refl

barred-absent : (hs : List Head) (ks xs : List ℕ) → barred hs ks ≡ true → at hs xs ≡ false → form-stands ks xs ≡ false
barred-absent hs [] xs b e = never b
barred-absent hs (k ∷ []) xs b e = form-stands-one k [] xs (among-absent hs (one k) xs b e)
barred-absent hs (k ∷ l ∷ ls) xs b e =
    ⊎_elim
    (λ a. form-stands-one k (l ∷ ls) xs (among-absent hs (one k) xs a e))
    (λ a. form-stands-two k l ls xs (among-absent hs (two k l) xs a e))
    (or_cases (among hs (one k)) (among hs (two k l)) b)

pub best_none : (hs : List Head) (cs : List Form) (xs : List ℕ) → all-barred hs cs ≡ true → at hs xs ≡ false → best cs xs ≡ none
unfolding best
best_none hs [] xs b e = refl
best_none hs (c ∷ cs) xs b e =
    rw (barred-absent hs (kinds_of c) xs (and_l (barred hs (kinds_of c)) (all-barred hs cs) b) e)
    (best_none hs cs xs (and_r (barred hs (kinds_of c)) (all-barred hs cs) b) e)

longer-some : (c : Form) (o : Option Form) → longer c o ≡ none → ⊥
longer-some c none e = none-ne-some c (sym e)
longer-some c (some d) e = go (ltb (length (kinds_of c)) (length (kinds_of d))) e
  where
    go : (t : Bool) → cond t (some d) (some c) ≡ none → ⊥
    go true q = none-ne-some d (sym q)
    go false q = none-ne-some c (sym q)

-- Forms of which none stands, before others.
pub best-append : (cs ds : List Form) (xs : List ℕ) → best cs xs ≡ none → best (cs ++ ds) xs ≡ best ds xs
unfolding best
best-append [] ds xs e = refl
best-append (c ∷ cs) ds xs e = go (form-stands (kinds_of c) xs) (best cs xs) e (λ q. best-append cs ds xs q)
  where
    go : (t : Bool) (o : Option Form) → cond t (longer c o) o ≡ none → (o ≡ none → best (cs ++ ds) xs ≡ best ds xs) →
        cond t (longer c (best (cs ++ ds) xs)) (best (cs ++ ds) xs) ≡ best ds xs
    go true o q ih = absurd (longer-some c o q)
    go false o q ih = ih q

-- READINGS -------------------------------------------------------------------------------------------------------------

-- Two parts are read alike.
abbrev pub Alike : (d : ℕ) (P Q : Part Rule) → List ℕ → Type 0
Alike d P Q xs = (n : ℕ) → read grammar n d P xs ≡ read grammar n d Q xs

-- A form of one word.
pub word-form : (cs : List Form) (d k : ℕ) → ((ys : List ℕ) → best cs (k ∷ ys) ≡ some (row (k ∷ []))) → (xs : List ℕ) → at (one k ∷ []) xs ≡ true →
    Alike d (tok unmet (k ∷ [])) (longest cs) xs
unfolding read step take_one take_form
word-form cs d k f = begins-one k (Alike d (tok unmet (k ∷ [])) (longest cs)) (λ ys n. rw (f ys, eq-eqb k k refl) refl)

-- A form of one word, if it stands, where no other form does.
pub maybe-form : (hs : List Head) (cs : List Form) (d k : ℕ) → all-barred (hs ++ one k ∷ []) cs ≡ true → ((ys : List ℕ) → best cs (k ∷ ys) ≡ some (row (k ∷ []))) →
    (xs : List ℕ) → at hs xs ≡ false → Alike d (opt free (tok unmet (k ∷ []))) (longest cs) xs
unfolding read step first ones take_form
maybe-form hs cs d k a f xs e n = go (at (one k ∷ []) xs) refl
  where
    go : (t : Bool) → at (one k ∷ []) xs ≡ t → read grammar n d (opt free (tok unmet (k ∷ []))) xs ≡ read grammar n d (longest cs) xs
    go true q = rw q (word-form cs d k f xs q n)
    go false q = rw (q, best_none (hs ++ one k ∷ []) cs xs a (at-neither hs (one k ∷ []) xs e q)) refl

module _ {d : ℕ} {p : Parser} where
  -- One part is read as the other: where one of the heads stands, where none does, or both.
  module _ {P Q : Part Rule} (hs : List Head) {r : Parser} where
    pub r-where : ((xs : List ℕ) → at hs xs ≡ true → Alike d P Q xs) → stand hs p ≡ true → ReadsWithin d P p r → ReadsWithin d Q p r
    r-where f e x = r-same (λ n h. f (rest (source p.tokens) (counters p)) (stands_at (source p.tokens) hs (counters p) e h) n) x

    pub r-unless : ((xs : List ℕ) → at hs xs ≡ false → Alike d P Q xs) → stand hs p ≡ false → ReadsWithin d P p r → ReadsWithin d Q p r
    r-unless f e x = r-same (λ n h. f (rest (source p.tokens) (counters p)) (stands_at (source p.tokens) hs (counters p) e h) n) x

    pub r-where_unless : (gs : List Head) → ((xs : List ℕ) → at hs xs ≡ true → at gs xs ≡ false → Alike d P Q xs) → stand hs p ≡ true →
        stand gs p ≡ false → ReadsWithin d P p r → ReadsWithin d Q p r
    r-where_unless gs f e g x =
        r-same (λ n h. f (rest (source p.tokens) (counters p)) (stands_at (source p.tokens) hs (counters p) e h) (stands_at (source p.tokens) gs (counters p) g h) n) x

  -- No form is read where none of the heads stands.
  pub r-no_form : (hs : List Head) (cs : List Form) → all-barred hs cs ≡ true → stand hs p ≡ false → ReadsWithin d (longest cs) p p
  unfolding read step take_form
  r-no_form hs cs a e =
      let inp = source p.tokens in
      record {
        did = record {
          did = λ n l. became_same (λ h. sym (rw (best_none hs cs (rest inp (counters p)) a (stands_at inp hs (counters p) e h)) refl)) became_nothing;
        };
        same = same;
      }

-- A form of two words.
pub r-pair : {d : ℕ} (cs : List Form) (k l : ℕ) {p q r : Parser} → ((ys : List ℕ) → best cs (k ∷ l ∷ ys) ≡ some (row (k ∷ l ∷ []))) →
    stand (two k l ∷ []) p ≡ true → ReadsWithin d (tok unmet (k ∷ [])) p q → ReadsWithin d (tok unmet (l ∷ [])) q r → ReadsWithin d (longest cs) p r
unfolding read step take_one take_form
r-pair {d = d} cs k l f h x y = r-where (two k l ∷ []) alike h (r-seq x y)
  where
    alike : (xs : List ℕ) → at (two k l ∷ []) xs ≡ true → Alike d (seq (tok unmet (k ∷ [])) (tok unmet (l ∷ []))) (longest cs) xs
    alike =
        begins-two k l (Alike d (seq (tok unmet (k ∷ [])) (tok unmet (l ∷ []))) (longest cs))
        (λ ys n. rw (f ys, eq-eqb k k refl, eq-eqb l l refl) refl)
