-- The theorems on a good part of a grammar that passes the test: what is read without a fault is exactly what is derived, unless
-- an opener too many is met; a text has one forest at most, and this forest is proper and its leaves are the text. The part's
-- `sound` and `complete` give the two directions; what a derivation alone shall have is taken from its reading with as many
-- openers as it needs. Assumes nothing.
use Prim.Native.Nat.{ℕ, suc, ◌+◌, ◌<◌}
use native.Mathlib.Omega.{arith}
use mathlib.Core.Path.{◌≡◌, refl, sym, ap, ◌∙◌}
use mathlib.Core.Logic.{◌↔◌, ◌⊎◌, ⊎_elim}
use mathlib.Core.Bool.{true, false}
use mathlib.Core.List.{List, [], map, append-nil}
use lib.ListN.{length}
use Rattle.predictive.specs.Forest.{Forest, nil, leaf, leaves}
use Rattle.predictive.specs.Grammar.{Form, row, row_in, broken, row_of, shape, whole_form, Part, Grammar}
use Rattle.predictive.specs.Grammar.{Derives, Many, Leaning, d_tok, d_pair, d_look, d_any, d_any_end, d_longest, d_no_form, d_seq, d_left, d_right, d_some, d_none, d_many, d_until, d_at_once, d_inside, d_alone, d_with, d_leaning, d_before, d_opens, d_rule, m_nil, m_cons, l_one, l_more}
use Rattle.predictive.specs.Reader.{done, read}
use Rattle.predictive.specs.Events.{any_fault, stops}
use Rattle.predictive.proofs.Tests.{never}
use Rattle.predictive.proofs.Faults.{faulty, amiss, faulty-row, clean-then, clean-node, clean-wrap, agrees-or, agrees-surely}
use Rattle.predictive.proofs.Heads.{at_end}
use Rattle.predictive.proofs.Lookahead.{ends, good, Tables, Fine}
use Rattle.predictive.proofs.Proper.{Proper}
use Rattle.predictive.proofs.Readings.{reading-leaves, reading-proper}
use Rattle.predictive.proofs.Sound.{sound}
use Rattle.predictive.proofs.Complete.{nest, complete}

-- NO FAULT IS DERIVED --------------------------------------------------------------------------------------------------

clean-as : {f h : Forest} → h ≡ f → faulty any_fault f ≡ false → faulty any_fault h ≡ false
clean-as e c = ap (λ (t : Forest). faulty any_fault t) e ∙ c

clean-shape : (shown : ℕ → ℕ) (c : Form) → whole_form c ≡ true → faulty any_fault (shape shown c) ≡ false
unfolding faulty
clean-shape shown (row ks) w = faulty-row any_fault shown ks nil
clean-shape shown (row_in k ks) w = clean-node any_fault k (row_of shown ks nil) (faulty-row any_fault shown ks nil)
clean-shape shown (broken k ks m) w = never w

module _ (G : Grammar) where
  mutual
    unfolding faulty

    pub derived-clean : {p : Part G.Rule} {f : Forest} {xs ys : List ℕ} → Derives G p f xs ys → faulty any_fault f ≡ false
    derived-clean (d_tok h i) = clean-as i refl
    derived-clean (d_pair i) = clean-as i refl
    derived-clean (d_look h i) = clean-as i refl
    derived-clean (d_any i) = clean-as i refl
    derived-clean d_any_end = refl
    derived-clean (d_longest {c = c} e w h i) = clean-as i (clean-shape G.shown c w)
    derived-clean (d_no_form h) = refl
    derived-clean (d_seq {f = f} {g = g} a b h) = clean-as h (clean-then any_fault f g (derived-clean a) (derived-clean b))
    derived-clean (d_left a) = derived-clean a
    derived-clean (d_right a m) = derived-clean a
    derived-clean (d_some a) = derived-clean a
    derived-clean (d_none m) = refl
    derived-clean (d_many a) = many-clean a
    derived-clean (d_until {k = k} {f = f} a h) = clean-as h (clean-then any_fault f (leaf (G.shown k) nil) (derived-clean a) refl)
    derived-clean (d_at_once i) = clean-as i refl
    derived-clean (d_inside {k = k} {f = f} a) = clean-node any_fault k f (derived-clean a)
    derived-clean (d_alone a m) = derived-clean a
    derived-clean (d_with {k = k} {f = f} {g = g} a b) = clean-wrap any_fault k f g (derived-clean a) (derived-clean b)
    derived-clean (d_leaning a) = leaning-clean a
    derived-clean (d_before a n) = derived-clean a
    derived-clean (d_opens a) = derived-clean a
    derived-clean (d_rule a) = derived-clean a

    many-clean : {p : Part G.Rule} {f : Forest} {xs ys : List ℕ} → Many G p f xs ys → faulty any_fault f ≡ false
    many-clean m_nil = refl
    many-clean (m_cons {f = f} {g = g} a b h) = clean-as h (clean-then any_fault f g (derived-clean a) (many-clean b))

    leaning-clean : {k : ℕ} {p q : Part G.Rule} {f : Forest} {xs ys : List ℕ} → Leaning G k p q f xs ys → faulty any_fault f ≡ false
    leaning-clean (l_one a) = derived-clean a
    leaning-clean (l_more {k = k} {f = f} {g = g} a b) = clean-wrap any_fault k f g (leaning-clean a) (derived-clean b)

-- WHAT IS DERIVED IS READ ----------------------------------------------------------------------------------------------

module _ (G : Grammar) (T : Tables G) (fine : Fine G T) (p : Part G.Rule) (g : good G T p ≡ true) where
  -- with enough openers a derived text is read as its forest
  derived-read_deep : (xs : List ℕ) (f : Forest) (a : Derives G p f xs []) (bound d : ℕ) → length xs < bound → nest G a < d →
      read G bound d p xs ≡ done f []
  derived-read_deep xs f a bound d l n = agrees-surely (complete G T fine bound ⊥ d p g xs f [] a (at_end (ends G T p)) l (λ o. omega arith))

  -- A derived text is read as its forest, unless an opener too many is met.
  pub derived-read : (bound d : ℕ) (xs : List ℕ) (f : Forest) → length xs < bound → Derives G p f xs [] →
      (amiss stops (read G bound d p xs) ≡ true) ⊎ (read G bound d p xs ≡ done f [])
  derived-read bound d xs f l a = agrees-or (complete G T fine bound (Unit {0}) d p g xs f [] a (at_end (ends G T p)) l (λ o. tt))

  -- A text has one forest at most.
  pub unique : (xs : List ℕ) (f f' : Forest) → Derives G p f xs [] → Derives G p f' xs [] → f ≡ f'
  unique xs f f' a b =
      let d = suc (nest G a + nest G b) in
      let u = derived-read_deep xs f a (suc (length xs)) d (omega arith) (omega arith) in
      let v = derived-read_deep xs f' b (suc (length xs)) d (omega arith) (omega arith) in
      cc

  -- The leaves of a text's forest show the text.
  pub derived-leaves : (xs : List ℕ) (f : Forest) → Derives G p f xs [] → leaves f ≡ map G.shown xs
  derived-leaves xs f a =
      let d = suc (nest G a) in
      let u = derived-read_deep xs f a (suc (length xs)) d (omega arith) (omega arith) in
      sym (reading-leaves G T fine (suc (length xs)) d p g xs f [] u ∙ append-nil (leaves f))

  -- A text's forest is proper: its events spell its tree.
  pub derived-proper : (xs : List ℕ) (f : Forest) → Derives G p f xs [] → Proper f
  derived-proper xs f a =
      let d = suc (nest G a) in
      let u = derived-read_deep xs f a (suc (length xs)) d (omega arith) (omega arith) in
      reading-proper G T fine (suc (length xs)) d p g xs f [] u

  -- Where no opener too many is met, a text is read to its end without a fault exactly if it is derived.
  pub exactly : (bound d : ℕ) (xs : List ℕ) (f : Forest) → length xs < bound → amiss stops (read G bound d p xs) ≡ false →
      ((read G bound d p xs ≡ done f []) × (faulty any_fault f ≡ false)) ↔ Derives G p f xs []
  exactly bound d xs f l n = (λ c. sound G T fine bound d p g xs f [] c.0 c.1, λ a. (⊎_elim (λ e. never (sym n ∙ e)) (λ e. e) (derived-read bound d xs f l a), derived-clean G a))
