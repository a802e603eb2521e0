-- Demand 3 for the definitions, for every text and all limits: where no opener too many stands, the reading is clean exactly when
-- 01's literal grammar derives the kinds of the text's non-trivia tokens; the derivation is unique; the tree that the events spell
-- is it; and its leaves are those kinds. A reading is turned into what `predictive` speaks of, its forest; the literal grammar into
-- the one that is read (`Literal`); and the kinds into the symbols, in which C-style literals are marked (`Unmarked`). Assumes nothing.
use Prim.Native.Nat.{ℕ, suc, ◌+◌, ◌≤◌}
use native.Mathlib.Nat.{not-suc-le-zero}
use native.Mathlib.Omega.{arith}
use mathlib.Core.Path.{◌≡◌, refl, sym, ap, subst, ◌∙◌}
use mathlib.Core.Logic.{◌↔◌, ◌⊎◌, ⊎_elim}
use mathlib.Core.Bool.{true, false}
use mathlib.Core.List.{List, [], ◌∷◌, map}
use lib.ListN.{length, length-append, length-map}
use Rattle.predictive.specs.Forest.{Forest, tree, leaves}
use Rattle.predictive.specs.Grammar.{Derives}
use Rattle.predictive.specs.Reader.{Result, miss, done, read}
use Rattle.predictive.specs.Events.{events_of, taken, erring, any_fault, stops}
use Rattle.predictive.specs.Events
use Rattle.predictive.specs.Tree.{spell}
use Rattle.predictive.proofs.Tests.{never}
use Rattle.predictive.proofs.Forests.{leaves-tree}
use Rattle.predictive.proofs.Faults.{amiss}
use Rattle.predictive.proofs.EventLaws.{erring-events, erring-reading, taken-events}
use Rattle.predictive.proofs.Spell.{spell-events}
use Rattle.predictive.proofs.Readings.{reading-leaves}
use Rattle.predictive.proofs.Sound.{sound}
use Rattle.predictive.proofs.Exactly.{derived-clean, derived-read, unique, derived-leaves, derived-proper}
use Rattle.aadl.specs.Limits.{Limits}
use Rattle.aadl.specs.Symbols.{shown, symbols, kinds}
use Rattle.aadl.specs.Section.{grammar, section}
use Rattle.aadl.specs.Reading.{reading, events, too_deep, Clean, Derivation}
use Rattle.aadl.proofs.SectionTest.{tables, grammar-fine, section-good}
use Rattle.aadl.proofs.Literal.{read-is_literal}
use Rattle.aadl.proofs.SymbolLaws.{symbols-show_kinds}
use Rattle.aadl.proofs.Unmarked.{derives-unmarked}

-- WHAT A READING'S EVENTS SAY ------------------------------------------------------------------------------------------

none_left : (ys : List ℕ) → length ys ≤ 0 → ys ≡ []
none_left [] h = refl
none_left (y ∷ ys) h = absurd (not-suc-le-zero h)

module _ (limits : Limits) (xs : List ℕ) where
  abbrev pub Derived : Forest → Type 0
  Derived f = Derives grammar section f xs []

  -- A clean reading is a forest without a fault and leaves nothing, so it is derived.
  clean-derived : (r : Result) → reading limits xs ≡ r → erring any_fault (events_of r) ≡ false → taken (events_of r) ≡ length xs →
      (f : Forest) × Derived f
  unfolding reading events_of amiss
  clean-derived (miss m ys) e c t = never (sym c ∙ erring-reading any_fault (miss m ys))
  clean-derived (done f ys) e c t =
      let s = reading-leaves grammar tables grammar-fine (suc (length xs)) limits.openers section section-good xs f ys e in
      let n : length (leaves f) + length (map shown ys) ≡ length (leaves f) + length ys = ap (λ (j : ℕ). length (leaves f) + j) (length-map ys shown) in
      let l : length xs ≡ length (leaves f) + length ys = sym (length-map xs shown) ∙ ap length s ∙ length-append (leaves f) (map shown ys) ∙ n in
      let rest = none_left ys (omega (arith, l, t, taken-events f 0)) in
      let to_end = subst (λ (zs : List ℕ). read grammar (suc (length xs)) limits.openers section xs ≡ done f zs) rest e in
      (f, sound grammar tables grammar-fine (suc (length xs)) limits.openers section section-good xs f [] to_end (sym (erring-events any_fault f 0) ∙ c))

  -- What is derived is read as its forest, where no opener too many stands.
  derived-read_or_deep : (f : Forest) → Derived f → (amiss stops (reading limits xs) ≡ true) ⊎ (reading limits xs ≡ done f [])
  unfolding reading
  derived-read_or_deep f d =
      derived-read grammar tables grammar-fine section section-good (suc (length xs)) limits.openers xs f (omega arith) d

  not_deep : too_deep limits xs ≡ false → amiss stops (reading limits xs) ≡ false
  unfolding too_deep events
  not_deep n = sym (erring-reading stops (reading limits xs)) ∙ n

  derived-reading : (f : Forest) → too_deep limits xs ≡ false → Derived f → reading limits xs ≡ done f []
  derived-reading f n d = ⊎_elim (λ (e : amiss stops (reading limits xs) ≡ true). never (sym (not_deep n) ∙ e)) (λ e. e) (derived-read_or_deep f d)

  -- The events of what is derived are its forest's.
  pub derived-events : (f : Forest) → too_deep limits xs ≡ false → Derived f → events limits xs ≡ Events.events f 0
  unfolding events events_of
  derived-events f n d = ap events_of (derived-reading f n d)

-- THE THEOREM ----------------------------------------------------------------------------------------------------------

-- What demand 3 says of a text with the symbols xs and the kinds ks.
pub record Demand3 (limits : Limits) (xs ks : List ℕ) : Type 0 where
  -- the reading is clean exactly when 01's grammar derives the kinds
  pub exactly : Clean limits xs ↔ ((t : Forest) × Derivation ks t)
  -- the derivation is unique
  pub unique : (t u : Forest) → Derivation ks t → Derivation ks u → t ≡ u
  -- the tree that the events spell is it
  pub spelled : (t : Forest) → Derivation ks t → spell (events limits xs) ≡ t
  -- its leaves are the kinds
  pub its-leaves : (t : Forest) → Derivation ks t → leaves t ≡ ks

-- The forest of a derivation, which the grammar as it is read derives from the kinds, and from the symbols that show them.
from-kinds : {ks : List ℕ} {t : Forest} (d : Derivation ks t) → Derives grammar section d.0 ks []
from-kinds {ks} d = (read-is_literal d.0 ks).1 d.1

pub from-symbols : {xs : List ℕ} {t : Forest} (d : Derivation (map shown xs) t) → Derives grammar section d.0 xs []
from-symbols {xs} d = (read-is_literal d.0 xs).1 ((derives-unmarked d.0 xs).1 d.1)

-- Two derivations of the same kinds are the same tree, with no condition on depth.
pub one-derivation : (ks : List ℕ) (t u : Forest) → Derivation ks t → Derivation ks u → t ≡ u
one-derivation ks t u d e =
    d.2
    ∙ ap tree (unique grammar tables grammar-fine section section-good ks d.0 e.0 (from-kinds d) (from-kinds e))
    ∙ sym e.2

pub clean-exactly : (limits : Limits) (xs : List ℕ) → too_deep limits xs ≡ false → Clean limits xs ↔ ((t : Forest) × Derivation (map shown xs) t)
unfolding events
clean-exactly limits xs n = (to, from)
  where
    to : Clean limits xs → (t : Forest) × Derivation (map shown xs) t
    to c =
        let d = clean-derived limits xs (reading limits xs) refl c.no_error c.all_taken in
        (tree d.0, (d.0, (derives-unmarked d.0 xs).0 ((read-is_literal d.0 xs).0 d.1), refl))

    from : ((t : Forest) × Derivation (map shown xs) t) → Clean limits xs
    from u =
        let f = u.1.0 in
        let d : Derives grammar section f xs [] = from-symbols u.1 in
        let e = derived-events limits xs f n d in
        let l = derived-leaves grammar tables grammar-fine section section-good xs f d in
        record { no_error = ap (erring any_fault) e ∙ erring-events any_fault f 0 ∙ derived-clean grammar d; all_taken = ap taken e ∙ taken-events f 0 ∙ ap length l ∙ length-map xs shown }

pub spelled-derivation : (limits : Limits) (xs : List ℕ) (t : Forest) → too_deep limits xs ≡ false → Derivation (map shown xs) t → spell (events limits xs) ≡ t
spelled-derivation limits xs t n d =
    ap spell (derived-events limits xs d.0 n (from-symbols d))
    ∙ spell-events d.0 (derived-proper grammar tables grammar-fine section section-good xs d.0 (from-symbols d))
    ∙ sym d.2

pub derivation-leaves : (xs : List ℕ) (t : Forest) → Derivation (map shown xs) t → leaves t ≡ map shown xs
derivation-leaves xs t d =
    ap leaves d.2 ∙ leaves-tree d.0 ∙ derived-leaves grammar tables grammar-fine section section-good xs d.0 (from-symbols d)

pub demand_3 : (limits : Limits) (text : List ℕ) → too_deep limits (symbols text) ≡ false → Demand3 limits (symbols text) (kinds text)
demand_3 limits text n =
    subst (Demand3 limits (symbols text)) (symbols-show_kinds text)
    (record {
      exactly = clean-exactly limits (symbols text) n;
      unique = one-derivation (map shown (symbols text));
      spelled = λ t d. spelled-derivation limits (symbols text) t n d;
      its-leaves = λ t d. derivation-leaves (symbols text) t d;
    })
