-- Marks of two and three bytes by their bytes: each stands where its bytes do, and where no such mark does the first byte decides (Marks).
-- Assumes nothing.
use Prim.Native.Nat.{ℕ}
use mathlib.Core.Path.{◌≡◌, refl, sym}
use mathlib.Core.Bool.{Bool, true, false, ◌&&◌}
use mathlib.Core.List.{List, [], ◌∷◌}
use lib.Dec.{eqb}
use borrow.Author.Tests.{eqb-true}
use Rattle.std.specs.Prelude.{Some}
use Rattle.predictive.specs.Grammar.{stand}
use Rattle.aadl.specs.Tokens.{token, marks}
use Rattle.scan.specs.Inner.{longest}
use Rattle.scan.proofs.Marks.{longer-stands, longest-first}

not-two : (a b k l : ℕ) (cs : List ℕ) → (a ≡ k → b ≡ l → ⊥) → stand (k ∷ l ∷ []) (a ∷ b ∷ cs) ≡ false
not-two a b k l cs n = go (eqb a k) refl (eqb b l) refl
  where
    go : (p : Bool) → eqb a k ≡ p → (q : Bool) → eqb b l ≡ q → (p && (q && true)) ≡ false
    go false d q e = refl
    go true d false e = refl
    go true d true e = absurd (n (eqb-true a k d) (eqb-true b l e))

not-three : (a b c k l m : ℕ) → (a ≡ k → b ≡ l → c ≡ m → ⊥) → stand (k ∷ l ∷ m ∷ []) (a ∷ b ∷ c ∷ []) ≡ false
not-three a b c k l m n = go (eqb a k) refl (eqb b l) refl (eqb c m) refl
  where
    go : (p : Bool) → eqb a k ≡ p → (q : Bool) → eqb b l ≡ q → (r : Bool) → eqb c m ≡ r → (p && (q && (r && true))) ≡ false
    go false d q e r f = refl
    go true d false e r f = refl
    go true d true e false f = refl
    go true d true e true f = absurd (n (eqb-true a k d) (eqb-true b l e) (eqb-true c m f))

module _ (a b c : ℕ) where
  pub fat_arrow : a ≡ 61 → b ≡ 62 → longest (a ∷ b ∷ c ∷ []) ≡ Some (token 18 2)
  unfolding marks
  fat_arrow p q = sym (λ i. longest (sym p i ∷ sym q i ∷ c ∷ []))

  pub colon_colon : a ≡ 58 → b ≡ 58 → longest (a ∷ b ∷ c ∷ []) ≡ Some (token 24 2)
  unfolding marks
  colon_colon p q = sym (λ i. longest (sym p i ∷ sym q i ∷ c ∷ []))

  pub dot_dot : a ≡ 46 → b ≡ 46 → longest (a ∷ b ∷ c ∷ []) ≡ Some (token 9 2)
  unfolding marks
  dot_dot p q = sym (λ i. longest (sym p i ∷ sym q i ∷ c ∷ []))

  pub arrow : a ≡ 45 → b ≡ 62 → longest (a ∷ b ∷ c ∷ []) ≡ Some (token 16 2)
  unfolding marks
  arrow p q = sym (λ i. longest (sym p i ∷ sym q i ∷ c ∷ []))

  pub dash_bracket : a ≡ 45 → b ≡ 91 → longest (a ∷ b ∷ c ∷ []) ≡ Some (token 28 2)
  unfolding marks
  dash_bracket p q = sym (λ i. longest (sym p i ∷ sym q i ∷ c ∷ []))

  pub plus_arrow : a ≡ 43 → b ≡ 61 → c ≡ 62 → longest (a ∷ b ∷ c ∷ []) ≡ Some (token 19 3)
  unfolding marks
  plus_arrow p q r = sym (λ i. longest (sym p i ∷ sym q i ∷ sym r i ∷ []))

  pub annex_open : a ≡ 123 → b ≡ 42 → c ≡ 42 → longest (a ∷ b ∷ c ∷ []) ≡ Some (token 25 3)
  unfolding marks
  annex_open p q r = sym (λ i. longest (sym p i ∷ sym q i ∷ sym r i ∷ []))

  pub annex_close : a ≡ 42 → b ≡ 42 → c ≡ 125 → longest (a ∷ b ∷ c ∷ []) ≡ Some (token 26 3)
  unfolding marks
  annex_close p q r = sym (λ i. longest (sym p i ∷ sym q i ∷ sym r i ∷ []))

  pub bracket_arrow : a ≡ 93 → b ≡ 45 → c ≡ 62 → longest (a ∷ b ∷ c ∷ []) ≡ Some (token 29 3)
  unfolding marks
  bracket_arrow p q r = sym (λ i. longest (sym p i ∷ sym q i ∷ sym r i ∷ []))

  pub bidi_arrow : a ≡ 60 → b ≡ 45 → c ≡ 62 → longest (a ∷ b ∷ c ∷ []) ≡ Some (token 17 3)
  unfolding marks
  bidi_arrow p q r = sym (λ i. longest (sym p i ∷ sym q i ∷ sym r i ∷ []))

  pub first_alone : (a ≡ 61 → b ≡ 62 → ⊥)
      → (a ≡ 58 → b ≡ 58 → ⊥)
      → (a ≡ 46 → b ≡ 46 → ⊥)
      → (a ≡ 45 → b ≡ 62 → ⊥)
      → (a ≡ 45 → b ≡ 91 → ⊥)
      → (a ≡ 43 → b ≡ 61 → c ≡ 62 → ⊥)
      → (a ≡ 123 → b ≡ 42 → c ≡ 42 → ⊥)
      → (a ≡ 42 → b ≡ 42 → c ≡ 125 → ⊥)
      → (a ≡ 93 → b ≡ 45 → c ≡ 62 → ⊥)
      → (a ≡ 60 → b ≡ 45 → c ≡ 62 → ⊥)
      → longest (a ∷ b ∷ c ∷ []) ≡ longest (a ∷ [])
  unfolding marks
  first_alone n1 n2 n3 n4 n5 n6 n7 n8 n9 n10 =
      let none : longer-stands marks (a ∷ b ∷ c ∷ []) ≡ false =
      rw (
        not-two a b 61 62 (c ∷ []) n1,
        not-two a b 58 58 (c ∷ []) n2,
        not-two a b 46 46 (c ∷ []) n3,
        not-two a b 45 62 (c ∷ []) n4,
        not-two a b 45 91 (c ∷ []) n5,
        not-three a b c 43 61 62 n6,
        not-three a b c 123 42 42 n7,
        not-three a b c 42 42 125 n8,
        not-three a b c 93 45 62 n9,
        not-three a b c 60 45 62 n10,
      ) refl in
      longest-first a (b ∷ c ∷ []) none

pub ruleset by_bytes = (fat_arrow, colon_colon, dot_dot, arrow, dash_bracket, plus_arrow, annex_open, annex_close, bracket_arrow, bidi_arrow, first_alone)
