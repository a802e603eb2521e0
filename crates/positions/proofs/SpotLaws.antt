-- Lines and columns go on from where they stand: walking in steps is walking at once. Assumes nothing.
use Prim.Native.Nat.{ℕ, suc, ◌+◌, ◌-◌, ◌≤◌, ◌<◌, min, max}
use native.Mathlib.Nat.{sub-zero}
use native.Mathlib.Numerals.{add-one}
use native.Mathlib.Omega.{arith}
use mathlib.Core.Path.{◌≡◌, refl, sym, ap, ◌∙◌}
use mathlib.Core.Bool.{Bool, true, false, cond}
use mathlib.Core.List.{List, [], ◌∷◌, ◌++◌}
use lib.ListN.{length, take, drop, get_or, length-take}
use lib.Seq.{drop-drop, take-add, take_all, take-suc}
use lib.Dec.{eqb, leb}
use borrow.Author.Tests.{leb-true, leb-false}
use Rattle.aadl.specs.Listing.{line_after, column}
use Rattle.aadl.proofs.Characters.{WellFormed}
use Rattle.writing.proofs.LeastLaws.{take_within}
use Rattle.positions.specs.declared.Spot.{Spot}
use Rattle.positions.specs.Spots.{column_behind, column_after, capped, first, between, spot_after}
use Rattle.positions.proofs.ColumnLaws.{column_after-append, column-within, column-capped, column-counted}

line-after_append : (l : ℕ) (xs ys : List ℕ) → line_after l (xs ++ ys) ≡ line_after (line_after l xs) ys
line-after_append l [] ys = refl
line-after_append l (x ∷ xs) ys = line-after_append (cond (eqb x 10) (suc l) l) xs ys

-- A BOUND AND A CAP ----------------------------------------------------------------------------------------------------

line-within : (l : ℕ) (bs : List ℕ) → line_after l bs ≤ l + length bs
line-within l [] = omega arith
line-within l (b ∷ bs) = go (eqb b 10) (line-within (cond (eqb b 10) (suc l) l) bs)
  where
    go : (t : Bool) {n : ℕ} → n ≤ cond t (suc l) l + length bs → n ≤ l + suc (length bs)
    go true h = omega arith
    go false h = omega arith

-- what is past the cap does not show later
line-capped : (l m : ℕ) (bs : List ℕ) → capped l ≡ capped m → capped (line_after l bs) ≡ capped (line_after m bs)
line-capped l m [] e = e
line-capped l m (b ∷ bs) e = line-capped (cond (eqb b 10) (suc l) l) (cond (eqb b 10) (suc m) m) bs (go (eqb b 10))
  where
    go : (t : Bool) → capped (cond t (suc l) l) ≡ capped (cond t (suc m) m)
    go true = omega arith
    go false = e

-- BYTES BETWEEN PLACES -------------------------------------------------------------------------------------------------

between_none : (text : List ℕ) (i j : ℕ) → j ≤ i → between text i j ≡ []
between_none text i j h =
    let z : j - i ≡ 0 = omega arith in
    rw z refl

between-append : (text : List ℕ) (i j k : ℕ) → i ≤ j → j ≤ k → between text i k ≡ between text i j ++ between text j k
between-append text i j k h g =
    let n : k - i ≡ (j - i) + (k - j) = omega arith in
    let m : i + (j - i) ≡ j = omega arith in
    ap (λ (x : ℕ). take x (drop i text)) n ∙ take-add (j - i) (k - j) (drop i text)
    ∙ ap (λ (l : List ℕ). between text i j ++ take (k - j) l) (drop-drop (j - i) i text ∙ ap (λ (x : ℕ). drop x text) m)

-- SPOTS ----------------------------------------------------------------------------------------------------------------

-- Behind the first bytes: the line and the column that a walk over them gives.
pub record Walking (bs : List ℕ) (line₀ column₀ i line column : ℕ) : Type 0 where
  pub lines : line ≡ capped (line_after line₀ (take i bs))
  pub columns : column ≡ capped (column_after column₀ (take i bs))

pub walking_starts : (bs : List ℕ) (line column : ℕ) → line ≤ 4294967295 → column ≤ 4294967295 → Walking bs line column 0 line column
walking_starts bs line column h g = record { lines = omega arith; columns = omega arith }

module _ {bs : List ℕ} {line₀ column₀ i line column : ℕ} (w : Walking bs line₀ column₀ i line column) where
  pub walking_more : (l c : ℕ) → i < length bs → l ≡ capped (line_after line (get_or bs i 0 ∷ [])) → c ≡ capped (column_behind column (get_or bs i 0)) →
      Walking bs line₀ column₀ (i + 1) l c
  walking_more l c h p q =
      let b = get_or bs i 0 in
      let front = take i bs in
      let more : front ++ (b ∷ []) ≡ take (i + 1) bs = sym (ap (λ (k : ℕ). take k bs) (add-one i) ∙ take-suc bs i 0 h) in
      record {
        lines =
            p ∙ line-capped line (line_after line₀ front) (b ∷ []) (omega (arith, w.lines))
            ∙ ap capped (sym (line-after_append line₀ front (b ∷ [])) ∙ ap (line_after line₀) more);
        columns =
            q ∙ column-capped column (column_after column₀ front) (b ∷ []) (omega (arith, w.columns))
            ∙ ap capped (sym (column_after-append column₀ front (b ∷ [])) ∙ ap (column_after column₀) more);
      }

-- Behind all bytes between a spot and a later place stands the place's spot.
pub walking_ends : (text : List ℕ) (s : Spot) (p : ℕ) {end i line column : ℕ} → Walking (between text s.place end) s.line s.column i line column →
    end ≡ min p (length text) → s.place < end → length (between text s.place end) ≤ i → record { place = end; line = line; column = column } ≡ spot_after text s p
unfolding spot_after
walking_ends text s p {end} {i} w e h g =
    let bs = take_all i (between text s.place end) g in
    let m : end ≡ max s.place end = omega arith in
    (λ t. record { place = m t; line = (w.lines ∙ ap (λ (l : List ℕ). capped (line_after s.line l)) bs) t; column = (w.columns ∙ ap (λ (l : List ℕ). capped (column_after s.column l)) bs) t })
    ∙ ap (λ (j : ℕ). record { place = max s.place j; line = capped (line_after s.line (between text s.place j)); column = capped (column_after s.column (between text s.place j)) }) e

-- At no later place, the spot is the same.
pub walking_none : (text : List ℕ) (s : Spot) (p : ℕ) → s.line ≤ 4294967295 → s.column ≤ 4294967295 → min p (length text) ≤ s.place → s ≡ spot_after text s p
unfolding spot_after
walking_none text s p h g e =
    let z = between_none text s.place (min p (length text)) e in
    let m : s.place ≡ max s.place (min p (length text)) = omega arith in
    let l : s.line ≡ capped s.line = omega arith in
    let c : s.column ≡ capped s.column = omega arith in
    rw z (λ t. record { place = m t; line = l t; column = c t })

-- Walking in steps is walking at once.
module _ (text : List ℕ) (i j k : ℕ) (h : j ≤ k) where
  in_two : (t : Bool) → leb i j ≡ t → between text i k ≡ between text i j ++ between text (max i j) k
  in_two true e =
      let m : max i j ≡ j = omega (arith, leb-true i j e) in
      rw m (between-append text i j k (leb-true i j e) h)
  in_two false e =
      let m : max i j ≡ i = omega (arith, leb-false i j e) in
      rw (m, between_none text i j (omega (arith, leb-false i j e))) refl

pub spot-in_steps : (text : List ℕ) (s : Spot) (p q : ℕ) → p ≤ q → spot_after text (spot_after text s p) q ≡ spot_after text s q
unfolding spot_after
spot-in_steps text s p q h =
    let i = s.place in
    let j = min p (length text) in
    let k = min q (length text) in
    let g : j ≤ k = omega arith in
    let xs = between text i j in
    let ys = between text (max i j) k in
    let d = in_two text i j k g (leb i j) refl in
    let m : max (max i j) k ≡ max i k = omega arith in
    let l = line-capped (capped (line_after s.line xs)) (line_after s.line xs) ys (omega arith)
    ∙ ap capped (sym (line-after_append s.line xs ys) ∙ ap (line_after s.line) (sym d)) in
    let c = column-capped (capped (column_after s.column xs)) (column_after s.column xs) ys (omega arith)
    ∙ ap capped (sym (column_after-append s.column xs ys) ∙ ap (column_after s.column) (sym d)) in
    λ t. record { place = m t; line = l t; column = c t }

-- From the text's first place on: the listing's line and column of a place, where the text's length is below the cap and the bytes before
-- the place are well-formed.
pub spot_of : (text : List ℕ) (p : ℕ) → length text < 4294967295 → WellFormed (take p text) →
    spot_after text first p ≡ record { place = min p (length text); line = line_after 1 (take p text); column = column (take p text) }
unfolding spot_after first
spot_of text p h e =
    let j = min p (length text) in
    let bs = take p text in
    let n = length-take p text in
    let m : max 0 j ≡ j = omega arith in
    let d : take (j - 0) text ≡ bs = ap (λ (k : ℕ). take k text) (sub-zero j) ∙ take_within p text in
    let l : capped (line_after 1 bs) ≡ line_after 1 bs = omega (arith, line-within 1 bs) in
    let c : capped (column_after 1 bs) ≡ column_after 1 bs = omega (arith, column-within 1 bs) in
    let line-is = ap (λ (xs : List ℕ). capped (line_after 1 xs)) d ∙ l in
    let column-is = ap (λ (xs : List ℕ). capped (column_after 1 xs)) d ∙ c ∙ column-counted bs e in
    λ t. record { place = m t; line = line-is t; column = column-is t }
