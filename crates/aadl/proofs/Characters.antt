-- A well-formed text is a row of characters: each begins with a byte that continues none, and the other bytes of its sequence continue it
-- (`Formed`). So the scalar values are as many as the bytes that continue none (`scalars-counted`); and the text can be cut where such a
-- byte stands, or it ends (`Between`): both parts are well-formed (`formed-front`, `formed-back`). Behind a byte below 128 it can. By
-- induction over the bytes, passing over those of a sequence as the definitions do. Assumes nothing.
use Prim.Native.Nat.{ℕ, zero, suc, ◌-◌, ◌≤◌, ◌<◌}
use native.Mathlib.Nat.{le_of_suc-le-suc, not-suc-le-zero}
use native.Mathlib.Omega.{arith}
use mathlib.Core.Path.{◌≡◌, refl, sym, ap, subst, ◌∙◌}
use mathlib.Core.Logic.{⊎_elim}
use mathlib.Core.Bool.{Bool, true, false, ◌&&◌, ◌||◌, cond}
use mathlib.Core.List.{List, [], ◌∷◌}
use lib.ListN.{length, take, drop}
use lib.Dec.{leb, ltb, eqb}
use borrow.Author.Tests.{eqb-true, eqb-false, leb-true, ltb-true, ltb-false}
use Rattle.aadl.specs.Utf8.{Range, ◌to◌, table_3_7, fits, fitting, sequence, ill_formed_after, ill_formed, scalars_after, is_continuation}
use Rattle.aadl.specs.Bytes.{peek}
use Rattle.predictive.proofs.Tests.{never, and_l, and_r, or_cases}
use Rattle.aadl.proofs.Bools.{cond_has, false_unless, bounds}
use Rattle.aadl.proofs.Lists.{every, Each}
use Rattle.aadl.proofs.ByteClasses.{within_more}
use Rattle.aadl.proofs.Utf8Laws.{ascii_one, sequence-within}

abbrev pub Continues : ℕ → Type 0
Continues b = is_continuation b ≡ true

-- ROWS OF THE TABLE ----------------------------------------------------------------------------------------------------

-- One computed test of the table: the first range of each row has no byte that continues, the others have no other.
abbrev beginning : Range → Bool
beginning (low to high) = ltb high 0x80 || ltb 0xBF low

abbrev continuing : Range → Bool
continuing (low to high) = leb 0x80 low && leb high 0xBF

abbrev in_order : List Range → Bool
in_order [] = false
in_order (r ∷ rs) = beginning r && every continuing rs

table-in_order : every in_order table_3_7 ≡ true
unfolding table_3_7
table-in_order = refl

-- Of a sequence of so many bytes, the first of which is b: where it begins and how it continues.
abbrev Shape : (b : ℕ) → List ℕ → (length : ℕ) → Type 0
Shape b bs n = (is_continuation b ≡ false) × (Each Continues (take (n - 1) bs))

range-begins : (low high b : ℕ) → beginning (low to high) ≡ true → (leb low b && leb b high) ≡ true → is_continuation b ≡ false
range-begins low high b e f =
    let i = bounds low high b f in
    false_unless (is_continuation b) (λ c.
    let j = bounds 0x80 0xBF b c in
    ⊎_elim (λ d. omega (arith, i.1, j.0, ltb-true high 0x80 d)) (λ d. omega (arith, i.0, j.1, ltb-true 0xBF low d)) (or_cases (ltb high 0x80) (ltb 0xBF low) e))

range-continues : (low high b : ℕ) → continuing (low to high) ≡ true → (leb low b && leb b high) ≡ true → Continues b
range-continues low high b e f =
    within_more low high 0x80 0xBF b (leb-true 0x80 low (and_l (leb 0x80 low) (leb high 0xBF) e)) (leb-true high 0xBF (and_r (leb 0x80 low) (leb high 0xBF) e)) f

rest-continues : (rs : List Range) (bs : List ℕ) → every continuing rs ≡ true → fits rs bs ≡ true → Each Continues (take (length rs) bs)
rest-continues [] bs e f = tt
rest-continues (low to high ∷ rs) [] e f = tt
rest-continues (low to high ∷ rs) (b ∷ bs) e f =
    let r = low to high in (
      range-continues low high b (and_l (continuing r) (every continuing rs) e) (and_l (leb low b && leb b high) (fits rs bs) f),
      rest-continues rs bs (and_r (continuing r) (every continuing rs) e) (and_r (leb low b && leb b high) (fits rs bs) f),
    )

row-shape : (row : List Range) (b : ℕ) (bs : List ℕ) → in_order row ≡ true → fits row (b ∷ bs) ≡ true → Shape b bs (length row)
row-shape [] b bs e f = never e
row-shape (low to high ∷ rs) b bs e f =
    let r = low to high in
    let n : suc (length rs) - 1 ≡ length rs = omega arith in (
      range-begins low high b (and_l (beginning r) (every continuing rs) e) (and_l (leb low b && leb b high) (fits rs bs) f),
      subst (λ (k : ℕ). Each Continues (take k bs)) (sym n) (rest-continues rs bs (and_r (beginning r) (every continuing rs) e) (and_r (leb low b && leb b high) (fits rs bs) f)),
    )

fitting-shape : (rows : List (List Range)) (b : ℕ) (bs : List ℕ) → every in_order rows ≡ true → 1 ≤ fitting rows (b ∷ bs) → Shape b bs (fitting rows (b ∷ bs))
fitting-shape [] b bs e = λ h. absurd (not-suc-le-zero h)
fitting-shape (row ∷ rows) b bs e =
    cond_has (λ (n : ℕ). 1 ≤ n → Shape b bs n) (fits row (b ∷ bs)) _ _
    (λ f h. row-shape row b bs (and_l (in_order row) (every in_order rows) e) f)
    (λ f h. fitting-shape rows b bs (and_r (in_order row) (every in_order rows) e) h)

sequence-shape : (b : ℕ) (bs : List ℕ) → 1 ≤ sequence (b ∷ bs) → Shape b bs (sequence (b ∷ bs))
unfolding sequence
sequence-shape b bs h = fitting-shape table_3_7 b bs table-in_order h

-- CHARACTERS -----------------------------------------------------------------------------------------------------------

-- The bytes are k that continue a character, and then characters.
abbrev pub Formed : ℕ → List ℕ → Type 0
Formed k [] = k ≡ 0
Formed (suc k) (b ∷ bs) = Continues b × Formed k bs
Formed zero (b ∷ bs) = (is_continuation b ≡ false) × (1 ≤ sequence (b ∷ bs)) × (Formed (sequence (b ∷ bs) - 1) bs)

formed-after : (k : ℕ) (bs : List ℕ) → ill_formed_after k bs ≡ length bs → k ≤ length bs → Each Continues (take k bs) → Formed k bs
unfolding ill_formed_after
formed-after zero [] e h c = refl
formed-after (suc k) [] e h c = absurd (not-suc-le-zero h)
formed-after (suc k) (b ∷ bs) e h c = (c.0, formed-after k bs (omega (arith, e)) (le_of_suc-le-suc h) c.1)
formed-after zero (b ∷ bs) e h c =
    let n = sequence (b ∷ bs) in
    cond_has (λ (m : ℕ). m ≡ suc (length bs) → Formed zero (b ∷ bs)) (eqb n 0) 0 _ (λ d q. absurd (omega (arith, q)))
    (λ d q.
    let some : 1 ≤ n = omega (arith, eqb-false n 0 d) in
    let s = sequence-shape b bs some in
    (s.0, some, formed-after (n - 1) bs (omega (arith, q)) (omega (arith, sequence-within (b ∷ bs))) s.1))
    e

-- As check 2 has it, and back.
abbrev pub WellFormed : List ℕ → Type 0
WellFormed bs = ill_formed bs ≡ length bs

pub formed : (bs : List ℕ) → WellFormed bs → Formed 0 bs
formed bs e = formed-after 0 bs e (omega arith) tt

pub well_formed : (k : ℕ) (bs : List ℕ) → Formed k bs → ill_formed_after k bs ≡ length bs
unfolding ill_formed_after
well_formed k [] f = refl
well_formed (suc k) (b ∷ bs) f = ap suc (well_formed k bs f.1)
well_formed zero (b ∷ bs) f =
    let n = sequence (b ∷ bs) in
    cond_has (λ (m : ℕ). m ≡ suc (length bs)) (eqb n 0) _ _ (λ e. absurd (omega (arith, f.1, eqb-true n 0 e))) (λ e. ap suc (well_formed (n - 1) bs f.2))

-- COUNTING -------------------------------------------------------------------------------------------------------------

-- The bytes that continue none.
abbrev pub count-leads : List ℕ → ℕ
count-leads [] = 0
count-leads (b ∷ bs) = cond (is_continuation b) (count-leads bs) (suc (count-leads bs))

pub scalars-counted : (k : ℕ) (bs : List ℕ) → Formed k bs → scalars_after k bs ≡ count-leads bs
unfolding scalars_after
scalars-counted k [] f = refl
scalars-counted (suc k) (b ∷ bs) f = rw f.0 (scalars-counted k bs f.1)
scalars-counted zero (b ∷ bs) f = rw f.0 (ap suc (scalars-counted (sequence (b ∷ bs) - 1) bs f.2))

-- CUTTING --------------------------------------------------------------------------------------------------------------

-- At a place stands a byte that continues none, or the text has ended: it reads as 0 there.
abbrev pub Between : List ℕ → (place : ℕ) → Type 0
Between bs i = is_continuation (peek bs i) ≡ false

-- the bytes that continue stand at the front
formed-inner : (bs : List ℕ) (k i : ℕ) → Formed k bs → i < k → Continues (peek bs i)
formed-inner [] k i f h = absurd (omega (arith, f))
formed-inner (b ∷ bs) (suc k) zero f h = f.0
formed-inner (b ∷ bs) (suc k) (suc i) f h = formed-inner bs k i f.1 (le_of_suc-le-suc h)
formed-inner (b ∷ bs) zero i f h = absurd (not-suc-le-zero h)

between-behind : (bs : List ℕ) (k i : ℕ) → Formed k bs → Between bs i → k ≤ i
between-behind bs k i f c = go (ltb i k) refl
  where
    go : (t : Bool) → ltb i k ≡ t → k ≤ i
    go true e = never (sym c ∙ formed-inner bs k i f (ltb-true i k e))
    go false e = ltb-false i k e

pub between-end : (bs : List ℕ) → Between bs (length bs)
between-end [] = refl
between-end (b ∷ bs) = between-end bs

pub formed-begins : (bs : List ℕ) → Formed 0 bs → Between bs 0
formed-begins [] f = refl
formed-begins (b ∷ bs) f = f.0

pub formed-back : (bs : List ℕ) (k i : ℕ) → Formed k bs → Between bs i → Formed 0 (drop i bs)
formed-back [] k zero f c = refl
formed-back [] k (suc i) f c = refl
formed-back (b ∷ bs) (suc k) zero f c = never (sym c ∙ f.0)
formed-back (b ∷ bs) zero zero f c = f
formed-back (b ∷ bs) (suc k) (suc i) f c = formed-back bs k i f.1 c
formed-back (b ∷ bs) zero (suc i) f c = formed-back bs (sequence (b ∷ bs) - 1) i f.2 c

-- A sequence that ends within the first i bytes is theirs.
fits-front : (row : List Range) (i : ℕ) (bs : List ℕ) → length row ≤ i → fits row (take i bs) ≡ fits row bs
fits-front [] i bs h = refl
fits-front (low to high ∷ rs) zero bs h = absurd (not-suc-le-zero h)
fits-front (low to high ∷ rs) (suc i) [] h = refl
fits-front (low to high ∷ rs) (suc i) (b ∷ bs) h = ap (λ (t : Bool). (leb low b && leb b high) && t) (fits-front rs i bs (le_of_suc-le-suc h))

fits_more : (row : List Range) (i : ℕ) (bs : List ℕ) → fits row (take i bs) ≡ true → fits row bs ≡ true
fits_more [] i bs e = refl
fits_more (low to high ∷ rs) zero bs e = never e
fits_more (low to high ∷ rs) (suc i) [] e = never e
fits_more (low to high ∷ rs) (suc i) (b ∷ bs) e =
    let t = leb low b && leb b high in
    rw (and_l t (fits rs (take i bs)) e) (fits_more rs i bs (and_r t (fits rs (take i bs)) e))

fitting-front : (rows : List (List Range)) (i : ℕ) (bs : List ℕ) → 1 ≤ fitting rows bs → fitting rows bs ≤ i → fitting rows (take i bs) ≡ fitting rows bs
fitting-front [] i bs = λ h g. refl
fitting-front (row ∷ rows) i bs =
    cond_has (λ (n : ℕ). 1 ≤ n → n ≤ i → fitting (row ∷ rows) (take i bs) ≡ n) (fits row bs) _ _ (λ e h g. rw (fits-front row i bs g, e) refl)
    (λ e h g. rw (false_unless (fits row (take i bs)) (λ f. never (sym e ∙ fits_more row i bs f))) (fitting-front rows i bs h g))

sequence-front : (i : ℕ) (bs : List ℕ) → 1 ≤ sequence bs → sequence bs ≤ i → sequence (take i bs) ≡ sequence bs
unfolding sequence
sequence-front i bs h g = fitting-front table_3_7 i bs h g

pub formed-front : (bs : List ℕ) (k i : ℕ) → Formed k bs → Between bs i → k ≤ i → Formed k (take i bs)
formed-front [] k zero f c h = f
formed-front [] k (suc i) f c h = f
formed-front (b ∷ bs) zero zero f c h = refl
formed-front (b ∷ bs) (suc k) zero f c h = absurd (not-suc-le-zero h)
formed-front (b ∷ bs) (suc k) (suc i) f c h = (f.0, formed-front bs k i f.1 c (le_of_suc-le-suc h))
formed-front (b ∷ bs) zero (suc i) f c h =
    let n = sequence (b ∷ bs) in
    let l = between-behind bs (n - 1) i f.2 c in
    let q : n ≡ sequence (b ∷ take i bs) = sym (sequence-front (suc i) (b ∷ bs) f.1 (omega (arith, l))) in
    (f.0, omega (arith, q, f.1), subst (λ (m : ℕ). Formed (m - 1) (take i bs)) q (formed-front bs (n - 1) i f.2 c l))

-- Both parts of a well-formed text.
pub well_formed_front : (text : List ℕ) (i : ℕ) → WellFormed text → Between text i → WellFormed (take i text)
well_formed_front text i e c = well_formed 0 (take i text) (formed-front text 0 i (formed text e) c (omega arith))

pub well_formed_back : (text : List ℕ) (i : ℕ) → WellFormed text → Between text i → WellFormed (drop i text)
well_formed_back text i e c = well_formed 0 (drop i text) (formed-back text 0 i (formed text e) c)

-- BYTES BELOW 128 ------------------------------------------------------------------------------------------------------

pub low-continues_none : (b : ℕ) → b < 128 → Continues b → ⊥
low-continues_none b h c = omega (arith, (bounds 0x80 0xBF b c).0)

pub low-passes : (b : ℕ) (bs : List ℕ) → b < 128 → Formed 0 (b ∷ bs) → Formed 0 bs
low-passes b bs h f =
    let n : sequence (b ∷ bs) - 1 ≡ 0 = omega (arith, ascii_one b bs h) in
    subst (λ (k : ℕ). Formed k bs) n f.2

pub between-behind_low : (bs : List ℕ) (k i : ℕ) → Formed k bs → peek bs i < 128 → Between bs (suc i)
between-behind_low [] k i f h = refl
between-behind_low (b ∷ bs) (suc k) zero f h = absurd (low-continues_none b h f.0)
between-behind_low (b ∷ bs) zero zero f h = formed-begins bs (low-passes b bs h f)
between-behind_low (b ∷ bs) (suc k) (suc i) f h = between-behind_low bs k i f.1 h
between-behind_low (b ∷ bs) zero (suc i) f h = between-behind_low bs (sequence (b ∷ bs) - 1) i f.2 h
