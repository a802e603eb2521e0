-- Columns as the code counts them: they go on from where they stand, a cap does not show later, and behind well-formed bytes they are the
-- listing's (`column-counted`), since each character has one byte that continues none. By induction over the bytes. Assumes nothing.
use Prim.Native.Nat.{ℕ, zero, suc, ◌+◌, ◌-◌, ◌≤◌, ◌<◌}
use native.Mathlib.Omega.{arith}
use mathlib.Core.Path.{◌≡◌, refl, sym, ap₂, subst, ◌∙◌}
use mathlib.Core.Logic.{⊎_elim}
use mathlib.Core.Bool.{Bool, true, false, ◌||◌, cond}
use mathlib.Core.List.{List, [], ◌∷◌, ◌++◌}
use lib.ListN.{length}
use lib.Dec.{eqb}
use borrow.Author.Tests.{eqb-true, eqb-false, eq-eqb, ne_eqb}
use Rattle.predictive.specs.Grammar.{has}
use Rattle.predictive.proofs.Tests.{never, or_cases}
use Rattle.aadl.specs.Utf8.{sequence, is_continuation}
use Rattle.aadl.specs.Listing.{since_lf, column}
use Rattle.aadl.proofs.Bools.{cond_has}
use Rattle.aadl.proofs.Characters.{Formed, WellFormed, formed, count-leads, scalars-counted, low-continues_none, low-passes}
use Rattle.positions.specs.Spots.{column_behind, column_after, capped}

pub column_after-append : (c : ℕ) (xs ys : List ℕ) → column_after c (xs ++ ys) ≡ column_after (column_after c xs) ys
column_after-append c [] ys = refl
column_after-append c (x ∷ xs) ys = column_after-append (column_behind c x) xs ys

-- A BOUND AND A CAP ----------------------------------------------------------------------------------------------------

column_behind-within : (c b : ℕ) → column_behind c b ≤ c + 1
column_behind-within c b =
    cond_has (λ (n : ℕ). n ≤ c + 1) (eqb b 10) _ _ (λ e. omega arith)
    (λ e. cond_has (λ (n : ℕ). n ≤ c + 1) (is_continuation b) _ _ (λ d. omega arith) (λ d. omega arith))

pub column-within : (c : ℕ) (bs : List ℕ) → column_after c bs ≤ c + length bs
column-within c [] = omega arith
column-within c (b ∷ bs) = omega (arith, column-within (column_behind c b) bs, column_behind-within c b)

-- what is past the cap does not show later
either-capped : (t : Bool) (m n i j : ℕ) → capped m ≡ capped i → capped n ≡ capped j → capped (cond t m n) ≡ capped (cond t i j)
either-capped true m n i j e f = e
either-capped false m n i j e f = f

pub column-capped : (c d : ℕ) (bs : List ℕ) → capped c ≡ capped d → capped (column_after c bs) ≡ capped (column_after d bs)
column-capped c d [] e = e
column-capped c d (b ∷ bs) e =
    column-capped (column_behind c b) (column_behind d b) bs
    (either-capped (eqb b 10) 1 _ 1 _ refl (either-capped (is_continuation b) c (suc c) d (suc d) e (omega (arith, e))))

-- THE LISTING'S COLUMN -------------------------------------------------------------------------------------------------

-- without an LF, all bytes are since the last one
since_none : (bs : List ℕ) → has bs 10 ≡ false → since_lf bs ≡ bs
since_none [] e = refl
since_none (b ∷ bs) e = rw e refl

-- Of whatever bytes: 1 behind an LF, else the column at the begin, and the bytes since then that continue none.
column-by_leads : (c : ℕ) (bs : List ℕ) → column_after c bs ≡ cond (has bs 10) 1 c + count-leads (since_lf bs)
column-by_leads c [] = omega arith
column-by_leads c (b ∷ bs) = go (column-by_leads (column_behind c b) bs) (eqb b 10) refl (has bs 10) refl
  where
    -- b is counted or not
    counted : (u : Bool) → cond u c (suc c) + count-leads bs ≡ c + cond u (count-leads bs) (suc (count-leads bs))
    counted true = refl
    counted false = omega arith

    go : column_after (column_behind c b) bs ≡ cond (has bs 10) 1 (column_behind c b) + count-leads (since_lf bs) → (t : Bool) → eqb b 10 ≡ t → (u : Bool) → has bs 10 ≡ u →
        column_after (column_behind c b) bs ≡ cond (eqb 10 b || has bs 10) 1 c + count-leads (cond (eqb 10 b || has bs 10) (since_lf bs) (b ∷ bs))
    go more true e true h = rw (eq-eqb 10 b (sym (eqb-true b 10 e))) (more ∙ rw h refl)
    go more true e false h = rw (eq-eqb 10 b (sym (eqb-true b 10 e))) (more ∙ rw (h, e) refl)
    go more false e true h = rw (ne_eqb 10 b (λ q. eqb-false b 10 e (sym q)), h) (more ∙ rw h refl)
    go more false e false h =
        rw (ne_eqb 10 b (λ q. eqb-false b 10 e (sym q)), h)
        (more ∙ rw (h, e, since_none bs h) (counted (is_continuation b)))

-- Behind an LF begins a character.
since_next : (b : ℕ) (bs : List ℕ) → has (b ∷ bs) 10 ≡ true → (has bs 10 ≡ true → Formed 0 (since_lf bs)) → (b < 128 → Formed 0 bs) →
    Formed 0 (since_lf (b ∷ bs))
since_next b bs e later here = rw e (go (has bs 10) refl)
  where
    go : (t : Bool) → has bs 10 ≡ t → Formed 0 (since_lf bs)
    go true h = later h
    go false h =
        subst (Formed 0) (sym (since_none bs h))
        (here (⊎_elim (λ q. omega (arith, eqb-true 10 b q)) (λ q. never (sym h ∙ q)) (or_cases (eqb 10 b) (has bs 10) e)))

since_formed : (k : ℕ) (bs : List ℕ) → Formed k bs → has bs 10 ≡ true → Formed 0 (since_lf bs)
since_formed k [] f e = never e
since_formed (suc k) (b ∷ bs) f e = since_next b bs e (since_formed k bs f.1) (λ h. absurd (low-continues_none b h f.0))
since_formed zero (b ∷ bs) f e = since_next b bs e (since_formed (sequence (b ∷ bs) - 1) bs f.2) (λ h. low-passes b bs h f)

since_whole : (bs : List ℕ) → Formed 0 bs → Formed 0 (since_lf bs)
since_whole bs f = go (has bs 10) refl
  where
    go : (t : Bool) → has bs 10 ≡ t → Formed 0 (since_lf bs)
    go true h = since_formed 0 bs f h
    go false h = subst (Formed 0) (sym (since_none bs h)) f

pub column-counted : (bs : List ℕ) → WellFormed bs → column_after 1 bs ≡ column bs
unfolding column
column-counted bs e = column-by_leads 1 bs ∙ ap₂ ◌+◌ (either (has bs 10) 1) (sym (scalars-counted 0 (since_lf bs) (since_whole bs (formed bs e))))
  where
    either : (t : Bool) (n : ℕ) → cond t n n ≡ n
    either true n = refl
    either false n = refl
