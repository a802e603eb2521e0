-- What the tables say of a byte: what stands in each is the value of its function (`lead_at`, `class-at`), and a bit of a class is set for
-- the bytes of that class alone (`shares-is_member`), by one computed test over all bytes. Assumes nothing.
use Prim.Native.Nat.{ℕ, zero, suc, ◌+◌, ◌<◌}
use native.Mathlib.Nat.{add-zero, zero-add, add-suc, suc-add, le_of_suc-le-suc, not-suc-le-zero}
use mathlib.Core.Path.{◌≡◌, refl, sym, ap, ◌∙◌}
use mathlib.Core.Bool.{Bool, true, false, beq, cond}
use lib.ListN.{get_or}
use lib.Dec.{eqb}
use borrow.Author.Tests.{eqb-true}
use Rattle.predictive.proofs.Tests.{never}
use Rattle.aadl.specs.Bytes.{is_whitespace, is_ident_continue, is_digit, is_hex_digit, is_exponent, is_grouped, is_based}
use Rattle.aadl.specs.Tokens.{marks}
use Rattle.aadl.proofs.Bools.{below, below_at}
use Rattle.classes.specs.Classes.{tabled, lead_of, lead_table, class_of, class_table, is_second, shares, member}
use Rattle.classes.specs.Classes.{SPACES, DIGITS, WORD, GROUPED, BASED, HEX_DIGITS, EXPONENTS, SECOND}

tabled-from : (f : ℕ → ℕ) (n k i : ℕ) → i < n → get_or (tabled f k n) i 0 ≡ f (k + i)
tabled-from f zero k i h = absurd (not-suc-le-zero h)
tabled-from f (suc n) k zero h = ap f (sym (add-zero k))
tabled-from f (suc n) k (suc i) h = tabled-from f n (suc k) i (le_of_suc-le-suc h) ∙ ap f (suc-add k i ∙ sym (add-suc k i))

-- What stands in a table of a function's values.
tabled-at : (f : ℕ → ℕ) (n i : ℕ) → i < n → get_or (tabled f 0 n) i 0 ≡ f i
tabled-at f n i h = tabled-from f n 0 i h ∙ ap f (zero-add i)

pub lead_at : (b : ℕ) → b < 256 → get_or lead_table b 0 ≡ lead_of b
unfolding lead_table
lead_at b h = tabled-at lead_of 256 b h

pub class-at : (b : ℕ) → b < 256 → get_or class_table b 0 ≡ class_of b
unfolding class_table
class-at b h = tabled-at class_of 256 b h

-- THE RULE -------------------------------------------------------------------------------------------------------------

pub beq_true : (a b : Bool) → beq a b ≡ true → a ≡ b
beq_true true true e = refl
beq_true true false e = never e
beq_true false true e = never e
beq_true false false e = refl

-- A test that all bytes of a class, and no others, share its bit.
abbrev agrees : (class : ℕ) → (ℕ → Bool) → Bool
agrees k p = below (λ (b : ℕ). beq (shares k b) (p b)) 256

agree : (k : ℕ) (p : ℕ → Bool) → agrees k p ≡ true → (b : ℕ) → b < 256 → shares k b ≡ p b
agree k p t b h = beq_true (shares k b) (p b) (below_at (λ (b : ℕ). beq (shares k b) (p b)) 256 t b h)

-- one class of the definition: at its number the test is known
at-class : (test : ℕ → Bool) (k c : ℕ) (p q : Bool) → test c ≡ p → test k ≡ q → test k ≡ cond (eqb k c) p q
at-class test k c p q e f = go (eqb k c) refl
  where
    go : (t : Bool) → eqb k c ≡ t → test k ≡ cond t p q
    go true d = ap test (eqb-true k c d) ∙ e
    go false d = f

pub shares-is_member : (k b : ℕ) → b < 256 → shares k b ≡ member k b
unfolding member marks
shares-is_member k b h =
    let test : ℕ → Bool = λ (c : ℕ). shares c b in
    at-class test k SPACES _ _ (agree SPACES is_whitespace refl b h)
    (at-class test k DIGITS _ _ (agree DIGITS is_digit refl b h)
    (at-class test k WORD _ _ (agree WORD is_ident_continue refl b h)
    (at-class test k GROUPED _ _ (agree GROUPED is_grouped refl b h)
    (at-class test k BASED _ _ (agree BASED is_based refl b h)
    (at-class test k HEX_DIGITS _ _ (agree HEX_DIGITS is_hex_digit refl b h)
    (at-class test k EXPONENTS _ _ (agree EXPONENTS is_exponent refl b h)
    (at-class test k SECOND _ _ (agree SECOND is_second refl b h) refl)))))))
