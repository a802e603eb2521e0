-- Which classes of bytes lie in which: the letter and the digit of a C-style literal are bytes of a word, and what starts a word is above
-- the digits, the whitespace and the quote. By the bounds of each class, or by one computed test. Assumes nothing.
use Prim.Native.Nat.{ℕ, ◌≤◌}
use native.Mathlib.Omega.{arith}
use mathlib.Core.Path.{◌≡◌, refl, sym, ap, ◌∙◌}
use mathlib.Core.Logic.{⊎_elim}
use mathlib.Core.Bool.{Bool, true, false, not, ◌&&◌, ◌||◌}
use lib.Dec.{eqb, ltb}
use borrow.Author.Tests.{eqb-true, ltb-true, ltb-false, not-true}
use Rattle.aadl.specs.Bytes.{within, is_digit, is_hex_digit, is_ident_start, is_ident_continue}
use Rattle.aadl.specs.Tokens.{radix_digit}
use Rattle.predictive.proofs.Tests.{never, and_l, and_r, or_cases, or_true_l, or_true_r}
use Rattle.aadl.proofs.Bools.{false_unless, bounds, within-bounds, below_at}

-- a byte outside a class is none of its bytes
pub other_byte : (p : ℕ → Bool) (b c : ℕ) → p b ≡ false → p c ≡ true → eqb b c ≡ false
other_byte p b c e f = false_unless (eqb b c) (λ t. never (sym e ∙ ap p (eqb-true b c t) ∙ f))

pub within_more : (a b c d n : ℕ) → c ≤ a → b ≤ d → within a b n ≡ true → within c d n ≡ true
within_more a b c d n h k e =
    let i = bounds a b n e in
    within-bounds c d n (omega (arith, i.0)) (omega (arith, i.1))

-- WORDS ----------------------------------------------------------------------------------------------------------------

pub small-starts : (b : ℕ) → within 97 122 b ≡ true → is_ident_start b ≡ true
small-starts b e = or_true_l (within 97 122 b || within 65 90 b) (eqb b 95) (or_true_l (within 97 122 b) (within 65 90 b) e)

pub capital-starts : (b : ℕ) → within 65 90 b ≡ true → is_ident_start b ≡ true
capital-starts b e = or_true_l (within 97 122 b || within 65 90 b) (eqb b 95) (or_true_r (within 97 122 b) (within 65 90 b) e)

pub start_word : (b : ℕ) → is_ident_start b ≡ true → is_ident_continue b ≡ true
start_word b e = or_true_l (is_ident_start b) (is_digit b) e

pub digit-word : (b : ℕ) → is_digit b ≡ true → is_ident_continue b ≡ true
digit-word b e = or_true_r (is_ident_start b) (is_digit b) e

pub hex-word : (b : ℕ) → is_hex_digit b ≡ true → is_ident_continue b ≡ true
hex-word b e =
    ⊎_elim
    (λ f. ⊎_elim (λ g. digit-word b g) (λ g. start_word b (small-starts b (within_more 97 102 97 122 b (omega arith) (omega arith) g)))
    (or_cases (is_digit b) (within 97 102 b) f))
    (λ f. start_word b (capital-starts b (within_more 65 70 65 90 b (omega arith) (omega arith) f)))
    (or_cases (is_digit b || within 97 102 b) (within 65 70 b) e)

-- What starts a word is above `9`: one computed test of what is not.
pub start-high : (b : ℕ) → is_ident_start b ≡ true → 58 ≤ b
start-high b e = by-bound (ltb b 58) refl
  where
    by-bound : (t : Bool) → ltb b 58 ≡ t → 58 ≤ b
    by-bound true f = never (sym (not-true (is_ident_start b) (below_at (λ (k : ℕ). not (is_ident_start k)) 58 refl b (ltb-true b 58 f))) ∙ e)
    by-bound false f = ltb-false b 58 f

-- C-STYLE --------------------------------------------------------------------------------------------------------------

either-word : (m c d : ℕ) → is_ident_continue c ≡ true → is_ident_continue d ≡ true → (eqb m c || eqb m d) ≡ true → is_ident_continue m ≡ true
either-word m c d f g e =
    ⊎_elim (λ k. ap is_ident_continue (eqb-true m c k) ∙ f) (λ k. ap is_ident_continue (eqb-true m d k) ∙ g)
    (or_cases (eqb m c) (eqb m d) e)

-- the letter and the digit behind it go on a word
pub radix-word : (m b : ℕ) → radix_digit m b ≡ true → (is_ident_continue m ≡ true) × (is_ident_continue b ≡ true)
radix-word m b e =
    ⊎_elim
    (λ f. ⊎_elim (λ g. (either-word m 120 88 refl refl (and_l hex (is_hex_digit b) g), hex-word b (and_r hex (is_hex_digit b) g)))
    (λ g. (either-word m 111 79 refl refl (and_l octal (within 48 55 b) g), decimal 48 55 (omega arith) (omega arith) (and_r octal (within 48 55 b) g)))
    (or_cases (hex && is_hex_digit b) (octal && within 48 55 b) f))
    (λ f. (either-word m 98 66 refl refl (and_l binary (within 48 49 b) f), decimal 48 49 (omega arith) (omega arith) (and_r binary (within 48 49 b) f)))
    (or_cases ((hex && is_hex_digit b) || (octal && within 48 55 b)) (binary && within 48 49 b) e)
  where
    hex : Bool
    hex = eqb m 120 || eqb m 88

    octal : Bool
    octal = eqb m 111 || eqb m 79

    binary : Bool
    binary = eqb m 98 || eqb m 66

    decimal : (low high : ℕ) → 48 ≤ low → high ≤ 57 → within low high b ≡ true → is_ident_continue b ≡ true
    decimal low high h k f = digit-word b (within_more low high 48 57 b h k f)
