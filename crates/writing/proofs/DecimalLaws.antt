-- A number's decimal digits are what the library prints, and how many there are. Assumes nothing.
use Prim.Native.Nat.{ℕ, zero, suc, ◌+◌, ◌/◌, ◌%◌, ◌^◌, ◌≤◌, ◌<◌}
use native.Mathlib.Omega.{arith}
use mathlib.Core.Path.{◌≡◌, refl, sym, ap, subst, ◌∙◌}
use mathlib.Core.Bool.{cond}
use mathlib.Core.List.{List, [], ◌∷◌, ◌++◌}
use lib.ListN.{length}
use lib.Dec.{ltb}
use lib.IntN.{ℤ, pos, negsuc}
use lib.Signed.{mag}
use borrow.Author.Tests.{lt-ltb, le-ltb}
use Rattle.std.specs.Fmt.{decimal as printed, signed_decimal as signed_printed}
use Rattle.std.proofs.lemmas.Fmt.{AppendsLastDigit, decimal_from_appends, length-decimal-le, length-decimal-le_succ}
use Rattle.aadl.specs.Listing.{digits, decimal}
use Rattle.writing.specs.SignedDecimal.{signed_decimal}

-- the digits do not depend on the steps, if these are enough
digits-enough : (s t n : ℕ) → n ≤ s → n ≤ t → digits s n ≡ digits t n
digits-enough zero zero n h g = refl
digits-enough zero (suc t) n h g =
    let e : n ≡ 0 = omega arith in
    rw e refl
digits-enough (suc s) zero n h g =
    let e : n ≡ 0 = omega arith in
    rw e refl
digits-enough (suc s) (suc t) n h g =
    ap (λ (l : List ℕ). cond (ltb n 10) ((48 + n) ∷ []) (l ++ ((48 + n % 10) ∷ []))) (digits-enough s t (n / 10) (omega arith) (omega arith))

-- the last digit stands behind those of the tenth part
last_digit : AppendsLastDigit digits
last_digit = record { one = λ k n h. rw (lt-ltb n 10 h) refl; more = λ k n h. rw (le-ltb n 10 h) refl }

pub decimal-printed : (n : ℕ) → n < 2 ^ 64 → printed n ≡ decimal n
decimal-printed n h =
    sym (decimal_from_appends digits last_digit (n + 1) n h (length-decimal-le_succ n h)) ∙ digits-enough (n + 1) n n (omega arith) (omega arith)

pub signed-printed : (z : ℤ) → mag z < 2 ^ 63 → signed_printed z ≡ signed_decimal z
signed-printed (pos n) h = decimal-printed n (omega arith)
signed-printed (negsuc n) h = ap (λ (ds : List ℕ). 45 ∷ ds) (decimal-printed (suc n) (omega arith))

pub decimal-length : (k n : ℕ) → 0 < k → n < 10 ^ k → n < 2 ^ 64 → length (decimal n) ≤ k
decimal-length k n o h g = subst (λ (ds : List ℕ). length ds ≤ k) (decimal-printed n g) (length-decimal-le k n o h g)
