-- Classes of bytes, as ASCII has them, and runs of bytes of a class. Assumes nothing.
use Rattle.std.specs.Prelude.{ℕ, suc, ◌+◌, Bool, not, ◌&&◌, ◌||◌, cond, List, [], ◌∷◌, get_or, drop, leb, eqb}

-- The byte at a place, or 0 past the end; no class that is tested at a place holds 0.
abbrev pub peek : List ℕ → ℕ → ℕ
peek bs i = get_or bs i 0

abbrev pub within : (low high : ℕ) → ℕ → Bool
within low high b = leb low b && leb b high

-- space, tab, CR, LF
abbrev pub is_whitespace : ℕ → Bool
is_whitespace b = ((eqb b 32 || eqb b 9) || eqb b 13) || eqb b 10

abbrev pub is_digit : ℕ → Bool
is_digit b = within 48 57 b

-- 0 to 9, a to f, A to F
abbrev pub is_hex_digit : ℕ → Bool
is_hex_digit b = (is_digit b || within 97 102 b) || within 65 70 b

-- a letter (ASCII) or `_`
abbrev pub is_ident_start : ℕ → Bool
is_ident_start b = (within 97 122 b || within 65 90 b) || eqb b 95

-- letters, digits and `_`
abbrev pub is_ident_continue : ℕ → Bool
is_ident_continue b = is_ident_start b || is_digit b

-- `e` or `E`
abbrev pub is_exponent : ℕ → Bool
is_exponent b = eqb b 101 || eqb b 69

-- `+` or `-`
abbrev pub is_sign : ℕ → Bool
is_sign b = eqb b 43 || eqb b 45

-- digits and `_`
abbrev pub is_grouped : ℕ → Bool
is_grouped b = is_digit b || eqb b 95

-- hex digits, `.` and `_`
abbrev pub is_based : ℕ → Bool
is_based b = (is_hex_digit b || eqb b 46) || eqb b 95

abbrev pub not_lf : ℕ → Bool
not_lf b = not (eqb b 10)

-- How many bytes at the front are of a class.
unfoldable pub run : (ℕ → Bool) → List ℕ → ℕ
run p [] = 0
run p (b ∷ bs) =
    let more = suc (run p bs) in
    cond (p b) more 0

-- The place after the run that begins at place i.
unfoldable pub run_end : (ℕ → Bool) → List ℕ → ℕ → ℕ
run_end p bs i = i + run p (drop i bs)
