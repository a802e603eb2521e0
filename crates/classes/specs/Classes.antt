-- What the tables of bytes say, as functions of aadl's tests and marks. Assumes nothing.
use Rattle.std.specs.Prelude.{ℕ, zero, suc, ◌+◌, Bool, false, not, cond, ◌&&◌, ◌||◌, List, [], ◌∷◌, length, get_or, leb, eqb}
use Prim.Native.String.{String}
use Rattle.std.specs.Int.Bits.{bit_and}
use Rattle.aadl.specs.Kinds.{#◌, WHITESPACE, INTEGER_LIT, STRING_LIT, IDENT}
use Rattle.aadl.specs.Words.{bytes}
use Rattle.aadl.specs.Bytes.{is_whitespace, is_ident_start, is_ident_continue, is_digit, is_hex_digit, is_exponent, is_grouped, is_based}
use Rattle.aadl.specs.Tokens.{marks, longest_mark}

-- The values of a function at n numbers, from k on.
abbrev pub tabled : (ℕ → ℕ) → (k n : ℕ) → List ℕ
tabled f k zero = []
tabled f k (suc n) = f k ∷ tabled f (suc k) n

-- WHAT A TOKEN BEGINS WITH ---------------------------------------------------------------------------------------------

-- A byte that stands at a place of one of the marks of two bytes and more.
abbrev pub in_longer : (place : ℕ) → List String → ℕ → Bool
in_longer i [] b = false
in_longer i (m ∷ ms) b = (leb 2 (length (bytes m)) && eqb b (get_or (bytes m) i 0)) || in_longer i ms b

-- What stands for a mark that others begin with is this much more than its kind.
abbrev pub BEGINS_OTHERS : ℕ
BEGINS_OTHERS = 64

-- The kind of the mark that is this byte, 0 for none.
abbrev pub mark_lead : ℕ → ℕ
mark_lead b =
    let k = (longest_mark 5 marks (b ∷ [])).kind in
    cond (in_longer 0 marks b && not (eqb k 0)) (BEGINS_OTHERS + k) k

abbrev pub lead_of : ℕ → ℕ
lead_of b =
    cond (is_whitespace b) (# WHITESPACE)
    (cond (is_ident_start b) (# IDENT) (cond (is_digit b) (# INTEGER_LIT) (cond (eqb b 34) (# STRING_LIT) (mark_lead b))))

unfoldable pub lead_table : List ℕ
lead_table = tabled lead_of 0 256

-- CLASSES --------------------------------------------------------------------------------------------------------------

-- A byte that stands second in a mark, or in `--`.
abbrev pub is_second : ℕ → Bool
is_second b = in_longer 1 ("--" ∷ marks) b

-- The classes, a bit each.
abbrev pub SPACES : ℕ
SPACES = 1

abbrev pub DIGITS : ℕ
DIGITS = 2

abbrev pub WORD : ℕ
WORD = 4

abbrev pub GROUPED : ℕ
GROUPED = 8

abbrev pub BASED : ℕ
BASED = 16

abbrev pub HEX_DIGITS : ℕ
HEX_DIGITS = 32

abbrev pub EXPONENTS : ℕ
EXPONENTS = 64

abbrev pub SECOND : ℕ
SECOND = 128

-- The classes of a byte.
abbrev pub class_of : ℕ → ℕ
class_of b =
    cond (is_whitespace b) SPACES 0 + cond (is_digit b) DIGITS 0 + cond (is_ident_continue b) WORD 0 + cond (is_grouped b) GROUPED 0
    + cond (is_based b) BASED 0 + cond (is_hex_digit b) HEX_DIGITS 0 + cond (is_exponent b) EXPONENTS 0 + cond (is_second b) SECOND 0

unfoldable pub class_table : List ℕ
class_table = tabled class_of 0 256

-- A byte has one of the bits of a number.
abbrev pub shares : (class : ℕ) → ℕ → Bool
shares k b = not (eqb (bit_and (class_of b) k) 0)

-- The members of each class; a number that is no class has those that share a bit with it.
unfoldable pub member : (class : ℕ) → ℕ → Bool
member k b =
    cond (eqb k SPACES) (is_whitespace b)
    (cond (eqb k DIGITS) (is_digit b)
    (cond (eqb k WORD) (is_ident_continue b)
    (cond (eqb k GROUPED) (is_grouped b)
    (cond (eqb k BASED) (is_based b)
    (cond (eqb k HEX_DIGITS) (is_hex_digit b)
    (cond (eqb k EXPONENTS) (is_exponent b)
    (cond (eqb k SECOND) (is_second b) (shares k b))))))))
