-- Which of all 256 bytes each class holds, and which sequences are well-formed at the edges of Unicode's table 3-7: both computed, a table each.
-- Assumes nothing.
use Prim.Native.Nat.{ℕ, suc, ◌-◌}
use mathlib.Core.Path.{◌≡◌, refl}
use mathlib.Core.Bool.{Bool, not, cond}
use mathlib.Core.List.{List, [], ◌∷◌, ◌++◌, map}
use Rattle.aadl.specs.Words.{bytes}
use Rattle.aadl.specs.Bytes.{is_whitespace, is_digit, is_hex_digit, is_ident_start, is_ident_continue, is_exponent, is_sign, is_grouped, is_based, not_lf}
use Rattle.aadl.specs.Utf8.{sequence, ill_formed, is_continuation}
use Rattle.aadl.specs.Section.{from}
use Rattle.aadl.proofs.Computing.{definitions}

-- CLASSES --------------------------------------------------------------------------------------------------------------

abbrev those : (ℕ → Bool) → List ℕ → List ℕ
those p [] = []
those p (b ∷ bs) =
    let rest = those p bs in
    cond (p b) (b ∷ rest) rest

abbrev small-letters : List ℕ
small-letters = bytes "abcdefghijklmnopqrstuvwxyz"

abbrev capitals : List ℕ
capitals = bytes "ABCDEFGHIJKLMNOPQRSTUVWXYZ"

-- a class, and its bytes in their order
abbrev classes : List ((ℕ → Bool) × List ℕ)
classes =
    (is_whitespace, 9 ∷ 10 ∷ 13 ∷ 32 ∷ [])
    ∷ (is_digit, bytes "0123456789")
    ∷ (is_hex_digit, bytes "0123456789ABCDEFabcdef")
    ∷ (is_ident_start, capitals ++ bytes "_" ++ small-letters)
    ∷ (is_ident_continue, bytes "0123456789" ++ capitals ++ bytes "_" ++ small-letters)
    ∷ (is_exponent, bytes "Ee")
    ∷ (is_sign, bytes "+-")
    ∷ (is_grouped, bytes "0123456789_")
    ∷ (is_based, bytes ".0123456789ABCDEF_abcdef")
    ∷ ((λ b. not (not_lf b)), 10 ∷ [])
    ∷ (is_continuation, from 0x80 64)
    ∷ []

pub classes-hold : map (λ (c : (ℕ → Bool) × List ℕ). those c.0 (from 0 256)) classes ≡ map (λ (c : (ℕ → Bool) × List ℕ). c.1) classes
classes-hold = refl

-- WELL-FORMED SEQUENCES ------------------------------------------------------------------------------------------------

-- a sequence with one byte changed, at each place
abbrev changed : (ℕ → ℕ) → List ℕ → List (List ℕ)
changed g [] = []
changed g (b ∷ bs) = (g b ∷ bs) ∷ map (λ (cs : List ℕ). b ∷ cs) (changed g bs)

-- An edge: the first or the last sequence of a row; the length of the sequence that it begins with, and of those with one byte changed to the one
-- before it or behind it: 0 for none. The leading byte is changed first.
pub data Edge : Type 0 where
  lowest highest : List ℕ → List ℕ → Edge

abbrev edges : List Edge
edges =
    highest (0x7F ∷ []) (1 ∷ 0 ∷ [])
    ∷ lowest (0xC2 ∷ 0x80 ∷ []) (2 ∷ 0 ∷ 0 ∷ [])
    ∷ highest (0xDF ∷ 0xBF ∷ []) (2 ∷ 0 ∷ 0 ∷ [])
    ∷ lowest (0xE0 ∷ 0xA0 ∷ 0x80 ∷ []) (3 ∷ 2 ∷ 0 ∷ 0 ∷ [])
    ∷ highest (0xE0 ∷ 0xBF ∷ 0xBF ∷ []) (3 ∷ 3 ∷ 0 ∷ 0 ∷ [])
    ∷ lowest (0xE1 ∷ 0x80 ∷ 0x80 ∷ []) (3 ∷ 0 ∷ 0 ∷ 0 ∷ [])
    ∷ highest (0xEC ∷ 0xBF ∷ 0xBF ∷ []) (3 ∷ 0 ∷ 0 ∷ 0 ∷ [])
    ∷ lowest (0xED ∷ 0x80 ∷ 0x80 ∷ []) (3 ∷ 3 ∷ 0 ∷ 0 ∷ [])
    ∷ highest (0xED ∷ 0x9F ∷ 0xBF ∷ []) (3 ∷ 3 ∷ 0 ∷ 0 ∷ [])
    ∷ lowest (0xEE ∷ 0x80 ∷ 0x80 ∷ []) (3 ∷ 3 ∷ 0 ∷ 0 ∷ [])
    ∷ highest (0xEF ∷ 0xBF ∷ 0xBF ∷ []) (3 ∷ 0 ∷ 0 ∷ 0 ∷ [])
    ∷ lowest (0xF0 ∷ 0x90 ∷ 0x80 ∷ 0x80 ∷ []) (4 ∷ 3 ∷ 0 ∷ 0 ∷ 0 ∷ [])
    ∷ highest (0xF0 ∷ 0xBF ∷ 0xBF ∷ 0xBF ∷ []) (4 ∷ 4 ∷ 0 ∷ 0 ∷ 0 ∷ [])
    ∷ lowest (0xF1 ∷ 0x80 ∷ 0x80 ∷ 0x80 ∷ []) (4 ∷ 0 ∷ 0 ∷ 0 ∷ 0 ∷ [])
    ∷ highest (0xF3 ∷ 0xBF ∷ 0xBF ∷ 0xBF ∷ []) (4 ∷ 0 ∷ 0 ∷ 0 ∷ 0 ∷ [])
    ∷ lowest (0xF4 ∷ 0x80 ∷ 0x80 ∷ 0x80 ∷ []) (4 ∷ 4 ∷ 0 ∷ 0 ∷ 0 ∷ [])
    ∷ highest (0xF4 ∷ 0x8F ∷ 0xBF ∷ 0xBF ∷ []) (4 ∷ 0 ∷ 0 ∷ 0 ∷ 0 ∷ [])
    ∷ []

abbrev found_at : Edge → List ℕ
found_at (lowest bs ns) = map sequence (bs ∷ changed (λ b. b - 1) bs)
found_at (highest bs ns) = map sequence (bs ∷ changed suc bs)

abbrev said_at : Edge → List ℕ
said_at (lowest bs ns) = ns
said_at (highest bs ns) = ns

-- Where the first ill-formed sequence starts: nowhere in an empty text and behind NUL; a byte that only continues; over-long ones, both bytes that
-- begin no other, and in three and four bytes; the first and the last surrogate; beyond U+10FFFF; a sequence that the text's end cuts short.
abbrev ill_formed-ones : List (List ℕ × ℕ)
ill_formed-ones =
    ([], 0) ∷ (0 ∷ [], 1) ∷ (97 ∷ 0x80 ∷ [], 1) ∷ (0xC3 ∷ 0xBC ∷ 0xC0 ∷ 0x80 ∷ [], 2) ∷ (97 ∷ 0xC1 ∷ 0xBF ∷ [], 1)
    ∷ (0xE0 ∷ 0x80 ∷ 0x80 ∷ [], 0) ∷ (97 ∷ 0xF0 ∷ 0x8F ∷ 0xBF ∷ 0xBF ∷ [], 1)
    ∷ (97 ∷ 0xED ∷ 0xA0 ∷ 0x80 ∷ [], 1) ∷ (0xED ∷ 0xBF ∷ 0xBF ∷ [], 0)
    ∷ (0xF4 ∷ 0x90 ∷ 0x80 ∷ 0x80 ∷ [], 0) ∷ (97 ∷ 0xFF ∷ [], 1)
    ∷ (0xE2 ∷ 0x82 ∷ 0xAC ∷ 0xE2 ∷ 0x82 ∷ [], 3) ∷ (0xF0 ∷ 0x9F ∷ 0x98 ∷ 0x80 ∷ 0xF0 ∷ 0x9F ∷ 0x98 ∷ [], 4)
    ∷ []

pub sequences-hold :
    (map found_at edges ≡ map said_at edges)
    × (map (λ (c : List ℕ × ℕ). ill_formed c.0) ill_formed-ones ≡ map (λ (c : List ℕ × ℕ). c.1) ill_formed-ones)
unfolding definitions
sequences-hold = (refl, refl)
