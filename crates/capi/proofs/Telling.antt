-- Numbers written over lent ones, however many are lent; and the part of a text that a start and a length name is the token's text. Assumes nothing.
use Prim.Native.Nat.{ℕ, zero, suc, ◌+◌, ◌≤◌, ◌<◌}
use native.Mathlib.Nat.{not-suc-le-zero, le_of_suc-le-suc}
use native.Mathlib.Omega.{arith}
use mathlib.Core.Path.{◌≡◌, refl, sym, ap, ap₂, ◌∙◌}
use mathlib.Core.Bool.{Bool, true, false}
use mathlib.Core.List.{List, [], ◌∷◌}
use lib.ListN.{length, get_or, take, drop, set, length-drop}
use lib.Seq.{length-take-le, set_out}
use lib.Dec.{ltb, leb}
use borrow.Author.Tests.{ltb-true, ltb-false, leb-true, leb-false}
use Rattle.aadl.specs.Tokens.{length_in, total, token_text}
use Rattle.aadl.proofs.TokenText.{text-none, text-past, text_at}
use Rattle.lexer.specs.Filling.{write}
use Rattle.capi.specs.Numbers.{text_start, part_of}

-- WRITTEN OVER -------------------------------------------------------------------------------------------------------

pub write-long : (ns old : List ℕ) → length (write ns old) ≡ length old
write-long [] old = refl
write-long (n ∷ ns) [] = refl
write-long (n ∷ ns) (o ∷ old) = ap suc (write-long ns old)

-- one more, where it is lent ..
pub write-more : (ns old : List ℕ) (i : ℕ) → i < length ns → set (write (take i ns) old) i (get_or ns i 0) ≡ write (take (suc i) ns) old
write-more [] old i h = absurd (not-suc-le-zero h)
write-more (n ∷ ns) [] zero h = refl
write-more (n ∷ ns) (o ∷ old) zero h = refl
write-more (n ∷ ns) [] (suc i) h = refl
write-more (n ∷ ns) (o ∷ old) (suc i) h = ap (λ (l : List ℕ). n ∷ l) (write-more ns old i (le_of_suc-le-suc h))

-- .. and where it is not
pub write_past : (ns old : List ℕ) (i : ℕ) → i < length ns → length old ≤ i → write (take i ns) old ≡ write (take (suc i) ns) old
write_past ns old i h past = sym (set_out (write (take i ns) old) i (get_or ns i 0) (omega (arith, write-long (take i ns) old))) ∙ write-more ns old i h

-- A TOKEN'S TEXT -------------------------------------------------------------------------------------------------------

module _ (text words : List ℕ) (i : ℕ) where
  abbrev Named : List ℕ → Type 0
  Named t = part_of text (text_start text words i) (length t) ≡ t

  -- the lengths up to the token are within the text, or pass its end
  within : i < length words → (b : Bool) → leb (total (take i words) + length_in (get_or words i 0)) (length text) ≡ b → Named (token_text text words i)
  within h false e = rw (text-past text words i h (leb-false _ _ e)) refl
  within h true e =
      let l : total (take i words) + length_in (get_or words i 0) ≤ length text = leb-true _ _ e in
      let b : text_start text words i ≡ total (take i words) = omega arith in
      rw (text_at text words i h l)
      (ap₂ (λ (n k : ℕ). take n (drop k text))
      (length-take-le (length_in (get_or words i 0)) (drop (total (take i words)) text) (omega (arith, length-drop (total (take i words)) text)))
      b)

  any-number : (b : Bool) → ltb i (length words) ≡ b → Named (token_text text words i)
  any-number false e = rw (text-none text words i (ltb-false i (length words) e)) refl
  any-number true e = within (ltb-true i (length words) e) (leb (total (take i words) + length_in (get_or words i 0)) (length text)) refl

  pub part-is_text : Named (token_text text words i)
  part-is_text = any-number (ltb i (length words)) refl
