-- The value call's answers for some texts, computed as in Examples. Assumes nothing.
use Prim.Native.Nat.{ℕ}
use Prim.Native.String.{String}
use mathlib.Core.Path.{◌≡◌, refl}
use mathlib.Core.List.{[], ◌∷◌, ◌++◌}
use lib.IntN.{pos, negsuc}
use Rattle.predictive.specs.Forest.{leaves}
use Rattle.aadl.specs.declared.ValueAnswer.{ValueAnswer}
use Rattle.aadl.specs.Limits.{base}
use Rattle.aadl.specs.Words.{bytes}
use Rattle.aadl.specs.Reading.{reads_cleanly}
use Rattle.aadl.specs.Answers.{answered}
use Rattle.aadl.specs.Values.{digits, number_by, all_below, literal_number, number_at, value, children, associations}
use Rattle.aadl.specs.ValueCall.{associations_in, text_associations, with_value, value_refused, value_call, value_answer}
use Rattle.aadl.specs.Calls.{tokens_call, section_call}
use Rattle.aadl.proofs.Computing.{definitions}

-- what values are made of besides
unfoldable more-definitions : Unit {0}
unfolding definitions leaves digits number_by all_below literal_number number_at value children associations reads_cleanly associations_in text_associations value_answer value_call section_call tokens_call
more-definitions = tt

-- the association with a number
abbrev value_in : String → ℕ → ValueAnswer
value_in s n = value_answer base (bytes s) 100 100 n

-- the value of the only one, which begins at the place 16
abbrev first-value : String → ValueAnswer
first-value s = value_answer base (bytes "properties A => " ++ bytes s ++ bytes ";") 100 100 0

-- that value is no constant: refused at the association's start
abbrev no_constant : ValueAnswer
no_constant = value_refused 9 11

-- Values within the range, at its ends too.
pub record Exact : Type 0 where
  pub least : first-value "-9223372036854775807 - 1" ≡ with_value (answered 13 8 22) (negsuc 9223372036854775807)
  pub most : first-value "9223372036854775807" ≡ with_value (answered 8 5 13) (pos 9223372036854775807)
  pub based-most : first-value "16#7FFF_FFFF_FFFF_FFFF#" ≡ with_value (answered 8 5 13) (pos 9223372036854775807)
  pub least-by_star : first-value "-4294967296 * 2147483648" ≡ with_value (answered 13 8 22) (negsuc 9223372036854775807)
  pub near-most : first-value "3037000499 * 3037000499" ≡ with_value (answered 12 7 19) (pos 9223372030926249001)
  pub near-least : first-value "-3037000499 * 3037000500" ≡ with_value (answered 13 8 22) (negsuc 9223372033963249499)
  pub ends-meet : first-value "9223372036854775807 + -9223372036854775807 - 1" ≡ with_value (answered 17 10 28) (negsuc 0)
  pub star-first : first-value "1 + 2 * 3" ≡ with_value (answered 16 9 25) (pos 7)
  pub leans-left : first-value "2 - 3 - 4" ≡ with_value (answered 16 9 25) (negsuc 4)
  pub sign-first : first-value "-1 + 2" ≡ with_value (answered 13 8 22) (pos 1)
  pub signs : first-value "- - 1 * - + 2" ≡ with_value (answered 20 11 31) (negsuc 1)
  pub zero : first-value "-0 * 5" ≡ with_value (answered 13 8 22) (pos 0)
  pub based : first-value "16#F_F# + 2 * 3" ≡ with_value (answered 16 9 25) (pos 261)
  pub leading_zeros : first-value "0016#_f#" ≡ with_value (answered 8 5 13) (pos 15)
  pub base-two : first-value "2#1_0#" ≡ with_value (answered 8 5 13) (pos 2)
  pub digit-edges : digits (bytes "/09:@AF_G`afg.") ≡ 16 ∷ 0 ∷ 9 ∷ 16 ∷ 16 ∷ 10 ∷ 15 ∷ 16 ∷ 16 ∷ 10 ∷ 15 ∷ 16 ∷ 16 ∷ []
  pub highest-digit : first-value "11#A# + 10#9#" ≡ with_value (answered 12 7 19) (pos 19)

pub exactly : Exact
unfolding more-definitions
exactly =
    record {
      least = refl;
      most = refl;
      based-most = refl;
      least-by_star = refl;
      near-most = refl;
      near-least = refl;
      ends-meet = refl;
      star-first = refl;
      leans-left = refl;
      sign-first = refl;
      signs = refl;
      zero = refl;
      based = refl;
      leading_zeros = refl;
      base-two = refl;
      digit-edges = refl;
      highest-digit = refl;
    }

-- Literals and partial results beyond the range: refused at the first of them.
pub record Beyond : Type 0 where
  pub one_more : first-value "9223372036854775808" ≡ value_refused 10 16
  pub one-more_after_minus : first-value "-9223372036854775808" ≡ value_refused 10 17
  pub one-more_apart : first-value "- 9223372036854775808" ≡ value_refused 10 18
  pub one-more_based : first-value "16#8000_0000_0000_0000#" ≡ value_refused 10 16
  pub below-least : first-value "-9223372036854775807 - 2" ≡ value_refused 10 37
  pub above_most : first-value "9223372036854775807 - -1" ≡ value_refused 10 36
  pub product : first-value "3037000500 * 3037000500" ≡ value_refused 10 27
  pub product-below : first-value "-3037000500 * 3037000500" ≡ value_refused 10 28
  pub product-of_two_signs : first-value "-3037000500 * -3037000500" ≡ value_refused 10 28
  pub product-by_one : first-value "4294967296 * 2147483648" ≡ value_refused 10 27
  -- a partial result counts, whatever is done with it
  pub comes_back : first-value "9223372036854775807 + 1 - 1" ≡ value_refused 10 36
  pub left-first : first-value "3037000500 * 3037000500 + 9223372036854775808" ≡ value_refused 10 27
  pub right-then_operator : first-value "9223372036854775807 + 9223372036854775808" ≡ value_refused 10 38

pub beyond : Beyond
unfolding more-definitions
beyond =
    record {
      one_more = refl;
      one-more_after_minus = refl;
      one-more_apart = refl;
      one-more_based = refl;
      below-least = refl;
      above_most = refl;
      product = refl;
      product-below = refl;
      product-of_two_signs = refl;
      product-by_one = refl;
      comes_back = refl;
      left-first = refl;
      right-then_operator = refl;
    }

pub record None : Type 0 where
  pub not_closed : first-value "16#F" ≡ no_constant
  pub no_base_digit : first-value "16#G" ≡ no_constant
  pub no_digit : first-value "16#_#" ≡ no_constant
  pub digit-too_large : first-value "10#F#" ≡ no_constant
  pub digit-two : first-value "2#2#" ≡ no_constant
  pub digit-ten : first-value "10#A#" ≡ no_constant
  pub base-too_large : first-value "17#1#" ≡ no_constant
  pub base-too_small : first-value "1#0#" ≡ no_constant
  pub with_unit : first-value "1 ms" ≡ no_constant
  pub slash : first-value "4 / 2" ≡ no_constant
  pub range : first-value "1 .. 2" ≡ no_constant
  pub in_parentheses : first-value "(1)" ≡ no_constant
  pub real : first-value "1.0" ≡ no_constant
  pub real-exponent : first-value "1e3" ≡ no_constant
  pub based-exponent : first-value "16#FF#e" ≡ no_constant
  pub name : first-value "a" ≡ no_constant
  -- 9 is decided for the whole value before 10 is looked at
  pub nine_before_ten : first-value "9223372036854775808 + 1 ms" ≡ no_constant

pub none : None
unfolding more-definitions
none =
    record {
      not_closed = refl;
      no_base_digit = refl;
      no_digit = refl;
      digit-too_large = refl;
      digit-two = refl;
      digit-ten = refl;
      base-too_large = refl;
      base-too_small = refl;
      with_unit = refl;
      slash = refl;
      range = refl;
      in_parentheses = refl;
      real = refl;
      real-exponent = refl;
      based-exponent = refl;
      name = refl;
      nine_before_ten = refl;
    }

-- Which association, and what is refused before its value is looked at.
pub record Which : Type 0 where
  -- past a value that is no constant, a name of two parts and `constant`, up to its Modes
  pub second : value_in "properties A => 1 ms, 2; B :: C +=> constant 5 in modes (m), 6;" 1 ≡ with_value (answered 37 22 42) (pos 5)
  pub of_two : value_in "properties A => 1; B => 2;" 1 ≡ with_value (answered 15 9 23) (pos 2)
  pub third-of_two : value_in "properties A => 1; B => 2;" 2 ≡ value_refused 9 26
  pub second-no_constant : value_in "properties A => 1; B => b;" 1 ≡ value_refused 9 19
  pub of_none : value_in "properties none;" 0 ≡ value_refused 9 16
  -- a text that is not clean: a message, and a token that is not taken
  pub no_value : value_in "properties A => 1; B => ;" 0 ≡ value_refused 9 25
  pub not_taken : value_in "properties A => 1; ;" 0 ≡ value_refused 9 20
  -- the section's own refusals come first
  pub no_section : value_in "A => 1;" 0 ≡ value_refused 4 0
  pub no_room : value_answer base (bytes "properties A => 1;") 8 25 0 ≡ value_refused 5 18
  pub never-closed : value_in "properties A => \"1" 0 ≡ value_refused 8 16

pub which : Which
unfolding more-definitions
which =
    record {
      second = refl;
      of_two = refl;
      third-of_two = refl;
      second-no_constant = refl;
      of_none = refl;
      no_value = refl;
      not_taken = refl;
      no_section = refl;
      no_room = refl;
      never-closed = refl;
    }
