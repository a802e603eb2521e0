-- What ends every token but trivia: nothing, or a byte that goes on with no token, as a space, an LF and `;` are. Such bytes are meek,
-- whatever stood in their place before. Assumes nothing.
use Prim.Native.Nat.{ℕ}
use mathlib.Core.Path.{◌≡◌, refl, sym, ◌∙◌}
use mathlib.Core.Bool.{Bool, false, ◌||◌}
use mathlib.Core.List.{List, [], ◌∷◌}
use lib.Dec.{eqb}
use Rattle.predictive.proofs.Tests.{never, or_l, or_r, or_neither}
use Rattle.aadl.specs.Bytes.{peek, is_digit, is_ident_start, is_ident_continue, is_grouped, is_based}
use Rattle.aadl.specs.Tokens.{radix_digit, marks}
use Rattle.aadl.proofs.Bools.{false_unless}
use Rattle.aadl.proofs.RunLaws.{run_none}
use Rattle.aadl.proofs.ByteClasses.{other_byte, radix-word}
use Rattle.aadl.proofs.SameRuns.{inner, joins, Meek}

-- A byte that can stand in a token behind its first, other than in trivia and within quotes.
unfoldable pub goes_on : ℕ → Bool
goes_on b = is_ident_continue b || (is_based b || joins b)

-- Nothing, or a byte that goes on with no token; the end reads as 0, which goes on with none.
abbrev pub Separates : List ℕ → Type 0
Separates s = goes_on (peek s 0) ≡ false

pub nothing-separates : Separates []
unfolding goes_on inner marks
nothing-separates = refl

pub space_separates : (s : List ℕ) → Separates (32 ∷ s)
unfolding goes_on inner marks
space_separates s = refl

pub line-separates : (s : List ℕ) → Separates (10 ∷ s)
unfolding goes_on inner marks
line-separates s = refl

pub semicolon_separates : (s : List ℕ) → Separates (59 ∷ s)
unfolding goes_on inner marks
semicolon_separates s = refl

pub separates_meek : (x y : List ℕ) → Separates y → Meek x y
unfolding goes_on
separates_meek x y s =
    let b = peek y 0 in
    let word : is_ident_continue b ≡ false = or_l (is_ident_continue b) (is_based b || joins b) s in
    let digit : is_digit b ≡ false = or_r (is_ident_start b) (is_digit b) word in
    let rest : (is_based b || joins b) ≡ false = or_r (is_ident_continue b) (is_based b || joins b) s in
    record {
      digit = λ e. run_none is_digit y digit;
      word = λ e. run_none is_ident_continue y word;
      grouped = λ e. run_none is_grouped y (or_neither (is_digit b) (eqb b 95) digit (other_byte is_ident_continue b 95 word refl));
      based = λ e. run_none is_based y (or_l (is_based b) (joins b) rest);
      radix = λ m e. false_unless (radix_digit m b) (λ t. never (sym word ∙ (radix-word m b t).1));
      apart = or_r (is_based b) (joins b) rest;
    }
