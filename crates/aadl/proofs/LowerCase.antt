-- A word is the same token in lower case, before what follows it: `lower-case_same`. A kind from IDENT on is a word's; a word starts and
-- goes on with bytes that do so in lower case too, and the table is matched without regard to case. Assumes nothing.
use Prim.Native.Nat.{ℕ, ◌+◌, ◌≤◌, ◌<◌}
use native.Mathlib.Omega.{arith}
use mathlib.Core.Path.{◌≡◌, refl, sym, ap, ap₂, ◌∙◌}
use mathlib.Core.Bool.{true, false, ◌&&◌}
use mathlib.Core.List.{List, [], ◌∷◌, ◌++◌, map}
use lib.ListN.{length, length-map}
use lib.Seq.{take-append_seam}
use lib.Dec.{eqb, leb}
use borrow.Author.Tests.{lt-leb, ne_eqb}
use Rattle.predictive.proofs.Tests.{and_false_r}
use Rattle.aadl.specs.declared.Token.{Token}
use Rattle.aadl.specs.Kinds.{IDENT, #◌}
use Rattle.aadl.specs.Words.{table, lower, kind_of_word}
use Rattle.aadl.specs.Bytes.{peek, within, run, is_ident_start, is_ident_continue}
use Rattle.aadl.specs.Tokens.{token, word_of, token_of}
use Rattle.aadl.proofs.Bools.{cond_has, bounds, within-bounds}
use Rattle.aadl.proofs.ByteClasses.{small-starts, capital-starts, start_word, start-high}
use Rattle.aadl.proofs.TokenBounds.{token-cases, token-positive, number-kind, mark-kind}
use Rattle.aadl.proofs.KeywordKinds.{find-lower}

-- WORDS ----------------------------------------------------------------------------------------------------------------

-- IDENT and the keywords are the kinds of words
pub word_starts : (bs : List ℕ) → # IDENT ≤ (token_of bs).kind → is_ident_start (peek bs 0) ≡ true
word_starts bs =
    token-cases (λ (t : Token). # IDENT ≤ t.kind → is_ident_start (peek bs 0) ≡ true) bs (λ e h. absurd (omega arith)) (λ e h. absurd (omega arith))
    (λ e h. absurd (omega arith))
    (λ e h. absurd (number-kind (λ (k : ℕ). # IDENT ≤ k → ⊥) bs (λ z l. omega arith) (λ l. omega arith) (λ l. omega arith) h))
    (λ e h. e) (λ h. absurd (omega (arith, mark-kind bs)))

pub token_of-word : (bs : List ℕ) → is_ident_start (peek bs 0) ≡ true → token_of bs ≡ word_of bs
unfolding token_of
token_of-word bs e =
    let b = peek bs 0 in
    let h = start-high b e in
    let below : (c : ℕ) → c < 58 → eqb b c ≡ false = λ c l. ne_eqb b c (λ q. omega arith) in
    rw (
      below 32 (omega arith),
      below 9 (omega arith),
      below 13 (omega arith),
      below 10 (omega arith),
      below 45 (omega arith),
      below 34 (omega arith),
      and_false_r (leb 48 b) (leb b 57) (lt-leb b 57 (omega arith)),
      e,
    ) refl

-- LOWER CASE -----------------------------------------------------------------------------------------------------------

small-letter : (b : ℕ) → within 65 90 b ≡ true → within 97 122 (b + 32) ≡ true
small-letter b e =
    let i = bounds 65 90 b e in
    within-bounds 97 122 (b + 32) (omega (arith, i.0)) (omega (arith, i.1))

pub lower-starts : (b : ℕ) → is_ident_start b ≡ is_ident_start (lower b)
lower-starts b =
    cond_has (λ (c : ℕ). is_ident_start b ≡ is_ident_start c) (leb 65 b && leb b 90) _ _
    (λ e. capital-starts b e ∙ sym (small-starts (b + 32) (small-letter b e))) (λ e. refl)

lower-goes_on : (b : ℕ) → is_ident_continue b ≡ is_ident_continue (lower b)
lower-goes_on b =
    cond_has (λ (c : ℕ). is_ident_continue b ≡ is_ident_continue c) (leb 65 b && leb b 90) _ _
    (λ e. start_word b (capital-starts b e) ∙ sym (start_word (b + 32) (small-starts (b + 32) (small-letter b e)))) (λ e. refl)

pub run-lower : (w s : List ℕ) → run is_ident_continue (w ++ s) ≡ run is_ident_continue (map lower w ++ s)
unfolding run
run-lower [] s = refl
run-lower (b ∷ w) s = rw (lower-goes_on b, run-lower w s) refl

pub word-whole : (w s : List ℕ) → run is_ident_continue (w ++ s) ≡ length w → word_of (w ++ s) ≡ token (kind_of_word w) (length w)
unfolding word_of
word-whole w s e = rw (e, take-append_seam w s)

pub lower-case_same : (w s : List ℕ) → (token_of (w ++ s)).len ≡ length w → # IDENT ≤ (token_of (w ++ s)).kind → token_of (map lower w ++ s) ≡ token_of (w ++ s)
unfolding word_of kind_of_word
lower-case_same [] s n k = absurd (omega (arith, token-positive s))
lower-case_same (a ∷ w) s n k =
    let v = a ∷ w in
    let b = word_starts (v ++ s) k in
    let t = token_of-word (v ++ s) b in
    let r : run is_ident_continue (v ++ s) ≡ length v = sym (ap (λ (x : Token). x.len) t) ∙ n in
    token_of-word (map lower v ++ s) (sym (lower-starts a) ∙ b) ∙
    word-whole (map lower v) s (sym (run-lower v s) ∙ r ∙ sym (length-map v lower)) ∙
    ap₂ token (sym (find-lower table v)) (length-map v lower) ∙ sym (t ∙ word-whole v s r)
