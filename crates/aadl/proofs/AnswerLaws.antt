-- The answers case by case: the first of the checks whose case holds refuses, and what a lent buffer then holds. Each is one turn of
-- `checked`, for whatever checks follow. Assumes nothing.
use Prim.Native.Nat.{ℕ, ◌≤◌, ◌<◌}
use mathlib.Core.Path.{◌≡◌, refl}
use mathlib.Core.List.{List, [], ◌++◌}
use lib.ListN.{length, take, drop, replicate}
use borrow.Author.Tests.{lt-ltb, le-ltb, eq-eqb, ne_eqb}
use Rattle.aadl.specs.declared.Answer.{Answer}
use Rattle.aadl.specs.Limits.{Limits}
use Rattle.aadl.specs.Utf8.{ill_formed}
use Rattle.aadl.specs.Tokens.{tokens, lengths, unclosed}
use Rattle.aadl.specs.Answers.{Check, text_checks, refused, checked, answered, all_tokens, tokens_answer, left_in}

-- The checks of both calls, with further ones cs, and the answer a where nothing is refused.
module _ (limits : Limits) (text : List ℕ) (m : ℕ) (cs : List Check) (a : Answer) where
  pub too_long : limits.bytes < length text → checked refused (text_checks limits text m ++ cs) a ≡ refused 1 limits.bytes
  too_long h = rw (lt-ltb limits.bytes (length text) h) refl

  module _ (h : length text ≤ limits.bytes) where
    pub not_utf8 : (ill_formed text ≡ length text → ⊥) → checked refused (text_checks limits text m ++ cs) a ≡ refused 2 (ill_formed text)
    not_utf8 n = rw (le-ltb limits.bytes (length text) h, ne_eqb (ill_formed text) (length text) n) refl

    module _ (g : ill_formed text ≡ length text) where
      pub no_word_left : m < length (tokens text) → checked refused (text_checks limits text m ++ cs) a ≡ refused 3 (lengths (take m (tokens text)))
      no_word_left l =
          rw (le-ltb limits.bytes (length text) h, eq-eqb (ill_formed text) (length text) g, lt-ltb m (length (tokens text)) l) refl

      module _ (l : length (tokens text) ≤ m) where
        pub not_closed : (unclosed (tokens text) ≡ length text → ⊥) → checked refused (text_checks limits text m ++ cs) a ≡ refused 8 (unclosed (tokens text))
        not_closed n =
            rw (le-ltb limits.bytes (length text) h, eq-eqb (ill_formed text) (length text) g, le-ltb m (length (tokens text)) l, ne_eqb (unclosed (tokens text)) (length text) n) refl

        pub text-passes : unclosed (tokens text) ≡ length text → checked refused (text_checks limits text m ++ cs) a ≡ checked refused cs a
        text-passes u =
            rw (le-ltb limits.bytes (length text) h, eq-eqb (ill_formed text) (length text) g, le-ltb m (length (tokens text)) l, eq-eqb (unclosed (tokens text)) (length text) u) refl

-- The tokens-only call has no further checks.
pub tokens_answer-is : (limits : Limits) (text : List ℕ) (m : ℕ) →
    tokens_answer limits text m ≡ checked refused (text_checks limits text m ++ []) (all_tokens text)
unfolding tokens_answer
tokens_answer-is limits text m = refl

-- After any refusal the words are zero.
pub left-by_refusal : (a : Answer) (ws old : List ℕ) → (a.number ≡ 0 → ⊥) → left_in a ws old ≡ replicate (length old) 0
unfolding left_in
left-by_refusal a ws old f = rw (ne_eqb a.number 0 f) refl

pub left-answered : (t k e : ℕ) (ws old : List ℕ) → left_in (answered t k e) ws old ≡ ws ++ drop (length ws) old
unfolding left_in
left-answered t k e ws old = refl
