-- The value call, way by way (aadl's Extending): the section call refused; the verdict is a refusal; it is a value. Each keeps the call's promise.
-- Assumes nothing.
use Prim.Native.Nat.{ℕ}
use native.Mathlib.Omega.{arith}
use mathlib.Core.Path.{◌≡◌, ap, ◌∙◌}
use mathlib.Core.Bool.{Bool}
use mathlib.Core.List.{List, [], ◌∷◌}
use lib.ListN.{length, take, replicate}
use lib.IntN.{ℤ, pos}
use Rattle.std.specs.Prelude.{Ok, Err}
use Rattle.aadl.specs.declared.Answer.{Answer}
use Rattle.aadl.specs.declared.ValueAnswer.{ValueAnswer}
use Rattle.aadl.specs.declared.Limits.{Limits}
use Rattle.aadl.specs.Limits.{Allowed}
use Rattle.aadl.specs.Encoding.{words_for}
use Rattle.aadl.specs.Calls.{tokens_call, section_call}
use Rattle.aadl.specs.ValueCall.{with_value, value_refused, valuing, value_call}
use Rattle.aadl.specs.Demand.{is_clean}
use Rattle.aadl.specs.Promises.{SectionCalled, ValueCalled}
use Rattle.aadl.proofs.Extending.{did-same, on-refused, own-refuses, none-refuses}
use Rattle.aadl.proofs.CallsRead.{section-sound}
use Rattle.aadl.proofs.ValueCalls.{value-promised}
use Rattle.section.proofs.Unrefused.{all-passed, passed-short, token_words-counted, event_words-counted}
use Rattle.section.proofs.Demands.{clean-is_the_reading}
use Rattle.value.specs.declared.NoValue.{NoValue}
use Rattle.value.specs.declared.NoValue.TheVariants.{NoConstant, Beyond}
use Rattle.value.specs.Verdicts.{number_of, place_of, WasRead, Judged}

zeros : {m n : ℕ} → m ≡ n → ◌≡◌ {A = List ℕ} (replicate m 0) (replicate n 0)
zeros e = ap (λ (k : ℕ). replicate {A = ℕ} k 0) e

-- no value is a refusal
refuses : (w : NoValue) → number_of w ≡ 0 → ⊥
refuses (NoConstant p) e = omega (arith, e)
refuses (Beyond p) e = omega (arith, e)

-- a is what the section call answered, ts and es the token and event words that it left
module _ {limits : Limits} {text old last : List ℕ} {a : Answer} {ts es : List ℕ} (c : SectionCalled limits text old last a ts es) (k : ℕ) where
  -- What it refuses the value call refuses likewise.
  pub called-refused : (a.number ≡ 0 → ⊥) → ValueCalled limits text old last k (with_value a (pos 0)) ts es
  unfolding value_call
  called-refused f = value-promised limits text old last k (on-refused (section-sound limits text old last) (valuing limits text k) c.did f)

  module _ (z : a.number ≡ 0) where
    pub was_read : Allowed limits → (clean : Bool) → clean ≡ is_clean a ts es → WasRead limits text (take a.tokens ts) (take (words_for a.events) es) clean
    was_read h clean e =
        record {
          short = passed-short c z h;
          words = token_words-counted c z;
          pairs = event_words-counted c z;
          deep = (all-passed c z).deep;
          few = omega (arith, (all-passed c z).few);
          cleanly = e ∙ clean-is_the_reading c h z;
        }

    pub called-judged : {w : NoValue} → Judged limits text k (Err w) → (r : ValueAnswer) (us fs : List ℕ) → r ≡ value_refused (number_of w) (place_of w) → length ts ≡ length old →
        length es ≡ length last → us ≡ replicate (length ts) 0 → fs ≡ replicate (length es) 0 → ValueCalled limits text old last k r us fs
    unfolding value_call section_call tokens_call
    called-judged {w} j r us fs g lt le wt we =
        value-promised limits text old last k
        (did-same (own-refuses (section-sound limits text old last) (valuing limits text k) c.did z (value_refused (number_of w) (place_of w)) (j.decides a) (refuses w)) g
        (λ i. (wt ∙ zeros lt) i ∷ (we ∙ zeros le) i ∷ []))

    pub called-valued : {v : ℤ} → Judged limits text k (Ok v) → ValueCalled limits text old last k (with_value a v) ts es
    unfolding value_call
    called-valued {v} j =
        value-promised limits text old last k (none-refuses (section-sound limits text old last) (valuing limits text k) c.did z (with_value a v) (j.decides a) z)
