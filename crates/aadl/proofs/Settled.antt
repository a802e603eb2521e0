-- Demand 1, of any call (`Calls`): whatever its checks, its form of answer and its lent buffers, every answer is settled. The proof is an
-- induction over the checks. Assumes nothing.
use Prim.Native.Nat.{ℕ, ◌≤◌}
use native.Mathlib.Omega.{arith}
use mathlib.Core.Path.{◌≡◌, refl, sym, ap, ◌∙◌}
use mathlib.Core.Logic.{◌⊎◌, inl, inr, ⊎_elim}
use mathlib.Core.Bool.{Bool, true, false, ◌&&◌, cond}
use mathlib.Core.List.{List, [], ◌∷◌, map}
use lib.Dec.{leb}
use borrow.Author.Tests.{eq-eqb, ne_eqb}
use Rattle.predictive.proofs.Tests.{and_l, and_r}
use Rattle.aadl.specs.declared.Answer.{Answer}
use Rattle.aadl.specs.Answers.{Check, check, checked}
use Rattle.aadl.specs.Calls.{Form, Buffer, Call, refusing, number_of, left, Did, Each, Fails, First, filled, zeroed, AnsweredWhole, RefusedFirst, Settled}
use Rattle.aadl.proofs.Bools.{bounds}
use Rattle.aadl.proofs.Checks.{numbered}

first-numbered : (cs : List Check) (n p : ℕ) → numbered cs ≡ true → First cs n p → (1 ≤ n) × (n ≤ 255)
first-numbered [] n p h f = absurd f
first-numbered (check k case q ∷ cs) n p h f =
    let b = and_l (leb 1 k && leb k 255) (numbered cs) h in
    ⊎_elim
    (λ x. (omega (arith, x.1.0, (bounds 1 255 k b).0), omega (arith, x.1.0, (bounds 1 255 k b).1)))
    (λ x. first-numbered cs n p (and_r (leb 1 k && leb k 255) (numbered cs) h) x.1)
    f

-- What the buffers are left with where nothing is refused, and after a refusal.
pub all-filled : (n : ℕ) → n ≡ 0 → (bs : List Buffer) → map (left n) bs ≡ map filled bs
all-filled n e bs = ap (λ (t : Bool). map (λ (b : Buffer). cond t (filled b) (zeroed b)) bs) (eq-eqb n 0 e)

pub all-zeroed : (n : ℕ) → (n ≡ 0 → ⊥) → (bs : List Buffer) → map (left n) bs ≡ map zeroed bs
all-zeroed n e bs = ap (λ (t : Bool). map (λ (b : Buffer). cond t (filled b) (zeroed b)) bs) (ne_eqb n 0 e)

module _ {A : Type 0} (form : Form A) where
  -- Either no case holds and nothing is refused, or the first that holds refuses.
  settles : (cs : List Check) (a : A) →
      (Each Fails cs × (checked (refusing form) cs a ≡ a))
      ⊎ ((n : ℕ) × ((p : ℕ) × (First cs n p × (checked (refusing form) cs a ≡ refusing form n p))))
  settles [] a = inl (tt, refl)
  settles (check n true p ∷ cs) a = inr (n, (p, (inl (refl, (refl, refl)), refl)))
  settles (check n false p ∷ cs) a =
      ⊎_elim
      (λ x. inl ((refl, x.0), x.1))
      (λ x. inr (x.0, (x.1.0, (inr (refl, x.1.1.0), x.1.1.1))))
      (settles cs a)

  pub refusal-number : (n p : ℕ) → number_of form (refusing form n p) ≡ n
  refusal-number n p = ap (λ (a : Answer). a.number) (form.shown _)

-- No check of a call has the number 0 or one of more than a byte, and where all is answered the number is 0: decided by computing.
abbrev pub Sound : {A : Type 0} {form : Form A} → Call form → Type 0
Sound {form} call = (numbered call.checks ≡ true) × (number_of form call.all ≡ 0)

module _ {A : Type 0} {form : Form A} {call : Call form} (sound : Sound call) {a : A} {exits : List (List ℕ)} (d : Did call a exits) where
  pub settled : Settled call a exits
  settled =
      ⊎_elim
      (λ y. inl (record { none = y.0; counts = d.answer ∙ y.1; fills = d.exit ∙ all-filled (number_of form a) (ap (number_of form) (d.answer ∙ y.1) ∙ sound.1) call.buffers }))
      (λ y. inr (refuses y.0 y.1.0 y.1.1.0 y.1.1.1))
      (settles form call.checks call.all)
    where
      refuses : (n p : ℕ) → First call.checks n p → checked (refusing form) call.checks call.all ≡ refusing form n p → RefusedFirst call a exits
      refuses n p f q =
          let m : number_of form a ≡ n = ap (number_of form) (d.answer ∙ q) ∙ refusal-number form n p in
          let o : n ≡ 0 → ⊥ = λ h. omega (arith, (first-numbered call.checks n p sound.0 f).0, h) in
          record { number = n; place = p; first = f; not_zero = o; no_counts = d.answer ∙ q; zeros = d.exit ∙ all-zeroed (number_of form a) (λ h. o (sym m ∙ h)) call.buffers }

  -- An answer that refuses nothing is whole.
  pub whole : number_of form a ≡ 0 → AnsweredWhole call a exits
  whole h =
      ⊎_elim (λ y. y) (λ y. absurd (y.not_zero (sym (ap (number_of form) y.no_counts ∙ refusal-number form y.number y.place) ∙ h))) settled

  -- A number fits a byte.
  pub number_small : number_of form a ≤ 255
  number_small =
      ⊎_elim
      (λ y. omega (arith, ap (number_of form) y.counts, sound.1))
      (λ y. omega (arith, ap (number_of form) y.no_counts, refusal-number form y.number y.place, (first-numbered call.checks y.number y.place sound.0 y.first).1))
      settled
