-- A call that goes on from another, way by way, whatever it adds: the first call refused (`on-refused`), a check of its own refuses (`own-refuses`), or
-- none does (`none-refuses`). Where it refuses nothing it did what the first call does (`first's`). The same of a check put in front. Assumes nothing.
use Prim.Native.Nat.{ℕ}
use mathlib.Core.Path.{◌≡◌, refl, sym, ap, ◌∙◌}
use mathlib.Core.Bool.{Bool, true, false}
use mathlib.Core.List.{List, [], ◌∷◌, ◌++◌, map}
use lib.ListN.{length, take}
use Rattle.aadl.specs.declared.Answer.{Answer}
use Rattle.aadl.specs.Answers.{Check, check, refused, checked}
use Rattle.aadl.specs.Calls.{Form, plain, Call, refusing, number_of, answer_of, left, Did, Extension, extending, in_front, Each, Fails, filled, zeroed, AnsweredWhole}
use Rattle.aadl.proofs.Checks.{checks-pass, refuses-alike, first-fail, last-fail}
use Rattle.aadl.proofs.Settled.{Sound, whole, all-filled, all-zeroed}

-- LISTS AND CHECKS -----------------------------------------------------------------------------------------------------

module _ {A B : Type 0} (f : A → B) where
  map_joined : (xs ys : List A) → map f (xs ++ ys) ≡ map f xs ++ map f ys
  map_joined [] ys = refl
  map_joined (x ∷ xs) ys = ap (λ (l : List B). f x ∷ l) (map_joined xs ys)

  map_first : (xs ys : List A) → take (length xs) (map f (xs ++ ys)) ≡ map f xs
  map_first [] ys = refl
  map_first (x ∷ xs) ys = ap (λ (l : List B). f x ∷ l) (map_first xs ys)

module _ {A : Type 0} (refusing : (number place : ℕ) → A) where
  pub none-holds : (cs : List Check) (a : A) → Each Fails cs → checked refusing cs a ≡ a
  none-holds [] a f = refl
  none-holds (check n case p ∷ cs) a f = rw f.0 (none-holds cs a f.1)

-- What is the same as an answer and its exits did the call too.
pub did-same : {A : Type 0} {form : Form A} {call : Call form} {a b : A} {xs ys : List (List ℕ)} → Did call a xs → b ≡ a → ys ≡ xs → Did call b ys
did-same {form} {call} d p q =
    record { answer = p ∙ d.answer; exit = q ∙ d.exit ∙ ap (λ c. map (left (number_of form c)) call.buffers) (sym p) }

-- EXTENDING ------------------------------------------------------------------------------------------------------------

module _ {A : Type 0} {form : Form A} {first : Call plain} (sound : Sound first) (x : Extension form) {a : Answer} {xs : List (List ℕ)} (d : Did first a xs) where
  -- What the first call refuses is refused likewise.
  pub on-refused : (a.number ≡ 0 → ⊥) → Did (extending first x) (form.bare a) (xs ++ map zeroed x.more)
  on-refused f =
      let n = ap (λ (r : Answer). r.number) (form.shown a) in
      record {
        answer =
            ap form.bare d.answer
            ∙ sym (refuses-alike refused (refusing form) (λ (r : Answer). r.number) form.bare (λ k p. refl) first.checks x.own first.all (x.added first.all)
            sound.1 (λ h. f (ap (λ (r : Answer). r.number) d.answer ∙ h)));
        exit =
            (λ i. d.exit i ++ sym (all-zeroed a.number f x.more) i)
            ∙ sym (map_joined (left a.number) first.buffers x.more)
            ∙ ap (λ (k : ℕ). map (left k) (first.buffers ++ x.more)) (sym n);
      }

  module _ (z : a.number ≡ 0) where
    its : AnsweredWhole first a xs
    its = whole sound d z

    -- Its own checks decide ..
    pub by-own : answer_of (extending first x) ≡ checked (refusing form) x.own (x.added a)
    by-own =
        checks-pass (refusing form) first.checks x.own (x.added first.all) its.none
        ∙ ap (λ (r : Answer). checked (refusing form) x.own (x.added r)) (sym its.counts)

    -- .. one of them refuses ..
    pub own-refuses : (r : A) → checked (refusing form) x.own (x.added a) ≡ r → (number_of form r ≡ 0 → ⊥) →
        Did (extending first x) r (map zeroed (first.buffers ++ x.more))
    own-refuses r e o = record { answer = sym (by-own ∙ e); exit = sym (all-zeroed (number_of form r) o (first.buffers ++ x.more)) }

    -- .. or none does.
    pub none-refuses : (r : A) → checked (refusing form) x.own (x.added a) ≡ r → number_of form r ≡ 0 → Did (extending first x) r (xs ++ map filled x.more)
    none-refuses r e o =
        record {
          answer = sym (by-own ∙ e);
          exit =
              (λ i. its.fills i ++ map filled x.more)
              ∙ sym (map_joined filled first.buffers x.more)
              ∙ sym (all-filled (number_of form r) o (first.buffers ++ x.more));
        }

-- Where the extended call refuses nothing, and just adds to the first call's answer.
module _ {A : Type 0} {form : Form A} (first : Call plain) (x : Extension form) (adds : (a : Answer) → form.five (x.added a) ≡ a)
    (sound : Sound (extending first x)) {a : A} {xs : List (List ℕ)} (d : Did (extending first x) a xs) (z : number_of form a ≡ 0) where
  all-passed : AnsweredWhole (extending first x) a xs
  all-passed = whole sound d z

  -- it did what the first call does ..
  pub first's : Did first (form.five a) (take (length first.buffers) xs)
  first's =
      record {
        answer =
            ap form.five all-passed.counts ∙ adds first.all
            ∙ sym (none-holds refused first.checks first.all (first-fail first.checks x.own all-passed.none));
        exit =
            ap (take (length first.buffers)) all-passed.fills
            ∙ map_first filled first.buffers x.more
            ∙ sym (all-filled (number_of form a) z first.buffers);
      }

  -- .. and none of its own checks refuses.
  pub own-fail : Each Fails x.own
  own-fail = last-fail first.checks x.own all-passed.none

-- A CHECK IN FRONT -----------------------------------------------------------------------------------------------------

module _ {A : Type 0} {form : Form A} (n : ℕ) (case : Bool) (place : ℕ) (call : Call form) {a : A} {xs : List (List ℕ)} where
  -- Where its case holds it refuses, whatever the call behind is; where not, the call behind decides.
  pub front-refuses : Did (in_front n case place call) a xs → case ≡ true → a ≡ refusing form n place
  front-refuses d h = d.answer ∙ rw h refl

  pub front-passes : case ≡ false → Did call a xs → Did (in_front n case place call) a xs
  front-passes h d = record { answer = d.answer ∙ sym (checks-pass (refusing form) (check n case place ∷ []) call.checks call.all (h, tt)); exit = d.exit }

  -- Where nothing is refused, the call behind did it.
  pub behind : Sound (in_front n case place call) → Did (in_front n case place call) a xs → number_of form a ≡ 0 → Did call a xs
  behind sound d z =
      record { answer = d.answer ∙ checks-pass (refusing form) (check n case place ∷ []) call.checks call.all ((whole sound d z).none.0, tt); exit = d.exit }
