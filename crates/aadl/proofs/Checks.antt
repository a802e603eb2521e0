-- Checks one by one: what the failing of each says of the one with a number, and that checks which fail leave the answer to those that
-- follow, while one whose case holds refuses whatever follows. By induction over the checks. Assumes nothing.
use Prim.Native.Nat.{ℕ}
use mathlib.Core.Path.{◌≡◌, refl}
use mathlib.Core.Bool.{Bool, true, false, ◌&&◌, cond}
use mathlib.Core.List.{List, [], ◌∷◌, ◌++◌}
use lib.Dec.{leb, eqb}
use Rattle.aadl.specs.Answers.{Check, check, checked}
use Rattle.aadl.specs.Calls.{Each, Fails}

-- the case of the check with a number
abbrev pub case_of : (number : ℕ) → List Check → Bool
case_of k [] = false
case_of k (check n case place ∷ cs) = cond (eqb n k) case (case_of k cs)

-- So a new check, wherever it stands, changes no use of this.
pub fails_by : (number : ℕ) (cs : List Check) → Each Fails cs → case_of number cs ≡ false
fails_by k [] f = refl
fails_by k (check n case place ∷ cs) f = go (eqb n k) (fails_by k cs f.1)
  where
    go : (t : Bool) → case_of k cs ≡ false → cond t case (case_of k cs) ≡ false
    go true h = f.0
    go false h = h

-- No check has the number 0, which says that nothing is refused, nor one of more than a byte: decided by computing.
abbrev pub numbered : List Check → Bool
numbered [] = true
numbered (check n case place ∷ cs) = (leb 1 n && leb n 255) && numbered cs

module _ {A : Type 0} (refusing : (number place : ℕ) → A) where
  pub checks-pass : (cs ds : List Check) (a : A) → Each Fails cs → checked refusing (cs ++ ds) a ≡ checked refusing ds a
  checks-pass [] ds a f = refl
  checks-pass (check n case p ∷ cs) ds a f = rw f.0 (checks-pass cs ds a f.1)

-- Checks that refuse in one form of answer refuse alike in another, whatever follows.
module _ {A B : Type 0} (refusing : (number place : ℕ) → A) (refusing-too : (number place : ℕ) → B) (number : A → ℕ) (alike : A → B)
    (same : (n p : ℕ) → refusing-too n p ≡ alike (refusing n p)) where
  pub refuses-alike : (cs ds : List Check) (a : A) (b : B) → number a ≡ 0 → (number (checked refusing cs a) ≡ 0 → ⊥) →
      checked refusing-too (cs ++ ds) b ≡ alike (checked refusing cs a)
  refuses-alike [] ds a b e f = absurd (f e)
  refuses-alike (check n true p ∷ cs) ds a b e f = same n p
  refuses-alike (check n false p ∷ cs) ds a b e f = refuses-alike cs ds a b e f

-- Of checks that all fail, the first ones do, and the others.
pub first-fail : (cs ds : List Check) → Each Fails (cs ++ ds) → Each Fails cs
first-fail [] ds h = tt
first-fail (c ∷ cs) ds h = (h.0, first-fail cs ds h.1)

pub last-fail : (cs ds : List Check) → Each Fails (cs ++ ds) → Each Fails ds
last-fail [] ds h = h
last-fail (c ∷ cs) ds h = last-fail cs ds h.1
