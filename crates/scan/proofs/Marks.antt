-- Marks. Where no mark of two bytes and more stands, the first byte decides (`longest-first`); that none stands is seen by the first byte, or
-- by the second (`longer-from`). The longest mark depends on the first three bytes only, read as 0 past the end (`longest-of_window`).
-- Each follows from a law of `stand` for one mark, by induction on the list of marks. Assumes nothing.
use mathlib.Core.Path.{◌≡◌, refl, sym, ap, ◌∙◌}
use mathlib.Core.Bool.{Bool, true, false, not, ◌&&◌, ◌||◌, cond, and-false}
use mathlib.Core.List.{List, [], ◌∷◌}
use Prim.Native.Nat.{ℕ, zero, suc, ◌%◌, ◌<◌, max}
use Prim.Native.String.{String}
use native.Mathlib.Nat.{le_of_suc-le-suc, not-suc-le-zero, add-zero}
use native.Mathlib.Omega.{arith}
use lib.ListN.{length, get_or, drop}
use lib.Seq.{get_or-drop, drop-cons}
use lib.Dec.{eqb, leb, ltb}
use borrow.Author.Tests.{not-true, eqb-true, ne_eqb, leb-true, le-leb, ltb-true}
use Rattle.predictive.specs.Grammar.{stand}
use Rattle.predictive.proofs.Tests.{never, and_l, and_r, and_false_l, or_l, or_r, or_neither}
use Rattle.aadl.specs.declared.Token.{Token}
use Rattle.aadl.specs.Kinds.{ERROR, WHITESPACE, INTEGER_LIT, #◌}
use Rattle.aadl.specs.Bytes.{peek}
use Rattle.aadl.specs.Utf8.{sequence}
use Rattle.aadl.specs.Words.{bytes}
use Rattle.aadl.specs.Tokens.{token, marks, longest_mark, mark_of, token_of}
use Rattle.aadl.proofs.Lists.{every}
use Rattle.aadl.proofs.Unclosed.{longest-closed}
use Rattle.classes.specs.Classes.{in_longer, is_second, lead_of}
use Rattle.cursor.specs.declared.Window.{Window}
use Rattle.cursor.specs.Window.{window_of}
use Rattle.scan.specs.Inner.{single, longest}
use Rattle.std.specs.Prelude.{Option, Some, None}
use Rattle.scan.specs.Places.{Begins, Other}
use Rattle.scan.proofs.FirstByte.{all-bytes, first_byte, begins-mark, token-is_mark, other-begins_mark}

-- As aadl gives marks: of none the kind and the length are 0.
abbrev best : List ℕ → Token
best bs = longest_mark 5 marks bs

abbrev one : ℕ → Token
one k = token k (cond (eqb k 0) 0 1)

abbrev found : Token → Option Token
found t = cond (eqb t.len 0) None (Some t)

one-found : (k : ℕ) → found (one k) ≡ single k
one-found k = go (eqb k 0)
  where
    go : (t : Bool) → found (token k (cond t 0 1)) ≡ cond t None (Some (token k 1))
    go true = refl
    go false = refl

-- THE FIRST BYTE DECIDES -----------------------------------------------------------------------------------------------

-- A mark of two bytes or more stands.
abbrev pub longer-stands : List String → List ℕ → Bool
longer-stands [] xs = false
longer-stands (m ∷ ms) xs = (leb 2 (length (bytes m)) && stand (bytes m) xs) || longer-stands ms xs

stand-first : (ks : List ℕ) (a : ℕ) (bs : List ℕ) → (leb 2 (length ks) && stand ks (a ∷ bs)) ≡ false → stand ks (a ∷ bs) ≡ stand ks (a ∷ [])
stand-first [] a bs e = refl
stand-first (x ∷ []) a bs e = refl
stand-first (x ∷ y ∷ ks) a bs e =
    sym (ap (λ (t : Bool). t && stand (x ∷ y ∷ ks) (a ∷ bs)) (le-leb 2 (suc (suc (length ks))) (omega arith))) ∙ e ∙ sym (and-false (eqb a x))

longest_mark-first : (k : ℕ) (ms : List String) (a : ℕ) (bs : List ℕ) → longer-stands ms (a ∷ bs) ≡ false → longest_mark k ms (a ∷ bs) ≡ longest_mark k ms (a ∷ [])
longest_mark-first k [] a bs e = refl
longest_mark-first k (m ∷ ms) a bs e =
    let this = leb 2 (length (bytes m)) && stand (bytes m) (a ∷ bs) in
    let here = stand-first (bytes m) a bs (or_l this (longer-stands ms (a ∷ bs)) e) in
    let later = longest_mark-first (suc k) ms a bs (or_r this (longer-stands ms (a ∷ bs)) e) in
    λ i. cond (here i && ltb (later i).len (length (bytes m))) (token k (length (bytes m))) (later i)

best-first : (a : ℕ) (bs : List ℕ) → longer-stands marks (a ∷ bs) ≡ false → best (a ∷ bs) ≡ best (a ∷ [])
best-first a bs e = longest_mark-first 5 marks a bs e

pub longest-first : (a : ℕ) (bs : List ℕ) → longer-stands marks (a ∷ bs) ≡ false → longest (a ∷ bs) ≡ longest (a ∷ [])
longest-first a bs e = ap found (best-first a bs e)

-- each byte of what stands is there
stand-at : (ks xs : List ℕ) (i : ℕ) → i < length ks → stand ks xs ≡ true → eqb (peek xs i) (get_or ks i 0) ≡ true
stand-at [] xs i h e = absurd (not-suc-le-zero h)
stand-at (k ∷ ks) [] i h e = never e
stand-at (k ∷ ks) (x ∷ xs) zero h e = and_l (eqb x k) (stand ks xs) e
stand-at (k ∷ ks) (x ∷ xs) (suc i) h e = stand-at ks xs i (le_of_suc-le-suc h) (and_r (eqb x k) (stand ks xs) e)

-- a byte that no longer mark has at that place shuts all of them out
longer-from : (i : ℕ) (ms : List String) (xs : List ℕ) → i < 2 → in_longer i ms (peek xs i) ≡ false → longer-stands ms xs ≡ false
longer-from i [] xs h e = refl
longer-from i (m ∷ ms) xs h e =
    let this = leb 2 (length (bytes m)) && eqb (peek xs i) (get_or (bytes m) i 0) in
    or_neither _ _ (go (leb 2 (length (bytes m))) refl (stand (bytes m) xs) refl (or_l this (in_longer i ms (peek xs i)) e))
    (longer-from i ms xs h (or_r this (in_longer i ms (peek xs i)) e))
  where
    go : (l : Bool) → leb 2 (length (bytes m)) ≡ l → (t : Bool) → stand (bytes m) xs ≡ t → (l && eqb (peek xs i) (get_or (bytes m) i 0)) ≡ false → (l && t) ≡ false
    go false d t f q = refl
    go true d false f q = refl
    go true d true f q = never (sym q ∙ stand-at (bytes m) xs i (omega (arith, leb-true 2 (length (bytes m)) d)) f)

-- THE FIRST THREE BYTES ------------------------------------------------------------------------------------------------

-- At most n bytes, none of them 0.
abbrev clean : ℕ → List ℕ → Bool
clean n [] = true
clean zero (k ∷ ks) = false
clean (suc n) (k ∷ ks) = ltb 0 k && clean n ks

-- The first n bytes, 0 for those that are not there.
abbrev peeks : ℕ → List ℕ → List ℕ
peeks zero bs = []
peeks (suc n) bs = peek bs 0 ∷ peeks n (drop 1 bs)

stand-peeks : (n : ℕ) (ks bs : List ℕ) → clean n ks ≡ true → stand ks bs ≡ stand ks (peeks n bs)
stand-peeks zero [] bs e = refl
stand-peeks (suc n) [] bs e = refl
stand-peeks zero (k ∷ ks) bs e = never e
stand-peeks (suc n) (k ∷ ks) [] e =
    let h = ltb-true 0 k (and_l (ltb 0 k) (clean n ks) e) in
    sym (and_false_l (eqb 0 k) (stand ks (peeks n [])) (ne_eqb 0 k (λ q. omega (arith, q, h))))
stand-peeks (suc n) (k ∷ ks) (b ∷ bs) e =
    ap (λ (t : Bool). eqb b k && t) (stand-peeks n ks bs (and_r (ltb 0 k) (clean n ks) e))

longest-peeks : (n k : ℕ) (ms : List String) (bs : List ℕ) → every (λ (m : String). clean n (bytes m)) ms ≡ true
    → longest_mark k ms bs ≡ longest_mark k ms (peeks n bs)
longest-peeks n k [] bs e = refl
longest-peeks n k (m ∷ ms) bs e =
    let test = every (λ (m : String). clean n (bytes m)) ms in
    let here = stand-peeks n (bytes m) bs (and_l (clean n (bytes m)) test e) in
    let later = longest-peeks n (suc k) ms bs (and_r (clean n (bytes m)) test e) in
    λ i. cond (here i && ltb (later i).len (length (bytes m))) (token k (length (bytes m))) (later i)

three-peeks : (bs : List ℕ) → peeks 3 bs ≡ peek bs 0 ∷ peek bs 1 ∷ peek bs 2 ∷ []
three-peeks [] = refl
three-peeks (a ∷ []) = refl
three-peeks (a ∷ b ∷ []) = refl
three-peeks (a ∷ b ∷ c ∷ bs) = refl

module _ (s : List ℕ) (at : ℕ) (w : Window) (e : w ≡ window_of s at) where
  window-first : w.first ≡ peek (drop at s) 0
  window-first = ap (λ (v : Window). v.first) e ∙ ap (peek s) (sym (add-zero at)) ∙ sym (get_or-drop at s 0 0)

  window-second : w.second ≡ peek (drop at s) 1
  window-second = ap (λ (v : Window). v.second) e ∙ sym (get_or-drop at s 1 0)

  best-of_window : best (w.first ∷ w.second ∷ w.third ∷ []) ≡ best (drop at s)
  unfolding marks
  best-of_window =
      let third : w.third ≡ peek (drop at s) 2 = ap (λ (v : Window). v.third) e ∙ sym (get_or-drop at s 2 0) in
      (λ i. best (window-first i ∷ window-second i ∷ third i ∷ [])) ∙ ap best (sym (three-peeks (drop at s))) ∙ sym (longest-peeks 3 5 marks (drop at s) refl)

  pub longest-of_window : longest (w.first ∷ w.second ∷ w.third ∷ []) ≡ longest (drop at s)
  longest-of_window = ap found best-of_window

-- WHAT A SCANNER GIVES -------------------------------------------------------------------------------------------------

-- a mark where one stands, else an error
abbrev mark_else : Option Token → Token → Token
mark_else None t = t
mark_else (Some m) t = m

mark_by_longest : (bs : List ℕ) → mark_else (longest bs) (token (# ERROR) (max 1 (sequence bs))) ≡ mark_of bs
unfolding mark_of
mark_by_longest bs = go (eqb (best bs).len 0)
  where
    go : (t : Bool) → mark_else (cond t None (Some (best bs))) (token (# ERROR) (max 1 (sequence bs))) ≡ cond t (token (# ERROR) (max 1 (sequence bs))) (best bs)
    go true = refl
    go false = refl

pub mark-stands : (bs : List ℕ) (t : Token) → Some t ≡ longest bs → t ≡ mark_of bs
mark-stands bs t e = ap (λ m. mark_else m (token (# ERROR) (max 1 (sequence bs)))) e ∙ mark_by_longest bs

pub no_mark_stands : (bs : List ℕ) (n : ℕ) → None ≡ longest bs → n ≡ max 1 (sequence bs) → token (# ERROR) n ≡ mark_of bs
no_mark_stands bs n e h = ap (token (# ERROR)) h ∙ ap (λ m. mark_else m (token (# ERROR) (max 1 (sequence bs)))) e ∙ mark_by_longest bs

-- MARKS BY THEIR FIRST BYTE --------------------------------------------------------------------------------------------

-- a mark by its kind and its length, since every mark is closed
mark-by : (bs : List ℕ) (k n : ℕ) → k ≡ (best bs).kind → n ≡ (best bs).len → token k n ≡ best bs
mark-by bs k n e f = λ i. record { kind = e i; len = f i; closed = sym (longest-closed 5 marks bs) i }

-- a byte that says the kind of a mark which no other begins with
abbrev lone : ℕ → Bool
lone b = ltb (# WHITESPACE) (lead_of b) && ltb (lead_of b) (# INTEGER_LIT)

lone-mark : (b : ℕ) (bs : List ℕ) → b < 256 → lone b ≡ true → token (lead_of b) 1 ≡ token_of (b ∷ bs)
unfolding marks
lone-mark b bs l e =
    let t = best (b ∷ []) in
    let no_longer = longer-from 0 marks (b ∷ bs) (omega arith) (not-true (in_longer 0 marks b) (all-bytes lone (λ (b : ℕ). not (in_longer 0 marks b)) refl b l e)) in
    let k = eqb-true t.kind (lead_of b) (all-bytes lone (λ (b : ℕ). eqb (best (b ∷ [])).kind (lead_of b)) refl b l e) in
    let n = eqb-true t.len 1 (all-bytes lone (λ (b : ℕ). eqb (best (b ∷ [])).len 1) refl b l e) in
    let is : token (lead_of b) 1 ≡ best (b ∷ bs) = mark-by (b ∷ []) (lead_of b) 1 (sym k) (sym n) ∙ sym (best-first b bs no_longer) in
    mark-stands (b ∷ bs) (token (lead_of b) 1) (ap found is)
    ∙ token-is_mark (b ∷ bs) (all-bytes lone begins-mark refl b l e) (and_false_l (eqb b 45) (eqb (peek (b ∷ bs) 1) 45) (not-true (eqb b 45) (all-bytes lone (λ (b : ℕ). not (eqb b 45)) refl b l e)))

pub lone-token : (s : List ℕ) (at k : ℕ) → Begins s at k → (ltb (# WHITESPACE) k && ltb k (# INTEGER_LIT)) ≡ true → token k 1 ≡ token_of (drop at s)
lone-token s at k h e =
    let b = get_or s at 0 in
    ap (λ (n : ℕ). token n 1) (sym h.leads)
    ∙ lone-mark b (drop (suc at) s) h.byte (ap (λ (n : ℕ). ltb (# WHITESPACE) n && ltb n (# INTEGER_LIT)) h.leads ∙ e)
    ∙ ap token_of (sym (drop-cons s at 0 h.inside))

-- the mark that the byte itself is
other-single : (s : List ℕ) (at k : ℕ) → Begins s at k → Other k → one (k % 64) ≡ best (peek (drop at s) 0 ∷ [])
unfolding marks
other-single s at k h o =
    let b = get_or s at 0 in
    let m : begins-mark b ≡ true = ap begins-mark (first_byte s at k h) ∙ other-begins_mark s at k h o in
    let t = best (b ∷ []) in
    let n = one (lead_of b % 64) in
    let k' = eqb-true n.kind t.kind (all-bytes begins-mark (λ (b : ℕ). eqb (one (lead_of b % 64)).kind (best (b ∷ [])).kind) refl b h.byte m) in
    let l' = eqb-true n.len t.len (all-bytes begins-mark (λ (b : ℕ). eqb (one (lead_of b % 64)).len (best (b ∷ [])).len) refl b h.byte m) in
    ap (λ (j : ℕ). one (j % 64)) (sym h.leads) ∙ mark-by (b ∷ []) n.kind n.len k' l' ∙ ap (λ (x : ℕ). best (x ∷ [])) (first_byte s at k h)

module _ (s : List ℕ) (at k : ℕ) (h : Begins s at k) (o : Other k) (w : Window) (e : w ≡ window_of s at) where
  one-of_window : one (k % 64) ≡ best (w.first ∷ [])
  one-of_window = other-single s at k h o ∙ ap (λ (b : ℕ). best (b ∷ [])) (sym (window-first s at w e))

  pub single-of_window : single (k % 64) ≡ longest (w.first ∷ [])
  single-of_window = sym (one-found (k % 64)) ∙ ap found one-of_window

  -- a byte that stands second in no mark
  pub single-stands : is_second w.second ≡ false → single (k % 64) ≡ longest (drop at s)
  single-stands n =
      let none = longer-from 1 marks (w.first ∷ w.second ∷ w.third ∷ []) (omega arith) (or_r (eqb w.second 45) (in_longer 1 marks w.second) n) in
      single-of_window ∙ sym (longest-first w.first (w.second ∷ w.third ∷ []) none) ∙ longest-of_window s at w e

  -- no comment begins here
  pub mark-token : (eqb w.first 45 && eqb w.second 45) ≡ false → mark_of (drop at s) ≡ token_of (drop at s)
  mark-token n =
      token-is_mark (drop at s) (other-begins_mark s at k h o) (sym (λ i. eqb (window-first s at w e i) 45 && eqb (window-second s at w e i) 45) ∙ n)
