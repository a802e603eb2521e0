-- Every token of a well-formed text begins and ends between characters (`tokens-between`; `starts-between` by the numbers of those that are
-- no trivia), so the bytes before a token are well-formed. A token ends behind a byte below 128, before an LF, with the one character that
-- it is, or with the text (`token-between`): case by case as 01 lists them. Assumes nothing.
use Prim.Native.Nat.{ℕ, zero, suc, ◌+◌, ◌-◌, ◌<◌, max, zero-le, suc-le-suc}
use Prim.Native.String.{String}
use native.Mathlib.Nat.{add_assoc, add-zero, zero-add}
use native.Mathlib.Omega.{arith}
use native.Mathlib.Numerals.{add-one}
use mathlib.Core.Path.{◌≡◌, refl, sym, ap, subst}
use mathlib.Core.Logic.{◌⊎◌, inl, inr, ⊎_elim}
use mathlib.Core.Bool.{Bool, true, false, not, ◌&&◌, ◌||◌, cond}
use mathlib.Core.List.{List, [], ◌∷◌, map}
use lib.ListN.{length, get_or, take, drop}
use lib.Seq.{get_or-drop}
use lib.Dec.{eqb, ltb}
use borrow.Author.Tests.{eqb-true, ltb-true, not-false}
use Rattle.predictive.specs.Grammar.{stand}
use Rattle.predictive.proofs.Tests.{never, and_l, and_r, or_cases}
use Rattle.aadl.specs.declared.Token.{Token}
use Rattle.aadl.specs.declared.Quoted.{Quoted}
use Rattle.aadl.specs.declared.Number.{Number}
use Rattle.aadl.specs.Words.{bytes}
use Rattle.aadl.specs.Utf8.{sequence, is_continuation}
use Rattle.aadl.specs.Bytes.{peek, within, is_whitespace, is_digit, is_hex_digit, is_ident_start, is_ident_continue, is_exponent, is_sign, is_grouped, is_based, not_lf, run, run_end}
use Rattle.aadl.specs.Tokens.{quoted, string_of, exponent_end, based, number_of, word_of, marks, longest_mark, mark_of, token_of, tokens, lengths}
use Rattle.aadl.specs.Symbols.{is_trivia, Placed, placed, start_of}
use Rattle.aadl.proofs.Bools.{cond_has, bounds}
use Rattle.aadl.proofs.Lists.{every, Each}
use Rattle.aadl.proofs.TokenBounds.{number-cases, token-cases}
use Rattle.aadl.proofs.TokensCover.{tokens-step}
use Rattle.aadl.proofs.Characters.{Formed, WellFormed, Between, formed, formed-begins, formed-back, between-end, low-passes, between-behind_low, well_formed_front}

-- CLASSES OF BYTES BELOW 128 -------------------------------------------------------------------------------------------

abbrev Low : (ℕ → Bool) → Type 0
Low p = (b : ℕ) → p b ≡ true → b < 128

low_byte : (c : ℕ) → c < 128 → Low (λ b. eqb b c)
low_byte c h b e = omega (arith, h, eqb-true b c e)

low-within : (low high : ℕ) → high < 128 → Low (within low high)
low-within low high h b e = omega (arith, h, (bounds low high b e).1)

low-either : (p q : ℕ → Bool) → Low p → Low q → Low (λ b. p b || q b)
low-either p q f g b e = ⊎_elim (f b) (g b) (or_cases (p b) (q b) e)

low_digit : Low is_digit
low_digit = low-within 48 57 (omega arith)

low_word : Low is_ident_continue
low_word =
    low-either is_ident_start is_digit
    (low-either (λ b. within 97 122 b || within 65 90 b) (λ b. eqb b 95)
    (low-either (within 97 122) (within 65 90) (low-within 97 122 (omega arith)) (low-within 65 90 (omega arith))) (low_byte 95 (omega arith)))
    low_digit

low-whitespace : Low is_whitespace
low-whitespace =
    low-either (λ b. (eqb b 32 || eqb b 9) || eqb b 13) (λ b. eqb b 10)
    (low-either (λ b. eqb b 32 || eqb b 9) (λ b. eqb b 13)
    (low-either (λ b. eqb b 32) (λ b. eqb b 9) (low_byte 32 (omega arith)) (low_byte 9 (omega arith))) (low_byte 13 (omega arith)))
    (low_byte 10 (omega arith))

low-grouped : Low is_grouped
low-grouped = low-either is_digit (λ b. eqb b 95) low_digit (low_byte 95 (omega arith))

low-based : Low is_based
low-based =
    low-either (λ b. is_hex_digit b || eqb b 46) (λ b. eqb b 95)
    (low-either is_hex_digit (λ b. eqb b 46)
    (low-either (λ b. is_digit b || within 97 102 b) (within 65 70)
    (low-either is_digit (within 97 102) low_digit (low-within 97 102 (omega arith))) (low-within 65 70 (omega arith))) (low_byte 46 (omega arith)))
    (low_byte 95 (omega arith))

low-exponent : Low is_exponent
low-exponent = low-either (λ b. eqb b 101) (λ b. eqb b 69) (low_byte 101 (omega arith)) (low_byte 69 (omega arith))

low-sign : Low is_sign
low-sign = low-either (λ b. eqb b 43) (λ b. eqb b 45) (low_byte 43 (omega arith)) (low_byte 45 (omega arith))

-- RUNS -----------------------------------------------------------------------------------------------------------------

run-between : (p : ℕ → Bool) → Low p → (bs : List ℕ) → Formed 0 bs → Between bs (run p bs)
unfolding run
run-between p low [] f = refl
run-between p low (b ∷ bs) f =
    cond_has (Between (b ∷ bs)) (p b) _ _ (λ e. run-between p low bs (low-passes b bs (low b e) f)) (λ e. f.0)

line-between : (bs : List ℕ) → Between bs (run not_lf bs)
unfolding run
line-between [] = refl
line-between (b ∷ bs) =
    cond_has (Between (b ∷ bs)) (not_lf b) _ _ (λ e. line-between bs) (λ e. subst (λ (c : ℕ). Between (c ∷ bs) 0) (sym (eqb-true b 10 (not-false (eqb b 10) e))) refl)

-- NUMBERS --------------------------------------------------------------------------------------------------------------

module _ (bs : List ℕ) (f : Formed 0 bs) where
  -- behind a byte of a class, and behind a run of them from a place between characters on
  byte-between : (p : ℕ → Bool) → Low p → (i : ℕ) → p (peek bs i) ≡ true → Between bs (i + 1)
  byte-between p low i e = rw (add-one i) (between-behind_low bs 0 i f (low (peek bs i) e))

  run-end_between : (p : ℕ → Bool) → Low p → (i : ℕ) → Between bs i → Between bs (run_end p bs i)
  unfolding run_end
  run-end_between p low i c =
      subst (λ (b : ℕ). is_continuation b ≡ false) (get_or-drop i bs (run p (drop i bs)) 0) (run-between p low (drop i bs) (formed-back bs 0 i f c))

  exponent-between : (i : ℕ) → Between bs i → Between bs (exponent_end bs i)
  unfolding exponent_end
  exponent-between i c =
      cond_has (Between bs) (is_exponent (peek bs i)) _ _
      (λ e. cond_has (Between bs) (is_sign (peek bs (i + 1))) _ _
      (λ s. run-end_between is_digit low_digit (i + 2) (subst (Between bs) (omega arith) (byte-between is_sign low-sign (i + 1) s)))
      (λ s. run-end_between is_digit low_digit (i + 1) (byte-between is_exponent low-exponent i e)))
      (λ e. c)

  hash-between : (i : ℕ) → Between bs i → Between bs (cond (eqb (peek bs i) 35) (i + 1) i)
  hash-between i c = cond_has (Between bs) (eqb (peek bs i) 35) (i + 1) i (byte-between (λ b. eqb b 35) (low_byte 35 (omega arith)) i) (λ e. c)

  based-between : (i : ℕ) → Between bs i → Between bs (based bs i).len
  unfolding based
  based-between i c = exponent-between _ (hash-between (run_end is_based bs i) (run-end_between is_based low-based i c))

  number-between : Between bs (number_of bs).len
  unfolding number_of
  number-between =
      let d = run is_digit bs in
      let c = run-between is_digit low_digit bs f in
      number-cases (λ (n : Number). Between bs n.len) bs d (λ e. run-between is_ident_continue low_word bs f)
      (λ e. based-between (d + 1) (byte-between (λ b. eqb b 35) (low_byte 35 (omega arith)) d e))
      (λ e. exponent-between _ (run-end_between is_digit low_digit (d + 1) (byte-between (λ b. eqb b 46) (low_byte 46 (omega arith)) d e)))
      (exponent-between d c) (run-end_between is_grouped low-grouped d c)

-- STRINGS --------------------------------------------------------------------------------------------------------------

-- What belongs to a string ends with the text or behind a quote; a is the byte before.
quoted-ends : (q : Bool) (a : ℕ) (bs : List ℕ) → (q ≡ true → a ≡ 34) → ((quoted q bs).len ≡ length bs) ⊎ (peek (a ∷ bs) (quoted q bs).len ≡ 34)
unfolding quoted
quoted-ends q a [] h = inl refl
quoted-ends q a (b ∷ bs) h =
    let more = not q && eqb b 34 in
    cond_has (λ (s : Quoted). (s.len ≡ suc (length bs)) ⊎ (peek (a ∷ b ∷ bs) s.len ≡ 34)) (q && not (eqb b 34)) _ _
    (λ e. inr (h (and_l q (not (eqb b 34)) e)))
    (λ e. ⊎_elim (λ r. inl (ap suc r)) (λ r. inr r) (quoted-ends more b bs (λ m. eqb-true b 34 (and_r (not q) (eqb b 34) m))))

string-between : (b : ℕ) (bs : List ℕ) → Formed 0 (b ∷ bs) → Between (b ∷ bs) (string_of (b ∷ bs)).len
unfolding string_of
string-between b bs f =
    let n = (quoted false bs).len in
    ⊎_elim (λ e. subst (Between bs) (sym e) (between-end bs)) (λ e. between-behind_low (b ∷ bs) 0 n f (omega (arith, e)))
    (quoted-ends false b bs (λ e. never e))

-- PUNCTUATION, ANY OTHER CHARACTER -------------------------------------------------------------------------------------

-- One computed test: the marks are of bytes below 128.
abbrev is-low : List ℕ → Bool
is-low = every (λ (b : ℕ). ltb b 128)

marks-low : every (λ (m : String). is-low (bytes m)) marks ≡ true
unfolding marks
marks-low = refl

stand-between : (ks bs : List ℕ) → Formed 0 bs → is-low ks ≡ true → stand ks bs ≡ true → Between bs (length ks)
stand-between [] bs f l e = formed-begins bs f
stand-between (k ∷ ks) [] f l e = never e
stand-between (k ∷ ks) (b ∷ bs) f l e =
    let h = ltb-true k 128 (and_l (ltb k 128) (is-low ks) l) in
    let q = eqb-true b k (and_l (eqb b k) (stand ks bs) e) in
    stand-between ks bs (low-passes b bs (omega (arith, h, q)) f) (and_r (ltb k 128) (is-low ks) l) (and_r (eqb b k) (stand ks bs) e)

longest-between : (k : ℕ) (ms : List String) (bs : List ℕ) → Formed 0 bs → every (λ (m : String). is-low (bytes m)) ms ≡ true → Between bs (longest_mark k ms bs).len
longest-between k [] bs f l = formed-begins bs f
longest-between k (m ∷ ms) bs f l =
    let others = every (λ (n : String). is-low (bytes n)) ms in
    let shorter = ltb (longest_mark (suc k) ms bs).len (length (bytes m)) in
    cond_has (λ (t : Token). Between bs t.len) (stand (bytes m) bs && shorter) _ _
    (λ e. stand-between (bytes m) bs f (and_l (is-low (bytes m)) others l) (and_l (stand (bytes m) bs) shorter e))
    (λ e. longest-between (suc k) ms bs f (and_r (is-low (bytes m)) others l))

mark-between : (b : ℕ) (bs : List ℕ) → Formed 0 (b ∷ bs) → Between (b ∷ bs) (mark_of (b ∷ bs)).len
unfolding mark_of
mark-between b bs f =
    let n = sequence (b ∷ bs) in
    let whole : max 1 n ≡ suc (n - 1) = omega (arith, f.1) in
    cond_has (λ (t : Token). Between (b ∷ bs) t.len) (eqb (longest_mark 5 marks (b ∷ bs)).len 0) _ _
    (λ e. subst (Between (b ∷ bs)) (sym whole) (behind (n - 1) bs f.2)) (λ e. longest-between 5 marks (b ∷ bs) f marks-low)
  where
    -- behind the bytes that continue
    behind : (k : ℕ) (cs : List ℕ) → Formed k cs → Between cs k
    behind k [] g = refl
    behind (suc k) (c ∷ cs) g = behind k cs g.1
    behind zero (c ∷ cs) g = g.0

-- TOKENS ---------------------------------------------------------------------------------------------------------------

token-between : (b : ℕ) (bs : List ℕ) → Formed 0 (b ∷ bs) → Between (b ∷ bs) (token_of (b ∷ bs)).len
unfolding word_of
token-between b bs f =
    token-cases (λ (t : Token). Between (b ∷ bs) t.len) (b ∷ bs) (λ e. run-between is_whitespace low-whitespace (b ∷ bs) f)
    (λ e. line-between (b ∷ bs)) (λ e. string-between b bs f) (λ e. number-between (b ∷ bs) f)
    (λ e. run-between is_ident_continue low_word (b ∷ bs) f) (mark-between b bs f)

first-tokens : (bs : List ℕ) (m : ℕ) → Formed 0 bs → Between bs (lengths (take m (tokens bs)))
first-tokens bs zero f = formed-begins bs f
first-tokens [] (suc m) f = refl
first-tokens (b ∷ bs) (suc m) f =
    let n = (token_of (b ∷ bs)).len in
    let c = token-between b bs f in
    let rest = first-tokens (drop n (b ∷ bs)) m (formed-back (b ∷ bs) 0 n f c) in
    rw (tokens-step (b ∷ bs) (suc-le-suc zero-le))
    (subst (λ (x : ℕ). is_continuation x ≡ false) (get_or-drop n (b ∷ bs) (lengths (take m (tokens (drop n (b ∷ bs))))) 0) rest)

-- Where the first m tokens end, and the next one begins.
pub tokens-between : (text : List ℕ) (m : ℕ) → WellFormed text → Between text (lengths (take m (tokens text)))
tokens-between text m e = first-tokens text m (formed text e)

-- where those begin that are no trivia, of tokens that stand from place i on
placed-between : (text : List ℕ) (i : ℕ) (ts : List Token) → ((m : ℕ) → Between text (i + lengths (take m ts))) →
    Each (λ (p : Placed). Between text p.place) (placed text i ts)
unfolding placed
placed-between text i [] h = tt
placed-between text i (t ∷ ts) h =
    let rest = placed-between text (i + t.len) ts (λ m. subst (Between text) (sym (add_assoc i t.len (lengths (take m ts)))) (h (suc m))) in
    cond_has (Each (λ (p : Placed). Between text p.place)) (is_trivia t.kind) _ _ (λ e. rest) (λ e. (subst (Between text) (add-zero i) (h 0), rest))

pub starts-between : (text : List ℕ) (t : ℕ) → WellFormed text → Between text (start_of text t)
unfolding start_of
starts-between text t e =
    go (placed text 0 (tokens text)) t (placed-between text 0 (tokens text) (λ m. subst (Between text) (sym (zero-add (lengths (take m (tokens text))))) (tokens-between text m e)))
  where
    go : (ps : List Placed) (n : ℕ) → Each (λ (p : Placed). Between text p.place) ps → Between text (get_or (map (λ (p : Placed). p.place) ps) n (length text))
    go [] n h = between-end text
    go (p ∷ ps) zero h = h.0
    go (p ∷ ps) (suc n) h = go ps n h.1

pub text-before_token : (text : List ℕ) (t : ℕ) → WellFormed text → WellFormed (take (start_of text t) text)
text-before_token text t e = well_formed_front text (start_of text t) e (starts-between text t e)
