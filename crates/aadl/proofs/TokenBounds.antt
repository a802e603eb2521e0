-- A token has at least one byte and ends within the text, and its kind is below 128: case by case as 01 lists them, by one law for the
-- cases of a token and one for those of a number. A byte that a test passes stands within the text, since past the end a byte reads as
-- 0, which the tests refuse. Assumes nothing.
use Prim.Native.Nat.{ℕ, zero, suc, ◌+◌, ◌-◌, ◌≤◌, ◌<◌, max, zero-le, suc-le-suc}
use Prim.Native.String.{String}
use native.Mathlib.Nat.{not-suc-le-zero, le_trans}
use native.Mathlib.Omega.{arith}
use mathlib.Core.Path.{◌≡◌, refl, sym, ap, ◌∙◌}
use mathlib.Core.Bool.{Bool, true, false, not, ◌&&◌, ◌||◌, cond, false≢true}
use mathlib.Core.List.{List, [], ◌∷◌}
use lib.ListN.{length, drop, take, length-drop}
use lib.Dec.{eqb, ltb}
use borrow.Author.Tests.{eqb-true, eqb-false}
use Rattle.predictive.specs.Grammar.{has, stand}
use Rattle.aadl.specs.declared.Token.{Token}
use Rattle.aadl.specs.declared.Quoted.{Quoted}
use Rattle.aadl.specs.declared.Number.{Number}
use Rattle.aadl.specs.Kinds.{ERROR, WHITESPACE, COMMENT, INTEGER_LIT, REAL_LIT, IDENT, #◌}
use Rattle.aadl.specs.Words.{bytes, words, table, numbered, find, same, kind_of_word}
use Rattle.aadl.specs.Bytes.{peek, run, run_end}
use Rattle.aadl.specs.Bytes.{is_whitespace, is_digit, is_ident_start, is_ident_continue, is_exponent, is_sign, is_grouped, is_based, not_lf}
use Rattle.aadl.specs.Tokens.{quoted, string_of, exponent_end, radix_digit, is_c_style, c_style, based, real, integer, number_from, number_of, number_lit}
use Rattle.aadl.specs.Tokens.{token, string_lit, word_of, marks, longest_mark, mark_of, token_of}
use Rattle.predictive.proofs.Tests.{never, and_l, and_r}
use Rattle.aadl.proofs.Bools.{cond_has}
use Rattle.aadl.proofs.ByteClasses.{start_word, radix-word}
use Rattle.aadl.proofs.Utf8Laws.{sequence-within}

-- A place from i on that is past the text's end only if i is.
pub record Upto (bs : List ℕ) (i n : ℕ) : Type 0 where
  pub from : i ≤ n
  pub to : n ≤ max i (length bs)

upto : {bs : List ℕ} {i n : ℕ} → i ≤ n → n ≤ max i (length bs) → Upto bs i n
upto h k = record { from = h; to = k }

upto-trans : {bs : List ℕ} {i j n : ℕ} → Upto bs i j → Upto bs j n → Upto bs i n
upto-trans u v = upto (le_trans u.from v.from) (omega arith)

-- RUNS -----------------------------------------------------------------------------------------------------------------

pub inside : (p : ℕ → Bool) → p 0 ≡ false → (bs : List ℕ) (i : ℕ) → p (peek bs i) ≡ true → i < length bs
inside p z [] i e = absurd (false≢true (sym z ∙ e))
inside p z (b ∷ bs) zero e = suc-le-suc zero-le
inside p z (b ∷ bs) (suc i) e = suc-le-suc (inside p z bs i e)

pub run-within : (p : ℕ → Bool) (bs : List ℕ) → run p bs ≤ length bs
unfolding run
run-within p [] = zero-le
run-within p (b ∷ bs) = cond_has (λ (n : ℕ). n ≤ suc (length bs)) (p b) _ _ (λ e. suc-le-suc (run-within p bs)) (λ e. zero-le)

-- a run whose first byte is there
pub run-upto : (p : ℕ → Bool) (bs : List ℕ) → 1 ≤ length bs → p (peek bs 0) ≡ true → Upto bs 1 (run p bs)
unfolding run
run-upto p [] h e = absurd (not-suc-le-zero h)
run-upto p (b ∷ bs) h e = upto (rw e (suc-le-suc zero-le)) (omega (arith, run-within p (b ∷ bs)))

-- past a byte that a test passes
pub byte-upto : (p : ℕ → Bool) → p 0 ≡ false → (bs : List ℕ) (i : ℕ) → p (peek bs i) ≡ true → Upto bs i (i + 1)
byte-upto p z bs i e = upto (omega arith) (omega (arith, inside p z bs i e))

pub run-end_upto : (p : ℕ → Bool) (bs : List ℕ) (i : ℕ) → Upto bs i (run_end p bs i)
unfolding run_end
run-end_upto p bs i = upto (omega arith) (omega (arith, run-within p (drop i bs), length-drop i bs))

-- NUMBERS --------------------------------------------------------------------------------------------------------------

-- Where an exponent whose letter is at i ends.
abbrev pub signed-end : List ℕ → ℕ → ℕ
signed-end bs i = cond (is_sign (peek bs (i + 1))) (run_end is_digit bs (i + 2)) (run_end is_digit bs (i + 1))

pub signed-upto : (bs : List ℕ) (i : ℕ) → Upto bs (i + 1) (signed-end bs i)
signed-upto bs i =
    cond_has (Upto bs (i + 1)) (is_sign (peek bs (i + 1))) _ _
    (λ f. upto-trans (upto (omega arith) (omega (arith, inside is_sign refl bs (i + 1) f))) (run-end_upto is_digit bs (i + 2)))
    (λ f. run-end_upto is_digit bs (i + 1))

pub exponent_end-upto : (bs : List ℕ) (i : ℕ) → Upto bs i (exponent_end bs i)
unfolding exponent_end
exponent_end-upto bs i =
    cond_has (Upto bs i) (is_exponent (peek bs i)) _ _
    (λ e. upto-trans (byte-upto is_exponent refl bs i e) (signed-upto bs i)) (λ e. upto (omega arith) (omega arith))

-- past a closing `#`, if there
pub hash-upto : (bs : List ℕ) (e : ℕ) → Upto bs e (cond (eqb (peek bs e) 35) (e + 1) e)
hash-upto bs e =
    cond_has (Upto bs e) (eqb (peek bs e) 35) (e + 1) e
    (λ q. byte-upto (λ (b : ℕ). eqb b 35) refl bs e q) (λ q. upto (omega arith) (omega arith))

pub based-upto : (bs : List ℕ) (i : ℕ) → Upto bs i (based bs i).len
unfolding based
based-upto bs i =
    let e = run_end is_based bs i in
    upto-trans (run-end_upto is_based bs i) (upto-trans (hash-upto bs e) (exponent_end-upto bs (cond (eqb (peek bs e) 35) (e + 1) e)))

-- digits from i on, then an exponent if there
pub decimals_upto : (bs : List ℕ) (i : ℕ) → Upto bs i (exponent_end bs (run_end is_digit bs i))
decimals_upto bs i = upto-trans (run-end_upto is_digit bs i) (exponent_end-upto bs (run_end is_digit bs i))

-- a C-style literal has the bytes of its three tests
pub c_style-long : (bs : List ℕ) (d : ℕ) → is_c_style bs d ≡ true → d + 2 ≤ run is_ident_continue bs
unfolding run
c_style-long bs d e =
    let z = and_l (eqb d 1 && eqb (peek bs 0) 48) (radix_digit (peek bs d) (peek bs (d + 1))) e in
    let o = eqb-true d 1 (and_l (eqb d 1) (eqb (peek bs 0) 48) z) in
    omega (arith, three bs (ap (λ (i : ℕ). is_c_style bs i) (sym o) ∙ e))
  where
    three : (cs : List ℕ) → is_c_style cs 1 ≡ true → 3 ≤ run is_ident_continue cs
    three [] e = never e
    three (a ∷ []) e = never (radix-word 0 0 (and_r (eqb a 48) (radix_digit 0 0) e)).0
    three (a ∷ m ∷ []) e = never (radix-word m 0 (and_r (eqb a 48) (radix_digit m 0) e)).1
    three (a ∷ m ∷ b ∷ cs) e =
        let r = radix-word m b (and_r (eqb a 48) (radix_digit m b) e) in
        let z : is_ident_continue a ≡ true = ap is_ident_continue (eqb-true a 48 (and_l (eqb a 48) (radix_digit m b) e)) in
        rw (z, r.0, r.1) (suc-le-suc (suc-le-suc (suc-le-suc zero-le)))

-- What holds in each case, where its own test passes, holds of a number.
pub number-cases : (P : Number → Type 0) (bs : List ℕ) (d : ℕ) →
    (is_c_style bs d ≡ true → P (c_style (run is_ident_continue bs))) → (eqb (peek bs d) 35 ≡ true → P (based bs (d + 1))) →
    (eqb (peek bs d) 46 ≡ true → P (real bs (run_end is_digit bs (d + 1)))) → P (real bs d) →
    P (integer (run_end is_grouped bs d)) → P (number_from bs d)
unfolding number_from
number-cases P bs d c b r x i =
    let dot = eqb (peek bs d) 46 in
    let alone = not (eqb (peek bs (d + 1)) 46) in
    cond_has P (is_c_style bs d) _ _ c
    (λ e. cond_has P (eqb (peek bs d) 35) _ _ b
    (λ f. cond_has P (dot && alone) _ _ (λ g. r (and_l dot alone g)) (λ g. cond_has P (is_exponent (peek bs d)) _ _ (λ k. x) (λ k. i))))

pub number_from-upto : (bs : List ℕ) (d : ℕ) → Upto bs d (number_from bs d).len
number_from-upto bs d =
    number-cases (λ (n : Number). Upto bs d n.len) bs d
    (λ e. upto (omega (arith, c_style-long bs d e)) (omega (arith, run-within is_ident_continue bs)))
    (λ e. upto-trans (byte-upto (λ (b : ℕ). eqb b 35) refl bs d e) (based-upto bs (d + 1)))
    (λ e. upto-trans (byte-upto (λ (b : ℕ). eqb b 46) refl bs d e) (decimals_upto bs (d + 1)))
    (exponent_end-upto bs d) (run-end_upto is_grouped bs d)

pub number-upto : (bs : List ℕ) → is_digit (peek bs 0) ≡ true → Upto bs 1 (number_of bs).len
unfolding number_of
number-upto bs g = upto-trans (run-upto is_digit bs (inside is_digit refl bs 0 g) g) (number_from-upto bs (run is_digit bs))

-- STRINGS --------------------------------------------------------------------------------------------------------------

pub quoted-within : (q : Bool) (bs : List ℕ) → (quoted q bs).len ≤ length bs
unfolding quoted
quoted-within q [] = zero-le
quoted-within q (b ∷ bs) =
    cond_has (λ (s : Quoted). s.len ≤ suc (length bs)) (q && not (eqb b 34)) _ _
    (λ e. zero-le) (λ e. suc-le-suc (quoted-within (not q && eqb b 34) bs))

-- an unclosed string takes all bytes
pub quoted-whole : (q : Bool) (bs : List ℕ) → (quoted q bs).closed ≡ false → (quoted q bs).len ≡ length bs
unfolding quoted
quoted-whole q [] = λ e. refl
quoted-whole q (b ∷ bs) =
    cond_has (λ (s : Quoted). s.closed ≡ false → s.len ≡ suc (length bs)) (q && not (eqb b 34)) _ _
    (λ f e. never (sym e)) (λ f e. ap suc (quoted-whole (not q && eqb b 34) bs e))

pub string-upto : (bs : List ℕ) → 1 ≤ length bs → Upto bs 1 (string_of bs).len
unfolding string_of
string-upto bs h = upto (omega arith) (omega (arith, quoted-within false (drop 1 bs), length-drop 1 bs))

-- PUNCTUATION, ANY OTHER CHARACTER -------------------------------------------------------------------------------------

pub stand-within : (ks bs : List ℕ) → stand ks bs ≡ true → length ks ≤ length bs
stand-within [] bs e = zero-le
stand-within (k ∷ ks) [] e = absurd (false≢true e)
stand-within (k ∷ ks) (b ∷ bs) e = suc-le-suc (stand-within ks bs (and_r (eqb b k) (stand ks bs) e))

pub longest_mark-within : (k : ℕ) (ms : List String) (bs : List ℕ) → (longest_mark k ms bs).len ≤ length bs
longest_mark-within k [] bs = zero-le
longest_mark-within k (m ∷ ms) bs =
    let shorter = ltb (longest_mark (suc k) ms bs).len (length (bytes m)) in
    cond_has (λ (t : Token). t.len ≤ length bs) (stand (bytes m) bs && shorter) _ _
    (λ e. stand-within (bytes m) bs (and_l (stand (bytes m) bs) shorter e)) (λ e. longest_mark-within (suc k) ms bs)

pub mark-upto : (bs : List ℕ) → 1 ≤ length bs → Upto bs 1 (mark_of bs).len
unfolding mark_of
mark-upto bs h =
    let n = (longest_mark 5 marks bs).len in
    cond_has (λ (t : Token). Upto bs 1 t.len) (eqb n 0) _ _
    (λ e. upto (omega arith) (omega (arith, sequence-within bs)))
    (λ e. upto (omega (arith, eqb-false n 0 e)) (omega (arith, longest_mark-within 5 marks bs)))

-- TOKENS ---------------------------------------------------------------------------------------------------------------

-- What holds in each case, where its own test passes, holds of a token.
pub token-cases : (P : Token → Type 0) (bs : List ℕ) →
    (is_whitespace (peek bs 0) ≡ true → P (token (# WHITESPACE) (run is_whitespace bs))) →
    ((eqb (peek bs 0) 45 && eqb (peek bs 1) 45) ≡ true → P (token (# COMMENT) (run not_lf bs))) → (eqb (peek bs 0) 34 ≡ true → P (string_lit (string_of bs))) →
    (is_digit (peek bs 0) ≡ true → P (number_lit (number_of bs))) → (is_ident_start (peek bs 0) ≡ true → P (word_of bs)) →
    P (mark_of bs) → P (token_of bs)
unfolding token_of
token-cases P bs w c s n i m =
    cond_has P (is_whitespace (peek bs 0)) _ _ w
    (λ e. cond_has P (eqb (peek bs 0) 45 && eqb (peek bs 1) 45) _ _ c
    (λ f. cond_has P (eqb (peek bs 0) 34) _ _ s
    (λ g. cond_has P (is_digit (peek bs 0)) _ _ n (λ k. cond_has P (is_ident_start (peek bs 0)) _ _ i (λ l. m)))))

pub token-within : (bs : List ℕ) → 1 ≤ length bs → (1 ≤ (token_of bs).len) × ((token_of bs).len ≤ length bs)
unfolding word_of
token-within bs h =
    let u = token-cases (λ (t : Token). Upto bs 1 t.len) bs (run-upto is_whitespace bs h)
    (λ f. run-upto not_lf bs h (ap not_lf (eqb-true (peek bs 0) 45 (and_l (eqb (peek bs 0) 45) (eqb (peek bs 1) 45) f))))
    (λ q. string-upto bs h) (number-upto bs) (λ m. run-upto is_ident_continue bs h (start_word (peek bs 0) m)) (mark-upto bs h) in
    (u.from, omega (arith, u.to))

pub token-positive : (bs : List ℕ) → 1 ≤ (token_of bs).len
unfolding token_of mark_of marks
token-positive [] = omega arith
token-positive (b ∷ bs) = (token-within (b ∷ bs) (suc-le-suc zero-le)).0

-- KINDS ----------------------------------------------------------------------------------------------------------------

-- Words and marks are numbered one by one, so that the first number and the last bound them all.
find-between : (k : ℕ) (ss : List String) (w : List ℕ) → # IDENT ≤ k → (# IDENT ≤ find (numbered k ss) w) × (find (numbered k ss) w ≤ k + length ss)
find-between k [] w h = (omega arith, omega arith)
find-between k (s ∷ ss) w h =
    cond_has (λ (n : ℕ). (# IDENT ≤ n) × (n ≤ k + suc (length ss))) (same (bytes s) w) _ _ (λ e. (h, omega arith))
    (λ e. let r = find-between (suc k) ss w (omega arith) in (r.0, omega arith))

pub word-kind : (w : List ℕ) → (# IDENT ≤ kind_of_word w) × (kind_of_word w < 128)
unfolding kind_of_word table words
word-kind w =
    let n : length words ≡ 81 = refl in
    let r = find-between 34 words w (omega arith) in
    (r.0, omega arith)

pub longest_mark-between : (k : ℕ) (ms : List String) (bs : List ℕ) → 1 ≤ k →
    (1 ≤ (longest_mark k ms bs).len → k ≤ (longest_mark k ms bs).kind) × ((longest_mark k ms bs).kind < k + length ms)
longest_mark-between k [] bs p = (λ h. omega arith, omega (arith, p))
longest_mark-between k (m ∷ ms) bs p =
    let r = longest_mark-between (suc k) ms bs (suc-le-suc zero-le) in
    cond_has (λ (t : Token). (1 ≤ t.len → k ≤ t.kind) × (t.kind < k + suc (length ms)))
    (stand (bytes m) bs && ltb (longest_mark (suc k) ms bs).len (length (bytes m))) _ _
    (λ e. (λ h. omega arith, omega arith)) (λ e. (λ h. omega (arith, r.0 h), omega (arith, r.1)))

pub mark-kind : (bs : List ℕ) → (mark_of bs).kind < # INTEGER_LIT
unfolding mark_of marks
mark-kind bs =
    let n : length marks ≡ 25 = refl in
    cond_has (λ (t : Token). t.kind < # INTEGER_LIT) (eqb (longest_mark 5 marks bs).len 0) _ _
    (λ e. omega arith) (λ e. omega (arith, (longest_mark-between 5 marks bs (suc-le-suc zero-le)).1, n))

-- only a C-style literal is an ERROR, and it begins with `0`
pub number-kind : (P : ℕ → Type 0) (bs : List ℕ) → (peek bs 0 ≡ 48 → P (# ERROR)) → P (# INTEGER_LIT) → P (# REAL_LIT) → P (number_of bs).kind
unfolding number_of based
number-kind P bs w n r =
    let d = run is_digit bs in
    let e = run_end is_based bs (d + 1) in
    let f = cond (eqb (peek bs e) 35) (e + 1) e in
    let zero-first = eqb d 1 && eqb (peek bs 0) 48 in
    number-cases (λ (n : Number). P n.kind) bs d
    (λ c. w (eqb-true (peek bs 0) 48 (and_r (eqb d 1) (eqb (peek bs 0) 48) (and_l zero-first (radix_digit (peek bs d) (peek bs (d + 1))) c))))
    (λ h. cond_has P (has (take (e - (d + 1)) (drop (d + 1) bs)) 46 || is_exponent (peek bs f)) (# REAL_LIT) (# INTEGER_LIT) (λ q. r) (λ q. n)) (λ o. r) r n

pub token-kind_small : (bs : List ℕ) → (token_of bs).kind < 128
unfolding word_of
token-kind_small bs =
    token-cases (λ (t : Token). t.kind < 128) bs (λ e. omega arith) (λ e. omega arith) (λ e. omega arith)
    (λ e. number-kind (λ (k : ℕ). k < 128) bs (λ z. omega arith) (omega arith) (omega arith))
    (λ e. (word-kind (take (run is_ident_continue bs) bs)).1) (omega (arith, mark-kind bs))
