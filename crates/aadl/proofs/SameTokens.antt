-- A token that ends within a ∷ u is the same token before x and before y, where y is meek: `token_of-same`, case by case as 01 lists them.
-- A run of trivia, an unclosed string and the digits before `..` need more, which `Kept` asks. Text need not be well-formed. Assumes
-- nothing.
use Prim.Native.Nat.{ℕ, suc, ◌≤◌, ◌<◌, zero-le, suc-le-suc}
use native.Mathlib.Nat.{le_of_suc-le-suc, not-suc-le-zero}
use native.Mathlib.Omega.{arith}
use mathlib.Core.Path.{◌≡◌, refl, sym, ap, ◌∙◌}
use mathlib.Core.Bool.{Bool, true, false, not, ◌&&◌}
use mathlib.Core.List.{List, [], ◌∷◌, ◌++◌}
use lib.ListN.{length, length-append}
use lib.Seq.{take-append-le}
use lib.Dec.{eqb}
use borrow.Author.Tests.{eqb-true}
use Rattle.predictive.proofs.Tests.{never, and_l, and_r, and_false_r}
use Rattle.aadl.specs.declared.Token.{Token}
use Rattle.aadl.specs.declared.Quoted.{Quoted}
use Rattle.aadl.specs.Kinds.{WHITESPACE, COMMENT, #◌}
use Rattle.aadl.specs.Bytes.{peek, run, is_whitespace, is_digit, is_ident_start, is_ident_continue, not_lf}
use Rattle.aadl.specs.Tokens.{token, more_quoted, quoted, string_of, string_lit, number_lit, word_of, token_of}
use Rattle.aadl.proofs.Bools.{cond_has, false_unless, cond_first, cond_same}
use Rattle.aadl.proofs.TokenBounds.{quoted-whole}
use Rattle.aadl.proofs.SameRuns.{Meek, meek_none, run-same}
use Rattle.aadl.proofs.SameNumbers.{Parted, number_same}
use Rattle.aadl.proofs.SameMarks.{mark-same}

-- STRINGS --------------------------------------------------------------------------------------------------------------

abbrev no_more : Bool → Quoted
no_more c = record { len = 0; closed = c }

-- a quote that closes a string closes it before y too
quoted-stops : (y : List ℕ) → eqb (peek y 0) 34 ≡ false → quoted true y ≡ no_more true
unfolding quoted
quoted-stops [] e = refl
quoted-stops (b ∷ y) e = rw e refl

quoted-same : (q : Bool) (u x y : List ℕ) → (quoted q (u ++ x)).len ≤ length u → (quoted q (u ++ x)).closed ≡ true → eqb (peek y 0) 34 ≡ false →
    quoted q (u ++ y) ≡ quoted q (u ++ x)
unfolding quoted
quoted-same true [] [] y h e k = quoted-stops y k
quoted-same false [] [] y h e k = never e
quoted-same true [] (b ∷ x) y h e k =
    quoted-stops y k ∙
    cond_has (λ (s : Quoted). s.len ≤ 0 → no_more true ≡ s) (not (eqb b 34)) _ _ (λ f l. refl) (λ f l. absurd (not-suc-le-zero l)) h
quoted-same false [] (b ∷ x) y h e k = absurd (not-suc-le-zero h)
quoted-same q (b ∷ u) x y h e k =
    cond_same (λ (s : Quoted). (s.len ≤ suc (length u)) × (s.closed ≡ true)) (q && not (eqb b 34)) (q && not (eqb b 34)) refl _ _ _ _
    (λ f i. refl) (λ f i. ap more_quoted (quoted-same (not q && eqb b 34) u x y (le_of_suc-le-suc i.0) i.1 k)) (h, e)

-- a string that ends before the text does is closed
pub quoted-closed : (q : Bool) (bs : List ℕ) → (quoted q bs).len < length bs → (quoted q bs).closed ≡ true
quoted-closed q bs h = go (quoted q bs).closed refl
  where
    go : (c : Bool) → (quoted q bs).closed ≡ c → (quoted q bs).closed ≡ true
    go true e = e
    go false e = absurd (omega (arith, h, quoted-whole q bs e))

pub string-same : (a : ℕ) (u x y : List ℕ) → (string_of (a ∷ (u ++ x))).len ≤ suc (length u) → (x ≡ [] → (string_of (a ∷ (u ++ x))).closed ≡ true) →
    eqb (peek y 0) 34 ≡ false → string_of (a ∷ (u ++ y)) ≡ string_of (a ∷ (u ++ x))
unfolding string_of
string-same a u x y h e k = ap more_quoted (quoted-same false u x y (le_of_suc-le-suc h) (closed x e (le_of_suc-le-suc h)) k)
  where
    closed : (z : List ℕ) → (z ≡ [] → (quoted false (u ++ z)).closed ≡ true) → (quoted false (u ++ z)).len ≤ length u → (quoted false (u ++ z)).closed ≡ true
    closed [] f l = f refl
    closed (c ∷ z) f l = quoted-closed false (u ++ c ∷ z) (omega (arith, length-append u (c ∷ z)))

-- WORDS ----------------------------------------------------------------------------------------------------------------

word_same : (u x y : List ℕ) → Meek x y → (word_of (u ++ x)).len ≤ length u → word_of (u ++ y) ≡ word_of (u ++ x)
unfolding word_of
word_same u x y m h =
    let n = run is_ident_continue (u ++ x) in
    rw (run-same is_ident_continue u x y h m.word, take-append-le n u y h, take-append-le n u x h)

-- WHITESPACE AND COMMENTS ----------------------------------------------------------------------------------------------

-- two dashes, of which the second may be y's: a comment is longer than the first
dashes-same : (a : ℕ) (u x y : List ℕ) → Meek x y → ((eqb a 45 && eqb (peek (u ++ x) 0) 45) ≡ true → run not_lf (a ∷ (u ++ x)) ≤ suc (length u)) →
    (eqb a 45 && eqb (peek (u ++ y) 0) 45) ≡ (eqb a 45 && eqb (peek (u ++ x) 0) 45)
unfolding run
dashes-same a [] x y m h =
    and_false_r (eqb a 45) (eqb (peek y 0) 45) (meek_none m 45 refl) ∙
    sym (false_unless (eqb a 45 && eqb (peek x 0) 45) (λ t. omega (arith, h t, dashes-long x t)))
  where
    dashes-long : (z : List ℕ) → (eqb a 45 && eqb (peek z 0) 45) ≡ true → 2 ≤ run not_lf (a ∷ z)
    dashes-long [] e = never (and_r (eqb a 45) false e)
    dashes-long (b ∷ z) e = rw (eqb-true a 45 (and_l (eqb a 45) (eqb b 45) e), eqb-true b 45 (and_r (eqb a 45) (eqb b 45) e)) (suc-le-suc (suc-le-suc zero-le))
dashes-same a (b ∷ u) x y m h = refl

-- TOKENS ---------------------------------------------------------------------------------------------------------------

-- What a token t of u ++ x, where y takes x's place, must be besides: it ends within u; a run of trivia does not go on in y if it ended
-- before x; it is closed, which is to be asked only if x is empty; and it is not followed by one dot before x and one in x.
pub record Kept (u x y : List ℕ) (t : Token) : Type 0 where
  pub ends : t.len ≤ length u
  pub white : t.kind ≡ # WHITESPACE → run is_whitespace x ≡ 0 → run is_whitespace y ≡ 0
  pub comment : t.kind ≡ # COMMENT → run not_lf x ≡ 0 → run not_lf y ≡ 0
  pub closed : x ≡ [] → t.closed ≡ true
  pub parted : Parted u x t.len

pub token_of-same : (a : ℕ) (u x y : List ℕ) → Meek x y → Kept (a ∷ u) x y (token_of (a ∷ (u ++ x))) → token_of (a ∷ (u ++ y)) ≡ token_of (a ∷ (u ++ x))
unfolding token_of
token_of-same a u x y m q =
    cond_same Q (is_whitespace a) (is_whitespace a) refl _ _ _ _
    (λ e k. ap (token (# WHITESPACE)) (run-same is_whitespace (a ∷ u) x y k.ends (k.white refl)))
    (λ e k. cond_same Q (dashes x) (dashes y) (dashes-same a u x y m (λ t. (cond_first Q (dashes x) _ _ k t).ends)) _ _ _ _
    (λ f l. ap (token (# COMMENT)) (run-same not_lf (a ∷ u) x y l.ends (l.comment refl)))
    (λ f l. cond_same Q (eqb a 34) (eqb a 34) refl _ _ _ _
    (λ g n. ap string_lit (string-same a u x y n.ends n.closed (meek_none m 34 refl)))
    (λ g n. cond_same Q (is_digit a) (is_digit a) refl _ _ _ _
    (λ r o. ap number_lit (number_same a u x y m o.ends o.parted))
    (λ r o. cond_same Q (is_ident_start a) (is_ident_start a) refl _ _ _ _
    (λ w v. word_same (a ∷ u) x y m v.ends) (λ w v. mark-same a u x y m v.ends) o) n) l) k) q
  where
    Q : Token → Type 0
    Q t = Kept (a ∷ u) x y t

    dashes : List ℕ → Bool
    dashes z = eqb a 45 && eqb (peek (u ++ z) 0) 45
