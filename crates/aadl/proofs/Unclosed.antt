-- 02's request Four: a string that is not closed. It takes all bytes up to the text's end, so only the last token can be one
-- (`only-the_last`), and one look at that one is enough (`one-look`). Where check 8 refuses, its place is that string's opening quote
-- (`unclosed-there`); where it does not, every token is closed (`all_closed`). So a text's last token tells check 8 and its place
-- (`last-tells`). By cases of the token, then by induction over the tokens. Assumes nothing.
use Prim.Native.Nat.{ℕ, zero, suc, ◌+◌, ◌-◌, ◌≤◌, ◌<◌, zero-le, suc-le-suc}
use Prim.Native.String.{String}
use native.Mathlib.Nat.{add-zero}
use native.Mathlib.Omega.{arith}
use mathlib.Core.Path.{◌≡◌, refl, sym, ap, subst, ◌∙◌}
use mathlib.Core.Bool.{Bool, true, false, ◌&&◌, cond}
use mathlib.Core.List.{List, [], ◌∷◌}
use lib.ListN.{length, get_or, take, drop, length-drop, drop_of_length-le}
use lib.Seq.{get_or-drop}
use lib.Dec.{eqb, ltb}
use borrow.Author.Tests.{eqb-true}
use Rattle.predictive.specs.Grammar.{stand}
use Rattle.predictive.proofs.Tests.{never}
use Rattle.aadl.specs.declared.Token.{Token}
use Rattle.aadl.specs.Kinds.{STRING_LIT, #◌}
use Rattle.aadl.specs.Words.{bytes}
use Rattle.aadl.specs.Bytes.{peek}
use Rattle.aadl.specs.Tokens.{token, string_of, string_lit, word_of, marks, longest_mark, mark_of, token_of, tokens, lengths, unclosed}
use Rattle.aadl.proofs.Bools.{cond_has}
use Rattle.aadl.proofs.Lists.{Each, each_at}
use Rattle.aadl.proofs.TokenBounds.{inside, quoted-whole, token-cases}
use Rattle.aadl.proofs.TokensCover.{tokens_none, tokens-step, tokens-cover_text, tokens-positive, token-by_number, lengths-around}

-- ONE TOKEN ------------------------------------------------------------------------------------------------------------

pub longest-closed : (k : ℕ) (ms : List String) (bs : List ℕ) → (longest_mark k ms bs).closed ≡ true
longest-closed k [] bs = refl
longest-closed k (m ∷ ms) bs =
    cond_has (λ (t : Token). t.closed ≡ true) (stand (bytes m) bs && ltb (longest_mark (suc k) ms bs).len (length (bytes m))) _ _
    (λ e. refl) (λ e. longest-closed (suc k) ms bs)

mark-closed : (bs : List ℕ) → (mark_of bs).closed ≡ true
unfolding mark_of
mark-closed bs = cond_has (λ (t : Token). t.closed ≡ true) (eqb (longest_mark 5 marks bs).len 0) _ _ (λ e. refl) (λ e. longest-closed 5 marks bs)

-- Some bytes begin with a quote, and the token that they begin with is a string, which takes all of them.
pub record NeverCloses (bs : List ℕ) (t : Token) : Type 0 where
  pub quote : peek bs 0 ≡ 34
  pub string : t ≡ string_lit (string_of bs)
  pub whole : t.len ≡ length bs

pub never-closes : (bs : List ℕ) → (token_of bs).closed ≡ false → NeverCloses bs (token_of bs)
unfolding word_of string_of
never-closes bs =
    token-cases (λ (t : Token). t.closed ≡ false → NeverCloses bs t) bs (λ e c. never (sym c)) (λ e c. never (sym c))
    (λ e c.
    let n = inside (λ (b : ℕ). eqb b 34) refl bs 0 e in
    record { quote = eqb-true (peek bs 0) 34 e; string = refl; whole = omega (arith, n, quoted-whole false (drop 1 bs) c, length-drop 1 bs) })
    (λ e c. never (sym c)) (λ e c. never (sym c)) (λ c. never (sym c ∙ mark-closed bs))

pub closed-unless_string : (bs : List ℕ) → ((token_of bs).kind ≡ # STRING_LIT → ⊥) → (token_of bs).closed ≡ true
closed-unless_string bs n = go (token_of bs).closed refl
  where
    go : (c : Bool) → (token_of bs).closed ≡ c → (token_of bs).closed ≡ true
    go true e = e
    go false e = absurd (n (ap (λ (t : Token). t.kind) (never-closes bs e).string))

-- THE TOKENS OF A TEXT -------------------------------------------------------------------------------------------------

-- "Only the last token can be one": every other is closed.
pub only-the_last : (i : ℕ) (bs : List ℕ) (d : Token) → suc i < length (tokens bs) → (get_or (tokens bs) i d).closed ≡ true
only-the_last zero [] d h = absurd (omega (arith, h, ap length (tokens_none [] zero-le)))
only-the_last (suc i) [] d h = absurd (omega (arith, h, ap length (tokens_none [] zero-le)))
only-the_last (suc i) (b ∷ bs) d h =
    let e = tokens-step (b ∷ bs) (suc-le-suc zero-le) in
    rw e (only-the_last i (drop (token_of (b ∷ bs)).len (b ∷ bs)) d (omega (arith, h, ap length e)))
only-the_last zero (b ∷ bs) d h = rw e (go (token_of (b ∷ bs)).closed refl)
  where
    e : tokens (b ∷ bs) ≡ token_of (b ∷ bs) ∷ tokens (drop (token_of (b ∷ bs)).len (b ∷ bs))
    e = tokens-step (b ∷ bs) (suc-le-suc zero-le)

    go : (c : Bool) → (token_of (b ∷ bs)).closed ≡ c → (token_of (b ∷ bs)).closed ≡ true
    go true f = f
    go false f =
        let n = (token_of (b ∷ bs)).len in
        let none = tokens_none (drop n (b ∷ bs)) (omega (arith, (never-closes (b ∷ bs) f).whole, length-drop n (b ∷ bs))) in
        absurd (omega (arith, h, ap length e, ap length none))

-- of tokens all of which but the last are closed
unclosed-last : (n : ℕ) (ts : List Token) (d : Token) → length ts ≡ suc n → ((i : ℕ) → suc i < length ts → (get_or ts i d).closed ≡ true) →
    unclosed ts ≡ cond (get_or ts n d).closed (lengths ts) (lengths (take n ts))
unclosed-last n [] d e h = absurd (omega (arith, e))
unclosed-last zero (t ∷ []) d e h = refl
unclosed-last zero (t ∷ u ∷ ts) d e h = absurd (omega (arith, e))
unclosed-last (suc n) (t ∷ []) d e h = absurd (omega (arith, e))
unclosed-last (suc n) (t ∷ u ∷ ts) d e h =
    let more : unclosed (t ∷ u ∷ ts) ≡ t.len + unclosed (u ∷ ts) = rw (h 0 (omega (arith, e))) refl in
    let rest = unclosed-last n (u ∷ ts) d (omega (arith, e)) (λ i l. h (suc i) (suc-le-suc l)) in
    more ∙ ap (λ (k : ℕ). t.len + k) rest ∙ inwards (get_or (u ∷ ts) n d).closed
  where
    inwards : (c : Bool) → t.len + cond c (lengths (u ∷ ts)) (lengths (take n (u ∷ ts))) ≡ cond c (t.len + lengths (u ∷ ts)) (t.len + lengths (take n (u ∷ ts)))
    inwards true = refl
    inwards false = refl

-- "So one look is enough": the last token tells check 8.
pub one-look : (n : ℕ) (text : List ℕ) (d : Token) → length (tokens text) ≡ suc n →
    unclosed (tokens text) ≡ cond (get_or (tokens text) n d).closed (length text) (lengths (take n (tokens text)))
one-look n text d e =
    unclosed-last n (tokens text) d e (λ i. only-the_last i text d)
    ∙ ap (λ (k : ℕ). cond (get_or (tokens text) n d).closed k (lengths (take n (tokens text)))) (tokens-cover_text text)

-- WHAT CHECK 8 SAYS ----------------------------------------------------------------------------------------------------

-- At a place stands a quote, the last token of a text starts there, behind so many others, and it is a string that is not closed.
pub record UnclosedAt (text : List ℕ) (place : ℕ) : Type 0 where
  pub quote : peek text place ≡ 34
  pub others : ℕ
  pub last : length (tokens text) ≡ suc others
  pub start : place ≡ lengths (take others (tokens text))
  pub string : get_or (tokens text) others (token 0 0) ≡ string_lit (record { len = length text - place; closed = false })

pub unclosed-there : (text : List ℕ) → (unclosed (tokens text) ≡ length text → ⊥) → UnclosedAt text (unclosed (tokens text))
unclosed-there text f = go last.closed refl
  where
    n : ℕ
    n = length (tokens text) - 1

    some : length (tokens text) ≡ suc n
    some = by-tokens (tokens text) (λ e. f (e ∙ tokens-cover_text text))
      where
        by-tokens : (ts : List Token) → (unclosed ts ≡ lengths ts → ⊥) → length ts ≡ suc (length ts - 1)
        by-tokens [] g = absurd (g refl)
        by-tokens (t ∷ ts) g = omega arith

    last : Token
    last = get_or (tokens text) n (token 0 0)

    place : ℕ
    place = lengths (take n (tokens text))

    from : List ℕ
    from = drop place text

    look : unclosed (tokens text) ≡ cond last.closed (length text) place
    look = one-look n text (token 0 0) some

    go : (c : Bool) → last.closed ≡ c → UnclosedAt text (unclosed (tokens text))
    go true e = absurd (f (look ∙ rw e refl))
    go false e =
        let at : unclosed (tokens text) ≡ place = look ∙ rw e refl in
        let same = token-by_number n text (token 0 0) (omega (arith, some)) in
        let r = never-closes from (sym (ap (λ (t : Token). t.closed) same) ∙ e) in
        let first : peek from 0 ≡ peek text place = get_or-drop place text 0 0 ∙ ap (peek text) (add-zero place) in
        let len : (string_of from).len ≡ length text - place = sym (ap (λ (t : Token). t.len) r.string) ∙ r.whole ∙ length-drop place text in
        let closed : (string_of from).closed ≡ false = sym (ap (λ (t : Token). t.closed) (same ∙ r.string)) ∙ e in
        subst (UnclosedAt text) (sym at)
        record {
          quote = sym first ∙ r.quote;
          others = n;
          last = some;
          start = refl;
          string = same ∙ r.string ∙ (λ i. string_lit (record { len = len i; closed = closed i }));
        }

pub all_closed : (text : List ℕ) → unclosed (tokens text) ≡ length text → Each (λ (t : Token). t.closed ≡ true) (tokens text)
all_closed text e = go (tokens text) (tokens-positive text) (e ∙ sym (tokens-cover_text text))
  where
    go : (ts : List Token) → Each (λ (t : Token). 1 ≤ t.len) ts → unclosed ts ≡ lengths ts → Each (λ (t : Token). t.closed ≡ true) ts
    go [] p f = tt
    go (t ∷ ts) p f =
        cond_has (λ (k : ℕ). k ≡ t.len + lengths ts → (t.closed ≡ true) × Each (λ (u : Token). u.closed ≡ true) ts) t.closed _ _
        (λ c g. (c, go ts p.1 (omega (arith, g)))) (λ c g. absurd (omega (arith, p.0, g))) f

-- THE LAST TOKEN -------------------------------------------------------------------------------------------------------

-- What the last token of a text tells of check 8: that it passes, or that it refuses, and where that token starts.
pub record LastTells (text : List ℕ) (t : Token) : Type 0 where
  pub inside : t.len ≤ length text
  pub passes : t.closed ≡ true → unclosed (tokens text) ≡ length text
  pub refuses : t.closed ≡ false → unclosed (tokens text) ≡ length text → ⊥
  pub start : t.closed ≡ false → length text - t.len ≡ unclosed (tokens text)

pub last-tells : (text : List ℕ) → LastTells text (get_or (tokens text) (length (tokens text) - 1) (token 0 0))
last-tells text = go (tokens text) refl
  where
    n : ℕ
    n = length (tokens text) - 1

    last : Token
    last = get_or (tokens text) n (token 0 0)

    of_some : length (tokens text) ≡ suc n → LastTells text last
    of_some e =
        let ts = tokens text in
        let h : n < length ts = omega (arith, e) in
        let over : length ts ≤ suc n = omega (arith, e) in
        let none : lengths (drop (suc n) ts) ≡ 0 = ap lengths (drop_of_length-le ts over) in
        let around = lengths-around n ts (token 0 0) h in
        let some = each_at (λ (t : Token). 1 ≤ t.len) ts n (token 0 0) h (tokens-positive text) in
        let cover = tokens-cover_text text in
        let look = one-look n text (token 0 0) e in
        record {
          inside = omega (arith, around, cover);
          passes = λ c. rw c at look;
          refuses = λ c u. omega (arith, rw c at look, u, around, some, cover);
          start = λ c. omega (arith, rw c at look, around, none, cover);
        }

    go : (ts : List Token) → tokens text ≡ ts → LastTells text last
    go [] e =
        subst (λ (ts : List Token). LastTells text (get_or ts (length ts - 1) (token 0 0))) (sym e)
        record {
          inside = zero-le;
          passes = λ c. ap unclosed e ∙ sym (ap lengths e) ∙ tokens-cover_text text;
          refuses = λ c. absurd (never (sym c));
          start = λ c. absurd (never (sym c));
        }
    go (t ∷ ts) e = of_some (omega (arith, ap length e))
