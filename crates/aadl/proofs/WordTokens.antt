-- Words as they stand in a text (`words_told`): a token that begins with a letter or `_` is the whole run of letters, digits and `_`, and has
-- the kind of that word; any other token has a kind before IDENT. So each of the eighty-one words gives its own kind in a text too, whatever
-- mix of case it is in, and every other word IDENT: as a scanner's token (`keyword_token`, `ident_token`) and by an answer's token words
-- (`keyword_stands`, `ident_stands`). Assumes nothing.
use Prim.Native.Nat.{ℕ, ◌≤◌, ◌<◌}
use native.Mathlib.Omega.{arith}
use mathlib.Core.Path.{◌≡◌, refl, sym, ap, ap₂, subst, ◌∙◌}
use mathlib.Core.Bool.{Bool, true, false, ◌&&◌}
use mathlib.Core.List.{List, [], ◌∷◌, ◌++◌, map, append-nil}
use lib.ListN.{length, get_or, take, length-map}
use lib.Seq.{get_or-take, length-take-le, take-append_seam}
use lib.Dec.{eqb, ltb}
use borrow.Author.Tests.{eqb-true, eq-eqb, ltb-true, ltb-false}
use Rattle.predictive.proofs.Tests.{never, and_l, and_r, and_both}
use Rattle.aadl.specs.declared.Token.{Token}
use Rattle.aadl.specs.Kinds.{IDENT, #◌}
use Rattle.aadl.specs.Words.{words, table, row, lower, kind_of_word}
use Rattle.aadl.specs.Bytes.{peek, run, is_ident_start, is_ident_continue}
use Rattle.aadl.specs.Tokens.{token, word_of, token_of, tokens, kind_in, from_token, token_text}
use Rattle.aadl.specs.WordKinds.{Mixed, OwnKind, is_word, WordsTold}
use Rattle.aadl.specs.Answers.{token_words}
use Rattle.aadl.proofs.Bools.{below_at}
use Rattle.aadl.proofs.RunLaws.{run-taken, run_none}
use Rattle.aadl.proofs.SameRuns.{run-same}
use Rattle.aadl.proofs.TokenBounds.{run-within, token-within}
use Rattle.aadl.proofs.KeywordKinds.{row-is_lower, own-kind}
use Rattle.aadl.proofs.LowerCase.{word_starts, token_of-word, word-whole, lower-starts, run-lower}
use Rattle.aadl.proofs.TokenText.{TokenAt, token-at}

-- THE FIRST TOKEN OF SOME BYTES ----------------------------------------------------------------------------------------

-- before nothing a run is as long as by itself
run_alone : (w : List ℕ) → run is_ident_continue (w ++ []) ≡ run is_ident_continue w
run_alone w = ap (run is_ident_continue) (append-nil w)

-- a word with no letter, digit or `_` behind it
word-token : (w v : List ℕ) → is_word w ≡ true → is_ident_continue (peek v 0) ≡ false → token_of (w ++ v) ≡ token (kind_of_word w) (length w)
word-token [] v x f = never x
word-token (a ∷ w) v x f =
    let u = a ∷ w in
    let starts = is_ident_start a in
    let goes_on = eqb (run is_ident_continue u) (length u) in
    let alone = run_alone u ∙ eqb-true (run is_ident_continue u) (length u) (and_r starts goes_on x) in
    token_of-word (u ++ v) (and_l starts goes_on x)
    ∙ word-whole u v (run-same is_ident_continue u [] v (omega (arith, alone)) (λ z. run_none is_ident_continue v f) ∙ alone)

module _ (bs : List ℕ) (some : 1 ≤ length bs) where
  -- the text of the token
  abbrev text : List ℕ
  text = take (token_of bs).len bs

  first_byte : peek text 0 ≡ peek bs 0
  first_byte = get_or-take (token_of bs).len bs 0 0 (token-within bs some).0

  text-is_word : is_ident_start (peek bs 0) ≡ true → is_word text ≡ true
  unfolding word_of
  text-is_word b =
      let r = run is_ident_continue bs in
      let n : (token_of bs).len ≡ r = ap (λ (t : Token). t.len) (token_of-word bs b) in
      let all : run is_ident_continue text ≡ r = ap (λ (k : ℕ). run is_ident_continue (take k bs)) n ∙ run-taken is_ident_continue bs in
      let long : length text ≡ r = ap (λ (k : ℕ). length (take k bs)) n ∙ length-take-le r bs (run-within is_ident_continue bs) in
      and_both (is_ident_start (peek text 0)) (eqb (run is_ident_continue text) (length text)) (ap is_ident_start first_byte ∙ b)
      (eq-eqb (run is_ident_continue text) (length text) (all ∙ sym long))

  text-starts : is_word text ≡ true → is_ident_start (peek bs 0) ≡ true
  text-starts x = sym (ap is_ident_start first_byte) ∙ and_l (is_ident_start (peek text 0)) (eqb (run is_ident_continue text) (length text)) x

  word-has_kind : is_word text ≡ true → (token_of bs).kind ≡ kind_of_word text
  unfolding word_of
  word-has_kind x =
      let e = token_of-word bs (text-starts x) in
      ap (λ (t : Token). t.kind) e ∙ ap (λ (t : Token). kind_of_word (take t.len bs)) (sym e)

  other-before_ident : is_word text ≡ false → (token_of bs).kind < # IDENT
  other-before_ident x = go (ltb (token_of bs).kind (# IDENT)) refl
    where
      go : (t : Bool) → ltb (token_of bs).kind (# IDENT) ≡ t → (token_of bs).kind < # IDENT
      go true e = ltb-true (token_of bs).kind (# IDENT) e
      go false e = never (sym x ∙ text-is_word (word_starts bs (ltb-false (token_of bs).kind (# IDENT) e)))

-- EVERY TOKEN OF A TEXT ------------------------------------------------------------------------------------------------

-- A text's token words, with any words behind them.
pub words_told : (text rest : List ℕ) → length text < 65536 → WordsTold text (length (tokens text)) (token_words text ++ rest)
words_told text rest s =
    record {
      whole = λ i h w v x f e.
          (at i h).text-is ∙ ap (λ (bs : List ℕ). take (token_of bs).len bs) e
          ∙ ap (λ (t : Token). take t.len (w ++ v)) (word-token w v x f) ∙ take-append_seam w v;
      kind = λ i h x.
          let t = at i h in
          subst (OwnKind (token_text text ts i))
          (ap kind_of_word t.text-is ∙ sym (t.kind ∙ word-has_kind (from_token text ts i) t.some (ap is_word (sym t.text-is) ∙ x)))
          (own-kind (token_text text ts i));
      other = λ i h x.
          let t = at i h in
          subst (λ (k : ℕ). k < # IDENT) (sym t.kind) (other-before_ident (from_token text ts i) t.some (ap is_word (sym t.text-is) ∙ x));
    }
  where
    ts : List ℕ
    ts = token_words text ++ rest

    at : (i : ℕ) → i < length (tokens text) → TokenAt text ts i
    at i h = token-at text rest i s h

-- ONE OF THE EIGHTY-ONE WORDS, AND ANY OTHER ---------------------------------------------------------------------------

-- one test: the eighty-one words are words; and case does not matter
row-is_word : (i : ℕ) → i < 81 → is_word (row i).word ≡ true
unfolding words table run
row-is_word i h = below_at (λ (k : ℕ). is_word (row k).word) 81 refl i h

lower-is_word : (w : List ℕ) → is_word w ≡ is_word (map lower w)
lower-is_word [] = refl
lower-is_word (b ∷ w) =
    let r = sym (run_alone (b ∷ w)) ∙ run-lower (b ∷ w) [] ∙ run_alone (map lower (b ∷ w)) in
    ap₂ ◌&&◌ (lower-starts b) (ap₂ eqb r (sym (length-map (b ∷ w) lower)))

keyword_is_word : (i : ℕ) (w : List ℕ) → i < 81 → Mixed (row i).word w → is_word w ≡ true
keyword_is_word i w h m = lower-is_word w ∙ ap is_word (row-is_lower i w h m) ∙ row-is_word i h

-- Of the token that some bytes begin with, as a scanner gives it.
module _ (w v : List ℕ) (f : is_ident_continue (peek v 0) ≡ false) where
  pub keyword_token : (i : ℕ) → i < 81 → Mixed (row i).word w → token_of (w ++ v) ≡ token (row i).kind (length w)
  keyword_token i h m = word-token w v (keyword_is_word i w h m) f ∙ ap (λ (k : ℕ). token k (length w)) (((own-kind w).own i h).0 m)

  pub ident_token : is_word w ≡ true → ((i : ℕ) → i < 81 → Mixed (row i).word w → ⊥) → token_of (w ++ v) ≡ token (# IDENT) (length w)
  ident_token x n = word-token w v x f ∙ ap (λ (k : ℕ). token k (length w)) ((own-kind w).other n)

-- Of an answer's token words: w stands where token j starts, and v follows.
module _ {text ts : List ℕ} {n : ℕ} (t : WordsTold text n ts) (j : ℕ) (h : j < n) (w v : List ℕ) (e : from_token text ts j ≡ w ++ v)
    (f : is_ident_continue (peek v 0) ≡ false) where
  stands-kind : is_word w ≡ true → OwnKind w (kind_in (get_or ts j 0))
  stands-kind x =
      let q = t.whole j h w v x f e in
      subst (λ (u : List ℕ). OwnKind u (kind_in (get_or ts j 0))) q (t.kind j h (ap is_word q ∙ x))

  pub keyword_stands : (i : ℕ) → i < 81 → Mixed (row i).word w → (token_text text ts j ≡ w) × (kind_in (get_or ts j 0) ≡ (row i).kind)
  keyword_stands i l m =
      let x = keyword_is_word i w l m in
      (t.whole j h w v x f e, ((stands-kind x).own i l).0 m)

  pub ident_stands : is_word w ≡ true → ((i : ℕ) → i < 81 → Mixed (row i).word w → ⊥) → (token_text text ts j ≡ w) × (kind_in (get_or ts j 0) ≡ # IDENT)
  ident_stands x n = (t.whole j h w v x f e, (stands-kind x).other n)
