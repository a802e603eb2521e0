-- The rules of the table of words, each by one computed test over the whole table, and what they say of a word's kind (`own-kind`): a
-- word of the table has its own kind in any mix of ASCII case, any other word is an identifier. Comparing ignores case on one side only,
-- and a word in lower case is found as it is; so what the test finds for the table's words holds in any case. Assumes nothing.
use Prim.Native.Nat.{ℕ, zero, suc, ◌+◌, ◌<◌, zero-le, suc-le-suc}
use Prim.Native.String.{String}
use native.Mathlib.Omega.{arith}
use mathlib.Core.Path.{◌≡◌, refl, sym, ap, ap₂, subst, ◌∙◌}
use mathlib.Core.Logic.{◌⊎◌, inl, inr, ⊎_elim}
use mathlib.Core.Bool.{Bool, true, false, ◌&&◌, false≢true, and-false}
use mathlib.Core.List.{List, [], ◌∷◌, map}
use lib.ListN.{length, get_or}
use lib.Dec.{leb, eqb}
use borrow.Author.Tests.{lt-leb, eqb-true, eq-eqb}
use Rattle.aadl.specs.Kinds.{Kind, #◌, SEMICOLON, COLON, COMMA, DOT, DOT_DOT, L_PAREN, R_PAREN, L_BRACKET, R_BRACKET, FAT_ARROW, PLUS_ARROW}
use Rattle.aadl.specs.Kinds.{PLUS, MINUS, STAR, SLASH, COLON_COLON, IDENT}
use Rattle.aadl.specs.Kinds.{NONE_KW, SYSTEM_KW, PROCESS_KW, THREAD_KW, GROUP_KW, PROCESSOR_KW, VIRTUAL_KW, BUS_KW, MEMORY_KW}
use Rattle.aadl.specs.Kinds.{DEVICE_KW, SUBPROGRAM_KW, DATA_KW, ABSTRACT_KW, MODES_KW, PROPERTIES_KW, IN_KW, OUT_KW, PORT_KW}
use Rattle.aadl.specs.Kinds.{EVENT_KW, ACCESS_KW, PROVIDES_KW, REQUIRES_KW, FEATURE_KW, CONSTANT_KW, APPLIES_KW, TO_KW, DELTA_KW}
use Rattle.aadl.specs.Kinds.{BINDING_KW, CLASSIFIER_KW, REFERENCE_KW, COMPUTE_KW, TRUE_KW, FALSE_KW, NOT_KW}
use Rattle.aadl.specs.Words.{bytes, words, Entry, table, no_word, row, lower, same, find, kind_of_word}
use Rattle.aadl.specs.Bytes.{within}
use Rattle.aadl.specs.Tokens.{token, marks, longest_mark}
use Rattle.aadl.specs.WordKinds.{Mixed, OwnKind}
use Rattle.predictive.proofs.Tests.{never, and_l, and_r}
use Rattle.aadl.proofs.Bools.{cond_has, bounds, within-bounds, below_at}
use Rattle.aadl.proofs.Lists.{every, every-at}

-- THE TABLE ------------------------------------------------------------------------------------------------------------

pub table-length : length table ≡ 81
unfolding table words
table-length = refl

-- from `a` to `z`
abbrev pub lower-case : List ℕ → Bool
lower-case = every (within 97 122)

pub table-lower_case : every (λ (e : Entry). lower-case e.word) table ≡ true
unfolding table words
table-lower_case = refl

row-lower_case : (i : ℕ) → i < 81 → lower-case (row i).word ≡ true
row-lower_case i h = every-at (λ (e : Entry). lower-case e.word) table i no_word (omega (arith, table-length)) table-lower_case

-- one test: the kinds are numbered in the order of the rows
pub row_number : (i : ℕ) → i < 81 → (row i).kind ≡ 34 + i
unfolding table words
row_number i h = eqb-true (row i).kind (34 + i) (below_at (λ (k : ℕ). eqb (row k).kind (34 + k)) 81 refl i h)

-- one test: the word of each row is found in that row, and the empty word is IDENT
pub row-kind : (i : ℕ) → i < 82 → kind_of_word (row i).word ≡ (row i).kind
unfolding kind_of_word table words
row-kind i h =
    eqb-true (kind_of_word (row i).word) (row i).kind (below_at (λ (k : ℕ). eqb (kind_of_word (row k).word) (row k).kind) 82 refl i h)

-- Two equal words would have one kind.
pub words-distinct : (i j : ℕ) → i < 81 → j < 81 → (row i).word ≡ (row j).word → i ≡ j
words-distinct i j hi hj e =
    omega (arith, row_number i hi, row_number j hj, row-kind i (omega (arith, hi)), row-kind j (omega (arith, hj)), ap kind_of_word e)

-- ANY MIX OF CASE ------------------------------------------------------------------------------------------------------

lower-lower : (b : ℕ) → lower (lower b) ≡ lower b
lower-lower b = go (leb 65 b && leb b 90) refl
  where
    go : (t : Bool) → (leb 65 b && leb b 90) ≡ t → lower (lower b) ≡ lower b
    go true e = rw (e, lt-leb (b + 32) 90 (omega (arith, (bounds 65 90 b e).0)), and-false (leb 65 (b + 32))) refl
    go false e = rw (e, e) refl

same-lower : (v w : List ℕ) → same v w ≡ same v (map lower w)
same-lower [] [] = refl
same-lower [] (b ∷ bs) = refl
same-lower (v ∷ vs) [] = refl
same-lower (v ∷ vs) (b ∷ bs) = rw (lower-lower b, same-lower vs bs) refl

pub find-lower : (es : List Entry) (w : List ℕ) → find es w ≡ find es (map lower w)
find-lower [] w = refl
find-lower (e ∷ es) w = rw (same-lower e.word w, find-lower es w) refl

pub same-is_lower : (v w : List ℕ) → same v w ≡ true → map lower w ≡ v
same-is_lower [] [] e = refl
same-is_lower [] (b ∷ bs) e = absurd (false≢true e)
same-is_lower (v ∷ vs) [] e = absurd (false≢true e)
same-is_lower (v ∷ vs) (b ∷ bs) e =
    rw (← eqb-true v (lower b) (and_l (eqb v (lower b)) (same vs bs) e), same-is_lower vs bs (and_r (eqb v (lower b)) (same vs bs) e)) refl

pub lower-is_same : (w : List ℕ) → same (map lower w) w ≡ true
lower-is_same [] = refl
lower-is_same (b ∷ bs) = rw (eq-eqb (lower b) (lower b) refl) (lower-is_same bs)

-- A word of small letters in a mix of case has that word as its lower case, and no other word has it.
letter-lower : (v b : ℕ) → within 97 122 v ≡ true → (b ≡ v) ⊎ (b + 32 ≡ v) → lower b ≡ v
letter-lower v b s m =
    let i = bounds 97 122 v s in
    cond_has (λ (c : ℕ). c ≡ v) (leb 65 b && leb b 90) (b + 32) b
    (λ t. ⊎_elim (λ e. absurd (omega (arith, e, i.0, (bounds 65 90 b t).1))) (λ e. e) m)
    (λ f. ⊎_elim (λ e. e) (λ e. never (sym f ∙ within-bounds 65 90 b (omega (arith, e, i.0)) (omega (arith, e, i.1)))) m)

mixed-is_lower : (v w : List ℕ) → lower-case v ≡ true → Mixed v w → map lower w ≡ v
mixed-is_lower [] [] s m = refl
mixed-is_lower [] (b ∷ bs) s m = absurd m
mixed-is_lower (v ∷ vs) [] s m = absurd m
mixed-is_lower (v ∷ vs) (b ∷ bs) s m =
    ap₂ (λ (c : ℕ) (cs : List ℕ). c ∷ cs) (letter-lower v b (and_l (within 97 122 v) (lower-case vs) s) m.0)
    (mixed-is_lower vs bs (and_r (within 97 122 v) (lower-case vs) s) m.1)

lower-is_mixed : (w : List ℕ) → Mixed (map lower w) w
lower-is_mixed [] = tt
lower-is_mixed (b ∷ bs) =
    (cond_has (λ (c : ℕ). (b ≡ c) ⊎ (b + 32 ≡ c)) (leb 65 b && leb b 90) (b + 32) b (λ t. inr refl) (λ f. inl refl), lower-is_mixed bs)

module _ (i : ℕ) (w : List ℕ) where
  pub row-is_lower : i < 81 → Mixed (row i).word w → map lower w ≡ (row i).word
  row-is_lower h m = mixed-is_lower (row i).word w (row-lower_case i h) m

  row-is_mixed : map lower w ≡ (row i).word → Mixed (row i).word w
  row-is_mixed e = subst (λ (v : List ℕ). Mixed v w) e (lower-is_mixed w)

  pub kind_in-row : i < 82 → map lower w ≡ (row i).word → kind_of_word w ≡ (row i).kind
  unfolding kind_of_word
  kind_in-row h e = find-lower table w ∙ ap (λ (v : List ℕ). find table v) e ∙ row-kind i h

-- EVERY WORD -----------------------------------------------------------------------------------------------------------

-- The row that `find` stops at: its word is w in lower case, its kind the one that is found.
record Found (es : List Entry) (w : List ℕ) : Type 0 where
  at : ℕ
  inside : at < length es
  is : map lower w ≡ (get_or es at no_word).word
  kind : find es w ≡ (get_or es at no_word).kind

found-or_none : (es : List Entry) (w : List ℕ) → Found es w ⊎ (find es w ≡ # IDENT)
found-or_none [] w = inr refl
found-or_none (e ∷ es) w = go (same e.word w) refl (found-or_none es w)
  where
    go : (t : Bool) → same e.word w ≡ t → Found es w ⊎ (find es w ≡ # IDENT) → Found (e ∷ es) w ⊎ (find (e ∷ es) w ≡ # IDENT)
    go true q r = inl (record { at = zero; inside = suc-le-suc zero-le; is = same-is_lower e.word w q; kind = rw q refl })
    go false q r = ⊎_elim (λ f. inl (record { at = suc f.at; inside = suc-le-suc f.inside; is = f.is; kind = rw q f.kind })) (λ n. inr (rw q n)) r

module _ (w : List ℕ) where
  in_table : Found table w ⊎ (kind_of_word w ≡ # IDENT)
  unfolding kind_of_word
  in_table = found-or_none table w

  found-kind : (f : Found table w) → kind_of_word w ≡ (row f.at).kind
  unfolding kind_of_word
  found-kind f = f.kind

  pub kind_in-no_row : ((i : ℕ) → i < 81 → map lower w ≡ (row i).word → ⊥) → kind_of_word w ≡ # IDENT
  kind_in-no_row n = ⊎_elim (λ f. absurd (n f.at (omega (arith, f.inside, table-length)) f.is)) (λ q. q) in_table

  -- kinds tell rows apart
  kind-tells_row : (i : ℕ) → i < 81 → kind_of_word w ≡ (row i).kind → map lower w ≡ (row i).word
  kind-tells_row i h e =
      ⊎_elim
      (λ f. subst (λ (k : ℕ). map lower w ≡ (row k).word)
      (omega (arith, e, found-kind f, row_number i h, row_number f.at (omega (arith, f.inside, table-length)))) f.is)
      (λ q. absurd (omega (arith, e, q, row_number i h)))
      in_table

  -- Request Three: each of the eighty-one words in any mix of ASCII case has its own kind, every other word is IDENT.
  pub own-kind : OwnKind w (kind_of_word w)
  own-kind =
      record {
        own = λ i h. (λ m. kind_in-row i w (omega (arith, h)) (row-is_lower i w h m), λ e. row-is_mixed i w (kind-tells_row i h e));
        other = λ n. kind_in-no_row (λ i h e. n i h (row-is_mixed i w e));
      }

-- NAMES ----------------------------------------------------------------------------------------------------------------

-- The words and marks whose kinds have a name, with that name.
unfoldable pub named-words : List (String × Kind)
named-words =
    ("none", NONE_KW) ∷ ("system", SYSTEM_KW) ∷ ("process", PROCESS_KW) ∷ ("thread", THREAD_KW) ∷ ("group", GROUP_KW) ∷
    ("processor", PROCESSOR_KW) ∷ ("virtual", VIRTUAL_KW) ∷ ("bus", BUS_KW) ∷ ("memory", MEMORY_KW) ∷ ("device", DEVICE_KW) ∷
    ("subprogram", SUBPROGRAM_KW) ∷ ("data", DATA_KW) ∷ ("abstract", ABSTRACT_KW) ∷ ("modes", MODES_KW) ∷
    ("properties", PROPERTIES_KW) ∷ ("in", IN_KW) ∷ ("out", OUT_KW) ∷ ("port", PORT_KW) ∷ ("event", EVENT_KW) ∷
    ("access", ACCESS_KW) ∷ ("provides", PROVIDES_KW) ∷ ("requires", REQUIRES_KW) ∷ ("feature", FEATURE_KW) ∷
    ("constant", CONSTANT_KW) ∷ ("applies", APPLIES_KW) ∷ ("to", TO_KW) ∷ ("delta", DELTA_KW) ∷ ("binding", BINDING_KW) ∷
    ("classifier", CLASSIFIER_KW) ∷ ("reference", REFERENCE_KW) ∷ ("compute", COMPUTE_KW) ∷ ("true", TRUE_KW) ∷
    ("false", FALSE_KW) ∷ ("not", NOT_KW) ∷ []

unfoldable pub named-marks : List (String × Kind)
named-marks =
    (";", SEMICOLON) ∷ (":", COLON) ∷ (",", COMMA) ∷ (".", DOT) ∷ ("..", DOT_DOT) ∷ ("(", L_PAREN) ∷ (")", R_PAREN) ∷
    ("[", L_BRACKET) ∷ ("]", R_BRACKET) ∷ ("=>", FAT_ARROW) ∷ ("+=>", PLUS_ARROW) ∷ ("+", PLUS) ∷ ("-", MINUS) ∷ ("*", STAR) ∷
    ("/", SLASH) ∷ ("::", COLON_COLON) ∷ []

-- Each name is the kind that its word has, and the kind that its mark has when it stands alone, where all of it is taken.
pub named_kinds :
    (map (λ (n : String × Kind). kind_of_word (bytes n.0)) named-words ≡ map (λ (n : String × Kind). # n.1) named-words)
    × (map (λ (n : String × Kind). longest_mark 5 marks (bytes n.0)) named-marks
    ≡ map (λ (n : String × Kind). token (# n.1) (length (bytes n.0))) named-marks)
unfolding kind_of_word table words marks named-words named-marks
named_kinds = (refl, refl)
