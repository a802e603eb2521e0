-- Grammars as data, and what a part of a grammar derives: a derivation reads a list of symbols down to a rest and writes
-- a forest. What follows a part is thus at hand, and a preference just looks at it. Assumes nothing.
use Rattle.std.specs.Prelude.{ℕ, ◌≡◌, Bool, true, false, cond, ◌||◌, ◌&&◌, List, [], ◌∷◌, ◌++◌, length, eqb, ltb}
use Rattle.std.proofs.Math.Option.{Option, none, some}
use Rattle.predictive.specs.Forest.{Forest, nil, leaf, err, node, wrap, ◌then◌, message}

-- WHAT STANDS ----------------------------------------------------------------------------------------------------------

-- What may stand at the head of the symbols: one kind, two kinds in a row, or anything.
pub data Head : Type 0 where
  one : ℕ → Head
  two : ℕ → ℕ → Head
  all : Head

abbrev pub is : ℕ → List ℕ → Bool
is k [] = false
is k (x ∷ xs) = eqb x k

abbrev pub starts : Head → List ℕ → Bool
starts (one k) xs = is k xs
starts (two k l) [] = false
starts (two k l) (x ∷ xs) = eqb x k && is l xs
starts all [] = false
starts all (x ∷ xs) = true

-- One of the heads stands.
abbrev pub at : List Head → List ℕ → Bool
at [] xs = false
at (h ∷ hs) xs = starts h xs || at hs xs

abbrev pub has : List ℕ → ℕ → Bool
has [] x = false
has (k ∷ ks) x = eqb x k || has ks x

-- FORMS ----------------------------------------------------------------------------------------------------------------

-- A listed form: kinds in a row; kinds in a row below a node; or kinds that only other forms of the list go on with, which
-- derive nothing and are read below a node with a message after them.
pub data Form : Type 0 where
  row : List ℕ → Form
  row_in : (k : ℕ) → List ℕ → Form
  broken : (k : ℕ) → List ℕ → (m : ℕ) → Form

abbrev pub kinds_of : Form → List ℕ
kinds_of (row ks) = ks
kinds_of (row_in k ks) = ks
kinds_of (broken k ks m) = ks

-- The kinds stand at the head of the symbols.
abbrev pub stand : List ℕ → List ℕ → Bool
stand [] xs = true
stand (k ∷ ks) [] = false
stand (k ∷ ks) (x ∷ xs) = eqb x k && stand ks xs

abbrev pub longer : Form → Option Form → Option Form
longer c none = some c
longer c (some e) = cond (ltb (length (kinds_of c)) (length (kinds_of e))) (some e) (some c)

-- The longest listed form that stands.
unfoldable pub best : List Form → List ℕ → Option Form
best [] xs = none
best (c ∷ cs) xs =
    let e = best cs xs in
    cond (stand (kinds_of c) xs) (longer c e) e

abbrev pub row_of : (ℕ → ℕ) → List ℕ → Forest → Forest
row_of shown [] f = f
row_of shown (k ∷ ks) f = leaf (shown k) (row_of shown ks f)

abbrev pub shape : (ℕ → ℕ) → Form → Forest
shape shown (row ks) = row_of shown ks nil
shape shown (row_in k ks) = node k (row_of shown ks nil) nil
shape shown (broken k ks m) = node k (row_of shown ks (err (message m) nil)) nil

abbrev pub whole_form : Form → Bool
whole_form (row ks) = true
whole_form (row_in k ks) = true
whole_form (broken k ks m) = false

-- PARTS ----------------------------------------------------------------------------------------------------------------

-- Where a part may be left out: anywhere, or (a preference) only where none of the heads stands.
pub data Choice : Type 0 where
  free : Choice
  unless : List Head → Choice

abbrev pub May : Choice → List ℕ → Type 0
May free xs = Unit {0}
May (unless hs) xs = at hs xs ≡ false

-- The parts of a grammar. R names the rules that a part calls from inside an opener.
pub data Part (R : Type 0) : Type 0 where
  -- one token of the kinds ks; where none stands, message m
  tok : (m : ℕ) → (ks : List ℕ) → Part R
  -- the tokens k and l in a row, begun only where both stand
  pair : (k l : ℕ) → Part R
  -- one token of the kinds ks, where l stands after it; else message m
  look : (m : ℕ) → (ks : List ℕ) → (l : ℕ) → Part R
  -- any one token; none at the end
  any : Part R
  -- the longest of the forms that stands; nothing where none stands
  longest : List Form → Part R
  -- nothing is derived; the symbol x is read into a node k, after message m
  wrong : (x k m : ℕ) → Part R
  -- nothing is derived; message m
  fail : (m : ℕ) → Part R
  -- p q
  seq : (p q : Part R) → Part R
  -- p, or q
  either : Choice → (p q : Part R) → Part R
  -- p?
  opt : Choice → (p : Part R) → Part R
  -- p*
  many : (p : Part R) → Part R
  -- p? k
  until : (k : ℕ) → (p : Part R) → Part R
  -- p → the node k
  inside : (k : ℕ) → (p : Part R) → Part R
  -- p, or p q → the node k
  suffix : Choice → (k : ℕ) → (p q : Part R) → Part R
  -- p, p q → the node k, (p q → the node k) q → the node k, ..
  leaning : (k : ℕ) → (p q : Part R) → Part R
  -- p, followed by none of hs
  before : (hs : List Head) → (p : Part R) → Part R
  -- p, which an opener begins
  opens : (p : Part R) → Part R
  -- a rule, inside an opener
  rule : R → Part R

-- A grammar: its rules, the heads that each rule begins with, the kind that a symbol's leaf shows, and the number by which an opener
-- too many is refused.
pub record Grammar : Type 1 where
  pub Rule : Type 0
  pub rules : Rule → Part Rule
  pub firsts : Rule → List Head
  pub shown : ℕ → ℕ
  pub deep : ℕ

-- WHAT IS DERIVED ------------------------------------------------------------------------------------------------------

module _ (G : Grammar) where
  mutual
    -- Derives p f xs ys: p derives the forest f from the symbols xs, down to ys
    pub data Derives : Part G.Rule → Forest → List ℕ → List ℕ → Type 0 where
      d_tok : {m : ℕ} {ks : List ℕ} {x : ℕ} {xs : List ℕ} {h : Forest} → has ks x ≡ true → h ≡ leaf (G.shown x) nil → Derives (tok m ks) h (x ∷ xs) xs
      d_pair : {k l : ℕ} {ys : List ℕ} {h : Forest} → h ≡ leaf (G.shown k) (leaf (G.shown l) nil) → Derives (pair k l) h (k ∷ l ∷ ys) ys
      d_look : {m l x : ℕ} {ks xs : List ℕ} {h : Forest} → has ks x ≡ true → h ≡ leaf (G.shown x) nil → Derives (look m ks l) h (x ∷ l ∷ xs) (l ∷ xs)
      d_any : {x : ℕ} {xs : List ℕ} {h : Forest} → h ≡ leaf (G.shown x) nil → Derives any h (x ∷ xs) xs
      d_any_end : Derives any nil [] []
      d_longest : {cs : List Form} {c : Form} {xs ys : List ℕ} {h : Forest} → best cs xs ≡ some c → whole_form c ≡ true → xs ≡ kinds_of c ++ ys → h ≡ shape G.shown c → Derives (longest cs) h xs ys
      d_no_form : {cs : List Form} {xs : List ℕ} → best cs xs ≡ none → Derives (longest cs) nil xs xs
      d_seq : {p q : Part G.Rule} {f g h : Forest} {xs ys zs : List ℕ} → Derives p f xs ys → Derives q g ys zs → h ≡ f then g → Derives (seq p q) h xs zs
      d_left : {c : Choice} {p q : Part G.Rule} {f : Forest} {xs ys : List ℕ} → Derives p f xs ys → Derives (either c p q) f xs ys
      d_right : {c : Choice} {p q : Part G.Rule} {f : Forest} {xs ys : List ℕ} → Derives q f xs ys → May c xs → Derives (either c p q) f xs ys
      d_some : {c : Choice} {p : Part G.Rule} {f : Forest} {xs ys : List ℕ} → Derives p f xs ys → Derives (opt c p) f xs ys
      d_none : {c : Choice} {p : Part G.Rule} {xs : List ℕ} → May c xs → Derives (opt c p) nil xs xs
      d_many : {p : Part G.Rule} {f : Forest} {xs ys : List ℕ} → Many p f xs ys → Derives (many p) f xs ys
      d_until : {k : ℕ} {p : Part G.Rule} {f h : Forest} {xs ys : List ℕ} → Derives p f xs (k ∷ ys) → h ≡ f then leaf (G.shown k) nil → Derives (until k p) h xs ys
      d_at_once : {k : ℕ} {p : Part G.Rule} {ys : List ℕ} {h : Forest} → h ≡ leaf (G.shown k) nil → Derives (until k p) h (k ∷ ys) ys
      d_inside : {k : ℕ} {p : Part G.Rule} {f : Forest} {xs ys : List ℕ} → Derives p f xs ys → Derives (inside k p) (node k f nil) xs ys
      d_alone : {c : Choice} {k : ℕ} {p q : Part G.Rule} {f : Forest} {xs ys : List ℕ} → Derives p f xs ys → May c ys → Derives (suffix c k p q) f xs ys
      d_with : {c : Choice} {k : ℕ} {p q : Part G.Rule} {f g : Forest} {xs ys zs : List ℕ} → Derives p f xs ys → Derives q g ys zs → Derives (suffix c k p q) (wrap k f g nil) xs zs
      d_leaning : {k : ℕ} {p q : Part G.Rule} {f : Forest} {xs ys : List ℕ} → Leaning k p q f xs ys → Derives (leaning k p q) f xs ys
      d_before : {hs : List Head} {p : Part G.Rule} {f : Forest} {xs ys : List ℕ} → Derives p f xs ys → at hs ys ≡ false → Derives (before hs p) f xs ys
      d_opens : {p : Part G.Rule} {f : Forest} {xs ys : List ℕ} → Derives p f xs ys → Derives (opens p) f xs ys
      d_rule : {r : G.Rule} {f : Forest} {xs ys : List ℕ} → Derives (G.rules r) f xs ys → Derives (rule r) f xs ys

    pub data Many : Part G.Rule → Forest → List ℕ → List ℕ → Type 0 where
      m_nil : {p : Part G.Rule} {xs : List ℕ} → Many p nil xs xs
      m_cons : {p : Part G.Rule} {f g h : Forest} {xs ys zs : List ℕ} → Derives p f xs ys → Many p g ys zs → h ≡ f then g → Many p h xs zs

    pub data Leaning : ℕ → Part G.Rule → Part G.Rule → Forest → List ℕ → List ℕ → Type 0 where
      l_one : {k : ℕ} {p q : Part G.Rule} {f : Forest} {xs ys : List ℕ} → Derives p f xs ys → Leaning k p q f xs ys
      l_more : {k : ℕ} {p q : Part G.Rule} {f g : Forest} {xs ys zs : List ℕ} → Leaning k p q f xs ys → Derives q g ys zs → Leaning k p q (wrap k f g nil) xs zs
