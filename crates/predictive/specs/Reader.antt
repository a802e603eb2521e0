-- The reader that a grammar gives. It never goes back, and it reads on after an error: a part is begun where one of its first
-- heads stands, a missing token gives its message and takes nothing. Assumes nothing.
use Prim.Native.Nat.{ℕ, zero, suc, ◌+◌}
use Rattle.std.specs.Prelude.{Bool, true, false, ◌&&◌, ◌||◌, length, drop}
use mathlib.Core.List.{List, [], ◌∷◌, ◌++◌}
use Rattle.std.proofs.Math.Option.{Option, none, some}
use Rattle.predictive.specs.Forest.{Forest, nil, leaf, err, node, wrap, ◌then◌, Fault, message, refusal}
use Rattle.predictive.specs.Grammar.{Head, one, two, all, is, at, has, Form, kinds_of, best, shape, Part, tok, pair, look, any, longest, wrong, fail, seq, either, opt, many, until, inside, suffix, leaning, before, opens, rule, Grammar}

-- What a reading gives: the forest read, or the fault of a part whose first token is missing; and the symbols left.
pub data Result : Type 0 where
  miss : Fault → List ℕ → Result
  done : Forest → List ℕ → Result

abbrev pub pick : Bool → Result → Result → Result
pick true r s = r
pick false r s = s

-- Reading on: what is missing leaves its fault in the forest.
abbrev pub after : Result → (Forest → List ℕ → Result) → Result
after (miss m ys) k = k (err m nil) ys
after (done f ys) k = k f ys

-- Reading on, where all ends if the first part is missing.
abbrev pub firstly : Result → (Forest → List ℕ → Result) → Result
firstly (miss m ys) k = miss m ys
firstly (done f ys) k = k f ys

-- What is read next stands beside f.
abbrev pub beside : Forest → Result → Result
beside f r = after r (λ g zs. done (f then g) zs)

-- The heads that a part begins with ------------------------------------------------------------------------------------

unfoldable pub ones : List ℕ → List Head
ones [] = []
ones (k ∷ ks) = one k ∷ ones ks

unfoldable pub twos : List ℕ → ℕ → List Head
twos [] l = []
twos (k ∷ ks) l = two k l ∷ twos ks l

abbrev pub head_of : List ℕ → List Head
head_of [] = []
head_of (k ∷ ks) = one k ∷ []

unfoldable pub heads_of : List Form → List Head
heads_of [] = []
heads_of (c ∷ cs) = head_of (kinds_of c) ++ heads_of cs

-- The part may take no token.
unfoldable pub null : {R : Type 0} → Part R → Bool
null (tok m ks) = false
null (pair k l) = false
null (look m ks l) = false
null any = true
null (longest cs) = true
null (wrong x k m) = false
null (fail m) = false
null (seq p q) = null p && null q
null (either c p q) = null p || null q
null (opt c p) = true
null (many p) = true
null (until k p) = false
null (inside k p) = null p
null (suffix c k p q) = null p
null (leaning k p q) = null p
null (before hs p) = null p
null (opens p) = null p
null (rule r) = false

abbrev pub only : Bool → List Head → List Head
only true hs = hs
only false hs = []

-- Single tokens and loops ----------------------------------------------------------------------------------------------

-- the message of a token that is missing
abbrev pub expected : ℕ → ℕ
expected k = 256 + k

-- the message of what no reading meets (proofs `Unmet`): a token is missing that is taken only where it stands, or a
-- loop goes on past its bound
abbrev pub unmet : ℕ
unmet = 0

module _ (shown : ℕ → ℕ) where
  unfoldable pub take_one : ℕ → List ℕ → List ℕ → Result
  take_one m ks [] = done (err (message m) nil) []
  take_one m ks (x ∷ xs) = pick (has ks x) (done (leaf (shown x) nil) xs) (done (err (message m) nil) (x ∷ xs))

  unfoldable pub take_two : ℕ → ℕ → List ℕ → Result
  unfolding take_one
  take_two k l xs = after (take_one unmet (k ∷ []) xs) (λ f ys. beside f (take_one unmet (l ∷ []) ys))

  unfoldable pub take_look : ℕ → List ℕ → ℕ → List ℕ → Result
  take_look m ks l [] = done (err (message m) nil) []
  take_look m ks l (x ∷ xs) = pick (has ks x && is l xs) (done (leaf (shown x) nil) xs) (done (err (message m) nil) (x ∷ xs))

  unfoldable pub take_any : List ℕ → Result
  take_any [] = done nil []
  take_any (x ∷ xs) = done (leaf (shown x) nil) xs

  unfoldable pub take_form : Option Form → List ℕ → Result
  take_form none xs = done nil xs
  take_form (some c) xs = done (shape shown c) (drop (length (kinds_of c)) xs)

  unfoldable pub take_wrong : ℕ → ℕ → List ℕ → Result
  take_wrong k m [] = miss (message m) []
  take_wrong k m (x ∷ xs) = done (node k (err (message m) (leaf (shown x) nil)) nil) xs

-- a loop that has met its bound
abbrev pub unfinished : Forest
unfinished = err (message unmet) nil

unfoldable pub repeat : (List ℕ → Result) → List Head → ℕ → List ℕ → Result
repeat body hs zero xs = done unfinished xs
repeat body hs (suc n) xs =
    let r = after (body xs) (λ f ys. beside f (repeat body hs n ys)) in
    pick (at hs xs) r (done nil xs)

unfoldable pub lean : (List ℕ → Result) → List Head → ℕ → ℕ → Forest → List ℕ → Result
lean body hs k zero f xs = done (wrap k f unfinished nil) xs
lean body hs k (suc n) f xs =
    let r = after (body xs) (λ g ys. lean body hs k n (wrap k f g nil) ys) in
    pick (at hs xs) r (done f xs)

-- an opener, with d left: where none is left, the refusal n
abbrev pub within : (n d : ℕ) → List ℕ → Result → Result
within n zero xs r = miss (refusal n) xs
within n (suc d) xs r = r

-- The reader -----------------------------------------------------------------------------------------------------------

module _ (G : Grammar) where
  unfoldable pub first : Part G.Rule → List Head
  unfolding ones twos heads_of null
  first (tok m ks) = ones ks
  first (pair k l) = two k l ∷ []
  first (look m ks l) = twos ks l
  first any = all ∷ []
  first (longest cs) = heads_of cs
  first (wrong x k m) = one x ∷ []
  first (fail m) = []
  first (seq p q) = first p ++ only (null p) (first q)
  first (either c p q) = first p ++ first q
  first (opt c p) = first p
  first (many p) = first p
  first (until k p) = one k ∷ first p
  first (inside k p) = first p
  first (suffix c k p q) = first p ++ only (null p) (first q)
  first (leaning k p q) = first p ++ only (null p) (first q)
  first (before hs p) = first p
  first (opens p) = first p
  first (rule r) = G.firsts r

  module _ (bound : ℕ) where
    -- a part, with d openers left; `inner` reads the rules inside an opener
    unfoldable pub step : (d : ℕ) → (inner : G.Rule → List ℕ → Result) → Part G.Rule → List ℕ → Result
    unfolding first take_one take_two take_look take_any best take_form take_wrong repeat lean
    step d inner (tok m ks) xs = take_one G.shown m ks xs
    step d inner (pair k l) xs = take_two G.shown k l xs
    step d inner (look m ks l) xs = take_look G.shown m ks l xs
    step d inner any xs = take_any G.shown xs
    step d inner (longest cs) xs = take_form G.shown (best cs xs) xs
    step d inner (wrong x k m) xs = take_wrong G.shown k m xs
    step d inner (fail m) xs = miss (message m) xs
    step d inner (seq p q) xs = after (step d inner p xs) (λ f ys. beside f (step d inner q ys))
    step d inner (either c p q) xs =
        let r = step d inner p xs in
        let s = step d inner q xs in
        pick (at (first p) xs) r s
    step d inner (opt c p) xs =
        let r = step d inner p xs in
        pick (at (first p) xs) r (done nil xs)
    step d inner (many p) xs = repeat (λ ys. step d inner p ys) (first p) bound xs
    step d inner (until k p) xs =
        let r = after (step d inner p xs) (λ f ys. beside f (take_one G.shown (expected k) (k ∷ []) ys)) in
        pick (is k xs) (take_one G.shown unmet (k ∷ []) xs) r
    step d inner (inside k p) xs = after (step d inner p xs) (λ f ys. done (node k f nil) ys)
    step d inner (suffix c k p q) xs =
        firstly (step d inner p xs) (λ f ys.
        let r = after (step d inner q ys) (λ g zs. done (wrap k f g nil) zs) in
        pick (at (first q) ys) r (done f ys))
    step d inner (leaning k p q) xs = firstly (step d inner p xs) (λ f ys. lean (λ zs. step d inner q zs) (first q) k bound f ys)
    step d inner (before hs p) xs = step d inner p xs
    step d inner (opens p) xs =
        let r = step d inner p xs in
        within G.deep d xs r
    step d inner (rule r) xs = inner r xs

    -- a rule inside an opener, where d were left before the opener
    unfoldable pub below : ℕ → G.Rule → List ℕ → Result
    unfolding step
    below zero r xs = miss (refusal G.deep) xs
    below (suc d) r xs = step d (below d) (G.rules r) xs

    unfoldable pub read : ℕ → Part G.Rule → List ℕ → Result
    unfolding step below
    read d p xs = step d (below d) p xs
