-- Spelling the events of a proper forest gives its tree back, without its messages.
-- Events are put together from parts. A part Does the steps of what it spells where no earlier Start points into it. It Leads
-- where its own Start points right behind its end, so that the Start that stands there opens before all its steps, and nothing
-- again. A Start between a part that leads, or nothing, and a part that does gives a part that does where it has no forward
-- parent, and one that leads where it points behind the end: so a node is one law, begun before its first child or after.
-- The steps of a forest then build its tree. Assumes nothing.
use Prim.Native.Nat.{ℕ, zero, suc, ◌+◌, ◌<◌}
use mathlib.Core.Path.{◌≡◌, refl, sym, ap, ◌∙◌, fun_ext}
use mathlib.Core.Bool.{Bool, true, false, ◌||◌}
use mathlib.Core.List.{List, [], ◌∷◌, ◌++◌, append_assoc, append-nil}
use native.Mathlib.Omega.{arith}
use borrow.Author.Tests.{eq-eqb, ne_eqb}
use lib.Dec.{eqb, eqb-suc-zero}
use lib.ListN.{length, length-append}
use Rattle.predictive.specs.Forest.{Forest, nil, leaf, err, node, wrap, ◌then◌, tree, Fault}
use Rattle.predictive.specs.Events.{Event, start, token, finish, error, events, behind_start}
use Rattle.predictive.specs.Tree.{Step, opens, adds, closes, chain, steps, Open, open_node, build, spell}
use Rattle.predictive.proofs.Forests.{then-nil, then-assoc}
use Rattle.predictive.proofs.Proper.{Whole, whole-node, whole-wrap, Proper}

-- The steps of a forest, as if every node had been begun before its first child.
unfoldable pub plain : Forest → List Step
plain nil = []
plain (leaf k f) = adds k ∷ plain f
plain (err m f) = plain f
plain (node k i f) = opens k ∷ (plain i ++ (closes ∷ plain f))
plain (wrap k a b f) = opens k ∷ (plain a ++ (plain b ++ (closes ∷ plain f)))

-- STEPS BUILD THE TREE -------------------------------------------------------------------------------------------------

-- The steps of a forest add its tree to what the innermost open node holds.
pub build-plain : (f g : Forest) (st : List Open) (ss : List Step) → build g st (plain f ++ ss) ≡ build (g then tree f) st ss
unfolding build plain tree
build-plain nil g st ss = rw (then-nil g)
build-plain (leaf k f) g st ss = build-plain f (g then leaf k nil) st ss ∙ rw (then-assoc g (leaf k nil) (tree f))
build-plain (err m f) g st ss = build-plain f g st ss
build-plain (node k i f) g st ss =
    rw (append_assoc (plain i) (closes ∷ plain f) ss)
    (build-plain i nil (open_node g k ∷ st) (closes ∷ (plain f ++ ss))
    ∙ build-plain f (g then node k (tree i) nil) st ss
    ∙ rw (then-assoc g (node k (tree i) nil) (tree f)))
build-plain (wrap k a b f) g st ss =
    rw (append_assoc (plain a) (plain b ++ (closes ∷ plain f)) ss, append_assoc (plain b) (closes ∷ plain f) ss)
    (build-plain a nil (open_node g k ∷ st) (plain b ++ (closes ∷ (plain f ++ ss)))
    ∙ build-plain b (tree a) (open_node g k ∷ st) (closes ∷ (plain f ++ ss))
    ∙ build-plain f (g then node k (tree a then tree b) nil) st ss
    ∙ rw (then-assoc g (node k (tree a then tree b) nil) (tree f)))

-- EVENTS DO THEIR STEPS ------------------------------------------------------------------------------------------------

abbrev Used : Type 0
Used = ℕ → Bool

-- What is used of the events after the next n.
abbrev after : ℕ → Used → Used
after n u = λ j. u (n + j)

-- What is used of the events behind a Start with the forward parent up, where u of them is used already.
abbrev pointed : ℕ → Used → Used
pointed up u = λ j. eqb (suc j) up || u j

-- None of the next n events is used.
abbrev Quiet : ℕ → Used → Type 0
Quiet n u = (j : ℕ) → j < n → u j ≡ false

-- The events xs do the steps p where none of them is used, and what follows does as if they were not there.
Does : List Event → List Step → Type 0
Does xs p = (u : Used) (es : List Event) → Quiet (length xs) u → steps u (xs ++ es) ≡ p ++ steps (after (length xs) u) es

-- The events xs do the steps p, and before those what a Start right behind xs opens, which then opens nothing again.
Leads : List Event → List Step → Type 0
Leads xs p =
    (u : Used) (k up : ℕ) (es : List Event) → Quiet (suc (length xs)) u
    → steps u (xs ++ (start k up ∷ es)) ≡ chain (start k up ∷ es) 0 ++ (p ++ steps (pointed up (after (suc (length xs)) u)) es)

steps-same : (u v : Used) (es : List Event) → ((j : ℕ) → u j ≡ v j) → steps u es ≡ steps v es
steps-same u v es h = ap {B = List Step} (λ (w : Used). steps w es) (fun_ext h)

after_one : (u : Used) (j : ℕ) → u (suc j) ≡ after 1 u j
after_one u j = ap u (omega arith)

does_nothing : Does [] []
unfolding Does
does_nothing u es quiet = steps-same u (after 0 u) es (λ j. ap u (omega arith))

does_token : (k : ℕ) → Does (token k ∷ []) (adds k ∷ [])
unfolding Does steps
does_token k u es quiet = rw (steps-same (λ j. u (suc j)) (after 1 u) es (after_one u))

does_finish : Does (finish ∷ []) (closes ∷ [])
unfolding Does steps
does_finish u es quiet = rw (steps-same (λ j. u (suc j)) (after 1 u) es (after_one u))

does_error : (m : Fault) → Does (error m ∷ []) []
unfolding Does steps
does_error m u es quiet = steps-same (λ j. u (suc j)) (after 1 u) es (after_one u)

does_append : (xs ys : List Event) (p q : List Step) → Does xs p → Does ys q → Does (xs ++ ys) (p ++ q)
unfolding Does
does_append xs ys p q d e u es quiet =
    let n : length (xs ++ ys) ≡ length xs + length ys = length-append xs ys in
    let v = after (length xs) u in
    let w = after (length (xs ++ ys)) u in
    let same = steps-same (after (length ys) v) w es (λ j. ap u (omega (arith, n))) in
    rw (append_assoc xs ys es)
    (d u (ys ++ es) (λ j l. quiet j (omega (arith, n)))
    ∙ rw (e v es (λ j l. quiet (length xs + j) (omega (arith, n))), same) (sym (append_assoc p q (steps w es))))

leads-nothing : Leads [] []
unfolding Leads chain steps
leads-nothing u k up es quiet =
    let v : Used = λ j. u (suc j) in
    let same = steps-same (pointed up v) (pointed up (after 1 u)) es (λ j. ap (λ (b : Bool). eqb (suc j) up || b) (after_one u j)) in
    rw (quiet 0 (omega arith), same)

-- A START --------------------------------------------------------------------------------------------------------------

-- What the forward parent up of a Start opens, where es stand behind the Start.
abbrev around : List Event → ℕ → List Step
around es zero = []
around es (suc n) = chain es n

chain-start : (k up : ℕ) (es : List Event) → chain (start k up ∷ es) 0 ≡ around es up ++ (opens k ∷ [])
unfolding chain
chain-start k zero es = refl
chain-start k (suc n) es = refl

chain-append : (xs es : List Event) → chain (xs ++ es) (length xs) ≡ chain es 0
unfolding chain
chain-append [] es = refl
chain-append (start k up ∷ xs) es = chain-append xs es
chain-append (token k ∷ xs) es = chain-append xs es
chain-append (finish ∷ xs) es = chain-append xs es
chain-append (error m ∷ xs) es = chain-append xs es

-- A Start with the forward parent up points to none of the n events behind it.
abbrev Past : ℕ → ℕ → Type 0
Past n up = (j : ℕ) → j < n → eqb (suc j) up ≡ false

quiet_pointed : (n up : ℕ) (u : Used) → Past n up → Quiet n u → Quiet n (pointed up u)
quiet_pointed n up u past quiet j l = rw (past j l, quiet j l)

length_start : (xs ys : List Event) (k up : ℕ) → length (xs ++ (start k up ∷ ys)) ≡ suc (length xs + length ys)
length_start xs ys k up = omega (arith, length-append xs (start k up ∷ ys))

-- A Start between xs, which lead, and ys.
module _ (xs : List Event) (p : List Step) (lead : Leads xs p) (ys : List Event) (q : List Step) (does : Does ys q) (k : ℕ) where
  -- with a forward parent that is none of ys
  steps-start : (up : ℕ) → Past (length ys) up → (u : Used) (es : List Event) → Quiet (suc (length xs + length ys)) u
      → steps u ((xs ++ (start k up ∷ ys)) ++ es)
      ≡ around (ys ++ es) up ++ ((opens k ∷ (p ++ q)) ++ steps (after (length ys) (pointed up (after (suc (length xs)) u))) es)
  unfolding Leads Does
  steps-start up past u es quiet =
      let v = after (suc (length xs)) u in
      let still = quiet_pointed (length ys) up v past (λ j l. quiet (suc (length xs) + j) (omega arith)) in
      rw (append_assoc xs (start k up ∷ ys) es, lead u k up (ys ++ es) (λ j l. quiet j (omega arith)), does (pointed up v) es still, chain-start k up (ys ++ es))
      (simp append_assoc)

  -- with none
  does_start : Does (xs ++ (start k 0 ∷ ys)) (opens k ∷ (p ++ q))
  unfolding Does
  does_start u es quiet =
      let n = length_start xs ys k 0 in
      let v = after (length ys) (pointed 0 (after (suc (length xs)) u)) in
      let w = after (length (xs ++ (start k 0 ∷ ys))) u in
      let same : (j : ℕ) → v j ≡ w j = λ j. rw (eqb-suc-zero (length ys + j)) (ap u (omega (arith, n))) in
      steps-start 0 (λ j l. eqb-suc-zero j) u es (λ j l. quiet j (omega (arith, n))) ∙ rw (steps-same v w es same)

  -- with one that is the Start right behind ys
  leads-start : Leads (xs ++ (start k (suc (length ys)) ∷ ys)) (opens k ∷ (p ++ q))
  unfolding Leads steps
  leads-start u l up es quiet =
      let to = suc (length ys) in
      let n = length_start xs ys k to in
      let v = after (length ys) (pointed to (after (suc (length xs)) u)) in
      let w = after (suc (length (xs ++ (start k to ∷ ys)))) u in
      let used : v 0 ≡ true = rw (eq-eqb (suc (length ys + 0)) to (omega arith)) in
      let same : (j : ℕ) → v (suc j) ≡ w j = λ j. rw (ne_eqb (suc (length ys + suc j)) to (λ e. omega arith)) (ap u (omega (arith, n))) in
      steps-start to (λ j l. ne_eqb (suc j) to (λ e. omega arith)) u (start l up ∷ es) (λ j l. quiet j (omega (arith, n)))
      ∙ rw (chain-append ys (start l up ∷ es), used, steps-same (pointed up (λ j. v (suc j))) (pointed up w) es (λ j. ap (λ (b : Bool). eqb (suc j) up || b) (same j)))

-- EVERY PROPER FOREST --------------------------------------------------------------------------------------------------

-- What stands behind a node's Start: what it holds, its Finish, and what stands beside it.
does_rest : (xs ys : List Event) (p q : List Step) → Does xs p → Does ys q → Does (xs ++ (finish ∷ ys)) (p ++ (closes ∷ q))
does_rest xs ys p q d e =
    does_append xs (finish ∷ ys) p (closes ∷ q) d (does_append (finish ∷ []) ys (closes ∷ []) q does_finish e)

length_finish : (xs : List Event) → suc (length xs) ≡ length (xs ++ (finish ∷ []))
length_finish xs = omega (arith, length-append xs (finish ∷ []))

mutual
  unfolding events plain

  does_events : (f : Forest) → Proper f → Does (events f 0) (plain f)
  does_events nil p = does_nothing
  does_events (leaf k f) p = does_append (token k ∷ []) (events f 0) (adds k ∷ []) (plain f) (does_token k) (does_events f p)
  does_events (err m f) p = does_append (error m ∷ []) (events f 0) [] (plain f) (does_error m) (does_events f p)
  does_events (node k i f) p =
      let rest = does_rest (events i 0) (events f 0) (plain i) (plain f) (does_events i p.0) (does_events f p.1) in
      does_start [] [] leads-nothing (events i 0 ++ (finish ∷ events f 0)) (plain i ++ (closes ∷ plain f)) rest k
  does_events (wrap k a b f) p =
      let first = events a (behind_start a) in
      let rest = does_rest (events b 0) (events f 0) (plain b) (plain f) (does_events b p.2) (does_events f p.3) in
      rw (append_assoc first (start k 0 ∷ events b 0) (finish ∷ events f 0))
      (does_start first (plain a) (leads-events a p.0 p.1)
      (events b 0 ++ (finish ∷ events f 0)) (plain b ++ (closes ∷ plain f)) rest k)

  leads-events : (t : Forest) → Whole t → Proper t → Leads (events t (behind_start t)) (plain t)
  leads-events (node k i nil) whole-node p =
      let rest = does_rest (events i 0) [] (plain i) [] (does_events i p.0) does_nothing in
      rw (length_finish (events i 0))
      (leads-start [] [] leads-nothing (events i 0 ++ (finish ∷ [])) (plain i ++ (closes ∷ [])) rest k)
  leads-events (wrap k a b nil) whole-wrap p =
      let first = events a (behind_start a) in
      let rest = does_rest (events b 0) [] (plain b) [] (does_events b p.2) does_nothing in
      rw (append_assoc first (start k (behind_start (wrap k a b nil)) ∷ events b 0) (finish ∷ []), length_finish (events b 0))
      (leads-start first (plain a) (leads-events a p.0 p.1) (events b 0 ++ (finish ∷ [])) (plain b ++ (closes ∷ [])) rest k)
  -- no other forest is whole
  leads-events nil w p = elim w [ ]
  leads-events (leaf kind _) w p = elim w [ ]
  leads-events (err _ _) w p = elim w [ ]
  leads-events (node k i (leaf kind _)) w p = elim w [ ]
  leads-events (node k i (err _ _)) w p = elim w [ ]
  leads-events (node k i (node kind inside _)) w p = elim w [ ]
  leads-events (node k i (wrap kind a b _)) w p = elim w [ ]
  leads-events (wrap k a b (leaf kind _)) w p = elim w [ ]
  leads-events (wrap k a b (err _ _)) w p = elim w [ ]
  leads-events (wrap k a b (node kind inside _)) w p = elim w [ ]
  leads-events (wrap k a b (wrap kind _ _ _)) w p = elim w [ ]

pub steps-events : (f : Forest) → Proper f → steps (λ n. false) (events f 0) ≡ plain f
unfolding Does steps
steps-events f p = simp append-nil at (does_events f p (λ n. false) [] (λ j l. refl))

-- THE THEOREM: the events of a proper forest spell its tree.
pub spell-events : (f : Forest) → Proper f → spell (events f 0) ≡ tree f
unfolding spell build
spell-events f p = rw (steps-events f p, ← (append-nil (plain f))) (build-plain f nil [] [])
