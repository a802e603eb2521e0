-- What one relies on who goes upwards in the records of a tree with one root: the root's record is the first and its own parent, parents
-- come before children, and a node's tokens lie within its parent's and are one run of the text's. The records of a forest are
-- put together from those in a node and those beside it, so each law goes through these two steps. Assumes nothing.
use Prim.Native.Nat.{ℕ, zero, suc, ◌+◌, ◌≤◌, ◌<◌}
use native.Mathlib.Nat.{not-suc-le-zero, le_of_suc-le-suc, le_refl}
use native.Mathlib.Omega.{arith}
use mathlib.Core.Path.{◌≡◌, refl, sym, ap, subst, ◌∙◌}
use mathlib.Core.List.{List, [], ◌∷◌, ◌++◌, append_assoc, append-nil}
use lib.ListN.{length, get_or, take, drop, length-append}
use lib.Seq.{drop-drop, take-append_seam, drop-append_seam}
use Rattle.predictive.specs.Forest.{Forest, nil, leaf, err, node, wrap, ◌then◌, leaves}
use Rattle.predictive.specs.Events.{Event, taken}
use Rattle.predictive.specs.Tree.{spell}
use Rattle.predictive.proofs.Forests.{leaves-then, leaves-tree}
use Rattle.predictive.proofs.EventLaws.{taken-events}
use Rattle.predictive.proofs.Spell.{spell-events}
use Rattle.aadl.specs.Limits.{Limits}
use Rattle.aadl.specs.Kinds.{#◌, PROPERTY_SECTION}
use Rattle.aadl.specs.Symbols.{symbols, kinds}
use Rattle.aadl.specs.Reading.{events}
use Rattle.aadl.specs.Records.{Record, of_node, records_from, records, text_records}
use Rattle.aadl.proofs.SymbolLaws.{symbols-show_kinds}
use Rattle.aadl.proofs.Root.{rooted, rooted-records}

-- WHAT IT SAYS ---------------------------------------------------------------------------------------------------------

-- the record with a number, and that of its parent
abbrev pub record_at : List Record → (number : ℕ) → Record
record_at rs r = get_or rs r (of_node 0 0 0 0)

abbrev pub parent-at : List Record → (number : ℕ) → Record
parent-at rs r = record_at rs (record_at rs r).parent

-- The records rs of a root of some kind, with so many tokens below it.
pub record Upwards (rs : List Record) (kind count : ℕ) : Type 0 where
  pub some : 0 < length rs
  -- the first record is the root's, which is its own parent
  pub root : record_at rs 0 ≡ of_node kind 0 0 count
  -- parents come before children
  pub before : (r : ℕ) → 1 ≤ r → r < length rs → (record_at rs r).parent < r
  -- a node's tokens lie within its parent's
  pub begins : (r : ℕ) → r < length rs → (parent-at rs r).first ≤ (record_at rs r).first
  pub ends : (r : ℕ) → r < length rs → (record_at rs r).first + (record_at rs r).below ≤ (parent-at rs r).first + (parent-at rs r).below

-- RECORDS FROM A NUMBER ON ---------------------------------------------------------------------------------------------

module _ (P : (number : ℕ) → Record → Type 0) where
  -- every record has the property with its number, the first one's being n
  abbrev From : (n : ℕ) → List Record → Type 0
  From n [] = Unit {0}
  From n (r ∷ rs) = P n r × From (suc n) rs

  from_at : (n : ℕ) (rs : List Record) → From n rs → (j : ℕ) → j < length rs → P (n + j) (record_at rs j)
  from_at n [] h j l = absurd (not-suc-le-zero l)
  from_at n (r ∷ rs) h zero l = subst (λ (m : ℕ). P m r) (omega arith) h.0
  from_at n (r ∷ rs) h (suc j) l = subst (λ (m : ℕ). P m (record_at rs j)) (omega arith) (from_at (suc n) rs h.1 j (le_of_suc-le-suc l))

  at_from : (n : ℕ) (rs : List Record) → ((j : ℕ) → j < length rs → P (n + j) (record_at rs j)) → From n rs
  at_from n [] h = tt
  at_from n (r ∷ rs) h = (
    subst (λ (m : ℕ). P m r) (omega arith) (h 0 (omega arith)),
    at_from (suc n) rs (λ j l. subst (λ (m : ℕ). P m (record_at rs j)) (omega arith) (h (suc j) (omega (arith, l)))),
  )

  -- the records xs from n, and behind them ys from m
  from-append : (n m : ℕ) (xs ys : List Record) → n + length xs ≡ m → From n xs → From m ys → From n (xs ++ ys)
  from-append n m [] ys e h i = subst (λ (k : ℕ). From k ys) (omega (arith, e)) i
  from-append n m (x ∷ xs) ys e h i = (h.0, from-append (suc n) m xs ys (omega (arith, e)) h.1 i)

  from_front : (n : ℕ) (xs ys : List Record) → From n (xs ++ ys) → From n xs
  from_front n [] ys h = tt
  from_front n (x ∷ xs) ys h = (h.0, from_front (suc n) xs ys h.1)

  from_back : (n m : ℕ) (xs ys : List Record) → n + length xs ≡ m → From n (xs ++ ys) → From m ys
  from_back n m [] ys e h = subst (λ (k : ℕ). From k ys) (omega (arith, e)) h
  from_back n m (x ∷ xs) ys e h = from_back (suc n) m xs ys (omega (arith, e)) h.1

-- PARENTS --------------------------------------------------------------------------------------------------------------

-- l tokens from t on lie within those of a record
abbrev Within : Record → (t l : ℕ) → Type 0
Within r t l = (r.first ≤ t) × (t + l ≤ r.first + r.below)

-- `at` tells the record with a number.
module _ (at : ℕ → Record) where
  abbrev Stands : ℕ → Record → Type 0
  Stands n r = at n ≡ r

  abbrev Climbs : ℕ → Record → Type 0
  Climbs n r = (r.parent < n) × Within (at r.parent) r.first r.below

  -- The records rs of a forest with the leaves ks in the node with record p, from record n and token t on, climb where they stand
  -- behind p's, whose tokens are all of the forest's.
  Climb : (p n t : ℕ) → List ℕ → List Record → Type 0
  Climb p n t ks rs = p < n → Within (at p) t (length ks) → From Stands n rs → From Climbs n rs

  climb-beside : (p n m t : ℕ) (ks ls : List ℕ) (xs ys : List Record) → n + length xs ≡ m →
      Climb p n t ks xs → Climb p m (t + length ks) ls ys → Climb p n t (ks ++ ls) (xs ++ ys)
  unfolding Climb
  climb-beside p n m t ks ls xs ys e h i before within stand =
      let both = length-append ks ls in
      from-append Climbs n m xs ys e
      (h before (within.0, omega (arith, both, within.1)) (from_front Stands n xs ys stand))
      (i (omega (arith, e, before)) (omega (arith, within.0), omega (arith, both, within.1)) (from_back Stands n m xs ys e stand))

  climb-node : (k p n t : ℕ) (ks : List ℕ) (xs : List Record) → Climb n (suc n) t ks xs → Climb p n t ks (of_node k p t (length ks) ∷ xs)
  unfolding Climb
  climb-node k p n t ks xs h before within stand =
      ((before, within), h (omega arith) (subst (λ (r : Record). Within r t (length ks)) (sym stand.0) (le_refl t, le_refl (t + length ks))) stand.1)

  climb : (f : Forest) (p n t : ℕ) → Climb p n t (leaves f) (records_from f p n t)
  unfolding Climb records_from leaves
  climb nil p n t = λ before within stand. tt
  climb (leaf k f) p n t = λ before within stand. climb f p n (suc t) before (omega (arith, within.0), omega (arith, within.1)) stand
  climb (err m f) p n t = climb f p n t
  climb (node k i f) p n t =
      let is = records_from i n (suc n) t in
      let m = suc n + length is in
      let s = t + length (leaves i) in
      climb-beside p n m t (leaves i) (leaves f) (of_node k p t (length (leaves i)) ∷ is) (records_from f p m s) (omega arith)
      (climb-node k p n t (leaves i) is (climb i n (suc n) t)) (climb f p m s)
  climb (wrap k a b f) p n t =
      let js = records_from a n (suc n) t in
      let is = js ++ records_from b n (suc n + length js) (t + length (leaves a)) in
      let m = suc n + length is in
      let ks = leaves a ++ leaves b in
      let s = t + length ks in
      climb-beside p n m t ks (leaves f) (of_node k p t (length ks) ∷ is) (records_from f p m s) (omega arith)
      (climb-node k p n t ks is
      (climb-beside n (suc n) (suc n + length js) t (leaves a) (leaves b) js _ refl (climb a n (suc n) t) (climb b n (suc n + length js) (t + length (leaves a)))))
      (climb f p m s)

-- THE ROOT -------------------------------------------------------------------------------------------------------------

-- The root's record and those in it, all of which climb.
module _ (k : ℕ) (i : Forest) where
  abbrev rs : List Record
  rs = of_node k 0 0 (length (leaves i)) ∷ records_from i 0 1 0

  climbs_at : (j : ℕ) → suc j < length rs → Climbs (record_at rs) (suc j) (record_at rs (suc j))
  unfolding Climb
  climbs_at j l =
      let is = records_from i 0 1 0 in
      let next : (m : ℕ) → 1 + m ≡ suc m = λ m. omega arith in
      let stand = at_from (Stands (record_at rs)) 1 is (λ m h. ap (record_at rs) (next m)) in
      let all = climb (record_at rs) i 0 1 0 (omega arith) (le_refl 0, le_refl (0 + length (leaves i))) stand in
      subst (λ (m : ℕ). Climbs (record_at rs) m (record_at is j)) (next j) (from_at (Climbs (record_at rs)) 1 is all j (le_of_suc-le-suc l))

  root-upwards : Upwards rs k (length (leaves i))
  root-upwards =
      record {
        some = omega arith;
        root = refl;
        before = elim [ zero ↦ λ h l. absurd (not-suc-le-zero h) | suc j ↦ λ h l. (climbs_at j l).0 ];
        begins = elim [ zero ↦ λ l. le_refl 0 | suc j ↦ λ l. (climbs_at j l).1.0 ];
        ends = elim [ zero ↦ λ l. le_refl (0 + length (leaves i)) | suc j ↦ λ l. (climbs_at j l).1.1 ];
      }

-- The records of a tree with one root.
pub records-upwards : (k : ℕ) (i : Forest) → Upwards (records (node k i nil)) k (length (leaves i))
unfolding records records_from
records-upwards k i = rw (append-nil (records_from i 0 1 0)) (root-upwards k i)

-- the tokens below the root are all that are taken
taken-inside : (limits : Limits) (xs : List ℕ) → taken (events limits xs) ≡ length (leaves (rooted limits xs).inside)
unfolding leaves
taken-inside limits xs =
    let r = rooted limits xs in
    ap taken r.its-events ∙ taken-events (node (# PROPERTY_SECTION) r.inside nil) 0 ∙ ap length (append-nil (leaves r.inside))

-- The records of every text.
pub text-upwards : (limits : Limits) (text : List ℕ) → Upwards (text_records limits text) (# PROPERTY_SECTION) (taken (events limits (symbols text)))
text-upwards limits text =
    rw (rooted-records limits text, taken-inside limits (symbols text)) (records-upwards (# PROPERTY_SECTION) (rooted limits (symbols text)).inside)

-- RUNS -----------------------------------------------------------------------------------------------------------------

-- The forests inside the nodes, in the order in which nodes open: that of their records.
unfoldable pub insides : Forest → List Forest
insides nil = []
insides (leaf k f) = insides f
insides (err m f) = insides f
insides (node k i f) = i ∷ (insides i ++ insides f)
insides (wrap k a b f) = (a then b) ∷ ((insides a ++ insides b) ++ insides f)

module _ (tokens : List ℕ) where
  -- the kinds ks stand from token t on
  abbrev Run : (t : ℕ) → List ℕ → Type 0
  Run t ks = (rest : List ℕ) × (drop t tokens ≡ ks ++ rest)

  run-front : (t : ℕ) (ks ls : List ℕ) → Run t (ks ++ ls) → Run t ks
  run-front t ks ls h = (ls ++ h.0, h.1 ∙ append_assoc ks ls h.0)

  run-back : (t s : ℕ) (ks ls : List ℕ) → t + length ks ≡ s → Run t (ks ++ ls) → Run s ls
  run-back t s ks ls e h =
      let rest = h.1 ∙ append_assoc ks ls h.0 in
      (h.0, ap (λ (n : ℕ). drop n tokens) (sym e) ∙ sym (drop-drop (length ks) t tokens) ∙ ap (drop (length ks)) rest ∙ drop-append_seam ks (ls ++ h.0))

  run-taken : (t : ℕ) (ks : List ℕ) → Run t ks → ks ≡ take (length ks) (drop t tokens)
  run-taken t ks h = sym (ap (take (length ks)) h.1 ∙ take-append_seam ks h.0)

  -- a forest's leaves are the run that a record tells; record by record and forest by forest
  abbrev Told : Record → Forest → Type 0
  Told r i = leaves i ≡ take r.below (drop r.first tokens)

  abbrev AllTold : List Record → List Forest → Type 0
  AllTold [] [] = Unit {0}
  AllTold [] (i ∷ is) = ⊥
  AllTold (r ∷ rs) [] = ⊥
  AllTold (r ∷ rs) (i ∷ is) = Told r i × AllTold rs is

  told-append : (rs ss : List Record) (is js : List Forest) → AllTold rs is → AllTold ss js → AllTold (rs ++ ss) (is ++ js)
  told-append [] ss [] js h g = g
  told-append [] ss (i ∷ is) js h g = absurd h
  told-append (r ∷ rs) ss [] js h g = absurd h
  told-append (r ∷ rs) ss (i ∷ is) js h g = (h.0, told-append rs ss is js h.1 g)

  told_at : (rs : List Record) (is : List Forest) → AllTold rs is → (r : ℕ) → r < length rs → Told (record_at rs r) (get_or is r nil)
  told_at [] is h r l = absurd (not-suc-le-zero l)
  told_at (q ∷ rs) [] h r l = absurd h
  told_at (q ∷ rs) (i ∷ is) h zero l = h.0
  told_at (q ∷ rs) (i ∷ is) h (suc r) l = told_at rs is h.1 r (le_of_suc-le-suc l)

  all_told : (f : Forest) (p n t : ℕ) → Run t (leaves f) → AllTold (records_from f p n t) (insides f)
  unfolding records_from leaves insides
  all_told nil p n t h = tt
  all_told (leaf k f) p n t h = all_told f p n (suc t) (run-back t (suc t) (k ∷ []) (leaves f) (omega arith) h)
  all_told (err m f) p n t h = all_told f p n t h
  all_told (node k i f) p n t h =
      let is = records_from i n (suc n) t in
      let m = suc n + length is in
      let s = t + length (leaves i) in
      let front = run-front t (leaves i) (leaves f) h in
      let beside = all_told f p m s (run-back t s (leaves i) (leaves f) refl h) in
      (run-taken t (leaves i) front, told-append is (records_from f p m s) (insides i) (insides f) (all_told i n (suc n) t front) beside)
  all_told (wrap k a b f) p n t h =
      let ks = leaves a ++ leaves b in
      let js = records_from a n (suc n) t in
      let ls = records_from b n (suc n + length js) (t + length (leaves a)) in
      let m = suc n + length (js ++ ls) in
      let s = t + length ks in
      let front = run-front t ks (leaves f) h in
      let first = all_told a n (suc n) t (run-front t (leaves a) (leaves b) front) in
      let second = all_told b n (suc n + length js) (t + length (leaves a)) (run-back t (t + length (leaves a)) (leaves a) (leaves b) refl front) in
      let inner = told-append js ls (insides a) (insides b) first second in
      let beside = all_told f p m s (run-back t s ks (leaves f) refl h) in
      (leaves-then a b ∙ run-taken t ks front, told-append (js ++ ls) (records_from f p m s) (insides a ++ insides b) (insides f) inner beside)

-- A node's tokens are one run of the forest's, from its record's first token on, as many as are below it ..
pub run-of_node : (f : Forest) (r : ℕ) → r < length (records f) →
    leaves (get_or (insides f) r nil) ≡ take (record_at (records f) r).below (drop (record_at (records f) r).first (leaves f))
unfolding records
run-of_node f r l = told_at (leaves f) (records f) (insides f) (all_told (leaves f) f 0 0 0 ([], sym (append-nil (leaves f)))) r l

-- .. and of any tokens whose first are the forest's.
pub run_of_first : (f : Forest) (rest : List ℕ) (r : ℕ) → r < length (records f) →
    leaves (get_or (insides f) r nil) ≡ take (record_at (records f) r).below (drop (record_at (records f) r).first (leaves f ++ rest))
unfolding records
run_of_first f rest r l = told_at (leaves f ++ rest) (records f) (insides f) (all_told (leaves f ++ rest) f 0 0 0 (rest, refl)) r l

-- The leaves of the tree that a text's events spell are the kinds of its first non-trivia tokens.
spelled-inside : (limits : Limits) (xs : List ℕ) → leaves (spell (events limits xs)) ≡ leaves (rooted limits xs).inside
unfolding leaves
spelled-inside limits xs =
    let r = rooted limits xs in
    let f = node (# PROPERTY_SECTION) r.inside nil in
    ap (λ (es : List Event). leaves (spell es)) r.its-events ∙ ap leaves (spell-events f (r.proper, tt)) ∙ leaves-tree f ∙ append-nil (leaves r.inside)

pub spelled-leaves : (limits : Limits) (text : List ℕ) → kinds text ≡ leaves (spell (events limits (symbols text))) ++ (rooted limits (symbols text)).untaken
spelled-leaves limits text =
    let r = rooted limits (symbols text) in
    sym (symbols-show_kinds text) ∙ r.its-leaves ∙ ap (λ (l : List ℕ). l ++ r.untaken) (sym (spelled-inside limits (symbols text)))

-- In every text a node's tokens are the run of non-trivia tokens that its record tells.
pub text-run : (limits : Limits) (text : List ℕ) (r : ℕ) → r < length (text_records limits text) →
    leaves (get_or (insides (spell (events limits (symbols text)))) r nil)
    ≡ take (record_at (text_records limits text) r).below (drop (record_at (text_records limits text) r).first (kinds text))
unfolding text_records
text-run limits text r l =
    let rs = text_records limits text in
    let f = spell (events limits (symbols text)) in
    subst (λ (ks : List ℕ). leaves (get_or (insides f) r nil) ≡ take (record_at rs r).below (drop (record_at rs r).first ks)) (sym (spelled-leaves limits text))
    (run_of_first f (rooted limits (symbols text)).untaken r l)
