-- One pass over the events of a node fills exactly the tree's records.
-- Events are put together from parts, and a part stands for rows and tokens. A part Does its rows: walked inside an open node whose
-- Start lies behind, it adds them and leaves that node open. It Leads where its own Start points right behind its end: the chain of
-- the Start that stands there opens first, then come the part's rows inside that Start's node, and that Start opens nothing again,
-- since it is the innermost open node's own. A Start between a part that leads, or nothing, and a part that does, with its Finish,
-- is one law: it opens what its forward parent opens and then itself, and closes itself alone. Assumes nothing.
use Prim.Native.Nat.{ℕ, zero, suc, ◌+◌, ◌-◌, ◌≤◌, ◌<◌}
use native.Mathlib.Omega.{arith}
use mathlib.Core.Path.{◌≡◌, refl, sym, ap, ◌∙◌, subst}
use mathlib.Core.Bool.{Bool, false, cond}
use mathlib.Core.List.{List, [], ◌∷◌, ◌++◌, append_assoc, append-nil}
use borrow.Author.Tests.{eq-eqb, ne_eqb}
use lib.Dec.{eqb}
use lib.ListN.{length, get_or, set, length-append, get_or-append}
use lib.Seq.{get_or-append_seam, set-append_seam}
use Rattle.predictive.specs.Forest.{Forest, nil, leaf, err, node, wrap, leaves, Fault}
use Rattle.predictive.specs.Events.{Event, start, token, finish, error, events, behind_start}
use Rattle.predictive.proofs.Proper.{Whole, whole-node, whole-wrap, Proper}
use Rattle.aadl.specs.Records.{Record, of_node, records_from, records}
use Rattle.tree.specs.Walk.{Link, link, links, opened, Walk, walk_at, blank, with_links, turn, walk, root}
use Rattle.tree.proofs.Chains.{links-past, length_opened, last-parent, opened-snoc}

-- PARTS ----------------------------------------------------------------------------------------------------------------

-- What a part of the events stands for: its rows, inside the node with record p, where the next record is number n and t tokens are
-- taken; and how many tokens it takes.
record Part : Type 0 where
  rows : (p n t : ℕ) → List Record
  tokens : ℕ

abbrev nothing : Part
nothing = record { rows = λ p n t. []; tokens = 0 }

abbrev one_token : Part
one_token = record { rows = λ p n t. []; tokens = 1 }

infixr 65 ◌and_then◌
abbrev ◌and_then◌ : Part → Part → Part
a and_then b = record { rows = λ p n t. a.rows p n t ++ b.rows p (n + length (a.rows p n t)) (t + a.tokens); tokens = a.tokens + b.tokens }

-- A node over a part.
abbrev node_over : (kind : ℕ) → Part → Part
node_over k a = record { rows = λ p n t. of_node k p t a.tokens ∷ a.rows n (suc n) t; tokens = a.tokens }

abbrev part_of : Forest → Part
part_of f = record { rows = records_from f; tokens = length (leaves f) }

-- THE STATE ------------------------------------------------------------------------------------------------------------

-- Event i comes behind the Start of the open node p.
abbrev Behind : (i : ℕ) → List Record → (p : ℕ) → Type 0
Behind i rs p = (p < length rs) × ((get_or rs p blank).below < i)

behind_more : (i j : ℕ) (rs more : List Record) (p : ℕ) → i ≤ j → Behind i rs p → Behind j (rs ++ more) p
behind_more i j rs more p le b =
    (omega (arith, length-append rs more, b.0), omega (arith, ap (λ (r : Record). r.below) (get_or-append rs more blank p b.0), b.1))

-- A state may be written in two ways.
walk_same : (es : List Event) {i j : ℕ} {rs qs : List Record} {p q t u : ℕ} → i ≡ j → rs ≡ qs → p ≡ q → t ≡ u
    → walk i es (walk_at rs p t) ≡ walk j es (walk_at qs q u)
walk_same es e f g h = λ z. walk (e z) es (walk_at (f z) (g z) (h z))

-- The events xs add the rows of a inside the open node.
Does : List Event → Part → Type 0
Does xs a =
    (i : ℕ) (rs : List Record) (p t : ℕ) (es : List Event) → Behind i rs p
    → walk i (xs ++ es) (walk_at rs p t) ≡ walk (i + length xs) es (walk_at (rs ++ a.rows p (length rs) t) p (t + a.tokens))

-- What the forward parent up of a Start opens, where es stand behind the Start and the first of them is number i.
abbrev above : (i : ℕ) → List Event → (up : ℕ) → List Link
above i es zero = []
above i es (suc m) = links i es m

-- The records after a chain was opened.
abbrev chained : List Record → (p t : ℕ) → List Link → List Record
chained rs p t ls = rs ++ opened p (length rs) t ls

-- The events xs add the rows of a, and before those what a Start right behind xs opens: its chain and itself. It stays open.
Leads : List Event → Part → Type 0
Leads xs a =
    (i : ℕ) (rs : List Record) (p t k up : ℕ) (es : List Event) → Behind i rs p
    → let ls = above (suc (i + length xs)) es up in
    let qs = chained rs p t ls in
    let own = of_node k (last-parent p (length rs) (length ls)) t (i + length xs) in
    walk i (xs ++ (start k up ∷ es)) (walk_at rs p t)
    ≡ walk (suc (i + length xs)) es (walk_at (qs ++ (own ∷ a.rows (length qs) (suc (length qs)) t)) (length qs) (t + a.tokens))

-- PLAIN PARTS ----------------------------------------------------------------------------------------------------------

does_nothing : Does [] nothing
unfolding Does
does_nothing i rs p t es b = walk_same es (omega arith) (sym (append-nil rs)) refl (omega arith)

does_token : (k : ℕ) → Does (token k ∷ []) one_token
unfolding Does walk turn
does_token k i rs p t es b = walk_same es (omega arith) (sym (append-nil rs)) refl (omega arith)

does_error : (m : Fault) → Does (error m ∷ []) nothing
unfolding Does walk turn
does_error m i rs p t es b = walk_same es (omega arith) (sym (append-nil rs)) refl (omega arith)

does_append : (xs ys : List Event) (a b : Part) → Does xs a → Does ys b → Does (xs ++ ys) (a and_then b)
unfolding Does
does_append xs ys a b d e i rs p t es behind =
    let first = a.rows p (length rs) t in
    let next = b.rows p (length (rs ++ first)) (t + a.tokens) in
    let both = append_assoc rs first next ∙ ap (λ (n : ℕ). rs ++ (first ++ b.rows p n (t + a.tokens))) (length-append rs first) in
    ap (λ (l : List Event). walk i l (walk_at rs p t)) (append_assoc xs ys es)
    ∙ d i rs p t (ys ++ es) behind
    ∙ e (i + length xs) (rs ++ first) p (t + a.tokens) es (behind_more i (i + length xs) rs first p (omega arith) behind)
    ∙ walk_same es (omega (arith, length-append xs ys)) both refl (omega arith)

-- CHAINS ---------------------------------------------------------------------------------------------------------------

links-start : (i k up : ℕ) (es : List Event) → links i (start k up ∷ es) 0 ≡ above (suc i) es up ++ (link i k ∷ [])
unfolding links
links-start i k zero es = refl
links-start i k (suc m) es = refl

-- A Start that points right behind ys and a Finish.
above-part : (i : ℕ) (ys es : List Event) → above i (ys ++ (finish ∷ es)) (suc (suc (length ys))) ≡ links (suc (i + length ys)) es 0
above-part i [] es = links-past i finish es 0 ∙ ap (λ (j : ℕ). links (suc j) es 0) (omega arith)
above-part i (y ∷ ys) es = links-past i y (ys ++ (finish ∷ es)) (suc (length ys)) ∙ above-part (suc i) ys es ∙ ap (λ (j : ℕ). links (suc j) es 0) (omega arith)

length_chained : (rs : List Record) (p t : ℕ) (ls : List Link) → length (chained rs p t ls) ≡ length rs + length ls
length_chained rs p t ls = omega (arith, length-append rs (opened p (length rs) t ls), length_opened p (length rs) t ls)

chained-snoc : (rs : List Record) (p t : ℕ) (ls : List Link) (l : Link)
    → chained rs p t (ls ++ (l ∷ [])) ≡ chained rs p t ls ++ (of_node l.kind (last-parent p (length rs) (length ls)) t l.event ∷ [])
chained-snoc rs p t ls l =
    ap (λ (qs : List Record). rs ++ qs) (opened-snoc p (length rs) t ls l)
    ∙ sym (append_assoc rs (opened p (length rs) t ls) (of_node l.kind (last-parent p (length rs) (length ls)) t l.event ∷ []))

last-parent_snoc : (p n : ℕ) (ls : List Link) (l : Link) → last-parent p n (length (ls ++ (l ∷ []))) ≡ n + length ls
last-parent_snoc p n ls l =
    let e : length (ls ++ (l ∷ [])) ≡ suc (length ls) = omega (arith, length-append ls (l ∷ [])) in
    ap (λ (m : ℕ). last-parent p n m) e

-- Rows whose node is the last of the rows before them.
rows_behind : (qs : List Record) (own : Record) (rows : (p n : ℕ) → List Record) {rs : List Record} {q : ℕ} → rs ≡ qs ++ (own ∷ []) → q ≡ length qs
    → rs ++ rows q (length rs) ≡ qs ++ (own ∷ rows (length qs) (suc (length qs)))
rows_behind qs own rows e f =
    let next : length (qs ++ (own ∷ [])) ≡ suc (length qs) = omega (arith, length-append qs (own ∷ [])) in
    (λ z. e z ++ rows (f z) (length (e z)))
    ∙ append_assoc qs (own ∷ []) (rows (length qs) (length (qs ++ (own ∷ []))))
    ∙ ap (λ (n : ℕ). qs ++ (own ∷ rows (length qs) n)) next

-- A START --------------------------------------------------------------------------------------------------------------

-- A Start that is not the innermost open node's own opens its chain and itself.
walk_start : (i : ℕ) (rs : List Record) (p t k up : ℕ) (es : List Event) → Behind i rs p
    → let ls = above (suc i) es up in
    let qs = chained rs p t ls in
    walk i (start k up ∷ es) (walk_at rs p t)
    ≡ walk (suc i) es (walk_at (qs ++ (of_node k (last-parent p (length rs) (length ls)) t i ∷ [])) (length qs) t)
unfolding walk turn
walk_start i rs p t k up es b =
    let other : eqb (get_or rs p blank).below i ≡ false = ne_eqb (get_or rs p blank).below i (λ e. omega (arith, b.1)) in
    let ls = above (suc i) es up in
    let opens : links i (start k up ∷ es) 0 ≡ ls ++ (link i k ∷ []) = links-start i k up es in
    let number : (length rs + length (links i (start k up ∷ es) 0)) - 1 ≡ length (chained rs p t ls) = omega (arith, ap length opens, length-append ls (link i k ∷ []), length_chained rs p t ls) in
    ap (λ (c : Bool). walk (suc i) es (cond c (walk_at rs p t) (with_links (links i (start k up ∷ es) 0) (walk_at rs p t)))) other
    ∙ walk_same es refl (ap (λ (l : List Link). chained rs p t l) opens ∙ chained-snoc rs p t ls (link i k)) number refl

leads-nothing : Leads [] nothing
unfolding Leads
leads-nothing i rs p t k up es b =
    let j : i ≡ i + 0 = omega arith in
    let u : t ≡ t + 0 = omega arith in
    walk_start i rs p t k up es b
    ∙ (λ z.
    let ls = above (suc (j z)) es up in
    let qs = chained rs p t ls in
    walk (suc (j z)) es (walk_at (qs ++ (of_node k (last-parent p (length rs) (length ls)) t (j z) ∷ [])) (length qs) (u z)))

-- A Start that is the innermost open node's own opens nothing.
walk-used : (i : ℕ) (rs : List Record) (p t k up : ℕ) (es : List Event) → (get_or rs p blank).below ≡ i
    → walk i (start k up ∷ es) (walk_at rs p t) ≡ walk (suc i) es (walk_at rs p t)
unfolding walk turn
walk-used i rs p t k up es e =
    ap (λ (c : Bool). walk (suc i) es (cond c (walk_at rs p t) (with_links (links i (start k up ∷ es) 0) (walk_at rs p t))))
    (eq-eqb (get_or rs p blank).below i e)

-- A Finish closes the innermost open node, whose record stands behind rs.
walk-finish : (i : ℕ) (rs more : List Record) (k p n t u : ℕ) (es : List Event)
    → walk i (finish ∷ es) (walk_at (rs ++ (of_node k p t n ∷ more)) (length rs) u)
    ≡ walk (suc i) es (walk_at (rs ++ (of_node k p t (u - t) ∷ more)) p u)
unfolding walk turn
walk-finish i rs more k p n t u es =
    let r = of_node k p t n in
    let found : get_or (rs ++ (r ∷ more)) (length rs) blank ≡ r = get_or-append_seam rs r more blank in
    ap (λ (x : Record). walk (suc i) es (walk_at (set (rs ++ (r ∷ more)) (length rs) (of_node x.kind x.parent x.first (u - x.first))) x.parent u)) found
    ∙ ap (λ (qs : List Record). walk (suc i) es (walk_at qs p u)) (set-append_seam rs r more (of_node k p t (u - t)))

-- A Start between xs, which lead, and ys, and its Finish.
module _ (xs : List Event) (a : Part) (lead : Leads xs a) (ys : List Event) (b : Part) (does : Does ys b) (k : ℕ) where
  walk-node : (i : ℕ) (rs : List Record) (p t up : ℕ) (es : List Event) → Behind i rs p
      → let ls = above (suc (i + length xs)) (ys ++ (finish ∷ es)) up in
      let qs = chained rs p t ls in
      let q = last-parent p (length rs) (length ls) in
      walk i (xs ++ (start k up ∷ (ys ++ (finish ∷ es)))) (walk_at rs p t)
      ≡ walk (suc (suc (i + length xs) + length ys)) es
      (walk_at (qs ++ (node_over k (a and_then b)).rows q (length qs) t) q (t + (a.tokens + b.tokens)))
  unfolding Leads Does
  walk-node i rs p t up es behind =
      let j = i + length xs in
      let ls = above (suc j) (ys ++ (finish ∷ es)) up in
      let qs = chained rs p t ls in
      let q = last-parent p (length rs) (length ls) in
      let own = of_node k q t j in
      let first = a.rows (length qs) (suc (length qs)) t in
      let u = t + a.tokens in
      let whole = qs ++ (own ∷ first) in
      let next = b.rows (length qs) (length whole) u in
      let long : length whole ≡ suc (length qs) + length first = omega (arith, length-append qs (own ∷ first)) in
      let opened_at : (get_or whole (length qs) blank).below ≡ j = ap (λ (r : Record). r.below) (get_or-append_seam qs own first blank) in
      let below : (u + b.tokens) - t ≡ a.tokens + b.tokens = omega arith in
      lead i rs p t k up (ys ++ (finish ∷ es)) behind
      ∙ does (suc j) whole (length qs) u (finish ∷ es) (omega arith, omega arith)
      ∙ ap (λ (l : List Record). walk (suc j + length ys) (finish ∷ es) (walk_at l (length qs) (u + b.tokens))) (append_assoc qs (own ∷ first) next)
      ∙ walk-finish (suc j + length ys) qs (first ++ next) k q j t (u + b.tokens) es
      ∙ walk_same es refl (λ z. qs ++ (of_node k q t (below z) ∷ (first ++ b.rows (length qs) (long z) u))) refl (omega arith)

  -- The events, with the forward parent up.
  abbrev node-events : (up : ℕ) → List Event
  node-events up = xs ++ (start k up ∷ (ys ++ (finish ∷ [])))

  node-events_then : (up : ℕ) (es : List Event) → node-events up ++ es ≡ xs ++ (start k up ∷ (ys ++ (finish ∷ es)))
  node-events_then up es = simp append_assoc

  length_node_events : (up : ℕ) → length (node-events up) ≡ suc (suc (length xs + length ys))
  length_node_events up = omega (arith, length-append xs (start k up ∷ (ys ++ (finish ∷ []))), length-append ys (finish ∷ []))

  -- with no forward parent
  does_node : Does (node-events 0) (node_over k (a and_then b))
  unfolding Does
  does_node i rs p t es behind =
      let same = ap (λ (l : List Record). l ++ (node_over k (a and_then b)).rows p (length l) t) (append-nil rs) in
      ap (λ (l : List Event). walk i l (walk_at rs p t)) (node-events_then 0 es)
      ∙ walk-node i rs p t 0 es behind
      ∙ walk_same es (omega (arith, length_node_events 0)) same refl refl

  -- with one that is the Start right behind the Finish
  leads-node : Leads (node-events (suc (suc (length ys)))) (node_over k (a and_then b))
  unfolding Leads
  leads-node i rs p t l up es behind =
      let to = suc (suc (length ys)) in
      let m = i + length (node-events to) in
      let more = above (suc m) es up in
      let ls = above (suc (i + length xs)) (ys ++ (finish ∷ (start l up ∷ es))) to in
      let number : suc (suc (i + length xs) + length ys) ≡ m = omega (arith, length_node_events to) in
      let here = above-part (suc (i + length xs)) ys (start l up ∷ es) in
      let chain : ls ≡ more ++ (link m l ∷ []) = here ∙ ap (λ (n : ℕ). links n (start l up ∷ es) 0) number ∙ links-start m l up es in
      let qs = chained rs p t more in
      let own = of_node l (last-parent p (length rs) (length more)) t m in
      let rows = (node_over k (a and_then b)).rows in
      let opens : chained rs p t ls ≡ qs ++ (own ∷ []) = ap (λ (l : List Link). chained rs p t l) chain ∙ chained-snoc rs p t more (link m l) in
      let one_more = last-parent_snoc p (length rs) more (link m l) ∙ sym (length_chained rs p t more) in
      let parent : last-parent p (length rs) (length ls) ≡ length qs = ap (λ (l : List Link). last-parent p (length rs) (length l)) chain ∙ one_more in
      let inner = rows (length qs) (suc (length qs)) t in
      ap (λ (es : List Event). walk i es (walk_at rs p t)) (node-events_then to (start l up ∷ es))
      ∙ walk-node i rs p t to (start l up ∷ es) behind
      ∙ walk_same (start l up ∷ es) number (rows_behind qs own (λ q n. rows q n t) opens parent) parent refl
      ∙ walk-used m (qs ++ (own ∷ inner)) (length qs) (t + (a.tokens + b.tokens)) l up es
      (ap (λ (r : Record). r.below) (get_or-append_seam qs own inner blank))

-- THE PARTS OF A FOREST ------------------------------------------------------------------------------------------------

part_same : (a b : Part) → ((p n t : ℕ) → a.rows p n t ≡ b.rows p n t) → a.tokens ≡ b.tokens → a ≡ b
part_same a b e f = λ z. record { rows = λ p n t. e p n t z; tokens = f z }

nothing_then : (a : Part) → nothing and_then a ≡ a
nothing_then a =
    part_same (nothing and_then a) a
    (λ p n t z.
    let same-n : n + 0 ≡ n = omega arith in
    let same-t : t + 0 ≡ t = omega arith in
    a.rows p (same-n z) (same-t z))
    (omega arith)

part-leaf : (k : ℕ) (f : Forest) → one_token and_then part_of f ≡ part_of (leaf k f)
unfolding records_from leaves
part-leaf k f =
    part_same (one_token and_then part_of f) (part_of (leaf k f))
    (λ p n t z.
    let same-n : n + 0 ≡ n = omega arith in
    let same-t : t + 1 ≡ suc t = omega arith in
    records_from f p (same-n z) (same-t z))
    (omega arith)

part-err : (m : Fault) (f : Forest) → part_of f ≡ part_of (err m f)
unfolding records_from leaves
part-err m f = part_same (part_of f) (part_of (err m f)) (λ p n t. refl) refl

part-node : (k : ℕ) (i f : Forest) → node_over k (part_of i) and_then part_of f ≡ part_of (node k i f)
unfolding records_from leaves
part-node k i f =
    part_same (node_over k (part_of i) and_then part_of f) (part_of (node k i f))
    (λ p n t.
    let inner = records_from i n (suc n) t in
    ap (λ (m : ℕ). of_node k p t (length (leaves i)) ∷ (inner ++ records_from f p m (t + length (leaves i)))) (omega arith))
    (omega (arith, length-append (leaves i) (leaves f)))

part-wrap : (k : ℕ) (a b f : Forest) → node_over k (part_of a and_then part_of b) and_then part_of f ≡ part_of (wrap k a b f)
unfolding records_from leaves
part-wrap k a b f =
    let c : length (leaves a) + length (leaves b) ≡ length (leaves a ++ leaves b) = sym (length-append (leaves a) (leaves b)) in
    part_same (node_over k (part_of a and_then part_of b) and_then part_of f) (part_of (wrap k a b f))
    (λ p n t z.
    let first = records_from a n (suc n) t in
    let inner = first ++ records_from b n (suc n + length first) (t + length (leaves a)) in
    let number : n + suc (length inner) ≡ suc n + length inner = omega arith in
    of_node k p t (c z) ∷ (inner ++ records_from f p (number z) (t + c z)))
    (omega (arith, length-append (leaves a) (leaves b), length-append (leaves a ++ leaves b) (leaves f)))

part-nil : nothing ≡ part_of nil
unfolding records_from leaves
part-nil = part_same nothing (part_of nil) (λ p n t. refl) refl

-- A part with nothing beside it.
then-part_nil : (a : Part) → a ≡ a and_then part_of nil
then-part_nil a =
    part_same a (a and_then nothing) (λ p n t. sym (append-nil (a.rows p n t))) (omega arith)
    ∙ ap (λ (b : Part). a and_then b) part-nil

-- EVERY PROPER FOREST --------------------------------------------------------------------------------------------------

-- A node with no forward parent, and what stands beside it.
does_beside : (xs ys zs : List Event) (k : ℕ) (a b c : Part) → Leads xs a → Does ys b → Does zs c
    → Does ((xs ++ (start k 0 ∷ ys)) ++ (finish ∷ zs)) (node_over k (a and_then b) and_then c)
does_beside xs ys zs k a b c lead does rest =
    rw (append_assoc xs (start k 0 ∷ ys) (finish ∷ zs), ← (node-events_then xs a lead ys b does k 0 zs))
    (does_append (xs ++ (start k 0 ∷ (ys ++ (finish ∷ [])))) zs (node_over k (a and_then b)) c (does_node xs a lead ys b does k) rest)

-- A part may be written in two ways.
does_as : (xs : List Event) {a b : Part} → a ≡ b → Does xs a → Does xs b
does_as xs e d = subst (λ (c : Part). Does xs c) e d

leads-as : (xs : List Event) {a b : Part} → a ≡ b → Leads xs a → Leads xs b
leads-as xs e d = subst (λ (c : Part). Leads xs c) e d

mutual
  unfolding events

  does_events : (f : Forest) → Proper f → Does (events f 0) (part_of f)
  does_events nil p = does_as [] part-nil does_nothing
  does_events (leaf k f) p =
      does_as (token k ∷ events f 0) (part-leaf k f)
      (does_append (token k ∷ []) (events f 0) one_token (part_of f) (does_token k) (does_events f p))
  does_events (err m f) p =
      does_as (error m ∷ events f 0) (nothing_then (part_of f) ∙ part-err m f)
      (does_append (error m ∷ []) (events f 0) nothing (part_of f) (does_error m) (does_events f p))
  does_events (node k i f) p =
      does_as (events (node k i f) 0) (ap (λ (c : Part). node_over k c and_then part_of f) (nothing_then (part_of i)) ∙ part-node k i f)
      (does_beside [] (events i 0) (events f 0) k nothing (part_of i) (part_of f) leads-nothing (does_events i p.0) (does_events f p.1))
  does_events (wrap k a b f) p =
      does_as (events (wrap k a b f) 0) (part-wrap k a b f)
      (does_beside (events a (behind_start a)) (events b 0) (events f 0) k (part_of a) (part_of b) (part_of f)
      (leads-events a p.0 p.1) (does_events b p.2) (does_events f p.3))

  leads-events : (t : Forest) → Whole t → Proper t → Leads (events t (behind_start t)) (part_of t)
  leads-events (node k i nil) whole-node p =
      leads-as (events (node k i nil) (behind_start (node k i nil)))
      (ap (λ (c : Part). node_over k c) (nothing_then (part_of i)) ∙ then-part_nil (node_over k (part_of i)) ∙ part-node k i nil)
      (leads-node [] nothing leads-nothing (events i 0) (part_of i) (does_events i p.0) k)
  leads-events (wrap k a b nil) whole-wrap p =
      let first = events a (behind_start a) in
      let up = behind_start (wrap k a b nil) in
      leads-as ((first ++ (start k up ∷ events b 0)) ++ (finish ∷ []))
      (then-part_nil (node_over k (part_of a and_then part_of b)) ∙ part-wrap k a b nil)
      (rw (append_assoc first (start k up ∷ events b 0) (finish ∷ []))
      (leads-node first (part_of a) (leads-events a p.0 p.1) (events b 0) (part_of b) (does_events b p.2) k))
  -- no other forest is whole
  leads-events nil w p = elim w [ ]
  leads-events (leaf kind _) w p = elim w [ ]
  leads-events (err _ _) w p = elim w [ ]
  leads-events (node k i (leaf kind _)) w p = elim w [ ]
  leads-events (node k i (err _ _)) w p = elim w [ ]
  leads-events (node k i (node kind inside _)) w p = elim w [ ]
  leads-events (node k i (wrap kind a b _)) w p = elim w [ ]
  leads-events (wrap k a b (leaf kind _)) w p = elim w [ ]
  leads-events (wrap k a b (err _ _)) w p = elim w [ ]
  leads-events (wrap k a b (node kind inside _)) w p = elim w [ ]
  leads-events (wrap k a b (wrap kind _ _ _)) w p = elim w [ ]

-- THE THEOREM: a walk over a node's events, from where the node is open, fills exactly the node's records.
pub walk-records : (k : ℕ) (i : Forest) → Proper i → (walk 0 (events (node k i nil) 0) (root k)).rows ≡ records (node k i nil)
unfolding Does events records records_from walk
walk-records k i p =
    let below : (0 + length (leaves i)) - 0 ≡ length (leaves i) = omega arith in
    let own = of_node k 0 0 0 in
    let inner = records_from i 0 1 0 in
    ap (λ (w : Walk). w.rows)
    (walk-used 0 (own ∷ []) 0 0 k 0 (events i 0 ++ (finish ∷ [])) refl
    ∙ does_events i p 1 (own ∷ []) 0 0 (finish ∷ []) (omega arith, omega arith)
    ∙ walk-finish (1 + length (events i 0)) [] inner k 0 0 0 (0 + length (leaves i)) [])
    ∙ (λ z. of_node k 0 0 (below z) ∷ sym (append-nil inner) z)
