-- Laws of records: their words tell them, also where other words follow; those of two forests side by side are the first's and then the
-- second's, counted on; and a tree has the records of its forest, since a message has none and a node has one whenever it was begun. A record is
-- paid for by two events.
-- Assumes nothing.
use Prim.Native.Nat.{ℕ, suc, ◌+◌, ◌*◌, ◌≤◌}
use native.Mathlib.Omega.{arith}
use mathlib.Core.Path.{◌≡◌, refl, sym, ap, ap₂, ◌∙◌}
use mathlib.Core.List.{List, [], ◌∷◌, ◌++◌, append_assoc}
use lib.ListN.{length, length-append}
use Rattle.predictive.specs.Forest.{Forest, nil, leaf, err, node, wrap, ◌then◌, tree, leaves}
use Rattle.predictive.specs.Events.{start, finish, behind_start}
use Rattle.predictive.specs.Events as E
use Rattle.predictive.proofs.Forests.{leaves-then, leaves-tree}
use Rattle.aadl.specs.Records.{Record, of_node, records_from, words_of_records, records_in}

-- WORDS ----------------------------------------------------------------------------------------------------------------

pub length_record_words : (rs : List Record) → length (words_of_records rs) ≡ 4 * length rs
length_record_words [] = refl
length_record_words (r ∷ rs) = omega (arith, length_record_words rs)

pub records-back : (rs : List Record) (rest : List ℕ) → records_in (length rs) (words_of_records rs ++ rest) ≡ rs
records-back [] rest = refl
records-back (r ∷ rs) rest = ap (λ (l : List Record). r ∷ l) (records-back rs rest)

-- SIDE BY SIDE ---------------------------------------------------------------------------------------------------------

-- the same records, where the next record and the next token have the same numbers
counted-on : (f : Forest) (p : ℕ) {m n s t : ℕ} → m ≡ n → s ≡ t → records_from f p m s ≡ records_from f p n t
counted-on f p d e = λ i. records_from f p (d i) (e i)

-- behind a node with the records inner and the leaves ks in it
beside-inner : (inner : List Record) (ks : List ℕ) (f g : Forest) (p n t : ℕ) →
    (let m = suc n + length inner in
    let s = t + length ks in
    let fs = records_from f p m s in
    records_from (f then g) p m s ≡ fs ++ records_from g p (m + length fs) (s + length (leaves f))
    → inner ++ records_from (f then g) p m s ≡ (inner ++ fs) ++ records_from g p (n + suc (length (inner ++ fs))) (t + length (ks ++ leaves f)))
beside-inner inner ks f g p n t h =
    let m = suc n + length inner in
    let s = t + length ks in
    let fs = records_from f p m s in
    ap (λ (l : List Record). inner ++ l)
    (h ∙ ap (λ (l : List Record). fs ++ l) (counted-on g p (omega (arith, length-append inner fs)) (omega (arith, length-append ks (leaves f)))))
    ∙ sym (append_assoc inner fs _)

pub records-then : (f g : Forest) (p n t : ℕ) →
    records_from (f then g) p n t ≡ records_from f p n t ++ records_from g p (n + length (records_from f p n t)) (t + length (leaves f))
unfolding records_from leaves
records-then nil g p n t = counted-on g p (omega arith) (omega arith)
records-then (leaf k f) g p n t =
    records-then f g p n (suc t) ∙ ap (λ (l : List Record). records_from f p n (suc t) ++ l) (counted-on g p refl (omega arith))
records-then (err m f) g p n t = records-then f g p n t
records-then (node k i f) g p n t =
    ap (λ (l : List Record). of_node k p t (length (leaves i)) ∷ l)
    (beside-inner (records_from i n (suc n) t) (leaves i) f g p n t (records-then f g p (suc n + length (records_from i n (suc n) t)) (t + length (leaves i))))
records-then (wrap k a b f) g p n t =
    let first = records_from a n (suc n) t in
    let inner = first ++ records_from b n (suc n + length first) (t + length (leaves a)) in
    ap (λ (l : List Record). of_node k p t (length (leaves a ++ leaves b)) ∷ l)
    (beside-inner inner (leaves a ++ leaves b) f g p n t (records-then f g p (suc n + length inner) (t + length (leaves a ++ leaves b))))

-- A TREE ---------------------------------------------------------------------------------------------------------------

-- A node's record and those that follow are determined by the records in it, by its leaves and by what stands beside it.
node-records : (k p n t : ℕ) {is js : List Record} {ks ls : List ℕ} {fs gs : (m s : ℕ) → List Record} → is ≡ js → ks ≡ ls →
    ((m s : ℕ) → fs m s ≡ gs m s) →
    ◌≡◌ {A = List Record} (of_node k p t (length ks) ∷ (is ++ fs (suc n + length is) (t + length ks)))
    (of_node k p t (length ls) ∷ (js ++ gs (suc n + length js) (t + length ls)))
node-records k p n t d e h =
    λ i. of_node k p t (length (e i)) ∷ (d i ++ h (suc n + length (d i)) (t + length (e i)) i)

pub records-tree : (f : Forest) (p n t : ℕ) → records_from (tree f) p n t ≡ records_from f p n t
unfolding records_from leaves tree
records-tree nil p n t = refl
records-tree (leaf k f) p n t = records-tree f p n (suc t)
records-tree (err m f) p n t = records-tree f p n t
records-tree (node k i f) p n t =
    node-records k p n t (records-tree i n (suc n) t) (leaves-tree i) (λ m s. records-tree f p m s)
records-tree (wrap k a b f) p n t =
    node-records k p n t
    (records-then (tree a) (tree b) n (suc n) t
    ∙ λ i. records-tree a n (suc n) t i ++ records-tree b n (suc n + length (records-tree a n (suc n) t i)) (t + length (leaves-tree a i)) i)
    (leaves-then (tree a) (tree b) ∙ ap₂ (λ (l r : List ℕ). l ++ r) (leaves-tree a) (leaves-tree b))
    (λ m s. records-tree f p m s)

-- EVENTS ---------------------------------------------------------------------------------------------------------------

-- A node has two events, its Start and its Finish.
pub two-events_a_record : (f : Forest) (up p n t : ℕ) → 2 * length (records_from f p n t) ≤ length (E.events f up)
unfolding records_from E.events
two-events_a_record nil up p n t = omega arith
two-events_a_record (leaf k f) up p n t = omega (arith, two-events_a_record f 0 p n (suc t))
two-events_a_record (err m f) up p n t = omega (arith, two-events_a_record f 0 p n t)
two-events_a_record (node k i f) up p n t =
    let inner = records_from i n (suc n) t in
    let beside = records_from f p (suc n + length inner) (t + length (leaves i)) in
    omega (arith, length-append inner beside, length-append (start k up ∷ E.events i 0) (finish ∷ E.events f 0), two-events_a_record i 0 n (suc n) t, two-events_a_record f 0 p (suc n + length inner) (t + length (leaves i)))
two-events_a_record (wrap k a b f) up p n t =
    let first = records_from a n (suc n) t in
    let second = records_from b n (suc n + length first) (t + length (leaves a)) in
    let beside = records_from f p (suc n + length (first ++ second)) (t + length (leaves a ++ leaves b)) in
    omega (
      arith,
      length-append first second,
      length-append (first ++ second) beside,
      length-append (E.events a (behind_start a) ++ (start k up ∷ E.events b 0)) (finish ∷ E.events f 0),
      length-append (E.events a (behind_start a)) (start k up ∷ E.events b 0),
      two-events_a_record a (behind_start a) n (suc n) t,
      two-events_a_record b 0 n (suc n + length first) (t + length (leaves a)),
      two-events_a_record f 0 p (suc n + length (first ++ second)) (t + length (leaves a ++ leaves b)),
    )
