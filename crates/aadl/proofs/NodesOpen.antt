-- Before which token each node of a tree opens, by the records of its forest and by the events: both count the tokens that the steps take before
-- the step that opens the node (`firsts`). A record does, forest by forest (`firsts-records`); and so does the event at which the node
-- opens, event by event, since a chain of Starts opens all its nodes at once (`opened-named`). Assumes nothing.
use Prim.Native.Nat.{ℕ, zero, suc, ◌+◌, ◌<◌, suc-le-suc}
use native.Mathlib.Omega.{arith}
use mathlib.Core.Path.{◌≡◌, refl, sym, ap, ap₂, ◌∙◌}
use mathlib.Core.Bool.{Bool, true, false, ◌||◌}
use mathlib.Core.List.{List, [], ◌∷◌, ◌++◌, map, map-append, append_assoc, append-nil}
use lib.ListN.{length, take, replicate, length-append}
use lib.Dec.{eqb}
use Rattle.predictive.specs.Forest.{Forest, nil, leaf, err, node, wrap, leaves}
use Rattle.predictive.specs.Events.{Event, start, token, finish, error, taken}
use Rattle.predictive.specs.Tree.{Step, opens, adds, closes, chain, unused, steps}
use Rattle.predictive.proofs.EventLaws.{taken-append}
use Rattle.predictive.proofs.Spell.{plain}
use Rattle.aadl.specs.Records.{Record, records_from, records}
use Rattle.aadl.specs.EventTokens.{opened_at}
use Rattle.aadl.proofs.Lists.{Each, each_append}

-- THE RECORDS ----------------------------------------------------------------------------------------------------------

-- How many tokens are taken before each node that opens, where t are taken before the steps.
pub firsts : (t : ℕ) → List Step → List ℕ
firsts t [] = []
firsts t (opens k ∷ ss) = t ∷ firsts t ss
firsts t (adds k ∷ ss) = firsts (suc t) ss
firsts t (closes ∷ ss) = firsts t ss

abbrev pub first_of : Record → ℕ
first_of r = r.first

-- two lists of records, one behind the other
one-behind : (xs ys : List Record) (ts : List ℕ) → map first_of xs ++ (map first_of ys ++ ts) ≡ map first_of (xs ++ ys) ++ ts
one-behind xs ys ts = sym (append_assoc (map first_of xs) (map first_of ys) ts) ∙ ap (λ (l : List ℕ). l ++ ts) (sym (map-append first_of xs ys))

-- what stands behind the records inner, of which ks are the leaves: the node that they are in closes, and f stands beside it
behind-inner : (inner : List Record) (ks : List ℕ) (f : Forest) (p m t : ℕ) (ss : List Step) →
    (let s = t + length ks in
    firsts s (plain f ++ ss) ≡ map first_of (records_from f p m s) ++ firsts (s + length (leaves f)) ss →
    map first_of inner ++ firsts s (closes ∷ (plain f ++ ss)) ≡ map first_of (inner ++ records_from f p m s) ++ firsts (t + length (ks ++ leaves f)) ss)
unfolding firsts
behind-inner inner ks f p m t ss h =
    let s = t + length ks in
    let outer = records_from f p m s in
    ap (λ (l : List ℕ). map first_of inner ++ l) h
    ∙ one-behind inner outer (firsts (s + length (leaves f)) ss)
    ∙ ap (λ (n : ℕ). map first_of (inner ++ outer) ++ firsts n ss) (omega (arith, length-append ks (leaves f)))

-- The records of a forest name the tokens that its steps count.
firsts-plain : (f : Forest) (p n t : ℕ) (ss : List Step) → firsts t (plain f ++ ss) ≡ map first_of (records_from f p n t) ++ firsts (t + length (leaves f)) ss
unfolding firsts plain records_from leaves
firsts-plain nil p n t ss = ap (λ (s : ℕ). firsts s ss) (omega arith)
firsts-plain (leaf k f) p n t ss =
    firsts-plain f p n (suc t) ss ∙ ap (λ (s : ℕ). map first_of (records_from f p n (suc t)) ++ firsts s ss) (omega arith)
firsts-plain (err m f) p n t ss = firsts-plain f p n t ss
firsts-plain (node k i f) p n t ss =
    let inner = records_from i n (suc n) t in
    let m = suc n + length inner in
    ap (λ (l : List ℕ). t ∷ l)
    (ap (firsts t) (append_assoc (plain i) (closes ∷ plain f) ss)
    ∙ firsts-plain i n (suc n) t (closes ∷ (plain f ++ ss))
    ∙ behind-inner inner (leaves i) f p m t ss (firsts-plain f p m (t + length (leaves i)) ss))
firsts-plain (wrap k a b f) p n t ss =
    let first = records_from a n (suc n) t in
    let s = t + length (leaves a) in
    let second = records_from b n (suc n + length first) s in
    let m = suc n + length (first ++ second) in
    let rest = closes ∷ (plain f ++ ss) in
    ap (λ (l : List ℕ). t ∷ l)
    (ap (firsts t) (append_assoc (plain a) (plain b ++ (closes ∷ plain f)) ss)
    ∙ ap (λ (l : List Step). firsts t (plain a ++ l)) (append_assoc (plain b) (closes ∷ plain f) ss)
    ∙ firsts-plain a n (suc n) t (plain b ++ rest)
    ∙ ap (λ (l : List ℕ). map first_of first ++ l) (firsts-plain b n (suc n + length first) s rest)
    ∙ one-behind first second (firsts (s + length (leaves b)) rest)
    ∙ ap (λ (r : ℕ). map first_of (first ++ second) ++ firsts r rest) (omega (arith, length-append (leaves a) (leaves b)))
    ∙ behind-inner (first ++ second) (leaves a ++ leaves b) f p m t ss (firsts-plain f p m (t + length (leaves a ++ leaves b)) ss))

pub firsts-records : (f : Forest) → firsts 0 (plain f) ≡ map first_of (records f)
unfolding firsts records
firsts-records f = ap (firsts 0) (sym (append-nil (plain f))) ∙ firsts-plain f 0 0 0 [] ∙ append-nil (map first_of (records_from f 0 0 0))

-- THE EVENTS -----------------------------------------------------------------------------------------------------------

-- A chain only opens.
Opens : Step → Type 0
Opens (opens k) = Unit {0}
Opens (adds k) = ⊥
Opens closes = ⊥

chain-opens : (es : List Event) (n : ℕ) → Each Opens (chain es n)
unfolding chain Opens
chain-opens [] n = tt
chain-opens (start k zero ∷ es) zero = (tt, tt)
chain-opens (start k (suc m) ∷ es) zero = each_append Opens (chain es m) (opens k ∷ []) (chain-opens es m) (tt, tt)
chain-opens (token k ∷ es) zero = tt
chain-opens (finish ∷ es) zero = tt
chain-opens (error m ∷ es) zero = tt
chain-opens (start k up ∷ es) (suc n) = chain-opens es n
chain-opens (token k ∷ es) (suc n) = chain-opens es n
chain-opens (finish ∷ es) (suc n) = chain-opens es n
chain-opens (error m ∷ es) (suc n) = chain-opens es n

unused-opens : (b : Bool) (cs : List Step) → Each Opens cs → Each Opens (unused b cs)
unused-opens true cs h = tt
unused-opens false cs h = h

-- Nodes that open at one event, number i, where t tokens are taken and the event names g's token for them.
opened-together : (named g : ℕ → ℕ) (i t : ℕ) (cs ss : List Step) (is : List ℕ) → Each Opens cs → named i ≡ g t → map named is ≡ map g (firsts t ss) →
    map named (replicate (length cs) i ++ is) ≡ map g (firsts t (cs ++ ss))
unfolding Opens firsts
opened-together named g i t [] ss is o e h = h
opened-together named g i t (opens k ∷ cs) ss is o e h = ap₂ (λ (n : ℕ) (l : List ℕ). n ∷ l) e (opened-together named g i t cs ss is o.1 e h)
opened-together named g i t (adds k ∷ cs) ss is o e h = absurd o.0
opened-together named g i t (closes ∷ cs) ss is o e h = absurd o.0

-- Where each event names g's token for those taken before it, the events at which nodes open name g's for those that the steps count.
module _ (named g : ℕ → ℕ) where
  abbrev pub Naming : (i t : ℕ) → List Event → Type 0
  Naming i t es = (j : ℕ) → j < length es → named (i + j) ≡ g (t + taken (take j es))

  -- behind the first event
  naming_behind : (i t s : ℕ) (e : Event) (es : List Event) → t + taken (e ∷ []) ≡ s → Naming i t (e ∷ es) → Naming (suc i) s es
  naming_behind i t s e es d h j l = ap named (omega arith) ∙ h (suc j) (suc-le-suc l) ∙ ap g (omega (arith, d, taken-append (e ∷ []) (take j es)))

  pub opened-named : (used : ℕ → Bool) (i t : ℕ) (es : List Event) → Naming i t es → map named (opened_at used i es) ≡ map g (firsts t (steps used es))
  unfolding opened_at steps firsts taken
  opened-named used i t [] h = refl
  opened-named used i t (start k up ∷ es) h =
      let cs = chain (start k up ∷ es) 0 in
      let later : ℕ → Bool = λ n. eqb (suc n) up || used (suc n) in
      opened-together named g i t (unused (used 0) cs) (steps later es) (opened_at later (suc i) es)
      (unused-opens (used 0) cs (chain-opens (start k up ∷ es) 0))
      (ap named (omega arith) ∙ h 0 (omega arith) ∙ ap g (omega arith))
      (opened-named later (suc i) t es (naming_behind i t t (start k up) es (omega arith) h))
  opened-named used i t (token k ∷ es) h =
      opened-named (λ n. used (suc n)) (suc i) (suc t) es (naming_behind i t (suc t) (token k) es (omega arith) h)
  opened-named used i t (finish ∷ es) h =
      opened-named (λ n. used (suc n)) (suc i) t es (naming_behind i t t finish es (omega arith) h)
  opened-named used i t (error m ∷ es) h =
      opened-named (λ n. used (suc n)) (suc i) t es (naming_behind i t t (error m) es (omega arith) h)
