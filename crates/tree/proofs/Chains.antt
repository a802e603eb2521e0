-- Laws of the chains that Starts open. A chain is as long as there are events at most, it is the chain of the events that are left
-- where it begins, and of first words it goes on by the last number of each: nothing for a word that is no Start, one link for a Start
-- with no forward parent, and for any other the chain where it points and then its own link. What a chain opens is read off from
-- its end: the last node's parent is the record before it. Each goes down the events, or the links. Assumes nothing.
use Prim.Native.Nat.{ℕ, zero, suc, ◌+◌, ◌≤◌, ◌<◌}
use native.Mathlib.Nat.{not-suc-le-zero, le_of_suc-le-suc}
use native.Mathlib.Omega.{arith}
use mathlib.Core.Path.{◌≡◌, refl, sym, ap, ◌∙◌}
use mathlib.Core.List.{List, [], ◌∷◌, ◌++◌, map}
use lib.ListN.{length, get_or, drop, length-append}
use lib.Seq.{drop-cons, drop-drop}
use Rattle.predictive.specs.Events.{Event, start, token, finish, error}
use Rattle.aadl.specs.Tokens.{kind_in}
use Rattle.aadl.specs.Encoding.{event_in, event_by, class_in, last_in}
use Rattle.aadl.specs.Records.{Record, of_node}
use Rattle.tree.specs.Walk.{Link, link, links, opened}

-- CHAINS OF EVENTS -----------------------------------------------------------------------------------------------------

-- What stands before the chain is passed over.
pub links-past : (i : ℕ) (e : Event) (es : List Event) (n : ℕ) → links i (e ∷ es) (suc n) ≡ links (suc i) es n
unfolding links
links-past i (start k up) es n = refl
links-past i (token k) es n = refl
links-past i finish es n = refl
links-past i (error m) es n = refl

pub links-length : (i : ℕ) (es : List Event) (n : ℕ) → length (links i es n) ≤ length es
unfolding links
links-length i [] n = omega arith
links-length i (start k zero ∷ es) zero = omega arith
links-length i (start k (suc m) ∷ es) zero = omega (arith, length-append (links (suc i) es m) (link i k ∷ []), links-length (suc i) es m)
links-length i (token k ∷ es) zero = omega arith
links-length i (finish ∷ es) zero = omega arith
links-length i (error m ∷ es) zero = omega arith
links-length i (e ∷ es) (suc n) = omega (arith, ap length (links-past i e es n), links-length (suc i) es n)

-- A chain that begins n events on is the chain of the events from there.
pub links-drop : (es : List Event) (i n : ℕ) → links i es n ≡ links (i + n) (drop n es) 0
unfolding links
links-drop [] i zero = refl
links-drop [] i (suc n) = refl
links-drop (e ∷ es) i zero = ap (λ (j : ℕ). links j (e ∷ es) 0) (omega arith)
links-drop (e ∷ es) i (suc n) = links-past i e es n ∙ links-drop es (suc i) n ∙ ap (λ (j : ℕ). links j (drop n es) 0) (omega arith)

-- Behind the events there is none.
pub links-none : (i : ℕ) (es : List Event) (n : ℕ) → length es ≤ n → links i es n ≡ []
unfolding links
links-none i [] n h = refl
links-none i (e ∷ es) zero h = absurd (not-suc-le-zero h)
links-none i (e ∷ es) (suc n) h = links-past i e es n ∙ links-none (suc i) es n (le_of_suc-le-suc h)

-- CHAINS OF WORDS ------------------------------------------------------------------------------------------------------

-- What is dropped of the events of words are the events of what is dropped.
pub drop_events : (n : ℕ) (ws : List ℕ) → drop n (map event_in ws) ≡ map event_in (drop n ws)
drop_events zero ws = refl
drop_events (suc n) [] = refl
drop_events (suc n) (w ∷ ws) = drop_events n ws

-- Event i is one of class c, with kind k and last number l.
word-other : (i c k l : ℕ) (es : List Event) → (c ≡ 0 → ⊥) → links i (event_by c k l ∷ es) 0 ≡ []
unfolding links
word-other i zero k l es h = absurd (h refl)
word-other i (suc zero) k l es h = refl
word-other i (suc (suc zero)) k l es h = refl
word-other i (suc (suc (suc c))) k l es h = refl

-- Event i is a Start with the forward parent l.
start-last : (i k l : ℕ) (es : List Event) → l ≡ 0 → links i (start k l ∷ es) 0 ≡ link i k ∷ []
unfolding links
start-last i k zero es h = refl
start-last i k (suc m) es h = absurd (omega arith)

start-more : (i k l : ℕ) (es : List Event) → (l ≡ 0 → ⊥) → links i (start k l ∷ es) 0 ≡ links i (start k l ∷ es) l ++ (link i k ∷ [])
unfolding links
start-more i k zero es h = absurd (h refl)
start-more i k (suc m) es h = refl

-- A word among others.
module _ (ws : List ℕ) (at : ℕ) (inside : at < length ws) where
  -- The events from it on.
  abbrev pub from-here : List Event
  from-here = event_in (get_or ws at 0) ∷ map event_in (drop (suc at) ws)

  pub events-from_here : drop at (map event_in ws) ≡ from-here
  events-from_here = drop_events at ws ∙ ap (λ (vs : List ℕ). map event_in vs) (drop-cons ws at 0 inside)

  links-here : (n : ℕ) → links 0 (map event_in ws) (at + n) ≡ links at from-here n
  links-here n =
      links-drop (map event_in ws) 0 (at + n)
      ∙ rw (← (drop-drop n at (map event_in ws)), events-from_here) (ap (λ (j : ℕ). links j (drop n from-here) 0) (omega arith))
      ∙ sym (links-drop from-here at n)

  links-first : links 0 (map event_in ws) at ≡ links at from-here 0
  links-first = ap (λ (n : ℕ). links 0 (map event_in ws) n) (omega arith) ∙ links-here 0

  start-here : class_in (get_or ws at 0) ≡ 0 → event_in (get_or ws at 0) ≡ start (kind_in (get_or ws at 0)) (last_in (get_or ws at 0))
  unfolding event_in
  start-here e = ap (λ (c : ℕ). event_by c (kind_in (get_or ws at 0)) (last_in (get_or ws at 0))) e

  pub links-other : (class_in (get_or ws at 0) ≡ 0 → ⊥) → links 0 (map event_in ws) at ≡ []
  unfolding event_in
  links-other h =
      let w = get_or ws at 0 in
      links-first ∙ word-other at (class_in w) (kind_in w) (last_in w) (map event_in (drop (suc at) ws)) h

  pub links-last : class_in (get_or ws at 0) ≡ 0 → last_in (get_or ws at 0) ≡ 0 → links 0 (map event_in ws) at ≡ link at (kind_in (get_or ws at 0)) ∷ []
  links-last e h =
      let w = get_or ws at 0 in
      let es = map event_in (drop (suc at) ws) in
      links-first
      ∙ ap (λ (v : Event). links at (v ∷ es) 0) (start-here e)
      ∙ start-last at (kind_in w) (last_in w) es h

  pub links-more : class_in (get_or ws at 0) ≡ 0 → (last_in (get_or ws at 0) ≡ 0 → ⊥)
      → links 0 (map event_in ws) at ≡ links 0 (map event_in ws) (at + last_in (get_or ws at 0)) ++ (link at (kind_in (get_or ws at 0)) ∷ [])
  links-more e h =
      let w = get_or ws at 0 in
      let es = map event_in (drop (suc at) ws) in
      links-first
      ∙ ap (λ (v : Event). links at (v ∷ es) 0) (start-here e)
      ∙ start-more at (kind_in w) (last_in w) es h
      ∙ ap (λ (v : Event). links at (v ∷ es) (last_in w) ++ (link at (kind_in w) ∷ [])) (sym (start-here e))
      ∙ ap (λ (ls : List Link). ls ++ (link at (kind_in w) ∷ [])) (sym (links-here (last_in w)))

  -- ls is what the chain holds before its own link: nothing, or the chain where the word points.
  abbrev pub BeforeOwn : List Link → Type 0
  BeforeOwn ls =
      (links 0 (map event_in ws) at ≡ ls ++ (link at (kind_in (get_or ws at 0)) ∷ []))
      × (1 ≤ length ls → links 0 (map event_in ws) (at + last_in (get_or ws at 0)) ≡ ls)

  by_last : class_in (get_or ws at 0) ≡ 0 → (l : ℕ) → last_in (get_or ws at 0) ≡ l → (ls : List Link) × BeforeOwn ls
  by_last e zero h = ([], (links-last e h, λ long. absurd (not-suc-le-zero long)))
  by_last e (suc m) h = (links 0 (map event_in ws) (at + last_in (get_or ws at 0)), (links-more e (λ z. omega arith), λ long. refl))

  pub links-step : class_in (get_or ws at 0) ≡ 0 → (ls : List Link) × BeforeOwn ls
  links-step e = by_last e (last_in (get_or ws at 0)) refl

-- Only a Start opens anything.
opens-start : (i c k l : ℕ) (es : List Event) → 1 ≤ length (links i (event_by c k l ∷ es) 0) → c ≡ 0
unfolding links
opens-start i zero k l es h = refl
opens-start i (suc zero) k l es h = absurd (not-suc-le-zero h)
opens-start i (suc (suc zero)) k l es h = absurd (not-suc-le-zero h)
opens-start i (suc (suc (suc c))) k l es h = absurd (not-suc-le-zero h)

stands_from : (i : ℕ) (ws : List ℕ) (at : ℕ) → 1 ≤ length (links i (map event_in ws) at) → (at < length ws) × (class_in (get_or ws at 0) ≡ 0)
unfolding links event_in
stands_from i [] at h = absurd (not-suc-le-zero h)
stands_from i (w ∷ ws) zero h = (omega arith, opens-start i (class_in w) (kind_in w) (last_in w) (map event_in ws) h)
stands_from i (w ∷ ws) (suc n) h =
    let rest = stands_from (suc i) ws n (omega (arith, ap length (links-past i (event_in w) (map event_in ws) n))) in
    (omega (arith, rest.0), rest.1)

-- Where a chain is not empty, a word stands, and it is a Start's.
pub links-stands : (ws : List ℕ) (at : ℕ) → 1 ≤ length (links 0 (map event_in ws) at) → (at < length ws) × (class_in (get_or ws at 0) ≡ 0)
links-stands ws at h = stands_from 0 ws at h

-- WHAT A CHAIN OPENS ---------------------------------------------------------------------------------------------------

pub length_opened : (p n t : ℕ) (ls : List Link) → length (opened p n t ls) ≡ length ls
length_opened p n t [] = refl
length_opened p n t (l ∷ ls) = ap suc (length_opened n (suc n) t ls)

-- The parent of the node that opens behind m others, in the open node p, where the next record is number n.
abbrev pub last-parent : (p n m : ℕ) → ℕ
last-parent p n zero = p
last-parent p n (suc m) = n + m

last-parent_next : (p n m : ℕ) → last-parent n (suc n) m ≡ last-parent p n (suc m)
last-parent_next p n zero = omega arith
last-parent_next p n (suc m) = omega arith

pub opened-snoc : (p n t : ℕ) (ls : List Link) (l : Link)
    → opened p n t (ls ++ (l ∷ [])) ≡ opened p n t ls ++ (of_node l.kind (last-parent p n (length ls)) t l.event ∷ [])
opened-snoc p n t [] l = refl
opened-snoc p n t (x ∷ ls) l =
    ap (λ (rs : List Record). of_node x.kind p t x.event ∷ rs)
    (opened-snoc n (suc n) t ls l
    ∙ ap (λ (q : ℕ). opened n (suc n) t ls ++ (of_node l.kind q t l.event ∷ [])) (last-parent_next p n (length ls)))
