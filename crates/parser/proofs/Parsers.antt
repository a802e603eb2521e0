-- What steps of counters and event words are of parsers: what is lent stays lent, and readings over the same text join. The laws of Join, Levels,
-- Loops and the files beside them, which speak of counters and event words, are said here of parsers, under their names. Assumes nothing.
use Rattle.std.specs.Prelude.{Option, Some, None}
use Prim.Native.Nat.{ℕ, suc, ◌-◌, ◌≤◌, ◌<◌}
use native.Mathlib.Omega.{arith}
use mathlib.Core.Path.{◌≡◌, refl, sym, ap, subst, ◌∙◌}
use mathlib.Core.Bool.{Bool, true, false}
use mathlib.Core.List.{List, [], ◌∷◌}
use lib.ListN.{length}
use borrow.Author.Tests.{eqb-true, ne_eqb}
use Rattle.predictive.specs.Forest.{Fault, err, nil, message}
use Rattle.predictive.specs.Grammar.{Head, one, Choice, Part, tok, any, fail, seq, either, opt, until, inside, opens, many, rule, leaning, suffix}
use Rattle.predictive.specs.Reader.{Result, miss, done, expected, unmet, ones}
use Rattle.predictive.specs.Events.{start, token, error}
use Rattle.predictive.proofs.Takes.{takes, boxed}
use Rattle.predictive.proofs.Lookahead.{single}
use Rattle.aadl.specs.Encoding.{room as room_in}
use Rattle.aadl.specs.Symbols.{C_STYLE, shown}
use Rattle.aadl.specs.Section.{Rule, rules, firsts}
use Rattle.parser.specs.declared.Tokens.{Tokens}
use Rattle.parser.specs.declared.Parser.{Parser}
use Rattle.parser.specs.declared.Marker.{Marker}
use Rattle.parser.specs.declared.CompletedMarker.{CompletedMarker}
use Rattle.parser.specs.declared.Counters.{Counters}
use Rattle.parser.specs.Input.{Input, input, rest, nth}
use Rattle.parser.specs.Buffer.{room}
use Rattle.parser.specs.State.{State, state, one_more, moved_on, appended, push, halt, pass, enter, precede}
use Rattle.parser.specs.Reads.{stands, heads_of, reading_at, Ran, Read}
use Rattle.parser.specs.Parsers.{source, cursor, counters, moved_to, next_place, Same, stand, Steps, Opens, Closes, ReadsWithin, ReadsNodeWithin, ReadsOperandWithin}
use Rattle.parser.proofs.Pushing.{push-fits, pass-goes}
use Rattle.parser.proofs.Tests.{nth-goes, one-is}
use Rattle.parser.proofs.Join as J
use Rattle.parser.proofs.Taking as T
use Rattle.parser.proofs.Loops as W
use Rattle.parser.proofs.Separated as D
use Rattle.parser.proofs.Nodes as N
use Rattle.parser.proofs.Chains as C

-- WHAT IS LENT ---------------------------------------------------------------------------------------------------------

pub same : {p : Parser} → Same p p
same = record { text = refl; words = refl; events = refl }

pub same_then : {p q r : Parser} → Same p q → Same q r → Same p r
same_then x y = record { text = y.text ∙ x.text; words = y.words ∙ x.words; events = y.events ∙ x.events }

-- so both go over the same text and words
pub same-source : {p q : Parser} → Same p q → source q.tokens ≡ source p.tokens
same-source x = λ i. input ((x.text i).now) ((x.words i).now)

from : {p q : Parser} {d : ℕ} {P : Part Rule} {a : Counters} {b : List ℕ} {c : Counters} {e : List ℕ} → Same p q → Read (source q.tokens) d P a b c e →
    Read (source p.tokens) d P a b c e
from {d = d} {P = P} {a = a} {b = b} {c = c} {e = e} x y = subst (λ (inp : Input). Read inp d P a b c e) (same-source x) y

-- TOKENS ---------------------------------------------------------------------------------------------------------------

-- what stands ahead does not depend on what was counted
pub nth-uncounted : (inp : Input) (p : Parser) (n : ℕ) → p.stop ≡ 0 → nth inp (cursor p.tokens) n ≡ nth inp (counters p) n
unfolding rest
nth-uncounted inp p n h = nth-goes inp (cursor p.tokens) n refl ∙ sym (nth-goes inp (counters p) n h)

-- A parser has room for one more event, or for none.
pub fits : (p : Parser) → p.used < p.room → p.used < room p.events.now
unfolding room
fits p h = omega (arith, h, p.holds_so_many)

pub full : (p : Parser) → p.room ≤ p.used → room p.events.now ≤ p.used
unfolding room
full p h = omega (arith, h, p.holds_so_many)

-- A token is taken: its event is written, and the parser is at the next one.
pub takes-one : (p q : Parser) (k : ℕ) {t : Tokens} {n : ℕ} {h : q.room ≡ room_in (length q.events.now)} → p.stop ≡ 0 → p.used < room p.events.now → Steps (λ _. appended (token k)) p q →
    t ≡ moved_to (next_place p.tokens) p.tokens → n ≡ one_more p.taken →
    Steps (λ inp. enter inp (token k)) p
    (record {
      tokens = record { text = q.tokens.text; words = q.tokens.words; at = t.at; byte = t.byte };
      events = q.events;
      taken = n;
      used = q.used;
      left = q.left;
      stop = q.stop;
      room = q.room;
      holds_so_many = h;
    })
unfolding enter
takes-one p q k g l x e f =
    let inp = source p.tokens in
    let s = state (counters p) p.events.now in
    rw (e, f)
    (record {
      did = record {
        ran =
            ap (λ (u : State). state (moved_on (next_place p.tokens) (one_more p.taken) u.parser) u.words) x.did.ran
            ∙ sym (ap (pass inp) (push-fits (token k) s g l) ∙ pass-goes inp (appended (token k) s) g);
      };
      same = record { text = x.same.text; words = x.same.words; events = x.same.events };
    })

-- A token is passed and counted, with no event.
pub passes : (p : Parser) {t : Tokens} {n : ℕ} {h : p.room ≡ room_in (length p.events.now)} → p.stop ≡ 0 → t ≡ moved_to (next_place p.tokens) p.tokens → n ≡ one_more p.taken →
    Steps pass p
    (record { tokens = t; events = p.events; taken = n; used = p.used; left = p.left; stop = p.stop; room = p.room; holds_so_many = h })
passes p g e f =
    rw (e, f)
    (record { did = record { ran = sym (pass-goes (source p.tokens) (state (counters p) p.events.now) g) }; same = record { text = refl; words = refl; events = refl } })

-- ONE AFTER THE OTHER --------------------------------------------------------------------------------------------------

module _ {d : ℕ} {P : Part Rule} {p r : Parser} where
  pub r-same : {e : ℕ} {Q : Part Rule} →
      ((n : ℕ) → p.stop ≡ 0 → reading_at (source p.tokens) n d P (counters p) ≡ reading_at (source p.tokens) n e Q (counters p)) →
      ReadsWithin d P p r → ReadsWithin e Q p r
  r-same f x = record { did = J.r-same f x.did; same = x.same }

  pub read_left : ReadsWithin d P p r → r.left ≡ p.left
  read_left x = J.read_left x.did

  pub at_level : {e : ℕ} → d ≡ e → ReadsWithin d P p r → ReadsWithin e P p r
  at_level q x = record { did = J.at_level q x.did; same = x.same }

pub r-seq : {d : ℕ} {P Q : Part Rule} {p q r : Parser} → ReadsWithin d P p q → ReadsWithin d Q q r → ReadsWithin d (seq P Q) p r
r-seq x y = record { did = J.r-seq x.did (from x.same y.did); same = same_then x.same y.same }

-- CHOICES --------------------------------------------------------------------------------------------------------------

module _ {d : ℕ} {c : Choice} {P : Part Rule} {p : Parser} where
  pub r-opt_yes : {r : Parser} → stand (heads_of P) p ≡ true → ReadsWithin d P p r → ReadsWithin d (opt c P) p r
  r-opt_yes s x = record { did = J.r-opt_yes s x.did; same = x.same }

  pub r-opt_sure : {r : Parser} → stand (heads_of P) p ≡ true → ReadsWithin d (opt c P) p r → ReadsWithin d P p r
  r-opt_sure s x = record { did = J.r-opt_sure s x.did; same = x.same }

  -- the same before another part
  pub r-opt_first_sure : {Q : Part Rule} {r : Parser} → stand (heads_of P) p ≡ true → ReadsWithin d (seq (opt c P) Q) p r → ReadsWithin d (seq P Q) p r
  r-opt_first_sure s x = record { did = J.r-opt_first_sure s x.did; same = x.same }

  pub r-opt_no : stand (heads_of P) p ≡ false → ReadsWithin d (opt c P) p p
  r-opt_no s = record { did = J.r-opt_no s; same = same }

module _ {d : ℕ} {o : Choice} {P Q : Part Rule} {p r : Parser} where
  pub r-left : stand (heads_of P) p ≡ true → ReadsWithin d P p r → ReadsWithin d (either o P Q) p r
  r-left s x = record { did = J.r-left s x.did; same = x.same }

  pub r-right : stand (heads_of P) p ≡ false → ReadsWithin d Q p r → ReadsWithin d (either o P Q) p r
  r-right s x = record { did = J.r-right s x.did; same = x.same }

  pub r-opt_left : {c : Choice} → stand (heads_of P) p ≡ true → ReadsWithin d P p r → ReadsWithin d (opt c (either o P Q)) p r
  r-opt_left s x = record { did = J.r-opt_left s x.did; same = x.same }

  pub r-opt_right : {c : Choice} → stand (heads_of P) p ≡ false → ReadsWithin d (opt c Q) p r → ReadsWithin d (opt c (either o P Q)) p r
  r-opt_right s x = record { did = J.r-opt_right s x.did; same = x.same }

module _ {d k : ℕ} {P : Part Rule} {p r : Parser} where
  pub r-until_at_once : stand (one k ∷ []) p ≡ true → ReadsWithin d (tok unmet (k ∷ [])) p r → ReadsWithin d (until k P) p r
  r-until_at_once s x = record { did = J.r-until_at_once s x.did; same = x.same }

  pub r-until : {q : Parser} → stand (one k ∷ []) p ≡ false → ReadsWithin d P p q → ReadsWithin d (tok (expected k) (k ∷ [])) q r →
      ReadsWithin d (until k P) p r
  r-until s x y = record { did = J.r-until s x.did (from x.same y.did); same = same_then x.same y.same }

-- NODES ----------------------------------------------------------------------------------------------------------------

module _ {d k : ℕ} {P : Part Rule} {p q r t : Parser} {m : Marker} {c : CompletedMarker} where
  pub r-inside : Opens (push (start 0 0)) p m q → ReadsWithin d P q r → Closes m k r c t → ReadsWithin d (inside k P) p t
  r-inside x y z = record { did = J.r-inside x.did (from x.same y.did) z.did; same = same_then x.same (same_then y.same z.same) }

  pub n_inside : Opens (push (start 0 0)) p m q → ReadsWithin d P q r → Closes m k r c t → ReadsNodeWithin d (inside k P) p c t
  n_inside x y z = record { did = J.n_inside x.did (from x.same y.did) z.did; same = same_then x.same (same_then y.same z.same) }

pub n-same : {d e : ℕ} {P Q : Part Rule} {p r : Parser} {m : CompletedMarker} →
    ((n : ℕ) → p.stop ≡ 0 → reading_at (source p.tokens) n d P (counters p) ≡ reading_at (source p.tokens) n e Q (counters p)) →
    ReadsNodeWithin d P p m r → ReadsNodeWithin e Q p m r
n-same f x = record { did = record { reads = J.r-same f x.did.reads; mark = x.did.mark }; same = x.same }

pub n-reads : {d : ℕ} {P : Part Rule} {p r : Parser} {m : CompletedMarker} → ReadsNodeWithin d P p m r → ReadsWithin d P p r
n-reads x = record { did = x.did.reads; same = x.same }

-- OPENERS AND RULES ----------------------------------------------------------------------------------------------------

-- a parser with so many openers left
abbrev pub Holds : Parser → Type 0
Holds p = p.room ≡ room_in (length p.events.now)

abbrev pub left-at : ℕ → (p : Parser) → Holds p → Parser
left-at l p h = record { tokens = p.tokens; events = p.events; taken = p.taken; used = p.used; left = l; stop = p.stop; room = p.room; holds_so_many = h }

-- An opener, read with one opener fewer left.
pub r-opens : {P : Part Rule} {p r : Parser} {h : Holds p} {k : Holds r} → (p.left ≡ 0 → ⊥) →
    ReadsWithin (suc (p.left - 1)) P (left-at (p.left - 1) p h) r → ReadsWithin p.left (opens P) p (left-at p.left r k)
r-opens f x =
    record { did = J.r-opens f x.did; same = record { text = x.same.text; words = x.same.words; events = x.same.events } }

-- An opener too many.
pub r-deep : {P : Part Rule} {p r : Parser} → p.left ≡ 0 → Steps (λ _. halt 6) p r → ReadsWithin p.left (opens P) p r
r-deep e x = record { did = J.r-deep e x.did; same = x.same }

module _ {d : ℕ} (k : Rule) {p r : Parser} where
  pub r-rule : ReadsWithin d (rules k) p r → ReadsWithin (suc d) (rule k) p r
  r-rule x = record { did = J.r-rule k x.did; same = x.same }

  pub r-opt_rule : {o : Choice} → heads_of (rules k) ≡ firsts k → ReadsWithin d (opt o (rules k)) p r → ReadsWithin (suc d) (opt o (rule k)) p r
  r-opt_rule e x = record { did = J.r-opt_rule k e x.did; same = x.same }

-- ONE TOKEN ------------------------------------------------------------------------------------------------------------

-- a token that was taken as of the kind that stands
pub r-taken : {d k : ℕ} {p r : Parser} → k < 256 → stand (one k ∷ []) p ≡ true → Steps (λ inp. enter inp (token k)) p r → ReadsWithin d any p r
unfolding shown
r-taken {d} {k} {p} {r} l s x =
    let inp = source p.tokens in
    let e : nth inp (counters p) 0 ≡ k = eqb-true _ k (one-is inp (counters p) k l refl ∙ s) in
    let f : shown k ≡ k = rw (ne_eqb k C_STYLE (λ z. omega (arith, l, z))) refl in
    record {
      did = T.r-any (sym e) (λ z. omega (arith, l, z)) (subst (λ (j : ℕ). Ran (enter inp (token j)) (counters p) p.events.now (counters r) r.events.now) (sym f) x.did);
      same = x.same;
    }

module _ {d m : ℕ} {p r : Parser} where
  pub r-tok_yes : {ks : List ℕ} → stand (ones ks) p ≡ true → ReadsWithin d any p r → ReadsWithin d (tok m ks) p r
  r-tok_yes s x = record { did = T.r-tok_yes s x.did; same = x.same }

  pub r-node_head : {k : ℕ} {P : Part Rule} {ks : List ℕ} → stand (ones ks) p ≡ true → ReadsWithin d (inside k (seq any P)) p r →
      ReadsWithin d (inside k (seq (tok m ks) P)) p r
  r-node_head s x = record { did = T.r-node_head s x.did; same = x.same }

  pub r-message : {P : Part Rule} →
      ((n : ℕ) → p.stop ≡ 0 → done (err (message m) nil) (rest (source p.tokens) (counters p)) ≡ reading_at (source p.tokens) n d P (counters p)) →
      Steps (λ _. push (error (message m))) p r → ReadsWithin d P p r
  r-message f x = record { did = T.r-message f x.did; same = x.same }

  pub r-tok_no : {ks : List ℕ} → stand (ones ks) p ≡ false → Steps (λ _. push (error (message m))) p r → ReadsWithin d (tok m ks) p r
  r-tok_no s x = record { did = T.r-tok_no s x.did; same = x.same }

  pub r-fail : Steps (λ _. push (error (message m))) p r → ReadsWithin d (fail m) p r
  r-fail x = record { did = T.r-fail x.did; same = x.same }

-- what is read over the text of p is read over that of q
onto : {p q : Parser} {d : ℕ} {P : Part Rule} {a : Counters} {b : List ℕ} {c : Counters} {e : List ℕ} → Same p q → Read (source p.tokens) d P a b c e →
    Read (source q.tokens) d P a b c e
onto {d = d} {P = P} {a = a} {b = b} {c = c} {e = e} x y = subst (λ (inp : Input). Read inp d P a b c e) (sym (same-source x)) y

-- A token that stood before a Start.
module _ {d l : ℕ} {ks : List ℕ} {p q r : Parser} {m : Marker} where
  pub bumped_inside : Opens (push (start 0 0)) p m q → stand (ones ks) p ≡ true → ReadsWithin d any q r → ReadsWithin d (tok l ks) q r
  bumped_inside x s y = record { did = onto x.same (T.bumped_inside x.did s (from x.same y.did)); same = y.same }

  pub bumped_after : (n : ℕ) → Opens (precede n) p m q → stand (ones ks) p ≡ true → ReadsWithin d any q r → ReadsWithin d (tok l ks) q r
  bumped_after n x s y = record { did = onto x.same (T.bumped_after n x.did s (from x.same y.did)); same = y.same }

-- LOOPS ----------------------------------------------------------------------------------------------------------------

-- what there is to read
abbrev pub μ : Parser → ℕ
μ p = W.μ (source p.tokens) (counters p)

-- what stands at p stands there too by the text of the parser that a loop began with
by-first : {p q : Parser} (hs : List Head) {t : Bool} → Same p q → stand hs q ≡ t → stands (source p.tokens) hs (counters q) ≡ t
by-first {p} {q} hs {t} x s = subst (λ (inp : Input). stands inp hs (counters q) ≡ t) (same-source x) s

less : {p q : Parser} {n : ℕ} → Same p q → W.μ (source p.tokens) (counters q) < n → μ q < n
less {p} {q} {n} x y = subst (λ (inp : Input). W.μ inp (counters q) < n) (sym (same-source x)) y

pub w-less : {d : ℕ} {P : Part Rule} {p q : Parser} → takes P ≡ true → stand (heads_of P) p ≡ true → ReadsWithin d P p q → μ q < μ p
w-less t s x = less x.same (W.w-less t s x.did)

-- A loop over P stands at p that began at p₀.
pub record Turning (d : ℕ) (P : Part Rule) (p₀ p : Parser) : Type 0 where
  turns : W.Turning (source p₀.tokens) d P (counters p₀) p₀.events.now (counters p) p.events.now
  pub same : Same p₀ p

module _ {d : ℕ} {P : Part Rule} where
  pub w-holds : {p : Parser} → Turning d P p p
  w-holds = record { turns = W.w-holds; same = same }

  pub w-left : {p₀ p : Parser} → Turning d P p₀ p → p.left ≡ p₀.left
  w-left w = w.turns.left

  pub w-again : {p₀ p q : Parser} → takes P ≡ true → Turning d P p₀ p → stand (heads_of P) p ≡ true → ReadsWithin d P p q → Turning d P p₀ q
  w-again t w s x = record { turns = W.w-again t w.turns (by-first (heads_of P) w.same s) (from w.same x.did); same = same_then w.same x.same }

  pub w-done : {p₀ p : Parser} → Turning d P p₀ p → stand (heads_of P) p ≡ false → ReadsWithin d (many P) p₀ p
  w-done w s = record { did = W.w-done w.turns (by-first (heads_of P) w.same s); same = w.same }

-- A piece is due at p of a list that began at p₀.
pub record Due (d : ℕ) (P S : Part Rule) (p₀ p : Parser) : Type 0 where
  due : D.Due (source p₀.tokens) d P S (counters p₀) p₀.events.now (counters p) p.events.now
  pub same : Same p₀ p

module _ {d : ℕ} {P S : Part Rule} where
  pub due_first : {p : Parser} → Due d P S p p
  due_first = record { due = D.due_first; same = same }

  pub due-left : {p₀ p : Parser} → Due d P S p₀ p → p.left ≡ p₀.left
  due-left w = w.due.left

  module _ {p₀ p q : Parser} where
    pub due_again : {r : Parser} → takes (seq S P) ≡ true → Due d P S p₀ p → ReadsWithin d P p q → stand (heads_of (seq S P)) q ≡ true →
        ReadsWithin d S q r → Due d P S p₀ r
    due_again t w x s y =
        let z = same_then w.same x.same in
        record { due = D.due_again t w.due (from w.same x.did) (by-first (heads_of (seq S P)) z s) (from z y.did); same = same_then z y.same }

    pub due_done : Due d P S p₀ p → ReadsWithin d P p q → stand (heads_of (seq S P)) q ≡ false → ReadsWithin d (seq P (many (seq S P))) p₀ q
    due_done w x s =
        let z = same_then w.same x.same in
        record { did = D.due_done w.due (from w.same x.did) (by-first (heads_of (seq S P)) z s); same = z }

  -- so the measure of such a loop falls
  pub due_less : {p q r : Parser} → takes S ≡ true → ReadsWithin d P p q → stand (heads_of S) q ≡ true → ReadsWithin d S q r → μ r < μ p
  due_less t x s y = less (same_then x.same y.same) (D.due_less t x.did (by-first (heads_of S) x.same s) (from x.same y.did))

-- OPERANDS -------------------------------------------------------------------------------------------------------------

pub o-reads : {d : ℕ} {P : Part Rule} {p r : Parser} {o : Option CompletedMarker} → ReadsOperandWithin d P p o r → ReadsWithin d P p r
o-reads x = record { did = x.did.reads; same = x.same }

-- an opener, read with one opener fewer left
pub o_opens : {P : Part Rule} {p r : Parser} {h : Holds p} {k : Holds r} {o : Option CompletedMarker} → (p.left ≡ 0 → ⊥) →
    ReadsOperandWithin (suc (p.left - 1)) P (left-at (p.left - 1) p h) o r → ReadsOperandWithin p.left (opens P) p o (left-at p.left r k)
o_opens f x = record { did = N.o_opens f x.did; same = record { text = x.same.text; words = x.same.words; events = x.same.events } }

module _ {d : ℕ} {P : Part Rule} {p r : Parser} where
  -- A node whose Start was the first event.
  pub o_node : {m : CompletedMarker} (k : ℕ) (o : ℕ → Result) → ((n : ℕ) → p.stop ≡ 0 → reading_at (source p.tokens) n d P (counters p) ≡ boxed k (o n)) →
      ReadsNodeWithin d P p m r → ReadsOperandWithin d P p (Some m) r
  o_node k o e x = record { did = N.o_node k o e x.did.reads x.did.mark; same = x.same }

  -- No operand.
  pub o_none : (f : Fault) → ((n : ℕ) → p.stop ≡ 0 → reading_at (source p.tokens) n d P (counters p) ≡ miss f (rest (source p.tokens) (counters p))) →
      ReadsWithin d P p r → ReadsOperandWithin d P p None r
  o_none f e x = record { did = N.o_none f e x.did; same = x.same }

  -- The same by another part, read alike where the parser goes on.
  pub o_same : {e : ℕ} {Q : Part Rule} {o : Option CompletedMarker} →
      ((n : ℕ) → p.stop ≡ 0 → reading_at (source p.tokens) n d P (counters p) ≡ reading_at (source p.tokens) n e Q (counters p)) →
      ReadsOperandWithin d P p o r → ReadsOperandWithin e Q p o r
  o_same f x = record { did = N.o_same f x.did; same = x.same }

module _ {d k : ℕ} {P Q : Part Rule} {p₀ p : Parser} where
  -- Before a suffix nothing was read, or it does not stand; ..
  pub x-none : {c : Choice} → single P ≡ true → ReadsOperandWithin d P p₀ None p → ReadsWithin d (suffix c k P Q) p₀ p
  x-none s x = record { did = N.x-none s x.did; same = x.same }

  pub x-stay : {c : Choice} {m : CompletedMarker} → single P ≡ true → ReadsOperandWithin d P p₀ (Some m) p → stand (heads_of Q) p ≡ false →
      ReadsWithin d (suffix c k P Q) p₀ p
  x-stay a x s = record { did = N.x-stay a x.did (by-first (heads_of Q) x.same s); same = x.same }

  -- .. or it is read.
  pub x-turn : {c : Choice} {m : CompletedMarker} {i : Marker} {j : CompletedMarker} {q r t : Parser} → single P ≡ true →
      ReadsOperandWithin d P p₀ (Some m) p → stand (heads_of Q) p ≡ true → Opens (precede m.0) p i q → ReadsWithin d Q q r → Closes i k r j t →
      ReadsWithin d (suffix c k P Q) p₀ t
  x-turn a x s y z u =
      let v = same_then x.same y.same in
      record { did = N.x-turn a x.did (by-first (heads_of Q) x.same s) y.did (from v z.did) u.did; same = same_then v (same_then z.same u.same) }

-- CHAINS ---------------------------------------------------------------------------------------------------------------

-- A chain of operands stands at p that began at p₀, and its node's own Start is at m.
pub record Chaining (d k : ℕ) (P Q : Part Rule) (p₀ p : Parser) (m : ℕ) : Type 0 where
  chain : C.Chaining (source p₀.tokens) d k P Q (counters p₀) p₀.events.now (counters p) p.events.now m
  pub same : Same p₀ p

module _ {d k : ℕ} {P Q : Part Rule} {p₀ p : Parser} where
  pub c-none : single P ≡ true → ReadsOperandWithin d P p₀ None p → ReadsOperandWithin d (leaning k P Q) p₀ None p
  c-none s x = record { did = C.c-none s x.did; same = x.same }

  pub c-holds : {m : CompletedMarker} → single P ≡ true → ReadsOperandWithin d P p₀ (Some m) p → Chaining d k P Q p₀ p m.0
  c-holds s x = record { chain = C.c-holds s x.did; same = x.same }

  pub c-left : {m : ℕ} → Chaining d k P Q p₀ p m → p.left ≡ p₀.left
  c-left x = x.chain.left

  pub c-done : {m : CompletedMarker} → Chaining d k P Q p₀ p m.0 → stand (heads_of Q) p ≡ false → ReadsOperandWithin d (leaning k P Q) p₀ (Some m) p
  c-done x s = record { did = C.c-done x.chain (by-first (heads_of Q) x.same s); same = x.same }

  pub c-again : {q r t : Parser} {i : Marker} {j : CompletedMarker} (m : ℕ) → takes Q ≡ true → Chaining d k P Q p₀ p m → stand (heads_of Q) p ≡ true →
      Opens (precede m) p i q → ReadsWithin d Q q r → Closes i k r j t → Chaining d k P Q p₀ t j.0
  c-again m t x s y z u =
      let v = same_then x.same y.same in
      record { chain = C.c-again m t x.chain (by-first (heads_of Q) x.same s) y.did (from v z.did) u.did; same = same_then v (same_then z.same u.same) }

-- so the measure of its loop falls
pub c-less : {d k : ℕ} {Q : Part Rule} {p q r t : Parser} {i : Marker} {j : CompletedMarker} (m : ℕ) → takes Q ≡ true → stand (heads_of Q) p ≡ true →
    Opens (precede m) p i q → ReadsWithin d Q q r → Closes i k r j t → μ t < μ p
c-less m t s y z u = less (same_then y.same (same_then z.same u.same)) (C.c-less m t s y.did (from y.same z.did) u.did)
