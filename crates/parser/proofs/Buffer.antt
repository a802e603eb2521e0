-- The laws of the lent event words: what is written has the length of what was there; a Start may be changed before or after events
-- are written behind it; and to change a Start that was just written is to write the changed one. All that is proved of words rests on
-- these. Assumes nothing.
use Prim.Native.Nat.{ℕ, ◌+◌, ◌-◌, ◌*◌, ◌/◌, ◌≤◌, ◌<◌}
use native.Mathlib.Omega.{arith}
use mathlib.Core.Path.{◌≡◌, refl, sym, ap, ap₂, ◌∙◌}
use mathlib.Core.Bool.{Bool, true, false}
use mathlib.Core.List.{List}
use lib.ListN.{length, get_or, set, length-set}
use lib.Dec.{ltb}
use lib.Seq.{set_out, set-set, set_comm, get_or-set_same, get_or-set_other}
use borrow.Author.Tests.{lt-ltb, le-ltb, ltb-true, ltb-false}
use Rattle.predictive.specs.Events.{Event, start}
use Rattle.aadl.specs.Limits.{most_events}
use Rattle.aadl.specs.Encoding.{event_word, words_for, cut_to_word}
use Rattle.parser.specs.declared.Counters.{Counters}
use Rattle.parser.specs.Buffer.{room, put, named, linked}
use Rattle.parser.specs.State.{with_left}

-- ROOM -----------------------------------------------------------------------------------------------------------------

pub room-same : (b c : List ℕ) → length c ≡ length b → room c ≡ room b
unfolding room
room-same b c e = omega (arith, e)

pub room_within : (b : List ℕ) → words_for (room b) ≤ length b
unfolding room
room_within b = omega arith

pub room_most : (b : List ℕ) → room b ≤ most_events
unfolding room
room_most b = omega arith

-- The first word of an event is there where the event's number is below half of the words, an odd last one being one of them.
pub first-there : (m n : ℕ) → ltb m (n - n / 2) ≡ ltb (words_for m) n
first-there m n = go (ltb m (n - n / 2)) refl
  where
    go : (t : Bool) → ltb m (n - n / 2) ≡ t → t ≡ ltb (words_for m) n
    go true e = sym (lt-ltb (words_for m) n (omega (arith, ltb-true m (n - n / 2) e)))
    go false e = sym (le-ltb (words_for m) n (omega (arith, ltb-false m (n - n / 2) e)))

pub first-stands : (m n : ℕ) {t : Bool} → t ≡ ltb (words_for m) n → t ≡ true → words_for m < n
first-stands m n e f = ltb-true (words_for m) n (sym e ∙ f)

-- WORDS ----------------------------------------------------------------------------------------------------------------

-- What the code stores: the word of the event and that of its token, of the Start of a kind, or with a forward parent; past the words nothing.
pub put-words : (p : Counters) (e : Event) (w v : ℕ) (b : List ℕ) → w ≡ event_word e → v ≡ cut_to_word p.at →
    set (set b (words_for p.used) w) (words_for p.used + 1) v ≡ put p e b
unfolding put
put-words p e w v b h g = ap₂ (λ (x y : ℕ). set (set b (words_for p.used) x) (words_for p.used + 1) y) h g

pub named-word : (m k w : ℕ) (b : List ℕ) → w ≡ event_word (start k 0) → set b (words_for m) w ≡ named m k b
unfolding named
named-word m k w b h = ap (set b (words_for m)) h

pub named-out : (m k : ℕ) (b : List ℕ) → length b ≤ words_for m → b ≡ named m k b
unfolding named
named-out m k b h = sym (set_out b (words_for m) (event_word (start k 0)) h)

pub linked-word : (m n w : ℕ) (b : List ℕ) → w ≡ get_or b (words_for m) 0 / 65536 * 65536 + n → set b (words_for m) w ≡ linked m n b
unfolding linked
linked-word m n w b h = ap (set b (words_for m)) h

pub linked-out : (m n : ℕ) (b : List ℕ) → length b ≤ words_for m → b ≡ linked m n b
unfolding linked
linked-out m n b h = sym (set_out b (words_for m) (get_or b (words_for m) 0 / 65536 * 65536 + n) h)

pub put-long : (p : Counters) (e : Event) (b : List ℕ) → length (put p e b) ≡ length b
unfolding put
put-long p e b =
    length-set (set b (words_for p.used) (event_word e)) (words_for p.used + 1) (cut_to_word p.at)
    ∙ length-set b (words_for p.used) (event_word e)

-- the openers left do not matter
pub put-raised : (l : ℕ) (p : Counters) (e : Event) (b : List ℕ) → put (with_left l p) e b ≡ put p e b
unfolding put
put-raised l p e b = refl

-- STARTS CHANGED WHERE THEY STAND --------------------------------------------------------------------------------------

-- The first word of an event and both words of another are three places.
apart : {m n : ℕ} → m < n → words_for n ≡ words_for m → ⊥
apart h q = omega (arith, q, h)

apart-second : (m n : ℕ) → words_for n + 1 ≡ words_for m → ⊥
apart-second m n q = omega (arith, q)

-- A first word may be stored before or after an event's two words.
put-over : (p : Counters) (e : Event) (m w : ℕ) (b : List ℕ) → m < p.used → put p e (set b (words_for m) w) ≡ set (put p e b) (words_for m) w
unfolding put
put-over p e m w b h =
    let i = words_for p.used in
    ap (λ (c : List ℕ). set c (i + 1) (cut_to_word p.at)) (sym (set_comm b i (words_for m) (event_word e) w (apart h)))
    ∙ sym (set_comm (set b i (event_word e)) (i + 1) (words_for m) (cut_to_word p.at) w (apart-second m p.used))

-- .. and is not one of them
put-elsewhere : (p : Counters) (e : Event) (m : ℕ) (b : List ℕ) → m < p.used → get_or (put p e b) (words_for m) 0 ≡ get_or b (words_for m) 0
unfolding put
put-elsewhere p e m b h =
    let i = words_for p.used in
    get_or-set_other (set b i (event_word e)) (i + 1) (words_for m) (cut_to_word p.at) 0 (λ q. apart-second m p.used (sym q))
    ∙ get_or-set_other b i (words_for m) (event_word e) 0 (λ q. apart h (sym q))

-- A change of the words that no event sees which is written behind event number m.
pub record Below (m : ℕ) (f : List ℕ → List ℕ) : Type 0 where
  pub long : (b : List ℕ) → length (f b) ≡ length b
  pub over : (p : Counters) (e : Event) (b : List ℕ) → m < p.used → put p e (f b) ≡ f (put p e b)

pub named-below : (m k : ℕ) → Below m (named m k)
unfolding named
named-below m k = record { long = λ b. length-set b (words_for m) (event_word (start k 0)); over = λ p e b h. put-over p e m (event_word (start k 0)) b h }

pub linked-below : (m n : ℕ) → Below m (linked m n)
unfolding linked
linked-below m n =
    record {
      long = λ b. length-set b (words_for m) (get_or b (words_for m) 0 / 65536 * 65536 + n);
      over = λ p e b h.
          put-over p e m (get_or b (words_for m) 0 / 65536 * 65536 + n) b h
          ∙ ap (λ (w : ℕ). set (put p e b) (words_for m) (w / 65536 * 65536 + n)) (sym (put-elsewhere p e m b h));
    }

-- The first word of the event that was just put, stored anew: the second word stays.
put-again : (p : Counters) (d e : Event) (b : List ℕ) → set (put p d b) (words_for p.used) (event_word e) ≡ put p e b
unfolding put
put-again p d e b =
    let i = words_for p.used in
    set_comm (set b i (event_word d)) (i + 1) i (cut_to_word p.at) (event_word e) (apart-second p.used p.used)
    ∙ ap (λ (c : List ℕ). set c (i + 1) (cut_to_word p.at)) (set-set b i (event_word d) (event_word e))

pub named-own : (p : Counters) (j up k : ℕ) (b : List ℕ) → named p.used k (put p (start j up) b) ≡ put p (start k 0) b
unfolding named
named-own p j up k b = put-again p (start j up) (start k 0) b

pub linked-own : (p : Counters) (k n : ℕ) (b : List ℕ) → p.used < room b → linked p.used n (put p (start k 0) b) ≡ put p (start k n) b
unfolding linked put room
linked-own p k n b h =
    let i = words_for p.used in
    let w = event_word (start k 0) in
    let own : get_or (put p (start k 0) b) i 0 ≡ w =
    get_or-set_other (set b i w) (i + 1) i (cut_to_word p.at) 0 (λ q. apart-second p.used p.used (sym q)) ∙ get_or-set_same b i w 0 (omega (arith, h)) in
    let link : get_or (put p (start k 0) b) i 0 / 65536 * 65536 + n ≡ event_word (start k n) = omega (arith, own) in
    ap (set (put p (start k 0) b) i) link ∙ put-again p (start k 0) (start k n) b
