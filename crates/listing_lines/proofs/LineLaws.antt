-- Where a word tells its event, its line is the listing's; a line is its fields one after the other; and no line is longer than its room. Assumes nothing.
use Prim.Native.Nat.{ℕ, zero, suc, ◌^◌, ◌≤◌, ◌<◌}
use native.Mathlib.Omega.{arith}
use mathlib.Core.Path.{◌≡◌, refl, sym, ap, ◌∙◌}
use mathlib.Core.Bool.{Bool, true, false, cond}
use mathlib.Core.List.{List, [], ◌∷◌, ◌++◌, append_assoc}
use lib.ListN.{length, take, length-append}
use lib.Dec.{eqb}
use borrow.Author.Tests.{eq-eqb, ne_eqb}
use Rattle.predictive.specs.Forest.{message}
use Rattle.predictive.specs.Events.{Event, error}
use Rattle.aadl.specs.declared.Answer.{Answer}
use Rattle.aadl.specs.Words.{bytes}
use Rattle.aadl.specs.declared.Limits.{Limits}
use Rattle.aadl.specs.Symbols.{symbols, start_of}
use Rattle.aadl.specs.Tokens.{kind_in}
use Rattle.aadl.specs.Encoding.{fields, event_word, event_by, event_in, class_in, last_in}
use Rattle.aadl.specs.Reading.{events}
use Rattle.aadl.specs.Listing.{decimal, line_after, column, row, letter, event_line, event_lines, listing_answer, listing}
use Rattle.aadl.proofs.Characters.{WellFormed}
use Rattle.aadl.proofs.WholeCharacters.{text-before_token}
use Rattle.positions.specs.declared.Spot.{Spot}
use Rattle.writing.proofs.DecimalLaws.{decimal-length}
use Rattle.listing_lines.specs.Lines.{header, line_of, refusal_line, first_line, line_room}
use Rattle.positions.specs.Spots.{first, spot_after}
use Rattle.positions.proofs.SpotLaws.{spot_of}

-- the event in a word of a class, and of a class above 2
pub event_by-class : (w c : ℕ) → class_in w ≡ c → event_in w ≡ event_by c (kind_in w) (last_in w)
unfolding event_in
event_by-class w c e = ap (λ (x : ℕ). event_by x (kind_in w) (last_in w)) e

pub event_by-high : (w : ℕ) → 3 ≤ class_in w → event_in w ≡ error (message (last_in w))
unfolding event_in
event_by-high w h = go (class_in w) h
  where
    go : (c : ℕ) → 3 ≤ c → event_by c (kind_in w) (last_in w) ≡ error (message (last_in w))
    go zero h = absurd (omega arith)
    go (suc zero) h = absurd (omega arith)
    go (suc (suc zero)) h = absurd (omega arith)
    go (suc (suc (suc c))) h = refl

event_line-is : (text : List ℕ) (n t : ℕ) (e : Event) → event_in (event_word e) ≡ e →
    line_of n (event_word e) (line_after 1 (take (start_of text t) text)) (column (take (start_of text t) text)) ≡ event_line text n t e
unfolding line_of event_line
event_line-is text n t e w =
    let bs = take (start_of text t) text in
    ap (λ (f : Event). row (decimal n ∷ letter f ∷ decimal (fields f).1 ∷ decimal (fields f).2 ∷ decimal (line_after 1 bs) ∷ decimal (column bs) ∷ [])) w

-- the same where the line and the column are those of the spot that a walk from the first place of a well-formed text reaches
pub event_line-at : (text : List ℕ) (n t : ℕ) (e : Event) (s : Spot) → event_in (event_word e) ≡ e → length text < 4294967295 →
    WellFormed text → s ≡ spot_after text first (start_of text t) → line_of n (event_word e) s.line s.column ≡ event_line text n t e
event_line-at text n t e s w h f q =
    let p = q ∙ spot_of text (start_of text t) h (text-before_token text t f) in
    (λ i. line_of n (event_word e) (p i).line (p i).column) ∙ event_line-is text n t e w

-- The whole listing, by the section call's answer: its first line, and the events' lines of an answer that refuses nothing.
pub listing-is : (limits : Limits) (text : List ℕ) (a : Answer) → a ≡ listing_answer limits text →
    listing limits text ≡ cond (eqb a.number 0) (header ++ event_lines text 0 0 (events limits (symbols text))) (refusal_line a.number a.place)
unfolding listing header refusal_line
listing-is limits text a e =
    ap (λ (b : Answer). cond (eqb b.number 0) (header ++ event_lines text 0 0 (events limits (symbols text))) (refusal_line b.number b.place)) (sym e)

pub first-is_header : (a : Answer) → a.number ≡ 0 → first_line a ≡ header
unfolding first_line
first-is_header a e = rw (eq-eqb a.number 0 e) refl

pub first-is_refusal : (a : Answer) → (a.number ≡ 0 → ⊥) → first_line a ≡ refusal_line a.number a.place
unfolding first_line
first-is_refusal a f = rw (ne_eqb a.number 0 f) refl

-- FIELDS ---------------------------------------------------------------------------------------------------------------

-- A line's fields, each with the byte after it, one after the other.
abbrev line-fields : (n : ℕ) → (x : List ℕ) → (k y l c : ℕ) → List ℕ
line-fields n x k y l c =
    ((((((decimal n ++ (44 ∷ [])) ++ x) ++ (44 ∷ [])) ++ (decimal k ++ (44 ∷ []))) ++ (decimal y ++ (44 ∷ []))) ++ (decimal l ++ (44 ∷ []))) ++ (decimal c ++ (10 ∷ []))

pub line-parts : (n w : ℕ) (x : List ℕ) (k y l c i j : ℕ) → x ≡ letter (event_in w) → k ≡ (fields (event_in w)).1 → y ≡ (fields (event_in w)).2 → i ≡ l → j ≡ c →
    line-fields n x k y i j ≡ line_of n w l c
unfolding line_of
line-parts n w x k y l c i j p q r s t =
    simp append_assoc (λ z. row (decimal n ∷ p z ∷ decimal (q z) ∷ decimal (r z) ∷ decimal (s z) ∷ decimal (t z) ∷ []))

abbrev pub refusal-fields : (n p : ℕ) → List ℕ
refusal-fields n p = (bytes "refused," ++ (decimal n ++ (44 ∷ []))) ++ (decimal p ++ (10 ∷ []))

pub refusal-parts : (n p : ℕ) → refusal-fields n p ≡ refusal_line n p
unfolding refusal_line
refusal-parts n p = simp append_assoc

-- NO LINE IS LONGER THAN ITS ROOM --------------------------------------------------------------------------------------

short : (n : ℕ) → n < 2 ^ 32 → length (decimal n) ≤ 10
short n h = decimal-length 10 n (omega arith) (omega arith) (omega arith)

long : (n : ℕ) → n < 2 ^ 64 → length (decimal n) ≤ 20
long n h = decimal-length 20 n (omega arith) (omega arith) h

pub line-fits : (n : ℕ) (x : ℕ) (k y l c : ℕ) → n < 2 ^ 64 → k < 2 ^ 32 → y < 2 ^ 32 → l < 2 ^ 32 → c < 2 ^ 32 → length (line-fields n (x ∷ []) k y l c) ≤ line_room
line-fits n x k y l c hn hk hy hl hc =
    simp length-append (omega (arith, long n hn, short k hk, short y hy, short l hl, short c hc))

pub refusal-fits : (n p : ℕ) → n < 2 ^ 32 → p < 2 ^ 64 → length (refusal-fields n p) ≤ line_room
refusal-fits n p hn hp = simp length-append (omega (arith, short n hn, long p hp))

pub header-fits : length header ≤ line_room
unfolding header
header-fits = omega arith

-- NOR IS ANY EMPTY -----------------------------------------------------------------------------------------------------

pub line-some : (n w l c : ℕ) → 1 ≤ length (line_of n w l c)
unfolding line_of
line-some n w l c = simp length-append (omega arith)

pub first_line-some : (a : Answer) → 1 ≤ length (first_line a)
unfolding first_line header refusal_line
first_line-some a = go (eqb a.number 0)
  where
    go : (t : Bool) → 1 ≤ length (cond t header (refusal_line a.number a.place))
    go true = omega arith
    go false = omega arith
