-- Pieces of lines: what a buffer takes, line by line; one piece and the lines behind it are all of them; and from piece to piece fewer lines are
-- left, until none is. Assumes nothing.
use Prim.Native.Nat.{ℕ, zero, suc, ◌+◌, ◌-◌, ◌≤◌, ◌<◌}
use native.Mathlib.Omega.{arith}
use mathlib.Core.Path.{◌≡◌, refl, sym, ap, ◌∙◌}
use mathlib.Core.Bool.{Bool, true, false, cond}
use mathlib.Core.List.{List, [], ◌∷◌, ◌++◌, append_assoc}
use lib.ListN.{length, get_or, take, drop, length-append, drop_of_length-le}
use lib.Seq.{sets, drop-cons}
use lib.Dec.{leb}
use borrow.Author.Tests.{le-leb, lt-leb}
use native.Mathlib.Numerals.{add-one}
use Rattle.aadl.specs.Encoding.{first_words}
use Rattle.parser.specs.Input.{Input, input}
use Rattle.writing.specs.declared.Writer.{Writer}
use Rattle.writing.specs.Written.{Wrote, Writes}
use Rattle.writing.proofs.WriteLaws.{sets_append, wrote-long, wrote_none, wrote_then, wrote-same, wrote-front}
use Rattle.listing.specs.declared.Position.{Position}
use Rattle.listing.specs.declared.Listing.{Listing}
use Rattle.listing_lines.specs.Lines.{line_room, line_of, first_line}
use Rattle.listing.specs.Positions.{step, lines_from}
use Rattle.listing.specs.Pieces.{joined, piece, behind, left, given, lines_at, Gave, Puts, GoesOn}

-- LINE BY LINE ---------------------------------------------------------------------------------------------------------

pub piece-more : (room : ℕ) (l : List ℕ) (ls : List (List ℕ)) → line_room ≤ room → piece room (l ∷ ls) ≡ l ++ piece (room - length l) ls
unfolding piece
piece-more room l ls h = rw (le-leb line_room room h) refl

pub behind_more : (room : ℕ) (l : List ℕ) (ls : List (List ℕ)) → line_room ≤ room → behind room (l ∷ ls) ≡ behind (room - length l) ls
unfolding behind
behind_more room l ls h = rw (le-leb line_room room h) refl

-- without room nothing is given
pub piece-full : (room : ℕ) (ls : List (List ℕ)) → room < line_room → piece room ls ≡ []
unfolding piece
piece-full room [] h = refl
piece-full room (l ∷ ls) h = rw (lt-leb line_room room h) refl

pub behind-full : (room : ℕ) (ls : List (List ℕ)) → room < line_room → behind room ls ≡ ls
unfolding behind
behind-full room [] h = refl
behind-full room (l ∷ ls) h = rw (lt-leb line_room room h) refl

-- nor where no line is left
pub piece-none : (room : ℕ) (ls : List (List ℕ)) → ls ≡ [] → piece room ls ≡ []
unfolding piece
piece-none room ls e = ap (piece room) e

pub behind-none : (room : ℕ) (ls : List (List ℕ)) → ls ≡ [] → behind room ls ≡ ls
unfolding behind
behind-none room ls e = ap (behind room) e ∙ sym e

-- the lines of words from one on: that of the first, and the others
pub lines_more : (inp : Input) (i : ℕ) (ws : List ℕ) (c : Position) → i < length ws →
    lines_from inp i (drop i ws) c ≡ line_of i (get_or ws i 0) c.spot.line c.spot.column ∷ lines_from inp (suc i) (drop (suc i) ws) (step inp (get_or ws i 0) c)
unfolding lines_from
lines_more inp i ws c h = ap (λ (us : List ℕ). lines_from inp i us c) (drop-cons ws i 0 h)

pub lines_none : (inp : Input) (i : ℕ) (ws : List ℕ) (c : Position) → length ws ≤ i → lines_from inp i (drop i ws) c ≡ []
unfolding lines_from
lines_none inp i ws c h = ap (λ (us : List ℕ). lines_from inp i us c) (drop_of_length-le ws {i = i} h)

-- what is left of a listing: the first line too, if it is not given
pub left-whole : (text ts es : List ℕ) (l : Listing) → l.begun ≡ false → first_line l.answer ∷ left text ts es (given l) ≡ left text ts es l
unfolding left
left-whole text ts es l e = sym (ap (λ (t : Bool). cond t (left text ts es (given l)) (first_line l.answer ∷ left text ts es (given l))) e)

-- A BUFFER IN THE FILLING ----------------------------------------------------------------------------------------------

-- Lines are written over a buffer from a place on, so far up to another place: what the buffer takes of those left makes up the whole piece.
pub record Filling (old : List ℕ) (from : ℕ) (lines : List (List ℕ)) (new : List ℕ) (at : ℕ) (rest : List (List ℕ)) : Type 0 where
  pub holds : sets new at (piece (length old - at) rest) ≡ sets old from (piece (length old - from) lines)
  pub ends : at + length (piece (length old - at) rest) ≡ from + length (piece (length old - from) lines)
  pub leaves : behind (length old - at) rest ≡ behind (length old - from) lines
  pub within : at ≤ length old
  pub long : length new ≡ length old

pub filling_starts : (old : List ℕ) (from : ℕ) (lines : List (List ℕ)) → from ≤ length old → Filling old from lines old from lines
filling_starts old from lines h = record { holds = refl; ends = refl; leaves = refl; within = h; long = refl }

module _ {old : List ℕ} {from : ℕ} {lines : List (List ℕ)} {new : List ℕ} {at : ℕ} {rest : List (List ℕ)} (f : Filling old from lines new at rest) where
  pub filling_more : (l : List ℕ) (ls : List (List ℕ)) {later : List ℕ} {next : ℕ} → rest ≡ l ∷ ls → line_room ≤ length old - at → length l ≤ line_room →
      Wrote new at l later next → Filling old from lines later next ls
  filling_more l ls {later} {next} e room h w =
      let left = length old - at in
      let n : next ≡ at + length l = omega (arith, w.ends, f.long) in
      let r : length old - next ≡ left - length l = omega (arith, n) in
      let p = ap (piece left) e ∙ piece-more left l ls room in
      let b = ap (behind left) e ∙ behind_more left l ls room in
      let split = sym (sets_append new at l (piece (left - length l) ls)) in
      record {
        holds = (λ i. sets (w.holds i) (n i) (piece (r i) ls)) ∙ split ∙ sym (ap (λ (bs : List ℕ). sets new at bs) p) ∙ f.holds;
        ends =
            (λ i. n i + length (piece (r i) ls))
            ∙ omega (arith, f.ends, ap length p, length-append l (piece (left - length l) ls));
        leaves = ap (λ (k : ℕ). behind k ls) r ∙ sym b ∙ f.leaves;
        within = omega (arith, n, room);
        long = wrote-long w ∙ f.long;
      }

  -- It ends where nothing more is taken.
  pub filling_done : piece (length old - at) rest ≡ [] → behind (length old - at) rest ≡ rest → Gave (length old - from) from lines old at rest new
  filling_done p b =
      record {
        wrote = record { ends = omega (arith, f.ends, ap length p, f.within); holds = sym (ap (λ (bs : List ℕ). sets new at bs) p) ∙ f.holds };
        whole = omega (arith, f.ends, ap length p, f.within);
        leaves = sym b ∙ f.leaves;
      }

  pub filling_full : length old - at < line_room → Gave (length old - from) from lines old at rest new
  filling_full h = filling_done (piece-full (length old - at) rest h) (behind-full (length old - at) rest h)

  pub filling_whole : rest ≡ [] → Gave (length old - from) from lines old at rest new
  filling_whole e = filling_done (piece-none (length old - at) rest e) (behind-none (length old - at) rest e)

-- A writer in the filling: it keeps to its bytes, and the listing stays what it is but for the event, which is told, and its position.
pub record Putting (lines : Listing → List (List ℕ)) (l : Listing) (w : Writer) (m : Listing) (v : Writer) (event : ℕ) : Type 0 where
  pub same : v.out.ghost_name ≡ w.out.ghost_name
  pub filling : Filling w.out.now w.at (lines l) v.out.now v.at (lines m)
  pub stays : GoesOn l m
  pub before : m.event ≡ event

pub putting_starts : (lines : Listing → List (List ℕ)) (l : Listing) (w : Writer) → Putting lines l w l w l.event
putting_starts lines l w = record { same = refl; filling = filling_starts w.out.now w.at (lines l) w.within; stays = record { stays = refl }; before = refl }

module _ (src toks words : List ℕ) {l m : Listing} {w v : Writer} {i : ℕ} (p : Putting (lines_at src toks words) l w m v i) where
  pub putting_more : (word : ℕ) (k : Position) {x : Writer} → i < length (first_words words) → word ≡ get_or (first_words words) i 0 → line_room ≤ length v.out.now - v.at →
      Writes v (line_of i word m.position.spot.line m.position.spot.column) x → length (line_of i word m.position.spot.line m.position.spot.column) ≤ line_room →
      k ≡ step (input src toks) word m.position →
      Putting (lines_at src toks words) l w (record { bytes = m.bytes; answer = m.answer; begun = m.begun; event = i + 1; position = k }) x (i + 1)
  putting_more word k h q room x fits e =
      let inp = input src toks in
      let ws = first_words words in
      let one = sym (add-one i) in
      let next = sym (e ∙ ap (λ (u : ℕ). step inp u m.position) q) in
      let split = (λ t. lines_from inp (p.before t) (drop (p.before t) ws) m.position) ∙ lines_more inp i ws m.position h
      ∙ (λ t. line_of i (sym q t) m.position.spot.line m.position.spot.column ∷ lines_from inp (one t) (drop (one t) ws) (next t)) in
      record {
        same = x.same ∙ p.same;
        filling = filling_more p.filling _ _ split (omega (arith, p.filling.long)) fits x.wrote;
        stays =
            (let e = p.stays.stays in
            record { stays = λ t. record { bytes = (e t).bytes; answer = (e t).answer; begun = (e t).begun; event = i + 1; position = k } });
        before = refl;
      }

  pub putting_full : length v.out.now - v.at < line_room → Puts (lines_at src toks words l) (lines_at src toks words m) w v
  putting_full h = record { same = p.same; gave = filling_full p.filling (omega (arith, p.filling.long)) }

  pub putting_whole : length (first_words words) ≤ i → Puts (lines_at src toks words l) (lines_at src toks words m) w v
  putting_whole h = record { same = p.same; gave = filling_whole p.filling (lines_none (input src toks) m.event (first_words words) m.position (omega (arith, p.before))) }

-- PIECES AS THEY ARE GIVEN ---------------------------------------------------------------------------------------------

-- The same of other lines that are equal.
pub gave-same : {room from : ℕ} {ls ms : List (List ℕ)} {old : List ℕ} {end : ℕ} {rest after : List (List ℕ)} {new : List ℕ} →
    Gave room from ls old end rest new → ls ≡ ms → rest ≡ after → Gave room from ms old end after new
gave-same {room} {from} {ls} {ms} {old} {end} {rest} {after} {new} g e r =
    record {
      wrote = wrote-same g.wrote (ap (piece room) e);
      whole = omega (arith, g.whole, ap (λ (xs : List (List ℕ)). length (piece room xs)) e);
      leaves = sym r ∙ g.leaves ∙ ap (behind room) e;
    }

-- A first line, and then a piece of the others behind it.
gave_after : {ls : List (List ℕ)} {old mid : List ℕ} {from at end : ℕ} {rest : List (List ℕ)} {new : List ℕ} (l : List ℕ) → line_room ≤ length old - from →
    length l ≤ line_room → Wrote old from l mid at → Gave (length mid - at) at ls mid end rest new → Gave (length old - from) from (l ∷ ls) old end rest new
gave_after {ls} {old} {mid} {from} {at} {end} {rest} {new} l room h w g =
    let n : at ≡ from + length l = omega (arith, w.ends) in
    let r : length mid - at ≡ length old - from - length l = omega (arith, n, wrote-long w) in
    let p = ap (λ (k : ℕ). l ++ piece k ls) r ∙ sym (piece-more (length old - from) l ls room) in
    record {
      wrote = wrote-same (wrote_then w g.wrote) p;
      whole = omega (arith, g.whole, n, wrote-long w, length-append l (piece (length mid - at) ls), ap length p);
      leaves = g.leaves ∙ ap (λ (k : ℕ). behind k ls) r ∙ sym (behind_more (length old - from) l ls room);
    }

-- without room for a line
gave-none : (ls : List (List ℕ)) (old : List ℕ) (from : ℕ) → from ≤ length old → length old - from < line_room → Gave (length old - from) from ls old from ls old
gave-none ls old from g h =
    let p = piece-full (length old - from) ls h in
    record {
      wrote = wrote-same (wrote_none old from from (omega arith)) (sym p);
      whole = omega (arith, ap length p);
      leaves = sym (behind-full (length old - from) ls h);
    }

-- The buffer's first bytes are the piece.
pub gave-front : {room : ℕ} {ls : List (List ℕ)} {old : List ℕ} {end : ℕ} {rest : List (List ℕ)} {new : List ℕ} →
    Gave room 0 ls old end rest new → take end new ≡ piece room ls
gave-front g = wrote-front g.wrote (omega (arith, g.whole))

-- The same of a writer.
pub puts-same : {ls ms rest : List (List ℕ)} {w v : Writer} → Puts ls rest w v → ls ≡ ms → Puts ms rest w v
puts-same p e = record { same = p.same; gave = gave-same p.gave e refl }

pub puts_after : {ls rest : List (List ℕ)} {w v x : Writer} {l : List ℕ} → line_room ≤ length w.out.now - w.at → length l ≤ line_room → Writes w l v → Puts ls rest v x →
    Puts (l ∷ ls) rest w x
puts_after {l = l} room h w p = record { same = p.same ∙ w.same; gave = gave_after l room h w.wrote p.gave }

pub puts_none : (ls : List (List ℕ)) (w : Writer) → length w.out.now - w.at < line_room → Puts ls ls w w
puts_none ls w h = record { same = refl; gave = gave-none ls w.out.now w.at w.within h }

-- FROM PIECE TO PIECE --------------------------------------------------------------------------------------------------

-- A piece and the lines behind it, end to end, are all lines.
pub piece-then_rest : (room : ℕ) (ls : List (List ℕ)) → piece room ls ++ joined (behind room ls) ≡ joined ls
unfolding piece behind
piece-then_rest room [] = refl
piece-then_rest room (l ∷ ls) = go (leb line_room room) (piece-then_rest (room - length l) ls)
  where
    go : (t : Bool) → piece (room - length l) ls ++ joined (behind (room - length l) ls) ≡ joined ls →
        cond t (l ++ piece (room - length l) ls) [] ++ joined (cond t (behind (room - length l) ls) (l ∷ ls)) ≡ l ++ joined ls
    go true e = append_assoc l (piece (room - length l) ls) (joined (behind (room - length l) ls)) ∙ ap (λ (bs : List ℕ). l ++ bs) e
    go false e = refl

behind-fewer : (room : ℕ) (ls : List (List ℕ)) → length (behind room ls) ≤ length ls
unfolding behind
behind-fewer room [] = omega arith
behind-fewer room (l ∷ ls) = go (leb line_room room) (behind-fewer (room - length l) ls)
  where
    go : (t : Bool) → length (behind (room - length l) ls) ≤ length ls → length (cond t (behind (room - length l) ls) (l ∷ ls)) ≤ suc (length ls)
    go true h = omega arith
    go false h = omega arith

-- What so many pieces are, end to end.
abbrev pub pieces : (room count : ℕ) → List (List ℕ) → List ℕ
pieces room zero ls = []
pieces room (suc n) ls = piece room ls ++ pieces room n (behind room ls)

-- With room for a line, as many pieces as there are lines are all of them.
pub pieces-are_all : (room count : ℕ) (ls : List (List ℕ)) → line_room ≤ room → length ls ≤ count → pieces room count ls ≡ joined ls
unfolding piece behind
pieces-are_all room zero [] h g = refl
pieces-are_all room zero (l ∷ ls) h g = absurd (omega arith)
pieces-are_all room (suc n) [] h g = pieces-are_all room n [] h (omega arith)
pieces-are_all room (suc n) (l ∷ ls) h g =
    let b = behind_more room l ls h in
    let fewer : length (behind room (l ∷ ls)) ≤ n = omega (arith, ap length b, behind-fewer (room - length l) ls) in
    ap (λ (bs : List ℕ). piece room (l ∷ ls) ++ bs) (pieces-are_all room n (behind room (l ∷ ls)) h fewer) ∙ piece-then_rest room (l ∷ ls)
