-- Loops over pieces with separators between them, that read a piece first in each turn: `P`, then `S P` as often as `S` stands. The
-- invariant is that whoever reads the piece that is due has read a list from the loop's beginning on. Assumes nothing.
use Prim.Native.Nat.{ℕ, ◌<◌}
use native.Mathlib.Omega.{arith}
use mathlib.Core.Path.{◌≡◌, refl, ◌∙◌}
use mathlib.Core.Bool.{true, false}
use mathlib.Core.List.{List}
use lib.ListN.{length}
use Rattle.predictive.specs.Grammar.{Part, seq, many}
use Rattle.predictive.proofs.Takes.{takes}
use Rattle.aadl.specs.Section.{Rule}
use Rattle.parser.specs.declared.Counters.{Counters}
use Rattle.parser.specs.Input.{Input}
use Rattle.parser.specs.Reads.{stands, heads_of, Read}
use Rattle.parser.proofs.Join.{read_left, read-long, r-seq}
use Rattle.parser.proofs.Loops.{Turning, μ, w-holds, w-again, w-less, w-done, no_more_left}

-- A first piece was read, and pieces after it up to p.
record Listed (inp : Input) (d : ℕ) (P S : Part Rule) (p₀ : Counters) (b₀ : List ℕ) (p : Counters) (b : List ℕ) : Type 0 where
  q : Counters
  c : List ℕ
  one : Read inp d P p₀ b₀ q c
  more : Turning inp d (seq S P) q c p b

-- A piece is due at p.
pub record Due (inp : Input) (d : ℕ) (P S : Part Rule) (p₀ : Counters) (b₀ : List ℕ) (p : Counters) (b : List ℕ) : Type 0 where
  next : (q : Counters) (c : List ℕ) → Read inp d P p b q c → Listed inp d P S p₀ b₀ q c
  pub left : p.left ≡ p₀.left
  pub long : length b ≡ length b₀

module _ {inp : Input} {d : ℕ} {P S : Part Rule} where
  pub due_first : {p : Counters} {b : List ℕ} → Due inp d P S p b p b
  due_first = record { next = λ q c x. record { q = q; c = c; one = x; more = w-holds }; left = refl; long = refl }

  module _ {p₀ : Counters} {b₀ : List ℕ} {p : Counters} {b : List ℕ} {q : Counters} {c : List ℕ} where
    pub due_again : {r : Counters} {e : List ℕ} → takes (seq S P) ≡ true → Due inp d P S p₀ b₀ p b → Read inp d P p b q c →
        stands inp (heads_of (seq S P)) q ≡ true → Read inp d S q c r e → Due inp d P S p₀ b₀ r e
    due_again t w x s y =
        let l = w.next q c x in
        record {
          next = λ u f z. record { q = l.q; c = l.c; one = l.one; more = w-again t l.more s (r-seq y z) };
          left = read_left y ∙ read_left x ∙ w.left;
          long = read-long y ∙ read-long x ∙ w.long;
        }

    pub due_done : Due inp d P S p₀ b₀ p b → Read inp d P p b q c → stands inp (heads_of (seq S P)) q ≡ false → Read inp d (seq P (many (seq S P))) p₀ b₀ q c
    due_done w x s = let l = w.next q c x in r-seq l.one (w-done l.more s)

  -- so the measure of such a loop falls
  pub due_less : {p : Counters} {b : List ℕ} {q : Counters} {c : List ℕ} {r : Counters} {e : List ℕ} → takes S ≡ true → Read inp d P p b q c →
      stands inp (heads_of S) q ≡ true → Read inp d S q c r e → μ inp r < μ inp p
  due_less t x s y = omega (arith, no_more_left x, w-less t s y)
