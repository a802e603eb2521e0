-- Bytes written one after the other are written at once, whether or not all of them have room. Assumes nothing.
use Prim.Native.Nat.{ℕ, suc, ◌+◌, ◌≤◌, min}
use native.Mathlib.Omega.{arith}
use mathlib.Core.Path.{◌≡◌, refl, sym, ap, subst, ◌∙◌}
use mathlib.Core.List.{List, [], ◌∷◌, ◌++◌}
use lib.ListN.{length, take, drop, set, length-append}
use lib.Seq.{sets, sets-eq, length-sets, set_out, take_at}
use Rattle.writing.specs.declared.Writer.{Writer}
use Rattle.writing.specs.Written.{Wrote, Writes}
use Rattle.writing.proofs.LeastLaws.{at_least}

-- STORES ---------------------------------------------------------------------------------------------------------------

pub sets_append : (l : List ℕ) (i : ℕ) (vs ws : List ℕ) → sets l i (vs ++ ws) ≡ sets (sets l i vs) (i + length vs) ws
sets_append l i [] ws = ap (λ (n : ℕ). sets l n ws) (omega arith)
sets_append l i (v ∷ vs) ws = sets_append (set l i v) (suc i) vs ws ∙ ap (λ (n : ℕ). sets (sets (set l i v) (suc i) vs) n ws) (omega arith)

-- behind the last place nothing is stored
pub sets_out : (l : List ℕ) (i : ℕ) (vs : List ℕ) → length l ≤ i → sets l i vs ≡ l
sets_out l i [] h = refl
sets_out l i (v ∷ vs) h = ap (λ (k : List ℕ). sets k (suc i) vs) (set_out l i v h) ∙ sets_out l (suc i) vs (omega arith)

-- so it does not matter how far behind it they would begin
sets_from : (l : List ℕ) (i : ℕ) (vs : List ℕ) → sets l (min i (length l)) vs ≡ sets l i vs
sets_from l i vs = at_least (λ (k : ℕ). sets l k vs) (length l) (λ k h. sets_out l k vs h ∙ sym (sets_out l (length l) vs (omega arith))) i

-- BYTES AFTER BYTES ----------------------------------------------------------------------------------------------------

pub wrote-long : {old vs new : List ℕ} {i n : ℕ} → Wrote old i vs new n → length new ≡ length old
wrote-long {old} {vs} {new} {i} {n} w = ap length w.holds ∙ length-sets old i vs

pub wrote_none : (old : List ℕ) (i n : ℕ) → n ≡ min i (length old) → Wrote old i [] old n
wrote_none old i n e = record { ends = omega arith; holds = refl }

pub wrote_then : {a b c vs ws : List ℕ} {i j k : ℕ} → Wrote a i vs b j → Wrote b j ws c k → Wrote a i (vs ++ ws) c k
wrote_then {a} {b} {c} {vs} {ws} {i} {j} {k} x y =
    let l = wrote-long x in
    let j-is : j ≡ min (i + length vs) (length b) = omega (arith, x.ends) in
    record {
      ends = omega (arith, x.ends, y.ends, length-append vs ws);
      holds =
          y.holds ∙ ap (λ (n : ℕ). sets b n ws) j-is ∙ sets_from b (i + length vs) ws
          ∙ ap (λ (l : List ℕ). sets l (i + length vs) ws) x.holds ∙ sym (sets_append a i vs ws);
    }

pub wrote-same : {a b vs ws : List ℕ} {i j : ℕ} → Wrote a i vs b j → vs ≡ ws → Wrote a i ws b j
wrote-same {a} {b} {vs} {ws} {i} {j} x e = subst (λ (bs : List ℕ). Wrote a i bs b j) e x

-- Where all have room, the buffer's front holds just them.
pub wrote-front : {old vs new : List ℕ} {n : ℕ} → Wrote old 0 vs new n → length vs ≤ length old → take n new ≡ vs
wrote-front {old} {vs} {new} {n} w h =
    ap (λ (l : List ℕ). take n l) (w.holds ∙ sets-eq vs old 0 (omega arith)) ∙ take_at vs (drop (0 + length vs) old) n (omega (arith, w.ends))

-- THE SAME OF A WRITER -------------------------------------------------------------------------------------------------

pub writes_then : {a b c : Writer} {vs ws : List ℕ} → Writes a vs b → Writes b ws c → Writes a (vs ++ ws) c
writes_then x y = record { same = y.same ∙ x.same; wrote = wrote_then x.wrote y.wrote }

pub writes-same : {a b : Writer} {vs ws : List ℕ} → Writes a vs b → vs ≡ ws → Writes a ws b
writes-same {a} {b} x e = subst (λ (bs : List ℕ). Writes a bs b) e x

-- no byte is put by none
pub writes_none : (w : Writer) → Writes w [] w
writes_none w = record { same = refl; wrote = wrote_none w.out.now w.at w.at (omega (arith, w.within)) }
