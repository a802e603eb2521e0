-- Numbers written one after the other, each after a space: one more, behind those that stand. Assumes nothing.
use Prim.Native.Nat.{ℕ, ◌+◌, ◌≤◌, ◌<◌}
use native.Mathlib.Numerals.{add-one}
use mathlib.Core.Path.{◌≡◌, refl, sym, ap, ◌∙◌}
use mathlib.Core.List.{List, [], ◌∷◌, ◌++◌, map, map-append, append-nil, append_assoc}
use lib.ListN.{length, get_or, take}
use lib.Seq.{take-suc, take_all}
use Rattle.aadl.specs.Listing.{decimal}
use Rattle.writing.specs.declared.Writer.{Writer}
use Rattle.writing.specs.Written.{Writes}
use Rattle.writing.proofs.WriteLaws.{writes_then, writes-same}
use Rattle.replay_lines.specs.Records.{spaced}

-- a number after a space
abbrev one : ℕ → List ℕ
one n = 32 ∷ decimal n

spaced-append : (ns : List ℕ) (n : ℕ) → spaced ns ++ one n ≡ spaced (ns ++ (n ∷ []))
spaced-append [] n = sym (append-nil (one n))
spaced-append (m ∷ ns) n = append_assoc (one m) (spaced ns) (one n) ∙ ap (λ (bs : List ℕ). one m ++ bs) (spaced-append ns n)

-- behind the numbers before it
pub spaced-more : {A : Type 0} {a b c : Writer} (value : A → ℕ) (ns : List A) (i k : ℕ) (n : A) → i < length ns → n ≡ get_or ns i n → k ≡ value n →
    Writes a (spaced (map value (take i ns))) b → Writes b (32 ∷ decimal k) c → Writes a (spaced (map value (take (i + 1) ns))) c
spaced-more {A} value ns i k n h e f w x =
    let front = map value (take i ns) in
    let more = take-suc ns i n h ∙ ap (λ (m : A). take i ns ++ (m ∷ [])) (sym e) in
    writes-same (writes_then w x)
    (spaced-append front k ∙ ap spaced (ap (λ (m : ℕ). front ++ (m ∷ [])) f ∙ sym (map-append value (take i ns) (n ∷ []))
    ∙ ap (map value) (sym more ∙ ap (λ (j : ℕ). take j ns) (sym (add-one i)))))

pub spaced-all : {A : Type 0} {a b : Writer} (value : A → ℕ) (ns : List A) (i : ℕ) → length ns ≤ i → Writes a (spaced (map value (take i ns))) b →
    Writes a (spaced (map value ns)) b
spaced-all {A} value ns i h w = writes-same w (ap (λ (ms : List A). spaced (map value ms)) (take_all i ns h))

-- words and numbers are their own values
pub map_same : (ns : List ℕ) → map (λ (n : ℕ). n) ns ≡ ns
map_same [] = refl
map_same (n ∷ ns) = ap (λ (ms : List ℕ). n ∷ ms) (map_same ns)
