-- A name that may begin an association, as it is read, and two words in a row. Assumes nothing.
use Prim.Native.Nat.{ℕ}
use mathlib.Core.Path.{◌≡◌, refl, sym, ◌∙◌}
use mathlib.Core.Bool.{Bool, true, false, ◌&&◌}
use mathlib.Core.List.{List, [], ◌∷◌}
use lib.Dec.{eqb}
use Rattle.predictive.specs.Forest.{nil, err, message}
use Rattle.predictive.specs.Grammar.{is, at, has, any, pair, tok}
use Rattle.predictive.specs.Reader.{done, unmet, ones, twos, first, take_any, take_one, take_two, take_look, step, below, read}
use Rattle.predictive.specs.Events.{error}
use Rattle.predictive.proofs.Tests.{never, or_l, or_r}
use Rattle.predictive.proofs.Heads.{at-twos}
use Rattle.aadl.specs.Symbols.{shown}
use Rattle.aadl.specs.Section.{keywords, grammar, property_name}
use Rattle.aadl.proofs.Asides.{name-stands}
use Rattle.parser.specs.declared.Parser.{Parser}
use Rattle.parser.specs.Input.{rest}
use Rattle.parser.specs.State.{push}
use Rattle.parser.specs.Reads.{heads_of}
use Rattle.parser.specs.Parsers.{source, counters, stand, Steps, ReadsWithin}
use Rattle.parser.proofs.Join.{stands_at}
use Rattle.parser.proofs.Parsers.{r-same, r-seq, r-message}

-- Two words in a row are one after the other.
pub r-two : {d k l : ℕ} {p q r : Parser} → ReadsWithin d (tok unmet (k ∷ [])) p q → ReadsWithin d (tok unmet (l ∷ [])) q r → ReadsWithin d (pair k l) p r
unfolding read step take_two
r-two x y = r-same (λ n h. refl) (r-seq x y)

-- the name where it stands, and where it does not
name-yes : (n d m : ℕ) (xs : List ℕ) → at (heads_of (property_name m)) xs ≡ true → take_any shown xs ≡ read grammar n d (property_name m) xs
unfolding read
name-yes n d m xs e = sym (name-stands n d (below grammar n d) m xs e)

name-no : (n d m : ℕ) (xs : List ℕ) → at (heads_of (property_name m)) xs ≡ false → done (err (message m) nil) xs ≡ read grammar n d (property_name m) xs
unfolding read step first ones twos take_one take_look
name-no n d m [] e = refl
name-no n d m (x ∷ xs) e = go (has keywords x && is 6 xs) refl
  where
    go : (t : Bool) → (has keywords x && is 6 xs) ≡ t → done (err (message m) nil) (x ∷ xs) ≡ read grammar n d (property_name m) (x ∷ xs)
    go true q = never (sym (or_r (eqb x 33) (at (twos keywords 6) (x ∷ xs)) e) ∙ at-twos keywords 6 x xs q)
    go false q = rw (or_l (eqb x 33) (at (twos keywords 6) (x ∷ xs)) e, q) refl

module _ {d m : ℕ} {p r : Parser} where
  pub r-name_yes : stand (heads_of (property_name m)) p ≡ true → ReadsWithin d any p r → ReadsWithin d (property_name m) p r
  unfolding read step
  r-name_yes e x =
      let inp = source p.tokens in
      r-same (λ n h. name-yes n d m (rest inp (counters p)) (stands_at inp (heads_of (property_name m)) (counters p) e h)) x

  pub r-name_no : stand (heads_of (property_name m)) p ≡ false → Steps (λ _. push (error (message m))) p r → ReadsWithin d (property_name m) p r
  r-name_no e x =
      let inp = source p.tokens in
      r-message (λ n h. name-no n d m (rest inp (counters p)) (stands_at inp (heads_of (property_name m)) (counters p) e h)) x
