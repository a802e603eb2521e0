-- 01's aside on message 1, as a law of the reading: "a keyword followed by COLON starts an association too, always with message 1", for
-- COLON is no arrow. Assumes nothing.
use Prim.Native.Nat.{ℕ}
use mathlib.Core.Path.{◌≡◌, refl, sym, ap, ◌∙◌}
use mathlib.Core.Bool.{Bool, true, false}
use mathlib.Core.List.{List, [], ◌∷◌, ◌++◌}
use lib.Dec.{eqb}
use Rattle.predictive.specs.Forest.{Fault, message, refusal, leaf, nil, node, err}
use Rattle.predictive.specs.Grammar.{at, has, Part}
use Rattle.predictive.specs.Notation.{◌·◌, maybe}
use Rattle.predictive.specs.Reader.{Result, done, after, beside, ones, twos, null, first, take_any, take_one, take_look, step, below, read}
use Rattle.predictive.specs.Events.{events_of, erring}
use Rattle.predictive.proofs.Tests.{never, or_true_r}
use Rattle.predictive.proofs.Heads.{in_l, at_end, at-twos}
use Rattle.predictive.proofs.Takes.{at-twos_both}
use Rattle.predictive.proofs.Faults.{faulty, amiss, amiss-after, amiss-beside, keeps_then, keeps_node}
use Rattle.predictive.proofs.EventLaws.{erring-reading}
use Rattle.aadl.specs.Kinds.{#◌, COLON, COLON_COLON, IDENT, PROPERTY_ASSOCIATION, PROPERTY_REF}
use Rattle.aadl.specs.Symbols.{shown}
use Rattle.aadl.specs.Section.{Rule, keywords, begun, property_name, property_ref, arrow, association_rest, read_association, grammar}

abbrev pub is-message : ℕ → Fault → Bool
is-message m (message n) = eqb n m
is-message m (refusal n) = false

module _ (bound d : ℕ) (inner : Rule → List ℕ → Result) where
  -- A name that stands is taken as any token is.
  pub name-stands : (m : ℕ) (xs : List ℕ) → at (first grammar (property_name m)) xs ≡ true → step grammar bound d inner (property_name m) xs ≡ take_any shown xs
  unfolding step first ones twos take_any take_one take_look
  name-stands m [] e = never (sym (at_end (twos keywords (# COLON))) ∙ e)
  name-stands m (x ∷ xs) e = go (eqb x (# IDENT)) refl
    where
      go : (t : Bool) → eqb x (# IDENT) ≡ t → step grammar bound d inner (property_name m) (x ∷ xs) ≡ take_any shown (x ∷ xs)
      go true q = rw q refl
      go false q = rw (q, at-twos_both keywords (# COLON) x xs (rw q at e)) refl

module _ (k : ℕ) (xs : List ℕ) (h : has keywords k ≡ true) where
  name-at : at (first grammar (property_name 3)) (k ∷ # COLON ∷ xs) ≡ true
  unfolding first ones
  name-at = or_true_r (eqb k (# IDENT)) _ (at-twos keywords (# COLON) k (# COLON ∷ xs) (rw h refl))

  starts-association : at (first grammar read_association) (k ∷ # COLON ∷ xs) ≡ true
  unfolding first null
  starts-association =
      let hs = first grammar (property_name 3) in
      in_l (hs ++ []) [] (k ∷ # COLON ∷ xs) (in_l hs [] (k ∷ # COLON ∷ xs) name-at)

  module _ (bound d : ℕ) (inner : Rule → List ℕ → Result) where
    -- the keyword is the whole name, and no arrow stands behind it
    ref_read : step grammar bound d inner (property_ref (property_name 3) (property_name 2)) (k ∷ # COLON ∷ xs)
        ≡ done (node (# PROPERTY_REF) (leaf (shown k) nil) nil) (# COLON ∷ xs)
    unfolding step first ones null take_any
    ref_read =
        ap (λ (r : Result). after (after r (λ f ys. beside f (step grammar bound d inner (maybe (begun COLON_COLON · property_name 2)) ys))) (λ f ys. done (node (# PROPERTY_REF) f nil) ys))
        (name-stands bound d inner 3 (k ∷ # COLON ∷ xs) name-at)

    no_arrow : (o : Part Rule) → amiss (is-message 1) (step grammar bound d inner (arrow · o) (# COLON ∷ xs)) ≡ true
    unfolding step take_one faulty
    no_arrow o = amiss-beside (is-message 1) (err (message 1) nil) refl (step grammar bound d inner o (# COLON ∷ xs))

    rest-amiss : amiss (is-message 1) (step grammar bound d inner association_rest (# COLON ∷ xs)) ≡ true
    rest-amiss = no_arrow _

    keyword_amiss : amiss (is-message 1) (step grammar bound d inner read_association (k ∷ # COLON ∷ xs)) ≡ true
    unfolding step
    keyword_amiss =
        ap (λ (r : Result). amiss (is-message 1) (after (after r (λ f ys. beside f (step grammar bound d inner association_rest ys))) (λ f ys. done (node (# PROPERTY_ASSOCIATION) f nil) ys))) ref_read
        ∙ amiss-after (is-message 1) _ (keeps_node (is-message 1) (# PROPERTY_ASSOCIATION)) _
        (amiss-after (is-message 1) _ (keeps_then (is-message 1) (node (# PROPERTY_REF) (leaf (shown k) nil) nil)) _ rest-amiss)

-- A keyword followed by COLON starts an association, always with message 1.
pub keyword_message_1 : (bound d k : ℕ) (xs : List ℕ) → has keywords k ≡ true →
    (at (first grammar read_association) (k ∷ # COLON ∷ xs) ≡ true)
    × (erring (is-message 1) (events_of (read grammar bound d read_association (k ∷ # COLON ∷ xs))) ≡ true)
unfolding read
keyword_message_1 bound d k xs h =
    let inner = below grammar bound d in
    (starts-association k xs h, erring-reading (is-message 1) (read grammar bound d read_association (k ∷ # COLON ∷ xs)) ∙ keyword_amiss k xs h bound d inner)
