-- The associations of a clean text: each starts at a Start of a PROPERTY_ASSOCIATION, behind the tokens taken before it, since no other node
-- of a derivation is one; and its constant comes to what the pass gives from there. Assumes nothing.
use Prim.Native.Nat.{ℕ, suc, ◌+◌}
use native.Mathlib.Omega.{arith}
use mathlib.Core.Path.{◌≡◌, refl, sym, ap, ◌∙◌}
use mathlib.Core.Bool.{true, false}
use mathlib.Core.List.{List, [], ◌∷◌, ◌++◌, append_assoc, append-nil, map}
use mathlib.Core.Option.{Option}
use lib.ListN.{length-append}
use lib.Dec.{eqb}
use borrow.Author.Tests.{not-true}
use Rattle.predictive.specs.Forest.{Forest, nil, leaf, err, node, wrap, leaves}
use Rattle.predictive.specs.Events.{Event, start, finish, events, behind_start}
use Rattle.predictive.specs.Grammar.{Derives, Many, d_seq, d_left, d_right, d_many, d_inside, m_nil, m_cons}
use Rattle.predictive.specs.Tree.{spell}
use Rattle.predictive.proofs.Tests.{◌and◌}
use Rattle.predictive.proofs.Bounds.{form_fits, forms-fit, part-fits}
use Rattle.predictive.proofs.Absent.{Absent, lacks, derives-absent}
use Rattle.predictive.proofs.Consumed.{count}
use Rattle.aadl.specs.Kinds.{PROPERTY_ASSOCIATION, #◌}
use Rattle.aadl.specs.declared.Limits.{Limits}
use Rattle.aadl.specs.Symbols.{shown, symbols}
use Rattle.aadl.specs.Section.{Rule, Expression, Negated, Operand, Classifier, rules, grammar, literal_association, literal_section}
use Rattle.aadl.specs.Reading.{Derivation, reads_cleanly, too_deep}
use Rattle.aadl.specs.Reading
use Rattle.aadl.specs.Values.{Association, associations, number_at}
use Rattle.aadl.specs.ValueCall.{associations_in, text_associations}
use Rattle.aadl.proofs.Lists.{Each}
use Rattle.aadl.proofs.Literal.{read-is_literal}
use Rattle.aadl.proofs.Demand3.{clean-exactly, spelled-derivation, derived-events, from-symbols}
use Rattle.aadl.proofs.NeverClean.{no_stop}
use Rattle.aadl.proofs.ValueCalls.{clean-by_test}
use Rattle.aadl.proofs.ValueTrees.{found-tree}
use Rattle.evaluator.proofs.Parts.{the_token}
use Rattle.evaluator.proofs.FirstValues.{Right, section-right}
use Rattle.value.specs.Starts.{starts_in}

-- STARTS IN A DERIVATION -----------------------------------------------------------------------------------------------

-- The events of a forest without an association.
absent-starts : (f : Forest) (up i j : ℕ) (es : List Event) → Absent (# PROPERTY_ASSOCIATION) f → j ≡ i + count f → starts_in i (events f up ++ es) ≡ starts_in j es
unfolding starts_in events leaves
absent-starts nil up i j es a e =
    let p : i ≡ j = omega (arith, e) in
    ap (λ (n : ℕ). starts_in n es) p
absent-starts (leaf k f) up i j es a e = absent-starts f 0 (suc i) j es a (omega (arith, e))
absent-starts (err m f) up i j es a e = absent-starts f 0 i j es a e
absent-starts (node k b f) up i j es a e =
    rw (append_assoc (events b 0) (finish ∷ events f 0) es, not-true (eqb k (# PROPERTY_ASSOCIATION)) a.0)
    (absent-starts b 0 i (i + count b) (finish ∷ (events f 0 ++ es)) a.1 refl
    ∙ absent-starts f 0 (i + count b) j es a.2 (omega (arith, e, length-append (leaves b) (leaves f))))
absent-starts (wrap k b c f) up i j es a e =
    let n = i + count b in
    ap (starts_in i)
    (append_assoc (events b (behind_start b) ++ (start k up ∷ events c 0)) (finish ∷ events f 0) es
    ∙ append_assoc (events b (behind_start b)) (start k up ∷ events c 0) (finish ∷ (events f 0 ++ es)))
    ∙ absent-starts b (behind_start b) i n (start k up ∷ (events c 0 ++ (finish ∷ (events f 0 ++ es)))) a.1 refl
    ∙ rw (not-true (eqb k (# PROPERTY_ASSOCIATION)) a.0)
    (absent-starts c 0 n (n + count c) (finish ∷ (events f 0 ++ es)) a.2 refl
    ∙ absent-starts f 0 (n + count c) j es a.3 (omega (arith, e, length-append (leaves b ++ leaves c) (leaves f), length-append (leaves b) (leaves c))))

rules-lack : (r : Rule) → lacks (# PROPERTY_ASSOCIATION) (rules r) ≡ true
unfolding part-fits forms-fit form_fits ◌and◌
rules-lack Expression = refl
rules-lack Negated = refl
rules-lack Operand = refl
rules-lack Classifier = refl

-- An association is one node, and has no other inside.
one-association : {g : Forest} {xs ys : List ℕ} → Derives grammar literal_association g xs ys →
    (h : Forest) × (g ≡ node (# PROPERTY_ASSOCIATION) h nil) × Absent (# PROPERTY_ASSOCIATION) h
unfolding part-fits forms-fit form_fits ◌and◌
one-association (d_inside {f = f} d) = (f, refl, derives-absent (# PROPERTY_ASSOCIATION) grammar rules-lack d refl)

module _ (number-of-token : ℕ → Option ℕ) where
  abbrev firsts : List Association → List ℕ
  firsts found = map (λ (a : Association). a.first) found

  many-starts : (i : ℕ) {f : Forest} {xs ys : List ℕ} → Many grammar literal_association f xs ys →
      firsts (associations number-of-token i f) ≡ starts_in i (events f 0 ++ (finish ∷ []))
  unfolding starts_in events associations
  many-starts i m_nil = refl
  many-starts i (m_cons {g = g} a b q) =
      let v = one-association a in
      let h = v.0 in
      rw (q, v.1)
      (ap (λ (l : List ℕ). i ∷ l)
      (many-starts (i + count h) b
      ∙ sym (absent-starts h 0 i (i + count h) (finish ∷ (events g 0 ++ (finish ∷ []))) v.2 refl)
      ∙ ap (starts_in i) (sym (append_assoc (events h 0) (finish ∷ events g 0) (finish ∷ [])))))

  -- For every derivation of a section: its events tell where its associations start.
  section-starts : {f : Forest} {xs ys : List ℕ} → Derives grammar literal_section f xs ys → firsts (associations number-of-token 0 f) ≡ starts_in 0 (events f 0)
  unfolding starts_in events associations shown
  section-starts (d_inside (d_seq t (d_left (d_seq u v r)) q)) = rw (q, r, (the_token t).1, (the_token u).1, (the_token v).1) refl
  section-starts (d_inside (d_seq {g = g} t (d_right (d_many m) n) q)) = rw (q, (the_token t).1, append-nil (associations number-of-token 1 g)) (many-starts 1 m)

-- A CLEAN READING ------------------------------------------------------------------------------------------------------

module _ (limits : Limits) (xs : List ℕ) (c : reads_cleanly limits xs ≡ true) where
  not_deep : too_deep limits xs ≡ false
  unfolding too_deep
  not_deep = no_stop (Reading.events limits xs) (clean-by_test limits xs c).no_error

  derivation : (t : Forest) × Derivation (map shown xs) t
  derivation = (clean-exactly limits xs not_deep).0 (clean-by_test limits xs c)

  -- the derivation's forest, which the literal grammar derives from the symbols too
  abbrev forest : Forest
  forest = derivation.1.0

  spelled : spell (Reading.events limits xs) ≡ derivation.0
  spelled = spelled-derivation limits xs derivation.0 not_deep derivation.1

  from-literal : Derives grammar literal_section forest xs []
  from-literal = (read-is_literal forest xs).0 (from-symbols derivation.1)

  -- the associations in the tree that the events spell are those of the forest
  as_spelled : (number-of-token : ℕ → Option ℕ) → associations number-of-token 0 (spell (Reading.events limits xs)) ≡ associations number-of-token 0 forest
  as_spelled number-of-token = ap (associations number-of-token 0) (spelled ∙ derivation.1.2) ∙ found-tree number-of-token 0 forest

-- A CLEAN TEXT ---------------------------------------------------------------------------------------------------------

-- Its events tell where its associations start.
pub text-starts : (limits : Limits) (text : List ℕ) → reads_cleanly limits (symbols text) ≡ true →
    map (λ (a : Association). a.first) (text_associations limits text) ≡ starts_in 0 (Reading.events limits (symbols text))
unfolding text_associations associations_in
text-starts limits text c =
    let xs = symbols text in
    ap (λ (l : List Association). map (λ (a : Association). a.first) l) (as_spelled limits xs c (number_at text))
    ∙ section-starts (number_at text) (from-literal limits xs c)
    ∙ ap (starts_in 0) (sym (derived-events limits xs (forest limits xs c) (not_deep limits xs c) (from-symbols (derivation limits xs c).1)))

-- What each comes to is what the pass gives from its start.
pub text-valued : (limits : Limits) (text : List ℕ) → reads_cleanly limits (symbols text) ≡ true →
    Each (Right (number_at text) (symbols text)) (text_associations limits text)
unfolding text_associations associations_in
text-valued limits text c =
    let xs = symbols text in
    rw (as_spelled limits xs c (number_at text)) (section-right (number_at text) xs (from-literal limits xs c))
