-- Symbols that are shown alike are derived alike, where no derivation looks at them. The test `blind` says of a part that it names
-- none of these odd kinds, and every other kind is shown by itself alone; so the part derives the same from symbols and from the
-- kinds that they show. By induction over the derivation, once in each direction. Assumes nothing.
use Prim.Native.Nat.{ℕ, zero, suc}
use mathlib.Core.Path.{◌≡◌, refl, sym, ap, ap₂, subst, ◌∙◌}
use mathlib.Core.Logic.{◌↔◌}
use mathlib.Core.Bool.{Bool, true, false, cond, not, ◌&&◌, ◌||◌}
use mathlib.Core.List.{List, [], ◌∷◌, ◌++◌, map, nil≢cons, cons≢nil, head-eq_of_cons-eq, tail-eq_of_cons-eq}
use mathlib.Core.Option.{Option}
use lib.Dec.{eqb}
use lib.ListN.{length, drop}
use borrow.Author.Tests.{eqb-true, eq-eqb, not-true}
use Rattle.predictive.specs.Forest.{Forest, leaf, nil}
use Rattle.predictive.specs.Grammar.{Head, one, two, all, is, starts, at, has, Form, kinds_of, stand, longer, best, Choice, free, unless, May, Part, tok, pair, look, any, longest, wrong, fail, seq, either, opt, many, until, inside, suffix, leaning, before, opens, rule, Grammar}
use Rattle.predictive.specs.Grammar.{Derives, Many, Leaning, d_tok, d_pair, d_look, d_any, d_any_end, d_longest, d_no_form, d_seq, d_left, d_right, d_some, d_none, d_many, d_until, d_at_once, d_inside, d_alone, d_with, d_leaning, d_before, d_opens, d_rule, m_nil, m_cons, l_one, l_more}
use Rattle.predictive.proofs.Tests.{◌and◌, left, right}
use Rattle.predictive.proofs.Heads.{drop_append, best-splits}

-- THE TEST -------------------------------------------------------------------------------------------------------------

-- None of the kinds is odd; then of those in heads, choices and forms.
unfoldable pub blind-kinds : (odd : List ℕ) → List ℕ → Bool
blind-kinds odd [] = true
blind-kinds odd (k ∷ ks) = not (has odd k) and blind-kinds odd ks

unfoldable pub blind-head : (odd : List ℕ) → Head → Bool
blind-head odd (one k) = not (has odd k)
blind-head odd (two k l) = not (has odd k) and not (has odd l)
blind-head odd all = true

unfoldable pub blind-heads : (odd : List ℕ) → List Head → Bool
unfolding blind-head
blind-heads odd [] = true
blind-heads odd (h ∷ hs) = blind-head odd h and blind-heads odd hs

unfoldable pub blind-choice : (odd : List ℕ) → Choice → Bool
unfolding blind-heads
blind-choice odd free = true
blind-choice odd (unless hs) = blind-heads odd hs

unfoldable pub blind-forms : (odd : List ℕ) → List Form → Bool
unfolding blind-kinds
blind-forms odd [] = true
blind-forms odd (c ∷ cs) = blind-kinds odd (kinds_of c) and blind-forms odd cs

-- None of the kinds that a derivation of the part looks at is odd. What derives nothing looks at none; the rules are tested by
-- themselves.
unfoldable pub blind : {R : Type 0} → (odd : List ℕ) → Part R → Bool
unfolding blind-kinds blind-heads blind-choice blind-forms
blind odd (tok m ks) = blind-kinds odd ks
blind odd (pair k l) = not (has odd k) and not (has odd l)
blind odd (look m ks l) = blind-kinds odd ks and not (has odd l)
blind odd any = true
blind odd (longest cs) = blind-forms odd cs
blind odd (wrong x k m) = true
blind odd (fail m) = true
blind odd (seq p q) = blind odd p and blind odd q
blind odd (either c p q) = blind-choice odd c and (blind odd p and blind odd q)
blind odd (opt c p) = blind-choice odd c and blind odd p
blind odd (many p) = blind odd p
blind odd (until k p) = not (has odd k) and blind odd p
blind odd (inside k p) = blind odd p
blind odd (suffix c k p q) = blind-choice odd c and (blind odd p and blind odd q)
blind odd (leaning k p q) = blind odd p and blind odd q
blind odd (before hs p) = blind-heads odd hs and blind odd p
blind odd (opens p) = blind odd p
blind odd (rule r) = true

drop_map : (g : ℕ → ℕ) (n : ℕ) (xs : List ℕ) → drop n (map g xs) ≡ map g (drop n xs)
drop_map g zero xs = refl
drop_map g (suc n) [] = refl
drop_map g (suc n) (x ∷ xs) = drop_map g n xs

leaf-as : {h : Forest} {k l : ℕ} → h ≡ leaf k nil → k ≡ l → h ≡ leaf l nil
leaf-as i e = i ∙ ap (λ (k : ℕ). leaf k nil) e

-- A kind that is not odd is shown by itself and by no other symbol.
module _ (G : Grammar) (odd : List ℕ) (keeps : (x k : ℕ) → has odd k ≡ false → eqb (G.shown x) k ≡ eqb x k) where
  abbrev shown-all : List ℕ → List ℕ
  shown-all xs = map G.shown xs

  -- WHAT STANDS, STANDS AS IT IS SHOWN ---------------------------------------------------------------------------------

  eqb_shown : (x k : ℕ) → not (has odd k) ≡ true → eqb (G.shown x) k ≡ eqb x k
  eqb_shown x k b = keeps x k (not-true (has odd k) b)

  is-shown : (k : ℕ) (xs : List ℕ) → not (has odd k) ≡ true → is k (shown-all xs) ≡ is k xs
  is-shown k [] b = refl
  is-shown k (x ∷ xs) b = eqb_shown x k b

  has-shown : (ks : List ℕ) (x : ℕ) → blind-kinds odd ks ≡ true → has ks (G.shown x) ≡ has ks x
  unfolding blind-kinds
  has-shown [] x b = refl
  has-shown (k ∷ ks) x b = ap₂ (λ (s t : Bool). s || t) (eqb_shown x k (left _ _ b)) (has-shown ks x (right _ _ b))

  starts-shown : (h : Head) (xs : List ℕ) → blind-head odd h ≡ true → starts h (shown-all xs) ≡ starts h xs
  unfolding blind-head
  starts-shown (one k) xs b = is-shown k xs b
  starts-shown (two k l) [] b = refl
  starts-shown (two k l) (x ∷ xs) b = ap₂ (λ (s t : Bool). s && t) (eqb_shown x k (left _ _ b)) (is-shown l xs (right _ _ b))
  starts-shown all [] b = refl
  starts-shown all (x ∷ xs) b = refl

  at-shown : (hs : List Head) (xs : List ℕ) → blind-heads odd hs ≡ true → at hs (shown-all xs) ≡ at hs xs
  unfolding blind-heads
  at-shown [] xs b = refl
  at-shown (h ∷ hs) xs b = ap₂ (λ (s t : Bool). s || t) (starts-shown h xs (left _ _ b)) (at-shown hs xs (right _ _ b))

  stand-shown : (ks xs : List ℕ) → blind-kinds odd ks ≡ true → stand ks (shown-all xs) ≡ stand ks xs
  unfolding blind-kinds
  stand-shown [] xs b = refl
  stand-shown (k ∷ ks) [] b = refl
  stand-shown (k ∷ ks) (x ∷ xs) b = ap₂ (λ (s t : Bool). s && t) (eqb_shown x k (left _ _ b)) (stand-shown ks xs (right _ _ b))

  best-shown : (cs : List Form) (xs : List ℕ) → blind-forms odd cs ≡ true → best cs (shown-all xs) ≡ best cs xs
  unfolding blind-forms best
  best-shown [] xs b = refl
  best-shown (c ∷ cs) xs b =
      ap₂ (λ (t : Bool) (o : Option Form). cond t (longer c o) o) (stand-shown (kinds_of c) xs (left _ _ b)) (best-shown cs xs (right _ _ b))

  may_shown : (c : Choice) (xs : List ℕ) → blind-choice odd c ≡ true → May c (shown-all xs) ↔ May c xs
  unfolding blind-choice
  may_shown free xs b = (λ m. m, λ m. m)
  may_shown (unless hs) xs b = (λ m. sym (at-shown hs xs b) ∙ m, λ m. at-shown hs xs b ∙ m)

  -- a kind that is not odd is shown as itself
  kind-shown : (k : ℕ) → not (has odd k) ≡ true → G.shown k ≡ k
  kind-shown k b = eqb-true (G.shown k) k (eqb_shown k k b ∙ eq-eqb k k refl)

  -- BACK FROM WHAT IS SHOWN --------------------------------------------------------------------------------------------

  none-shown : (xs : List ℕ) → [] ≡ shown-all xs → xs ≡ []
  none-shown [] e = refl
  none-shown (x ∷ xs) e = absurd (nil≢cons e)

  -- xs is a symbol that is shown as u, and symbols that are shown as us.
  record Split (u : ℕ) (us xs : List ℕ) : Type 0 where
    head : ℕ
    tail : List ℕ
    whole : xs ≡ head ∷ tail
    head-shown : u ≡ G.shown head
    tail-shown : us ≡ shown-all tail

  split : {u : ℕ} {us : List ℕ} (xs : List ℕ) → u ∷ us ≡ shown-all xs → Split u us xs
  split [] e = absurd (cons≢nil e)
  split (x ∷ xs) e = record { head = x; tail = xs; whole = refl; head-shown = head-eq_of_cons-eq e; tail-shown = tail-eq_of_cons-eq e }

  -- What is shown as a kind that is not odd is this kind.
  kind-first : {k : ℕ} {us xs : List ℕ} (s : Split k us xs) → not (has odd k) ≡ true → xs ≡ k ∷ s.tail
  kind-first {k} {us} {xs} s b =
      let shown-equal = eq-eqb (G.shown s.head) k (sym s.head-shown) in
      s.whole ∙ ap (λ (x : ℕ). x ∷ s.tail) (eqb-true s.head k (sym (eqb_shown s.head k b) ∙ shown-equal))

  has-recovered : {u : ℕ} {us xs : List ℕ} (ks : List ℕ) (s : Split u us xs) → blind-kinds odd ks ≡ true → has ks u ≡ true →
      has ks s.head ≡ true
  has-recovered ks s b h = sym (has-shown ks s.head b) ∙ ap (has ks) (sym s.head-shown) ∙ h

  best-recovered : {us : List ℕ} (cs : List Form) (xs : List ℕ) → blind-forms odd cs ≡ true → us ≡ shown-all xs → best cs xs ≡ best cs us
  best-recovered cs xs b e = sym (ap (best cs) e ∙ best-shown cs xs b)

  may_recovered : {us : List ℕ} (c : Choice) (xs : List ℕ) → blind-choice odd c ≡ true → us ≡ shown-all xs → May c us → May c xs
  may_recovered c xs b e m = (may_shown c xs b).0 (subst (λ (t : List ℕ). May c t) e m)

  -- A derivation down to vs has come back to the symbols: they derive the same, down to a rest that is shown as vs.
  record Back (D : List ℕ → List ℕ → Type 0) (xs vs : List ℕ) : Type 0 where
    rest : List ℕ
    rest-shown : vs ≡ shown-all rest
    derived : D xs rest

  back : {D : List ℕ → List ℕ → Type 0} {vs xs zs : List ℕ} (ys : List ℕ) → vs ≡ shown-all ys → xs ≡ zs → D zs ys → Back D xs vs
  back {D} ys e s d = record { rest = ys; rest-shown = e; derived = subst (λ (t : List ℕ). D t ys) (sym s) d }

  onto : {D E : List ℕ → List ℕ → Type 0} {xs vs : List ℕ} → Back D xs vs →
      ((ys : List ℕ) → vs ≡ shown-all ys → D xs ys → E xs ys) → Back E xs vs
  onto r t = record { rest = r.rest; rest-shown = r.rest-shown; derived = t r.rest r.rest-shown r.derived }

  -- what comes back from vs goes on from its rest
  joined : {C D E : List ℕ → List ℕ → Type 0} {xs vs ws : List ℕ} → Back C xs vs → ((ys : List ℕ) → vs ≡ shown-all ys → Back D ys ws) →
      ((ys zs : List ℕ) → C xs ys → D ys zs → E xs zs) → Back E xs ws
  joined r s t =
      let next = s r.rest r.rest-shown in
      record { rest = next.rest; rest-shown = next.rest-shown; derived = t r.rest next.rest r.derived next.derived }

  -- What is shown is shown as itself, and no rule looks at an odd kind.
  module _ (again : (x : ℕ) → G.shown (G.shown x) ≡ G.shown x) (rules-blind : (r : G.Rule) → blind odd (G.rules r) ≡ true) where
    shown-head : {u : ℕ} {us xs : List ℕ} (s : Split u us xs) → G.shown u ≡ G.shown s.head
    shown-head s = ap G.shown s.head-shown ∙ again s.head

    -- FROM THE SYMBOLS TO WHAT THEY SHOW -------------------------------------------------------------------------------

    mutual
      unfolding blind

      relabelled : {p : Part G.Rule} {f : Forest} {xs ys : List ℕ} → blind odd p ≡ true → Derives G p f xs ys →
          Derives G p f (shown-all xs) (shown-all ys)
      relabelled b (d_tok {ks = ks} {x = x} h i) = d_tok (has-shown ks x b ∙ h) (leaf-as i (sym (again x)))
      relabelled b (d_pair {k = k} {l = l} i) = rw (kind-shown k (left _ _ b), kind-shown l (right _ _ b)) (d_pair i)
      relabelled b (d_look {l = l} {x = x} {ks = ks} h i) =
          rw (kind-shown l (right _ _ b)) (d_look (has-shown ks x (left _ _ b) ∙ h) (leaf-as i (sym (again x))))
      relabelled b (d_any {x = x} i) = d_any (leaf-as i (sym (again x)))
      relabelled b d_any_end = d_any_end
      relabelled b (d_longest {cs = cs} {c = c} {xs = xs} {ys = ys} e w s i) =
          let ks = kinds_of c in
          let n = length ks in
          let chosen = best-shown cs xs b ∙ e in
          let after = drop_map G.shown n xs ∙ ap shown-all (ap (λ (t : List ℕ). drop n t) s ∙ drop_append ks ys) in
          d_longest chosen w (best-splits cs (shown-all xs) c chosen ∙ ap (λ (t : List ℕ). ks ++ t) after) i
      relabelled b (d_no_form {cs = cs} {xs = xs} e) = d_no_form (best-shown cs xs b ∙ e)
      relabelled b (d_seq d e h) = d_seq (relabelled (left _ _ b) d) (relabelled (right _ _ b) e) h
      relabelled b (d_left d) = d_left (relabelled (left _ _ (right _ _ b)) d)
      relabelled b (d_right {c = c} {xs = xs} d m) = d_right (relabelled (right _ _ (right _ _ b)) d) ((may_shown c xs (left _ _ b)).1 m)
      relabelled b (d_some d) = d_some (relabelled (right _ _ b) d)
      relabelled b (d_none {c = c} {xs = xs} m) = d_none ((may_shown c xs (left _ _ b)).1 m)
      relabelled b (d_many d) = d_many (many-relabelled b d)
      relabelled b (d_until {k = k} {p = p} {f = f} {xs = xs} {ys = ys} d h) =
          let a = relabelled (right _ _ b) d in
          d_until (subst (λ (x : ℕ). Derives G p f (shown-all xs) (x ∷ shown-all ys)) (kind-shown k (left _ _ b)) a) h
      relabelled b (d_at_once {k = k} i) = rw (kind-shown k (left _ _ b)) (d_at_once i)
      relabelled b (d_inside d) = d_inside (relabelled b d)
      relabelled b (d_alone {c = c} {ys = ys} d m) = d_alone (relabelled (left _ _ (right _ _ b)) d) ((may_shown c ys (left _ _ b)).1 m)
      relabelled b (d_with d e) = d_with (relabelled (left _ _ (right _ _ b)) d) (relabelled (right _ _ (right _ _ b)) e)
      relabelled b (d_leaning d) = d_leaning (leaning-relabelled b d)
      relabelled b (d_before {hs = hs} {ys = ys} d n) = d_before (relabelled (right _ _ b) d) (at-shown hs ys (left _ _ b) ∙ n)
      relabelled b (d_opens d) = d_opens (relabelled b d)
      relabelled b (d_rule {r = r} d) = d_rule (relabelled (rules-blind r) d)

      many-relabelled : {p : Part G.Rule} {f : Forest} {xs ys : List ℕ} → blind odd p ≡ true → Many G p f xs ys →
          Many G p f (shown-all xs) (shown-all ys)
      many-relabelled b m_nil = m_nil
      many-relabelled b (m_cons d e h) = m_cons (relabelled b d) (many-relabelled b e) h

      leaning-relabelled : {k : ℕ} {p q : Part G.Rule} {f : Forest} {xs ys : List ℕ} → (blind odd p and blind odd q) ≡ true →
          Leaning G k p q f xs ys → Leaning G k p q f (shown-all xs) (shown-all ys)
      leaning-relabelled b (l_one d) = l_one (relabelled (left _ _ b) d)
      leaning-relabelled b (l_more d e) = l_more (leaning-relabelled b d) (relabelled (right _ _ b) e)

    -- FROM WHAT THEY SHOW TO THE SYMBOLS -------------------------------------------------------------------------------

    mutual
      unfolding blind

      recovered : {p : Part G.Rule} {f : Forest} {us vs : List ℕ} → blind odd p ≡ true → Derives G p f us vs →
          (xs : List ℕ) → us ≡ shown-all xs → Back (Derives G p f) xs vs
      recovered b (d_tok {ks = ks} h i) xs e =
          let s = split xs e in
          back s.tail s.tail-shown s.whole (d_tok (has-recovered ks s b h) (leaf-as i (shown-head s)))
      recovered b (d_pair {k = k} i) xs e =
          let s = split xs e in
          let t = split s.tail s.tail-shown in
          back t.tail t.tail-shown (kind-first s (left _ _ b) ∙ ap (λ (z : List ℕ). k ∷ z) (kind-first t (right _ _ b))) (d_pair i)
      recovered b (d_look {m = m} {l = l} {ks = ks} {h = f} h i) xs e =
          let s = split xs e in
          let t = split s.tail s.tail-shown in
          back s.tail s.tail-shown s.whole
          (subst (λ (z : List ℕ). Derives G (look m ks l) f (s.head ∷ z) z) (sym (kind-first t (right _ _ b)))
          (d_look (has-recovered ks s (left _ _ b) h) (leaf-as i (shown-head s))))
      recovered b (d_any i) xs e =
          let s = split xs e in
          back s.tail s.tail-shown s.whole (d_any (leaf-as i (shown-head s)))
      recovered b d_any_end xs e = back [] refl (none-shown xs e) d_any_end
      recovered b (d_longest {cs = cs} {c = c} {ys = vs} g w s i) xs e =
          let ks = kinds_of c in
          let n = length ks in
          let chosen = best-recovered cs xs b e ∙ g in
          let after = sym (drop_append ks vs) ∙ ap (λ (t : List ℕ). drop n t) (sym s ∙ e) ∙ drop_map G.shown n xs in
          back (drop n xs) after refl (d_longest chosen w (best-splits cs xs c chosen) i)
      recovered b (d_no_form {cs = cs} g) xs e = back xs e refl (d_no_form (best-recovered cs xs b e ∙ g))
      recovered b (d_seq d g h) xs e =
          joined (recovered (left _ _ b) d xs e) (λ ys s. recovered (right _ _ b) g ys s) (λ ys zs a c. d_seq a c h)
      recovered b (d_left d) xs e = onto (recovered (left _ _ (right _ _ b)) d xs e) (λ ys s a. d_left a)
      recovered b (d_right {c = c} d m) xs e =
          onto (recovered (right _ _ (right _ _ b)) d xs e) (λ ys s a. d_right a (may_recovered c xs (left _ _ b) e m))
      recovered b (d_some d) xs e = onto (recovered (right _ _ b) d xs e) (λ ys s a. d_some a)
      recovered b (d_none {c = c} m) xs e = back xs e refl (d_none (may_recovered c xs (left _ _ b) e m))
      recovered b (d_many d) xs e = onto (many-recovered b d xs e) (λ ys s a. d_many a)
      recovered b (d_until {p = p} {f = f} d h) xs e =
          let r = recovered (right _ _ b) d xs e in
          let s = split r.rest r.rest-shown in
          back s.tail s.tail-shown refl (d_until (subst (λ (z : List ℕ). Derives G p f xs z) (kind-first s (left _ _ b)) r.derived) h)
      recovered b (d_at_once i) xs e =
          let s = split xs e in
          back s.tail s.tail-shown (kind-first s (left _ _ b)) (d_at_once i)
      recovered b (d_inside d) xs e = onto (recovered b d xs e) (λ ys s a. d_inside a)
      recovered b (d_alone {c = c} d m) xs e =
          onto (recovered (left _ _ (right _ _ b)) d xs e) (λ ys s a. d_alone a (may_recovered c ys (left _ _ b) s m))
      recovered b (d_with d g) xs e =
          joined (recovered (left _ _ (right _ _ b)) d xs e) (λ ys s. recovered (right _ _ (right _ _ b)) g ys s) (λ ys zs a c. d_with a c)
      recovered b (d_leaning d) xs e = onto (leaning-recovered b d xs e) (λ ys s a. d_leaning a)
      recovered b (d_before {hs = hs} d n) xs e =
          onto (recovered (right _ _ b) d xs e) (λ ys s a. d_before a (sym (at-shown hs ys (left _ _ b)) ∙ ap (at hs) (sym s) ∙ n))
      recovered b (d_opens d) xs e = onto (recovered b d xs e) (λ ys s a. d_opens a)
      recovered b (d_rule {r = r} d) xs e = onto (recovered (rules-blind r) d xs e) (λ ys s a. d_rule a)

      many-recovered : {p : Part G.Rule} {f : Forest} {us vs : List ℕ} → blind odd p ≡ true → Many G p f us vs →
          (xs : List ℕ) → us ≡ shown-all xs → Back (Many G p f) xs vs
      many-recovered b m_nil xs e = back xs e refl m_nil
      many-recovered b (m_cons d g h) xs e =
          joined (recovered b d xs e) (λ ys s. many-recovered b g ys s) (λ ys zs a c. m_cons a c h)

      leaning-recovered : {k : ℕ} {p q : Part G.Rule} {f : Forest} {us vs : List ℕ} → (blind odd p and blind odd q) ≡ true →
          Leaning G k p q f us vs → (xs : List ℕ) → us ≡ shown-all xs → Back (Leaning G k p q f) xs vs
      leaning-recovered b (l_one d) xs e = onto (recovered (left _ _ b) d xs e) (λ ys s a. l_one a)
      leaning-recovered b (l_more d g) xs e =
          joined (leaning-recovered b d xs e) (λ ys s. recovered (right _ _ b) g ys s) (λ ys zs a c. l_more a c)

    -- THE LAW ----------------------------------------------------------------------------------------------------------

    -- A blind part derives from all the symbols just what it derives from all that they show.
    pub derives-relabelled : (p : Part G.Rule) → blind odd p ≡ true → (f : Forest) (xs : List ℕ) →
        Derives G p f xs [] ↔ Derives G p f (map G.shown xs) []
    derives-relabelled p b f xs = (relabelled b, λ d. to_end (recovered b d xs refl))
      where
        to_end : Back (Derives G p f) xs [] → Derives G p f xs []
        to_end r = subst (λ (ys : List ℕ). Derives G p f xs ys) (none-shown r.rest r.rest-shown) r.derived
