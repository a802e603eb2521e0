-- No text with a string that is not closed was ever clean, so nothing that was certified from a clean text changes with refusal 8. What
-- 01's section grammar derives ends in a `;`, or is `properties` alone (`section-ends`): by the last part of each rule. Such a string is the last
-- of a text's tokens, and no trivia. Assumes nothing.
use Prim.Native.Nat.{ℕ, zero, suc}
use native.Mathlib.Omega.{arith}
use mathlib.Core.Path.{◌≡◌, refl, sym, ap, subst, ◌∙◌}
use mathlib.Core.Logic.{◌⊎◌, inl, inr, ⊎_elim}
use mathlib.Core.Bool.{true, false}
use mathlib.Core.List.{List, [], ◌∷◌, ◌++◌}
use lib.ListN.{length, get_or}
use lib.Dec.{eqb}
use borrow.Author.Tests.{eqb-true}
use Rattle.predictive.specs.Forest.{Forest, leaves, ◌then◌}
use Rattle.predictive.specs.Grammar.{has, Part, tok, seq, many, inside, Derives, d_tok, d_seq, d_left, d_right, d_many, d_inside, Many, m_nil, m_cons}
use Rattle.predictive.specs.Notation.{◌·◌, ◌∣◌}
use Rattle.predictive.specs.Events.{Event, start, token as token-event, finish, error, erring, any_fault, stops}
use Rattle.predictive.proofs.Tests.{or_cases, never}
use Rattle.predictive.proofs.Forests.{leaves-then, leaves-tree}
use Rattle.aadl.specs.declared.Token.{Token}
use Rattle.aadl.specs.Limits.{Limits}
use Rattle.aadl.specs.Kinds.{SEMICOLON, STRING_LIT, NONE_KW, PROPERTIES_KW, #◌}
use Rattle.aadl.specs.Tokens.{token, tokens, unclosed}
use Rattle.aadl.specs.Symbols.{is_trivia, shown, symbols, without_trivia, kinds}
use Rattle.aadl.specs.Section.{Rule, token as fixed, begun, grammar, literal_association, literal_section}
use Rattle.aadl.specs.Reading.{events, too_deep, Clean, Derivation}
use Rattle.aadl.proofs.Bools.{cond_has}
use Rattle.aadl.proofs.Unclosed.{unclosed-there}
use Rattle.aadl.proofs.Demand3.{demand_3, derivation-leaves}
use Rattle.aadl.proofs.SymbolLaws.{symbols-show_kinds}

-- LAST ELEMENTS --------------------------------------------------------------------------------------------------------

-- the last of some numbers; d if there is none
abbrev last : (d : ℕ) → List ℕ → ℕ
last d [] = d
last d (x ∷ xs) = last x xs

last-append : (d : ℕ) (xs ys : List ℕ) → last d (xs ++ ys) ≡ last (last d xs) ys
last-append d [] ys = refl
last-append d (x ∷ xs) ys = last-append x xs ys

last_then : (d : ℕ) (f g : Forest) → last d (leaves (f then g)) ≡ last (last d (leaves f)) (leaves g)
last_then d f g = ap (last d) (leaves-then f g) ∙ last-append d (leaves f) (leaves g)

-- WHAT IS DERIVED ------------------------------------------------------------------------------------------------------

-- a forest whose last leaf is a `;`
abbrev Ends : Forest → Type 0
Ends f = (d : ℕ) → last d (leaves f) ≡ # SEMICOLON

-- a part that derives only such
abbrev Ending : Part Rule → Type 0
Ending p = (f : Forest) (xs ys : List ℕ) → Derives grammar p f xs ys → Ends f

-- a token that must be of one kind is of that kind
only : (x k : ℕ) → has (k ∷ []) x ≡ true → x ≡ k
only x k h = eqb-true x k (⊎_elim (λ e. e) (λ e. never e) (or_cases (eqb x k) false h))

tok-ends : (m : ℕ) → Ending (tok m (# SEMICOLON ∷ []))
unfolding leaves shown
tok-ends m f (x ∷ xs) ys (d_tok h e) d =
    ap (λ (g : Forest). last d (leaves g)) e ∙ ap shown (only x (# SEMICOLON) h)
tok-ends m f [] ys h d = elim h [ ]

seq-ends : (p q : Part Rule) → Ending q → Ending (seq p q)
seq-ends p q ends h xs zs (d_seq {f = f} {g = g} a b e) d =
    ap (λ (i : Forest). last d (leaves i)) e ∙ last_then d f g ∙ ends g _ zs b (last d (leaves f))

inside-ends : (k : ℕ) (p : Part Rule) → Ending p → Ending (inside k p)
unfolding leaves
inside-ends k p ends h xs ys (d_inside {f = f} a) d = last-append d (leaves f) [] ∙ ends f xs ys a d

association-ends : Ending literal_association
association-ends = inside-ends _ _ (seq-ends _ _ (seq-ends _ _ (seq-ends _ _ (seq-ends _ _ (seq-ends _ _ (seq-ends _ _ (tok-ends _)))))))

-- what a loop over such a part derives is empty, or ends so too
many-ends : (p : Part Rule) → Ending p → (g : Forest) (xs ys : List ℕ) → Many grammar p g xs ys → (d : ℕ) →
    (last d (leaves g) ≡ d) ⊎ (last d (leaves g) ≡ # SEMICOLON)
unfolding leaves
many-ends p ends g xs ys m_nil d = inl refl
many-ends p ends h xs zs (m_cons {f = f} {g = g} {ys = ys} a m e) d =
    let whole = ap (λ (i : Forest). last d (leaves i)) e ∙ last_then d f g in
    let first = ends f xs ys a d in
    ⊎_elim (λ r. inr (whole ∙ r ∙ first)) (λ r. inr (whole ∙ r)) (many-ends p ends g ys zs m (last d (leaves f)))

-- behind `properties`
associations-end : (g : Forest) (ys : List ℕ) → Derives grammar (begun NONE_KW · fixed SEMICOLON ∣ many literal_association) g ys [] → (d : ℕ) →
    (last d (leaves g) ≡ d) ⊎ (last d (leaves g) ≡ # SEMICOLON)
associations-end g ys (d_left a) d = inr (seq-ends _ _ (tok-ends _) g ys [] a d)
associations-end g ys (d_right (d_many m) o) d = many-ends literal_association association-ends g ys [] m d

section-ends : (f : Forest) (ks : List ℕ) → Derives grammar literal_section f ks [] → (d : ℕ) →
    (last d (leaves f) ≡ # PROPERTIES_KW) ⊎ (last d (leaves f) ≡ # SEMICOLON)
unfolding leaves shown
section-ends h ks (d_inside {f = i} (d_seq {f = f} {g = g} (d_tok {x = x} t e) r q)) d =
    let first : last d (leaves f) ≡ # PROPERTIES_KW = ap (λ (j : Forest). last d (leaves j)) e ∙ ap shown (only x (# PROPERTIES_KW) t) in
    let whole = last-append d (leaves i) [] ∙ ap (λ (j : Forest). last d (leaves j)) q ∙ last_then d f g in
    ⊎_elim (λ b. inl (whole ∙ b ∙ first)) (λ b. inr (whole ∙ b)) (associations-end g _ r (last d (leaves f)))

-- THE LAST TOKEN -------------------------------------------------------------------------------------------------------

-- the last token's kind, if it is no trivia, is the last of the kinds
last-kind_is : (n : ℕ) (ts : List Token) (t : Token) (d : ℕ) → length ts ≡ suc n → is_trivia (get_or ts n t).kind ≡ false →
    last d (without_trivia ts) ≡ (get_or ts n t).kind
last-kind_is n [] t d e s = absurd (omega (arith, e))
last-kind_is zero (u ∷ v ∷ ts) t d e s = absurd (omega (arith, e))
last-kind_is (suc n) (u ∷ []) t d e s = absurd (omega (arith, e))
last-kind_is zero (u ∷ []) t d e s = rw s refl
last-kind_is (suc n) (u ∷ v ∷ ts) t d e s =
    let rest = without_trivia (v ∷ ts) in
    cond_has (λ (ks : List ℕ). last d ks ≡ (get_or (v ∷ ts) n t).kind) (is_trivia u.kind) rest (u.kind ∷ rest)
    (λ f. last-kind_is n (v ∷ ts) t d (omega (arith, e)) s) (λ f. last-kind_is n (v ∷ ts) t u.kind (omega (arith, e)) s)

last-is_string : (text : List ℕ) → (unclosed (tokens text) ≡ length text → ⊥) → last 0 (kinds text) ≡ # STRING_LIT
unfolding kinds
last-is_string text f =
    let u = unclosed-there text f in
    let k = ap (λ (t : Token). t.kind) u.string in
    last-kind_is u.others (tokens text) (token 0 0) 0 u.last (ap is_trivia k) ∙ k

-- THE THEOREMS ---------------------------------------------------------------------------------------------------------

-- 01's section grammar derives no text with a string that is not closed ..
pub unclosed-never_derived : (text : List ℕ) → (unclosed (tokens text) ≡ length text → ⊥) → (t : Forest) → Derivation (kinds text) t → ⊥
unclosed-never_derived text f t d =
    let show = symbols-show_kinds text in
    let all = derivation-leaves (symbols text) t (subst (λ (ks : List ℕ). Derivation ks t) (sym show) d) ∙ show in
    let is : last 0 (leaves d.0) ≡ # STRING_LIT = ap (last 0) (sym (leaves-tree d.0) ∙ ap leaves (sym d.2) ∙ all) ∙ last-is_string text f in
    ⊎_elim (λ e. omega (arith, is, e)) (λ e. omega (arith, is, e)) (section-ends d.0 (kinds text) d.1 0)

-- an event list without an Error has no refusal
pub no_stop : (es : List Event) → erring any_fault es ≡ false → erring stops es ≡ false
unfolding erring
no_stop [] e = refl
no_stop (start k up ∷ es) e = no_stop es e
no_stop (token-event k ∷ es) e = no_stop es e
no_stop (finish ∷ es) e = no_stop es e
no_stop (error m ∷ es) e = never (sym e)

-- .. so its reading is never clean, within any limits.
pub unclosed-never_clean : (limits : Limits) (text : List ℕ) → (unclosed (tokens text) ≡ length text → ⊥) → Clean limits (symbols text) → ⊥
unfolding too_deep
unclosed-never_clean limits text f c =
    let t = (demand_3 limits text (no_stop (events limits (symbols text)) c.no_error)).exactly.0 c in
    unclosed-never_derived text f t.0 t.1
