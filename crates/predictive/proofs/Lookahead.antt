-- The test that a grammar passes if its reader can go by what stands next. It is closed, so that it is computed: for each part the
-- heads with which the reader would go on (`ends`), the heads that cannot stand after it (`shuts`), and that these and the heads
-- of what comes next tell every choice apart (`good`). Assumes nothing.
use Prim.Native.Nat.{ℕ}
use mathlib.Core.Path.{◌≡◌}
use mathlib.Core.Bool.{Bool, true, false, not, ◌||◌}
use mathlib.Core.List.{List, [], ◌∷◌, ◌++◌}
use Rattle.predictive.specs.Grammar.{Head, one, Choice, free, unless, Part, tok, pair, look, any, longest, wrong, fail, seq, either, opt, many, until, inside, suffix, leaning, before, opens, rule, Grammar}
use Rattle.predictive.specs.Reader.{null, only, first}
use Rattle.predictive.proofs.Tests.{◌and◌, left, right}
use Rattle.predictive.proofs.Heads.{disjoint, among, within-heads, minus}

abbrev pub open_heads : Choice → List Head → List Head
open_heads free hs = hs
open_heads (unless gs) hs = []

-- a preference names just the heads that the part begins with
unfoldable pub fits : Choice → List Head → Bool
unfolding within-heads
fits free hs = true
fits (unless gs) hs = within-heads hs gs and within-heads gs hs

-- the reader can tell q, which begins with gs, from p, which begins with hs
unfoldable pub sides : Choice → List Head → List Head → Bool
unfolding within-heads disjoint
sides free hs gs = disjoint gs hs
sides (unless ds) hs gs = within-heads hs ds and within-heads ds hs

-- the part reads to one node, so that another node can be begun before it
unfoldable pub single : {R : Type 0} → Part R → Bool
single (tok m ks) = false
single (pair k l) = false
single (look m ks l) = false
single any = false
single (longest cs) = false
single (wrong x k m) = true
single (fail m) = true
single (seq p q) = false
single (either c p q) = single p and single q
single (opt c p) = false
single (many p) = false
single (until k p) = false
single (inside k p) = true
single (suffix c k p q) = single p
single (leaning k p q) = single p
single (before hs p) = single p
single (opens p) = single p
single (rule r) = false

-- What is claimed of the rules: the heads with which the reader would go on after each, and those that cannot stand after it.
pub record Tables (G : Grammar) : Type 0 where
  pub ends_of : G.Rule → List Head
  pub shut-of : G.Rule → List Head

module _ (G : Grammar) (T : Tables G) where
  -- the heads with which the reader would go on with p, so that what follows p begins with none of them
  unfoldable pub ends : Part G.Rule → List Head
  unfolding null first minus
  ends (tok m ks) = []
  ends (pair k l) = []
  ends (look m ks l) = []
  ends any = []
  ends (longest cs) = []
  ends (wrong x k m) = []
  ends (fail m) = []
  ends (seq p q) = ends q ++ only (null q) (ends p)
  ends (either c p q) = ends p ++ (ends q ++ only (null q) (open_heads c (first G p)))
  ends (opt c p) = ends p ++ open_heads c (first G p)
  ends (many p) = ends p ++ first G p
  ends (until k p) = []
  ends (inside k p) = ends p
  ends (suffix c k p q) = ends p ++ (ends q ++ open_heads c (first G q))
  ends (leaning k p q) = ends p ++ (ends q ++ first G q)
  ends (before hs p) = minus (ends p) hs
  ends (opens p) = ends p
  ends (rule r) = T.ends_of r

  -- shuts b h p: h does not stand where the reader has just read p (b: nor did it stand before)
  unfoldable pub shuts : Bool → Head → Part G.Rule → Bool
  unfolding among first
  shuts b h (tok m ks) = false
  shuts b h (pair k l) = false
  shuts b h (look m ks l) = false
  shuts b h any = false
  shuts b h (longest cs) = false
  shuts b h (wrong x k m) = false
  shuts b h (fail m) = true
  shuts b h (seq p q) = shuts (shuts b h p) h q
  shuts b h (either c p q) = shuts b h p and shuts b h q
  shuts b h (opt c p) = shuts b h p and (b || among (first G p) h)
  shuts b h (many p) = among (first G p) h
  shuts b h (until k p) = false
  shuts b h (inside k p) = shuts b h p
  shuts b h (suffix c k p q) = shuts false h q and (shuts b h p || among (first G q) h)
  shuts b h (leaning k p q) = among (first G q) h || (shuts b h p and shuts false h q)
  shuts b h (before hs p) = shuts b h p
  shuts b h (opens p) = shuts b h p
  shuts b h (rule r) = among (T.shut-of r) h

  unfoldable pub all-shut : List Head → Part G.Rule → Bool
  unfolding shuts
  all-shut [] p = true
  all-shut (h ∷ hs) p = shuts false h p and all-shut hs p

  -- The reader of the part takes just the choices that its derivations take. Nothing is asked of the longest form: which one it
  -- is depends on what stands alone, for the reader as for a derivation.
  unfoldable pub good : Part G.Rule → Bool
  unfolding null first ends all-shut fits sides disjoint single
  good (tok m ks) = true
  good (pair k l) = true
  good (look m ks l) = true
  good any = true
  good (longest cs) = true
  good (wrong x k m) = true
  good (fail m) = true
  good (seq p q) = good p and (good q and disjoint (first G q) (ends p))
  good (either c p q) = good p and (good q and (not (null p) and sides c (first G p) (first G q)))
  good (opt c p) = good p and (not (null p) and fits c (first G p))
  good (many p) = good p and (not (null p) and disjoint (first G p) (ends p))
  good (until k p) = good p and (not (null p) and (disjoint (first G p) (one k ∷ []) and disjoint (one k ∷ []) (ends p)))
  good (inside k p) = good p
  good (suffix c k p q) = good p and (good q and (not (null q) and (disjoint (first G q) (ends p) and (fits c (first G q) and single p))))
  good (leaning k p q) = good p and (good q and (not (null q) and (disjoint (first G q) (ends p ++ ends q) and single p)))
  good (before hs p) = good p and all-shut hs p
  good (opens p) = good p
  good (rule r) = true

  -- The part passes the test. It is a type of its own, so that the part can be read off it.
  pub record Good (p : Part G.Rule) : Type 0 where
    pub tested : good p ≡ true

  -- What the test says of a part, by name: the parts that it is made of are good; a part that the reader may pass over is begun by a
  -- token (begun) and told by what stands next (told); what follows is apart from what the reader would go on with (apart); a node
  -- is begun only before one node (lone).
  pub record GoodSeq (p q : Part G.Rule) : Type 0 where
    pub former : Good p
    pub latter : Good q
    pub apart : disjoint (first G q) (ends p) ≡ true

  pub record GoodEither (c : Choice) (p q : Part G.Rule) : Type 0 where
    pub former : Good p
    pub latter : Good q
    pub begun : not (null p) ≡ true
    pub told : sides c (first G p) (first G q) ≡ true

  pub record GoodOpt (c : Choice) (p : Part G.Rule) : Type 0 where
    pub part : Good p
    pub begun : not (null p) ≡ true
    pub told : fits c (first G p) ≡ true

  pub record GoodMany (p : Part G.Rule) : Type 0 where
    pub part : Good p
    pub begun : not (null p) ≡ true
    pub apart : disjoint (first G p) (ends p) ≡ true

  pub record GoodUntil (k : ℕ) (p : Part G.Rule) : Type 0 where
    pub part : Good p
    pub begun : not (null p) ≡ true
    pub told : disjoint (first G p) (one k ∷ []) ≡ true
    pub apart : disjoint (one k ∷ []) (ends p) ≡ true

  pub record GoodSuffix (c : Choice) (p q : Part G.Rule) : Type 0 where
    pub former : Good p
    pub latter : Good q
    pub begun : not (null q) ≡ true
    pub apart : disjoint (first G q) (ends p) ≡ true
    pub told : fits c (first G q) ≡ true
    pub lone : single p ≡ true

  pub record GoodLeaning (p q : Part G.Rule) : Type 0 where
    pub former : Good p
    pub latter : Good q
    pub begun : not (null q) ≡ true
    pub apart : disjoint (first G q) (ends p ++ ends q) ≡ true
    pub lone : single p ≡ true

  pub record GoodBefore (hs : List Head) (p : Part G.Rule) : Type 0 where
    pub part : Good p
    pub closed : all-shut hs p ≡ true

  -- The grammar's rules are good, and its tables are those of its rules.
  pub record Fine : Type 0 where
    pub first-in : (r : G.Rule) → within-heads (first G (G.rules r)) (G.firsts r) ≡ true
    pub not_null : (r : G.Rule) → null (G.rules r) ≡ false
    pub ends-in : (r : G.Rule) → within-heads (ends (G.rules r)) (T.ends_of r) ≡ true
    pub shut-in : (r : G.Rule) → all-shut (T.shut-of r) (G.rules r) ≡ true
    pub all-good : (r : G.Rule) → good (G.rules r) ≡ true

module _ {G : Grammar} {T : Tables G} where
  pub good-seq : {p q : Part G.Rule} → Good G T (seq p q) → GoodSeq G T p q
  unfolding good
  good-seq g =
      let e = g.tested in
      record { former = record { tested = left _ _ e }; latter = record { tested = left _ _ (right _ _ e) }; apart = right _ _ (right _ _ e) }

  pub good-either : {c : Choice} {p q : Part G.Rule} → Good G T (either c p q) → GoodEither G T c p q
  unfolding good
  good-either g =
      let e = g.tested in
      record {
        former = record { tested = left _ _ e };
        latter = record { tested = left _ _ (right _ _ e) };
        begun = left _ _ (right _ _ (right _ _ e));
        told = right _ _ (right _ _ (right _ _ e));
      }

  pub good-opt : {c : Choice} {p : Part G.Rule} → Good G T (opt c p) → GoodOpt G T c p
  unfolding good
  good-opt g =
      let e = g.tested in
      record { part = record { tested = left _ _ e }; begun = left _ _ (right _ _ e); told = right _ _ (right _ _ e) }

  pub good-many : {p : Part G.Rule} → Good G T (many p) → GoodMany G T p
  unfolding good
  good-many g =
      let e = g.tested in
      record { part = record { tested = left _ _ e }; begun = left _ _ (right _ _ e); apart = right _ _ (right _ _ e) }

  pub good-until : {k : ℕ} {p : Part G.Rule} → Good G T (until k p) → GoodUntil G T k p
  unfolding good
  good-until g =
      let e = g.tested in
      record { part = record { tested = left _ _ e }; begun = left _ _ (right _ _ e); told = left _ _ (right _ _ (right _ _ e)); apart = right _ _ (right _ _ (right _ _ e)) }

  pub good-suffix : {c : Choice} {k : ℕ} {p q : Part G.Rule} → Good G T (suffix c k p q) → GoodSuffix G T c p q
  unfolding good
  good-suffix g =
      let e = g.tested in
      record {
        former = record { tested = left _ _ e };
        latter = record { tested = left _ _ (right _ _ e) };
        begun = left _ _ (right _ _ (right _ _ e));
        apart = left _ _ (right _ _ (right _ _ (right _ _ e)));
        told = left _ _ (right _ _ (right _ _ (right _ _ (right _ _ e))));
        lone = right _ _ (right _ _ (right _ _ (right _ _ (right _ _ e))));
      }

  pub good-leaning : {k : ℕ} {p q : Part G.Rule} → Good G T (leaning k p q) → GoodLeaning G T p q
  unfolding good
  good-leaning g =
      let e = g.tested in
      record {
        former = record { tested = left _ _ e };
        latter = record { tested = left _ _ (right _ _ e) };
        begun = left _ _ (right _ _ (right _ _ e));
        apart = left _ _ (right _ _ (right _ _ (right _ _ e)));
        lone = right _ _ (right _ _ (right _ _ (right _ _ e)));
      }

  pub good-before : {hs : List Head} {p : Part G.Rule} → Good G T (before hs p) → GoodBefore G T hs p
  unfolding good
  good-before g =
      let e = g.tested in
      record { part = record { tested = left _ _ e }; closed = right _ _ e }

  pub good-inside : {k : ℕ} {p : Part G.Rule} → Good G T (inside k p) → Good G T p
  unfolding good
  good-inside g = record { tested = g.tested }

  pub good-opens : {p : Part G.Rule} → Good G T (opens p) → Good G T p
  unfolding good
  good-opens g = record { tested = g.tested }

  pub good-rule : Fine G T → (r : G.Rule) → Good G T (G.rules r)
  good-rule fine r = record { tested = fine.all-good r }
