-- Sections and their events, a table that has each part of the section grammar there and left out, and each message; and which tokens are openers,
-- and how long they are open. Computed as in Examples. Assumes nothing.
use Prim.Native.Nat.{ℕ, zero, suc, ◌+◌}
use Prim.Native.String.{String}
use mathlib.Core.Path.{◌≡◌, refl}
use mathlib.Core.List.{List, [], ◌∷◌, ◌++◌, map}
use Rattle.predictive.specs.Forest.{message, refusal}
use Rattle.predictive.specs.Events.{Event, start, token, finish, error}
use Rattle.aadl.specs.Limits.{base}
use Rattle.aadl.specs.Words.{bytes}
use Rattle.aadl.specs.Symbols.{symbols}
use Rattle.aadl.specs.Reading.{events}
use Rattle.aadl.specs.Answers.{section_answer}
use Rattle.aadl.specs.Listing.{decimal}
use Rattle.aadl.proofs.Computing.{definitions}

-- EVENTS ---------------------------------------------------------------------------------------------------------------

-- Events as they are written below: a Start is its kind with `(`, and `^` with its forward parent before that, if it has one; `.` is a Token, `)` a
-- Finish, `!` with a number and a space an Error.
abbrev parent : ℕ → List ℕ
parent zero = bytes "("
parent (suc n) = bytes "^" ++ decimal (suc n) ++ bytes "("

abbrev drawn : List Event → List ℕ
drawn [] = []
drawn (start k up ∷ es) = decimal k ++ parent up ++ drawn es
drawn (token k ∷ es) = bytes "." ++ drawn es
drawn (finish ∷ es) = bytes ")" ++ drawn es
drawn (error (message m) ∷ es) = bytes "!" ++ decimal m ++ bytes " " ++ drawn es
drawn (error (refusal n) ∷ es) = bytes "?" ++ drawn es

-- What stands behind `properties`, and its events.
abbrev sections : List (String × String)
sections =
    ("", "")
    ∷ ("none;", "..")
    ∷ ("A :: B +=> constant 1 ms, 2.0 s, 3.0;", "170(171(...)..183(..).184(..).184(.).)")
    ∷ ("A => true, false, \"s\", not 1;", "170(171(.).182(.).182(.).185(.).182(.183(.)).)")
    ∷ ("A => classifier (), classifier (in::out::bus.port);", "170(171(.).194(...).194(..197(.......).).)")
    ∷ ("A => classifier (c (bus => b, ; =>, x => in data T ()));", "170(171(.).194(..197(.134(.133(..197(.)).133(..).133(..147(.)127(.)197(.134(..))).)).).)")
    ∷ ("A => classifier (a.b ());", "170(171(.).194(..197(...134(..)).).)")
    ∷ ("A => reference (), reference (a[][b][1][1 ..][1 .. 2].b[]. .);", "170(171(.).193(..173().).193(..173(........................).).)")
    ∷ ("A => compute (), compute (a);", "170(171(.).195(...).195(....).)")
    ∷ ("A => (), (1), (1, 2, 3);", "170(171(.).188(..).188(.183(.).).188(.183(.).183(.).183(.).).)")
    ∷ ("A => [], [a => 1; b => 2;];", "170(171(.).186(..).186(.187(..183(.).)187(..183(.).).).)")
    ∷ ("A => a, a::b::in, a::, a::::b;", "170(171(.).181(.).181(.....).181(..).181(....).)")
    ∷ ("A => -1, +a, - -1;", "170(171(.).181(.183(.)).181(.181(.)).181(.181(.183(.))).)")
    ∷ ("A => 1 * 2 / 3 + 4 - 5;", "170(171(.).183^3(.)192^6(.183(.))192^6(.183(.))192^6(.183(.))192(.183(.)).)")
    ∷ ("A => 1 - 2 * 3;", "170(171(.).183^3(.)192(.183^3(.)192(.183(.))).)")
    ∷ ("A => 1 .. 2 delta 3;", "170(171(.).183^3(.)189(.183(.)190(.183(.))).)")
    ∷ ("A => not 1 .. 2 delta 3, not 1 * 2;", "170(171(.).182(.183^3(.)189(.183(.)190(.183(.)))).182(.183^3(.)192(.183(.))).)")
    ∷ ("A => 1 in modes (all, n => in, , o =>), 2 in modes ();", "170(171(.).183(.)175(.............).183(.)175(....).)")
    ∷ ("A => 1 applies to a, b, , c;", "170(171(.).183(.)172(..173(.).173(.).173().173(.)).)")
    ∷ ("A => 1 in binding (); B => 1 applies to a in binding (p::q.r);", "170(171(.).183(.)174(....).)170(171(.).183(.)172(..173(.))174(...197(.....).).)")
    -- each message, and what is read on
    ∷ ("A 1;", "170(171(.)!1 183(.).)")
    ∷ ("A :: => 1;", "170(171(..!2 ).183(.).)")
    ∷ ("A => 0x1F;", "170(171(.).2(!4 .).)")
    ∷ ("A => ;", "170(171(.).!5 .)")
    ∷ ("A => classifier (a::);", "170(171(.).194(..197(..!6 ).).)")
    ∷ ("A => classifier (a.);", "170(171(.).194(..197(..!7 ).).)")
    ∷ ("A => classifier (a (x => virtual T));", "170(171(.).194(..197(.134(.133(..127(.!8 )197(.)).)).).)")
    ∷ ("A => classifier a;", "170(171(.).194(.!266 197(.)!267 ).)")
    ∷ ("A => classifier (a (x T));", "170(171(.).194(..197(.134(.133(.!274 197(.)).)).).)")
    ∷ ("A => classifier (a (x => T, 0x1 => U));", "170(171(.).194(..197(.134(.133(..197(.)).133(..197(.)).)).).)")
    ∷ ("A => classifier (a (x => T,", "170(171(.).194(..197(.134(.133(..197(.)).133(!274 )!267 ))!267 )!261 )")
    ∷ ("A => reference;", "170(171(.).193(.!266 173()!267 ).)")
    ∷ ("A => compute;", "170(171(.).195(.!266 !267 ).)")
    ∷ ("A => reference (a[1);", "170(171(.).193(..173(...!271 ).).)")
    ∷ ("A => (1;", "170(171(.).188(.183(.)!267 ).)")
    ∷ ("A => (;", "170(171(.).188(.!5 !267 ).)")
    ∷ ("A => [;", "170(171(.).186(.!271 ).)")
    ∷ ("A => [a 1];", "170(171(.).186(.187(.!274 183(.)!261 ).).)")
    ∷ ("A => 1 + ;", "170(171(.).183^3(.)192(.!5 ).)")
    ∷ ("A => 1 .. ;", "170(171(.).183^3(.)189(.!5 ).)")
    ∷ ("A => 1 in modes m;", "170(171(.).183(.)175(..!266 .!267 ).)")
    ∷ ("A => 1 in binding;", "170(171(.).183(.)174(..!266 !267 ).)")
    ∷ ("A => 1 applies x;", "170(171(.).183(.)172(.!341 173(.)).)")
    ∷ ("A => 1", "170(171(.).183(.)!261 )")
    ∷ ("none", ".!261 ")
    -- a keyword before `:`, save a `none` right behind `properties`
    ∷ ("none :", ".!261 ")
    ∷ ("A => 1; none :", "170(171(.).183(.).)170(171(.)!1 !5 !261 )")
    ∷ ("a :: in :", "170(171(...)!1 !5 !261 )")
    ∷ []

pub sections-read :
    map (λ (s : String × String). drawn (events base (symbols (bytes "properties " ++ bytes s.0)))) sections
    ≡ map (λ (s : String × String). bytes "169(." ++ bytes s.1 ++ bytes ")") sections
unfolding definitions
sections-read = refl

-- OPENERS --------------------------------------------------------------------------------------------------------------

-- A value, how many openers may stand open, and the refusal: where the first opener too many stands in the value; `fine` is none.
pub data Opened : Type 0 where
  fine : ℕ → String → Opened
  deep : ℕ → String → ℕ → Opened

abbrev opened : List Opened
opened =
    deep 0 "+1" 0 ∷ deep 0 "-1" 0 ∷ deep 0 "not 1" 0 ∷ deep 0 "(1)" 0 ∷ deep 0 "[]" 0 ∷ deep 0 "classifier (c ())" 14
    ∷ fine 0 "1 - 2 + 3" ∷ fine 0 "classifier (not)" ∷ fine 0 "reference (a[1])" ∷ fine 0 "compute (a)" ∷ fine 0 "a::not"
    ∷ fine 0 "1 in modes (m)" ∷ fine 0 "1 in binding (c)"
    ∷ fine 1 "(1) + (2), [], -1 - -2, not 1, -1 * (2)"
    ∷ deep 1 "not 1 + (2)" 8 ∷ deep 1 "(-1)" 1 ∷ deep 1 "- -1" 2 ∷ deep 1 "((1))" 1 ∷ deep 1 "[a => (1);]" 6
    ∷ deep 1 "classifier (a (x => b (y => c)))" 22 ∷ fine 1 "classifier (a (not => b, ( => c, [ => d, - => e, not => f))"
    ∷ []

abbrev refusal-of : (openers : ℕ) → String → ℕ × ℕ
refusal-of n s =
    let a = section_answer (record { bytes = 99; openers = n }) (bytes "properties A => " ++ bytes s ++ bytes ";") 99 999 in
    (a.number, a.place)

abbrev found : Opened → ℕ × ℕ
found (fine n s) = refusal-of n s
found (deep n s i) = refusal-of n s

abbrev said : Opened → ℕ × ℕ
said (fine n s) = (0, 0)
said (deep n s i) = (6, 16 + i)

pub openers-open : map found opened ≡ map said opened
unfolding definitions
openers-open = refl
