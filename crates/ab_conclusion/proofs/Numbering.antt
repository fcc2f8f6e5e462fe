-- Names of hypotheses that are tried one after another.
use Rattle.std.specs.Prelude.{Contains, if◌then◌else◌, bytes_eq, is_some}
use Rattle.std.specs.Option.{IsSome}
use Rattle.std.proofs.Common.{◌≡◌, ℕ, List, [], ◌∷◌, ◌++◌, Bool, true, false, Some, length, refl, sym, ◌∙◌, ap, subst, arith}
use Rattle.std.proofs.lemmas.Slice.Eq.{bytes_eq-Decides}
use Rattle.ab_term.proofs.Lists.{Contains-here, Contains-there}
use Rattle.ab_term.specs.Terms.{Read}
use Rattle.ab_formulas.specs.Sequents.{Hypothesis, Sequent, named, IsUsed, assuming}

-- the names in use
abbrev names : List Hypothesis → List (List ℕ)
names [] = []
names (h ∷ hs) = h.name ∷ names hs

abbrev pub names_in : Sequent → List (List ℕ)
names_in s = names s.hypotheses

count : (hs : List Hypothesis) → length (names hs) ≡ length hs
count [] = refl
count (h ∷ hs) = let rest = count hs in omega (arith, rest)

pub names_counted : (s : Sequent) → length (names_in s) ≡ length s.hypotheses
names_counted s = count s.hypotheses

among : (hs : List Hypothesis) (x : List ℕ) → IsSome (named hs x) → Contains (names hs) x
among [] x some = let clash : false ≡ true = some in absurd (cc)
among (h ∷ hs) x some = go (bytes_eq h.name x) refl (among hs x) some where
  go : (b : Bool) → bytes_eq h.name x ≡ b → (IsSome (named hs x) → Contains (names hs) x) → IsSome (if b then Some h.formula else named hs x) → Contains (h.name ∷ names hs) x
  go true e later some = subst (Contains (h.name ∷ names hs)) ((bytes_eq-Decides h.name x).0 e) (Contains-here h.name (names hs))
  go false e later some = Contains-there h.name (names hs) x (later some)

pub used_among : (s : Sequent) (x : List ℕ) → IsUsed s x → Contains (names_in s) x
used_among s x used = among s.hypotheses x used

-- whether a name is in use depends on the names in use alone

abbrev stands_in : List ℕ → List (List ℕ) → Bool
stands_in x [] = false
stands_in x (n ∷ ns) = if bytes_eq n x then true else stands_in x ns

some_named : (hs : List Hypothesis) (x : List ℕ) → is_some (named hs x) ≡ stands_in x (names hs)
some_named [] x = refl
some_named (h ∷ hs) x = go (bytes_eq h.name x) (some_named hs x) where
  go : (b : Bool) → is_some (named hs x) ≡ stands_in x (names hs) → is_some (if b then Some h.formula else named hs x) ≡ (if b then true else stands_in x (names hs))
  go true rest = refl
  go false rest = rest

pub used_so : (s t : Sequent) (x : List ℕ) → names_in s ≡ names_in t → IsUsed s x → IsUsed t x
used_so s t x same used = sym (some_named s.hypotheses x ∙ ap (stands_in x) same ∙ sym (some_named t.hypotheses x)) ∙ used

names_more : (hs : List Hypothesis) (h : Hypothesis) → names (hs ++ h ∷ []) ≡ names hs ++ h.name ∷ []
names_more [] h = refl
names_more (k ∷ hs) h = ap (λ ns. k.name ∷ ns) (names_more hs h)

pub same_with_one : (s t : Sequent) (x : List ℕ) (F G : Read) → names_in s ≡ names_in t → names_in (assuming x F s) ≡ names_in (assuming x G t)
same_with_one s t x F G same =
    names_more s.hypotheses (record { name = x; formula = F }) ∙ ap (λ ns. ns ++ x ∷ []) same ∙ sym (names_more t.hypotheses (record { name = x; formula = G }))
