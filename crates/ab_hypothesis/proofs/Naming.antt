-- Names that a command makes for itself.
use Rattle.std.specs.Prelude.{codes, Contains, if◌then◌else◌, map}
use Rattle.std.specs.Option.{IsSome}
use Rattle.std.proofs.Common.{◌≡◌, ◌≢◌, ◌⊎◌, inl, inr, ℕ, ◌+◌, ◌<◌, ◌≤◌, List, [], ◌∷◌, ◌++◌, true, false, Option, Some, None, length, get_or, decimal, refl, sym, ◌∙◌, ap, subst, arith}
use Rattle.ab_term.proofs.Lists.{Contains-none, Contains-here, Contains-there, Contains-cases}
use Rattle.ab_term.specs.Terms.{Read}
use Rattle.ab_formulas.specs.NewNames.{Label, auto, given}
use Rattle.ab_logic.specs.SequentReadings.{hypothesis_of, sequent_of}
use Rattle.ab_formulas.specs.Sequents.{named, IsUsed, formula_of}
use Rattle.ab_logic.specs.declared.world.World.{World}
use Rattle.ab_logic.specs.declared.sequent.Sequent.{Sequent as Kept}
use Rattle.ab_logic.specs.declared.sequent.Hypothesis.{Hypothesis as KeptHypothesis}
use Rattle.ab_hypothesis.specs.OwnNames.{IsOwn, IsFirstOwn, IsFreeBeside, own_numbered}
use Rattle.ab_hypothesis.proofs.Hypotheses.{same_or_not}

abbrev label_name : Label → List ℕ
label_name auto = []
label_name (given x) = x

abbrev names : List KeptHypothesis → List (List ℕ)
names [] = []
names (h ∷ hs) = h.name ∷ names hs

-- the names that are in use, and the label
abbrev pub taken_by : Label → List KeptHypothesis → List (List ℕ)
taken_by l hs = label_name l ∷ names hs

count : (ks : List KeptHypothesis) → length (names ks) ≡ length ks
count [] = refl
count (k ∷ ks) = let rest = count ks in omega (arith, rest)

pub taken_length : (l : Label) (hs : List KeptHypothesis) → length (taken_by l hs) ≡ length hs + 1
taken_length l hs = let same = count hs in omega (arith, same)

used : (w : World) (hs : List KeptHypothesis) (x : List ℕ) → IsSome (named (map (hypothesis_of w) hs) x) → Contains (names hs) x
used w [] x some = let clash : false ≡ true = some in cc
used w (h ∷ hs) x some =
    elim (same_or_not h.name x) [
      | inl s ↦ subst (Contains (h.name ∷ names hs)) s.0 (Contains-here h.name (names hs))
      | inr d ↦
          Contains-there h.name (names hs) x
          (used w hs x (subst (λ (o : Option Read). IsSome o) (ap (λ b. if b then Some (hypothesis_of w h).formula else named (map (hypothesis_of w) hs) x) d.1) some))
    ]

pub is_taken : (w : World) (l : Label) (s : Kept) (x : List ℕ) → IsUsed (sequent_of w s) x ⊎ (l ≡ given x) → Contains (taken_by l s.hypotheses) x
is_taken w l s x (inl there) = Contains-there (label_name l) (names s.hypotheses) x (used w s.hypotheses x there)
is_taken w l s x (inr same) = subst (λ y. Contains (y ∷ names s.hypotheses) x) (sym (ap label_name same)) (Contains-here x (names s.hypotheses))

used_by_name : (w : World) (hs : List KeptHypothesis) (x : List ℕ) → Contains (names hs) x → IsSome (named (map (hypothesis_of w) hs) x)
used_by_name w [] x c = absurd (Contains-none x c)
used_by_name w (h ∷ hs) x c =
    elim (same_or_not h.name x) [
      | inl s ↦ subst (λ b. IsSome (if b then Some (hypothesis_of w h).formula else named (map (hypothesis_of w) hs) x)) (sym s.1) refl
      | inr d ↦
          elim (Contains-cases h.name (names hs) x c) [
            | inl e ↦ absurd (d.0 e)
            | inr more ↦ subst (λ b. IsSome (if b then Some (hypothesis_of w h).formula else named (map (hypothesis_of w) hs) x)) (sym d.1) (used_by_name w hs x more)
          ]
    ]

-- a name that is taken isn't free
not_free : (w : World) (l : Label) (s : Kept) (x : List ℕ) → x ≢ [] → Contains (taken_by l s.hypotheses) x → IsFreeBeside l (sequent_of w s) x → ⊥
not_free w auto s x some c free =
    elim (Contains-cases [] (names s.hypotheses) x c) [ inl e ↦ some (sym e) | inr more ↦ free.0 (used_by_name w s.hypotheses x more) ]
not_free w (given y) s x some c free =
    elim (Contains-cases y (names s.hypotheses) x c) [ inl e ↦ free.1 (ap given e) | inr more ↦ free.0 (used_by_name w s.hypotheses x more) ]

some_letter : (m : ℕ) → own_numbered m ≢ []
some_letter m e = let first : ◌≡◌ {A = ℕ} 95 0 = ap (λ (y : List ℕ). get_or y 0 0) e in absurd (omega (arith, first))

pub is_first : (w : World) (l : Label) (s : Kept) (n : ℕ) (x : List ℕ) → 1 ≤ n → x ≡ own_numbered n
    → (formula_of (sequent_of w s) x ≡ None) → l ≢ given x → ((m : ℕ) → 1 ≤ m → m < n → Contains (taken_by l s.hypotheses) (own_numbered m)) → IsFirstOwn l (sequent_of w s) x
is_first w l s n x from is new apart taken =
    let unused : IsUsed (sequent_of w s) x → ⊥ = λ used. let clash : false ≡ true = subst (λ (o : Option Read). IsSome o) new used in cc in (
      n,
      record {
        has = subst (λ y. (1 ≤ n) × IsFreeBeside l (sequent_of w s) y) is (from, (unused, apart));
        first = λ m below free. not_free w l s (own_numbered m) (some_letter m) (taken m free.0 below) free.1;
      },
      is,
    )

pub is_own : (l : Label) (n : ℕ) (x : List ℕ) → x ≡ codes "_" ++ decimal n → l ≢ given x → IsOwn l x
is_own l n x e apart = record {
  no_automatic = λ m same.
      let first : ◌≡◌ {A = ℕ} 95 72 = ap (λ (y : List ℕ). get_or y 0 0) (sym e ∙ same) in
      absurd (omega (arith, first));
  no_label = apart;
}
