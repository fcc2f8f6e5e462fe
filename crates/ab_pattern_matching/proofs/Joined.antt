-- Patterns whose first names are constants: names before others, and constants renamed.
use Rattle.std.proofs.Common.{◌≡◌, inl, inr, ℕ, List, [], ◌∷◌, ◌++◌, map, true, false, refl, sym, ◌∙◌, ap, subst}
use Rattle.std.specs.Prelude.{◌≢◌, Contains, AllPairs}
use Rattle.std.proofs.lemmas.Bool.{false≢true, or_cases, or_left, or_right, false_from_ne_true}
use Rattle.std.proofs.lemmas.List.Elements.{All-contains, Contains-append_left, Contains-append_right}
use Rattle.ab_term.specs.Types.{Ty}
use Rattle.ab_term.specs.Terms.{Nominal, Head, constant, logical, nominal, variable, index, Terms, no_terms, joined}
use Rattle.ab_term.specs.Names.{rename_head, rename, rename_all, support, support_of_all}
use Rattle.ab_term.specs.Expansion.{expansion}
use Rattle.ab_term.specs.Sameness.{same_head}
use Rattle.ab_term.specs.Abstraction.{among, is_name, over, name_terms}
use Rattle.ab_term.proofs.Forgetting.{forget_plain}
use Rattle.ab_term.proofs.Lists.{Contains-none, Contains-here, Contains-there, Contains-cases, AllPairs-parts}
use Rattle.ab_term.proofs.Only.{among-append, among_behind}
use Rattle.ab_term.proofs.Permutations.{IsOneToOne}
use Rattle.ab_term.proofs.Recognising.{expansion_of_one}
use Rattle.ab_term.proofs.Renamings.{rename-expansion_of}
use Rattle.ab_term.proofs.Same.{same_head-Decides}
use Rattle.ab_term.proofs.Stands.{either, support-expansion_of}
use Rattle.ab_unifiers.proofs.Views.{IsPattern, pattern_end, pattern_more}
use Rattle.ab_search_trees.proofs.Guessed.{contained}

abbrev pub BareTerms : Type 0
BareTerms = Terms ℕ (Unit {0})

-- constants as first arguments
abbrev pub constants_before : List Nominal → Ty → BareTerms → BareTerms
constants_before bs A ss = joined (name_terms tt (over bs A) (map nominal bs)) ss

-- the names behind them are a pattern, and none of them is one of these constants
pub split_pattern : (bs : List Nominal) (A : Ty) (ss : BareTerms) (hs : List (Head ℕ)) → IsPattern (over bs A) (constants_before bs A ss) hs
    → (gs : List (Head ℕ)) × (hs ≡ map nominal bs ++ gs) × IsPattern A ss gs × ((b : Nominal) → Contains bs b → among gs (nominal b) ≡ false)
split_pattern [] A ss hs p = (hs, refl, p, λ b m. absurd (Contains-none b m))
split_pattern (b ∷ bs) A ss hs (pattern_more {h = h} {hs = ks} n d p) =
    let rest = split_pattern bs A ss ks p in
    let first : nominal b ≡ h = expansion_of_one tt tt b.type b.type (nominal b) h no_terms no_terms (n.expansion ∙ sym (forget_plain (expansion tt b.type h))) in
    let here : among rest.0 (nominal b) ≡ false = false_from_ne_true (among rest.0 (nominal b)) (λ m. false≢true (sym d ∙ ap (among ks) (sym first) ∙ ap (λ l. among l (nominal b)) rest.1 ∙ among_behind (map nominal bs) rest.0 (nominal b) m)) in
    (rest.0, ap (λ g. g ∷ ks) (sym first) ∙ ap (λ l. nominal b ∷ l) rest.1, rest.2, λ c m. either (λ e. ap (λ a. among rest.0 (nominal a)) (sym e) ∙ here) (rest.3 c) (Contains-cases b bs c m))

pub join_pattern : (bs : List Nominal) → AllPairs (λ a b. a ≢ b) bs → (A : Ty) (ss : BareTerms) (gs : List (Head ℕ)) → IsPattern A ss gs → ((b : Nominal) → Contains bs b → among gs (nominal b) ≡ false) → IsPattern (over bs A) (constants_before bs A ss) (map nominal bs ++ gs)
join_pattern [] d A ss gs p n = p
join_pattern (b ∷ bs) d A ss gs p n =
    let parts = AllPairs-parts (λ a c. a ≢ c) b bs d in
    let new : among (map nominal bs ++ gs) (nominal b) ≡ false = false_from_ne_true (among (map nominal bs ++ gs) (nominal b)) (λ m. elim (among-append (map nominal bs) gs (nominal b) m) [ inl i ↦ All-contains (λ c. b ≢ c) bs b parts.0 (contained bs b i) refl | inr i ↦ false≢true (sym (n b (Contains-here b bs)) ∙ i) ]) in
    pattern_more (record { name = refl; expansion = forget_plain (expansion tt b.type (nominal b)) }) new (join_pattern bs parts.1 A ss gs p (λ c m. n c (Contains-there b bs c m)))

-- a pattern's constants stand in its arguments
pub pattern_stands : {A : Ty} {ts : BareTerms} {gs : List (Head ℕ)} → IsPattern A ts gs → (a : Nominal) → among gs (nominal a) ≡ true → Contains (support_of_all ts) a
pattern_stands pattern_end a e = absurd (false≢true e)
pattern_stands (pattern_more {A = A} {t = t} {ts = ts} {h = h} {hs = hs} n d p) a e = elim (or_cases (same_head h (nominal a)) (among hs (nominal a)) e) [
  | inl s ↦ (
      let head : h ≡ nominal a = (same_head-Decides h (nominal a)).0 s in
      let stands : support t ≡ a ∷ [] = ap support (sym (forget_plain t) ∙ n.expansion ∙ ap (expansion tt A) head) ∙ support-expansion_of tt A (nominal a) no_terms in
      Contains-append_left (support t) (support_of_all ts) a (subst (λ l. Contains l a) (sym stands) (Contains-here a [])))
  | inr m ↦ Contains-append_right (support t) (support_of_all ts) a (pattern_stands p a m)
]

-- CONSTANTS RENAMED, one to one
module _ (m back : Nominal → Nominal) (one : IsOneToOne m back) where
  head_back : (h : Head ℕ) → rename_head back (rename_head m h) ≡ h
  head_back (constant c) = refl
  head_back (logical l) = refl
  head_back (nominal a) = ap nominal (one.back a)
  head_back (variable y) = refl
  head_back (index i) = refl

  name_renamed : (h : Head ℕ) → is_name (rename_head m h) ≡ is_name h
  name_renamed (constant c) = refl
  name_renamed (logical l) = refl
  name_renamed (nominal a) = refl
  name_renamed (variable y) = refl
  name_renamed (index i) = refl

  among_renamed : (hs : List (Head ℕ)) (h : Head ℕ) → among (map (rename_head m) hs) (rename_head m h) ≡ true → among hs h ≡ true
  among_renamed [] h e = e
  among_renamed (g ∷ hs) h e = elim (or_cases (same_head (rename_head m g) (rename_head m h)) (among (map (rename_head m) hs) (rename_head m h)) e) [
    | inl s ↦ or_left (same_head g h) (among hs h) ((same_head-Decides g h).1 (sym (head_back g) ∙ ap (rename_head back) ((same_head-Decides (rename_head m g) (rename_head m h)).0 s) ∙ head_back h))
    | inr i ↦ or_right (same_head g h) (among hs h) (among_renamed hs h i)
  ]

  -- a constant among them was one before
  before_renamed : (g : Head ℕ) (c : Nominal) → rename_head m g ≡ nominal c → (a : Nominal) × (g ≡ nominal a) × (m a ≡ c)
  before_renamed (constant d) c e = absurd (cc)
  before_renamed (logical l) c e = absurd (cc)
  before_renamed (nominal a) c e = let same : m a ≡ c = cc in (a, refl, same)
  before_renamed (variable y) c e = absurd (cc)
  before_renamed (index i) c e = absurd (cc)

  pub renamed_from : (gs : List (Head ℕ)) (c : Nominal) → among (map (rename_head m) gs) (nominal c) ≡ true → (a : Nominal) × (among gs (nominal a) ≡ true) × (m a ≡ c)
  renamed_from [] c e = absurd (false≢true e)
  renamed_from (g ∷ gs) c e = elim (or_cases (same_head (rename_head m g) (nominal c)) (among (map (rename_head m) gs) (nominal c)) e) [
    | inl s ↦ (
        let r = before_renamed g c ((same_head-Decides (rename_head m g) (nominal c)).0 s) in
        (r.0, or_left (same_head g (nominal r.0)) (among gs (nominal r.0)) ((same_head-Decides g (nominal r.0)).1 r.1), r.2))
    | inr i ↦ (let r = renamed_from gs c i in (r.0, or_right (same_head g (nominal r.0)) (among gs (nominal r.0)) r.1, r.2))
  ]

  pub rename_pattern : {A : Ty} {ts : BareTerms} {gs : List (Head ℕ)} → IsPattern A ts gs → IsPattern A (rename_all m ts) (map (rename_head m) gs)
  rename_pattern pattern_end = pattern_end
  rename_pattern (pattern_more {A = A} {t = t} {ts = ts} {h = h} {hs = hs} n d p) = pattern_more
      (record { name = name_renamed h ∙ n.name; expansion = forget_plain (rename m t) ∙ ap (rename m) (sym (forget_plain t) ∙ n.expansion) ∙ rename-expansion_of m tt A h no_terms })
      (false_from_ne_true (among (map (rename_head m) hs) (rename_head m h)) (λ e. false≢true (sym d ∙ among_renamed hs h e)))
      (rename_pattern p)
