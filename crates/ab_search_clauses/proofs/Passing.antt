-- WHAT KEEPS ITS ARGUMENTS: a term that under its binders begins with another variable and is given each of its bound names. Given arguments, it
-- keeps what can be read off them.
use Rattle.std.proofs.Common.{◌≡◌, ◌⊎◌, inl, inr, ℕ, zero, suc, List, [], ◌∷◌, map, Bool, true, false, cond, Option, Some, None, is_some, refl, sym, ◌∙◌, ap, subst, arith}
use Rattle.std.specs.Prelude.{◌≢◌, Contains, AllPairs}
use Rattle.std.proofs.lemmas.Bool.{false≢true, or_cases, or_left, or_right, false_from_ne_true}
use Rattle.std.proofs.lemmas.List.Elements.{All-contains}
use Rattle.ab_term.specs.Types.{Ty, kind, arrow}
use Rattle.ab_term.specs.Terms.{Nominal, Variable, Head, constant, logical, nominal, variable, index, lam, spine, Terms, no_terms, term, with_last}
use Rattle.ab_term.specs.Typing.{Signature, HasType, TakeType, typed_lam, take_none, take_term}
use Rattle.ab_term.specs.Substitution.{shift_head, shift, shift_all, lower_head, substitute_by, substitute_all_by, reduce, substitute}
use Rattle.ab_term.specs.Expansion.{expansion_of, expansion}
use Rattle.ab_term.specs.Sameness.{same_head}
use Rattle.ab_term.specs.Abstraction.{among, is_name, over, close, close_all, abstracted}
use Rattle.ab_term.proofs.Expansions.{shift-expansion_of, substitute_by-expansion_of, substitute-expansion}
use Rattle.ab_term.proofs.ClosingThrough.{close-shift, close-expansion_of}
use Rattle.ab_term.proofs.Forgetting.{forget_plain}
use Rattle.ab_term.proofs.Lists.{Contains-here, Contains-there, AllPairs-parts}
use Rattle.ab_term.proofs.Preservation.{here, substitute_typed}
use Rattle.ab_term.proofs.Same.{same_head-Decides}
use Rattle.ab_term.proofs.Shifts.{ShiftsThrough, shift-reduce, shift-substitute_low, substitute_by-shift, lower_head-shift_head}
use Rattle.ab_unifiers.specs.Patterns.{pattern}
use Rattle.ab_unifiers.specs.Replacements.{holds}
use Rattle.ab_unifiers.proofs.Readings.{pattern_back}
use Rattle.ab_unifiers.proofs.Views.{IsPattern, pattern_end, pattern_more, is_pattern}
use Rattle.ab_pattern_matching.specs.Reading.{can_read, can_read_one, read_at}
use Rattle.ab_pattern_matching.specs.Raising.{Bare}

abbrev BareTerms : Type 0
BareTerms = Terms ℕ (Unit {0})

-- SHIFTED NAMES are a pattern
name_shifted : (k : ℕ) (h : Head ℕ) → is_name (shift_head k h) ≡ is_name h
name_shifted k (constant c) = refl
name_shifted k (logical l) = refl
name_shifted k (nominal a) = refl
name_shifted k (variable y) = refl
name_shifted k (index i) = refl

one_shifted : (k : ℕ) (g h : Head ℕ) → shift_head k g ≡ shift_head k h → g ≡ h
one_shifted k g h e = let both : Some g ≡ Some h = sym (lower_head-shift_head k g) ∙ ap (lower_head k) e ∙ lower_head-shift_head k h in cc

among_shifted : (k : ℕ) (hs : List (Head ℕ)) (h : Head ℕ) → among (map (shift_head k) hs) (shift_head k h) ≡ true → among hs h ≡ true
among_shifted k [] h e = e
among_shifted k (g ∷ hs) h e = elim (or_cases (same_head (shift_head k g) (shift_head k h)) (among (map (shift_head k) hs) (shift_head k h)) e) [
  | inl s ↦ or_left (same_head g h) (among hs h) ((same_head-Decides g h).1 (one_shifted k g h ((same_head-Decides (shift_head k g) (shift_head k h)).0 s)))
  | inr i ↦ or_right (same_head g h) (among hs h) (among_shifted k hs h i)
]

pattern_shifted : (k : ℕ) {A : Ty} {ts : BareTerms} {hs : List (Head ℕ)} → IsPattern A ts hs → IsPattern A (shift_all k ts) (map (shift_head k) hs)
pattern_shifted k pattern_end = pattern_end
pattern_shifted k (pattern_more {A = A} {t = t} {h = h} {hs = hs} n d p) = pattern_more
    (record { name = name_shifted k h ∙ n.name; expansion = forget_plain (shift k t) ∙ ap (shift k) (sym (forget_plain t) ∙ n.expansion) ∙ shift-expansion_of tt A k h no_terms })
    (false_from_ne_true (among (map (shift_head k) hs) (shift_head k h)) (λ e. false≢true (sym d ∙ among_shifted k hs h e)))
    (pattern_shifted k p)

pattern_still : (k : ℕ) (A : Ty) (ts : BareTerms) → is_some (pattern A ts) ≡ true → is_some (pattern A (shift_all k ts)) ≡ true
pattern_still k A ts e = go (pattern A ts) refl e
  where
    go : (o : Option (List (Head ℕ))) → pattern A ts ≡ o → is_some o ≡ true → is_some (pattern A (shift_all k ts)) ≡ true
    go None q e = absurd (false≢true e)
    go (Some hs) q e = ap is_some (pattern_back (pattern_shifted k (is_pattern A ts hs q)))

-- ONE OF THE TERMS
abbrev pub IsOne : Bare → BareTerms → Type 0
IsOne u no_terms = ⊥
IsOne u (term t ts) = (u ≡ t) ⊎ IsOne u ts

one_mapped : (f : Bare → Bare) (g : BareTerms → BareTerms) → (g no_terms ≡ no_terms) → ((t : Bare) (ts : BareTerms) → g (term t ts) ≡ term (f t) (g ts)) → (u : Bare) (ts : BareTerms) → IsOne u ts → IsOne (f u) (g ts)
one_mapped f g none more u no_terms m = absurd m
one_mapped f g none more u (term t ts) (inl e) = subst (IsOne (f u)) (sym (more t ts)) (inl (ap f e))
one_mapped f g none more u (term t ts) (inr m) = subst (IsOne (f u)) (sym (more t ts)) (inr (one_mapped f g none more u ts m))

one_shift : (k : ℕ) (u : Bare) (ts : BareTerms) → IsOne u ts → IsOne (shift k u) (shift_all k ts)
one_shift k = one_mapped (shift k) (shift_all k) refl (λ t ts. refl)

one_front : (u t : Bare) (ts : BareTerms) → IsOne u ts → IsOne u (with_last ts t)
one_front u t no_terms m = absurd m
one_front u t (term s ts) (inl e) = inl e
one_front u t (term s ts) (inr m) = inr (one_front u t ts m)

one_last : (t : Bare) (ts : BareTerms) → IsOne t (with_last ts t)
one_last t no_terms = inl refl
one_last t (term s ts) = inr (one_last t ts)

module _ (us : List (Variable ℕ)) where
  -- WHAT CAN BE READ OFF A TERM is so under a binder more
  head_shifted : (k : ℕ) (h : Head ℕ) (ts : BareTerms) → (can_read_one us ts ≡ true → can_read_one us (shift_all k ts) ≡ true) → read_at us h ts (can_read_one us ts) ≡ true → read_at us (shift_head k h) (shift_all k ts) (can_read_one us (shift_all k ts)) ≡ true
  head_shifted k (constant c) ts f e = f e
  head_shifted k (logical l) ts f e = f e
  head_shifted k (nominal a) ts f e = f e
  head_shifted k (index i) ts f e = f e
  head_shifted k (variable y) ts f e = go (holds us y) e
    where
      go : (b : Bool) → cond b (is_some (pattern y.type ts)) (can_read_one us ts) ≡ true → cond b (is_some (pattern y.type (shift_all k ts))) (can_read_one us (shift_all k ts)) ≡ true
      go true e = pattern_still k y.type ts e
      go false e = f e

  mutual
    read_shifted : (k : ℕ) (t : Bare) → can_read us t ≡ true → can_read us (shift k t) ≡ true
    read_shifted k (lam A x t) e = read_shifted (suc k) t e
    read_shifted k (spine h ts) e = head_shifted k h ts (read_one_shifted k ts) e

    read_one_shifted : (k : ℕ) (ts : BareTerms) → can_read_one us ts ≡ true → can_read_one us (shift_all k ts) ≡ true
    read_one_shifted k no_terms e = e
    read_one_shifted k (term t ts) e = elim (or_cases (can_read us t) (can_read_one us ts) e) [
      | inl a ↦ or_left (can_read us (shift k t)) (can_read_one us (shift_all k ts)) (read_shifted k t a)
      | inr a ↦ or_right (can_read us (shift k t)) (can_read_one us (shift_all k ts)) (read_one_shifted k ts a)
    ]

  read_given : (u : Bare) (ts : BareTerms) → can_read us u ≡ true → IsOne u ts → can_read_one us ts ≡ true
  read_given u no_terms e m = absurd m
  read_given u (term t ts) e (inl s) = or_left (can_read us t) (can_read_one us ts) (ap (can_read us) (sym s) ∙ e)
  read_given u (term t ts) e (inr m) = or_right (can_read us t) (can_read_one us ts) (read_given u ts e m)

  -- IT IS GIVEN THE TERM, under its binders, and begins with a variable that is none of these
  abbrev pub IsGiven : Bare → Bare → Type 0
  IsGiven u (lam A x t) = IsGiven (shift zero u) t
  IsGiven u (spine (variable y) ts) = (holds us y ≡ false) × IsOne u ts
  IsGiven u (spine h ts) = ⊥

  given_read : (u t : Bare) → can_read us u ≡ true → IsGiven u t → can_read us t ≡ true
  given_read u (lam A x t) e g = given_read (shift zero u) t (read_shifted zero u e) g
  given_read u (spine (variable y) ts) e g = ap (λ b. cond b (is_some (pattern y.type ts)) (can_read_one us ts)) g.0 ∙ read_given u ts e g.1
  given_read u (spine (constant c) ts) e g = absurd g
  given_read u (spine (logical l) ts) e g = absurd g
  given_read u (spine (nominal a) ts) e g = absurd g
  given_read u (spine (index i) ts) e g = absurd g

  given_put : (r : Bare → BareTerms → Bare) → ShiftsThrough r → (w : Bare) (k : ℕ) (u t : Bare) → IsGiven u t → IsGiven (substitute_by r w k u) (substitute_by r w k t)
  given_put r through w k u (lam A x t) g = subst (λ v. IsGiven v (substitute_by r (shift zero w) (suc k) t)) (sym (shift-substitute_low u r w zero k through (omega arith))) (given_put r through (shift zero w) (suc k) (shift zero u) t g)
  given_put r through w k u (spine (variable y) ts) g = (g.0, one_mapped (substitute_by r w k) (substitute_all_by r w k) refl (λ t ts. refl) u ts g.1)
  given_put r through w k u (spine (constant c) ts) g = absurd g
  given_put r through w k u (spine (logical l) ts) g = absurd g
  given_put r through w k u (spine (nominal a) ts) g = absurd g
  given_put r through w k u (spine (index i) ts) g = absurd g

  given_closed : (k : ℕ) (a : Nominal) (u t : Bare) → IsGiven u t → IsGiven (close k (nominal a) u) (close k (nominal a) t)
  given_closed k a u (lam A x t) g = subst (λ v. IsGiven v (close (suc k) (nominal a) t)) (close-shift zero k (nominal a) u (omega arith)) (given_closed (suc k) a (shift zero u) t g)
  given_closed k a u (spine (variable y) ts) g = (g.0, one_mapped (close k (nominal a)) (close_all k (nominal a)) refl (λ t ts. refl) u ts g.1)
  given_closed k a u (spine (constant c) ts) g = absurd g
  given_closed k a u (spine (logical l) ts) g = absurd g
  given_closed k a u (spine (nominal b) ts) g = absurd g
  given_closed k a u (spine (index i) ts) g = absurd g

  pub given_expanded : (y : Variable ℕ) → holds us y ≡ false → (u : Bare) (A : Ty) (ts : BareTerms) → IsOne u ts → IsGiven u (expansion_of tt A (variable y) ts)
  given_expanded y n u (kind k) ts m = (n, m)
  given_expanded y n u (arrow A B) ts m = given_expanded y n (shift zero u) B (with_last (shift_all zero ts) (expansion tt A (index zero))) (one_front (shift zero u) (expansion tt A (index zero)) (shift_all zero ts) (one_shift zero u ts m))

  -- IT IS GIVEN ALL THAT IT BINDS, down to a kind
  abbrev pub UsesAll : Ty → Bare → Type 0
  UsesAll (kind c) t = Unit {0}
  UsesAll (arrow A B) (lam C x t) = IsGiven (expansion tt A (index zero)) t × UsesAll B t
  UsesAll (arrow A B) (spine h ts) = ⊥

  uses_put : (r : Bare → BareTerms → Bare) → ShiftsThrough r → (A : Ty) (w : Bare) (k : ℕ) (t : Bare) → UsesAll A t → UsesAll A (substitute_by r w k t)
  uses_put r through (kind c) w k t g = tt
  uses_put r through (arrow A B) w k (lam C x t) g = (
    subst (λ u. IsGiven u (substitute_by r (shift zero w) (suc k) t)) (substitute_by-expansion_of tt A r through (shift zero w) (suc k) (index zero) (index zero) no_terms refl) (given_put r through (shift zero w) (suc k) (expansion tt A (index zero)) t g.0),
    uses_put r through B (shift zero w) (suc k) t g.1,
  )
  uses_put r through (arrow A B) w k (spine h ts) g = absurd g

  uses_closed : (A : Ty) (k : ℕ) (a : Nominal) (t : Bare) → UsesAll A t → UsesAll A (close k (nominal a) t)
  uses_closed (kind c) k a t g = tt
  uses_closed (arrow A B) k a (lam C x t) g = (
    subst (λ u. IsGiven u (close (suc k) (nominal a) t)) (close-expansion_of tt A (suc k) (nominal a) (index zero) no_terms) (given_closed (suc k) a (expansion tt A (index zero)) t g.0),
    uses_closed B (suc k) a t g.1,
  )
  uses_closed (arrow A B) k a (spine h ts) g = absurd g

  pub uses_expanded : (y : Variable ℕ) → holds us y ≡ false → (A : Ty) (ts : BareTerms) → UsesAll A (expansion_of tt A (variable y) ts)
  uses_expanded y n (kind c) ts = tt
  uses_expanded y n (arrow A B) ts = (
    given_expanded y n (expansion tt A (index zero)) B (with_last (shift_all zero ts) (expansion tt A (index zero))) (one_last (expansion tt A (index zero)) (shift_all zero ts)),
    uses_expanded y n B (with_last (shift_all zero ts) (expansion tt A (index zero))),
  )

  -- over constants
  abbrev pub name_of : Nominal → Bare
  name_of a = expansion tt a.type (nominal a)

  closed_name : (k : ℕ) (a : Nominal) → close k (nominal a) (name_of a) ≡ expansion tt a.type (index k)
  closed_name k a = close-expansion_of tt a.type k (nominal a) (nominal a) no_terms ∙ ap (λ b. expansion tt a.type (cond b (index k) (nominal a))) ((same_head-Decides (nominal a) (nominal a)).1 refl)

  kept_name : (k : ℕ) (a b : Nominal) → a ≢ b → close k (nominal a) (name_of b) ≡ name_of b
  kept_name k a b n = close-expansion_of tt b.type k (nominal a) (nominal b) no_terms
      ∙ ap (λ q. expansion tt b.type (cond q (index k) (nominal b))) (false_from_ne_true (same_head (nominal b) (nominal a)) (λ e. n (let same : nominal b ≡ nominal a = (same_head-Decides (nominal b) (nominal a)).0 e in let one : b ≡ a = cc in sym one)))

  given_over : (ns : List Nominal) (A : Ty) (t : Bare) (b : Nominal) → (Contains ns b → ⊥) → IsGiven (name_of b) t → IsGiven (name_of b) (abstracted tt (over ns A) (map nominal ns) t)
  given_over [] A t b n g = g
  given_over (a ∷ ns) A t b n g =
      let inner = abstracted tt (over ns A) (map nominal ns) t in
      let same : close zero (nominal a) (name_of b) ≡ shift zero (name_of b) = kept_name zero a b (λ e. n (subst (Contains (a ∷ ns)) e (Contains-here a ns))) ∙ sym (shift-expansion_of tt b.type zero (nominal b) no_terms) in
      subst (λ u. IsGiven u (close zero (nominal a) inner)) same (given_closed zero a (name_of b) inner (given_over ns A t b (λ m. n (Contains-there a ns b m)) g))

  pub uses_over : (ns : List Nominal) → AllPairs (λ a b. a ≢ b) ns → (A : Ty) (t : Bare) → UsesAll A t → ((a : Nominal) → Contains ns a → IsGiven (name_of a) t) → UsesAll (over ns A) (abstracted tt (over ns A) (map nominal ns) t)
  uses_over [] d A t g f = g
  uses_over (a ∷ ns) d A t g f =
      let parts = AllPairs-parts (λ b c. b ≢ c) a ns d in
      let inner = abstracted tt (over ns A) (map nominal ns) t in (
        subst (λ u. IsGiven u (close zero (nominal a) inner)) (closed_name zero a) (given_closed zero a (name_of a) inner (given_over ns A t a (λ m. All-contains (λ b. a ≢ b) ns a parts.0 m refl) (f a (Contains-here a ns)))),
        uses_closed (over ns A) zero a inner (uses_over ns parts.1 A t g (λ b m. f b (Contains-there a ns b m))),
      )

  -- GIVEN ARGUMENTS
  module _ (sg : Signature) where
    given_reduced : {G : List Ty} {A : Ty} {c : List ℕ} {ts : BareTerms} (u t : Bare) → TakeType sg G ts A (kind c) → HasType sg G t A → IsGiven u t → IsGiven u (reduce A t ts)
    given_reduced u t take_none d g = g
    given_reduced u _ (take_term {B = B} {t = v} {ts = vs} e es) (typed_lam {A = A} {t = t} d) g =
        given_reduced u (substitute A v zero t) es (substitute_typed sg e here d)
        (subst (λ w. IsGiven w (substitute A v zero t)) (substitute_by-shift u (reduce A) v zero) (given_put (reduce A) (shift-reduce A) v zero (shift zero u) t g))

    pub uses_read : {G : List Ty} {A : Ty} {c : List ℕ} {ts : BareTerms} (t : Bare) → TakeType sg G ts A (kind c) → HasType sg G t A → UsesAll A t → can_read_one us ts ≡ true → can_read us (reduce A t ts) ≡ true
    uses_read t take_none d g r = absurd (false≢true r)
    uses_read _ (take_term {B = B} {t = v} {ts = vs} e es) (typed_lam {A = A} {t = t} d) g r = elim (or_cases (can_read us v) (can_read_one us vs) r) [
      | inl a ↦ given_read v (reduce B (substitute A v zero t) vs) a (given_reduced v (substitute A v zero t) es (substitute_typed sg e here d)
          (subst (λ w. IsGiven w (substitute A v zero t)) (substitute-expansion sg ℕ e) (given_put (reduce A) (shift-reduce A) v zero (expansion tt A (index zero)) t g.0)))
      | inr a ↦ uses_read (substitute A v zero t) es (substitute_typed sg e here d) (uses_put (reduce A) (shift-reduce A) B v zero t g.1) a
    ]
