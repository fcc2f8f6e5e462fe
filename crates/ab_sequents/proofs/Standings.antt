-- What stands among constants, one list of them behind another.
use Rattle.std.proofs.Common.{◌≡◌, ◌≢◌, ◌⊎◌, inl, inr, ℕ, ◌<◌, ◌≤◌, ◌+◌, List, [], ◌∷◌, ◌++◌, refl, sym, ◌∙◌, ap, subst, append-nil, append_assoc, arith}
use Rattle.std.proofs.lemmas.Bool.{cases_lt, eqb-true, eq-eqb}
use Rattle.std.proofs.lemmas.List.Folds.{list_any_at}
use Rattle.std.proofs.lemmas.Map.Views.{Contains-from_any}
use Rattle.std.specs.List.{list_any}
use Rattle.std.specs.Prelude.{Contains, AllPairs, Option, Some, None, Bool, true, false, get_or, ◌==◌, if◌then◌else◌, Result, Ok, Err, IfOk, OnOk}
use Rattle.std.proofs.lemmas.List.Elements.{Contains-append_left, Contains-append_right, Contains-append_cases}
use Rattle.ab_term.specs.Types.{Ty}
use Rattle.ab_term.specs.Terms.{Nominal}
use Rattle.ab_norm.specs.ab_types.specs.Entries.{Table}
use Rattle.ab_norm.specs.ab_types.specs.Ids.{HoldsType, type_of}
use Rattle.ab_norm.specs.ab_types.specs.declared.ids.TypeId.{TypeId}
use Rattle.ab_formulas.specs.Cycles.{constant_at, StandsAt, type_among}
use Rattle.ab_term.proofs.Lists.{Contains-none, Contains-here, Contains-there, Contains-cases}
use Rattle.ab_term.specs.Names.{support}
use Rattle.ab_formulas.specs.Sequents.{Hypothesis, formulas, names_of}
use Rattle.ab_sequents.specs.NameTypes.{IsStanding, IsCommon}
use Rattle.ab_sequents.specs.declared.name_types.Standing.{Standing}
use Rattle.ab_sequents.specs.declared.name_types.Standing.TheVariants.{Nowhere, At, Mixed}

module _ (types : Table) (ns : List ℕ) (cs ds : List Nominal) where
  left : (A : Ty) → StandsAt ns cs A → StandsAt ns (cs ++ ds) A
  left A s = (s.0, s.1, Contains-append_left cs ds _ s.2)

  right : (A : Ty) → StandsAt ns ds A → StandsAt ns (cs ++ ds) A
  right A s = (s.0, s.1, Contains-append_right cs ds _ s.2)

  either : (A : Ty) → StandsAt ns (cs ++ ds) A → StandsAt ns cs A ⊎ StandsAt ns ds A
  either A s = elim (Contains-append_cases cs ds _ s.2) [ inl c ↦ inl (s.0, s.1, c) | inr c ↦ inr (s.0, s.1, c) ]

  pub first_nowhere : (k : Standing) → IsStanding types ns cs Nowhere → IsStanding types ns ds k → IsStanding types ns (cs ++ ds) k
  first_nowhere Nowhere a b = λ A s. elim (either A s) [ inl c ↦ a A c | inr c ↦ b A c ]
  first_nowhere (At ty) a b = (b.0, right (type_of types ty) b.1, λ A s. elim (either A s) [ inl c ↦ absurd (a A c) | inr c ↦ b.2 A c ])
  first_nowhere Mixed a b = (b.0, b.1, right b.0 b.2, right b.1 b.3, b.4)

  pub second_nowhere : (k : Standing) → IsStanding types ns cs k → IsStanding types ns ds Nowhere → IsStanding types ns (cs ++ ds) k
  second_nowhere Nowhere a b = λ A s. elim (either A s) [ inl c ↦ a A c | inr c ↦ b A c ]
  second_nowhere (At ty) a b = (a.0, left (type_of types ty) a.1, λ A s. elim (either A s) [ inl c ↦ a.2 A c | inr c ↦ absurd (b A c) ])
  second_nowhere Mixed a b = (a.0, a.1, left a.0 a.2, left a.1 a.3, a.4)

  pub first_mixed : IsStanding types ns cs Mixed → IsStanding types ns (cs ++ ds) Mixed
  first_mixed a = (a.0, a.1, left a.0 a.2, left a.1 a.3, a.4)

  pub second_mixed : IsStanding types ns ds Mixed → IsStanding types ns (cs ++ ds) Mixed
  second_mixed b = (b.0, b.1, right b.0 b.2, right b.1 b.3, b.4)

  pub both_at : (a b : TypeId) → a ≡ b → IsStanding types ns cs (At a) → IsStanding types ns ds (At b) → IsStanding types ns (cs ++ ds) (At a)
  both_at a b e p q = (p.0, left (type_of types a) p.1, λ A s. elim (either A s) [ inl c ↦ p.2 A c | inr c ↦ q.2 A c ∙ ap (type_of types) (sym e) ])

  pub at_two : (a b : TypeId) → (type_of types a ≢ type_of types b) → IsStanding types ns cs (At a) → IsStanding types ns ds (At b) → IsStanding types ns (cs ++ ds) Mixed
  at_two a b n p q = (type_of types a, type_of types b, left (type_of types a) p.1, right (type_of types b) q.1, n)

-- which constants there are is all that matters
pub stands_alike : (types : Table) (ns : List ℕ) (cs ds : List Nominal) (k : Standing) → ((a : Nominal) → Contains cs a → Contains ds a) → ((a : Nominal) → Contains ds a → Contains cs a)
    → IsStanding types ns cs k → IsStanding types ns ds k
stands_alike types ns cs ds Nowhere f g s = λ A t. s A (t.0, t.1, g _ t.2)
stands_alike types ns cs ds (At ty) f g s = (s.0, (s.1.0, s.1.1, f _ s.1.2), λ A t. s.2 A (t.0, t.1, g _ t.2))
stands_alike types ns cs ds Mixed f g s = (s.0, s.1, (s.2.0, s.2.1, f _ s.2.2), (s.3.0, s.3.1, f _ s.3.2), s.4)

-- the names of one formula more
pub names_last : (hs : List Hypothesis) (h : Hypothesis) → names_of (formulas (hs ++ h ∷ [])) ≡ names_of (formulas hs) ++ support h.formula
names_last [] h = append-nil (support h.formula)
names_last (k ∷ hs) h = ap (λ l. support k.formula ++ l) (names_last hs h) ∙ sym (append_assoc (support k.formula) (names_of (formulas hs)) (support h.formula))

pub one_more : (P : ℕ → Type 0) (n : ℕ) → ((i : ℕ) → i < n → P i) → P n → (i : ℕ) → i < n + 1 → P i
one_more P n before last i l = go (cases_lt i n)
  where
    go : (i < n) ⊎ (n ≤ i) → P i
    go (inl h) = before i h
    go (inr h) = let e : i ≡ n = omega (arith, l, h) in subst P (sym e) last

pub on_ok : {A E P Q : Type 0} (r : Result A E) → (P → Q) → OnOk r P → OnOk r Q
on_ok (Ok x) f p = f p
on_ok (Err e) f p = p

pub in_ok : {A E : Type 0} {P Q : A → Type 0} (r : Result A E) → ((x : A) → P x → Q x) → IfOk r P → IfOk r Q
in_ok (Ok x) f p = f x p
in_ok (Err e) f p = p

-- the first constant of the numbers
abbrev has : ℕ → List ℕ → Bool
has k ns = list_any (λ n. k == n) ns

has_one : (k : ℕ) (ns : List ℕ) → has k ns ≡ true → Contains ns k
has_one k ns e = Contains-from_any eqb-true k ns e

is_one : (k : ℕ) (ns : List ℕ) → Contains ns k → has k ns ≡ true
is_one k ns (i, l, e) = list_any_at (λ n. k == n) ns i k l (eq-eqb k (get_or ns i k) (sym e))

later : (ns : List ℕ) (c : Nominal) (cs : List Nominal) (A : Ty) → StandsAt ns cs A → StandsAt ns (c ∷ cs) A
later ns c cs A (n, m, there) = (n, m, Contains-there c cs (constant_at A n) there)

here : (ns : List ℕ) (c : Nominal) (cs : List Nominal) → has c.number ns ≡ true → StandsAt ns (c ∷ cs) c.type
here ns c cs e = (c.number, has_one c.number ns e, Contains-here c cs)

pub among_none : (ns : List ℕ) (cs : List Nominal) → ((A : Ty) → StandsAt ns cs A → ⊥) → type_among ns cs ≡ None
among_none ns [] none = refl
among_none ns (c ∷ cs) none = go (has c.number ns) refl (among_none ns cs (λ A s. none A (later ns c cs A s)))
  where
    go : (b : Bool) → has c.number ns ≡ b → type_among ns cs ≡ None → (if b then Some c.type else type_among ns cs) ≡ None
    go true e rest = absurd (none c.type (here ns c cs e))
    go false e rest = rest

behind : (ns : List ℕ) (c : Nominal) (cs : List Nominal) (A : Ty) → has c.number ns ≡ false → (s : StandsAt ns (c ∷ cs) A) → (c ≡ constant_at A s.0) ⊎ Contains cs (constant_at A s.0) → StandsAt ns cs A
behind ns c cs A e s (inl same) = let clash : true ≡ false = sym (ap (λ (a : Nominal). has a.number ns) same ∙ is_one s.0 ns s.1) ∙ e in cc
behind ns c cs A e s (inr there) = (s.0, s.1, there)

pub among_some : (ns : List ℕ) (cs : List Nominal) (A : Ty) → StandsAt ns cs A → ((B : Ty) → StandsAt ns cs B → B ≡ A) → type_among ns cs ≡ Some A
among_some ns [] A s one = absurd (Contains-none (constant_at A s.0) s.2)
among_some ns (c ∷ cs) A s one = go (has c.number ns) refl (λ t. among_some ns cs A t (λ B u. one B (later ns c cs B u)))
  where
    go : (b : Bool) → has c.number ns ≡ b → (StandsAt ns cs A → type_among ns cs ≡ Some A) → (if b then Some c.type else type_among ns cs) ≡ Some A
    go true e rest = ap Some (one c.type (here ns c cs e))
    go false e rest = rest (behind ns c cs A e s (Contains-cases c cs (constant_at A s.0) s.2))

-- what stands at one type at most may change places, where no number is given twice
pub common : (types : Table) (ns : List ℕ) (cs : List Nominal) (k : Standing) → AllPairs (λ m n. m ≢ n) ns → IsStanding types ns cs k → IsCommon types ns cs k
common types ns cs Nowhere d s = (record { different = d; one_type = λ A B a b. absurd (s A a) }, among_none ns cs s)
common types ns cs (At ty) d s = (record { different = d; one_type = λ A B a b. s.2 A a ∙ sym (s.2 B b) }, s.0, among_some ns cs (type_of types ty) s.1 s.2)
common types ns cs Mixed d s = λ may. s.4 (may.one_type s.0 s.1 s.2 s.3)
